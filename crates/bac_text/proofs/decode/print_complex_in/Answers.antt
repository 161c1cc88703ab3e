use Rattle.bac_service.specs.Views.{complex_view}
use Rattle.bac_text.proofs.Printed.{complex_line, complex_refused}
use Rattle.bac_text.proofs.decode.print_complex_in.Goals as goal

pub returns-in_default : goal.returns-in_default
returns-in_default g c = complex_refused _ _ _ c.in_default.ensures.refused

pub returns-in-Some : goal.returns-in-Some
returns-in-Some g c =
    complex_line _ _ _ (complex_view c.in-Some.complex) _ _ (rw c.in-Some.is at c.in-Ok.ensures.found) c.print_complex.ensures
