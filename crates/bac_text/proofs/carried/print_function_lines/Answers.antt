use Rattle.std.proofs.Common.{◌≡◌, ◌∙◌, sym, Some}
use Rattle.bac_text.specs.Carried.{carried_at}
use Rattle.bac_text.proofs.carried.print_function_lines.Goals as goal

pub returns-in-Some : goal.returns-in-Some
returns-in-Some g c =
    let at : carried_at c.args.function ≡ Some c.in-Some.place = sym c.carried_at.ensures ∙ c.in-Some.is in
    rw at (rw c.rest_from-octets.ensures at c.print_carried.ensures)
