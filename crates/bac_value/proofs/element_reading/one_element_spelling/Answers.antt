use Rattle.bac_value.specs.Element.{SpellsElement}
use Rattle.bac_value.specs.Reading.{element_at}
use Rattle.bac_value.proofs.Steps.{one_only}
use Rattle.bac_value.proofs.Elements.{element_exact}
use Rattle.bac_value.proofs.element_reading.one_element_spelling.Goals as goal

pub returns : goal.returns
returns c = one_only element_at SpellsElement element_exact
