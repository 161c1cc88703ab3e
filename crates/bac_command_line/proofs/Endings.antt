-- How a task ends.
use Rattle.std.specs.Prelude.{ℕ, List, Option}
use Rattle.bac_text.specs.declared.status.Status.{Status}
use Rattle.bac_command_line.specs.Endings.{EndsAs}
use Rattle.bac_command_line.specs.Tasks.{IsAtEnd}

pub ends_as : (Does : Status → (old new : Option (List ℕ)) → Type 0) (begun printed : Option (List ℕ)) (own end : Status)
    → Does own begun printed → IsAtEnd own end → EndsAs Does begun end
ends_as Does begun printed own end does at_end = record { own = own; printed = printed; does = does; at_end = at_end }
