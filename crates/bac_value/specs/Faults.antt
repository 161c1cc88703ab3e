-- The numbers of faults, as they are printed (own numbers of this profile).
use Rattle.std.specs.Prelude.{ℕ}
use Rattle.bac_value.specs.declared.fault.FaultKind.{FaultKind}
use Rattle.bac_value.specs.declared.fault.FaultKind.TheVariants as kind

abbrev pub fault_number : FaultKind → ℕ
fault_number kind.Truncated = 1
fault_number kind.ReservedTag = 2
fault_number kind.LongForm = 3
fault_number kind.BadLength = 4
fault_number kind.NotShortest = 5
fault_number kind.Unbalanced = 6
fault_number kind.TooDeep = 7
fault_number kind.ReservedBits = 8
