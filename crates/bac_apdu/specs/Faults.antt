-- The numbers of faults, as they are printed (own numbers of this profile).
use Rattle.std.specs.Prelude.{ℕ}
use Rattle.bac_apdu.specs.declared.fault.ApduFault.{ApduFault}
use Rattle.bac_apdu.specs.declared.fault.ApduFault.TheVariants as fault

abbrev pub fault_number : ApduFault → ℕ
fault_number fault.Truncated = 1
fault_number fault.ReservedBits = 2
fault_number fault.ReservedCode = 3
fault_number fault.BadWindow = 4
fault_number fault.BadType = 5
fault_number fault.Trailing = 6
fault_number fault.MorWithoutSeg = 7
fault_number fault.BadError = 8
