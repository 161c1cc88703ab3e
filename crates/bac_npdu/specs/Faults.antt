-- The numbers of faults, as they are printed (own numbers of this profile).
use Rattle.std.specs.Prelude.{ℕ}
use Rattle.bac_npdu.specs.declared.fault.FrameFault.{FrameFault}
use Rattle.bac_npdu.specs.declared.fault.FrameFault.TheVariants as fault

abbrev pub fault_number : FrameFault → ℕ
fault_number fault.Truncated = 1
fault_number fault.Version = 2
fault_number fault.ReservedBits = 3
fault_number fault.BadNet = 4
fault_number fault.BadLength = 5
fault_number fault.NotUnicast = 6
