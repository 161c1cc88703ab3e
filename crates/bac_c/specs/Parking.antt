-- What is parked.
use Rattle.std.specs.Prelude.{Option, None, Some}
use base.Fml.{Fml, ftrue}
use denote.RawPtr.{Ptr}
use Rattle.std.specs.Box.Ownership.{box_owns}
use Rattle.libc.specs.Heap.{chunk}
use Rattle.bac_c.specs.contracts.device.Device as device

abbrev pub parks : Ptr → Option (device.the_row).Denot → Fml
parks p None = ftrue
parks p (Some x) = box_owns chunk device.the_row p x
