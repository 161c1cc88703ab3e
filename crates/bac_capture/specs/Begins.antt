-- The headers of capture files.
use Rattle.std.specs.Prelude.{◌≡◌, ℕ, ◌%◌, List, [], ◌∷◌, length, take, drop, Result, Ok, Err, nat_lt, ◌==◌, if◌then◌else◌, ⊤, Option, Some, None}
use Rattle.bac_capture.specs.declared.fault.FileFault.{FileFault}
use Rattle.bac_capture.specs.declared.fault.FileFault.TheVariants.{Cut}
use Rattle.bac_capture.specs.declared.file.Interface.{Interface}
use Rattle.bac_capture.specs.declared.file.Layout.{Layout}
use Rattle.bac_capture.specs.declared.form.FileFormat.{FileFormat}
use Rattle.bac_capture.specs.declared.form.FileFormat.TheVariants.{Records, Blocks}
use Rattle.bac_capture.specs.declared.moment.Resolution.{Resolution}
use Rattle.bac_capture.specs.declared.moment.Resolution.TheVariants.{Microseconds, Nanoseconds}
use Rattle.bac_capture.specs.declared.order.Order.{Order}
use Rattle.bac_capture.specs.Blocks.{LayoutView}
use Rattle.bac_capture.specs.BlockViews.{layout_view}
use Rattle.bac_capture.specs.Orders.{number_of}

-- the pcap header: the lower half of its last number is the link layer of all frames
abbrev pub header_link : Order → List ℕ → ℕ
header_link order header = number_of order 4 (drop 20 header) % 65536

-- its first number determines the unit of timestamps
abbrev pub header_resolution : Order → List ℕ → Resolution
header_resolution order header = if number_of order 4 header == 0xA1B23C4D then Nanoseconds else Microseconds

abbrev pub header_interface : Order → List ℕ → Interface
header_interface order header = record { link = header_link order header; most = 0; resolution = Some (header_resolution order header) }

abbrev pub header_layout : Order → List ℕ → LayoutView
header_layout order header = record { form = Records; order = order; interfaces = header_interface order header ∷ [] }

-- pcap has a header of 24 octets; pcapng begins with its first block
abbrev pub begun_at : FileFormat → Order → List ℕ → Result (LayoutView × List ℕ) FileFault
begun_at Records order octets = if nat_lt (length octets) 24 then Err Cut else Ok (header_layout order (take 24 octets), drop 24 octets)
begun_at Blocks order octets = Ok (record { form = Blocks; order = order; interfaces = [] }, octets)

abbrev pub IsBegun : FileFormat → Order → Option (List ℕ) → Option (List ℕ) → Result Layout FileFault → Type 0
IsBegun form order None new answer = ⊤
IsBegun form order (Some octets) new (Err fault) = begun_at form order octets ≡ Err fault
IsBegun form order (Some octets) new (Ok layout) = (rest : List ℕ) × (new ≡ Some rest) × (begun_at form order octets ≡ Ok (layout_view layout, rest))
