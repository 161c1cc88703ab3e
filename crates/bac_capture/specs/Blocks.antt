-- The contents of the records and blocks of a capture file.
use Rattle.std.specs.Prelude.{ℕ, ◌+◌, List, [], ◌∷◌, ◌++◌, length, take, drop, min, slice_get, Result, Ok, Err}
use Rattle.std.specs.Prelude.{nat_lt, nat_le, ◌==◌, if◌then◌else◌, Option, Some, None}
use Rattle.bac_value.specs.Steps.{◌>>=◌}
use Rattle.bac_capture.specs.declared.fault.FileFault.{FileFault}
use Rattle.bac_capture.specs.declared.fault.FileFault.TheVariants.{ByteOrder, BlockLength, NoInterface, TooManyInterfaces}
use Rattle.bac_capture.specs.declared.form.FileFormat.{FileFormat}
use Rattle.bac_capture.specs.declared.form.FileFormat.TheVariants.{Records, Blocks}
use Rattle.bac_capture.specs.declared.file.Interface.{Interface}
use Rattle.bac_capture.specs.declared.moment.TheConstants.{OPTION_LIMIT}
use Rattle.bac_capture.specs.declared.order.Order.{Order}
use Rattle.bac_capture.specs.Files.{is_section, section_order_of}
use Rattle.bac_capture.specs.Moments.{block_moment, record_moment, resolution_in, resolution_of}
use Rattle.bac_capture.specs.Orders.{number_of}

-- how to read the rest of a file
pub record LayoutView : Type 0 where
  pub form : FileFormat
  pub order : Order
  pub interfaces : List Interface

-- a frame: the number of its link layer, its timestamp in milliseconds, and the captured octets
pub record FrameView : Type 0 where
  pub link : ℕ
  pub moment : Option ℕ
  pub octets : List ℕ

-- the content of a record or a block
pub data BlockView : Type 0 where
  FrameBlock : FrameView → BlockView
  SectionBlock : Order → BlockView
  InterfaceBlock : Interface → BlockView
  OtherBlock : BlockView

-- interfaces are numbered from 0
abbrev pub interface_in : Option Interface → Result Interface FileFault
interface_in None = Err NoInterface
interface_in (Some interface) = Ok interface

abbrev pub interface_of : List Interface → ℕ → Result Interface FileFault
interface_of interfaces index = interface_in (slice_get interfaces index)

-- after the interface's number: two numbers for the timestamp, how many octets were captured and sent, and the octets; the block's length includes
-- these numbers, the block's head and the length at its end
abbrev pub captured_in : LayoutView → ℕ → List ℕ → Interface → Result FrameView FileFault
captured_in layout size body interface =
    if nat_lt (length body) 20 then Err BlockLength else
    (if nat_lt size (number_of layout.order 4 (drop 8 body) + 32) then Err BlockLength else
    Ok (record {
      link = interface.link;
      moment = block_moment interface.resolution layout.order body;
      octets = take (number_of layout.order 4 (drop 8 body)) (drop 16 body);
    }))

abbrev pub captured_of : LayoutView → (index size : ℕ) → List ℕ → Result FrameView FileFault
captured_of layout index size body = do
  interface ← interface_of layout.interfaces index
  captured_in layout size body interface

-- of the first interface: as many octets as were sent, but at most the number that the interface captures
abbrev pub simple_len : ℕ → ℕ → ℕ
simple_len sent most = if most == 0 then sent else min sent most

abbrev pub simple_in : ℕ → ℕ → List ℕ → Interface → Result FrameView FileFault
simple_in sent size body interface =
    if nat_lt size (simple_len sent interface.most + 16) then Err BlockLength else
    Ok (record { link = interface.link; moment = None; octets = take (simple_len sent interface.most) body })

abbrev pub simple_of : LayoutView → (sent size : ℕ) → List ℕ → Result FrameView FileFault
simple_of layout sent size body = do
  interface ← interface_of layout.interfaces 0
  simple_in sent size body interface

-- after the link layer's number and a reserved one: the greatest number of octets of a frame that are captured
abbrev pub described_of : LayoutView → (link : ℕ) → List ℕ → Result Interface FileFault
described_of layout link body =
    if nat_lt (length body) 8 then Err BlockLength else
    (if nat_le 1024 (length layout.interfaces) then Err TooManyInterfaces else
    Ok (record { link = link; most = number_of layout.order 4 body; resolution = resolution_of (resolution_in OPTION_LIMIT layout.order (drop 4 body)) }))

abbrev framed : Result FrameView FileFault → Result BlockView FileFault
framed (Err fault) = Err fault
framed (Ok frame) = Ok (FrameBlock frame)

abbrev interfaced : Result Interface FileFault → Result BlockView FileFault
interfaced (Err fault) = Err fault
interfaced (Ok interface) = Ok (InterfaceBlock interface)

-- the types of blocks: 1 an interface, 2 and 6 a frame of an interface, 3 a frame of the first
abbrev pub typed_block_of : LayoutView → (head body : List ℕ) → Result BlockView FileFault
typed_block_of layout head body =
    let order = layout.order in
    let size = number_of order 4 (drop 4 head) in
    if number_of order 4 head == 1 then interfaced (described_of layout (number_of order 2 (drop 8 head)) body) else
    (if number_of order 4 head == 2 then framed (captured_of layout (number_of order 2 (drop 8 head)) size body) else
    (if number_of order 4 head == 3 then framed (simple_of layout (number_of order 4 (drop 8 head)) size body) else
    (if number_of order 4 head == 6 then framed (captured_of layout (number_of order 4 (drop 8 head)) size body) else
    Ok OtherBlock)))

abbrev section_block_in : Option Order → Result BlockView FileFault
section_block_in None = Err ByteOrder
section_block_in (Some order) = Ok (SectionBlock order)

abbrev pub record_frame_in : Order → (head body : List ℕ) → Interface → Result FrameView FileFault
record_frame_in order head body interface =
    Ok (record { link = interface.link; moment = record_moment interface.resolution order head; octets = body })

-- all records belong to the only interface
abbrev pub record_frame_of : LayoutView → (head body : List ℕ) → Result FrameView FileFault
record_frame_of layout head body = do
  interface ← interface_of layout.interfaces 0
  record_frame_in layout.order head body interface

abbrev pub block_in : FileFormat → LayoutView → (head body : List ℕ) → Result BlockView FileFault
block_in Records layout head body = framed (record_frame_of layout head body)
block_in Blocks layout head body =
    if is_section head then section_block_in (section_order_of (drop 8 head)) else typed_block_of layout head body

-- the content of a record or a block with this head and this body
abbrev pub block_at : LayoutView → (head body : List ℕ) → Result BlockView FileFault
block_at layout head body = block_in layout.form layout head body

-- how to read the rest after it: a section has its own byte order and interfaces
abbrev pub after : LayoutView → BlockView → LayoutView
after layout (FrameBlock frame) = layout
after layout (SectionBlock order) = record { form = layout.form; order = order; interfaces = [] }
after layout (InterfaceBlock interface) = record { form = layout.form; order = layout.order; interfaces = layout.interfaces ++ (interface ∷ []) }
after layout OtherBlock = layout
