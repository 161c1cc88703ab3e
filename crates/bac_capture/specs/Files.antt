-- Capture files as lists of octets: the records of pcap and the blocks of pcapng.
use Rattle.std.specs.Prelude.{◌≡◌, ℕ, ◌-◌, ◌%◌, Bool, true, false, List, [], ◌∷◌, length, take, drop, Result, Ok, Err}
use Rattle.std.specs.Prelude.{nat_lt, ◌==◌, ◌||◌, if◌then◌else◌, Option, Some, None, ⊤}
use Rattle.bac_capture.specs.declared.fault.FileFault.{FileFault}
use Rattle.bac_capture.specs.declared.fault.FileFault.TheVariants.{Cut, ByteOrder, BlockLength}
use Rattle.bac_capture.specs.declared.form.FileFormat.{FileFormat}
use Rattle.bac_capture.specs.declared.form.FileFormat.TheVariants.{Records, Blocks}
use Rattle.bac_capture.specs.declared.order.Order.{Order}
use Rattle.bac_capture.specs.declared.order.Order.TheVariants.{Big, Little}
use Rattle.bac_capture.specs.Forms.{are_octets}
use Rattle.bac_capture.specs.Orders.{number_of}
use Rattle.bac_capture.specs.Runs.{kept}

-- ---- heads

-- a pcap record begins with two numbers for its timestamp, and how many octets were captured and sent; a block of pcapng with its type, its length,
-- and the first number of its contents
abbrev pub head_len_of : FileFormat → ℕ
head_len_of Records = 16
head_len_of Blocks = 12

-- a section has its own byte order, which this number determines
abbrev pub section_order_of : List ℕ → Option Order
section_order_of octets =
    if are_octets 0x1A 0x2B 0x3C 0x4D octets then Some Big else
    (if are_octets 0x4D 0x3C 0x2B 0x1A octets then Some Little else None)

abbrev pub is_section : List ℕ → Bool
is_section head = are_octets 0x0A 0x0D 0x0D 0x0A (take 4 head)

abbrev pub block_order_of : Order → List ℕ → Option Order
block_order_of order head = if is_section head then section_order_of (drop 8 head) else Some order

-- the length of a block includes all of it, and is a multiple of four
abbrev pub checked_len : ℕ → Result ℕ FileFault
checked_len size = if nat_lt size 12 || (if size % 4 == 0 then false else true) then Err BlockLength else Ok (size - 12)

abbrev pub block_len_in : Option Order → List ℕ → Result ℕ FileFault
block_len_in None head = Err ByteOrder
block_len_in (Some order) head = checked_len (number_of order 4 (drop 4 head))

abbrev pub block_len_of : Order → List ℕ → Result ℕ FileFault
block_len_of order head = block_len_in (block_order_of order head) head

-- how many octets follow the head
abbrev pub body_len_of : FileFormat → Order → List ℕ → Result ℕ FileFault
body_len_of Records order head = Ok (number_of order 4 (drop 8 head))
body_len_of Blocks order head = block_len_of order head

-- ---- records

-- what comes next in a file: nothing, a record or a block with its head, the kept part of its body, and what follows it, or something invalid
pub data Record : Type 0 where
  Ended : Record
  Broken : FileFault → Record
  Whole : (head body rest : List ℕ) → Record

abbrev pub body_at : List ℕ → Result ℕ FileFault → List ℕ → Record
body_at head (Err fault) octets = Broken fault
body_at head (Ok size) octets =
    if nat_lt (length octets) size then Broken Cut else Whole head (kept (take size octets)) (drop size octets)

abbrev pub head_at : FileFormat → Order → List ℕ → Record
head_at form order octets =
    if nat_lt (length octets) (head_len_of form) then Broken Cut else
    body_at (take (head_len_of form) octets) (body_len_of form order (take (head_len_of form) octets)) (drop (head_len_of form) octets)

abbrev pub record_at : FileFormat → Order → List ℕ → Record
record_at form order [] = Ended
record_at form order (octet ∷ octets) = head_at form order (octet ∷ octets)

-- the result of the code for it
abbrev pub seen : Result Bool FileFault → (head body rest : List ℕ) → Record
seen (Err fault) head body rest = Broken fault
seen (Ok false) head body rest = Ended
seen (Ok true) head body rest = Whole head body rest

pub record IsRecordOf (form : FileFormat) (order : Order) (octets : List ℕ) (new : Option (List ℕ)) (head body : List ℕ) (answer : Result Bool FileFault) : Type 0 where
  pub rest : List ℕ
  pub is : new ≡ Some rest
  pub exact : record_at form order octets ≡ seen answer head body rest

abbrev pub IsRecord : FileFormat → Order → Option (List ℕ) → Option (List ℕ) → (head body : List ℕ) → Result Bool FileFault → Type 0
IsRecord form order None new head body answer = ⊤
IsRecord form order (Some octets) new head body answer = IsRecordOf form order octets new head body answer

-- the same for what follows a head
pub record IsBodyOf (head : List ℕ) (size : Result ℕ FileFault) (octets : List ℕ) (new : Option (List ℕ)) (body : List ℕ) (answer : Result Bool FileFault) : Type 0 where
  pub rest : List ℕ
  pub is : new ≡ Some rest
  pub exact : body_at head size octets ≡ seen answer head body rest

abbrev pub IsBody : (head : List ℕ) → (size : Result ℕ FileFault) → Option (List ℕ) → Option (List ℕ) → (body : List ℕ) → Result Bool FileFault → Type 0
IsBody head size None new body answer = ⊤
IsBody head size (Some octets) new body answer = IsBodyOf head size octets new body answer
