-- A file of a peer, put together from the parts that the peer answers with (clause 14.1).
use Rattle.std.specs.Prelude.{◌≡◌, ℕ, ℤ, pos, negsuc, ◌+◌, ◌==◌, nat_lt, Bool, true, false, not, ◌&&◌, List, [], ◌∷◌, ◌++◌, length, if◌then◌else◌, Option, None, Some}
use Rattle.bac_service.specs.declared.atomic_read_file.FileRead.{FileRead}
use Rattle.bac_service.specs.declared.file.Content.{Content}
use Rattle.bac_files.specs.Limits.{MOST_OCTETS}
use Rattle.bac_files.specs.declared.part_fault.PartFault.{PartFault}
use Rattle.bac_files.specs.declared.part_fault.PartFault.TheVariants.{AfterEnd, WrongStart, NoOctets, TooLong}

-- octets from a position on, and whether they reach the end of the file
pub record Part : Type 0 where
  pub start : ℤ
  pub octets : List ℕ
  pub is_last : Bool

abbrev pub part_view : FileRead Content → Part
part_view r = record { start = r.start; octets = r.content.octets.now; is_last = r.end_of_file }

-- the front of a file, and whether it is the whole
pub record Front : Type 0 where
  pub octets : List ℕ
  pub is_whole : Bool

abbrev pub NOTHING : Front
NOTHING = record { octets = []; is_whole = false }

-- with one more part behind it
abbrev pub with_part : Front → Part → Front
with_part front part = record { octets = front.octets ++ part.octets; is_whole = part.is_last }

-- ---- which parts make a front

-- the octets of parts, in order
abbrev pub join : List Part → List ℕ
join [] = []
join (part ∷ parts) = part.octets ++ join parts

-- from a position on, each part starts where the one before it ended
abbrev pub StandFrom : (position : ℕ) → (parts : List Part) → Type 0
StandFrom position [] = Unit {0}
StandFrom position (part ∷ parts) = (part.start ≡ pos position) × StandFrom (position + length part.octets) parts

-- none but the last reaches the end of the file, which it does or not
abbrev pub EndSo : (parts : List Part) → (is_whole : Bool) → Type 0
EndSo [] is_whole = is_whole ≡ false
EndSo (part ∷ []) is_whole = part.is_last ≡ is_whole
EndSo (part ∷ next ∷ parts) is_whole = (part.is_last ≡ false) × EndSo (next ∷ parts) is_whole

-- a front is those parts joined in order: the first starts at 0, each other where the one before it ended, and only the last of a whole file reaches its end
pub record AreJoined (parts : List Part) (front : Front) : Type 0 where
  pub placed : StandFrom 0 parts
  pub ends : EndSo parts front.is_whole
  pub joined : front.octets ≡ join parts

-- those that were joined before, and one more
abbrev pub AreJoinedWith : Part → (old new : Front) → Type 0
AreJoinedWith part old new = (parts : List Part) → AreJoined parts old → AreJoined (parts ++ part ∷ []) new

-- ---- which part is taken

abbrev pub is_at : (position : ℕ) → (start : ℤ) → Bool
is_at position (pos start) = start == position
is_at position (negsuc start) = false

abbrev pub is_empty : (octets : List ℕ) → Bool
is_empty [] = true
is_empty (octet ∷ octets) = false

-- why a part is not taken behind a front; None where it is
abbrev pub fault_of : Front → Part → Option PartFault
fault_of front part =
    if front.is_whole then Some AfterEnd
    else if not (is_at (length front.octets) part.start) then Some WrongStart
    else if is_empty part.octets && not part.is_last then Some NoOctets
    else if nat_lt MOST_OCTETS (length front.octets + length part.octets) then Some TooLong
    else None
