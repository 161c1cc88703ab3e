-- Readers as functions on lists, from left to right: what is read, and which fault is found first.
-- Laws next to the readers in code state that exactly the spellings are accepted.
use Rattle.std.specs.Prelude.{◌≡◌, ℕ, zero, suc, ◌-◌, ◌/◌, ◌%◌, ◌<◌, ◌≤◌, ◌^◌, ℤ, slice_index, List, [], ◌∷◌, ◌++◌, length, take, drop, Option, Some}
use Rattle.std.specs.Prelude.{None, Result, Ok, Err, Bool, true, false, nat_lt, ◌==◌, ◌&&◌, ◌||◌, if◌then◌else◌}
use Rattle.std.specs.Int.{Width, w16, w32, byte_len, from_be_bytes}
use Rattle.bac_value.specs.declared.fault.FaultKind.{FaultKind}
use Rattle.bac_value.specs.declared.fault.FaultKind.TheVariants.{Truncated, ReservedTag, LongForm, BadLength, NotShortest, Unbalanced}
use Rattle.bac_value.specs.declared.fault.FaultKind.TheVariants.{TooDeep, ReservedBits}
use Rattle.bac_value.specs.declared.fault.Fault.{Fault}
use Rattle.bac_value.specs.declared.tag.Class.{Class}
use Rattle.bac_value.specs.declared.tag.Class.TheVariants.{Application, Context}
use Rattle.bac_value.specs.declared.tag.Form.{Form}
use Rattle.bac_value.specs.declared.tag.Form.TheVariants.{Length, Boolean, Opening, Closing}
use Rattle.bac_value.specs.Steps.{◌>>=◌, octet_at, has_bit}
use Rattle.bac_value.specs.Limits.{bits_fit}
use Rattle.bac_value.specs.Spelling.{Mark}
use Rattle.bac_value.specs.Number.{number_in, signed_in}
use Rattle.bac_value.specs.Value.{ObjectId}
use Rattle.bac_value.specs.Element.{Part}
use Rattle.bac_value.specs.Data.{IsData, IsDataFront, Ends}

-- ---- tags (clause 20.2.1)

unfoldable pub tag_number_at : ℕ → List ℕ → Result (ℕ × List ℕ) FaultKind
tag_number_at high bytes =
    if nat_lt high 15 then Ok (high, bytes) else (do
      n ← octet_at Truncated bytes
      if nat_lt n.0 15 then Err LongForm else (if nat_lt n.0 255 then Ok (n.0, n.1) else Err ReservedTag))

-- a length in several octets, which must need that many
unfoldable pub wide_at : Width → ℕ → List ℕ → Result (ℕ × List ℕ) FaultKind
wide_at w least bytes =
    if nat_lt (length bytes) (byte_len w) then Err Truncated else
    (if nat_lt (from_be_bytes w (take (byte_len w) bytes)) least then Err LongForm else Ok (from_be_bytes w (take (byte_len w) bytes), drop (byte_len w) bytes))

unfoldable pub length_at : ℕ → List ℕ → Result (ℕ × List ℕ) FaultKind
length_at low bytes =
    if nat_lt low 5 then Ok (low, bytes) else (do
      k ← octet_at Truncated bytes
      if nat_lt k.0 5 then Err LongForm else (if nat_lt k.0 254 then Ok (k.0, k.1) else (if k.0 == 254 then wide_at w16 254 k.1 else wide_at w32 65536 k.1)))

unfoldable pub form_at : ℕ → Bool → ℕ → List ℕ → Result (Mark × List ℕ) FaultKind
form_at low true n bytes =
    if low == 6 then Ok (record { number = n; class = Context; form = Opening }, bytes) else
    (if low == 7 then Ok (record { number = n; class = Context; form = Closing }, bytes) else (do
      k ← length_at low bytes
      Ok (record { number = n; class = Context; form = Length k.0 }, k.1)))
form_at low false n bytes =
    if nat_lt 12 n then Err ReservedTag else
    (if n == 1 then (if nat_lt low 2 then Ok (record { number = n; class = Application; form = Boolean (low == 1) }, bytes) else Err BadLength) else
    (if nat_lt 5 low then Err BadLength else (do
      k ← length_at low bytes
      Ok (record { number = n; class = Application; form = Length k.0 }, k.1))))

-- the whole tag is read before anything after it
unfoldable pub tag_at : List ℕ → Result (Mark × List ℕ) FaultKind
tag_at bytes = do
  b ← octet_at Truncated bytes
  n ← tag_number_at (b.0 / 16) b.1
  form_at (b.0 % 8) (has_bit b.0 8) n.0 n.1

-- ---- contents (clause 20.2)

-- the allowed lengths of contents of a kind; a Boolean has none after an application tag
abbrev pub length_in : ℕ → ℕ → Bool
length_in n k =
    if n == 0 || n == 1 then k == 0 else
    (if n == 2 || n == 3 then (nat_lt 0 k && nat_lt k 9) else
    (if n == 5 then k == 8 else
    (if n == 6 then true else
    (if n == 7 || n == 8 then nat_lt 0 k else
    (if n == 9 then (nat_lt 0 k && nat_lt k 5) else k == 4)))))

-- whether the first octet is redundant
abbrev pub is_longer_unsigned : List ℕ → Bool
is_longer_unsigned xs = nat_lt 1 (length xs) && slice_index xs 0 == 0

abbrev pub is_longer_signed : List ℕ → Bool
is_longer_signed xs =
    nat_lt 1 (length xs) && ((slice_index xs 0 == 0 && nat_lt (slice_index xs 1) 128) || (slice_index xs 0 == 255 && nat_lt 127 (slice_index xs 1)))

-- what is wrong with contents of a kind, if their length is correct
abbrev pub flaw : ℕ → List ℕ → Option FaultKind
flaw n xs =
    if n == 2 || n == 9 then (if is_longer_unsigned xs then Some NotShortest else None) else
    (if n == 3 then (if is_longer_signed xs then Some NotShortest else None) else
    (if n == 8 then (if bits_fit (slice_index xs 0) (drop 1 xs) then None else Some ReservedBits) else None))

abbrev pub unless_flaw : {A : Type 0} → Option FaultKind → A → Result A FaultKind
unless_flaw None x = Ok x
unless_flaw (Some e) x = Err e

-- this many octets
unfoldable pub raw_at : ℕ → List ℕ → Result (List ℕ × List ℕ) FaultKind
raw_at k bytes = if nat_lt (length bytes) k then Err Truncated else Ok (take k bytes, drop k bytes)

-- contents of a kind: first the length is tested, then whether all octets are present, then the octets
unfoldable pub kind_at : ℕ → ℕ → List ℕ → Result (List ℕ × List ℕ) FaultKind
kind_at n k bytes =
    if length_in n k then (do
      c ← raw_at k bytes
      unless_flaw (flaw n c.0) c) else Err BadLength

unfoldable pub class_at : Class → ℕ → ℕ → List ℕ → Result (List ℕ × List ℕ) FaultKind
class_at Application n k bytes = kind_at n k bytes
class_at Context n k bytes = raw_at k bytes

-- the contents after a tag
unfoldable pub contents_at : Mark → Form → List ℕ → Result (List ℕ × List ℕ) FaultKind
contents_at m (Length k) bytes = class_at m.class m.number k bytes
contents_at m (Boolean b) bytes = Ok ([], bytes)
contents_at m Opening bytes = Ok ([], bytes)
contents_at m Closing bytes = Ok ([], bytes)

unfoldable pub element_at : List ℕ → Result (Part × List ℕ) FaultKind
element_at bytes = do
  t ← tag_at bytes
  c ← contents_at t.0 t.0.form t.1
  Ok (record { mark = t.0; contents = c.0 }, c.1)

-- the number in this many octets of an Unsigned (2) or an Enumerated (9)
unfoldable pub number_at : ℕ → ℕ → List ℕ → Result (ℕ × List ℕ) FaultKind
number_at n k bytes = do
  c ← kind_at n k bytes
  Ok (number_in c.0, c.1)

-- the number in this many octets of a Signed
unfoldable pub signed_at : ℕ → List ℕ → Result (ℤ × List ℕ) FaultKind
signed_at k bytes = do
  c ← kind_at 3 k bytes
  Ok (signed_in c.0, c.1)

-- the type and the instance in this many octets of an ObjectIdentifier
unfoldable pub object_at : ℕ → List ℕ → Result (ObjectId × List ℕ) FaultKind
object_at k bytes = do
  c ← kind_at 12 k bytes
  Ok (record { kind = number_in c.0 / 2 ^ 22; instance = number_in c.0 % 2 ^ 22 }, c.1)

-- ---- data (clause 20.2.1.3.2)

-- the tags that are open after an element, or None if the data end before it
unfoldable pub turn : Form → ℕ → List ℕ → Result (Option (List ℕ)) FaultKind
turn (Length k) n opened = Ok (Some opened)
turn (Boolean b) n opened = Ok (Some opened)
turn Opening n opened = if nat_lt (length opened) 8 then Ok (Some (n ∷ opened)) else Err TooDeep
turn Closing n [] = Ok None
turn Closing n (m ∷ opened) = if m == n then Ok (Some opened) else Err Unbalanced

abbrev pub with_rest : List ℕ → Option (List ℕ) → Option (List ℕ × List ℕ)
with_rest rest None = None
with_rest rest (Some opened) = Some (opened, rest)

-- one more element: the tags that are open then, and the octets after it
unfoldable pub step_at : List ℕ → List ℕ → Result (Option (List ℕ × List ℕ)) FaultKind
step_at opened bytes = do
  e ← element_at bytes
  t ← turn e.0.mark.form e.0.mark.number opened
  Ok (with_rest e.1 t)

abbrev pub goes_on : {A : Type 0} → Option (List ℕ × List ℕ) → A → (List ℕ → List ℕ → A) → A
goes_on None stop on = stop
goes_on (Some s) stop on = on s.0 s.1

abbrev pub rest_of_step : {A : Type 0} → Result (Option (List ℕ × List ℕ)) FaultKind → A → (List ℕ → List ℕ → A) → A
rest_of_step (Ok s) stop on = goes_on s stop on
rest_of_step (Err e) stop on = stop

-- the octets after data of at most this many elements; data that end inside an opened tag are Truncated
unfoldable pub data_at : ℕ → List ℕ → List ℕ → Result (List ℕ) FaultKind
data_at zero opened bytes = Err Truncated
data_at (suc steps) [] [] = Ok []
data_at (suc steps) (n ∷ opened) [] = Err Truncated
data_at (suc steps) opened (b ∷ bytes) = do
  s ← step_at opened (b ∷ bytes)
  goes_on s (Ok (b ∷ bytes)) (λ o rest. data_at steps o rest)

abbrev pub data_of : List ℕ → Result (List ℕ) FaultKind
data_of bytes = data_at (suc (length bytes)) [] bytes

-- the octets from the faulty element on, or none for data that end inside an opened tag
unfoldable pub fault_rest : ℕ → List ℕ → List ℕ → List ℕ
fault_rest zero opened bytes = bytes
fault_rest (suc steps) opened [] = []
fault_rest (suc steps) opened (b ∷ bytes) = rest_of_step (step_at opened (b ∷ bytes)) (b ∷ bytes) (λ o rest. fault_rest steps o rest)

-- how many octets precede a fault in data
abbrev pub fault_place : List ℕ → ℕ
fault_place bytes = length bytes - length (fault_rest (suc (length bytes)) [] bytes)

-- the result of one element in the code's loop
abbrev pub Turns : List ℕ → Result Bool FaultKind → Result (Option (List ℕ)) FaultKind → Type 0
Turns new (Ok true) t = t ≡ Ok (Some new)
Turns new (Ok false) t = t ≡ Ok None
Turns new (Err e) t = t ≡ Err e

-- the open tags are unchanged if no tag was opened or closed
abbrev pub StaysUnlessTurned : Result Bool FaultKind → List ℕ → List ℕ → Type 0
StaysUnlessTurned (Ok true) old new = Unit {0}
StaysUnlessTurned (Ok false) old new = new ≡ old
StaysUnlessTurned (Err e) old new = new ≡ old

-- the result of one step of the code
abbrev pub Steps : {R : Type 0} → (R → List ℕ) → List ℕ → Result (Option R) FaultKind → Result (Option (List ℕ × List ℕ)) FaultKind → Type 0
Steps rest new (Ok (Some next)) r = r ≡ Ok (Some (new, rest next))
Steps rest new (Ok None) r = r ≡ Ok None
Steps rest new (Err e) r = r ≡ Err e

-- reading the rest with these tags open has the same result as reading all the octets, so that it is some elements further on
abbrev pub Onward : List ℕ → List ℕ → List ℕ → List ℕ → Type 0
Onward old bytes new rest =
    (steps : ℕ) → length bytes < steps
    → (m : ℕ) × (length rest < m) × (data_at m new rest ≡ data_at steps old bytes) × (fault_rest m new rest ≡ fault_rest steps old bytes)

-- the data end before these octets, which begin with a closing tag
abbrev pub IsOver : List ℕ → List ℕ → Type 0
IsOver opened bytes = (0 < length bytes) × (step_at opened bytes ≡ Ok None)

-- the rest of a run of octets after some elements at its front, whatever follows the run
pub record IsPassed (old run new left : List ℕ) : Type 0 where
  pub within : length left ≤ length run
  pub end : drop (length run - length left) run ≡ left
  pub onward : (behind : List ℕ) → Onward old (run ++ behind) new (left ++ behind)

-- the result of reading data, with a place among the octets
abbrev pub ReadsData : {R : Type 0} → (R → List ℕ) → List ℕ → Result R Fault → Result (List ℕ) FaultKind → Type 0
ReadsData rest bytes (Ok r) read = (length (rest r) ≤ length bytes) × (read ≡ Ok (rest r))
ReadsData rest bytes (Err e) read = (e.at ≤ length bytes) × (read ≡ Err e.kind) × (e.at ≡ fault_place bytes)

-- the octets begin with data, followed by the end or a closing tag
pub record IsDataTaken (bytes text rest : List ℕ) : Type 0 where
  pub parts : bytes ≡ text ++ rest
  pub whole : IsData text
  pub ends : Ends rest
  pub exact : data_of bytes ≡ Ok rest

-- the octets do not begin with data; which fault is found first, and where: among the octets or at their end
pub record IsDataRefused (bytes : List ℕ) (e : Fault) : Type 0 where
  pub none : (k : ℕ) → IsDataFront bytes k → ⊥
  pub exact : data_of bytes ≡ Err e.kind
  pub place : e.at ≤ length bytes
  pub at_fault : e.at ≡ fault_place bytes
