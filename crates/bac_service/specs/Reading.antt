-- Readers of members as functions on lists, from left to right: the value and the octets after it, or why reading stopped and how many
-- octets were left at the tag where it stopped. Laws next to the readers in code state that exactly the spellings are accepted.
use Rattle.std.specs.Prelude.{ℕ, ℤ, ◌-◌, Bool, true, false, ◌&&◌, ◌==◌, [], ◌∷◌, length, take, Option, Some, None}
use Rattle.std.specs.Prelude.{is_some, Result, Ok, Err, if◌then◌else◌}
use Rattle.bac_value.specs.declared.fault.FaultKind.{FaultKind}
use Rattle.bac_value.specs.declared.tag.Class.{Class}
use Rattle.bac_value.specs.declared.tag.Class.TheVariants.{Application, Context}
use Rattle.bac_value.specs.declared.tag.Form.{Form}
use Rattle.bac_value.specs.declared.tag.Form.TheVariants.{Length, Boolean, Opening, Closing}
use Rattle.bac_value.specs.Spelling.{Mark}
use Rattle.bac_value.specs.Value.{ObjectId}
use Rattle.bac_value.specs.Steps.{◌>>=◌}
use Rattle.bac_value.specs.Reading.{tag_at, kind_at, number_at, signed_at, object_at, data_of, fault_place}
use Rattle.bac_service.specs.declared.stop.Stop.{Stop}
use Rattle.bac_service.specs.declared.stop.Why.{Why}
use Rattle.bac_service.specs.declared.stop.Why.TheVariants.{Fault, Missing, Unexpected, Surplus}
use Rattle.bac_service.specs.Members.{Octets}
use Rattle.bac_service.specs.Stops.{stop, told_at}

-- the value at the front and the octets after it, or why reading stopped
abbrev pub Read : Type 0 → Type 0
Read A = Result (A × Octets) Stop

-- ---- one after the other

abbrev pub both_at : {A B : Type 0} → (Octets → Read A) → (Octets → Read B) → Octets → Read (A × B)
both_at first second bytes = do
  a ← first bytes
  b ← second a.1
  Ok ((a.0, b.0), b.1)

abbrev pub made_at : {A B : Type 0} → (A → B) → (Octets → Read A) → Octets → Read B
made_at make read bytes = do
  a ← read bytes
  Ok (make a.0, a.1)

-- ---- members

abbrev pub same_class : Class → Class → Bool
same_class Application Application = true
same_class Application Context = false
same_class Context Application = false
same_class Context Context = true

abbrev pub length_of : Form → Option ℕ
length_of (Length k) = Some k
length_of (Boolean b) = None
length_of Opening = None
length_of Closing = None

-- only an application tag with number 1 has a value in place of a length
abbrev pub boolean_of : Form → Option Bool
boolean_of (Length k) = None
boolean_of (Boolean b) = Some b
boolean_of Opening = None
boolean_of Closing = None

-- the length that a tag announces, if it has this class and number
unfoldable pub announced : Class → ℕ → Mark → Option ℕ
announced class number m = if same_class class m.class && (number == m.number) then length_of m.form else None

-- the next tag
unfoldable pub next_tag : Octets → Read Mark
next_tag [] = stop Missing []
next_tag (b ∷ bytes) = told_at (b ∷ bytes) (tag_at (b ∷ bytes))

-- what the tag in front of these octets announces, if it is the expected one
abbrev pub expected : {A : Type 0} → Octets → Option A → Result A Stop
expected bytes (Some x) = Ok x
expected bytes None = stop Unexpected bytes

-- a tag with this class and number: the length of the contents after it
unfoldable pub head_at : Class → ℕ → Octets → Read ℕ
head_at class number bytes = do
  t ← next_tag bytes
  k ← expected bytes (announced class number t.0)
  Ok (k, t.1)

-- such a tag, and contents that are read together with their length
unfoldable pub member_at : {A : Type 0} → Class → ℕ → (ℕ → Octets → Result (A × Octets) FaultKind) → Octets → Read A
member_at class number read bytes = do
  h ← head_at class number bytes
  told_at bytes (read h.0 h.1)

-- whether the next tag is that of an optional member, of context class with contents; false at the end
unfoldable pub is_next : ℕ → Octets → Result Bool Stop
is_next number [] = Ok false
is_next number (b ∷ bytes) = do
  t ← next_tag (b ∷ bytes)
  Ok (is_some (announced Context number t.0))

abbrev pub present : {A : Type 0} → Bool → (Octets → Read A) → Octets → Read (Option A)
present true read bytes = made_at Some read bytes
present false read bytes = Ok (None, bytes)

unfoldable pub optional_at : {A : Type 0} → ℕ → (Octets → Read A) → Octets → Read (Option A)
optional_at number read bytes = do
  next ← is_next number bytes
  present next read bytes

-- ---- pairs of tags

abbrev pub is_opening : Form → Bool
is_opening (Length k) = false
is_opening (Boolean b) = false
is_opening Opening = true
is_opening Closing = false

abbrev pub is_closing : Form → Bool
is_closing (Length k) = false
is_closing (Boolean b) = false
is_closing Opening = false
is_closing Closing = true

-- whether the next tag is the opening tag with this number
unfoldable pub is_opened : ℕ → Octets → Result Bool Stop
is_opened number bytes = do
  t ← next_tag bytes
  Ok (is_opening t.0.form && (number == t.0.number))

-- a tag that passes a test
unfoldable pub tag_that : (Mark → Bool) → Octets → Result Octets Stop
tag_that test bytes = do
  t ← next_tag bytes
  if test t.0 then Ok t.1 else stop Unexpected bytes

abbrev pub opening_at : ℕ → Octets → Result Octets Stop
opening_at number = tag_that (λ m. is_opening m.form && (number == m.number))

abbrev pub closing_at : ℕ → Octets → Result Octets Stop
closing_at number = tag_that (λ m. is_closing m.form && (number == m.number))

unfoldable pub enclosed_at : {A : Type 0} → ℕ → (Octets → Read A) → Octets → Read A
enclosed_at number read bytes = do
  inside ← opening_at number bytes
  x ← read inside
  after ← closing_at number x.1
  Ok (x.0, after)

-- ---- the octets between a pair of tags

-- the octets before the rest; a fault in data is at its own place
abbrev pub front_or_stop : Octets → Result Octets FaultKind → Read Octets
front_or_stop bytes (Ok rest) = Ok (take (length bytes - length rest) bytes, rest)
front_or_stop bytes (Err e) = Err (record { why = Fault e; left = length bytes - fault_place bytes })

-- data, up to the end or a closing tag
unfoldable pub values_at : Octets → Read Octets
values_at bytes = front_or_stop bytes (data_of bytes)

abbrev pub application_object : Octets → Read ObjectId
application_object = member_at Application 12 object_at

abbrev pub application_signed : Octets → Read ℤ
application_signed = member_at Application 3 signed_at

abbrev pub application_unsigned : Octets → Read ℕ
application_unsigned = member_at Application 2 (number_at 2)

abbrev pub application_string : Octets → Read Octets
application_string = member_at Application 6 (kind_at 6)

-- a value that passes a test; if it does not, reading stops at its first tag for this reason
unfoldable pub that_at : {A : Type 0} → Why → (A → Bool) → (Octets → Read A) → Octets → Read A
that_at otherwise test read bytes = do
  x ← read bytes
  if test x.0 then Ok x else stop otherwise bytes

abbrev pub chosen_at : {A : Type 0} → Bool → (Octets → Read A) → (Octets → Read A) → Octets → Read A
chosen_at true one other bytes = one bytes
chosen_at false one other bytes = other bytes

-- the first reader if what comes next passes a test, otherwise the second
abbrev pub either_at : {A : Type 0} → (Octets → Result Bool Stop) → (Octets → Read A) → (Octets → Read A) → Octets → Read A
either_at test one other bytes = do
  b ← test bytes
  chosen_at b one other bytes

-- ---- whole service data

-- nothing follows
abbrev pub ends : {A : Type 0} → A → Octets → Result A Stop
ends x [] = Ok x
ends x (b ∷ rest) = stop Surplus (b ∷ rest)

abbrev pub whole : {A : Type 0} → (Octets → Read A) → Octets → Result A Stop
whole read bytes = do
  x ← read bytes
  ends x.0 x.1
