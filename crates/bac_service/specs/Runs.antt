-- Sequences of octet strings: the records of a file.
use Rattle.std.specs.Prelude.{◌≡◌, ℕ, zero, suc, ◌+◌, ◌-◌, [], length, take, is_some, Option, Some, None, Result, Ok, Err, if◌then◌else◌}
use Rattle.bac_value.specs.declared.tag.Class.TheVariants.{Application}
use Rattle.bac_value.specs.Steps.{◌>>=◌}
use Rattle.bac_service.specs.declared.stop.Stop.{Stop}
use Rattle.bac_service.specs.Members.{Octets, ◌⨾◌, Tagged}
use Rattle.bac_service.specs.Reading.{Read, next_tag, announced, application_string}

-- this many octet strings, joined
abbrev pub AreStrings : ℕ → Octets → Type 0
AreStrings zero run = run ≡ []
AreStrings (suc count) run = (Tagged Application 6 (λ xs. Unit {0}) ⨾ AreStrings count) run

-- the octets are this many octet strings, and no other number of them
pub record IsCount (run : Octets) (count : ℕ) : Type 0 where
  pub are : AreStrings count run
  pub only : (m : ℕ) → AreStrings m run → m ≡ count

-- the number of octet strings at the front, at most this many
unfoldable pub strings_at : ℕ → Octets → Read ℕ
strings_at zero bytes = Ok (0, bytes)
strings_at (suc most) bytes = do
  t ← next_tag bytes
  if is_some (announced Application 6 t.0) then (do
    s ← application_string bytes
    n ← strings_at most s.1
    Ok (n.0 + 1, n.1)) else Ok (0, bytes)

-- their number, and the octets of all of them
unfoldable pub run_at : Octets → Read (ℕ × Octets)
run_at bytes = do
  n ← strings_at (suc (length bytes)) bytes
  Ok ((n.0, take (length bytes - length n.1) bytes), n.1)

-- the octets after the next octet string, if one comes next
abbrev pub string_step : Octets → Result (Option Octets) Stop
string_step bytes = do
  t ← next_tag bytes
  if is_some (announced Application 6 t.0) then (do
    s ← application_string bytes
    Ok (Some s.1)) else Ok None

-- the result of the code for it
abbrev pub StringStep : {O : Type 0} → (O → Octets) → Octets → Result (Option O) Stop → Type 0
StringStep octets bytes (Ok (Some rest)) = string_step bytes ≡ Ok (Some (octets rest))
StringStep octets bytes (Ok None) = string_step bytes ≡ Ok None
StringStep octets bytes (Err e) = string_step bytes ≡ Err e
