-- Runs of octets that are read from an input, if its octets are known.
use Rattle.std.specs.Prelude.{◌≡◌, ℕ, ◌≤◌, Bool, List, [], ◌++◌, length, take, drop, nat_le, ◌<◌, ⊤, Option, Some, None}
use Rattle.bac_capture.specs.declared.run.TheConstants as code

-- how many octets of a run are kept
abbrev pub RUN_LIMIT : ℕ
RUN_LIMIT = code.RUN_LIMIT

-- the kept part of a run: all of it, or the beginning of a long one
abbrev pub kept : List ℕ → List ℕ
kept run = take RUN_LIMIT run

-- n octets were read, none only at the end, and the kept part changes from `before` to `after`
pub record IsTaken (octets : List ℕ) (new : Option (List ℕ)) (n : ℕ) (before after : List ℕ) : Type 0 where
  pub within : n ≤ length octets
  pub is : new ≡ Some (drop n octets)
  pub keeps : after ≡ kept (before ++ take n octets)
  pub end : n ≡ 0 → octets ≡ []

-- a part of `count` octets was read; or nothing, if a signal interrupted the read
abbrev pub IsPart : Option (List ℕ) → Option (List ℕ) → (count : ℕ) → (before after : List ℕ) → Option ℕ → Type 0
IsPart None new count before after part = ⊤
IsPart (Some octets) new count before after None = (new ≡ Some octets) × (after ≡ before)
IsPart (Some octets) new count before after (Some n) = (0 < count) → IsTaken octets new n before after

-- this many octets were read, or all if there are fewer
pub record IsRunOf (octets : List ℕ) (new : Option (List ℕ)) (count : ℕ) (after : List ℕ) (whole : Bool) : Type 0 where
  pub is : new ≡ Some (drop count octets)
  pub keeps : after ≡ kept (take count octets)
  pub enough : whole ≡ nat_le count (length octets)

abbrev pub IsRun : Option (List ℕ) → Option (List ℕ) → (count : ℕ) → (after : List ℕ) → (whole : Bool) → Type 0
IsRun None new count after whole = ⊤
IsRun (Some octets) new count after whole = IsRunOf octets new count after whole
