-- What the steps of reading a line do to the octets that a reader has left, where those are known.
use Rattle.std.specs.Prelude.{◌≡◌, ℕ, ◌+◌, ◌<◌, Bool, true, false, List, [], ◌++◌, length, take, ⊤, Option, Some, None}
use Rattle.std.specs.Io.BufRead.{drop_through}
use Rattle.bac_text.specs.Lines.{LINE_LIMIT, LINE_END, line_in}

-- whether no octet is left
abbrev pub IsEmptyInput : Option (List ℕ) → Bool → Type 0
IsEmptyInput None empty = ⊤
IsEmptyInput (Some octets) true = octets ≡ []
IsEmptyInput (Some octets) false = 0 < length octets

abbrev pub IsLook : Option (List ℕ) → Option Bool → Type 0
IsLook old None = ⊤
IsLook old (Some empty) = IsEmptyInput old empty

-- what is kept of a line: all of it, or the front of one that is too long
abbrev pub kept : List ℕ → List ℕ
kept line = take (LINE_LIMIT + 1) line

-- a part of the line was taken, and its rest is in front of what is left
pub record IsFront (octets : List ℕ) (new : Option (List ℕ)) (before after : List ℕ) : Type 0 where
  pub part : List ℕ
  pub left : List ℕ
  pub is : new ≡ Some left
  pub line : line_in octets ≡ part ++ line_in left
  pub rest : drop_through LINE_END octets ≡ drop_through LINE_END left
  pub keeps : after ≡ kept (before ++ part)

-- the line was taken to its end
pub record IsRest (octets : List ℕ) (new : Option (List ℕ)) (before after : List ℕ) : Type 0 where
  pub is : new ≡ Some (drop_through LINE_END octets)
  pub keeps : after ≡ kept (before ++ line_in octets)

-- what stands in the vector for the line goes from `before` to `after`
abbrev pub IsPart : Option (List ℕ) → Option (List ℕ) → (before after : List ℕ) → (done : Bool) → Type 0
IsPart None new before after done = ⊤
IsPart (Some octets) new before after true = IsRest octets new before after
IsPart (Some octets) new before after false = IsFront octets new before after

-- a line and its end were taken, and this is kept of it
abbrev pub IsLine : Option (List ℕ) → Option (List ℕ) → List ℕ → Type 0
IsLine None new line = ⊤
IsLine (Some octets) new line = (new ≡ Some (drop_through LINE_END octets)) × (line ≡ kept (line_in octets))

abbrev pub IsNextLine : Option (List ℕ) → Option (List ℕ) → List ℕ → (found : Bool) → Type 0
IsNextLine None new line found = ⊤
IsNextLine (Some octets) new line true = (0 < length octets) × IsLine (Some octets) new line
IsNextLine (Some octets) new line false = (octets ≡ []) × (new ≡ Some [])
