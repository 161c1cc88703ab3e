-- How a text is shown, piece by piece. The pieces are those of Table 3-7 of the Unicode Standard.
use Rattle.std.specs.Prelude.{◌≡◌, ◌==◌, ◌&&◌, ℕ, zero, suc, Bool, true, false, not, List, [], ◌∷◌, ◌++◌, drop, take, flat_map, length, if◌then◌else◌, Option, Some, None}
use Rattle.std.specs.Char.{encode_utf8}
use Rattle.bstr.specs.Utf8.{decoded}
use Rattle.bac_shown.specs.Escapes.{escaped, octet_text}
use Rattle.bac_shown.specs.Harmful.{is_harmful}
use Rattle.bac_shown.specs.declared.form.Form.{Form}

-- a character as it is, unless it is harmful
abbrev pub char_text : Form → (character : ℕ) → List ℕ
char_text f character = if is_harmful character then escaped f character else encode_utf8 character

-- a character, or octets that are none
abbrev pub piece_text : Form → (character : Option ℕ) → (octets : List ℕ) → List ℕ
piece_text f None octets = flat_map (octet_text f) octets
piece_text f (Some character) octets = char_text f character

-- the first piece
abbrev pub first_text : Form → List ℕ → List ℕ
first_text f octets = piece_text f (decoded octets).char (take (decoded octets).size octets)

-- of at most so many pieces
unfoldable pub shown_from : (count : ℕ) → Form → List ℕ → List ℕ
shown_from zero f octets = []
shown_from (suc n) f [] = []
shown_from (suc n) f (o ∷ os) = first_text f (o ∷ os) ++ shown_from n f (drop (decoded (o ∷ os)).size (o ∷ os))

-- a text as it is shown
abbrev pub shown : Form → List ℕ → List ℕ
shown f octets = shown_from (length octets) f octets

abbrev pub is_none : Option ℕ → Bool
is_none None = true
is_none (Some c) = false

-- nothing, or the front of a character: more octets may make one of it
abbrev pub is_open : List ℕ → Bool
is_open octets = is_none (decoded octets).char && ((decoded octets).size == length octets)

-- of what is held the first piece goes to what waits, unless that is open
pub record Turns (f : Form) (held held' waiting' : List ℕ) (moved : Bool) : Type 0 where
  pub told : moved ≡ not (is_open held)
  pub stays : moved ≡ false → (held' ≡ held) × (waiting' ≡ [])
  pub goes : moved ≡ true → (held' ≡ drop (decoded held).size held) × (waiting' ≡ first_text f held)
