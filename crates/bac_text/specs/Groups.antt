-- Octets as people copy them: groups of hexadecimal digits with blanks or colons between them; 0x may stand before a group.
use Rattle.std.specs.Prelude.{ℕ, Bool, ◌==◌, ◌&&◌, ◌||◌, List, [], ◌∷◌, ◌++◌, if◌then◌else◌, Option, Some}
use Rattle.bac_text.specs.Capture.{◌>>=◌, decoded_at}
use Rattle.bac_value_text.specs.Splits.{split_by}

-- a space, a tab or a colon
abbrev pub is_gap : ℕ → Bool
is_gap octet = octet == 32 || (octet == 9 || octet == 58)

-- what stands between the gaps; where two of them stand side by side, a group without digits is between them
abbrev pub groups_of : List ℕ → List (List ℕ)
groups_of text = split_by is_gap text

-- the digits of a group
abbrev pub digits_of : List ℕ → List ℕ
digits_of (a ∷ b ∷ digits) = if a == 48 && b == 120 then digits else a ∷ b ∷ digits
digits_of group = group

-- the octets of groups, where octets stand before them: each group has whole octets
abbrev pub octets_on : List ℕ → List (List ℕ) → Option (List ℕ)
octets_on before [] = Some before
octets_on before (group ∷ groups) = decoded_at (digits_of group) >>= (λ octets. octets_on (before ++ octets) groups)

-- the octets that a text is
abbrev pub octets_in : List ℕ → Option (List ℕ)
octets_in text = octets_on [] (groups_of text)
