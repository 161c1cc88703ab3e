-- Words of a request, of which the last may name a file.
use Rattle.std.specs.Prelude.{◌≡◌, ℕ, ◌==◌, List, [], ◌∷◌, ◌++◌, if◌then◌else◌, Option, Some, None, IfSome}
use Rattle.hex.specs.Hex.{encode_upper}

-- the path that a word names: what is behind `@`
abbrev pub path_of : List ℕ → Option (List ℕ)
path_of [] = None
path_of (octet ∷ path) = if octet == 64 then Some path else None

-- the one that the last word names
abbrev pub file_of : (words : List (List ℕ)) → Option (List ℕ)
file_of [] = None
file_of (word ∷ []) = path_of word
file_of (word ∷ next ∷ words) = file_of (next ∷ words)

-- octets in hexadecimal stand in the place of the last word
abbrev pub with_octets : (octets : List ℕ) → (words : List (List ℕ)) → List (List ℕ)
with_octets octets [] = []
with_octets octets (word ∷ []) = encode_upper octets ∷ []
with_octets octets (word ∷ next ∷ words) = word ∷ with_octets octets (next ∷ words)

-- the last of the words names that path, and those are before it
pub record IsBefore (front : List (List ℕ)) (path : List ℕ) (words : List (List ℕ)) : Type 0 where
  pub names : file_of words ≡ Some path
  pub meant : (octets : List ℕ) → with_octets octets words ≡ front ++ encode_upper octets ∷ []

-- octets in hexadecimal: those of a file, where they are known
pub record AreDigitsOf (content : Option (List ℕ)) (digits : List ℕ) : Type 0 where
  pub octets : List ℕ
  pub known : IfSome content (λ file. octets ≡ file)
  pub is : digits ≡ encode_upper octets
