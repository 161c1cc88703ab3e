-- The name that a line of a list begins with.
use Rattle.std.specs.Prelude.{ℕ, Bool, false, ◌==◌, ◌&&◌, ◌||◌, ◌-◌, nat_le, not, List, [], ◌∷◌, length, take, Option, Some, None, if◌then◌else◌}
use Rattle.std.specs.List.{list_all}
use Rattle.bac_environment.specs.LineWords.{is_address}

-- a letter, a digit, `_`, `-` or `.`
abbrev pub is_between : (first last octet : ℕ) → Bool
is_between first last octet = nat_le first octet && nat_le octet last

abbrev pub is_name_octet : ℕ → Bool
is_name_octet octet =
    (is_between 48 57 octet || (is_between 65 90 octet || is_between 97 122 octet)) || ((octet == 95) || ((octet == 45) || (octet == 46)))

abbrev pub is_name : List ℕ → Bool
is_name text = not (length text == 0) && list_all is_name_octet text

abbrev pub ends_with_colon : List ℕ → Bool
ends_with_colon [] = false
ends_with_colon (octet ∷ []) = octet == 58
ends_with_colon (octet ∷ next ∷ text) = ends_with_colon (next ∷ text)

-- such a word names its line, but one that names a peer
abbrev pub is_naming : (word : List ℕ) → Bool
is_naming word = ends_with_colon word && not (is_address word)

-- the word without its colon
abbrev pub name_in : (word : List ℕ) → List ℕ
name_in word = take (length word - 1) word

abbrev pub has_bad_name : (words : List (List ℕ)) → Bool
has_bad_name [] = false
has_bad_name (word ∷ words) = is_naming word && not (is_name (name_in word))

abbrev pub name_of : (words : List (List ℕ)) → Option (List ℕ)
name_of [] = None
name_of (word ∷ words) = if is_naming word then Some (name_in word) else None

-- the words behind the name, or all
abbrev pub words_behind : (words : List (List ℕ)) → List (List ℕ)
words_behind [] = []
words_behind (word ∷ words) = if is_naming word then words else word ∷ words
