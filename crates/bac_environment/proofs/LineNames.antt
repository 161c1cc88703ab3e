-- Names of lines: a word that ends with a colon, and what stands before that.
use Rattle.std.proofs.Common.{◌≡◌, ◌∙◌, ℕ, ◌+◌, ◌-◌, ◌<◌, true, List, [], ◌∷◌, ◌++◌, length, take, refl, ap, arith, nat_eq, not, get_or}
use Rattle.std.proofs.lemmas.Bool.Decides.{nat_tests}
use Rattle.std.proofs.lemmas.Bool.{and_parts}
use Rattle.std.proofs.lemmas.List.Sums.{AllPass-from_list_all}
use Rattle.std.proofs.lemmas.Str.{IsUtf8-from_ascii}
use Rattle.std.proofs.lemmas.Str.Ascii.{IsAscii-from_all}
use Rattle.std.specs.List.{All, list_all}
use Rattle.std.specs.Prelude.{IsUtf8}
use Rattle.bac_environment.specs.LineNames.{ends_with_colon, is_name, is_name_octet, name_in}

pub colon_last : (front : List ℕ) (octet : ℕ) → ends_with_colon (front ++ octet ∷ []) ≡ nat_eq octet 58
colon_last [] octet = refl
colon_last (x ∷ []) octet = refl
colon_last (x ∷ y ∷ front) octet = colon_last (y ∷ front) octet

take_front : (front : List ℕ) (octet : ℕ) → take (length front) (front ++ octet ∷ []) ≡ front
take_front [] octet = refl
take_front (x ∷ front) octet = ap (λ (xs : List ℕ). x ∷ xs) (take_front front octet)

pub name_front : (word front : List ℕ) (octet : ℕ) → word ≡ front ++ octet ∷ [] → length front + 1 ≡ length word → name_in word ≡ front
name_front word front octet is long =
    let less : length word - 1 ≡ length front = omega (arith, long) in
    (λ i. take (less i) (is i)) ∙ take_front front octet

-- a letter, a digit or one of the signs is less than 128
name_octet_low : (octet : ℕ) → is_name_octet octet ≡ true → octet < 128
name_octet_low octet is = grind (arith, nat_tests, is)

low_octets : (text : List ℕ) → list_all is_name_octet text ≡ true → All (λ b. b < 128) text
low_octets text all k d within = name_octet_low (get_or text k d) (AllPass-from_list_all is_name_octet text all k d within)

-- so a name is a text
pub name_is_text : (text : List ℕ) → is_name text ≡ true → IsUtf8 text
name_is_text text is =
    IsUtf8-from_ascii text (IsAscii-from_all text (low_octets text (and_parts (not (nat_eq (length text) 0)) (list_all is_name_octet text) is).1))
