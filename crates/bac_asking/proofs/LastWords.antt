-- The last of some words, which may name a file.
use Rattle.std.proofs.Common.{◌≡◌, ◌≢◌, ℕ, List, [], ◌∷◌, ◌++◌, map, Option, Some, None, MatchOption, Bor}
use Rattle.std.proofs.Common.{refl, ap, sym, ◌∙◌, arith}
use Rattle.std.specs.Option.{option_map}
use Rattle.std.specs.List.{IsLastAndRest}
use Rattle.std.proofs.lemmas.List.{map-append}
use Rattle.hex.specs.Hex.{encode_upper}
use Rattle.bac_asking.specs.FileWords.{IsBefore, file_of, path_of, with_octets}

other_octet : (octet : ℕ) (path : List ℕ) → ((rest : List ℕ) → octet ∷ path ≢ 64 ∷ rest) → None ≡ path_of (octet ∷ path)
other_octet octet path other = grind (arith, other path)

pub path_stripped : (word : List ℕ) (r : Option (Bor (List ℕ))) → MatchOption r ((rest : List ℕ) → word ≢ 64 ∷ rest) (λ x. word ≡ 64 ∷ x.now)
    → option_map (λ p. p.now) r ≡ path_of word
path_stripped word (Some x) is = sym (ap path_of is)
path_stripped [] None other = refl
path_stripped (octet ∷ path) None other = other_octet octet path other

pub last_names : (front : List (List ℕ)) (last : List ℕ) → file_of (front ++ last ∷ []) ≡ path_of last
last_names [] last = refl
last_names (word ∷ []) last = refl
last_names (word ∷ next ∷ front) last = last_names (next ∷ front) last

pub last_is_put : (octets : List ℕ) (front : List (List ℕ)) (last : List ℕ)
    → with_octets octets (front ++ last ∷ []) ≡ front ++ encode_upper octets ∷ []
last_is_put octets [] last = refl
last_is_put octets (word ∷ []) last = refl
last_is_put octets (word ∷ next ∷ front) last = ap (λ words. word ∷ words) (last_is_put octets (next ∷ front) last)

pub is_before : (front : List (List ℕ)) (last path : List ℕ) (words : List (List ℕ)) → words ≡ front ++ last ∷ [] → path_of last ≡ Some path
    → IsBefore front path words
is_before front last path words is names =
    record {
      names = ap file_of is ∙ last_names front last ∙ names;
      meant = λ octets. ap (with_octets octets) is ∙ last_is_put octets front last;
    }

pub none_named : (front : List (List ℕ)) (last : List ℕ) (words : List (List ℕ)) → words ≡ front ++ last ∷ [] → path_of last ≡ None
    → file_of words ≡ None
none_named front last words is names = ap file_of is ∙ last_names front last ∙ names

-- of words in code: the last of them, those before it, and the path that was found in it
shown_as : (words front : List (Bor (List ℕ))) (last : Bor (List ℕ)) → words ≡ front ++ last ∷ []
    → map (λ w. w.now) words ≡ map (λ w. w.now) front ++ last.now ∷ []
shown_as words front last is = ap (map (λ w. w.now)) is ∙ map-append (λ w. w.now) front (last ∷ [])

pub named_in : (words front : List (Bor (List ℕ))) (last path : Bor (List ℕ)) (r : Option (Bor (List ℕ))) → IsLastAndRest words last front
    → option_map (λ p. p.now) r ≡ path_of last.now → r ≡ Some path → IsBefore (map (λ w. w.now) front) path.now (map (λ w. w.now) words)
named_in words front last path r parts reads found =
    is_before (map (λ w. w.now) front) last.now path.now (map (λ w. w.now) words) (shown_as words front last parts.0)
    (sym reads ∙ ap (option_map (λ p. p.now)) found)

pub none_named_in : (words front : List (Bor (List ℕ))) (last : Bor (List ℕ)) (r : Option (Bor (List ℕ))) → IsLastAndRest words last front
    → option_map (λ p. p.now) r ≡ path_of last.now → r ≡ None → file_of (map (λ w. w.now) words) ≡ None
none_named_in words front last r parts reads found =
    none_named (map (λ w. w.now) front) last.now (map (λ w. w.now) words) (shown_as words front last parts.0)
    (sym reads ∙ ap (option_map (λ p. p.now)) found)
