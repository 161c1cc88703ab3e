-- Plain octets are harmless characters, and are shown as they are.
use Rattle.std.proofs.Common.{◌≡◌, ◌<◌, ◌≤◌, ℕ, zero, suc, take, Bool, true, false, not, ◌&&◌, ◌||◌, nat_le, List, [], ◌∷◌, ◌++◌, length, refl, sym, ap, ◌∙◌, arith, inl, inr, ⊎_elim}
use Rattle.std.specs.Prelude.{◌==◌, ◌⊎◌}
use Rattle.std.specs.List.{list_all}
use Rattle.std.specs.Str.{encode_utf8_all}
use Rattle.std.proofs.Math.Utf8.{scalar, scalars}
use Rattle.std.proofs.lemmas.Bool.{cases_Bool, and_parts}
use Rattle.std.proofs.lemmas.Bool.Decides.{nat_tests}
use Rattle.std.proofs.lemmas.Str.{encode_ascii}
use Rattle.ucd_category.specs.GeneralCategory.{general_category}
use Rattle.ucd_category.proofs.GeneralCategoryLemmas.{general_category_stepped}
use Rattle.ucd_table.proofs.Computing.{tables}
use Rattle.ucd_table.proofs.Facts.{Stepped-below}
use Rattle.bac_shown.specs.Going.{IsHarmless}
use Rattle.bac_shown.specs.Harmful.{is_harmful, is_hidden, is_plain}

-- of ASCII only control characters are hidden
shown_below : (o : ℕ) → o < 127 → not (nat_le 32 o) || not (is_hidden (general_category o)) ≡ true
unfolding tables general_category_stepped
shown_below o low = Stepped-below general_category general_category_stepped (λ c v. not (nat_le 32 c) || not (is_hidden v)) 127 refl o low

by_test : (a h p q r : Bool) → (a && r) || p || q ≡ true → (r ≡ true → not a || not h ≡ true) → h && not p && not q ≡ false
by_test a true false false true is hidden = let none = hidden refl in by_a a is none where
  by_a : (a : Bool) → (a && true) || false || false ≡ true → not a || false ≡ true → true ≡ false
  by_a true is none = cc
  by_a false is none = cc
by_test a true true q r is hidden = refl
by_test a true false true r is hidden = refl
by_test true true false false false is hidden = cc
by_test false true false false false is hidden = cc
by_test a false p q r is hidden = refl

pub plain_is_harmless : (o : ℕ) → is_plain o ≡ true → is_harmful o ≡ false
plain_is_harmless o is =
    by_test (nat_le 32 o) (is_hidden (general_category o)) (o == 9) (o == 10) (nat_le o 126) is
    (λ top. shown_below o (grind (arith, nat_tests)))

pub plain_is_low : (o : ℕ) → is_plain o ≡ true → o < 127
plain_is_low o is = grind (arith, nat_tests)

low_is_scalar : (o : ℕ) → o < 127 → scalar o ≡ true
low_is_scalar o low = grind (arith, nat_tests)

plain_scalars : (text : List ℕ) → list_all is_plain text ≡ true → scalars text ≡ true
plain_scalars [] all = refl
plain_scalars (o ∷ os) all =
    let both = and_parts (is_plain o) (list_all is_plain os) all in
    let first = low_is_scalar o (plain_is_low o both.0) in let rest = plain_scalars os both.1 in
    ap (λ b. b && scalars os) first ∙ rest

plain_encoded : (text : List ℕ) → list_all is_plain text ≡ true → text ≡ encode_utf8_all text
plain_encoded [] all = refl
plain_encoded (o ∷ os) all =
    let both = and_parts (is_plain o) (list_all is_plain os) all in
    let low : o < 128 = omega (arith, plain_is_low o both.0) in
    ap (λ t. o ∷ t) (plain_encoded os both.1) ∙ sym (ap (λ t. t ++ encode_utf8_all os) (encode_ascii o low))

plain_all : (text : List ℕ) → list_all is_plain text ≡ true → list_all (λ c. not (is_harmful c)) text ≡ true
plain_all [] all = refl
plain_all (o ∷ os) all =
    let both = and_parts (is_plain o) (list_all is_plain os) all in
    ap (λ b. not b && list_all (λ c. not (is_harmful c)) os) (plain_is_harmless o both.0) ∙ plain_all os both.1

pub plain_text_is_harmless : (text : List ℕ) → list_all is_plain text ≡ true → IsHarmless text
plain_text_is_harmless text all =
    record { characters = text; scalar = plain_scalars text all; is = plain_encoded text all; harmless = plain_all text all }

pub plain_front : (n : ℕ) (text : List ℕ) → list_all is_plain text ≡ true → list_all is_plain (take n text) ≡ true
plain_front zero text all = refl
plain_front (suc n) [] all = refl
plain_front (suc n) (o ∷ os) all =
    let both = and_parts (is_plain o) (list_all is_plain os) all in
    ap (λ b. b && list_all is_plain (take n os)) both.0 ∙ plain_front n os both.1
