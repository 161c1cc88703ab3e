-- What is shown is harmless.
use Rattle.std.proofs.Common.{◌≡◌, ◌<◌, ◌≤◌, ◌+◌, ◌-◌, ◌/◌, ◌%◌, ℕ, zero, suc, Bool, true, false, not, cond, ◌&&◌, ◌||◌, nat_le, nat_lt, List, [], ◌∷◌, ◌++◌, length, take, drop, Option, None, Some, refl, sym, ap, subst, ◌∙◌, arith}
use Rattle.std.specs.Prelude.{◌==◌, flat_map, if◌then◌else◌, codes}
use Rattle.std.specs.List.{list_all}
use Rattle.std.specs.Fmt.{digit_glyph, digits, digits_onto}
use Rattle.std.specs.Char.{encode_utf8, IsScalar}
use Rattle.std.specs.Str.{encode_utf8_all}
use Rattle.std.proofs.Math.Utf8.{scalar, scalars}
use Rattle.std.proofs.lemmas.Bool.{cases_Bool, and_parts}
use Rattle.std.proofs.lemmas.Bool.Decides.{nat_tests}
use Rattle.std.proofs.lemmas.List.{append-nil}
use Rattle.std.proofs.lemmas.List.Folds.{list_all-append}
use Rattle.std.proofs.lemmas.Str.{encodes-append}
use Rattle.bac_shown.specs.Escapes.{escaped, json_pair, octet_text, unit_text}
use Rattle.bac_shown.specs.Going.{IsHarmless}
use Rattle.bac_shown.specs.Harmful.{is_harmful, is_plain}
use Rattle.bac_shown.specs.Pieces.{char_text, piece_text}
use Rattle.bac_shown.specs.declared.form.Form.{Form}
use Rattle.bac_shown.specs.declared.form.Form.TheVariants.{Text, Json}
use Rattle.bac_shown.proofs.Plain.{plain_text_is_harmless}

pub nothing_is_harmless : IsHarmless []
nothing_is_harmless = record { characters = []; scalar = refl; is = refl; harmless = refl }

and_true : (a b : Bool) → a ≡ true → b ≡ true → a && b ≡ true
and_true a b x y = ap (λ t. t && b) x ∙ y

scalars-append : (xs ys : List ℕ) → scalars xs ≡ true → scalars ys ≡ true → scalars (xs ++ ys) ≡ true
scalars-append [] ys a b = b
scalars-append (x ∷ xs) ys a b =
    let both = and_parts _ _ a in
    ap (λ t. t && scalars (xs ++ ys)) both.0 ∙ scalars-append xs ys both.1 b

pub harmless-append : (xs ys : List ℕ) → IsHarmless xs → IsHarmless ys → IsHarmless (xs ++ ys)
harmless-append xs ys a b = record {
  characters = a.characters ++ b.characters;
  scalar = scalars-append a.characters b.characters a.scalar b.scalar;
  is = ap (λ t. t ++ ys) a.is ∙ ap (λ t. encode_utf8_all a.characters ++ t) b.is ∙ sym (encodes-append a.characters b.characters);
  harmless = list_all-append (λ c. not (is_harmful c)) a.characters b.characters ∙ and_true _ _ a.harmless b.harmless;
}

-- ---- escapes are plain

pub digit_is_plain : (upper : Bool) (d : ℕ) → d < 16 → is_plain (digit_glyph upper d) ≡ true
digit_is_plain true d low = grind (arith, nat_tests)
digit_is_plain false d low = grind (arith, nat_tests)

either_plain : (b : Bool) (xs ys : List ℕ) → list_all is_plain xs ≡ true → list_all is_plain ys ≡ true → list_all is_plain (if b then xs else ys) ≡ true
either_plain true xs ys a b = a
either_plain false xs ys a b = b

digits_are_plain : (k n : ℕ) (rest : List ℕ) → list_all is_plain rest ≡ true → list_all is_plain (digits_onto k 16 true n rest) ≡ true
digits_are_plain zero n rest all = all
digits_are_plain (suc k) n rest all =
    let more : list_all is_plain (digit_glyph true (n % 16) ∷ rest) ≡ true = and_true _ _ (digit_is_plain true (n % 16) (omega arith)) all in
    either_plain (n / 16 == 0) (digit_glyph true (n % 16) ∷ rest) (digits_onto k 16 true (n / 16) (digit_glyph true (n % 16) ∷ rest)) more
    (digits_are_plain k (n / 16) (digit_glyph true (n % 16) ∷ rest) more)

hex_is_plain : (n : ℕ) → list_all is_plain (digits 16 true n) ≡ true
unfolding digits
hex_is_plain n = digits_are_plain 64 n [] refl

unit_is_plain : (u : ℕ) → u < 65536 → list_all is_plain (unit_text u) ≡ true
unit_is_plain u low =
    let a = digit_is_plain false (u / 4096) (omega arith) in let b = digit_is_plain false (u / 256 % 16) (omega arith) in
    let c = digit_is_plain false (u / 16 % 16) (omega arith) in let d = digit_is_plain false (u % 16) (omega arith) in
    and_true _ _ a (and_true _ _ b (and_true _ _ c (and_true _ _ d refl)))

both_plain : (xs ys : List ℕ) → list_all is_plain xs ≡ true → list_all is_plain ys ≡ true → list_all is_plain (xs ++ ys) ≡ true
both_plain xs ys a b = list_all-append is_plain xs ys ∙ and_true _ _ a b

escape_is_plain : (f : Form) (c : ℕ) → c < 1114112 → list_all is_plain (escaped f c) ≡ true
escape_is_plain Text c high = both_plain (digits 16 true c) (125 ∷ []) (hex_is_plain c) refl
escape_is_plain Json c high = go (nat_lt c 65536) refl where
  go : (b : Bool) → nat_lt c 65536 ≡ b → list_all is_plain (if b then unit_text c else json_pair c) ≡ true
  go true is = unit_is_plain c (grind (arith, nat_tests))
  go false is =
      let low : 65536 ≤ c = grind (arith, nat_tests) in
      both_plain (unit_text (55296 + (c - 65536) / 1024)) (unit_text (56320 + (c - 65536) % 1024)) (unit_is_plain (55296 + (c - 65536) / 1024) (omega arith))
      (unit_is_plain (56320 + (c - 65536) % 1024) (omega arith))

octet_is_plain : (f : Form) (o : ℕ) → list_all is_plain (octet_text f o) ≡ true
octet_is_plain Text o =
    let a = digit_is_plain true (o / 16 % 16) (omega arith) in let b = digit_is_plain true (o % 16) (omega arith) in
    and_true _ _ a (and_true _ _ b refl)
octet_is_plain Json o = refl

octets_are_plain : (f : Form) (octets : List ℕ) → list_all is_plain (flat_map (octet_text f) octets) ≡ true
octets_are_plain f [] = refl
octets_are_plain f (o ∷ os) = both_plain (octet_text f o) (flat_map (octet_text f) os) (octet_is_plain f o) (octets_are_plain f os)

-- ---- characters

character_is_harmless : (c : ℕ) → scalar c ≡ true → is_harmful c ≡ false → IsHarmless (encode_utf8 c)
character_is_harmless c is good = record {
  characters = c ∷ [];
  scalar = and_true _ _ is refl;
  is = sym (append-nil (encode_utf8 c));
  harmless = ap (λ b. not b && true) good;
}

scalar_is_low : (c : ℕ) → scalar c ≡ true → c < 1114112
scalar_is_low c is = grind (arith, nat_tests)

char_is_harmless : (f : Form) (c : ℕ) → scalar c ≡ true → IsHarmless (char_text f c)
char_is_harmless f c is = go (is_harmful c) refl where
  go : (b : Bool) → is_harmful c ≡ b → IsHarmless (if b then escaped f c else encode_utf8 c)
  go true e = plain_text_is_harmless (escaped f c) (escape_is_plain f c (scalar_is_low c is))
  go false e = character_is_harmless c is e

pub piece_is_harmless : (f : Form) (c : Option ℕ) (octets : List ℕ) → ((x : ℕ) → c ≡ Some x → scalar x ≡ true) → IsHarmless (piece_text f c octets)
piece_is_harmless f None octets is = plain_text_is_harmless (flat_map (octet_text f) octets) (octets_are_plain f octets)
piece_is_harmless f (Some c) octets is = char_is_harmless f c (is c refl)
