-- Printed dates and times read as themselves.
use Rattle.std.proofs.Common.{◌≡◌, ℕ, ◌+◌, ◌-◌, ◌^◌, ◌<◌, nat_lt, nat_le, true, false, Bool, ◌&&◌, ◌==◌, not, List, [], ◌∷◌, ◌++◌, length, Some}
use Rattle.std.proofs.Common.{rules, arith, refl, ap, if◌then◌else◌}
use Rattle.std.specs.Char.{is_ascii_digit}
use Rattle.std.specs.Fmt.{decimal}
use Rattle.std.specs.List.{list_all}
use Rattle.std.specs.Prelude.{codes}
use Rattle.std.specs.Str.{bytes_eq}
use Rattle.std.proofs.lemmas.Bool.Decides.{nat_tests}
use Rattle.bac_value.specs.Octets.{IsBytes}
use Rattle.bac_value_text.specs.Reading.{field_in, fields_in}
use Rattle.bac_value_text.specs.Texts.{field_text, fields_text}
use Rattle.bac_value_text.proofs.DecimalDigits.{decimal_digits, decimal_read}
use Rattle.bac_value_text.proofs.Parts.{lacks, parted, digits_lack}

no_star : (xs : List ℕ) → list_all is_ascii_digit xs ≡ true → bytes_eq xs (codes "*") ≡ false
no_star [] h = refl
no_star (x ∷ xs) h = go (x == 42) refl where
  go : (b : Bool) → (x == 42) ≡ b → bytes_eq (x ∷ xs) (codes "*") ≡ false
  go false e = rw e refl
  go true e =
      let is : x ≡ 42 = grind (arith, nat_tests, e) in
      absurd (search (rules, rw is at h))

field_lacks : (octet base o : ℕ) → base + o < 2 ^ 64 → is_ascii_digit octet ≡ false → (42 == octet) ≡ false → lacks octet (field_text base o) ≡ true
field_lacks octet base o small none star = go (o == 255) where
  go : (b : Bool) → lacks octet (if b then codes "*" else decimal (base + o)) ≡ true
  go true = rw star refl
  go false = digits_lack octet (decimal (base + o)) none (decimal_digits (base + o) small)

field_back : (base o : ℕ) → base + o < 2 ^ 64 → o < 256 → field_in base (field_text base o) ≡ Some o
field_back base o small octet = go (o == 255) refl where
  go : (b : Bool) → (o == 255) ≡ b → field_in base (if b then codes "*" else decimal (base + o)) ≡ Some o
  go true e =
      let is : 255 ≡ o = grind (arith, nat_tests, e) in
      ap Some is
  go false e =
      let above : nat_le base (base + o) ≡ true = grind (arith, nat_tests) in
      let less : base + o - base ≡ o = omega arith in
      let below : nat_lt o 255 ≡ true = grind (arith, nat_tests, e, octet) in
      rw (no_star (decimal (base + o)) (decimal_digits (base + o) small), decimal_read (base + o) small, above, less, below) refl

-- a separator is neither a digit nor a star
abbrev parts_fields : ℕ → Bool
parts_fields octet = not (is_ascii_digit octet) && not (42 == octet)

pub fields_read : (base s t u : ℕ) (a : List ℕ) → base < 2 ^ 63 → is_ascii_digit s ≡ false → (42 == s) ≡ false
    → is_ascii_digit t ≡ false → (42 == t) ≡ false → is_ascii_digit u ≡ false → (42 == u) ≡ false
    → length a ≡ 4 → IsBytes a → fields_in base (s ∷ t ∷ u ∷ []) (fields_text base (s ∷ t ∷ u ∷ []) a) ≡ Some a
unfolding fields_in
fields_read base s t u (w ∷ x ∷ y ∷ z ∷ []) low s1 s2 t1 t2 u1 u2 len each =
    rw (
      parted s (field_text base w) (field_text 0 x ++ (t ∷ (field_text 0 y ++ (u ∷ field_text 0 z))))
          (field_lacks s base w (omega (arith, each 0)) s1 s2),
      parted t (field_text 0 x) (field_text 0 y ++ (u ∷ field_text 0 z)) (field_lacks t 0 x (omega (arith, each 1)) t1 t2),
      parted u (field_text 0 y) (field_text 0 z) (field_lacks u 0 y (omega (arith, each 2)) u1 u2),
      field_back base w (omega (arith, each 0)) (each 0),
      field_back 0 x (omega (arith, each 1)) (each 1),
      field_back 0 y (omega (arith, each 2)) (each 2),
      field_back 0 z (omega (arith, each 3)) (each 3),
    )
    refl
fields_read base s t u _ low s1 s2 t1 t2 u1 u2 len each = absurd (omega (arith, len))
