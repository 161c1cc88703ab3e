-- The two laws of tags: what is read is a spelling of the tag, and each spelling is read as its tag.
use Rattle.std.proofs.Common.{◌≡◌, ℕ, zero, suc, ◌+◌, ◌*◌, ◌/◌, ◌%◌, ◌^◌, ◌<◌, ◌≤◌, Bool, true, false, cond, ltb, eqb, List, [], ◌∷◌, ◌++◌}
use Rattle.std.proofs.Common.{length, take, drop, Result, Ok, Err, refl, sym, ap, subst, ◌∙◌, append_assoc, arith, inl, inr, IsTrue, not}
use Rattle.std.proofs.Common.{◌⊎◌}
use Rattle.std.specs.Int.{Width, w16, w32, byte_len, from_be_bytes, to_be_bytes}
use Rattle.std.proofs.lemmas.Bool.{cases_lt, ltb-false, ltb-true, le-ltb, lt-ltb, eqb-true, eq-eqb, ne_eqb, eqb-false, and_parts, and_from, not-true}
use Rattle.std.proofs.lemmas.List.{take_at, drop_at, take-append-drop, length-append, length-take}
use Rattle.std.proofs.lemmas.Nat.{be_bytes_2, be_bytes_4, from_be_bytes-to_be_bytes_2, from_be_bytes-to_be_bytes_4}
use Rattle.bac_value.specs.declared.fault.FaultKind.{FaultKind}
use Rattle.bac_value.specs.declared.fault.FaultKind.TheVariants.{Truncated, LongForm, ReservedTag, BadLength}
use Rattle.bac_value.specs.declared.tag.Class.{Class}
use Rattle.bac_value.specs.declared.tag.Class.TheVariants.{Application, Context}
use Rattle.bac_value.specs.declared.tag.Form.{Form}
use Rattle.bac_value.specs.declared.tag.Form.TheVariants.{Length, Boolean, Opening, Closing}
use Rattle.bac_value.specs.Limits.{tag_fits}
use Rattle.bac_value.specs.Spelling.{Mark, number_bits, number_octets, length_octets, form_bits, form_octets, class_bit, tag_spelling}
use Rattle.bac_value.specs.Spelling.{SpellsTag, length_fits}
use Rattle.bac_value.specs.Octets.{IsBytes}
use Rattle.bac_value.specs.Steps.{◌>>=◌, octet_at, IsExact}
use Rattle.bac_value.specs.Reading.{tag_number_at, wide_at, length_at, form_at, tag_at}
use Rattle.bac_value.proofs.Steps.{IsBytes-drop, IsBytes-take, IsBytes-rest, bind_ok, chosen, unless_ok, ok_is, Takes, Takes-then}

-- ---- numbers of several octets

pub record IsWide (w : Width) (limit : ℕ) : Type 0 where
  pub len : (n : ℕ) → length (to_be_bytes w n) ≡ byte_len w
  pub back : (bytes : List ℕ) → length bytes ≡ byte_len w → IsBytes bytes → to_be_bytes w (from_be_bytes w bytes) ≡ bytes
  pub again : (n : ℕ) → n < limit → from_be_bytes w (to_be_bytes w n) ≡ n
  pub below : (bytes : List ℕ) → IsBytes bytes → from_be_bytes w bytes < limit

pub wide16 : IsWide w16 (2 ^ 16)
wide16 = record {
  len = λ n. refl;
  back = λ bytes len fits. be_bytes_2 bytes _ len fits refl;
  again = λ n lt. from_be_bytes-to_be_bytes_2 n lt;
  below = λ bytes fits. omega (arith, fits 0, fits 1);
}

pub wide32 : IsWide w32 (2 ^ 32)
wide32 = record {
  len = λ n. refl;
  back = λ bytes len fits. be_bytes_4 bytes _ len fits refl;
  again = λ n lt. from_be_bytes-to_be_bytes_4 n lt;
  below = λ bytes fits. omega (arith, fits 0, fits 1, fits 2, fits 3);
}

pub wide_again : (w : Width) (limit least : ℕ) (wide : IsWide w limit) (n : ℕ) (rest : List ℕ) → least ≤ n → n < limit
    → wide_at w least (to_be_bytes w n ++ rest) ≡ Ok (n, rest)
unfolding wide_at
wide_again w limit least wide n rest le lt =
    let len = wide.len n in
    let long : ltb (length (to_be_bytes w n ++ rest)) (byte_len w) ≡ false = le-ltb _ _ (omega (arith, length-append (to_be_bytes w n) rest)) in
    rw (long, take_at (to_be_bytes w n) rest (byte_len w) len, drop_at (to_be_bytes w n) rest (byte_len w) len, wide.again n lt, le-ltb n least le) refl

pub wide_takes : (w : Width) (limit least : ℕ) (wide : IsWide w limit) (bytes : List ℕ) (x : ℕ × List ℕ) → IsBytes bytes → wide_at w least bytes ≡ Ok x
    → Takes bytes (to_be_bytes w x.0) x.1 × (least ≤ x.0) × (x.0 < limit)
unfolding wide_at
wide_takes w limit least wide bytes x fits e =
    let n = from_be_bytes w (take (byte_len w) bytes) in
    let g = unless_ok (ltb (length bytes) (byte_len w)) Truncated (cond (ltb n least) (Err LongForm) (Ok (n, drop (byte_len w) bytes))) x e in
    let h = unless_ok (ltb n least) LongForm (Ok (n, drop (byte_len w) bytes)) x g.1 in
    let long : byte_len w ≤ length bytes = ltb-false _ _ g.0 in
    let front : to_be_bytes w n ≡ take (byte_len w) bytes =
    wide.back (take (byte_len w) bytes) (omega (arith, length-take (byte_len w) bytes)) (IsBytes-take (byte_len w) bytes fits) in
    subst (λ (y : ℕ × List ℕ). Takes bytes (to_be_bytes w y.0) y.1 × (least ≤ y.0) × (y.0 < limit)) (ok_is (n, drop (byte_len w) bytes) x h.1) (
      record { parts = rw front (sym (take-append-drop (byte_len w) bytes)); rest_fits = IsBytes-drop (byte_len w) bytes fits },
      ltb-false _ _ h.0,
      wide.below (take (byte_len w) bytes) (IsBytes-take (byte_len w) bytes fits),
    )

-- ---- the number of a tag

pub number_again : (n : ℕ) (rest : List ℕ) → n < 255 → tag_number_at (number_bits n) (number_octets n ++ rest) ≡ Ok (n, rest)
unfolding tag_number_at
number_again n rest lt =
    elim (cases_lt n 15) [
      | inl below ↦ rw (lt-ltb n 15 below, lt-ltb n 15 below) refl
      | inr above ↦ rw (le-ltb n 15 above, le-ltb n 15 above, lt-ltb n 255 lt) refl
    ]

extended : List ℕ → Result (ℕ × List ℕ) FaultKind
extended bytes = octet_at Truncated bytes >>= λ n. cond (ltb n.0 15) (Err LongForm) (cond (ltb n.0 255) (Ok (n.0, n.1)) (Err ReservedTag))

extended_takes : (bytes : List ℕ) (x : ℕ × List ℕ) → IsBytes bytes → extended bytes ≡ Ok x → Takes bytes (x.0 ∷ []) x.1 × (15 ≤ x.0) × (x.0 < 255)
unfolding extended
extended_takes [] x fits e = absurd cc
extended_takes (n ∷ rest) x fits e =
    let g = unless_ok (ltb n 15) LongForm (cond (ltb n 255) (Ok (n, rest)) (Err ReservedTag)) x e in
    elim (chosen (ltb n 255) (Ok (n, rest)) (Err ReservedTag) (Ok x) g.1) [
      | inl c ↦ subst (λ (y : ℕ × List ℕ). Takes (n ∷ rest) (y.0 ∷ []) y.1 × (15 ≤ y.0) × (y.0 < 255)) (ok_is (n, rest) x c.1)
          (record { parts = refl; rest_fits = IsBytes-rest n rest fits }, ltb-false _ _ g.0, ltb-true _ _ c.0)
      | inr c ↦ absurd cc
    ]

pub number_takes : (bits : ℕ) (bytes : List ℕ) (x : ℕ × List ℕ) → bits < 16 → IsBytes bytes → tag_number_at bits bytes ≡ Ok x
    → Takes bytes (number_octets x.0) x.1 × (bits ≡ number_bits x.0) × (x.0 < 255)
unfolding tag_number_at extended
number_takes bits bytes x in_range fits e =
    elim (chosen (ltb bits 15) (Ok (bits, bytes)) (extended bytes) (Ok x) e) [
      | inl c ↦ subst (λ (y : ℕ × List ℕ). Takes bytes (number_octets y.0) y.1 × (bits ≡ number_bits y.0) × (y.0 < 255)) (ok_is (bits, bytes) x c.1)
          (record { parts = rw c.0 refl; rest_fits = fits }, rw c.0 refl, omega (arith, ltb-true _ _ c.0))
      | inr c ↦
          let t = extended_takes bytes x fits c.1 in
          let high : ltb x.0 15 ≡ false = le-ltb x.0 15 t.1 in
          (rw high t.0, rw high (omega (arith, ltb-false _ _ c.0)), t.2)
    ]

-- ---- its length

pub length_again : (k : ℕ) (rest : List ℕ) → k < 2 ^ 32 → length_at (form_bits (Length k)) (length_octets k ++ rest) ≡ Ok (k, rest)
unfolding length_at
length_again k rest lt =
    elim (cases_lt k 5) [
      | inl below ↦ rw (lt-ltb k 5 below, lt-ltb k 5 below) refl
      | inr above ↦ elim (cases_lt k 254) [
        | inl b ↦ rw (le-ltb k 5 above, lt-ltb k 254 b, le-ltb k 5 above, lt-ltb k 254 b) refl
        | inr a ↦ elim (cases_lt k 65536) [
          | inl b ↦ rw (le-ltb k 5 above, le-ltb k 254 a, lt-ltb k 65536 b) (wide_again w16 (2 ^ 16) 254 wide16 k rest a b)
          | inr b ↦ rw (le-ltb k 5 above, le-ltb k 254 a, le-ltb k 65536 b) (wide_again w32 (2 ^ 32) 65536 wide32 k rest b lt)
        ]
      ]
    ]

long : List ℕ → Result (ℕ × List ℕ) FaultKind
long bytes = octet_at Truncated bytes >>= λ k. cond (ltb k.0 5) (Err LongForm)
    (cond (ltb k.0 254) (Ok (k.0, k.1)) (cond (eqb k.0 254) (wide_at w16 254 k.1) (wide_at w32 65536 k.1)))

IsLong : List ℕ → ℕ × List ℕ → Type 0
IsLong bytes x = Takes bytes (length_octets x.0) x.1 × (5 ≤ x.0) × (x.0 < 2 ^ 32)

long_takes : (bytes : List ℕ) (x : ℕ × List ℕ) → IsBytes bytes → long bytes ≡ Ok x → IsLong bytes x
unfolding long IsLong
long_takes [] x fits e = absurd cc
long_takes (k ∷ rest) x fits e =
    let rest_fits = IsBytes-rest k rest fits in
    let g = unless_ok (ltb k 5) LongForm (cond (ltb k 254) (Ok (k, rest)) (cond (eqb k 254) (wide_at w16 254 rest) (wide_at w32 65536 rest))) x e in
    let above : 5 ≤ k = ltb-false _ _ g.0 in
    elim (chosen (ltb k 254) (Ok (k, rest)) (cond (eqb k 254) (wide_at w16 254 rest) (wide_at w32 65536 rest)) (Ok x) g.1) [
      | inl c ↦ subst (IsLong (k ∷ rest)) (ok_is (k, rest) x c.1)
          (record { parts = rw (g.0, c.0) refl; rest_fits = rest_fits }, above, omega (arith, ltb-true _ _ c.0))
      | inr c ↦ elim (chosen (eqb k 254) (wide_at w16 254 rest) (wide_at w32 65536 rest) (Ok x) c.1) [
        | inl d ↦
            let t = wide_takes w16 (2 ^ 16) 254 wide16 rest x rest_fits d.1 in
            let is : k ≡ 254 = eqb-true _ _ d.0 in (
              rw (le-ltb x.0 5 (omega (arith, t.1)), le-ltb x.0 254 t.1, lt-ltb x.0 65536 t.2)
                  (record { parts = rw is (ap (λ (r : List ℕ). 254 ∷ r) t.0.parts); rest_fits = t.0.rest_fits }),
              omega (arith, t.1),
              omega (arith, t.2),
            )
        | inr d ↦
            let t = wide_takes w32 (2 ^ 32) 65536 wide32 rest x rest_fits d.1 in
            let is : k ≡ 255 = omega (arith, fits 0, ltb-false _ _ c.0, eqb-false _ _ d.0) in (
              rw (le-ltb x.0 5 (omega (arith, t.1)), le-ltb x.0 254 (omega (arith, t.1)), le-ltb x.0 65536 t.1)
                  (record { parts = rw is (ap (λ (r : List ℕ). 255 ∷ r) t.0.parts); rest_fits = t.0.rest_fits }),
              omega (arith, t.1),
              t.2,
            )
      ]
    ]

pub length_takes : (bits : ℕ) (bytes : List ℕ) (x : ℕ × List ℕ) → bits < 6 → IsBytes bytes → length_at bits bytes ≡ Ok x
    → Takes bytes (length_octets x.0) x.1 × (bits ≡ form_bits (Length x.0)) × (x.0 < 2 ^ 32)
unfolding length_at long IsLong
length_takes bits bytes x in_range fits e =
    elim (chosen (ltb bits 5) (Ok (bits, bytes)) (long bytes) (Ok x) e) [
      | inl c ↦ subst (λ (y : ℕ × List ℕ). Takes bytes (length_octets y.0) y.1 × (bits ≡ form_bits (Length y.0)) × (y.0 < 2 ^ 32)) (ok_is (bits, bytes) x c.1)
          (record { parts = rw c.0 refl; rest_fits = fits }, rw c.0 refl, omega (arith, ltb-true _ _ c.0))
      | inr c ↦
          let t = long_takes bytes x fits c.1 in
          (t.0, rw (le-ltb x.0 5 t.1) (omega (arith, ltb-false _ _ c.0)), t.2)
    ]

-- ---- class and form

abbrev is_context : Class → Bool
is_context Application = false
is_context Context = true

form_bits-lt : (f : Form) → form_bits f < 8
form_bits-lt (Length k) = elim (cases_lt k 5) [ inl b ↦ rw (lt-ltb k 5 b) (omega arith) | inr a ↦ rw (le-ltb k 5 a) (omega arith) ]
form_bits-lt (Boolean true) = omega arith
form_bits-lt (Boolean false) = omega arith
form_bits-lt Opening = omega arith
form_bits-lt Closing = omega arith

length_bits-le : (k : ℕ) → form_bits (Length k) ≤ 5
length_bits-le k = elim (cases_lt k 5) [ inl b ↦ rw (lt-ltb k 5 b) (omega arith) | inr a ↦ rw (le-ltb k 5 a) (omega arith) ]

abbrev made : ℕ → Class → Form → Mark
made n c f = record { number = n; class = c; form = f }

form_again : (n : ℕ) (c : Class) (f : Form) (rest : List ℕ) → IsTrue (tag_fits n c f) → length_fits f
    → form_at (form_bits f) (is_context c) n (form_octets f ++ rest) ≡ Ok (made n c f, rest)
unfolding form_at
form_again n Application (Length k) rest fits lt =
    let p = and_parts (ltb n 13) (not (eqb n 1)) fits in
    let q = not-true (eqb n 1) p.1 in
    rw (le-ltb 12 n (omega (arith, ltb-true _ _ p.0)), q, le-ltb 5 (form_bits (Length k)) (length_bits-le k), length_again k rest lt) refl
form_again n Application (Boolean true) rest fits lt = rw (eqb-true n 1 fits) refl
form_again n Application (Boolean false) rest fits lt = rw (eqb-true n 1 fits) refl
form_again n Application Opening rest fits lt = absurd cc
form_again n Application Closing rest fits lt = absurd cc
form_again n Context (Length k) rest fits lt =
    rw (
      ne_eqb (form_bits (Length k)) 6 (λ e. absurd (omega (arith, length_bits-le k, e))),
      ne_eqb (form_bits (Length k)) 7 (λ e. absurd (omega (arith, length_bits-le k, e))),
      length_again k rest lt,
    ) refl
form_again n Context (Boolean b) rest fits lt = absurd cc
form_again n Context Opening rest fits lt = refl
form_again n Context Closing rest fits lt = refl

IsForm : ℕ → Bool → ℕ → List ℕ → Mark × List ℕ → Type 0
IsForm bits context n bytes x = Takes bytes (form_octets x.0.form) x.1 × (x.0.number ≡ n) × (is_context x.0.class ≡ context) × (bits ≡ form_bits x.0.form)
    × IsTrue (tag_fits x.0.number x.0.class x.0.form) × length_fits x.0.form

with_length : ℕ → ℕ → Class → List ℕ → Result (Mark × List ℕ) FaultKind
with_length bits n c bytes = length_at bits bytes >>= λ k. Ok (made n c (Length k.0), k.1)

with_length_takes : (bits n : ℕ) (c : Class) (bytes : List ℕ) (x : Mark × List ℕ) → bits < 6 → ((k : ℕ) → IsTrue (tag_fits n c (Length k))) → IsBytes bytes
    → with_length bits n c bytes ≡ Ok x → IsForm bits (is_context c) n bytes x
unfolding with_length IsForm
with_length_takes bits n c bytes x small ok fits e =
    let a = bind_ok (length_at bits bytes) (λ k. Ok (made n c (Length k.0), k.1)) x e in
    let t = length_takes bits bytes a.0 small fits a.1 in
    subst (IsForm bits (is_context c) n bytes) (ok_is (made n c (Length a.0.0), a.0.1) x a.2) (t.0, refl, refl, t.1, ok a.0.0, t.2)

bit_is : (bits : ℕ) → bits < 2 → bits ≡ form_bits (Boolean (eqb bits 1))
bit_is zero lt = refl
bit_is (suc zero) lt = refl
bit_is (suc (suc n)) lt = absurd (omega arith)

form_takes : (bits : ℕ) (context : Bool) (n : ℕ) (bytes : List ℕ) (x : Mark × List ℕ) → bits < 8 → n < 255 → IsBytes bytes
    → form_at bits context n bytes ≡ Ok x → IsForm bits context n bytes x
unfolding form_at IsForm with_length
form_takes bits true n bytes x small lt fits e =
    elim (chosen (eqb bits 6) (Ok (made n Context Opening, bytes))
    (cond (eqb bits 7) (Ok (made n Context Closing, bytes)) (with_length bits n Context bytes)) (Ok x) e) [
      | inl c ↦ subst (IsForm bits true n bytes) (ok_is (made n Context Opening, bytes) x c.1)
          (record { parts = refl; rest_fits = fits }, refl, refl, eqb-true _ _ c.0, lt-ltb n 255 lt, tt)
      | inr c ↦ elim (chosen (eqb bits 7) (Ok (made n Context Closing, bytes)) (with_length bits n Context bytes) (Ok x) c.1) [
        | inl d ↦ subst (IsForm bits true n bytes) (ok_is (made n Context Closing, bytes) x d.1)
            (record { parts = refl; rest_fits = fits }, refl, refl, eqb-true _ _ d.0, lt-ltb n 255 lt, tt)
        | inr d ↦
            let h = eqb-false _ _ c.0 in
            let i = eqb-false _ _ d.0 in
            with_length_takes bits n Context bytes x (omega arith) (λ k. lt-ltb n 255 lt) fits d.1
      ]
    ]
form_takes bits false n bytes x small lt fits e =
    let g = unless_ok (ltb 12 n) ReservedTag (cond (eqb n 1) (cond (ltb bits 2) (Ok (made n Application (Boolean (eqb bits 1)), bytes)) (Err BadLength))
    (cond (ltb 5 bits) (Err BadLength) (with_length bits n Application bytes))) x e in
    elim (chosen (eqb n 1) (cond (ltb bits 2) (Ok (made n Application (Boolean (eqb bits 1)), bytes)) (Err BadLength))
    (cond (ltb 5 bits) (Err BadLength) (with_length bits n Application bytes)) (Ok x) g.1) [
      | inl c ↦ elim (chosen (ltb bits 2) (Ok (made n Application (Boolean (eqb bits 1)), bytes)) (Err BadLength) (Ok x) c.1) [
        | inl d ↦ subst (IsForm bits false n bytes) (ok_is (made n Application (Boolean (eqb bits 1)), bytes) x d.1)
            (record { parts = refl; rest_fits = fits }, refl, refl, bit_is bits (ltb-true _ _ d.0), c.0, tt)
        | inr d ↦ absurd cc
      ]
      | inr c ↦
          let h = unless_ok (ltb 5 bits) BadLength (with_length bits n Application bytes) x c.1 in
          let low : n ≤ 12 = ltb-false _ _ g.0 in
          with_length_takes bits n Application bytes x (omega (arith, ltb-false _ _ h.0))
          (λ k. and_from (ltb n 13) (not (eqb n 1)) (lt-ltb n 13 (omega arith)) (rw c.0 refl)) fits h.1
    ]

bit_of_class : (c : Class) → (class_bit c ≡ 0) ⊎ (class_bit c ≡ 8)
bit_of_class Application = inl refl
bit_of_class Context = inr refl

class_again : (c : Class) (high low : ℕ) → low < 8 → eqb ((16 * high + class_bit c + low) / 8 % 2) 1 ≡ is_context c
class_again Application high low lt = ne_eqb _ _ (λ e. absurd (omega (arith, e)))
class_again Context high low lt = eq-eqb _ _ (omega arith)

number_in : (n : ℕ) (c : Class) (f : Form) → IsTrue (tag_fits n c f) → n < 255
number_in n Application (Length k) fits = omega (arith, ltb-true _ _ (and_parts (ltb n 13) (not (eqb n 1)) fits).0)
number_in n Application (Boolean b) fits = omega (arith, eqb-true _ _ fits)
number_in n Application Opening fits = absurd cc
number_in n Application Closing fits = absurd cc
number_in n Context (Length k) fits = ltb-true _ _ fits
number_in n Context (Boolean b) fits = absurd cc
number_in n Context Opening fits = ltb-true _ _ fits
number_in n Context Closing fits = ltb-true _ _ fits

class_takes : (c : Class) (k : ℕ) → k < 2 → is_context c ≡ eqb k 1 → class_bit c ≡ 8 * k
class_takes Application zero lt e = refl
class_takes Application (suc zero) lt e = absurd cc
class_takes Context zero lt e = absurd cc
class_takes Context (suc zero) lt e = refl
class_takes c (suc (suc k)) lt e = absurd (omega arith)

pub tag_number-lt : (t : Mark) (text : List ℕ) → SpellsTag t text → t.number < 255
tag_number-lt t text s = number_in t.number t.class t.form s.fits

pub length_number-lt : (n k : ℕ) → IsTrue (tag_fits n Application (Length k)) → n < 13
length_number-lt n k fits = ltb-true _ _ (and_parts (ltb n 13) (not (eqb n 1)) fits).0

pub tag_again : (t : Mark) (text rest : List ℕ) → SpellsTag t text → tag_at (text ++ rest) ≡ Ok (t, rest)
unfolding tag_at tag_spelling
tag_again t text rest s =
    let n = number_bits t.number in
    let f = form_bits t.form in
    let f-lt = form_bits-lt t.form in
    let bits : (16 * n + class_bit t.class + f) % 8 ≡ f = elim (bit_of_class t.class) [ inl e ↦ rw e (omega arith) | inr e ↦ rw e (omega arith) ] in
    let high : (16 * n + class_bit t.class + f) / 16 ≡ n = elim (bit_of_class t.class) [ inl e ↦ rw e (omega arith) | inr e ↦ rw e (omega arith) ] in
    let regrouped : (number_octets t.number ++ form_octets t.form) ++ rest ≡ number_octets t.number ++ (form_octets t.form ++ rest) =
    append_assoc (number_octets t.number) (form_octets t.form) rest in
    let whole : text ++ rest ≡ (16 * n + class_bit t.class + f) ∷ (number_octets t.number ++ (form_octets t.form ++ rest)) =
    ap (λ (x : List ℕ). x ++ rest) s.is ∙ ap (λ (x : List ℕ). (16 * n + class_bit t.class + f) ∷ x) regrouped in
    ap tag_at whole ∙ rw (
      high,
      number_again t.number (form_octets t.form ++ rest) (number_in t.number t.class t.form s.fits),
      bits,
      class_again t.class n f f-lt,
      form_again t.number t.class t.form rest s.fits s.length_in,
    ) refl

pub tag_takes : (bytes : List ℕ) (x : Mark × List ℕ) → IsBytes bytes → tag_at bytes ≡ Ok x → Takes bytes (tag_spelling x.0) x.1
    × SpellsTag x.0 (tag_spelling x.0)
unfolding tag_at tag_spelling IsForm
tag_takes [] x fits e = absurd cc
tag_takes (b ∷ bytes) x fits e =
    let n = bind_ok (tag_number_at (b / 16) bytes) (λ n. form_at (b % 8) (eqb (b / 8 % 2) 1) n.0 n.1) x e in
    let tn = number_takes (b / 16) bytes n.0 (omega (arith, fits 0)) (IsBytes-rest b bytes fits) n.1 in
    let tf = form_takes (b % 8) (eqb (b / 8 % 2) 1) n.0.0 n.0.1 x (omega arith) tn.2 tn.0.rest_fits n.2 in
    let class-is : class_bit x.0.class ≡ 8 * (b / 8 % 2) = class_takes x.0.class (b / 8 % 2) (omega arith) tf.2 in
    let number-is : number_bits x.0.number ≡ b / 16 = ap number_bits tf.1 ∙ sym tn.1 in
    let head-is : b ≡ 16 * number_bits x.0.number + class_bit x.0.class + form_bits x.0.form = omega (arith, class-is, number-is, tf.3) in
    let octets-is : number_octets n.0.0 ≡ number_octets x.0.number = ap number_octets (sym tf.1) in
    let tail = Takes-then bytes (number_octets n.0.0) n.0.1 (form_octets x.0.form) x.1 tn.0 tf.0 in
    let tail-is : bytes ≡ (number_octets x.0.number ++ form_octets x.0.form) ++ x.1 =
    tail.parts ∙ ap (λ (y : List ℕ). (y ++ form_octets x.0.form) ++ x.1) octets-is in (
      record {
        parts = ap (λ (h : ℕ). h ∷ bytes) head-is
            ∙ ap (λ (y : List ℕ). (16 * number_bits x.0.number + class_bit x.0.class + form_bits x.0.form) ∷ y) tail-is;
        rest_fits = tail.rest_fits;
      },
      record { fits = tf.4; length_in = tf.5; is = refl },
    )

pub tag_exact : IsExact tag_at SpellsTag
tag_exact = record {
  takes = λ bytes x fits e. let t = tag_takes bytes x fits e in (tag_spelling x.0, t.0.parts, t.1);
  again = tag_again;
}
