-- A value has one spelling, and no spelling is the beginning of another.
use Rattle.std.proofs.Common.{◌≡◌, ℕ, zero, suc, ◌+◌, ◌-◌, ◌*◌, ◌^◌, ◌<◌, ◌≤◌, ℤ, pos, negsuc, ◌-ℤ◌, List, [], ◌∷◌, ◌++◌, length, get_or}
use Rattle.std.proofs.Common.{refl, sym, ap, subst, ◌∙◌, arith, inl, inr, IsTrue}
use Rattle.std.proofs.Math.Nat.{pow-suc, pow-le-pow_right, mul-le-mul_right}
use Rattle.std.proofs.lemmas.Nat.{same_from_place}
use Rattle.std.proofs.lemmas.Bool.{cases_lt, cases_order, lt-ltb, le-ltb}
use Rattle.std.proofs.lemmas.Int.{ints}
use Rattle.bac_value.specs.Octets.{IsBytes}
use Rattle.bac_value.specs.declared.tag.Class.TheVariants.{Application}
use Rattle.bac_value.specs.declared.tag.Form.{Form}
use Rattle.bac_value.specs.declared.tag.Form.TheVariants.{Length, Boolean, Opening, Closing}
use Rattle.bac_value.specs.Limits.{tag_fits}
use Rattle.bac_value.specs.Spelling.{tag_spelling, length_fits}
use Rattle.bac_value.specs.Element.{Part, IsAnnounced, SpellsElement}
use Rattle.bac_value.specs.Meaning.{datum_in}
use Rattle.bac_value.specs.Reading.{element_at}
use Rattle.bac_value.specs.Number.{number_in, signed_in, IsUnsigned, IsSigned, distance}
use Rattle.bac_value.specs.Value.{Datum, null, boolean, unsigned, signed, real, double, octets, characters, bits, enumerated, date, time}
use Rattle.bac_value.specs.Value.{object, kind_number, form_of, IsContents, mark_for, SpellsValue}
use Rattle.bac_value.proofs.Steps.{IsBytes-rest, one_only}
use Rattle.bac_value.proofs.Elements.{element_exact}
use Rattle.bac_value.proofs.ContentLaws.{object_again}
use Rattle.bac_value.proofs.Numbers.{number_in-lt}
use Rattle.bac_value.proofs.Signs.{half_power, whole_power}

-- two lists of octets with the same length and the same number are equal
same_octets : (xs ys : List ℕ) → length xs ≡ length ys → IsBytes xs → IsBytes ys → number_in xs ≡ number_in ys → xs ≡ ys
same_octets [] [] len p q e = refl
same_octets [] (y ∷ ys) len p q e = absurd (omega arith)
same_octets (x ∷ xs) [] len p q e = absurd (omega arith)
same_octets (x ∷ xs) (y ∷ ys) len p q e =
    let k : length xs ≡ length ys = omega (arith, len) in
    let below : number_in xs < 256 ^ length xs = number_in-lt xs (IsBytes-rest x xs p) in
    let below' : number_in ys < 256 ^ length xs = rw k (number_in-lt ys (IsBytes-rest y ys q)) in
    let e' : x * 256 ^ length xs + number_in xs ≡ y * 256 ^ length xs + number_in ys = e ∙ ap (λ j. y * 256 ^ j + number_in ys) (sym k) in
    let same = same_from_place x (number_in xs) y (number_in ys) (256 ^ length xs) below below' e' in
    let ih = same_octets xs ys k (IsBytes-rest x xs p) (IsBytes-rest y ys q) same.1 in
    cc

-- ---- unsigned numbers

at_least : (xs : List ℕ) → 1 < length xs → 0 < get_or xs 0 0 → 256 ^ (length xs - 1) ≤ number_in xs
at_least [] h p = absurd (omega arith)
at_least (x ∷ xs) h p =
    let e : suc (length xs) - 1 ≡ length xs = omega arith in
    let one : 1 * 256 ^ length xs ≤ x * 256 ^ length xs = mul-le-mul_right (256 ^ length xs) p in
    rw e (omega (arith, one))

longer : (n : ℕ) (xs ys : List ℕ) → IsUnsigned n xs → IsUnsigned n ys → length xs < length ys → ⊥
longer n xs ys p q lt =
    let low = at_least ys (omega (arith, p.some)) (q.shortest (omega (arith, p.some))) in
    let high = number_in-lt xs p.octets in
    let grows : 256 ^ length xs ≤ 256 ^ (length ys - 1) = pow-le-pow_right (omega arith) (omega arith) in
    omega (arith, low, high, grows, p.sum, q.sum)

pub unsigned_only : (n : ℕ) (xs ys : List ℕ) → IsUnsigned n xs → IsUnsigned n ys → xs ≡ ys
unsigned_only n xs ys p q =
    elim (cases_order (length xs) (length ys)) [
      | inl e ↦ same_octets xs ys e p.octets q.octets (p.sum ∙ sym q.sum)
      | inr o ↦ elim o [ inl lt ↦ absurd (longer n xs ys p q lt) | inr gt ↦ absurd (longer n ys xs q p gt) ]
    ]

-- ---- signed numbers

-- the unsigned number with the same k octets as a signed number
placed : ℤ → ℕ → ℕ
placed (pos m) k = m
placed (negsuc m) k = 256 ^ k - 1 - m

-- k octets, and no fewer, are the contents of the signed number
record IsPlaced (z : ℤ) (n k : ℕ) : Type 0 where
  some : 0 < k
  fits : distance z < 128 * 256 ^ (k - 1)
  least : 1 < k → 128 * 256 ^ (k - 2) ≤ distance z
  number : n ≡ placed z k

signed_low : (xs : List ℕ) (j : ℕ) → length xs ≡ suc j → number_in xs < 128 * 256 ^ j → signed_in xs ≡ pos (number_in xs)
signed_low xs j len lt = rw (len, half_power j, lt-ltb (number_in xs) (128 * 256 ^ j) lt) refl

below_zero : (n whole : ℕ) → n < whole → pos n -ℤ pos whole ≡ negsuc (whole - 1 - n)
below_zero n whole lt = omega (arith, ints)

signed_high : (xs : List ℕ) (j : ℕ) → length xs ≡ suc j → 128 * 256 ^ j ≤ number_in xs → number_in xs < 256 * 256 ^ j
    → signed_in xs ≡ negsuc (256 * 256 ^ j - 1 - number_in xs)
signed_high xs j len le lt = rw (len, half_power j, whole_power j, le-ltb (number_in xs) (128 * 256 ^ j) le) (below_zero (number_in xs) (256 * 256 ^ j) lt)

-- what the first two octets must be if more octets follow
front_low : (x y p r : ℕ) → (x ≡ 0 → 128 ≤ y) → 128 * p ≤ x * (p * 256) + (y * p + r)
front_low zero y p r h = let two : 128 * p ≤ y * p = mul-le-mul_right p (h refl) in omega (arith, two)
front_low (suc x) y p r h = let one : 1 * (p * 256) ≤ suc x * (p * 256) =
    (let le : 1 ≤ suc x = omega arith in mul-le-mul_right (p * 256) le) in omega (arith, one)

front_high : (x y p r : ℕ) → x < 256 → y < 256 → r < p → (x ≡ 255 → y < 128) → x * (p * 256) + (y * p + r) < 65408 * p
front_high x y p r xlt ylt rlt h =
    elim (cases_lt x 255) [
      | inl lt ↦
          let one : x * (p * 256) ≤ 254 * (p * 256) = (let le : x ≤ 254 = omega arith in mul-le-mul_right (p * 256) le) in
          let two : y * p ≤ 255 * p = (let le : y ≤ 255 = omega arith in mul-le-mul_right p le) in
          omega (arith, one, two, rlt)
      | inr ge ↦
          let one : x * (p * 256) ≤ 255 * (p * 256) = (let le : x ≤ 255 = omega arith in mul-le-mul_right (p * 256) le) in
          let less : y < 128 = h (omega arith) in
          let two : y * p ≤ 127 * p = (let le : y ≤ 127 = omega arith in mul-le-mul_right p le) in
          omega (arith, one, two, rlt)
    ]

-- bounds of the number if no octet is redundant
record IsBetween (n j : ℕ) : Type 0 where
  low : (i : ℕ) → j ≡ suc i → 128 * 256 ^ i ≤ n
  high : (i : ℕ) → j ≡ suc i → n < 65408 * 256 ^ i

between_of : (xs : List ℕ) (j : ℕ) → length xs ≡ suc j → IsBytes xs → (1 < length xs → get_or xs 0 0 ≡ 0 → 128 ≤ get_or xs 1 0)
    → (1 < length xs → get_or xs 0 0 ≡ 255 → get_or xs 1 0 < 128) → IsBetween (number_in xs) j
between_of [] j len fits zeros ones = absurd (omega arith)
between_of (x ∷ []) j len fits zeros ones = record { low = λ i e. absurd (omega (arith, e)); high = λ i e. absurd (omega (arith, e)) }
between_of (x ∷ y ∷ r) j len fits zeros ones =
    let p = 256 ^ length r in
    let power : 256 ^ suc (length r) ≡ p * 256 = pow-suc 256 (length r) in
    let rest = number_in-lt r (IsBytes-rest y r (IsBytes-rest x (y ∷ r) fits)) in
    let l = front_low x y p (number_in r) (zeros (omega arith)) in
    let h = front_high x y p (number_in r) (fits 0) (fits 1) rest (ones (omega arith)) in
    let number : x * 256 ^ suc (length r) + (y * p + number_in r) ≡ x * (p * 256) + (y * p + number_in r) =
    ap (λ (q : ℕ). x * q + (y * p + number_in r)) power in
    let at : (i : ℕ) → j ≡ suc i → length r ≡ i = λ i e. omega (arith, len, e) in
    record {
      low = λ i e. subst (λ (k : ℕ). 128 * 256 ^ k ≤ number_in (x ∷ y ∷ r)) (at i e) (omega (arith, l, number));
      high = λ i e. subst (λ (k : ℕ). number_in (x ∷ y ∷ r) < 65408 * 256 ^ k) (at i e) (omega (arith, h, number));
    }

placed_low : (n j : ℕ) → n < 128 * 256 ^ j → IsBetween n j → IsPlaced (pos n) n (suc j)
unfolding placed
placed_low n j lt b =
    let e : suc j - 1 ≡ j = omega arith in
    record {
      some = omega arith;
      fits = rw e lt;
      least = λ more. let i : j ≡ suc (j - 1) = omega (arith, more) in let at : suc j - 2 ≡ j - 1 = omega arith in rw at (b.low (j - 1) i);
      number = refl;
    }

placed_high : (n j : ℕ) → 128 * 256 ^ j ≤ n → n < 256 * 256 ^ j → IsBetween n j → IsPlaced (negsuc (256 * 256 ^ j - 1 - n)) n (suc j)
unfolding placed
placed_high n j le lt b =
    let e : suc j - 1 ≡ j = omega arith in
    let whole : 256 ^ suc j ≡ 256 ^ j * 256 = pow-suc 256 j in
    record {
      some = omega arith;
      fits = rw e (omega (arith, le, lt));
      least = λ more.
          let i : j ≡ suc (j - 1) = omega (arith, more) in
          let at : suc j - 2 ≡ j - 1 = omega arith in
          let power : 256 ^ j ≡ 256 ^ (j - 1) * 256 = ap (λ k. 256 ^ k) i ∙ pow-suc 256 (j - 1) in
          rw at (omega (arith, b.high (j - 1) i, power));
      number = omega (arith, whole, lt);
    }

signed_placed : (xs : List ℕ) (j : ℕ) → length xs ≡ suc j → IsBytes xs → IsBetween (number_in xs) j → IsPlaced (signed_in xs) (number_in xs) (suc j)
signed_placed xs j len fits b =
    let below = number_in-lt xs fits in
    let power : 256 ^ length xs ≡ 256 ^ j * 256 = ap (λ k. 256 ^ k) len ∙ pow-suc 256 j in
    let all : number_in xs < 256 * 256 ^ j = omega (arith, below, power) in
    elim (cases_lt (number_in xs) (128 * 256 ^ j)) [
      | inl lt ↦ rw (signed_low xs j len lt) (placed_low (number_in xs) j lt b)
      | inr le ↦ rw (signed_high xs j len le all) (placed_high (number_in xs) j le all b)
    ]

is_placed : (z : ℤ) (xs : List ℕ) → IsSigned z xs → IsPlaced z (number_in xs) (length xs)
is_placed z xs s =
    let len : length xs ≡ suc (length xs - 1) = let some = s.some in omega arith in
    let b = between_of xs (length xs - 1) len s.octets s.zeros s.ones in
    subst (λ (k : ℕ). IsPlaced z (number_in xs) k) (sym len)
    (subst (λ (y : ℤ). IsPlaced y (number_in xs) (suc (length xs - 1))) s.sum (signed_placed xs (length xs - 1) len s.octets b))

wider : (z : ℤ) (n m k l : ℕ) → IsPlaced z n k → IsPlaced z m l → k < l → ⊥
wider z n m k l p q lt =
    let some = p.some in
    let low = q.least (omega arith) in
    let grows : 256 ^ (k - 1) ≤ 256 ^ (l - 2) = pow-le-pow_right (omega arith) (omega arith) in
    omega (arith, low, p.fits, grows)

same_width : (z : ℤ) (xs ys : List ℕ) → IsSigned z xs → IsSigned z ys → length xs ≡ length ys → xs ≡ ys
same_width z xs ys p q e = same_octets xs ys e p.octets q.octets ((is_placed z xs p).number ∙ ap (placed z) e ∙ sym (is_placed z ys q).number)

pub signed_only : (z : ℤ) (xs ys : List ℕ) → IsSigned z xs → IsSigned z ys → xs ≡ ys
signed_only z xs ys p q =
    let a = is_placed z xs p in
    let b = is_placed z ys q in
    elim (cases_order (length xs) (length ys)) [
      | inl e ↦ same_width z xs ys p q e
      | inr o ↦ elim o [ inl lt ↦ absurd (wider z _ _ (length xs) (length ys) a b lt) | inr gt ↦ absurd (wider z _ _ (length ys) (length xs) b a gt) ]
    ]

-- ---- values

pub contents_only : (d : Datum) (xs ys : List ℕ) → IsContents d xs → IsContents d ys → xs ≡ ys
contents_only null xs ys p q = p ∙ sym q
contents_only (boolean b) xs ys p q = p ∙ sym q
contents_only (unsigned n) xs ys p q = unsigned_only n xs ys p.spelled q.spelled
contents_only (signed z) xs ys p q = signed_only z xs ys p.spelled q.spelled
contents_only (real a) xs ys p q = p.is ∙ sym q.is
contents_only (double a) xs ys p q = p.is ∙ sym q.is
contents_only (octets a) xs ys p q = p ∙ sym q
contents_only (characters set a) xs ys p q = p ∙ sym q
contents_only (bits unused a) xs ys p q = p.is ∙ sym q.is
contents_only (enumerated n) xs ys p q = unsigned_only n xs ys p.spelled q.spelled
contents_only (date a) xs ys p q = p.is ∙ sym q.is
contents_only (time a) xs ys p q = p.is ∙ sym q.is
contents_only (object i) xs ys p q = p.is ∙ sym q.is

pub value_only : (d : Datum) (a b : List ℕ) → SpellsValue d a → SpellsValue d b → a ≡ b
value_only d a b p q = p.is ∙ ap (λ (xs : List ℕ). tag_spelling (mark_for d (length xs)) ++ xs) (contents_only d p.contents q.contents p.are q.are) ∙ sym q.is

-- ---- values as elements

form_fits : (d : Datum) (k : ℕ) → IsTrue (tag_fits (kind_number d) Application (form_of d k))
form_fits null k = refl
form_fits (boolean b) k = refl
form_fits (unsigned n) k = refl
form_fits (signed z) k = refl
form_fits (real a) k = refl
form_fits (double a) k = refl
form_fits (octets a) k = refl
form_fits (characters set a) k = refl
form_fits (bits unused a) k = refl
form_fits (enumerated n) k = refl
form_fits (date a) k = refl
form_fits (time a) k = refl
form_fits (object i) k = refl

length_form : (d : Datum) (k : ℕ) → k < 2 ^ 32 → length_fits (form_of d k)
length_form null k h = h
length_form (boolean b) k h = tt
length_form (unsigned n) k h = h
length_form (signed z) k h = h
length_form (real a) k h = h
length_form (double a) k h = h
length_form (octets a) k h = h
length_form (characters set a) k h = h
length_form (bits unused a) k h = h
length_form (enumerated n) k h = h
length_form (date a) k h = h
length_form (time a) k h = h
length_form (object i) k h = h

announced : (d : Datum) (xs : List ℕ) → IsContents d xs → IsAnnounced Application (kind_number d) (form_of d (length xs)) xs
announced null xs h = (refl, (null, refl, h))
announced (boolean b) xs h = h
announced (unsigned n) xs h = (refl, (unsigned n, refl, h))
announced (signed z) xs h = (refl, (signed z, refl, h))
announced (real a) xs h = (refl, (real a, refl, h))
announced (double a) xs h = (refl, (double a, refl, h))
announced (octets a) xs h = (refl, (octets a, refl, h))
announced (characters set a) xs h = (refl, (characters set a, refl, h))
announced (bits unused a) xs h = (refl, (bits unused a, refl, h))
announced (enumerated n) xs h = (refl, (enumerated n, refl, h))
announced (date a) xs h = (refl, (date a, refl, h))
announced (time a) xs h = (refl, (time a, refl, h))
announced (object i) xs h = (refl, (object i, refl, h))

abbrev pub value_part : Datum → List ℕ → Part
value_part d xs = record { mark = mark_for d (length xs); contents = xs }

pub value_element : (d : Datum) (a : List ℕ) (s : SpellsValue d a) → SpellsElement (value_part d s.contents) a
value_element d a s = record {
  tag = record { fits = form_fits d (length s.contents); length_in = length_form d (length s.contents) s.fits; is = refl };
  contents = announced d s.contents s.are;
  is = s.is;
}

-- the value that a tag and contents encode
value_by : Form → ℕ → List ℕ → Datum
value_by (Length k) n xs = datum_in n xs
value_by (Boolean b) n xs = boolean b
value_by Opening n xs = null
value_by Closing n xs = null

value_back : (d : Datum) (xs : List ℕ) → IsContents d xs → value_by (form_of d (length xs)) (kind_number d) xs ≡ d
unfolding value_by
value_back null xs h = refl
value_back (boolean b) xs h = refl
value_back (unsigned n) xs h = ap unsigned h.spelled.sum
value_back (signed z) xs h = ap signed h.spelled.sum
value_back (real a) xs h = ap real h.is
value_back (double a) xs h = ap double h.is
value_back (octets a) xs h = ap octets h
value_back (characters set a) xs h = rw h refl
value_back (bits unused a) xs h = rw h.is refl
value_back (enumerated n) xs h = ap enumerated h.spelled.sum
value_back (date a) xs h = ap date h.is
value_back (time a) xs h = ap time h.is
value_back (object i) xs h = ap object (object_again i xs h)

pub values_apart : (d e : Datum) (a b c f : List ℕ) → SpellsValue d a → SpellsValue e b → a ++ c ≡ b ++ f → (d ≡ e) × (a ≡ b)
values_apart d e a b c f p q same =
    let one = one_only element_at SpellsElement element_exact (value_part d p.contents) (value_part e q.contents) a b c f (value_element d a p)
    (value_element e b q) same in
    let mid : value_by (form_of d (length p.contents)) (kind_number d) p.contents ≡ value_by (form_of e (length q.contents)) (kind_number e) q.contents =
    ap (λ (x : Part). value_by x.mark.form x.mark.number x.contents) one.0 in
    (sym (value_back d p.contents p.are) ∙ mid ∙ value_back e q.contents q.are, one.1)
