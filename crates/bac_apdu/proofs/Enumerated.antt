-- The laws of an application Enumerated in an Error.
use Rattle.std.proofs.Common.{◌≡◌, ℕ, zero, suc, ◌+◌, ◌*◌, ◌/◌, ◌%◌, ◌^◌, ◌<◌, ◌≤◌, true, cond, ltb, List, [], ◌∷◌, ◌++◌, length, get_or, Ok, Err, refl, sym}
use Rattle.std.proofs.Common.{ap, subst, ◌∙◌, arith, inl, inr}
use Rattle.std.specs.Int.{w16, w32, from_be_bytes, to_be_bytes}
use Rattle.std.proofs.lemmas.Nat.{be_bytes_4}
use Rattle.std.proofs.lemmas.Bool.{cases_lt, le-ltb, lt-ltb, eqb-true}
use Rattle.bac_value.specs.declared.tag.Class.{Class}
use Rattle.bac_value.specs.declared.tag.Class.TheVariants.{Application, Context}
use Rattle.bac_value.specs.declared.tag.Form.{Form}
use Rattle.bac_value.specs.declared.tag.Form.TheVariants.{Length, Boolean, Opening, Closing}
use Rattle.bac_value.specs.Octets.{IsBytes}
use Rattle.bac_value.specs.Spelling.{Mark, tag_spelling, SpellsTag}
use Rattle.bac_value.specs.Value.{IsNumber, SpellsValue, null, boolean, unsigned, signed, real, double, octets, characters, bits, enumerated, date, time}
use Rattle.bac_value.specs.Value.{object}
use Rattle.bac_value.specs.Element.{IsOfKind}
use Rattle.bac_value.specs.Reading.{tag_at, kind_at, number_at, element_at}
use Rattle.bac_value.specs.Number.{number_in, unsigned_octets}
use Rattle.bac_value.specs.Writing.{primitive, value_spelling}
use Rattle.bac_value.proofs.OneSpelling.{value_only, contents_only}
use Rattle.bac_value.proofs.Values.{IsContents-of, value_spelled}
use Rattle.bac_value.proofs.Steps.{Takes, Takes-then, bind_ok, chosen, ok_is}
use Rattle.bac_value.proofs.Tags.{tag_takes, tag_again}
use Rattle.bac_value.proofs.RightContents.{kind_again}
use Rattle.bac_value.proofs.Numbers.{few_octets, number_in-lt}
use Rattle.bac_value.proofs.Elements.{kind_front, kind_of, right_again}
use Rattle.bac_apdu.specs.declared.fault.ApduFault.TheVariants.{BadError}
use Rattle.bac_apdu.specs.Spelling.{enumerated_spelling}
use Rattle.bac_apdu.specs.Reading.{from_value, no_enumerated, is_enumerated, after_tag, enumerated_at}
use Rattle.bac_apdu.proofs.Steps.{from_value_ok}

-- ---- a number in the fewest octets, at most four

-- the spelling is the tag's octet, then the contents
spelled_number : (n : ℕ) (xs : List ℕ) → IsNumber 4 n xs → enumerated_spelling n ≡ (144 + length xs) ∷ xs
spelled_number n [] h = absurd (omega (arith, h.spelled.some))
spelled_number n (a ∷ []) h =
    let sum : n ≡ a = omega (arith, h.spelled.sum) in
    rw (lt-ltb n 256 (omega (arith, h.spelled.octets 0)), sum) refl
spelled_number n (a ∷ b ∷ []) h =
    let o = h.spelled.octets in
    let first : 0 < a = h.spelled.shortest (omega arith) in
    let sum : n ≡ a * 256 + b = omega (arith, h.spelled.sum) in
    let low : n % 256 ≡ b = omega (arith, o 1) in
    let high : n / 256 % 256 ≡ a = omega (arith, o 0, o 1) in
    rw (le-ltb n 256 (omega arith), lt-ltb n 65536 (omega (arith, o 0, o 1)), high, low) refl
spelled_number n (a ∷ b ∷ c ∷ []) h =
    let o = h.spelled.octets in
    let first : 0 < a = h.spelled.shortest (omega arith) in
    let sum : n ≡ a * 65536 + (b * 256 + c) = omega (arith, h.spelled.sum) in
    let high : n / 65536 ≡ a = omega (arith, o 1, o 2) in
    let rest : n % 65536 ≡ b * 256 + c = omega (arith, o 1, o 2) in
    let middle : (b * 256 + c) / 256 % 256 ≡ b = omega (arith, o 1, o 2) in
    let low : (b * 256 + c) % 256 ≡ c = omega (arith, o 2) in
    rw (le-ltb n 256 (omega arith), le-ltb n 65536 (omega arith), lt-ltb n 16777216 (omega (arith, o 0, o 1, o 2)), high, rest, middle, low) refl
spelled_number n (a ∷ b ∷ c ∷ d ∷ []) h =
    let o = h.spelled.octets in
    let first : 0 < a = h.spelled.shortest (omega arith) in
    let xs : List ℕ = a ∷ b ∷ c ∷ d ∷ [] in
    let is : n ≡ from_be_bytes w32 xs = omega (arith, h.spelled.sum) in
    let same : to_be_bytes w32 n ≡ xs = ap (to_be_bytes w32) is ∙ be_bytes_4 xs _ refl o refl in
    let high : 16777216 ≤ n = omega (arith, h.spelled.sum, first) in
    rw (le-ltb n 256 (omega (arith, high)), le-ltb n 65536 (omega (arith, high)), le-ltb n 16777216 high) (ap (λ (x : List ℕ). 148 ∷ x) same)
spelled_number n (a ∷ b ∷ c ∷ d ∷ e ∷ xs) h = absurd (omega (arith, h.few))

-- the contents of a number, by its size
number_octets : ℕ → List ℕ
number_octets n =
    cond (ltb n 256) (n ∷ []) (cond (ltb n 65536) (to_be_bytes w16 n) (cond (ltb n 16777216) (n / 65536 ∷ to_be_bytes w16 (n % 65536)) (to_be_bytes w32 n)))

tag_octet : (n : ℕ) → enumerated_spelling n ≡ (144 + length (number_octets n)) ∷ number_octets n
unfolding number_octets
tag_octet n =
    elim (cases_lt n 256) [
      | inl a ↦ rw (lt-ltb n 256 a) refl
      | inr a ↦ elim (cases_lt n 65536) [
        | inl b ↦ rw (le-ltb n 256 a, lt-ltb n 65536 b) refl
        | inr b ↦ elim (cases_lt n 16777216) [
          | inl c ↦ rw (le-ltb n 256 a, le-ltb n 65536 b, lt-ltb n 16777216 c) refl
          | inr c ↦ rw (le-ltb n 256 a, le-ltb n 65536 b, le-ltb n 16777216 c) refl
        ]
      ]
    ]

one_octet : (a : ℕ) → a < 256 → IsBytes (a ∷ [])
one_octet a la zero = la
one_octet a la (suc i) = omega arith

two_octets : (a b : ℕ) → a < 256 → b < 256 → IsBytes (a ∷ b ∷ [])
two_octets a b la lb zero = la
two_octets a b la lb (suc i) = one_octet b lb i

three_octets : (a b c : ℕ) → a < 256 → b < 256 → c < 256 → IsBytes (a ∷ b ∷ c ∷ [])
three_octets a b c la lb lc zero = la
three_octets a b c la lb lc (suc i) = two_octets b c lb lc i

four_octets : (a b c d : ℕ) → a < 256 → b < 256 → c < 256 → d < 256 → IsBytes (a ∷ b ∷ c ∷ d ∷ [])
four_octets a b c d la lb lc ld zero = la
four_octets a b c d la lb lc ld (suc i) = three_octets b c d lb lc ld i

shorter : (n : ℕ) (xs : List ℕ) → IsBytes xs → number_in xs ≡ n → 0 < length xs → length xs ≤ 4 → (1 < length xs → 0 < get_or xs 0 0) → IsNumber 4 n xs
shorter n xs each sum some few first = record { spelled = record { octets = each; sum = sum; some = some; shortest = first }; few = few }

number_is : (n : ℕ) → n < 2 ^ 32 → IsNumber 4 n (number_octets n)
unfolding number_octets
number_is n lt =
    elim (cases_lt n 256) [
      | inl a ↦ rw (lt-ltb n 256 a) (shorter n (n ∷ []) (one_octet n a) (omega arith) (omega arith) (omega arith) (λ h. absurd (omega arith)))
      | inr a ↦ elim (cases_lt n 65536) [
        | inl b ↦ rw (le-ltb n 256 a, lt-ltb n 65536 b)
            (shorter n (to_be_bytes w16 n) (two_octets _ _ (omega arith) (omega arith)) (omega arith) (omega arith) (omega arith) (λ h. omega arith))
        | inr b ↦ elim (cases_lt n 16777216) [
          | inl c ↦ rw (le-ltb n 256 a, le-ltb n 65536 b, lt-ltb n 16777216 c)
              (shorter n (n / 65536 ∷ to_be_bytes w16 (n % 65536)) (three_octets _ _ _ (omega arith) (omega arith) (omega arith)) (omega arith)
              (omega arith) (omega arith) (λ h. omega arith))
          | inr c ↦ rw (le-ltb n 256 a, le-ltb n 65536 b, le-ltb n 16777216 c)
              (shorter n (to_be_bytes w32 n) (four_octets _ _ _ _ (omega arith) (omega arith) (omega arith) (omega arith)) (omega arith) (omega arith)
              (omega arith) (λ h. omega arith))
        ]
      ]
    ]

-- ---- the laws

abbrev tag_of : ℕ → Mark
tag_of k = record { number = 9; class = Application; form = Length k }

few_bits : (k : ℕ) → 0 < k → k ≤ 4 → tag_spelling (tag_of k) ≡ (144 + k) ∷ []
unfolding tag_spelling
few_bits k some few = let low : ltb k 5 ≡ true = lt-ltb k 5 (omega arith) in rw low refl

pub enumerated_again : (n : ℕ) (rest : List ℕ) → n < 2 ^ 32 → enumerated_at (enumerated_spelling n ++ rest) ≡ Ok (n, rest)
unfolding enumerated_at after_tag is_enumerated number_at
enumerated_again n rest lt =
    let xs = number_octets n in
    let h = number_is n lt in
    let k = length xs in
    let tag : SpellsTag (tag_of k) (tag_spelling (tag_of k)) = record { fits = refl; length_in = omega (arith, h.few); is = refl } in
    let read_tag : tag_at ((144 + k) ∷ (xs ++ rest)) ≡ Ok (tag_of k, xs ++ rest) =
    subst (λ (t : List ℕ). tag_at (t ++ (xs ++ rest)) ≡ Ok (tag_of k, xs ++ rest)) (few_bits k h.spelled.some h.few)
    (tag_again (tag_of k) (tag_spelling (tag_of k)) (xs ++ rest) tag) in
    let read_number : kind_at 9 k (xs ++ rest) ≡ Ok (xs, rest) = right_again 9 k xs rest refl (kind_again (enumerated n) xs h) in
    rw (tag_octet n) (rw (read_tag, read_number, h.spelled.sum) refl)

is_application : (c : Class) (number : ℕ) → is_enumerated c number ≡ true → (c ≡ Application) × (number ≡ 9)
unfolding is_enumerated
is_application Application number e = (refl, eqb-true _ _ e)
is_application Context number e = absurd cc

number_of_kind : (xs : List ℕ) → IsOfKind 9 xs → IsNumber 4 (number_in xs) xs
number_of_kind xs (null, is, h) = absurd (omega (arith, is))
number_of_kind xs (boolean b, is, h) = absurd (omega (arith, is))
number_of_kind xs (unsigned n, is, h) = absurd (omega (arith, is))
number_of_kind xs (signed z, is, h) = absurd (omega (arith, is))
number_of_kind xs (real a, is, h) = absurd (omega (arith, is))
number_of_kind xs (double a, is, h) = absurd (omega (arith, is))
number_of_kind xs (octets a, is, h) = absurd (omega (arith, is))
number_of_kind xs (characters set text, is, h) = absurd (omega (arith, is))
number_of_kind xs (bits unused text, is, h) = absurd (omega (arith, is))
number_of_kind xs (enumerated n, is, h) = subst (λ (m : ℕ). IsNumber 4 m xs) (sym h.spelled.sum) h
number_of_kind xs (date a, is, h) = absurd (omega (arith, is))
number_of_kind xs (time a, is, h) = absurd (omega (arith, is))
number_of_kind xs (object i, is, h) = absurd (omega (arith, is))

IsEnumerated : List ℕ → ℕ × List ℕ → Type 0
IsEnumerated bytes x = Takes bytes (enumerated_spelling x.0) x.1 × (x.0 < 2 ^ 32)

no_value : (bytes : List ℕ) (x : ℕ × List ℕ) → no_enumerated bytes ≡ Ok x → ⊥
unfolding no_enumerated
no_value bytes x e = let one = bind_ok (from_value (element_at bytes)) (λ element. Err BadError) x e in let no = one.2 in cc

after_tag_takes : (n : ℕ) (c : Class) (f : Form) (rest bytes : List ℕ) (x : ℕ × List ℕ)
    → Takes bytes (tag_spelling (record { number = n; class = c; form = f })) rest
    → after_tag (record { number = n; class = c; form = f }) f rest bytes ≡ Ok x → IsEnumerated bytes x
unfolding after_tag number_at IsEnumerated
after_tag_takes n c (Length k) rest bytes x took e =
    elim (chosen (is_enumerated c n) (from_value (number_at 9 k rest)) (no_enumerated bytes) (Ok x) e) [
      | inl h ↦
          let contents = bind_ok (kind_at 9 k rest) (λ y. Ok (number_in y.0, y.1)) x (from_value_ok (number_at 9 k rest) x h.1) in
          let xs : List ℕ = contents.0.0 in
          let front = kind_front 9 k rest contents.0 took.rest_fits contents.1 in
          let number = number_of_kind xs (kind_of 9 k rest contents.0 (omega arith) front) in
          let is = is_application c n h.0 in
          let mark : ℕ → Class → Mark = λ m d. record { number = m; class = d; form = Length k } in
          let tag : tag_spelling (mark n c) ≡ (144 + length xs) ∷ [] =
          ap (λ (m : ℕ). tag_spelling (mark m c)) is.1 ∙ ap (λ (d : Class). tag_spelling (mark 9 d)) is.0
          ∙ few_bits k (omega (arith, front.raw.len, number.spelled.some)) (omega (arith, front.raw.len, number.few))
          ∙ ap (λ (m : ℕ). (144 + m) ∷ []) (sym front.raw.len) in
          let both = Takes-then bytes (tag_spelling (mark n c)) rest xs contents.0.1 took front.raw.took in
          let octets-are : tag_spelling (mark n c) ++ xs ≡ enumerated_spelling (number_in xs) =
          ap (λ (t : List ℕ). t ++ xs) tag ∙ sym (spelled_number (number_in xs) xs number) in
          subst (IsEnumerated bytes) (ok_is (number_in xs, contents.0.1) x contents.2)
          (subst (λ (t : List ℕ). Takes bytes t contents.0.1) octets-are both, few_octets xs 4 (number_in xs) number.few (number_in-lt xs front.raw.fits))
      | inr h ↦ absurd (no_value bytes x h.1)
    ]
after_tag_takes n c (Boolean b) rest bytes x took e = absurd (no_value bytes x e)
after_tag_takes n c Opening rest bytes x took e = absurd (no_value bytes x e)
after_tag_takes n c Closing rest bytes x took e = absurd (no_value bytes x e)

pub enumerated_takes : (bytes : List ℕ) (x : ℕ × List ℕ) → IsBytes bytes → enumerated_at bytes ≡ Ok x → Takes bytes (enumerated_spelling x.0) x.1
    × (x.0 < 2 ^ 32)
unfolding enumerated_at IsEnumerated
enumerated_takes bytes x fits e =
    let tag = bind_ok (from_value (tag_at bytes)) (λ t. after_tag t.0 t.0.form t.1 bytes) x e in
    let took = tag_takes bytes tag.0 fits (from_value_ok (tag_at bytes) tag.0 tag.1) in
    after_tag_takes tag.0.0.number tag.0.0.class tag.0.0.form tag.0.1 bytes x took.0 tag.2

-- the spelling is that of an application value
pub enumerated_value : (n : ℕ) → n < 2 ^ 32 → SpellsValue (enumerated n) (enumerated_spelling n)
enumerated_value n lt =
    let h = number_is n lt in
    record {
      contents = number_octets n;
      are = h;
      fits = omega (arith, h.few);
      is = tag_octet n ∙ ap (λ (t : List ℕ). t ++ number_octets n) (sym (few_bits (length (number_octets n)) h.spelled.some h.few));
    }

-- the spelling is what the writer of application values appends
pub enumerated_is : (n : ℕ) → n < 2 ^ 32 → enumerated_spelling n ≡ primitive Application 9 (unsigned_octets n)
enumerated_is n lt = value_only (enumerated n) (enumerated_spelling n) (value_spelling (enumerated n)) (enumerated_value n lt) (value_spelled (enumerated n) lt)

pub enumerated_few : (n : ℕ) → n < 2 ^ 32 → (length (enumerated_spelling n) ≡ 1 + length (unsigned_octets n)) × (length (enumerated_spelling n) ≤ 5)
enumerated_few n lt =
    let h = number_is n lt in
    let few : length (enumerated_spelling n) ≤ 5 = rw (tag_octet n) (omega (arith, h.few)) in
    let contents : number_octets n ≡ unsigned_octets n = contents_only (enumerated n) (number_octets n) (unsigned_octets n) h (IsContents-of (enumerated n) lt) in
    (omega (arith, ap length (tag_octet n), ap length contents), few)
