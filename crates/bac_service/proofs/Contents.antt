-- The contents that a reader accepts, together with their length, are exactly those of their kind.
use Rattle.std.proofs.Common.{◌≡◌, ℕ, ◌+◌, ◌*◌, ◌<◌, ◌/◌, ◌%◌, ◌^◌, [], ◌∷◌, lit<, ◌++◌, length, Ok, refl, sym, ap, subst, ◌∙◌, arith}
use Rattle.std.specs.Int.{w32, from_be_bytes}
use Rattle.std.proofs.lemmas.Bool.{eqb-true}
use Rattle.bac_value.proofs.Tags.{wide32}
use Rattle.bac_value.specs.Octets.{IsBytes}
use Rattle.bac_value.specs.Number.{number_in, signed_in}
use Rattle.bac_value.specs.Value.{Datum, null, boolean, unsigned, signed, real, double, octets, characters, bits, enumerated, date, time, object, ObjectId}
use Rattle.bac_value.specs.Value.{kind_number, IsContents, IsNumber, IsInteger, IsObject}
use Rattle.bac_value.specs.Reading.{kind_at, number_at, signed_at, object_at}
use Rattle.bac_value.proofs.Steps.{bind_ok, ok_is}
use Rattle.bac_value.proofs.Elements.{kind_front, kind_of, right_again}
use Rattle.bac_value.proofs.RightContents.{kind_again, object_of}
use Rattle.bac_value.specs.declared.tag.Class.TheVariants.{Application}
use Rattle.bac_service.specs.Members.{Octets, IsString, ApplicationObject, ApplicationSigned, ApplicationUnsigned, ApplicationString}
use Rattle.bac_service.specs.Reading.{application_object, application_signed, application_unsigned, application_string}
use Rattle.bac_service.proofs.Exact.{IsExact, Anything}
use Rattle.bac_service.proofs.Heads.{IsContentsLaw, member_exact}

-- the contents of a kind, by the number of the kind
long_of : (d : Datum) (xs : Octets) → kind_number d ≡ 2 → IsContents d xs → IsNumber 8 (number_in xs) xs
long_of null xs e h = absurd cc
long_of (boolean b) xs e h = absurd cc
long_of (unsigned n) xs e h = subst (λ (m : ℕ). IsNumber 8 m xs) (sym h.spelled.sum) h
long_of (signed z) xs e h = absurd cc
long_of (real a) xs e h = absurd cc
long_of (double a) xs e h = absurd cc
long_of (octets a) xs e h = absurd cc
long_of (characters x a) xs e h = absurd cc
long_of (bits x a) xs e h = absurd cc
long_of (enumerated n) xs e h = absurd cc
long_of (date a) xs e h = absurd cc
long_of (time a) xs e h = absurd cc
long_of (object i) xs e h = absurd cc

short_of : (d : Datum) (xs : Octets) → kind_number d ≡ 9 → IsContents d xs → IsNumber 4 (number_in xs) xs
short_of null xs e h = absurd cc
short_of (boolean b) xs e h = absurd cc
short_of (unsigned n) xs e h = absurd cc
short_of (signed z) xs e h = absurd cc
short_of (real a) xs e h = absurd cc
short_of (double a) xs e h = absurd cc
short_of (octets a) xs e h = absurd cc
short_of (characters x a) xs e h = absurd cc
short_of (bits x a) xs e h = absurd cc
short_of (enumerated n) xs e h = subst (λ (m : ℕ). IsNumber 4 m xs) (sym h.spelled.sum) h
short_of (date a) xs e h = absurd cc
short_of (time a) xs e h = absurd cc
short_of (object i) xs e h = absurd cc

integer_of : (d : Datum) (xs : Octets) → kind_number d ≡ 3 → IsContents d xs → IsInteger 8 (signed_in xs) xs
integer_of null xs e h = absurd cc
integer_of (boolean b) xs e h = absurd cc
integer_of (unsigned n) xs e h = absurd cc
integer_of (signed z) xs e h = subst (λ m. IsInteger 8 m xs) (sym h.spelled.sum) h
integer_of (real a) xs e h = absurd cc
integer_of (double a) xs e h = absurd cc
integer_of (octets a) xs e h = absurd cc
integer_of (characters x a) xs e h = absurd cc
integer_of (bits x a) xs e h = absurd cc
integer_of (enumerated n) xs e h = absurd cc
integer_of (date a) xs e h = absurd cc
integer_of (time a) xs e h = absurd cc
integer_of (object i) xs e h = absurd cc

-- the octets begin with contents of a kind
pub record IsFront (n k : ℕ) (bytes text rest : Octets) : Type 0 where
  pub is : bytes ≡ text ++ rest
  pub len : length text ≡ k
  pub fits : IsBytes text
  pub value : Datum
  pub kind : kind_number value ≡ n
  pub contents : IsContents value text

front_of : (n k : ℕ) (bytes : Octets) (x : Octets × Octets) → n < 13 → IsBytes bytes → kind_at n k bytes ≡ Ok x → IsFront n k bytes x.0 x.1
front_of n k bytes x lt fits e =
    let f = kind_front n k bytes x fits e in
    let o = kind_of n k bytes x lt f in
    record { is = f.raw.took.parts; len = f.raw.len; fits = f.raw.fits; value = o.0; kind = o.1; contents = o.2 }

number_law : (n most : ℕ) → n < 13 → ((d : Datum) (xs : Octets) → kind_number d ≡ n → IsContents d xs → IsNumber most (number_in xs) xs)
    → ((y : ℕ) → (d : Datum) × (kind_number d ≡ n) × ((xs : Octets) → IsNumber most y xs → IsContents d xs))
    → IsContentsLaw (number_at n) (IsNumber most)
unfolding number_at
number_law n most lt to back = record {
  takes = λ k bytes x fits e.
      let c = bind_ok (kind_at n k bytes) (λ c. Ok (number_in c.0, c.1)) x e in
      let f = front_of n k bytes c.0 lt fits c.1 in
      subst (λ (z : ℕ × Octets). (text : Octets) × (bytes ≡ text ++ z.1) × (length text ≡ k) × IsNumber most z.0 text)
      (ok_is (number_in c.0.0, c.0.1) x c.2) (c.0.0, f.is, f.len, to f.value c.0.0 f.kind f.contents);
  again = λ y text rest s.
      let d = back y in
      let right = subst (λ (m : ℕ). kind_at m (length text) (text ++ rest) ≡ Ok (text, rest)) d.1
      (right_again (kind_number d.0) (length text) text rest refl (kind_again d.0 text (d.2 text s))) in
      rw (right, s.spelled.sum) refl;
}

pub long_law : IsContentsLaw (number_at 2) (IsNumber 8)
long_law = number_law 2 8 (lit< tt) long_of (λ y. (unsigned y, refl, λ xs h. h))

pub short_law : IsContentsLaw (number_at 9) (IsNumber 4)
short_law = number_law 9 4 (lit< tt) short_of (λ y. (enumerated y, refl, λ xs h. h))

pub signed_law : IsContentsLaw signed_at (IsInteger 8)
unfolding signed_at
signed_law = record {
  takes = λ k bytes x fits e.
      let c = bind_ok (kind_at 3 k bytes) (λ c. Ok (signed_in c.0, c.1)) x e in
      let f = front_of 3 k bytes c.0 (lit< tt) fits c.1 in
      subst (λ z. (text : Octets) × (bytes ≡ text ++ z.1) × (length text ≡ k) × IsInteger 8 z.0 text) (ok_is (signed_in c.0.0, c.0.1) x c.2)
      (c.0.0, f.is, f.len, integer_of f.value c.0.0 f.kind f.contents);
  again = λ y text rest s.
      rw (right_again 3 (length text) text rest refl (kind_again (signed y) text s), s.spelled.sum) refl;
}

-- four octets as one number
four_octets : (xs : Octets) → length xs ≡ 4 → number_in xs ≡ from_be_bytes w32 xs
four_octets [] e = absurd (omega arith)
four_octets (a ∷ []) e = absurd (omega arith)
four_octets (a ∷ (b ∷ [])) e = absurd (omega arith)
four_octets (a ∷ (b ∷ (c ∷ []))) e = absurd (omega arith)
four_octets (a ∷ (b ∷ (c ∷ (d ∷ [])))) e = omega arith
four_octets (a ∷ (b ∷ (c ∷ (d ∷ (x ∷ xs))))) e = absurd (omega arith)

-- the object identifier that four octets encode
abbrev object_in : Octets → ObjectId
object_in xs = record { kind = number_in xs / 2 ^ 22; instance = number_in xs % 2 ^ 22 }

object_front : (xs : Octets) → IsBytes xs → length xs ≡ 4 → IsObject (object_in xs) xs
object_front xs fits four =
    subst (λ (n : ℕ). IsObject (record { kind = n / 2 ^ 22; instance = n % 2 ^ 22 }) xs) (sym (four_octets xs four)) (object_of xs fits four)

object_sum : (o : ObjectId) (xs : Octets) → IsObject o xs → length xs ≡ 4 → object_in xs ≡ o
object_sum o xs h four =
    let lt : o.kind * 2 ^ 22 + o.instance < 2 ^ 32 = omega (arith, h.kind_fits, h.instance_fits) in
    let n : number_in xs ≡ o.kind * 2 ^ 22 + o.instance = four_octets xs four ∙ ap (from_be_bytes w32) h.is ∙ wide32.again (o.kind * 2 ^ 22 + o.instance) lt in
    let high : number_in xs / 2 ^ 22 ≡ o.kind = omega (arith, n, h.instance_fits) in
    let low : number_in xs % 2 ^ 22 ≡ o.instance = omega (arith, n, h.instance_fits) in
    rw (high, low) refl

pub object_law : IsContentsLaw object_at IsObject
unfolding object_at
object_law = record {
  takes = λ k bytes x fits e.
      let c = bind_ok (kind_at 12 k bytes) (λ c. Ok (object_in c.0, c.1)) x e in
      let f = kind_front 12 k bytes c.0 fits c.1 in
      subst (λ (z : ObjectId × Octets). (text : Octets) × (bytes ≡ text ++ z.1) × (length text ≡ k) × IsObject z.0 text) (ok_is (object_in c.0.0, c.0.1) x c.2)
      (c.0.0, f.raw.took.parts, f.raw.len, object_front c.0.0 f.raw.fits (eqb-true _ _ f.right.len));
  again = λ y text rest s.
      let right = kind_again (object y) text s in
      rw (right_again 12 (length text) text rest refl right, object_sum y text s (eqb-true _ _ right.len)) refl;
}

pub string_law : IsContentsLaw (kind_at 6) IsString
string_law = record {
  takes = λ k bytes x fits e.
      let f = kind_front 6 k bytes x fits e in
      (x.0, f.raw.took.parts, f.raw.len, refl);
  again = λ y text rest s. rw (right_again 6 (length text) text rest refl (kind_again (octets text) text refl), s) refl;
}

-- ---- members with an application tag

pub object_exact : IsExact Anything application_object ApplicationObject
object_exact = member_exact Application 12 object_at IsObject (λ k. refl) object_law

pub signed_exact : IsExact Anything application_signed ApplicationSigned
signed_exact = member_exact Application 3 signed_at (IsInteger 8) (λ k. refl) signed_law

pub unsigned_exact : IsExact Anything application_unsigned ApplicationUnsigned
unsigned_exact = member_exact Application 2 (number_at 2) (IsNumber 8) (λ k. refl) long_law

pub string_exact : IsExact Anything application_string ApplicationString
string_exact = member_exact Application 6 (kind_at 6) IsString (λ k. refl) string_law
