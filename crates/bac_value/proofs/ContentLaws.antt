-- The readers of contents accept exactly the contents that values of the kind have.
use Rattle.std.proofs.Common.{◌≡◌, ◌<◌, ℕ, ◌+◌, ◌*◌, ◌/◌, ◌%◌, ◌^◌, List, ◌++◌, length, Ok, refl, ap, subst, ◌∙◌, arith}
use Rattle.std.specs.Int.{w32, from_be_bytes}
use Rattle.std.proofs.lemmas.Bool.{eqb-true}
use Rattle.bac_value.specs.Octets.{IsBytes}
use Rattle.bac_value.specs.Number.{number_in, signed_in}
use Rattle.bac_value.specs.Value.{Datum, unsigned, signed, enumerated, object, ObjectId, kind_number, IsContents, IsNumber, IsObject}
use Rattle.bac_value.specs.Element.{AreOfKind, HasContents}
use Rattle.bac_value.specs.Steps.{◌>>=◌, IsExact}
use Rattle.bac_value.specs.Reading.{kind_at, number_at, signed_at, object_at}
use Rattle.bac_value.proofs.Steps.{bind_ok, ok_is}
use Rattle.bac_value.proofs.Tags.{wide32}
use Rattle.bac_value.proofs.RightContents.{between, no_fault, unsigned_of, signed_of, four, object_in, object_meant, kind_again, IsRight}
use Rattle.bac_value.proofs.Elements.{kind_front, kind_of, right_again}

-- ---- what is read

unsigned_right_of : (xs : List ℕ) → IsBytes xs → IsRight 2 xs → IsNumber 8 (number_in xs) xs
unsigned_right_of xs fits h = let k = between 0 9 (length xs) h.len in unsigned_of 8 xs fits k.0 (omega (arith, k.1)) (no_fault _ _ h.none)

enumerated_right_of : (xs : List ℕ) → IsBytes xs → IsRight 9 xs → IsNumber 4 (number_in xs) xs
enumerated_right_of xs fits h = let k = between 0 5 (length xs) h.len in unsigned_of 4 xs fits k.0 (omega (arith, k.1)) (no_fault _ _ h.none)

signed_right_of : (xs : List ℕ) → IsBytes xs → IsRight 3 xs → IsContents (signed (signed_in xs)) xs
signed_right_of xs fits h = let k = between 0 9 (length xs) h.len in signed_of xs fits k.0 (omega (arith, k.1)) (no_fault _ _ h.none)

object_right_of : (xs : List ℕ) → IsBytes xs → IsRight 12 xs → IsContents (object (object_in xs)) xs
object_right_of xs fits h = object_meant xs fits (eqb-true _ _ h.len)

-- ---- reading the contents of a value

pub object_again : (i : ObjectId) (xs : List ℕ) → IsObject i xs → object_in xs ≡ i
object_again i xs h =
    let n = i.kind * 2 ^ 22 + i.instance in
    let len : length xs ≡ 4 = ap length h.is in
    let whole : number_in xs ≡ n = four xs len ∙ ap (from_be_bytes w32) h.is ∙ wide32.again n (omega (arith, h.kind_fits, h.instance_fits)) in
    let kind : number_in xs / 2 ^ 22 ≡ i.kind = omega (arith, whole, h.kind_fits, h.instance_fits) in
    let instance : number_in xs % 2 ^ 22 ≡ i.instance = omega (arith, whole, h.kind_fits, h.instance_fits) in
    let by_kind : ℕ → ObjectId = λ k. record { kind = k; instance = number_in xs % 2 ^ 22 } in
    let by_instance : ℕ → ObjectId = λ j. record { kind = i.kind; instance = j } in
    ap by_kind kind ∙ ap by_instance instance

-- ---- the laws

exact_kind : {Y : Type 0} (n k : ℕ) (view : List ℕ → Y) (datum_of : Y → Datum) (kind : (y : Y) → kind_number (datum_of y) ≡ n)
    → ((xs : List ℕ) → IsBytes xs → IsRight n xs → IsContents (datum_of (view xs)) xs) → ((y : Y) (xs : List ℕ) → IsContents (datum_of y) xs → view xs ≡ y)
    → IsExact (λ bytes. kind_at n k bytes >>= λ c. Ok (view c.0, c.1)) (HasContents datum_of k)
exact_kind {Y = Y} n k view datum_of kind right back = record {
  takes = λ bytes x fits e.
      let a = bind_ok (kind_at n k bytes) (λ c. Ok (view c.0, c.1)) x e in
      let f = kind_front n k bytes a.0 fits a.1 in
      let P : Y × List ℕ → Type 0 = λ y. (text : List ℕ) × (bytes ≡ text ++ y.1) × HasContents datum_of k y.0 text in
      subst P (ok_is (view a.0.0, a.0.1) x a.2) (a.0.0, f.raw.took.parts, record { are = right a.0.0 f.raw.fits f.right; len = f.raw.len });
  again = λ y text rest h.
      let r = subst (λ i. IsRight i text) (kind y) (kind_again (datum_of y) text h.are) in
      rw (right_again n k text rest h.len r, back y text h.are) refl;
}

pub unsigned_exact : (k : ℕ) → IsExact (number_at 2 k) (HasContents unsigned k)
unfolding number_at
unsigned_exact k = exact_kind 2 k number_in unsigned (λ y. refl) unsigned_right_of (λ y xs h. h.spelled.sum)

pub enumerated_exact : (k : ℕ) → IsExact (number_at 9 k) (HasContents enumerated k)
unfolding number_at
enumerated_exact k = exact_kind 9 k number_in enumerated (λ y. refl) enumerated_right_of (λ y xs h. h.spelled.sum)

pub signed_exact : (k : ℕ) → IsExact (signed_at k) (HasContents signed k)
unfolding signed_at
signed_exact k = exact_kind 3 k signed_in signed (λ y. refl) signed_right_of (λ y xs h. h.spelled.sum)

pub object_exact : (k : ℕ) → IsExact (object_at k) (HasContents object k)
unfolding object_at
object_exact k = exact_kind 12 k object_in object (λ y. refl) object_right_of object_again

-- contents of a kind, returned as octets
pub kind_exact : (n k : ℕ) → n < 13 → IsExact (kind_at n k) (AreOfKind n k)
kind_exact n k lt = record {
  takes = λ bytes x fits e.
      let f = kind_front n k bytes x fits e in (x.0, f.raw.took.parts, record { is = refl; len = f.raw.len; kind = kind_of n k bytes x lt f });
  again = λ y text rest h.
      let r = subst (λ i. IsRight i text) h.kind.1 (kind_again h.kind.0 text h.kind.2) in
      right_again n k text rest h.len r ∙ ap (λ (xs : List ℕ). Ok (xs, rest)) h.is;
}
