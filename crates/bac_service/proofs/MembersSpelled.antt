-- Writers of members append spellings of the members.
use Rattle.std.proofs.Common.{◌≡◌, ℕ, ℤ, ◌<◌, ◌^◌, OnOk, [], ◌++◌, Result, Ok, Err, refl, sym, ap, subst, ◌∙◌, append_assoc, arith}
use Rattle.std.proofs.lemmas.List.{append-nil}
use Rattle.std.proofs.Math.Logic.{∥∥₁_elim}
use Rattle.std.proofs.Props.{props}
use Rattle.bac_value.specs.declared.tag.Class.{Class}
use Rattle.bac_value.specs.declared.tag.Class.TheVariants.{Context}
use Rattle.bac_value.specs.Octets.{IsBytes}
use Rattle.bac_value.specs.Value.{ObjectId, IsNumber, IsInteger, IsObject, enumerated, unsigned, signed, object}
use Rattle.bac_value.specs.Number.{unsigned_octets, signed_octets, distance}
use Rattle.bac_value.specs.Reading.{data_of}
use Rattle.bac_value.specs.Data.{IsData}
use Rattle.bac_value.specs.Writing.{primitive, object_octets}
use Rattle.bac_value.proofs.Values.{IsContents-of}
use Rattle.bac_value.proofs.Forests.{data_text, data_found}
use Rattle.bac_service.specs.Members.{Octets, Enclosed, Tagged, AreData, enclosed_spelling}

-- ---- either all of the octets are known to be data or none

read_prop : (bytes : Octets) → IsProp (data_of bytes ≡ Ok [])
read_prop bytes = hlevel props

pub whole_data : (bytes : Octets) → IsBytes bytes → ∥ IsData bytes ∥₁ → IsData bytes
whole_data bytes fits known =
    let read : data_of bytes ≡ Ok [] = ∥∥₁_elim known (read_prop bytes) (λ d. data_text d.0 bytes d.1) in
    let f = data_found bytes [] fits read in
    let same : f.1 ≡ bytes = sym (f.2 ∙ append-nil f.1) in
    subst IsData same (f.0, f.3.spelled)

-- ---- members

pub short_tagged : (number n : ℕ) → n < 2 ^ 32 → Tagged Context number (IsNumber 4 n) (primitive Context number (unsigned_octets n))
short_tagged number n lt =
    let is : IsNumber 4 n (unsigned_octets n) = IsContents-of (enumerated n) lt in
    record { contents = unsigned_octets n; are = is; fits = omega (arith, is.few); is = refl }

pub signed_tagged : (class : Class) (number : ℕ) (z : ℤ) → distance z < 2 ^ 63 → Tagged class number (IsInteger 8 z) (primitive class number (signed_octets z))
signed_tagged class number z lt =
    let is : IsInteger 8 z (signed_octets z) = IsContents-of (signed z) lt in
    record { contents = signed_octets z; are = is; fits = omega (arith, is.few); is = refl }

pub object_tagged : (class : Class) (number : ℕ) (o : ObjectId) → o.kind < 1024 → o.instance < 2 ^ 22
    → Tagged class number (IsObject o) (primitive class number (object_octets o))
object_tagged class number o kind instance =
    record { contents = object_octets o; are = IsContents-of (object o) (kind, instance); fits = omega arith; is = refl }

pub enclosed_data : (values : Octets) → IsData values → Enclosed 3 (AreData values) (enclosed_spelling 3 values)
enclosed_data values whole = record { inside = values; are = record { spelled = whole; is = refl }; is = refl }

pub unsigned_tagged : (class : Class) (number n : ℕ) → n < 2 ^ 64 → Tagged class number (IsNumber 8 n) (primitive class number (unsigned_octets n))
unsigned_tagged class number n lt =
    let is : IsNumber 8 n (unsigned_octets n) = IsContents-of (unsigned n) lt in
    record { contents = unsigned_octets n; are = is; fits = omega (arith, is.few); is = refl }

-- what is appended between two tags
pub enclosed : {A E : Type 0} (r : Result A E) (old a x b one two new : Octets) → one ≡ old ++ a → two ≡ one ++ x → OnOk r (new ≡ two ++ b)
    → OnOk r (new ≡ old ++ (a ++ (x ++ b)))
enclosed (Ok v) old a x b one two new p q s = s ∙ ap (λ (t : Octets). t ++ b) (q ∙ ap (λ (t : Octets). t ++ x) p) ∙ append_assoc (old ++ a) x b
    ∙ append_assoc old a (x ++ b)
enclosed (Err e) old a x b one two new p q s = tt
