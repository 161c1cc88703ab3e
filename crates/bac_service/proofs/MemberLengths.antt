-- The computed lengths of members are those of their spellings.
use Rattle.std.proofs.Common.{◌≡◌, ℕ, ℤ, ◌+◌, ◌<◌, ◌++◌, length, Option, Some, None, refl, ap, ◌∙◌, arith}
use Rattle.std.proofs.lemmas.List.{length-append}
use Rattle.std.proofs.lemmas.Bool.{lt-ltb}
use Rattle.bac_value.specs.declared.tag.Class.{Class}
use Rattle.bac_value.specs.declared.tag.Class.TheVariants.{Context}
use Rattle.bac_value.specs.Spelling.{tag_spelling, length_octets}
use Rattle.bac_value.specs.Number.{unsigned_octets, signed_octets, width_of}
use Rattle.bac_value.specs.Value.{ObjectId}
use Rattle.bac_value.specs.Data.{opening, closing}
use Rattle.bac_value.specs.Writing.{length_mark, primitive, object_octets}
use Rattle.bac_value.proofs.Numbers.{length-unsigned}
use Rattle.bac_value.proofs.Signs.{length-signed}
use Rattle.bac_service.specs.Members.{Octets, enclosed_spelling, optional_spelling}
use Rattle.bac_service.specs.Lengths.{member_length, unsigned_length, signed_length, OBJECT_LENGTH, index_length, enclosed_length}

pub length-tag : (class : Class) (number k : ℕ) → number < 15 → length (tag_spelling (length_mark class number k)) ≡ 1 + length (length_octets k)
unfolding tag_spelling
length-tag class number k lt = rw (lt-ltb number 15 lt) (omega arith)

pub length-primitive : (class : Class) (number : ℕ) (xs : Octets) → number < 15 → length (primitive class number xs) ≡ member_length (length xs)
length-primitive class number xs lt = length-append (tag_spelling (length_mark class number (length xs))) xs
    ∙ ap (λ (n : ℕ). n + length xs) (length-tag class number (length xs) lt)

pub length-number : (class : Class) (number n : ℕ) → number < 15 → length (primitive class number (unsigned_octets n)) ≡ unsigned_length n
length-number class number n lt = length-primitive class number (unsigned_octets n) lt ∙ ap member_length (length-unsigned n)

pub length-integer : (class : Class) (number : ℕ) (z : ℤ) → number < 15 → length (primitive class number (signed_octets z)) ≡ signed_length z
length-integer class number z lt = length-primitive class number (signed_octets z) lt ∙ ap member_length (length-signed z)

pub length-object : (class : Class) (number : ℕ) (o : ObjectId) → number < 15 → length (primitive class number (object_octets o)) ≡ OBJECT_LENGTH
length-object class number o lt = length-primitive class number (object_octets o) lt

pub length-opening : (number : ℕ) → number < 15 → length (opening number) ≡ 1
unfolding tag_spelling
length-opening number lt = rw (lt-ltb number 15 lt) refl

pub length-closing : (number : ℕ) → number < 15 → length (closing number) ≡ 1
unfolding tag_spelling
length-closing number lt = rw (lt-ltb number 15 lt) refl

pub length-pair : (number : ℕ) (inside : Octets) → number < 15 → length (enclosed_spelling number inside) ≡ enclosed_length (length inside)
length-pair number inside lt =
    let front = length-opening number lt in
    let back = length-closing number lt in
    let behind = length-append inside (closing number) in
    let all = length-append (opening number) (inside ++ closing number) in
    omega (arith, all, behind, front, back)

pub length-optional : (number : ℕ) (o : Option ℕ) → number < 15 → length (optional_spelling number o) ≡ index_length o
length-optional number None lt = refl
length-optional number (Some n) lt = length-number Context number n lt

pub length-enclosed : (number : ℕ) (inside : Octets) (k : ℕ) → number < 15 → length inside ≡ k → length (enclosed_spelling number inside) ≡ enclosed_length k
length-enclosed number inside k lt e = length-pair number inside lt ∙ ap enclosed_length e

-- how many octets a number takes
pub unsigned_width : (n : ℕ) → length (unsigned_octets n) ≡ width_of n
unsigned_width = length-unsigned
