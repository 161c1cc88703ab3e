-- An encoded value is data.
use Rattle.std.proofs.Common.{◌≡◌, ℕ, suc, ◌+◌, ◌<◌, ◌≤◌, ◌^◌, List, ◌∷◌, length, refl, sym, arith, ◌∙◌}
use Rattle.std.proofs.lemmas.Bool.Decides.{nat_tests}
use Rattle.std.proofs.lemmas.List.{append-nil, length-append}
use Rattle.bac_value.specs.Data.{none, leaf, IsData, IsPrimitiveForm, IsWithin, spelling}
use Rattle.bac_value.specs.Element.{Part, part_spelling, SpellsElement, IsAnnounced}
use Rattle.bac_value.specs.Spelling.{SpellsTag, tag_spelling, length_octets}
use Rattle.bac_value.specs.Writing.{value_spelling}
use Rattle.bac_value.specs.Value.{Datum, null, boolean, unsigned, signed, real, double, octets, characters, bits, enumerated, date, time, object}
use Rattle.bac_value.specs.Value.{mark_for, IsContents, SpellsValue}
use Rattle.bac_store.specs.declared.checking.TheConstants.{NAME_OVERHEAD}
use Rattle.bac_store.specs.Limits.{VALUE_LIMIT}

abbrev pub part_of : Datum → List ℕ → Part
part_of d xs = record { mark = mark_for d (length xs); contents = xs }

announced : (d : Datum) (xs : List ℕ) → IsContents d xs → IsAnnounced (mark_for d (length xs)).class (mark_for d (length xs)).number
    (mark_for d (length xs)).form xs
announced null xs h = (refl, (null, refl, h))
announced (boolean b) xs h = h
announced (unsigned n) xs h = (refl, (unsigned n, refl, h))
announced (signed n) xs h = (refl, (signed n, refl, h))
announced (real n) xs h = (refl, (real n, refl, h))
announced (double n) xs h = (refl, (double n, refl, h))
announced (octets n) xs h = (refl, (octets n, refl, h))
announced (characters s n) xs h = (refl, (characters s n, refl, h))
announced (bits s n) xs h = (refl, (bits s n, refl, h))
announced (enumerated n) xs h = (refl, (enumerated n, refl, h))
announced (date n) xs h = (refl, (date n, refl, h))
announced (time n) xs h = (refl, (time n, refl, h))
announced (object n) xs h = (refl, (object n, refl, h))

tagged : (d : Datum) (k : ℕ) → k < 2 ^ 32 → SpellsTag (mark_for d k) (tag_spelling (mark_for d k))
tagged null k l = record { fits = refl; length_in = l; is = refl }
tagged (boolean b) k l = record { fits = refl; length_in = tt; is = refl }
tagged (unsigned n) k l = record { fits = refl; length_in = l; is = refl }
tagged (signed n) k l = record { fits = refl; length_in = l; is = refl }
tagged (real n) k l = record { fits = refl; length_in = l; is = refl }
tagged (double n) k l = record { fits = refl; length_in = l; is = refl }
tagged (octets n) k l = record { fits = refl; length_in = l; is = refl }
tagged (characters s n) k l = record { fits = refl; length_in = l; is = refl }
tagged (bits s n) k l = record { fits = refl; length_in = l; is = refl }
tagged (enumerated n) k l = record { fits = refl; length_in = l; is = refl }
tagged (date n) k l = record { fits = refl; length_in = l; is = refl }
tagged (time n) k l = record { fits = refl; length_in = l; is = refl }
tagged (object n) k l = record { fits = refl; length_in = l; is = refl }

primitive_form : (d : Datum) (k : ℕ) → IsPrimitiveForm (mark_for d k).form
primitive_form null k = tt
primitive_form (boolean b) k = tt
primitive_form (unsigned n) k = tt
primitive_form (signed n) k = tt
primitive_form (real n) k = tt
primitive_form (double n) k = tt
primitive_form (octets n) k = tt
primitive_form (characters s n) k = tt
primitive_form (bits s n) k = tt
primitive_form (enumerated n) k = tt
primitive_form (date n) k = tt
primitive_form (time n) k = tt
primitive_form (object n) k = tt

pub element_of : (d : Datum) (xs : List ℕ) → IsContents d xs → length xs < 2 ^ 32 → SpellsElement (part_of d xs) (part_spelling (part_of d xs))
element_of d xs h l = record { tag = tagged d (length xs) l; contents = announced d xs h; is = refl }

pub value_is_data : (d : Datum) (bytes : List ℕ) → SpellsValue d bytes → IsData bytes
unfolding spelling IsWithin
value_is_data d bytes v = (
  leaf (part_of d v.contents) none,
  record {
    within = (record { form = primitive_form d (length v.contents); spelled = element_of d v.contents v.are v.fits }, tt);
    is = v.is ∙ sym (append-nil _);
  },
)

-- ---- names

length-name : (xs : List ℕ) → length (value_spelling (characters 0 xs)) ≡ suc (length (length_octets (suc (length xs)))) + suc (length xs)
unfolding tag_spelling
length-name xs = length-append (tag_spelling (mark_for (characters 0 xs) (length (0 ∷ xs)))) (0 ∷ xs)

pub length_octets_most : (k : ℕ) → length (length_octets k) ≤ 5
length_octets_most k = grind (arith, nat_tests)

length_octets_of : (k : ℕ) → 254 ≤ k → k < 65536 → length (length_octets k) ≡ 3
length_octets_of k p q = grind (arith, nat_tests)

length_octets_some : (k : ℕ) → 254 ≤ k → 3 ≤ length (length_octets k)
length_octets_some k p = grind (arith, nat_tests)

pub name_fits : (xs : List ℕ) → length xs + NAME_OVERHEAD ≤ VALUE_LIMIT → length (value_spelling (characters 0 xs)) ≤ VALUE_LIMIT
name_fits xs l = grind (arith, length-name xs, length_octets_of (suc (length xs)), length_octets_most (suc (length xs)))

pub fits_name : (xs : List ℕ) → length (value_spelling (characters 0 xs)) ≤ VALUE_LIMIT → length xs + NAME_OVERHEAD ≤ VALUE_LIMIT
fits_name xs l = grind (arith, length-name xs, length_octets_some (suc (length xs)))
