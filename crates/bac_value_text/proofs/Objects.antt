-- Printed objects read as themselves.
use Rattle.std.proofs.Common.{◌≡◌, ℕ, ◌^◌, ◌<◌, nat_le, true, false, Bool, ◌&&◌, ◌==◌, not, List, [], ◌∷◌, Option, Some, None}
use Rattle.std.proofs.Common.{arith, refl, ◌∙◌, ap}
use Rattle.std.specs.Char.{is_ascii_digit}
use Rattle.std.specs.Fmt.{decimal}
use Rattle.std.specs.List.{list_all}
use Rattle.std.specs.Option.{option_or}
use Rattle.std.proofs.lemmas.Bool.Decides.{nat_tests}
use Rattle.bac_value_text.specs.Names.{Row, AreInverse, name_in, number_in}
use Rattle.bac_value_text.specs.ObjectTypes.{OBJECT_TYPES}
use Rattle.bac_value.specs.Value.{ObjectId}
use Rattle.bac_value_text.specs.Numbers.{◌>>=◌, at_most, number_of}
use Rattle.bac_value_text.specs.Reading.{type_of, object_of}
use Rattle.bac_value_text.specs.Texts.{named_or_number, type_text, object_text}
use Rattle.bac_value_text.proofs.DecimalDigits.{decimal_digits, decimal_read, decimal_up_to}
use Rattle.bac_value_text.proofs.Parts.{both, lacks, parted, digits_lack}

-- a name in a table has a property that all its names have
named_has : (p : List ℕ → Bool) (rows : List Row) (n : ℕ) (name : List ℕ) → list_all (λ r. p r.0) rows ≡ true → name_in rows n ≡ Some name → p name ≡ true
named_has p [] n name all h = cc
named_has p (r ∷ rows) n name all h =
    let parts = both (p r.0) (list_all (λ r. p r.0) rows) all in
    go (r.1 == n) refl parts.0 (λ (below : name_in rows n ≡ Some name). named_has p rows n name parts.1 below)
  where
    go : (b : Bool) → (r.1 == n) ≡ b → p r.0 ≡ true → (name_in rows n ≡ Some name → p name ≡ true) → p name ≡ true
    go true e first rest =
        let there : Some r.0 ≡ Some name = rw e at h in
        let same : r.0 ≡ name = cc in
        rw (← same) first
    go false e first rest =
        let below : name_in rows n ≡ Some name = rw e at h in
        rest below

-- a name contains no colon, and is not a number
abbrev is_name : List ℕ → Bool
is_name name = lacks 58 name && not (list_all is_ascii_digit name)

all_names : list_all (λ r. is_name r.0) OBJECT_TYPES ≡ true
unfolding OBJECT_TYPES
all_names = refl

no : (b : Bool) → not b ≡ true → b ≡ false
no true h = cc
no false h = refl

type_lacks : (kind : ℕ) → kind < 1024 → lacks 58 (type_text kind) ≡ true
type_lacks kind small = go (name_in OBJECT_TYPES kind) refl where
  go : (o : Option (List ℕ)) → name_in OBJECT_TYPES kind ≡ o → lacks 58 (named_or_number o kind) ≡ true
  go None e = digits_lack 58 (decimal kind) refl (decimal_digits kind (omega arith))
  go (Some name) e = (both (lacks 58 name) (not (list_all is_ascii_digit name)) (named_has is_name OBJECT_TYPES kind name all_names e)).0

type_back : AreInverse OBJECT_TYPES → (kind : ℕ) → kind < 1024 → type_of (type_text kind) ≡ Some kind
type_back inverse kind small = go (name_in OBJECT_TYPES kind) refl where
  fits : nat_le kind 1023 ≡ true
  fits = grind (arith, nat_tests, small)

  go : (o : Option (List ℕ)) → name_in OBJECT_TYPES kind ≡ o → type_of (named_or_number o kind) ≡ Some kind
  go None e = ap (λ (n : Option ℕ). option_or n (number_in OBJECT_TYPES (decimal kind)) >>= at_most 1023) (decimal_read kind (omega arith)) ∙ rw fits refl
  go (Some name) e =
      let digits = no (list_all is_ascii_digit name)
      ((both (lacks 58 name) (not (list_all is_ascii_digit name)) (named_has is_name OBJECT_TYPES kind name all_names e)).1) in
      let none : number_of name ≡ None = rw digits refl in
      ap (λ (n : Option ℕ). option_or n (number_in OBJECT_TYPES name) >>= at_most 1023) none
      ∙ ap (λ (n : Option ℕ). n >>= at_most 1023) (inverse.1 name kind e) ∙ rw fits refl

pub object_read : AreInverse OBJECT_TYPES → (i : ObjectId) → i.kind < 1024 → i.instance < 2 ^ 22 → object_of (object_text i) ≡ Some i
unfolding object_of
object_read inverse i kind instance =
    rw (
      parted 58 (type_text i.kind) (decimal i.instance) (type_lacks i.kind kind),
      type_back inverse i.kind kind,
      decimal_up_to 4194303 i.instance (omega arith) (omega arith),
    )
    refl
