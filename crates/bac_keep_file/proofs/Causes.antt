-- Why a cell is not put into the table.
use Rattle.std.proofs.Common.{◌≡◌, ◌⊎◌, ◌≤◌, ℕ, ℤ, pos, negsuc, false, List, [], ◌∷◌, length, Option, Some, None, refl, inl, inr, Bool, ap, sym, subst, arith, Result, Ok, IfErr, MatchResult}
use Rattle.std.specs.Float.{NotNan}
use Rattle.std.specs.Float.Ieee
use Rattle.std.proofs.lemmas.List.Elements.{All-contains, All-from_recursion}
use Rattle.sqlite_value.specs.declared.value.Value.{Value}
use Rattle.sqlite_value.specs.declared.value.Value.TheVariants.{Blob, Int, Null}
use Rattle.sqlite_value.specs.Order.{Row, number}
use Rattle.sqlite_trees.specs.View.{View, HasCause, IsStorableRow}
use Rattle.sqlite_trees.specs.declared.error.StoreError.{StoreError}
use Rattle.sqlite_trees.specs.declared.error.StoreError.TheVariants as failure
use Rattle.bac_value.specs.Value.{ObjectId}
use Rattle.bac_store.specs.Kept.{IsInOrder, IsKept, IsShort}
use Rattle.bac_store.specs.Limits.{VALUE_LIMIT}
use Rattle.bac_store.specs.Stores.{Object, Property, Store, is_number, is_object, listed_in, object_in}
use Rattle.std.specs.Option.{option_map}
use Rattle.bac_store.specs.Listed.{listed_view, values_and_flag}
use Rattle.bac_store.specs.declared.store_lookups.ListedValues.{ListedValues}
use Rattle.bac_store.specs.Writes.{listed_at, listed_of}
use Rattle.bac_store.proofs.Distinct.{some_first}
use Rattle.bac_keep.specs.Causes.{IsUnkept}
use Rattle.bac_keep.specs.declared.fault.DatabaseFault.TheVariants as database
use Rattle.bac_keep.specs.declared.fault.KeepFault.{KeepFault}
use Rattle.bac_keep.specs.declared.fault.KeepFault.TheVariants as fault
use Rattle.bac_keep_file.specs.Faults.{database_fault, keep_fault}
use Rattle.bac_keep_file.specs.Refused.{IsUnput}
use Rattle.bac_keep_file.proofs.Faults.{err, if_err}
use Rattle.bac_keep_file.proofs.RowReading.{or_earlier}

-- a database that is not broken, and can store the row, fails for the disk or for memory
cause : (old : View) (failed unstorable : Type 0) → old.is_broken ≡ false → (unstorable → ⊥) → (e : StoreError) → HasCause old failed unstorable e
    → (database_fault e ≡ database.OutOfMemory) ⊎ failed
cause old failed unstorable sound never failure.OutOfMemory why = inl refl
cause old failed unstorable sound never failure.Io why = inr why
cause old failed unstorable sound never failure.Corrupt why = inr why
cause old failed unstorable sound never failure.Full why = inr why
cause old failed unstorable sound never failure.Broken why = absurd (cc)
cause old failed unstorable sound never failure.Unstorable why = absurd (never why)

pub unput : {T : Type 0} (old : View) (failed unstorable : Type 0) (r : Result T StoreError) (f : KeepFault)
    → MatchResult r (λ x. err T f ≡ Ok x) (λ e. f ≡ keep_fault e) → old.is_broken ≡ false → (unstorable → ⊥) → IfErr r (HasCause old failed unstorable) → IsUnput failed f
unput old failed unstorable r f is sound never why = if_err (λ e f. f ≡ keep_fault e) (HasCause old failed unstorable) (IsUnput failed) r f is why
    (λ e same because. subst (IsUnput failed) (sym same) (cause old failed unstorable sound never e because))

pub unkept : {T : Type 0} (old : View) (failed : Type 0) (r : Result T StoreError) (f : KeepFault)
    → MatchResult r (λ x. err T f ≡ Ok x) (λ e. f ≡ keep_fault e) → old.is_broken ≡ false → IfErr r (HasCause old failed ⊥) → IsUnkept failed f
unkept old failed r f is sound why = if_err (λ e f. f ≡ keep_fault e) (HasCause old failed ⊥) (IsUnkept failed) r f is why
    (λ e same because. subst (IsUnkept failed) (sym same) (cause old failed ⊥ sound (λ no. no) e because))

-- a fault of more calls
pub unput_later : {failed later : Type 0} → (failed → later) → (f : KeepFault) → IsUnput failed f → IsUnput later f
unput_later longer (fault.Database e) it = or_earlier longer it
unput_later longer fault.NoMemory it = tt
unput_later longer fault.BadRow it = absurd it
unput_later longer fault.Shut it = absurd it
unput_later longer fault.NoTable it = absurd it
unput_later longer (fault.BadValues o m e) it = absurd it
unput_later longer (fault.BadOctets o e) it = absurd it
unput_later longer fault.HighNumber it = absurd it

whole : (n : ℤ) → NotNan (number (Int n))
unfolding Ieee.is_nan
whole (pos n) = tt
whole (negsuc n) = tt

nothing : NotNan (number Null)
unfolding Ieee.is_nan
nothing = tt

octets_too : (b : List ℕ) → NotNan (number (Blob b))
unfolding Ieee.is_nan
octets_too b = tt

-- the row of a cell can be stored
pub storable : (place kind instance n : ℤ) (octets : List ℕ) → length octets ≤ VALUE_LIMIT
    → IsStorableRow 0 (Int place ∷ Null ∷ Blob octets ∷ Int kind ∷ Int instance ∷ Int n ∷ [])
storable place kind instance n octets few = (
  record {
    typed = λ c h. absurd (grind arith);
    columns = (omega arith, omega arith);
    numbers = All-from_recursion (λ v. NotNan (number v)) (Int place ∷ Null ∷ Blob octets ∷ Int kind ∷ Int instance ∷ Int n ∷ [])
        (whole place, (nothing, (octets_too octets, (whole kind, (whole instance, (whole n, tt))))));
    short = omega (arith, few);
  },
  omega arith,
)

-- the same, of a row that is that of a cell, in a table without columns of REAL values
pub row_stored : (reals : ℕ) → reals ≡ 0 → (row : Row) (place kind instance n : ℤ) (octets : List ℕ) → length octets ≤ VALUE_LIMIT
    → row ≡ Int place ∷ Null ∷ Blob octets ∷ Int kind ∷ Int instance ∷ Int n ∷ [] → IsStorableRow reals row
row_stored reals none row place kind instance n octets few is =
    subst (λ (r : Row). IsStorableRow reals r) (sym is)
    (subst (λ (m : ℕ). IsStorableRow m (Int place ∷ Null ∷ Blob octets ∷ Int kind ∷ Int instance ∷ Int n ∷ [])) (sym none) (storable place kind instance n octets few))

of_object : (o : Option Object) (n : ℕ) (p : Property) → listed_of n o ≡ Some p → (q : Object) × (o ≡ Some q) × (listed_in q n ≡ Some p)
of_object None n p e = cc
of_object (Some q) n p e = (q, refl, e)

-- the values of a property are few
pub values_few : (s : Store) → IsInOrder s → (id : ObjectId) (n : ℕ) (p : Property) → listed_at s id n ≡ Some p → length p.values ≤ VALUE_LIMIT
values_few s order id n p e =
    let found = of_object (object_in s id) n p e in
    let kept : IsKept found.0 = All-contains IsKept s found.0 order.each (some_first (is_object id) s found.0 found.1).0 in
    All-contains IsShort found.0.properties p kept.short (some_first (is_number n) found.0.properties p found.2).0

same : (a b : List ℕ × Bool) → Some a ≡ Some b → a ≡ b
same a b e = cc

some_is : (x : Option Property) (v : ListedValues) → Some (listed_view v) ≡ option_map values_and_flag x → (p : Property) × (x ≡ Some p) × (v.octets.now ≡ p.values)
some_is None v e = cc
some_is (Some p) v e = (p, refl, ap (λ (x : List ℕ × Bool). x.0) (same _ _ e))

pub listed_few : (s : Store) → IsInOrder s → (id : ObjectId) (n : ℕ) (v : ListedValues)
    → Some (listed_view v) ≡ option_map values_and_flag (listed_at s id n) → length v.octets.now ≤ VALUE_LIMIT
listed_few s order id n v e =
    let found = some_is (listed_at s id n) v e in
    subst (λ (l : List ℕ). length l ≤ VALUE_LIMIT) (sym found.2) (values_few s order id n found.0 found.1)
