-- A document and cells make its own values where the cells have none.
use Rattle.std.proofs.Common.{◌≡◌, ◌==◌, ◌&&◌, ℕ, ◌<◌, Bool, true, false, nat_lt, List, [], ◌∷◌, map, Option, Some, None}
use Rattle.std.proofs.Common.{refl, sym, ap, ◌∙◌, subst, arith, if◌then◌else◌}
use Rattle.std.specs.Option.{option_map}
use Rattle.std.proofs.lemmas.Bool.Decides.{nat_tests}
use Rattle.bac_value.specs.Value.{ObjectId}
use Rattle.bac_store.specs.Stores.{File, Object, Property, Store, first_that, is_number, is_same, object_in}
use Rattle.bac_store.specs.Writes.{listed_at, listed_of}
use Rattle.bac_keep.specs.Cells.{Cells, NUMBERS, file_place, value_place}
use Rattle.bac_keep.specs.Overlay.{file_over, in_place, is_kept, joined, object_over, of_chunks, overlay, value_over}
use Rattle.bac_keep.proofs.Notes.{number_over}
use Rattle.bac_keep_file.specs.Forgotten.{is_selected, without}

both : (a b : Bool) → (a && b) ≡ true → b ≡ true
both true b e = e
both false b e = cc

-- two identifiers that are the same are equal
same_kind : (a b : ObjectId) → is_same a b ≡ true → a.kind ≡ b.kind
same_kind a b e = grind (arith, nat_tests)

same_instance : (a b : ObjectId) → is_same a b ≡ true → a.instance ≡ b.instance
same_instance a b e = grind (arith, nat_tests)

same_object : (a b : ObjectId) → is_same a b ≡ true → a ≡ b
same_object a b e = λ i. record { kind = same_kind a b e i; instance = same_instance a b e i }

-- ---- what the cells do not have

-- where there is no cell of it, a property has its own values
value_own : (cells : Cells) (id : ObjectId) (p : Property) → ((p.number < NUMBERS) → cells (value_place id p.number) ≡ None) → value_over cells id p ≡ p
value_own cells id p none = go (is_kept p) refl
  where
    go : (b : Bool) → is_kept p ≡ b → (if b then in_place (cells (value_place id p.number)) p else p) ≡ p
    go true e =
        let small : nat_lt p.number NUMBERS ≡ true = both p.writable _ e in
        ap (λ (x : Option (List ℕ)). in_place x p) (none (grind (arith, nat_tests)))
    go false e = refl

-- where there is no number of its chunks, a file has its own octets
file_own : (cells : Cells) (id : ObjectId) (f : File) → cells (file_place id 0) ≡ None → file_over cells id f ≡ f
file_own cells id f none = go f.writable
  where
    go : (b : Bool) → (if b then of_chunks (cells (file_place id 0)) (joined cells id) f else f) ≡ f
    go true = ap (λ (x : Option (List ℕ)). of_chunks x (joined cells id) f) none
    go false = refl

gone : (is_gone : ℕ → Bool) (cells : Cells) (q : ℕ) → is_gone q ≡ true → without is_gone cells q ≡ None
gone is_gone cells q e = rw e refl

-- ---- a property

module _ (cells : Cells) (id : ObjectId) (n : ℕ) where
  abbrev left : Cells
  left = without (is_selected id (Some n)) cells

  selected : (m : ℕ) → m ≡ n → m < NUMBERS → is_selected id (Some n) (value_place id m) ≡ true
  selected m same small = subst (λ (k : ℕ). is_selected id (Some n) (value_place id k) ≡ true) (sym same) here
    where
      fits : n < NUMBERS
      fits = subst (λ (k : ℕ). k < NUMBERS) same small

      here : is_selected id (Some n) (value_place id n) ≡ true
      here = grind (arith, nat_tests, fits)

  value_forgotten : (p : Property) → (p.number == n) ≡ true → value_over left id p ≡ p
  value_forgotten p is = value_own left id p (λ small. gone (is_selected id (Some n)) cells (value_place id p.number)
      (selected p.number (grind (arith, nat_tests)) small))

  property_forgotten : (ps : List Property) → first_that (is_number n) (map (value_over left id) ps) ≡ first_that (is_number n) ps
  property_forgotten [] = refl
  property_forgotten (p ∷ ps) = go (p.number == n) refl (property_forgotten ps)
    where
      is : (b : Bool) → (p.number == n) ≡ b → is_number n (value_over left id p) ≡ b
      is b e = ap (λ (m : ℕ). m == n) (number_over left id p) ∙ e

      go : (b : Bool) → (p.number == n) ≡ b → first_that (is_number n) (map (value_over left id) ps) ≡ first_that (is_number n) ps
          → first_that (is_number n) (value_over left id p ∷ map (value_over left id) ps) ≡ first_that (is_number n) (p ∷ ps)
      go true e more = rw (is true e, e) (ap Some (value_forgotten p e))
      go false e more = rw (is false e, e) more

  pub listed_forgotten : (document : Store) → listed_at (overlay left document) id n ≡ listed_at document id n
  listed_forgotten [] = refl
  listed_forgotten (o ∷ os) = go (is_same id o.id) refl (listed_forgotten os)
    where
      go : (b : Bool) → is_same id o.id ≡ b → listed_at (overlay left os) id n ≡ listed_at os id n
          → listed_of n (if b then Some (object_over left o) else object_in (overlay left os) id) ≡ listed_of n (if b then Some o else object_in os id)
      go true e more =
          subst (λ (x : ObjectId). first_that (is_number n) (map (value_over left x) o.properties) ≡ first_that (is_number n) o.properties)
          (same_object id o.id e) (property_forgotten o.properties)
      go false e more = more

-- ---- an object

module _ (cells : Cells) (id : ObjectId) where
  abbrev kept : Cells
  kept = without (is_selected id None) cells

  of_object : (n : ℕ) → n < NUMBERS → is_selected id None (value_place id n) ≡ true
  of_object n small = grind (arith, nat_tests)

  of_file : is_selected id None (file_place id 0) ≡ true
  of_file = grind (arith, nat_tests)

  values_forgotten : (ps : List Property) → map (value_over kept id) ps ≡ ps
  values_forgotten [] = refl
  values_forgotten (p ∷ ps) =
      ap (λ (x : Property). x ∷ map (value_over kept id) ps)
      (value_own kept id p (λ small. gone (is_selected id None) cells (value_place id p.number) (of_object p.number small)))
      ∙ ap (λ (xs : List Property). p ∷ xs) (values_forgotten ps)

  octets_forgotten : (f : Option File) → option_map (file_over kept id) f ≡ f
  octets_forgotten None = refl
  octets_forgotten (Some f) = ap Some (file_own kept id f (gone (is_selected id None) cells (file_place id 0) of_file))

  object_forgotten : (o : Object) → id ≡ o.id → object_over kept o ≡ o
  object_forgotten o is =
      ap (λ (x : ObjectId). record o { properties = map (value_over kept x) o.properties; file = option_map (file_over kept x) o.file }) (sym is)
      ∙ (λ i. record o { properties = values_forgotten o.properties i; file = octets_forgotten o.file i })

  pub all_forgotten : (document : Store) → object_in (overlay kept document) id ≡ object_in document id
  all_forgotten [] = refl
  all_forgotten (o ∷ os) = go (is_same id o.id) refl (all_forgotten os)
    where
      go : (b : Bool) → is_same id o.id ≡ b → object_in (overlay kept os) id ≡ object_in os id
          → (if b then Some (object_over kept o) else object_in (overlay kept os) id) ≡ (if b then Some o else object_in os id)
      go true e more = ap Some (object_forgotten o (same_object id o.id e))
      go false e more = more
