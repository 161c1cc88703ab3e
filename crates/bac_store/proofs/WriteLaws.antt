-- A write changes one thing only.
use Rattle.std.proofs.Common.{◌≡◌, ◌≢◌, ◌∙◌, ℕ, ℤ, ◌==◌, Bool, true, false, List, [], ◌∷◌, Option, Some, None, refl, sym, ap, subst, arith, if◌then◌else◌}
use Rattle.std.specs.Option.{option_map}
use Rattle.std.proofs.lemmas.Bool.Decides.{nat_tests}
use Rattle.bac_value.specs.Value.{ObjectId}
use Rattle.bac_service.specs.Choices.{is_read_choice}
use Rattle.bac_service.specs.Values.{Reference, Request, choice_of}
use Rattle.bac_service.specs.Values.WriteAccess.{WriteStream}
use Rattle.bac_service.specs.Values.Request.{ReadFile, WriteFile, ReadProperty, WriteProperty}
use Rattle.bac_store.specs.Changes.{IsGranted, after, done, is_done, resized, size_of, with_contents, with_object, with_octets, with_own_values, with_values}
use Rattle.bac_store.specs.Changes.{with_written}
use Rattle.bac_store.specs.Limits.{FILE_SIZE}
use Rattle.bac_store.specs.Replies.{file_of, reply_to, written}
use Rattle.bac_store.specs.Stores.{Object, Property, Store, first_that, is_number, is_object, is_same, object_in}
use Rattle.bac_store.specs.AtNode.{Change, changed, whole}
use Rattle.bac_store.specs.Writes.{IsFileChange, IsFileWrite, IsValueWrite, listed_of}
use Rattle.bac_store.proofs.OrderLaws.{listed_in-with_values, object_in-with_object}

-- what was found by a test passes it
found_changed : {A : Type 0} (test : A → Bool) (change : A → A) (xs : List A)
    → option_map (λ x. if test x then change x else x) (first_that test xs) ≡ option_map change (first_that test xs)
found_changed test change [] = refl
found_changed test change (x ∷ xs) = go (test x) refl (found_changed test change xs)
  where
    go : (b : Bool) → test x ≡ b → option_map (λ y. if test y then change y else y) (first_that test xs) ≡ option_map change (first_that test xs)
        → option_map (λ y. if test y then change y else y) (first_that test (x ∷ xs)) ≡ option_map change (first_that test (x ∷ xs))
    go true e rest = rw (e, e) refl
    go false e rest = rw e rest

-- what was found by a test that excludes another test does not pass the other
found_kept : {A : Type 0} (test other : A → Bool) (change : A → A) → ((x : A) → other x ≡ true → test x ≡ false) → (xs : List A)
    → option_map (λ x. if test x then change x else x) (first_that other xs) ≡ first_that other xs
found_kept test other change apart [] = refl
found_kept test other change apart (x ∷ xs) = go (other x) refl (found_kept test other change apart xs)
  where
    go : (b : Bool) → other x ≡ b → option_map (λ y. if test y then change y else y) (first_that other xs) ≡ first_that other xs
        → option_map (λ y. if test y then change y else y) (first_that other (x ∷ xs)) ≡ first_that other (x ∷ xs)
    go true e rest = rw (e, apart x e) refl
    go false e rest = rw e rest

other_id : (id q : ObjectId) → is_same id q ≡ false → (o : Object) → is_object q o ≡ true → is_object id o ≡ false
other_id id q apart o is = grind (arith, nat_tests)

other_number : (n m : ℕ) → m ≢ n → (p : Property) → is_number m p ≡ true → is_number n p ≡ false
other_number n m apart p is = grind (arith, nat_tests)

module _ (id : ObjectId) (change : Object → Object) (keeps : (o : Object) → (change o).id ≡ o.id) (s : Store) where
  there : object_in (with_object id change s) id ≡ option_map change (object_in s id)
  there = object_in-with_object id id change keeps s ∙ found_changed (is_object id) change s

  elsewhere : (q : ObjectId) → is_same id q ≡ false → object_in (with_object id change s) q ≡ object_in s q
  elsewhere q apart = object_in-with_object id q change keeps s ∙ found_kept (is_object id) (is_object q) change (other_id id q apart) s

-- a component of what is found
part : {A B : Type 0} (f : A → B) (change : A → A) → ((x : A) → f (change x) ≡ f x) → (o : Option A) → option_map f (option_map change o) ≡ option_map f o
part f change same None = refl
part f change same (Some x) = ap Some (same x)

listed_there : (n : ℕ) (values : List ℕ) (o : Option Object)
    → listed_of n (option_map (with_values n values) o) ≡ option_map (with_own_values values) (listed_of n o)
listed_there n values None = refl
listed_there n values (Some o) = listed_in-with_values n n values o ∙ found_changed (is_number n) (with_own_values values) o.properties

listed_elsewhere : (n m : ℕ) (values : List ℕ) → m ≢ n → (o : Option Object) → listed_of m (option_map (with_values n values) o) ≡ listed_of m o
listed_elsewhere n m values apart None = refl
listed_elsewhere n m values apart (Some o) =
    listed_in-with_values n m values o
    ∙ found_kept (is_number n) (is_number m) (with_own_values values) (other_number n m apart) o.properties

file_stays : (n : ℕ) (values : List ℕ) (o : Option Object) → file_of (option_map (with_values n values) o) ≡ file_of o
file_stays n values None = refl
file_stays n values (Some o) = refl

file_there : (change : List ℕ → List ℕ) (o : Option Object) → file_of (option_map (with_octets change) o) ≡ option_map (with_contents change) (file_of o)
file_there change None = refl
file_there change (Some o) = refl

listed_stays : (n : ℕ) (change : List ℕ → List ℕ) (o : Option Object) → listed_of n (option_map (with_octets change) o) ≡ listed_of n o
listed_stays n change None = refl
listed_stays n change (Some o) = refl

pub value_written : (s : Store) (r : Reference) (values : List ℕ) → IsValueWrite r values s (with_object r.object (with_values r.property values) s)
value_written s r values =
    let change = with_values r.property values in
    let found = there r.object change (λ o. refl) s in
    record {
      there = ap (listed_of r.property) found ∙ listed_there r.property values (object_in s r.object);
      other_properties = λ n apart. ap (listed_of n) found ∙ listed_elsewhere r.property n values apart (object_in s r.object);
      name = ap (option_map (λ o. o.name)) found ∙ part (λ o. o.name) change (λ o. refl) (object_in s r.object);
      file = ap file_of found ∙ file_stays r.property values (object_in s r.object);
      other_objects = elsewhere r.object change (λ o. refl) s;
    }

pub file_changed : (s : Store) (id : ObjectId) (write : List ℕ → List ℕ) → IsFileChange id write s (with_object id (with_octets write) s)
file_changed s id write =
    let change = with_octets write in
    let found = there id change (λ o. refl) s in
    record {
      there = ap file_of found ∙ file_there write (object_in s id);
      properties = λ n. ap (listed_of n) found ∙ listed_stays n write (object_in s id);
      name = ap (option_map (λ o. o.name)) found ∙ part (λ o. o.name) change (λ o. refl) (object_in s id);
      other_objects = elsewhere id change (λ o. refl) s;
    }

-- ---- requests

pub where_done : (b : Bool) (x y : Store) → b ≡ true → (if b then x else y) ≡ x
where_done true x y e = refl
where_done false x y e = cc

where_not_done : (b : Bool) (x y : Store) → b ≡ false → (if b then x else y) ≡ y
where_not_done true x y e = cc
where_not_done false x y e = refl

where_same : (b : Bool) (x : Store) → (if b then x else x) ≡ x
where_same true x = refl
where_same false x = refl

-- what a granted write makes of a listed property, and of a file's size
pub listed_written : (id : ObjectId) (n : ℕ) (values : List ℕ) (s : Store) → n ≢ FILE_SIZE
    → with_object id (with_written n values) s ≡ with_object id (with_values n values) s
listed_written id n values s other = go (n == FILE_SIZE) (grind (arith, nat_tests))
  where
    go : (b : Bool) → b ≡ false → with_object id (λ o. if b then with_octets (resized (size_of values)) o else with_values n values o) s
        ≡ with_object id (with_values n values) s
    go true e = absurd (cc)
    go false e = refl

pub size_written : (id : ObjectId) (n : ℕ) (values : List ℕ) (s : Store) → n ≡ FILE_SIZE
    → with_object id (with_written n values) s ≡ with_object id (with_octets (resized (size_of values))) s
size_written id n values s is = go (n == FILE_SIZE) (grind (arith, nat_tests))
  where
    go : (b : Bool) → b ≡ true → with_object id (λ o. if b then with_octets (resized (size_of values)) o else with_values n values o) s
        ≡ with_object id (with_octets (resized (size_of values))) s
    go true e = refl
    go false e = absurd (cc)

pub after_granted : (s : Store) (r : Reference) (values : List ℕ) (priority : Option ℕ) → IsGranted s (WriteProperty r values priority)
    → after s (WriteProperty r values priority) ≡ with_object r.object (with_written r.property values) s
after_granted s r values priority granted =
    where_done (is_done (reply_to s (WriteProperty r values priority))) (with_object r.object (with_written r.property values) s) s granted

pub write_values : (s : Store) (r : Reference) (values : List ℕ) (priority : Option ℕ) → r.property ≢ FILE_SIZE
    → IsGranted s (WriteProperty r values priority) → IsValueWrite r values s (after s (WriteProperty r values priority))
write_values s r values priority other granted =
    subst (IsValueWrite r values s) (sym (after_granted s r values priority granted ∙ listed_written r.object r.property values s other))
    (value_written s r values)

pub write_size : (s : Store) (r : Reference) (values : List ℕ) (priority : Option ℕ) → r.property ≡ FILE_SIZE
    → IsGranted s (WriteProperty r values priority) → IsFileChange r.object (resized (size_of values)) s (after s (WriteProperty r values priority))
write_size s r values priority is granted =
    subst (IsFileChange r.object (resized (size_of values)) s)
    (sym (after_granted s r values priority granted ∙ size_written r.object r.property values s is))
    (file_changed s r.object (resized (size_of values)))

pub write_octets : (s : Store) (id : ObjectId) (start : ℤ) (octets : List ℕ) → IsGranted s (WriteFile id (WriteStream start octets))
    → IsFileWrite id start octets s (after s (WriteFile id (WriteStream start octets)))
write_octets s id start octets granted =
    let to = with_object id (with_octets (written start octets)) s in
    subst (IsFileWrite id start octets s) (sym (where_done (is_done (reply_to s (WriteFile id (WriteStream start octets)))) to s granted))
    (file_changed s id (written start octets))

pub error_changes_nothing : (s : Store) (r : Request) → is_done (reply_to s r) ≡ false → after s r ≡ s
error_changes_nothing s r e = where_not_done (is_done (reply_to s r)) (done r s) s e

pub reads_change_nothing : (s : Store) (r : Request) → is_read_choice (choice_of r) ≡ true → after s r ≡ s
reads_change_nothing s (ReadFile id access) read = where_same (is_done (reply_to s (ReadFile id access))) s
reads_change_nothing s (WriteFile id access) read = absurd (let never : false ≡ true = read in cc)
reads_change_nothing s (ReadProperty r) read = where_same (is_done (reply_to s (ReadProperty r))) s
reads_change_nothing s (WriteProperty r values priority) read = absurd (let never : false ≡ true = read in cc)

-- ---- changes at the node itself

pub change_values : (s : Store) (id : ObjectId) (n : ℕ) (octets : List ℕ) → IsValueWrite (whole id n) octets s (changed (Change.Value id n octets) s)
change_values s id n octets = value_written s (whole id n) octets

pub change_octets : (s : Store) (id : ObjectId) (octets : List ℕ) → IsFileChange id (λ old. octets) s (changed (Change.File id octets) s)
change_octets s id octets = file_changed s id (λ old. octets)
