-- What is found in a store after a request; and replies depend only on what is found.
use Rattle.std.proofs.Common.{◌≡◌, ◌∙◌, ℕ, ◌==◌, Bool, true, false, ◌&&◌, List, [], ◌∷◌, length, map, Option, Some, None, is_some, refl, sym, ap, subst, if◌then◌else◌}
use Rattle.std.specs.Option.{option_map}
use Rattle.bac_value.specs.Value.{ObjectId}
use Rattle.bac_service.specs.Values.{Request}
use Rattle.bac_service.specs.Replies.{Reply}
use Rattle.bac_service.specs.Values.WriteAccess.{WriteStream, WriteRecords}
use Rattle.bac_service.specs.Values.Request.{ReadFile, WriteFile, ReadProperty, WriteProperty}
use Rattle.bac_store.specs.Changes.{after, done, is_done, resized, size_of, with_contents, with_object, with_octets, with_own_values, with_values, with_written}
use Rattle.bac_store.specs.Limits.{FILE_SIZE, READ_ONLY}
use Rattle.bac_store.specs.Objects.{AreLike, IsLike, IsStoreOf}
use Rattle.bac_store.specs.Replies.{at_file, at_object, at_property, file_of, read_file_reply, read_reply, reply_to, write_file_reply, write_reply, written}
use Rattle.bac_store.specs.Stores.{Object, Property, Store, file_size, first_that, is_number, is_object, is_same, is_written, sized}
use Rattle.bac_store.specs.Stores.{listed_in, object_in, property_in}
use Rattle.bac_store.specs.Targets.{read_in}
use Rattle.bac_store.proofs.ReadTargets.{read_like}

-- ---- look-ups in a list with changes

module _ {A : Type 0} (test : A → Bool) where
  -- if a change does not affect a test, what is found is the changed element that was found before
  pub first_that-map : (g : A → A) → ((x : A) → test (g x) ≡ test x) → (xs : List A) → first_that test (map g xs) ≡ option_map g (first_that test xs)
  first_that-map g same [] = refl
  first_that-map g same (x ∷ xs) = go (test x) refl (first_that-map g same xs)
    where
      go : (b : Bool) → test x ≡ b → first_that test (map g xs) ≡ option_map g (first_that test xs)
          → first_that test (map g (x ∷ xs)) ≡ option_map g (first_that test (x ∷ xs))
      go true e rest = rw (same x, e) refl
      go false e rest = rw (same x, e) rest

number_stays : (n m : ℕ) (values : List ℕ) (p : Property) → is_number m (if is_number n p then with_own_values values p else p) ≡ is_number m p
number_stays n m values p = go (is_number n p)
  where
    go : (b : Bool) → is_number m (if b then with_own_values values p else p) ≡ is_number m p
    go true = refl
    go false = refl

pub listed_in-with_values : (n m : ℕ) (values : List ℕ) (o : Object)
    → listed_in (with_values n values o) m ≡ option_map (λ p. if is_number n p then with_own_values values p else p) (listed_in o m)
listed_in-with_values n m values o =
    first_that-map (is_number m) (λ p. if is_number n p then with_own_values values p else p) (number_stays n m values) o.properties

id_stays : (id q : ObjectId) (change : Object → Object) → ((o : Object) → (change o).id ≡ o.id) → (o : Object)
    → is_object q (if is_object id o then change o else o) ≡ is_object q o
id_stays id q change keeps o = go (is_object id o)
  where
    go : (b : Bool) → is_object q (if b then change o else o) ≡ is_object q o
    go true = ap (is_same q) (keeps o)
    go false = refl

pub object_in-with_object : (id q : ObjectId) (change : Object → Object) → ((o : Object) → (change o).id ≡ o.id) → (s : Store)
    → object_in (with_object id change s) q ≡ option_map (λ o. if is_object id o then change o else o) (object_in s q)
object_in-with_object id q change keeps s =
    first_that-map (is_object q) (λ o. if is_object id o then change o else o) (id_stays id q change keeps) s

-- ---- objects that are alike

octets_like : (change : List ℕ → List ℕ) (a b : Object) → IsLike a b → IsLike (with_octets change a) (with_octets change b)
octets_like change a b l = record { id = l.id; name = l.name; listed = l.listed; file = ap (option_map (with_contents change)) l.file }

values_like : (n : ℕ) (values : List ℕ) (a b : Object) → IsLike a b → IsLike (with_values n values a) (with_values n values b)
values_like n values a b l = record {
  id = l.id;
  name = l.name;
  listed = λ m.
      listed_in-with_values n m values a
      ∙ ap (option_map (λ p. if is_number n p then with_own_values values p else p)) (l.listed m)
      ∙ sym (listed_in-with_values n m values b);
  file = l.file;
}

written_id : (n : ℕ) (values : List ℕ) (o : Object) → (with_written n values o).id ≡ o.id
written_id n values o = go (n == FILE_SIZE)
  where
    go : (b : Bool) → (if b then with_octets (resized (size_of values)) o else with_values n values o).id ≡ o.id
    go true = refl
    go false = refl

written_like : (n : ℕ) (values : List ℕ) (a b : Object) → IsLike a b → IsLike (with_written n values a) (with_written n values b)
written_like n values a b l = go (n == FILE_SIZE)
  where
    go : (t : Bool) → IsLike (if t then with_octets (resized (size_of values)) a else with_values n values a)
        (if t then with_octets (resized (size_of values)) b else with_values n values b)
    go true = octets_like (resized (size_of values)) a b l
    go false = values_like n values a b l

size_like : (a b : Object) → IsLike a b → option_map (file_size a) a.file ≡ option_map (file_size b) b.file
size_like a b l =
    ap (λ x. option_map (λ f. sized (is_written x && is_some (listed_in a READ_ONLY)) (length f.octets)) x) l.file
    ∙ ap (λ x. option_map (λ f. sized (is_written b.file && is_some x) (length f.octets)) b.file) (l.listed READ_ONLY)

property_like : (n : ℕ) (a b : Object) → IsLike a b → property_in a n ≡ property_in b n
property_like n a b l = rw (size_like a b l, l.id, l.name, l.file, l.listed n) refl

changed_like : (id : ObjectId) (change : Object → Object) → ((a b : Object) → IsLike a b → IsLike (change a) (change b)) → (a b : Object) → IsLike a b
    → IsLike (if is_object id a then change a else a) (if is_object id b then change b else b)
changed_like id change respects a b l = go (is_object id b) refl
  where
    go : (t : Bool) → is_object id b ≡ t → IsLike (if is_object id a then change a else a) (if is_object id b then change b else b)
    go true e = let same : is_object id a ≡ true = ap (is_same id) l.id ∙ e in rw (same, e) (respects a b l)
    go false e = let same : is_object id a ≡ false = ap (is_same id) l.id ∙ e in rw (same, e) l

map_like : (g : Object → Object) → ((a b : Object) → IsLike a b → IsLike (g a) (g b)) → (a b : Option Object) → AreLike a b
    → AreLike (option_map g a) (option_map g b)
map_like g respects None None h = tt
map_like g respects None (Some b) h = h
map_like g respects (Some a) None h = h
map_like g respects (Some a) (Some b) h = respects a b h

store_like : (id : ObjectId) (change : Object → Object) → ((o : Object) → (change o).id ≡ o.id)
    → ((a b : Object) → IsLike a b → IsLike (change a) (change b)) → (objects s : Store) → IsStoreOf objects s
    → IsStoreOf (with_object id change objects) (with_object id change s)
store_like id change keeps respects objects s is q =
    let g = λ (o : Object). if is_object id o then change o else o in
    rw (object_in-with_object id q change keeps s, object_in-with_object id q change keeps objects)
    (map_like g (changed_like id change respects) (object_in s q) (object_in objects q) (is q))

done_like : (objects s : Store) → IsStoreOf objects s → (r : Request) → IsStoreOf (done r objects) (done r s)
done_like objects s is (ReadFile id access) = is
done_like objects s is (WriteFile id (WriteRecords start count run)) = is
done_like objects s is (WriteFile id (WriteStream start octets)) =
    store_like id (with_octets (written start octets)) (λ o. refl) (octets_like (written start octets)) objects s is
done_like objects s is (ReadProperty r) = is
done_like objects s is (WriteProperty r values priority) =
    store_like r.object (with_written r.property values) (written_id r.property values) (written_like r.property values) objects s is

-- ---- replies

at_like : (answer : Object → Reply) → ((a b : Object) → IsLike a b → answer a ≡ answer b) → (a b : Option Object) → AreLike a b
    → at_object a answer ≡ at_object b answer
at_like answer same None None h = refl
at_like answer same None (Some b) h = absurd h
at_like answer same (Some a) None h = absurd h
at_like answer same (Some a) (Some b) h = same a b h

file_like : (a b : Option Object) → AreLike a b → file_of a ≡ file_of b
file_like None None h = refl
file_like None (Some b) h = absurd h
file_like (Some a) None h = absurd h
file_like (Some a) (Some b) h = h.file

pub same_reply : (objects s : Store) → IsStoreOf objects s → (r : Request) → reply_to s r ≡ reply_to objects r
same_reply objects s is (ReadFile id access) = ap (λ f. at_file f (read_file_reply access)) (file_like (object_in s id) (object_in objects id) (is id))
same_reply objects s is (WriteFile id access) = ap (λ f. at_file f (write_file_reply access)) (file_like (object_in s id) (object_in objects id) (is id))
same_reply objects s is (ReadProperty r) =
    at_like (λ o. at_property (property_in o r.property) (read_reply r))
    (λ a b l. ap (λ p. at_property p (read_reply r)) (property_like r.property a b l)) (read_in s r.object) (read_in objects r.object) (read_like objects s is r.object)
same_reply objects s is (WriteProperty r values priority) =
    at_like (λ o. at_property (property_in o r.property) (write_reply r values))
    (λ a b l. ap (λ p. at_property p (write_reply r values)) (property_like r.property a b l)) (object_in s r.object) (object_in objects r.object) (is r.object)

same_after : (r : Request) (b : Bool) (objects s : Store) → IsStoreOf objects s
    → IsStoreOf (if b then done r objects else objects) (if b then done r s else s)
same_after r true objects s is = done_like objects s is r
same_after r false objects s is = is

pub store_after : (objects s : Store) → IsStoreOf objects s → (r : Request) → IsStoreOf (after objects r) (after s r)
store_after objects s is r =
    subst (λ x. IsStoreOf (if is_done x then done r objects else objects) (after s r)) (same_reply objects s is r)
    (same_after r (is_done (reply_to s r)) objects s is)
