-- Changes that are the news of a document, and make of its old store its new one, make of any store what follows the document.
use Rattle.std.proofs.Common.{◌≡◌, ◌⊎◌, inl, inr, ℕ, ◌==◌, ◌&&◌, Bool, true, false, List, [], ◌∷◌, map, Option, Some, None, refl, sym, ap, ◌∙◌}
use Rattle.std.proofs.Common.{subst, arith, if◌then◌else◌}
use Rattle.std.specs.Prelude.{nat_eq}
use Rattle.std.specs.List.{All}
use Rattle.std.specs.Option.{option_map}
use Rattle.std.specs.Cmp.Lexicographic.{pointwise}
use Rattle.std.proofs.lemmas.Bool.Decides.{nat_tests}
use Rattle.std.proofs.lemmas.List.Elements.{All-head, All-tail}
use mathlib.Core.List.{map-map}
use Rattle.bac_value.specs.Value.{ObjectId}
use Rattle.bac_store.specs.AtNode.{Change, changed}
use Rattle.bac_store.specs.Changes.{with_contents, with_octets, with_own_values, with_values}
use Rattle.bac_store.specs.Replies.{file_of}
use Rattle.bac_store.specs.Stores.{File, Object, Property, Store, first_that, is_number, is_object, is_same, listed_in, object_in}
use Rattle.bac_store.specs.Writes.{listed_of}
use Rattle.bac_store.proofs.OrderLaws.{first_that-map}
use Rattle.bac_follow.specs.Following.{IsNews, contents_in_place, file_followed, followed, in_place, made, news, object_followed, octets_at, property_followed, values_at}

-- ---- changes, part by part

abbrev pub property_made : List Change → ObjectId → Property → Property
property_made [] id p = p
property_made (Change.Value i n v ∷ cs) id p = property_made cs id (if is_same i id && is_number n p then with_own_values v p else p)
property_made (Change.File i v ∷ cs) id p = property_made cs id p

abbrev pub file_made : List Change → ObjectId → File → File
file_made [] id f = f
file_made (Change.Value i n v ∷ cs) id f = file_made cs id f
file_made (Change.File i v ∷ cs) id f = file_made cs id (if is_same i id then with_contents (λ old. v) f else f)

abbrev pub object_made : List Change → Object → Object
object_made cs o = record o { properties = map (property_made cs o.id) o.properties; file = option_map (file_made cs o.id) o.file }

map_each : {A B : Type 0} (f g : A → B) (xs : List A) → ((x : A) → f x ≡ g x) → map f xs ≡ map g xs
map_each f g [] same = refl
map_each f g (x ∷ xs) same = ap (λ y. y ∷ map f xs) (same x) ∙ ap (λ ys. g x ∷ ys) (map_each f g xs same)

map_self : {A : Type 0} (f : A → A) (xs : List A) → ((x : A) → f x ≡ x) → map f xs ≡ xs
map_self f [] same = refl
map_self f (x ∷ xs) same = ap (λ y. y ∷ map f xs) (same x) ∙ ap (λ ys. x ∷ ys) (map_self f xs same)

option_each : {A B : Type 0} (f g : A → B) (x : Option A) → ((a : A) → f a ≡ g a) → option_map f x ≡ option_map g x
option_each f g None same = refl
option_each f g (Some a) same = ap Some (same a)

option_self : {A : Type 0} (f : A → A) (x : Option A) → ((a : A) → f a ≡ a) → option_map f x ≡ x
option_self f None same = refl
option_self f (Some a) same = ap Some (same a)

option_twice : {A B C : Type 0} (f : B → C) (g : A → B) (x : Option A) → option_map f (option_map g x) ≡ option_map (λ a. f (g a)) x
option_twice f g None = refl
option_twice f g (Some a) = refl

-- an object with other parts
parts : (o : Object) (ps qs : List Property) (f g : Option File) → ps ≡ qs → f ≡ g
    → (record o { properties = ps; file = f }) ≡ (record o { properties = qs; file = g })
parts o ps qs f g a b = ap (λ x. record o { properties = x; file = f }) a ∙ ap (λ x. record o { properties = qs; file = x }) b

abbrev object_after : (c : Change) → Object → Object
object_after (Change.Value id n v) o = if is_object id o then with_values n v o else o
object_after (Change.File id v) o = if is_object id o then with_octets (λ old. v) o else o

changed_is : (c : Change) (s : Store) → changed c s ≡ map (object_after c) s
changed_is (Change.Value id n v) s = refl
changed_is (Change.File id v) s = refl

step : (c : Change) (cs : List Change) (o : Object) → object_made cs (object_after c o) ≡ object_made (c ∷ cs) o
step (Change.Value id n v) cs o = go (is_same id o.id) refl
  where
    own : Property → Property
    own p = if is_number n p then with_own_values v p else p

    go : (b : Bool) → is_same id o.id ≡ b → object_made cs (if is_same id o.id then with_values n v o else o) ≡ object_made (Change.Value id n v ∷ cs) o
    go true e =
        ap (λ b. object_made cs (if b then with_values n v o else o)) e
        ∙ parts o _ _ _ _
        (map-map (property_made cs o.id) own o.properties
        ∙ map_each (λ p. property_made cs o.id (own p)) (property_made (Change.Value id n v ∷ cs) o.id) o.properties
        (λ p. ap (λ b. property_made cs o.id (if b && is_number n p then with_own_values v p else p)) (sym e)))
        refl
    go false e =
        ap (λ b. object_made cs (if b then with_values n v o else o)) e
        ∙ parts o _ _ _ _
        (map_each (property_made cs o.id) (property_made (Change.Value id n v ∷ cs) o.id) o.properties
        (λ p. ap (λ b. property_made cs o.id (if b && is_number n p then with_own_values v p else p)) (sym e)))
        refl
step (Change.File id v) cs o = go (is_same id o.id) refl
  where
    go : (b : Bool) → is_same id o.id ≡ b
        → object_made cs (if is_same id o.id then with_octets (λ old. v) o else o) ≡ object_made (Change.File id v ∷ cs) o
    go true e =
        ap (λ b. object_made cs (if b then with_octets (λ old. v) o else o)) e
        ∙ parts o _ _ _ _ refl
        (option_twice (file_made cs o.id) (with_contents (λ old. v)) o.file
        ∙ option_each (λ f. file_made cs o.id (with_contents (λ old. v) f)) (file_made (Change.File id v ∷ cs) o.id) o.file
        (λ f. ap (λ b. file_made cs o.id (if b then with_contents (λ old. v) f else f)) (sym e)))
    go false e =
        ap (λ b. object_made cs (if b then with_octets (λ old. v) o else o)) e
        ∙ parts o _ _ _ _ refl
        (option_each (file_made cs o.id) (file_made (Change.File id v ∷ cs) o.id) o.file
        (λ f. ap (λ b. file_made cs o.id (if b then with_contents (λ old. v) f else f)) (sym e)))

made_is : (cs : List Change) (s : Store) → made cs s ≡ map (object_made cs) s
made_is [] s =
    sym (map_self (object_made []) s
    (λ o. parts o _ o.properties _ o.file (map_self (property_made [] o.id) o.properties (λ p. refl)) (option_self (file_made [] o.id) o.file (λ f. refl))))
made_is (c ∷ cs) s =
    made_is cs (changed c s)
    ∙ ap (map (object_made cs)) (changed_is c s)
    ∙ map-map (object_made cs) (object_after c) s
    ∙ map_each (λ o. object_made cs (object_after c o)) (object_made (c ∷ cs)) s (step c cs)

-- ---- what is found after changes

number_made : (cs : List Change) (id : ObjectId) (p : Property) → (property_made cs id p).number ≡ p.number
number_made [] id p = refl
number_made (Change.Value i n v ∷ cs) id p = number_made cs id _ ∙ go (is_same i id && is_number n p)
  where
    go : (b : Bool) → (if b then with_own_values v p else p).number ≡ p.number
    go true = refl
    go false = refl
number_made (Change.File i v ∷ cs) id p = number_made cs id p

module _ (cs : List Change) (s : Store) (id : ObjectId) where
  object_there : object_in (made cs s) id ≡ option_map (object_made cs) (object_in s id)
  object_there = ap (λ x. object_in x id) (made_is cs s) ∙ first_that-map (is_object id) (object_made cs) (λ o. refl) s

same_id : (a b : ObjectId) → is_same a b ≡ true → a ≡ b
same_id a b e =
    let kind : a.kind ≡ b.kind = grind (arith, nat_tests) in
    let instance : a.instance ≡ b.instance = grind (arith, nat_tests) in
    λ i. record { kind = kind i; instance = instance i }

-- what is found of an object that a store has is found at its identifier
found_id : (id : ObjectId) (s : Store) (o : Object) → object_in s id ≡ Some o → id ≡ o.id
found_id id [] o e = absurd cc
found_id id (x ∷ xs) o e = go (is_object id x) refl (found_id id xs o)
  where
    go : (b : Bool) → is_object id x ≡ b → (object_in xs id ≡ Some o → id ≡ o.id) → id ≡ o.id
    go true t rest =
        let head : Some x ≡ Some o = sym (ap (λ b. if b then Some x else object_in xs id) t) ∙ e in
        let same : x ≡ o = cc in
        same_id id x.id t ∙ ap (λ y. y.id) same
    go false t rest = rest (sym (ap (λ b. if b then Some x else object_in xs id) t) ∙ e)

found_number : (n : ℕ) (ps : List Property) (p : Property) → first_that (is_number n) ps ≡ Some p → p.number ≡ n
found_number n [] p e = absurd cc
found_number n (x ∷ xs) p e = go (is_number n x) refl (found_number n xs p)
  where
    go : (b : Bool) → is_number n x ≡ b → (first_that (is_number n) xs ≡ Some p → p.number ≡ n) → p.number ≡ n
    go true t rest =
        let head : Some x ≡ Some p = sym (ap (λ b. if b then Some x else first_that (is_number n) xs) t) ∙ e in
        let same : x ≡ p = cc in
        let number : x.number ≡ n = grind (arith, nat_tests) in
        sym (ap (λ y. y.number) same) ∙ number
    go false t rest = rest (sym (ap (λ b. if b then Some x else first_that (is_number n) xs) t) ∙ e)

listed_made : (cs : List Change) (o : Object) (n : ℕ) → listed_in (object_made cs o) n ≡ option_map (property_made cs o.id) (listed_in o n)
listed_made cs o n = first_that-map (is_number n) (property_made cs o.id) (λ p. ap (λ m. m == n) (number_made cs o.id p)) o.properties

-- ---- what the news leave, and what they set

-- they leave each property of this number as it is
abbrev IsLeft : List Change → ObjectId → ℕ → Type 0
IsLeft cs id n = (p : Property) → p.number ≡ n → property_made cs id p ≡ p

-- they give each of them these values, which are new
record IsSet (before now : Store) (cs : List Change) (id : ObjectId) (n : ℕ) : Type 0 where
  values : List ℕ
  sets : (p : Property) → p.number ≡ n → property_made cs id p ≡ with_own_values values p
  new : news (values_at before id n) (values_at now id n) ≡ Some values

abbrev AreNews : (before now : Store) → List Change → Type 0
AreNews before now cs = All (IsNews before now) cs

first_news : (before now : Store) (c : Change) (cs : List Change) → AreNews before now (c ∷ cs) → IsNews before now c
first_news before now c cs all = All-head (IsNews before now) c cs all

other_news : (before now : Store) (c : Change) (cs : List Change) → AreNews before now (c ∷ cs) → AreNews before now cs
other_news before now c cs all = All-tail (IsNews before now) c cs all

left_or_set : (before now : Store) (cs : List Change) (id : ObjectId) (n : ℕ) → AreNews before now cs → IsLeft cs id n ⊎ IsSet before now cs id n
left_or_set before now [] id n all = inl (λ p e. refl)
left_or_set before now (Change.File i v ∷ cs) id n all = go (left_or_set before now cs id n (other_news before now (Change.File i v) cs all))
  where
    go : IsLeft cs id n ⊎ IsSet before now cs id n → IsLeft (Change.File i v ∷ cs) id n ⊎ IsSet before now (Change.File i v ∷ cs) id n
    go (inl left) = inl left
    go (inr set) = inr (record { values = set.values; sets = set.sets; new = set.new })
left_or_set before now (Change.Value i m v ∷ cs) id n all =
    go (is_same i id) refl (m == n) refl (left_or_set before now cs id n (other_news before now (Change.Value i m v) cs all))
  where
    c : Change
    c = Change.Value i m v

    touch : (b d : Bool) → is_same i id ≡ b → (m == n) ≡ d → (p : Property) → p.number ≡ n
        → property_made (c ∷ cs) id p ≡ property_made cs id (if b && d then with_own_values v p else p)
    touch b d e f p number =
        let flips : (p.number == m) ≡ (m == n) = grind (arith, nat_tests) in
        ap (λ x. property_made cs id (if x && (p.number == m) then with_own_values v p else p)) e
        ∙ ap (λ x. property_made cs id (if b && x then with_own_values v p else p)) (flips ∙ f)

    go : (b : Bool) → is_same i id ≡ b → (d : Bool) → (m == n) ≡ d → IsLeft cs id n ⊎ IsSet before now cs id n
        → IsLeft (c ∷ cs) id n ⊎ IsSet before now (c ∷ cs) id n
    go true e true f (inl left) =
        let object : i ≡ id = same_id i id e in
        let number : m ≡ n = grind (arith, nat_tests) in
        inr (record {
          values = v;
          sets = λ p is. touch true true e f p is ∙ left (with_own_values v p) is;
          new = subst (λ x. news (values_at before id x) (values_at now id x) ≡ Some v) number
              (subst (λ x. news (values_at before x m) (values_at now x m) ≡ Some v) object (first_news before now c cs all));
        })
    go true e true f (inr set) =
        inr (record { values = set.values; sets = λ p is. touch true true e f p is ∙ set.sets (with_own_values v p) is; new = set.new })
    go true e false f (inl left) = inl (λ p is. touch true false e f p is ∙ left p is)
    go true e false f (inr set) = inr (record { values = set.values; sets = λ p is. touch true false e f p is ∙ set.sets p is; new = set.new })
    go false e d f (inl left) = inl (λ p is. touch false d e f p is ∙ left p is)
    go false e d f (inr set) = inr (record { values = set.values; sets = λ p is. touch false d e f p is ∙ set.sets p is; new = set.new })

-- the same of files

abbrev IsFileLeft : List Change → ObjectId → Type 0
IsFileLeft cs id = (f : File) → file_made cs id f ≡ f

record IsFileSet (before now : Store) (cs : List Change) (id : ObjectId) : Type 0 where
  octets : List ℕ
  sets : (f : File) → file_made cs id f ≡ with_contents (λ old. octets) f
  new : news (octets_at before id) (octets_at now id) ≡ Some octets

file_left_or_set : (before now : Store) (cs : List Change) (id : ObjectId) → AreNews before now cs → IsFileLeft cs id ⊎ IsFileSet before now cs id
file_left_or_set before now [] id all = inl (λ f. refl)
file_left_or_set before now (Change.Value i m v ∷ cs) id all = go (file_left_or_set before now cs id (other_news before now (Change.Value i m v) cs all))
  where
    go : IsFileLeft cs id ⊎ IsFileSet before now cs id → IsFileLeft (Change.Value i m v ∷ cs) id ⊎ IsFileSet before now (Change.Value i m v ∷ cs) id
    go (inl left) = inl left
    go (inr set) = inr (record { octets = set.octets; sets = set.sets; new = set.new })
file_left_or_set before now (Change.File i v ∷ cs) id all =
    go (is_same i id) refl (file_left_or_set before now cs id (other_news before now (Change.File i v) cs all))
  where
    c : Change
    c = Change.File i v

    touch : (b : Bool) → is_same i id ≡ b → (f : File) → file_made (c ∷ cs) id f ≡ file_made cs id (if b then with_contents (λ old. v) f else f)
    touch b e f = ap (λ x. file_made cs id (if x then with_contents (λ old. v) f else f)) e

    go : (b : Bool) → is_same i id ≡ b → IsFileLeft cs id ⊎ IsFileSet before now cs id → IsFileLeft (c ∷ cs) id ⊎ IsFileSet before now (c ∷ cs) id
    go true e (inl left) =
        inr (record {
          octets = v;
          sets = λ f. touch true e f ∙ left (with_contents (λ old. v) f);
          new = subst (λ x. news (octets_at before x) (octets_at now x) ≡ Some v) (same_id i id e) (first_news before now c cs all);
        })
    go true e (inr set) = inr (record { octets = set.octets; sets = λ f. touch true e f ∙ set.sets (with_contents (λ old. v) f); new = set.new })
    go false e (inl left) = inl (λ f. touch false e f ∙ left f)
    go false e (inr set) = inr (record { octets = set.octets; sets = λ f. touch false e f ∙ set.sets f; new = set.new })

-- ---- what is left has no news

same_text : (xs : List ℕ) → pointwise nat_eq xs xs ≡ true
same_text [] = refl
same_text (x ∷ xs) = let here : nat_eq x x ≡ true = grind (arith, nat_tests) in rw here (same_text xs)

no_news : (x : Option (List ℕ)) → news x x ≡ None
no_news None = refl
no_news (Some t) = ap (λ b. if b then None else Some t) (same_text t)

module _ (before : Store) (cs : List Change) (id : ObjectId) where
  values_left : (n : ℕ) → IsLeft cs id n → values_at (made cs before) id n ≡ values_at before id n
  values_left n left = ap (λ x. option_map (λ p. p.values) (listed_of n x)) (object_there cs before id) ∙ go (object_in before id) refl
    where
      in_object : (o : Object) → id ≡ o.id → (x : Option Property) → listed_in o n ≡ x
          → option_map (λ p. p.values) (option_map (property_made cs o.id) x) ≡ option_map (λ p. p.values) x
      in_object o is None e = refl
      in_object o is (Some p) e =
          ap (λ q. Some (q.values)) (ap (λ i. property_made cs i p) (sym is) ∙ left p (found_number n o.properties p e))

      go : (x : Option Object) → object_in before id ≡ x
          → option_map (λ p. p.values) (listed_of n (option_map (object_made cs) x)) ≡ option_map (λ p. p.values) (listed_of n x)
      go None e = refl
      go (Some o) e = ap (option_map (λ p. p.values)) (listed_made cs o n) ∙ in_object o (found_id id before o e) (listed_in o n) refl

  octets_left : IsFileLeft cs id → octets_at (made cs before) id ≡ octets_at before id
  octets_left left = ap (λ x. option_map (λ f. f.octets) (file_of x)) (object_there cs before id) ∙ go (object_in before id) refl
    where
      in_object : (o : Object) → id ≡ o.id → (x : Option File)
          → option_map (λ f. f.octets) (option_map (file_made cs o.id) x) ≡ option_map (λ f. f.octets) x
      in_object o is None = refl
      in_object o is (Some f) = ap (λ g. Some (g.octets)) (ap (λ i. file_made cs i f) (sym is) ∙ left f)

      go : (x : Option Object) → object_in before id ≡ x
          → option_map (λ f. f.octets) (file_of (option_map (object_made cs) x)) ≡ option_map (λ f. f.octets) (file_of x)
      go None e = refl
      go (Some o) e = in_object o (found_id id before o e) o.file

-- ---- the theorem

module _ (before now : Store) (cs : List Change) (all : AreNews before now cs) (whole : made cs before ≡ now) where
  property_is : (id : ObjectId) (p : Property) → property_made cs id p ≡ property_followed before now id p
  property_is id p = go (left_or_set before now cs id p.number all)
    where
      go : IsLeft cs id p.number ⊎ IsSet before now cs id p.number → property_made cs id p ≡ property_followed before now id p
      go (inl left) =
          left p refl
          ∙ ap (λ x. in_place x p)
          (sym (ap (λ s. news (values_at before id p.number) (values_at s id p.number)) (sym whole)
          ∙ ap (news (values_at before id p.number)) (values_left before cs id p.number left)
          ∙ no_news (values_at before id p.number)))
      go (inr set) = set.sets p refl ∙ ap (λ x. in_place x p) (sym set.new)

  file_is : (id : ObjectId) (f : File) → file_made cs id f ≡ file_followed before now id f
  file_is id f = go (file_left_or_set before now cs id all)
    where
      go : IsFileLeft cs id ⊎ IsFileSet before now cs id → file_made cs id f ≡ file_followed before now id f
      go (inl left) =
          left f
          ∙ ap (λ x. contents_in_place x f)
          (sym (ap (λ s. news (octets_at before id) (octets_at s id)) (sym whole)
          ∙ ap (news (octets_at before id)) (octets_left before cs id left)
          ∙ no_news (octets_at before id)))
      go (inr set) = set.sets f ∙ ap (λ x. contents_in_place x f) (sym set.new)

  pub follows : (s : Store) → made cs s ≡ followed before now s
  follows s =
      made_is cs s
      ∙ map_each (object_made cs) (object_followed before now) s
      (λ o. parts o _ _ _ _ (map_each (property_made cs o.id) (property_followed before now o.id) o.properties (property_is o.id))
      (option_each (file_made cs o.id) (file_followed before now o.id) o.file (file_is o.id)))
