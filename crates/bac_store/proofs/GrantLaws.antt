-- What may be written over the network can be set by the node: a granted WriteProperty with data is a change without fault.
use Rattle.std.proofs.Common.{◌≡◌, ◌≢◌, arith, ℕ, Bool, true, false, not, ◌&&◌, ◌||◌, ◌==◌, nat_lt, List, length, Option, Some, None, is_some, refl, ap}
use Rattle.std.proofs.Common.{◌∙◌, if◌then◌else◌}
use Rattle.std.specs.Option.{option_map}
use Rattle.std.proofs.lemmas.Bool.Decides.{nat_tests}
use Rattle.bac_value.specs.Data.{IsData}
use Rattle.bac_value.specs.Value.{Datum, characters, enumerated, object}
use Rattle.bac_value.proofs.Forests.{data_text}
use Rattle.bac_service.specs.Values.{Reference}
use Rattle.bac_service.specs.Values.Request.{WriteProperty}
use Rattle.bac_service.specs.Replies.{Reply}
use Rattle.bac_service.specs.Replies.Reply.{Simple}
use Rattle.bac_store.specs.declared.change_fault.ChangeFault.{ChangeFault}
use Rattle.bac_store.specs.declared.change_fault.ChangeFault.TheVariants as fault
use Rattle.bac_store.specs.AtNode.{Change, change_fault, changed, is_data, or_fault, reads_all, value_fault}
use Rattle.bac_store.specs.Changes.{IsGranted, after, is_done}
use Rattle.bac_store.specs.Limits.{FILE_ACCESS_METHOD, FILE_SIZE, OBJECT_IDENTIFIER, OBJECT_NAME, OBJECT_TYPE, STREAM_ACCESS, VALUE_LIMIT}
use Rattle.bac_store.specs.Replies.{at_object, at_property, is_of_kind, is_right_state, write_reply}
use Rattle.bac_store.specs.Allowing.{is_allowed}
use Rattle.bac_store.specs.Stores.{File, Object, Property, Store, computed, file_size, listed_in, object_in, property_in}
use Rattle.bac_store.proofs.WriteLaws.{after_granted, listed_written}

module _ (r : Reference) (values : List ℕ) where
  -- the reply for the property that was found is not an Error
  abbrev Grants : Option Property → Type 0
  Grants x = is_done (at_property x (write_reply r values)) ≡ true

  -- the cases of a WriteProperty, and what the change tests
  abbrev fault_of : (right kind state long : Bool) → Option ChangeFault
  fault_of right kind state long = if right && kind && state then (if long then Some fault.TooLong else None) else Some fault.BadValue

  by_case : (index writable kind state allowed long : Bool)
      → is_done (if index then Reply.Error 2 50 else (if not writable then Reply.Error 2 40 else (if not kind then Reply.Error 2 9 else
      (if not state || not allowed then Reply.Error 2 37 else (if long then Reply.Error 3 20 else Simple))))) ≡ true
      → fault_of true kind state long ≡ None
  by_case true writable kind state allowed long h = cc
  by_case false false kind state allowed long h = cc
  by_case false true false state allowed long h = cc
  by_case false true true false allowed long h = cc
  by_case false true true true false long h = cc
  by_case false true true true true true h = cc
  by_case false true true true true false h = refl

  no_fault : (p : Property) → is_data values ≡ true → Grants (Some p) → value_fault r values p ≡ None
  no_fault p right h =
      ap (λ b. fault_of b (is_of_kind p.kind values) (is_right_state r values) (nat_lt VALUE_LIMIT (length values))) right
      ∙ by_case (is_some r.index) p.writable (is_of_kind p.kind values) (is_right_state r values) (is_allowed p.allowed values)
      (nat_lt VALUE_LIMIT (length values)) h

  -- a computed property is never written
  not_computed : (n : ℕ) (d : Datum) → Grants (Some (computed n d)) → ⊥
  not_computed n d h = go (is_some r.index) refl
    where
      go : (b : Bool) → is_some r.index ≡ b → ⊥
      go true e = let same : false ≡ true = rw e at h in cc
      go false e = let same : false ≡ true = rw e at h in cc

  past : (b : Bool) (n : ℕ) (d : Datum) (x : Option Property) → Grants (if b then Some (computed n d) else x) → Grants x
  past true n d x h = absurd (not_computed n d h)
  past false n d x h = h

  past_size : (b : Bool) → b ≡ false → (f : Option File) (d : File → Property) (x : Option Property)
      → Grants (if b then option_map d f else x) → Grants x
  past_size true e f d x h = absurd (cc)
  past_size false e f d x h = h

  past_file : (b : Bool) (n : ℕ) (d : File → Datum) (f : Option File) (x : Option Property)
      → Grants (if b then option_map (λ g. computed n (d g)) f else x) → Grants x
  past_file true n d None x h = cc
  past_file true n d (Some g) x h = absurd (not_computed n (d g) h)
  past_file false n d f x h = h

  pub listed : (o : Object) → r.property ≢ FILE_SIZE → Grants (property_in o r.property) → Grants (listed_in o r.property)
  listed o other h =
      let n = r.property in
      let apart : (n == FILE_SIZE) ≡ false = grind (arith, nat_tests) in
      past_size (n == FILE_SIZE) apart o.file (file_size o) (listed_in o n)
      (past_file (n == FILE_ACCESS_METHOD) FILE_ACCESS_METHOD (λ f. enumerated STREAM_ACCESS) o.file _
      (past (n == OBJECT_TYPE) n (enumerated o.id.kind) _
      (past (n == OBJECT_NAME) n (characters 0 o.name) _
      (past (n == OBJECT_IDENTIFIER) n (object o.id) _ h))))

  of_listed : (x : Option Property) → is_data values ≡ true → Grants x → or_fault fault.NoSuchProperty x (value_fault r values) ≡ None
  of_listed None right h = cc
  of_listed (Some p) right h = no_fault p right h

  of_object : (x : Option Object) → r.property ≢ FILE_SIZE → is_data values ≡ true
      → is_done (at_object x (λ o. at_property (property_in o r.property) (write_reply r values))) ≡ true
      → or_fault fault.NoSuchObject x (λ o. or_fault fault.NoSuchProperty (listed_in o r.property) (value_fault r values)) ≡ None
  of_object None other right h = cc
  of_object (Some o) other right h = of_listed (listed_in o r.property) right (listed o other h)

pub granted_change : (s : Store) (r : Reference) (values : List ℕ) (priority : Option ℕ) → r.property ≢ FILE_SIZE → IsData values
    → IsGranted s (WriteProperty r values priority) → change_fault s (Change.Value r.object r.property values) ≡ None
unfolding is_right_state
granted_change s r values priority other right granted =
    of_object r values (object_in s r.object) other (ap reads_all (data_text right.0 values right.1)) granted

pub granted_after : (s : Store) (r : Reference) (values : List ℕ) (priority : Option ℕ) → r.property ≢ FILE_SIZE
    → IsGranted s (WriteProperty r values priority) → after s (WriteProperty r values priority) ≡ changed (Change.Value r.object r.property values) s
granted_after s r values priority other granted =
    after_granted s r values priority granted ∙ listed_written r.object r.property values s other
