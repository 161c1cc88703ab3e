-- Why a document and cells make no store: what the store that cells make of a document cannot have, the document cannot have.
use Rattle.std.proofs.Common.{◌≡◌, ℕ, suc, zero, ◌<◌, Bool, true, false, ◌&&◌, ◌==◌, List, [], ◌∷◌, ◌++◌, length, drop, get_or, Option, Some, None, refl, sym, ap, ◌∙◌, subst, arith, IfErr, Result, Ok, Err}
use Rattle.std.proofs.Common.{inl, inr}
use Rattle.std.specs.Prelude.{IsErrAnd, ◌≢◌}
use Rattle.bac_keep.specs.Parts.{IsForNothing}
use Rattle.std.proofs.Common.{if◌then◌else◌}
use Rattle.std.specs.Option.{option_map}
use Rattle.bac_value.specs.Value.{ObjectId}
use Rattle.bac_store.specs.AtNode.{Change, IsFaultOf, change_fault, is_data, length_fault, or_fault, value_fault, whole}
use Rattle.bac_store.specs.Limits.{FILE_LIMIT, VALUE_LIMIT}
use Rattle.bac_store.specs.Replies.{file_of, is_of_kind, is_right_state}
use Rattle.bac_store.specs.Stores.{File, Object, Property, Store, is_number, listed_in, object_in}
use Rattle.bac_store.specs.Writes.{file_at, listed_at}
use Rattle.bac_store.specs.declared.change_fault.ChangeFault.{ChangeFault}
use Rattle.bac_store.specs.declared.change_fault.ChangeFault.TheVariants as fault
use Rattle.bac_store.proofs.OrderLaws.{first_that-map}
use Rattle.bac_value.specs.Views.{object_identifier_view}
use Rattle.bac_value.specs.declared.value.ObjectIdentifier.{ObjectIdentifier}
use Rattle.bac_keep.specs.declared.cell.Cell.{Cell}
use Rattle.bac_keep.specs.declared.fault.KeepFault.{KeepFault}
use Rattle.bac_keep.specs.declared.fault.KeepFault.TheVariants as keep
use Rattle.bac_keep.specs.Cells.{Cells, NUMBERS, file_place, value_place}
use Rattle.bac_keep.specs.Overlay.{file_over, in_place, is_kept, joined, object_over, or_nothing, overlay, value_over}
use Rattle.bac_keep.specs.Refused.{AreBadOctets, AreBadValues, AreNoOctets, HasBadCell, IsBadCount, IsBadOctets, IsBadValues}
use Rattle.bac_keep.specs.Refused.{IsUnfit, LacksChunk}
use Rattle.bac_keep.specs.Restored.{is_writable_file, is_writable_value}
use Rattle.bac_keep.specs.Held.{IsRising, held}
use Rattle.bac_keep.proofs.Notes.{number_over, object_there}
use Rattle.bac_keep.proofs.Restores.{file_flag, value_flag}
use Rattle.bac_keep.proofs.Risings.{held_above, held_at}

kind_over : (cells : Cells) (id : ObjectId) (p : Property) → (value_over cells id p).kind ≡ p.kind
kind_over cells id p = go (is_kept p) (cells (value_place id p.number))
  where
    go : (b : Bool) (x : Option (List ℕ)) → (if b then in_place x p else p).kind ≡ p.kind
    go true None = refl
    go true (Some v) = refl
    go false x = refl

module _ (cells : Cells) (document : Store) where
  value_fault_over : (id : ObjectId) (n : ℕ) (octets : List ℕ)
      → change_fault (overlay cells document) (Change.Value id n octets) ≡ change_fault document (Change.Value id n octets)
  value_fault_over id n octets =
      ap (λ x. or_fault fault.NoSuchObject x (λ o. or_fault fault.NoSuchProperty (listed_in o n) (value_fault (whole id n) octets))) (object_there cells document id)
      ∙ go (object_in document id)
    where
      find : Property → Option ChangeFault
      find = value_fault (whole id n) octets

      in_object : (o : Object) (x : Option Property) → or_fault fault.NoSuchProperty (option_map (value_over cells o.id) x) find ≡ or_fault fault.NoSuchProperty x find
      in_object o None = refl
      in_object o (Some p) =
          ap (λ k. if is_data octets && is_of_kind k octets && is_right_state (whole id n) octets then length_fault VALUE_LIMIT octets else Some fault.BadValue)
          (kind_over cells o.id p)

      go : (x : Option Object) → or_fault fault.NoSuchObject (option_map (object_over cells) x) (λ o. or_fault fault.NoSuchProperty (listed_in o n) find)
          ≡ or_fault fault.NoSuchObject x (λ o. or_fault fault.NoSuchProperty (listed_in o n) find)
      go None = refl
      go (Some o) =
          ap (λ x. or_fault fault.NoSuchProperty x find)
          (first_that-map (is_number n) (value_over cells o.id) (λ p. ap (λ m. m == n) (number_over cells o.id p)) o.properties)
          ∙ in_object o (listed_in o n)

  file_fault_over : (id : ObjectId) (octets : List ℕ) → change_fault (overlay cells document) (Change.File id octets) ≡ change_fault document (Change.File id octets)
  file_fault_over id octets =
      ap (λ x. or_fault fault.NoSuchObject (file_of x) (λ f. length_fault FILE_LIMIT octets)) (object_there cells document id)
      ∙ go (object_in document id)
    where
      in_object : (o : Object) (x : Option File) → or_fault fault.NoSuchObject (option_map (file_over cells o.id) x) (λ f. length_fault FILE_LIMIT octets)
          ≡ or_fault fault.NoSuchObject x (λ f. length_fault FILE_LIMIT octets)
      in_object o None = refl
      in_object o (Some f) = refl

      go : (x : Option Object) → or_fault fault.NoSuchObject (file_of (option_map (object_over cells) x)) (λ f. length_fault FILE_LIMIT octets)
          ≡ or_fault fault.NoSuchObject (file_of x) (λ f. length_fault FILE_LIMIT octets)
      go None = refl
      go (Some o) = in_object o o.file

  fault_over : (c : Change) (e : ChangeFault) → change_fault (overlay cells document) c ≡ change_fault document c → IsFaultOf (overlay cells document) c e → IsFaultOf document c e
  fault_over c fault.NoSuchObject same is = sym same ∙ is
  fault_over c fault.NoSuchProperty same is = sym same ∙ is
  fault_over c fault.BadValue same is = sym same ∙ is
  fault_over c fault.TooLong same is = sym same ∙ is
  fault_over c fault.NoMemory same is = (sym same ∙ is.0, is.1)

-- the cell at a place in the list
module _ (cells : List Cell) (at : ℕ) (d : Cell) (l : at < length cells) (is : get_or cells at d ≡ d) (rise : IsRising cells) (document s : Store)
    (next : ℕ) (above : s ≡ overlay (held (drop next cells)) document) (id : ObjectId) where
  here : held cells d.place ≡ Some d.octets.items
  here = subst (λ (x : Cell). held cells x.place ≡ Some x.octets.items) is (held_at cells 0 at d rise (omega arith) l)

  pub bad_values : (n : ℕ) (e : ChangeFault) → n < NUMBERS → d.place ≡ value_place id n → is_writable_value (listed_at s id n) ≡ true
      → IsFaultOf s (Change.Value id n d.octets.items) e → e ≢ fault.NoMemory → IsBadValues document (held cells) id n e
  bad_values n e small place writable faulty enough = record {
    values = d.octets.items;
    small = small;
    are_kept = ap (held cells) (sym place) ∙ here;
    writable = sym (value_flag (held (drop next cells)) document id n) ∙ ap (λ (x : Store). is_writable_value (listed_at x id n)) (sym above) ∙ writable;
    fault = fault_over (held (drop next cells)) document (Change.Value id n d.octets.items) e
        (value_fault_over (held (drop next cells)) document id n d.octets.items)
        (subst (λ (x : Store). IsFaultOf x (Change.Value id n d.octets.items) e) above faulty);
    enough_memory = enough;
  }

  whole_file : (place : d.place ≡ file_place id 0) (count : ℕ) → joined (held (drop at cells)) id count ≡ joined (held cells) id count
  whole_file place zero = refl
  whole_file place (suc k) =
      let start : (get_or cells at d).place ≡ file_place id 0 = ap (λ (x : Cell). x.place) is ∙ place in
      ap (λ (x : List ℕ). x ++ or_nothing (held (drop at cells) (file_place id (suc k)))) (whole_file place k)
      ∙ ap (λ (x : Option (List ℕ)). joined (held cells) id k ++ or_nothing x) (held_above cells at d rise l (file_place id (suc k)) (omega (arith, start)))

  pub bad_octets : (count : ℕ) (octets : List ℕ) (e : ChangeFault) → d.place ≡ file_place id 0 → d.octets.items ≡ count ∷ []
      → octets ≡ joined (held (drop at cells)) id count → is_writable_file (file_at s id) ≡ true
      → IsFaultOf s (Change.File id octets) e → e ≢ fault.NoMemory → IsBadOctets document (held cells) id e
  bad_octets count octets e place states join writable faulty enough = record {
    count = count;
    are_kept = ap (held cells) (sym place) ∙ here ∙ ap Some states;
    writable = sym (file_flag (held (drop next cells)) document id) ∙ ap (λ (x : Store). is_writable_file (file_at x id)) (sym above) ∙ writable;
    fault = subst (λ (x : List ℕ). IsFaultOf document (Change.File id x) e) (join ∙ whole_file place count)
        (fault_over (held (drop next cells)) document (Change.File id octets) e (file_fault_over (held (drop next cells)) document id octets)
        (subst (λ (x : Store). IsFaultOf x (Change.File id octets) e) above faulty));
    enough_memory = enough;
  }

some_is_not_none : (x : List ℕ) (y : Option (List ℕ)) → y ≡ Some x → y ≢ None
some_is_not_none x y e = λ none. cc

-- octets that are not one
pub no_count : (cells : Cells) (id : ObjectId) (octets : List ℕ) → length octets ≢ 1 → IsBadCount cells id octets
no_count cells id [] other = tt
no_count cells id (n ∷ []) other = absurd (other refl)
no_count cells id (n ∷ m ∷ more) other = tt

-- a cell of the list at a place that is for nothing, and a bad number of chunks of a file that may be written
module _ (cells : List Cell) (at : ℕ) (d : Cell) (l : at < length cells) (is : get_or cells at d ≡ d) (rise : IsRising cells) (document s : Store) where
  held_here : held cells d.place ≡ Some d.octets.items
  held_here = subst (λ (x : Cell). held cells x.place ≡ Some x.octets.items) is (held_at cells 0 at d rise (omega arith) l)

  pub for_nothing : IsForNothing d.place → HasBadCell document (held cells)
  for_nothing nothing = inl (record { place = d.place; there = some_is_not_none d.octets.items (held cells d.place) held_here; nothing = nothing })

  module _ (next : ℕ) (above : s ≡ overlay (held (drop next cells)) document) (id : ObjectId) (place : d.place ≡ file_place id 0)
      (writable : is_writable_file (file_at s id) ≡ true) where
    of_file : IsBadCount (held cells) id d.octets.items → HasBadCell document (held cells)
    of_file bad = inr (record {
      id = id;
      octets = d.octets.items;
      are_kept = ap (held cells) (sym place) ∙ held_here;
      bad = bad;
      writable = sym (file_flag (held (drop next cells)) document id) ∙ ap (λ (x : Store). is_writable_file (file_at x id)) (sym above) ∙ writable;
    })

    -- the faults of its count, and of its chunks
    pub count_refused : (e : KeepFault) → e ≡ keep.BadRow → length d.octets.items ≢ 1 → IsUnfit document (held cells) e
    count_refused e fault other = subst (λ (x : KeepFault). IsUnfit document (held cells) x) (sym fault) (of_file (no_count (held cells) id d.octets.items other))

    pub chunks_refused : (count : ℕ) → d.octets.items ≡ count ∷ [] → (e : KeepFault) → AreNoOctets (IsRising cells → LacksChunk (held cells) id count) e
        → IsUnfit document (held cells) e
    chunks_refused count states keep.BadRow lacks = of_file (subst (λ (x : List ℕ). IsBadCount (held cells) id x) (sym states) (lacks rise))
    chunks_refused count states keep.NoMemory lacks = tt
    chunks_refused count states (keep.Database e) lacks = absurd lacks
    chunks_refused count states keep.Shut lacks = absurd lacks
    chunks_refused count states keep.NoTable lacks = absurd lacks
    chunks_refused count states (keep.BadValues o m f) lacks = absurd lacks
    chunks_refused count states (keep.BadOctets o f) lacks = absurd lacks
    chunks_refused count states keep.HighNumber lacks = absurd lacks

-- the same, of the faults of a start
module _ (cells : List Cell) (at : ℕ) (d : Cell) (l : at < length cells) (is : get_or cells at d ≡ d) (rise : IsRising cells) (document s : Store)
    (next : ℕ) (above : s ≡ overlay (held (drop next cells)) document) (object : ObjectIdentifier) where
  pub values_refused : (n : ℕ) → n < NUMBERS → d.place ≡ value_place (object_identifier_view object) n → (values : List ℕ) → values ≡ d.octets.items
      → (e : KeepFault) → AreBadValues s object n values e → IsUnfit document (held cells) e
  values_refused n small place values given (keep.BadValues o m f) bad =
      let faulty = subst (λ (x : List ℕ). IsFaultOf s (Change.Value (object_identifier_view object) n x) f) given bad.3 in
      let it = bad_values cells at d l is rise document s next above (object_identifier_view object) n f small place bad.2 faulty bad.4 in
      subst (λ (x : ObjectIdentifier). IsBadValues document (held cells) (object_identifier_view x) m f) (sym bad.0)
      (subst (λ (k : ℕ). IsBadValues document (held cells) (object_identifier_view object) k f) (sym bad.1) it)
  values_refused n small place values given (keep.Database e) bad = absurd bad
  values_refused n small place values given keep.BadRow bad = absurd bad
  values_refused n small place values given keep.Shut bad = absurd bad
  values_refused n small place values given keep.NoTable bad = absurd bad
  values_refused n small place values given (keep.BadOctets o f) bad = absurd bad
  values_refused n small place values given keep.HighNumber bad = absurd bad
  values_refused n small place values given keep.NoMemory bad = tt

  pub octets_refused : (count : ℕ) (octets : List ℕ) → d.place ≡ file_place (object_identifier_view object) 0 → d.octets.items ≡ count ∷ []
      → octets ≡ joined (held (drop at cells)) (object_identifier_view object) count → is_writable_file (file_at s (object_identifier_view object)) ≡ true
      → (e : KeepFault) → AreBadOctets s object octets e → IsUnfit document (held cells) e
  octets_refused count octets place states join writable (keep.BadOctets o f) bad =
      subst (λ (x : ObjectIdentifier). IsBadOctets document (held cells) (object_identifier_view x) f) (sym bad.0)
      (bad_octets cells at d l is rise document s next above (object_identifier_view object) count octets f place states join writable bad.1 bad.2)
  octets_refused count octets place states join writable (keep.Database e) bad = absurd bad
  octets_refused count octets place states join writable keep.BadRow bad = absurd bad
  octets_refused count octets place states join writable keep.Shut bad = absurd bad
  octets_refused count octets place states join writable keep.NoTable bad = absurd bad
  octets_refused count octets place states join writable (keep.BadValues o m f) bad = absurd bad
  octets_refused count octets place states join writable keep.HighNumber bad = absurd bad
  octets_refused count octets place states join writable keep.NoMemory bad = tt

-- a fault that is passed on
pub passed_on : {T : Type 0} (P : KeepFault → Type 0) (e : KeepFault) (r : Result T KeepFault) → IsErrAnd r (λ y. y ≡ e) → P e → IfErr r P
passed_on P e (Ok x) h p = absurd h
passed_on P e (Err y) h p = subst P (sym h) p
