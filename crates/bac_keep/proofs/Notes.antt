-- When what a node has made is noted, the document and its cells make the store that it has.
use Rattle.std.proofs.Common.{◌≡◌, ◌≢◌, ◌&&◌, ℕ, ℤ, ◌*◌, ◌<◌, ◌≤◌, Bool, true, false, not, ◌==◌, nat_lt, List, length}
use Rattle.std.proofs.Common.{Option, Some, None, is_some, refl, sym, ap, ◌∙◌, subst, arith, if◌then◌else◌}
use Rattle.std.specs.List.{AllPairs}
use Rattle.std.specs.Option.{IfSome, option_map}
use Rattle.bac_value.specs.Value.{ObjectId}
use Rattle.bac_service.specs.Replies.{Reply}
use Rattle.bac_service.specs.Replies.Reply.{Simple}
use Rattle.bac_service.specs.Values.{Reference, Request, WriteAccess}
use Rattle.bac_service.specs.Values.Request.{WriteFile, WriteProperty}
use Rattle.bac_service.specs.Values.WriteAccess.{WriteStream, WriteRecords}
use Rattle.bac_store.specs.AtNode.{Change}
use Rattle.bac_store.specs.Changes.{IsGranted, after, is_done, resized, size_of, with_contents, with_object, with_octets, with_own_values, with_values}
use Rattle.bac_store.specs.Kept.{IsInOrder, object_number}
use Rattle.bac_store.specs.Replies.{at_file, at_object, at_property, file_of, is_no_write_start, is_of_kind, is_out_of_range, reply_to}
use Rattle.bac_store.specs.Replies.{write_file_reply, write_reply, written}
use Rattle.bac_store.specs.Limits.{FILE_LIMIT, FILE_SIZE, READ_ONLY, VALUE_LIMIT}
use Rattle.bac_store.specs.Stores.{File, Object, Property, Store, file_size, is_number, is_object, is_written, listed_in, object_in, property_in}
use Rattle.bac_store.specs.Writes.{file_at, listed_at, listed_of}
use Rattle.bac_store.proofs.Distinct.{AllPairs-map, some_first}
use Rattle.bac_store.proofs.GrantLaws.{granted_after, listed}
use Rattle.bac_store.proofs.OrderLaws.{first_that-map}
use Rattle.bac_store.proofs.PlanLaws.{same_octets}
use Rattle.bac_store.proofs.WriteLaws.{after_granted, file_changed, size_written, value_written, where_done}
use Rattle.bac_keep.specs.Cells.{Cells, Fits, NUMBERS, file_place, value_place, with_cell}
use Rattle.bac_keep.specs.Made.{IsKeepable, IsWritableFile, IsWritableValue, Made, after_made}
use Rattle.bac_keep.specs.Made.Made.{Changed, Performed}
use Rattle.bac_keep.specs.Noted.{chunk_count, octets_noted, values_noted, with_octets_of, with_property}
use Rattle.bac_keep.specs.Overlay.{CHUNK, file_over, in_place, is_kept, joined, object_over, of_chunks, overlay, value_over, with_file}
use Rattle.bac_keep.proofs.Files.{file_written}
use Rattle.bac_keep.proofs.Maps.{kept}
use Rattle.bac_keep.proofs.Values as cell

pub number_over : (cells : Cells) (id : ObjectId) (p : Property) → (value_over cells id p).number ≡ p.number
number_over cells id p = go (is_kept p) (cells (value_place id p.number))
  where
    go : (b : Bool) (x : Option (List ℕ)) → (if b then in_place x p else p).number ≡ p.number
    go true None = refl
    go true (Some v) = refl
    go false x = refl

pub flag_over : (cells : Cells) (id : ObjectId) (p : Property) → (value_over cells id p).writable ≡ p.writable
flag_over cells id p = go (is_kept p) (cells (value_place id p.number))
  where
    go : (b : Bool) (x : Option (List ℕ)) → (if b then in_place x p else p).writable ≡ p.writable
    go true None = refl
    go true (Some v) = refl
    go false x = refl

pub file_flag_over : (cells : Cells) (id : ObjectId) (f : File) → (file_over cells id f).writable ≡ f.writable
file_flag_over cells id f = go f.writable (of_chunks (cells (file_place id 0)) (joined cells id) f) (of_chunks_flag (cells (file_place id 0)) (joined cells id))
  where
    of_chunks_flag : (x : Option (List ℕ)) (chunks : ℕ → List ℕ) → (of_chunks x chunks f).writable ≡ f.writable
    of_chunks_flag None chunks = refl
    of_chunks_flag (Some c) chunks = refl

    go : (b : Bool) (y : File) → y.writable ≡ f.writable → (if b then y else f).writable ≡ f.writable
    go true y h = h
    go false y h = refl

module _ (cells : Cells) (document : Store) where
  pub object_there : (id : ObjectId) → object_in (overlay cells document) id ≡ option_map (object_over cells) (object_in document id)
  object_there id = first_that-map (is_object id) (object_over cells) (λ o. refl) document

  -- a writable property of the store is one of the document
  pub writable_value : (id : ObjectId) (n : ℕ) → IsWritableValue (overlay cells document) id n → IsWritableValue document id n
  writable_value id n w = go (object_in document id) refl
    where
      over : listed_of n (option_map (object_over cells) (object_in document id)) ≡ Some w.property
      over = sym (ap (listed_of n) (object_there id)) ∙ w.found

      in_object : (o : Object) → object_in document id ≡ Some o → (x : Option Property) → listed_in o n ≡ x
          → option_map (value_over cells o.id) x ≡ Some w.property
          → IsWritableValue document id n
      in_object o e None f h = absurd (cc)
      in_object o e (Some p) f h =
          let same : value_over cells o.id p ≡ w.property = cc in
          record { property = p; found = ap (listed_of n) e ∙ f; writable = sym (flag_over cells o.id p) ∙ ap (λ (x : Property). x.writable) same ∙ w.writable }

      go : (x : Option Object) → object_in document id ≡ x → IsWritableValue document id n
      go None e = let none : listed_of n (option_map (object_over cells) None) ≡ Some w.property = ap (λ x. listed_of n (option_map (object_over cells) x))
          (sym e) ∙ over in absurd (cc)
      go (Some o) e =
          let here : listed_in (object_over cells o) n ≡ Some w.property = ap (λ x. listed_of n (option_map (object_over cells) x)) (sym e) ∙ over in
          in_object o e (listed_in o n) refl
          (sym (first_that-map (is_number n) (value_over cells o.id) (λ p. ap (λ m. m == n) (number_over cells o.id p)) o.properties) ∙ here)

  pub writable_file : (id : ObjectId) → IsWritableFile (overlay cells document) id → IsWritableFile document id
  writable_file id w = go (object_in document id) refl
    where
      over : file_of (option_map (object_over cells) (object_in document id)) ≡ Some w.file
      over = sym (ap file_of (object_there id)) ∙ w.found

      in_object : (o : Object) → object_in document id ≡ Some o → (x : Option File) → o.file ≡ x → option_map (file_over cells o.id) x ≡ Some w.file
          → IsWritableFile document id
      in_object o e None f h = absurd (cc)
      in_object o e (Some g) f h =
          let same : file_over cells o.id g ≡ w.file = cc in
          record { file = g; found = ap file_of e ∙ f; writable = sym (file_flag_over cells o.id g) ∙ ap (λ (x : File). x.writable) same ∙ w.writable }

      go : (x : Option Object) → object_in document id ≡ x → IsWritableFile document id
      go None e = let none : file_of (option_map (object_over cells) None) ≡ Some w.file = ap (λ x. file_of (option_map (object_over cells) x)) (sym e)
          ∙ over in absurd (cc)
      go (Some o) e =
          let here : option_map (file_over cells o.id) o.file ≡ Some w.file = ap (λ x. file_of (option_map (object_over cells) x)) (sym e) ∙ over in
          in_object o e o.file refl here

  -- ---- new values

  pub values_are_noted : IsInOrder document → (id : ObjectId) (n : ℕ) (v : List ℕ) (s : Store) → Fits id → IsWritableValue (overlay cells document) id n
      → s ≡ with_object id (with_values n v) (overlay cells document) → ((p : Property) → listed_at s id n ≡ Some p → p.writable ≡ true → n < NUMBERS)
      → overlay (values_noted s id n cells) document ≡ s
  values_are_noted order id n v s id_fits w is small =
      let now : listed_at s id n ≡ Some (with_own_values v w.property) =
      ap (λ (x : Store). listed_at x id n) is ∙ (value_written (overlay cells document) (record { object = id; property = n; index = None }) v).there
      ∙ ap (option_map (with_own_values v)) w.found in
      let d = writable_value id n w in
      let noted : values_noted s id n cells ≡ with_cell (value_place id n) v cells =
      ap (λ x. with_property id n x cells) now ∙ ap (λ b. if b then with_cell (value_place id n) v cells else cells) w.writable in
      ap (λ x. overlay x document) noted
      ∙ cell.value_written cells id n v id_fits (small (with_own_values v w.property) now w.writable) document order d.property d.found d.writable
      ∙ sym is

  -- ---- new octets

  rises : IsInOrder document → AllPairs (λ a b. object_number a.id < object_number b.id) (overlay cells document)
  rises order = AllPairs-map (object_over cells) (λ a b. object_number a.id < object_number b.id) document order.rise

  pub octets_are_noted : IsInOrder document → (id : ObjectId) (change : List ℕ → List ℕ) (s : Store) → Fits id → IsWritableFile (overlay cells document) id
      → s ≡ with_object id (with_octets change) (overlay cells document) → ((f : File) → file_at s id ≡ Some f → length f.octets ≤ FILE_LIMIT)
      → overlay (octets_noted s id cells) document ≡ s
  octets_are_noted order id change s id_fits w is short =
      let octets = change w.file.octets in
      let now : file_at s id ≡ Some (with_contents change w.file) =
      ap (λ (x : Store). file_at x id) is ∙ (file_changed (overlay cells document) id change).there ∙ ap (option_map (with_contents change)) w.found in
      let d = writable_file id w in
      let limit : length octets ≤ FILE_LIMIT = short (with_contents change w.file) now in
      let noted : octets_noted s id cells ≡ with_file id octets (chunk_count octets) cells =
      ap (λ x. with_octets_of id x cells) now ∙ ap (λ b. if b then with_file id octets (chunk_count octets) cells else cells) w.writable in
      let small : chunk_count octets < 256 = omega (arith, limit) in
      let long : length octets ≤ chunk_count octets * CHUNK = omega arith in
      ap (λ x. overlay x document) noted
      ∙ file_written id id_fits octets cells (chunk_count octets) small document order d.file d.found d.writable long
      ∙ same_octets id (λ old. octets) change w.file refl (overlay cells document) (rises order) w.found
      ∙ sym is

-- ---- what is granted may be written

module _ (r : Reference) (values : List ℕ) where
  by_case : (index writable kind range long : Bool)
      → is_done (if index then Reply.Error 2 50 else (if not writable then Reply.Error 2 40 else (if not kind then Reply.Error 2 9 else
      (if range then Reply.Error 2 37 else (if long then Reply.Error 3 20 else Simple))))) ≡ true
      → writable ≡ true
  by_case true writable kind range long h = cc
  by_case false false kind range long h = cc
  by_case false true kind range long h = refl

  of_property : (p : Property) → is_done (at_property (Some p) (write_reply r values)) ≡ true → p.writable ≡ true
  of_property p h =
      by_case (is_some r.index) p.writable (is_of_kind p.kind values) (is_out_of_range r values p) (nat_lt VALUE_LIMIT (length values)) h

  -- who may set the size of a file may write it
  pub granted_size : (s : Store) (priority : Option ℕ) → r.property ≡ FILE_SIZE → IsGranted s (WriteProperty r values priority)
      → IsWritableFile s r.object
  granted_size s priority is granted = go (object_in s r.object) refl granted
    where
      first : (a b : Bool) → (a && b) ≡ true → a ≡ true
      first true b e = refl
      first false b e = cc

      in_file : (o : Object) → object_in s r.object ≡ Some o → (x : Option File) → o.file ≡ x
          → is_done (at_property (option_map (file_size o) x) (write_reply r values)) ≡ true → IsWritableFile s r.object
      in_file o e None f h = absurd (cc)
      in_file o e (Some g) f h = record {
        file = g;
        found = ap file_of e ∙ f;
        writable = ap is_written (sym f) ∙ first (is_written o.file) (is_some (listed_in o READ_ONLY)) (of_property (file_size o g) h);
      }

      go : (x : Option Object) → object_in s r.object ≡ x → is_done (at_object x (λ o. at_property (property_in o r.property) (write_reply r values))) ≡ true
          → IsWritableFile s r.object
      go None e h = absurd (cc)
      go (Some o) e h = in_file o e o.file refl (ap (λ n. is_done (at_property (property_in o n) (write_reply r values))) (sym is) ∙ h)

  pub granted_value : (s : Store) (priority : Option ℕ) → r.property ≢ FILE_SIZE → IsGranted s (WriteProperty r values priority)
      → IsWritableValue s r.object r.property
  granted_value s priority other granted = go (object_in s r.object) refl granted
    where
      found : (o : Object) → object_in s r.object ≡ Some o → (x : Option Property) → listed_in o r.property ≡ x
          → is_done (at_property x (write_reply r values)) ≡ true
          → IsWritableValue s r.object r.property
      found o e None f h = absurd (cc)
      found o e (Some p) f h = record { property = p; found = ap (listed_of r.property) e ∙ f; writable = of_property p h }

      go : (x : Option Object) → object_in s r.object ≡ x → is_done (at_object x (λ o. at_property (property_in o r.property) (write_reply r values))) ≡ true
          → IsWritableValue s r.object r.property
      go None e h = absurd (cc)
      go (Some o) e h = found o e (listed_in o r.property) refl (listed r values o other h)

pub granted_file : (s : Store) (id : ObjectId) (access : WriteAccess) → IsGranted s (WriteFile id access) → IsWritableFile s id
granted_file s id access granted = go (file_at s id) refl access granted
  where
    by_flag : (b no_start long : Bool) (reply : Reply)
        → is_done (if not b then Reply.Error 5 5 else (if no_start then Reply.Error 5 11 else (if long then Reply.Error 3 20 else reply))) ≡ true → b ≡ true
    by_flag true no_start long reply h = refl
    by_flag false no_start long reply h = cc

    go : (x : Option File) → file_at s id ≡ x → (access : WriteAccess) → is_done (at_file x (write_file_reply access)) ≡ true → IsWritableFile s id
    go None e access h = absurd (cc)
    go (Some f) e (WriteRecords start count run) h = absurd (cc)
    go (Some f) e (WriteStream start new) h = record {
      file = f;
      found = e;
      writable = by_flag f.writable (is_no_write_start start f.octets) (nat_lt FILE_LIMIT (length (written start new f.octets))) _ h;
    }

-- ---- what is made

file_short : (s : Store) → IsInOrder s → (id : ObjectId) (f : File) → file_at s id ≡ Some f → length f.octets ≤ FILE_LIMIT
file_short s order id f found = go (object_in s id) refl found
  where
    go : (x : Option Object) → object_in s id ≡ x → file_of x ≡ Some f → length f.octets ≤ FILE_LIMIT
    go None e h = absurd (cc)
    go (Some o) e h =
        let there = some_first (is_object id) s o e in
        subst (λ (x : Option File). IfSome x (λ g. length g.octets ≤ FILE_LIMIT)) h (kept s order o there.0).file_fits

if_some : {A : Type 0} (P : A → Type 0) (x : Option A) → IfSome x P → (a : A) → x ≡ Some a → P a
if_some {A = A} P x h a e = subst (λ (y : Option A). IfSome y P) e h

records_refused : (x : Option File) (start : ℤ) (count : ℕ) (run : List ℕ) → is_done (at_file x (write_file_reply (WriteRecords start count run))) ≡ true → ⊥
records_refused None start count run h = cc
records_refused (Some f) start count run h = cc

module _ (cells : Cells) (document : Store) (order : IsInOrder document) (s : Store) (m : Made) (is : s ≡ after_made m (overlay cells document))
    (keepable : IsKeepable m (overlay cells document)) where
  pub performed_size : IsInOrder s → (r : Reference) (values : List ℕ) (priority : Option ℕ) → r.property ≡ FILE_SIZE
      → m ≡ Performed (WriteProperty r values priority) → Fits r.object → overlay (octets_noted s r.object cells) document ≡ s
  performed_size s_order r values priority size e id_fits =
      let now = overlay cells document in
      let granted : IsGranted now (WriteProperty r values priority) = subst (λ (x : Made). IsKeepable x now) e keepable in
      let made : s ≡ after now (WriteProperty r values priority) = is ∙ ap (λ (x : Made). after_made x now) e in
      octets_are_noted cells document order r.object (resized (size_of values)) s id_fits (granted_size r values now priority size granted)
      (made ∙ after_granted now r values priority granted ∙ size_written r.object r.property values now size) (file_short s s_order r.object)

  pub performed_value : (r : Reference) (values : List ℕ) (priority : Option ℕ) → r.property ≢ FILE_SIZE
      → m ≡ Performed (WriteProperty r values priority) → Fits r.object
      → IfSome (listed_at s r.object r.property) (λ p. p.writable ≡ true → r.property < NUMBERS)
      → overlay (values_noted s r.object r.property cells) document ≡ s
  performed_value r values priority other e id_fits small =
      let now = overlay cells document in
      let granted : IsGranted now (WriteProperty r values priority) = subst (λ (x : Made). IsKeepable x now) e keepable in
      let made : s ≡ after now (WriteProperty r values priority) = is ∙ ap (λ (x : Made). after_made x now) e in
      values_are_noted cells document order r.object r.property values s id_fits (granted_value r values now priority other granted)
      (made ∙ granted_after now r values priority other granted) (if_some (λ p. p.writable ≡ true → r.property < NUMBERS) _ small)

  pub changed_value : (id : ObjectId) (n : ℕ) (values : List ℕ) → m ≡ Changed (Change.Value id n values) → Fits id
      → IfSome (listed_at s id n) (λ p. p.writable ≡ true → n < NUMBERS) → overlay (values_noted s id n cells) document ≡ s
  changed_value id n values e id_fits small =
      let now = overlay cells document in
      values_are_noted cells document order id n values s id_fits (subst (λ (x : Made). IsKeepable x now) e keepable)
      (is ∙ ap (λ (x : Made). after_made x now) e) (if_some (λ p. p.writable ≡ true → n < NUMBERS) _ small)

  pub performed_octets : IsInOrder s → (id : ObjectId) (access : WriteAccess) → m ≡ Performed (WriteFile id access) → Fits id
      → overlay (octets_noted s id cells) document ≡ s
  performed_octets s_order id (WriteRecords start count run) e id_fits =
      let granted : IsGranted (overlay cells document) (WriteFile id (WriteRecords start count run)) = subst
      (λ (x : Made). IsKeepable x (overlay cells document)) e keepable in
      absurd (records_refused (file_at (overlay cells document) id) start count run granted)
  performed_octets s_order id (WriteStream start octets) e id_fits =
      let now = overlay cells document in
      let r : Request = WriteFile id (WriteStream start octets) in
      let granted : IsGranted now r = subst (λ (x : Made). IsKeepable x now) e keepable in
      let made : s ≡ after now r = is ∙ ap (λ (x : Made). after_made x now) e in
      octets_are_noted cells document order id (written start octets) s id_fits (granted_file now id (WriteStream start octets) granted)
      (made ∙ where_done (is_done (reply_to now r)) (with_object id (with_octets (written start octets)) now) now granted) (file_short s s_order id)

  pub changed_octets : IsInOrder s → (id : ObjectId) (octets : List ℕ) → m ≡ Changed (Change.File id octets) → Fits id
      → overlay (octets_noted s id cells) document ≡ s
  changed_octets s_order id octets e id_fits =
      let now = overlay cells document in
      octets_are_noted cells document order id (λ old. octets) s id_fits (subst (λ (x : Made). IsKeepable x now) e keepable)
      (is ∙ ap (λ (x : Made). after_made x now) e) (file_short s s_order id)
