-- A cell on top of others makes of a document what it makes of the store that they make.
use Rattle.std.proofs.Common.{◌≡◌, inl, inr, ℕ, suc, ◌<◌, Bool, true, false, ◌==◌, List, [], ◌∷◌, map, Option, Some, None, refl, sym, ap, ◌∙◌}
use Rattle.std.proofs.Common.{arith, if◌then◌else◌}
use Rattle.std.specs.Option.{option_map}
use Rattle.std.proofs.lemmas.Bool.Decides.{nat_tests}
use Rattle.bac_value.specs.Value.{ObjectId}
use Rattle.bac_store.specs.Changes.{with_object, with_octets, with_values}
use Rattle.bac_store.specs.Kept.{IsInOrder}
use Rattle.bac_store.specs.Replies.{file_of}
use Rattle.bac_store.specs.Stores.{File, Object, Property, Store, is_number, listed_in, object_in}
use Rattle.bac_store.specs.Writes.{file_at, listed_at, listed_of}
use Rattle.bac_store.proofs.OrderLaws.{first_that-map}
use Rattle.bac_keep.specs.Cells.{Cells, Fits, NUMBERS, file_place, no_cells, value_place, with_cell}
use Rattle.bac_keep.specs.Overlay.{file_over, is_kept, joined, object_over, overlay, value_over}
use Rattle.bac_keep.specs.Restored.{is_writable_file, is_writable_value, with_kept_octets, with_kept_values}
use Rattle.bac_keep.proofs.Files.{IsElsewhere, parts_ignored, parts_written}
use Rattle.bac_keep.proofs.Notes.{file_flag_over, flag_over, number_over, object_there}
use Rattle.bac_keep.proofs.Values as cell

some_value : (x : Option Property) → is_writable_value x ≡ true → (q : Property) × (x ≡ Some q) × (q.writable ≡ true)
some_value None e = cc
some_value (Some q) e = (q, refl, e)

some_file : (x : Option File) → is_writable_file x ≡ true → (f : File) × (x ≡ Some f) × (f.writable ≡ true)
some_file None e = cc
some_file (Some f) e = (f, refl, e)

part_is_apart : (id : ObjectId) (k : ℕ) → (file_place id 0 == file_place id (suc k)) ≡ false
part_is_apart id k = grind (arith, nat_tests)

module _ (cells : Cells) (document : Store) where
  pub value_flag : (id : ObjectId) (n : ℕ) → is_writable_value (listed_at (overlay cells document) id n) ≡ is_writable_value (listed_at document id n)
  value_flag id n = ap (λ x. is_writable_value (listed_of n x)) (object_there cells document id) ∙ go (object_in document id)
    where
      in_object : (o : Object) (x : Option Property) → is_writable_value (option_map (value_over cells o.id) x) ≡ is_writable_value x
      in_object o None = refl
      in_object o (Some p) = flag_over cells o.id p

      go : (x : Option Object) → is_writable_value (listed_of n (option_map (object_over cells) x)) ≡ is_writable_value (listed_of n x)
      go None = refl
      go (Some o) =
          ap is_writable_value (first_that-map (is_number n) (value_over cells o.id) (λ p. ap (λ m. m == n) (number_over cells o.id p)) o.properties)
          ∙ in_object o (listed_in o n)

  pub file_flag : (id : ObjectId) → is_writable_file (file_at (overlay cells document) id) ≡ is_writable_file (file_at document id)
  file_flag id = ap (λ x. is_writable_file (file_of x)) (object_there cells document id) ∙ go (object_in document id)
    where
      in_object : (o : Object) (x : Option File) → is_writable_file (option_map (file_over cells o.id) x) ≡ is_writable_file x
      in_object o None = refl
      in_object o (Some f) = file_flag_over cells o.id f

      go : (x : Option Object) → is_writable_file (file_of (option_map (object_over cells) x)) ≡ is_writable_file (file_of x)
      go None = refl
      go (Some o) = in_object o o.file

  module _ (order : IsInOrder document) (id : ObjectId) (id_fits : Fits id) where
    pub value_restored : (n : ℕ) (v : List ℕ) → n < NUMBERS
        → overlay (with_cell (value_place id n) v cells) document ≡ with_kept_values id n v (overlay cells document)
    value_restored n v small = go (is_writable_value (listed_at document id n)) refl
      where
        go : (b : Bool) → is_writable_value (listed_at document id n) ≡ b
            → overlay (with_cell (value_place id n) v cells) document ≡ with_kept_values id n v (overlay cells document)
        go true e =
            let q = some_value (listed_at document id n) e in
            cell.value_written cells id n v id_fits small document order q.0 q.1 q.2
            ∙ ap (λ b. if b then with_object id (with_values n v) (overlay cells document) else overlay cells document) (sym (value_flag id n ∙ e))
        go false e =
            cell.value_ignored cells id n v id_fits small document order (λ q found. sym (ap is_writable_value found) ∙ e)
            ∙ ap (λ b. if b then with_object id (with_values n v) (overlay cells document) else overlay cells document) (sym (value_flag id n ∙ e))

    part_differs : (k : ℕ) (v : List ℕ) → k < 256 → (q : ℕ) → IsElsewhere id q → with_cell (file_place id k) v cells q ≡ cells q
    part_differs k v l q apart = rw (apart k l) refl

    pub count_restored : (count : ℕ) → count < 256 → overlay (with_cell (file_place id 0) (count ∷ []) cells) document
        ≡ with_kept_octets id (joined (with_cell (file_place id 0) (count ∷ []) cells) id count) (overlay cells document)
    count_restored count small = go (is_writable_file (file_at document id)) refl
      where
        new : Cells
        new = with_cell (file_place id 0) (count ∷ []) cells

        octets : List ℕ
        octets = joined new id count

        there : new (file_place id 0) ≡ Some (count ∷ [])
        there = let same : (file_place id 0 == file_place id 0) ≡ true = grind (arith, nat_tests) in rw same refl

        go : (b : Bool) → is_writable_file (file_at document id) ≡ b → overlay new document ≡ with_kept_octets id octets (overlay cells document)
        go true e =
            let f = some_file (file_at document id) e in
            parts_written id id_fits cells new (part_differs 0 (count ∷ []) (omega arith)) document order count small there f.0 f.1 f.2
            ∙ ap (λ b. if b then with_object id (with_octets (λ old. octets)) (overlay cells document) else overlay cells document) (sym (file_flag id ∙ e))
        go false e =
            parts_ignored id id_fits cells new (part_differs 0 (count ∷ []) (omega arith)) document order (inl (λ f found. sym (ap is_writable_file found) ∙ e))
            ∙ ap (λ b. if b then with_object id (with_octets (λ old. octets)) (overlay cells document) else overlay cells document) (sym (file_flag id ∙ e))

    -- the number of chunks of a file that the document does not have, or that may not be written, whatever it is
    pub count_ignored : (v : List ℕ) → is_writable_file (file_at document id) ≡ false
        → overlay (with_cell (file_place id 0) v cells) document ≡ overlay cells document
    count_ignored v fixed =
        parts_ignored id id_fits cells (with_cell (file_place id 0) v cells) (part_differs 0 v (omega arith)) document order
        (inl (λ f found. sym (ap is_writable_file found) ∙ fixed))

    pub chunk_restored : (k : ℕ) (v : List ℕ) → k < 255 → cells (file_place id 0) ≡ None
        → overlay (with_cell (file_place id (suc k)) v cells) document ≡ overlay cells document
    chunk_restored k v l none =
        let new = with_cell (file_place id (suc k)) v cells in
        parts_ignored id id_fits cells (with_cell (file_place id (suc k)) v cells) (part_differs (suc k) v (omega (arith, l))) document order
        (inr (rw (part_is_apart id k) none, none))

-- without cells the store is that of the document
pub nothing_over : (document : Store) → overlay no_cells document ≡ document
nothing_over [] = refl
nothing_over (o ∷ os) = ap (λ x. x ∷ overlay no_cells os) (nothing_over_object o) ∙ ap (λ xs. o ∷ xs) (nothing_over os)
  where
    value : (id : ObjectId) (p : Property) → value_over no_cells id p ≡ p
    value id p = go (is_kept p)
      where
        go : (b : Bool) → (if b then p else p) ≡ p
        go true = refl
        go false = refl

    values : (id : ObjectId) (ps : List Property) → map (value_over no_cells id) ps ≡ ps
    values id [] = refl
    values id (p ∷ ps) = ap (λ x. x ∷ map (value_over no_cells id) ps) (value id p) ∙ ap (λ xs. p ∷ xs) (values id ps)

    file : (id : ObjectId) (x : Option File) → option_map (file_over no_cells id) x ≡ x
    file id None = refl
    file id (Some f) = ap Some (go f.writable)
      where
        go : (b : Bool) → (if b then f else f) ≡ f
        go true = refl
        go false = refl

    nothing_over_object : (x : Object) → object_over no_cells x ≡ x
    nothing_over_object x =
        ap (λ ps. record x { properties = ps; file = option_map (file_over no_cells x.id) x.file }) (values x.id x.properties)
        ∙ ap (λ f. record x { file = f }) (file x.id x.file)
