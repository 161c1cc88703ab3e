-- The cells that are told are those that are noted, so they make the store.
use Rattle.std.proofs.Common.{◌≡◌, ◌≢◌, ℕ, zero, suc, ◌<◌, ◌≤◌, Bool, true, false, ◌&&◌, ◌==◌, nat_lt, List, [], ◌∷◌, Option, Some, None, refl, sym, ap, ◌∙◌, arith, if◌then◌else◌}
use Rattle.std.specs.Option.{IfSome}
use Rattle.std.proofs.lemmas.Bool.Decides.{nat_tests}
use Rattle.bac_value.specs.Value.{ObjectId}
use Rattle.bac_service.specs.Values.Request.{ReadFile, WriteFile, ReadProperty, WriteProperty}
use Rattle.bac_store.specs.AtNode.{Change}
use Rattle.bac_store.specs.Changes.{is_done}
use Rattle.bac_store.specs.Kept.{IsInOrder}
use Rattle.bac_store.specs.Limits.{FILE_SIZE}
use Rattle.bac_store.specs.Replies.{reply_to}
use Rattle.bac_store.specs.Stores.{File, Property, Store}
use Rattle.bac_store.specs.Writes.{file_at, listed_at}
use Rattle.bac_keep.specs.Cells.{Cells, NUMBERS, file_place, value_place, with_cell}
use Rattle.bac_keep.specs.Made.{IsKeepable, Made, after_made}
use Rattle.bac_keep.specs.Made.Made.{Changed, Performed}
use Rattle.bac_keep.specs.Noted.{chunk_count, octets_noted, values_noted, with_octets_of, with_property}
use Rattle.bac_keep.specs.Overlay.{chunk, overlay, with_chunks, with_file}
use Rattle.bac_c.specs.Telling.{CONTENTS, HasPlaces, Told, count_part, has_cell, octets_count, octets_told, part_told, put, put_all, put_first, put_made, value_told, values_count}
use Rattle.bac_keep.proofs.Notes.{changed_octets, changed_value, performed_octets, performed_size, performed_value}

-- ---- of a property

values_put : (s : Store) (id : ObjectId) (n : ℕ) (cells : Cells) → n < NUMBERS → put_all s id n cells ≡ values_noted s id n cells
values_put s id n cells small =
    let apart : (n == CONTENTS) ≡ false = grind (arith, nat_tests) in
    ap (λ b. put_first (λ k. if b then octets_told id (file_at s id) k else value_told id n (listed_at s id n) k)
    (if b then octets_count (file_at s id) else values_count n (listed_at s id n)) cells) apart
    ∙ go (listed_at s id n)
  where
    fits : nat_lt n NUMBERS ≡ true
    fits = grind (arith, nat_tests)

    flag : (w : Bool) → (w && nat_lt n NUMBERS) ≡ w
    flag true = fits
    flag false = refl

    by_flag : (p : Property) (b : Bool)
        → put_first (λ k. if b && (k == 0) then Some (record { place = value_place id n; octets = p.values }) else None) (if b then 1 else 0) cells
        ≡ (if b then with_cell (value_place id n) p.values cells else cells)
    by_flag p true = refl
    by_flag p false = refl

    go : (x : Option Property) → put_first (value_told id n x) (values_count n x) cells ≡ with_property id n x cells
    go None = refl
    go (Some p) = by_flag p (has_cell n p) ∙ ap (λ b. if b then with_cell (value_place id n) p.values cells else cells) (flag p.writable)

-- ---- of a file

chunks_put : (id : ObjectId) (octets : List ℕ) (cells : Cells) (c : ℕ) → c ≤ chunk_count octets
    → put_first (part_told id octets) c cells ≡ with_chunks id octets c cells
chunks_put id octets cells zero l = refl
chunks_put id octets cells (suc k) l =
    let below : nat_lt k (chunk_count octets) ≡ true = grind (arith, nat_tests, l) in
    let here : part_told id octets k ≡ Some (record { place = file_place id (suc k); octets = chunk octets k }) =
    ap (λ b. if b then Some (record { place = file_place id (suc k); octets = chunk octets k }) else count_part id (chunk_count octets) k) below in
    ap (λ (t : Option Told). put t (put_first (part_told id octets) k cells)) here
    ∙ ap (λ (x : Cells). with_cell (file_place id (suc k)) (chunk octets k) x) (chunks_put id octets cells k (omega (arith, l)))

parts_put : (id : ObjectId) (octets : List ℕ) (cells : Cells)
    → put_first (part_told id octets) (suc (chunk_count octets)) cells ≡ with_file id octets (chunk_count octets) cells
parts_put id octets cells =
    let past : nat_lt (chunk_count octets) (chunk_count octets) ≡ false = grind (arith, nat_tests) in
    let same : (chunk_count octets == chunk_count octets) ≡ true = grind (arith, nat_tests) in
    let here : part_told id octets (chunk_count octets) ≡ Some (record { place = file_place id 0; octets = chunk_count octets ∷ [] }) =
    ap (λ b. if b then Some (record { place = file_place id (suc (chunk_count octets)); octets = chunk octets (chunk_count octets) }) else
    count_part id (chunk_count octets) (chunk_count octets)) past
    ∙ ap (λ b. if b then Some (record { place = file_place id 0; octets = chunk_count octets ∷ [] }) else None) same in
    ap (λ (t : Option Told). put t (put_first (part_told id octets) (chunk_count octets) cells)) here
    ∙ ap (λ (x : Cells). with_cell (file_place id 0) (chunk_count octets ∷ []) x) (chunks_put id octets cells (chunk_count octets) (omega arith))

octets_put : (s : Store) (id : ObjectId) (cells : Cells) → put_all s id CONTENTS cells ≡ octets_noted s id cells
octets_put s id cells = go (file_at s id)
  where
    by_flag : (f : File) (b : Bool)
        → put_first (λ k. if b then part_told id f.octets k else None) (if b then suc (chunk_count f.octets) else 0) cells
        ≡ (if b then with_file id f.octets (chunk_count f.octets) cells else cells)
    by_flag f true = parts_put id f.octets cells
    by_flag f false = refl

    go : (x : Option File) → put_first (octets_told id x) (octets_count x) cells ≡ with_octets_of id x cells
    go None = refl
    go (Some f) = by_flag f f.writable

-- ---- of what is made

small_if : (n : ℕ) (x : Option Property) → n < NUMBERS → IfSome x (λ p. p.writable ≡ true → n < NUMBERS)
small_if n None small = tt
small_if n (Some p) small = λ e. small

unchanged : (b : Bool) (s : Store) → (if b then s else s) ≡ s
unchanged true s = refl
unchanged false s = refl

pub keeps : (document s : Store) (cells : Cells) (m : Made) → IsInOrder document → IsInOrder s → HasPlaces m → IsKeepable m (overlay cells document)
    → s ≡ after_made m (overlay cells document) → overlay (put_made s m cells) document ≡ s
keeps document s cells (Performed (ReadFile id access)) order s_order places keepable is =
    sym (is ∙ unchanged (is_done (reply_to (overlay cells document) (ReadFile id access))) (overlay cells document))
keeps document s cells (Performed (ReadProperty r)) order s_order places keepable is =
    sym (is ∙ unchanged (is_done (reply_to (overlay cells document) (ReadProperty r))) (overlay cells document))
keeps document s cells (Performed (WriteFile id access)) order s_order places keepable is =
    ap (λ (x : Cells). overlay x document) (octets_put s id cells)
    ∙ performed_octets cells document order s (Performed (WriteFile id access)) is keepable s_order id access refl places
keeps document s cells (Performed (WriteProperty r values priority)) order s_order places keepable is = go (r.property == FILE_SIZE) refl
  where
    go : (b : Bool) → (r.property == FILE_SIZE) ≡ b
        → overlay (put_all s r.object (if b then CONTENTS else r.property) cells) document ≡ s
    go true e =
        let size : r.property ≡ FILE_SIZE = grind (arith, nat_tests) in
        ap (λ (x : Cells). overlay x document) (octets_put s r.object cells)
        ∙ performed_size cells document order s (Performed (WriteProperty r values priority)) is keepable s_order r values priority size refl places.0
    go false e =
        let other : r.property ≢ FILE_SIZE = grind (arith, nat_tests) in
        ap (λ (x : Cells). overlay x document) (values_put s r.object r.property cells places.1)
        ∙ performed_value cells document order s (Performed (WriteProperty r values priority)) is keepable r values priority other refl places.0
        (small_if r.property (listed_at s r.object r.property) places.1)
keeps document s cells (Changed (Change.Value id n octets)) order s_order places keepable is =
    ap (λ (x : Cells). overlay x document) (values_put s id n cells places.1)
    ∙ changed_value cells document order s (Changed (Change.Value id n octets)) is keepable id n octets refl places.0 (small_if n (listed_at s id n) places.1)
keeps document s cells (Changed (Change.File id octets)) order s_order places keepable is =
    ap (λ (x : Cells). overlay x document) (octets_put s id cells)
    ∙ changed_octets cells document order s (Changed (Change.File id octets)) is keepable s_order id octets refl places
