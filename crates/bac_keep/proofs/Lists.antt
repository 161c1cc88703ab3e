-- A cell of a list, on top of the cells after it.
use Rattle.std.proofs.Common.{◌≡◌, ℕ, suc, ◌<◌, ◌≤◌, false, List, [], ◌∷◌, ◌++◌, length, drop, get_or, Some, None, refl, sym, ap, ◌∙◌, subst, arith}
use Rattle.bac_value.specs.Value.{ObjectId}
use Rattle.bac_store.specs.Kept.{IsInOrder}
use Rattle.bac_store.specs.Stores.{Store}
use Rattle.bac_store.specs.Writes.{file_at}
use Rattle.bac_keep.specs.declared.cell.Cell.{Cell}
use Rattle.bac_keep.specs.Cells.{Cells, Fits, NUMBERS, file_place, value_place, with_cell}
use Rattle.bac_keep.specs.Overlay.{joined, or_nothing, overlay}
use Rattle.bac_keep.specs.Restored.{is_writable_file, with_kept_octets, with_kept_values}
use Rattle.bac_keep.specs.Held.{IsRising, held}
use Rattle.bac_keep.proofs.Restores.{chunk_restored, count_ignored, count_restored, file_flag, nothing_over, value_restored}
use Rattle.bac_keep.proofs.Risings.{held_at, held_drop, nothing_after}

-- no cells yet
drop_whole : (cells : List Cell) → drop (length cells) cells ≡ []
drop_whole [] = refl
drop_whole (c ∷ cs) = drop_whole cs

pub nothing_yet : (cells : List Cell) (n : ℕ) (document s : Store) → n ≡ length cells → s ≡ document → s ≡ overlay (held (drop n cells)) document
nothing_yet cells n document s all same =
    same ∙ sym (nothing_over document) ∙ ap (λ (x : List Cell). overlay (held x) document) (sym (drop_whole cells))
    ∙ ap (λ (m : ℕ). overlay (held (drop m cells)) document) (sym all)

-- the next chunk
pub next_chunk : (cells : List Cell) (at j : ℕ) (d : Cell) (id : ObjectId) (k : ℕ) (before : List ℕ) → IsRising cells → at ≤ j → j < length cells
    → get_or cells j d ≡ d
    → d.place ≡ file_place id (suc k) → before ≡ joined (held (drop at cells)) id k → before ++ d.octets.items ≡ joined (held (drop at cells)) id (suc k)
next_chunk cells at j d id k before rise le l is place so_far =
    let found : held (drop at cells) d.place ≡ Some d.octets.items = subst (λ (x : Cell). held (drop at cells) x.place ≡ Some x.octets.items) is
    (held_at cells at j d rise le l) in
    let there : held (drop at cells) (file_place id (suc k)) ≡ Some d.octets.items = ap (held (drop at cells)) (sym place) ∙ found in
    ap (λ (x : List ℕ). x ++ d.octets.items) so_far ∙ ap (λ x. joined (held (drop at cells)) id k ++ or_nothing x) (sym there)

module _ (cells : List Cell) (at : ℕ) (d : Cell) (l : at < length cells) (is : get_or cells at d ≡ d) (document : Store) (order : IsInOrder document)
    (s : Store)
    (next : ℕ) (follows : next ≡ suc at) (above : s ≡ overlay (held (drop next cells)) document) (id : ObjectId) (id_fits : Fits id) where
  abbrev rest : Cells
  rest = held (drop (suc at) cells)

  on_top : held (drop at cells) ≡ with_cell d.place d.octets.items rest
  on_top = ap held (held_drop cells at d l ∙ ap (λ (x : Cell). x ∷ drop (suc at) cells) is)

  under : s ≡ overlay (held (drop (suc at) cells)) document
  under = above ∙ ap (λ (n : ℕ). overlay (held (drop n cells)) document) follows

  pub values_step : (n : ℕ) → n < NUMBERS → d.place ≡ value_place id n → with_kept_values id n d.octets.items s ≡ overlay (held (drop at cells)) document
  values_step n small place =
      ap (with_kept_values id n d.octets.items) under
      ∙ sym (value_restored rest document order id id_fits n d.octets.items small)
      ∙ ap (λ (p : ℕ). overlay (with_cell p d.octets.items rest) document) (sym place)
      ∙ ap (λ (x : Cells). overlay x document) (sym on_top)

  pub count_step : (count : ℕ) (octets : List ℕ) → count < 256 → d.place ≡ file_place id 0 → d.octets.items ≡ count ∷ []
      → octets ≡ joined (held (drop at cells)) id count
      → with_kept_octets id octets s ≡ overlay (held (drop at cells)) document
  count_step count octets small place states join =
      let top : held (drop at cells) ≡ with_cell (file_place id 0) (count ∷ []) rest =
      on_top ∙ ap (λ (p : ℕ). with_cell p d.octets.items rest) place ∙ ap (λ (x : List ℕ). with_cell (file_place id 0) x rest) states in
      ap (with_kept_octets id octets) under
      ∙ ap (λ (x : List ℕ). with_kept_octets id x (overlay rest document)) (join ∙ ap (λ (x : Cells). joined x id count) top)
      ∙ sym (count_restored rest document order id id_fits count small)
      ∙ ap (λ (x : Cells). overlay x document) (sym top)

  -- the number of chunks of a file that may not be written
  pub count_gone : d.place ≡ file_place id 0 → is_writable_file (file_at s id) ≡ false → s ≡ overlay (held (drop at cells)) document
  count_gone place fixed =
      let gone : is_writable_file (file_at document id) ≡ false =
      sym (file_flag rest document id) ∙ ap (λ (x : Store). is_writable_file (file_at x id)) (sym under) ∙ fixed in
      under
      ∙ sym (count_ignored rest document order id id_fits d.octets.items gone)
      ∙ ap (λ (p : ℕ). overlay (with_cell p d.octets.items rest) document) (sym place)
      ∙ ap (λ (x : Cells). overlay x document) (sym on_top)

  pub chunk_step : (k : ℕ) → k < 255 → d.place ≡ file_place id (suc k) → IsRising cells → s ≡ overlay (held (drop at cells)) document
  chunk_step k small place rise =
      let here : (get_or cells at d).place ≡ file_place id (suc k) = ap (λ (x : Cell). x.place) is ∙ place in
      let none : rest (file_place id 0) ≡ None = nothing_after cells at d rise l (file_place id 0) (omega (arith, here)) in
      under
      ∙ sym (chunk_restored rest document order id id_fits k d.octets.items small none)
      ∙ ap (λ (p : ℕ). overlay (with_cell p d.octets.items rest) document) (sym place)
      ∙ ap (λ (x : Cells). overlay x document) (sym on_top)
