-- Pages of cells, of one row.
use Rattle.std.proofs.Common.{◌≡◌, ℕ, zero, suc, ◌<◌, ◌⊎◌, List, [], ◌∷◌, length, map, Option, Some, None, slice_get, slice_set}
use Rattle.std.proofs.Common.{refl, sym, ap, subst, inl, inr, ◌∙◌, arith}
use Rattle.std.specs.Option.{option_map}
use Rattle.std.specs.Prelude.{option_and_then, replicate}
use Rattle.std.proofs.lemmas.List.{length-map, length-replicate, length-set}
use Rattle.std.proofs.lemmas.Option.{slice_get_within, slice_get-map}
use Rattle.std.specs.Global.{Vec}
use Rattle.bac_protocol.specs.Transaction.{Key}
use Rattle.bac_world.proofs.Steps.{decide_number}
use Rattle.bac_journal.specs.declared.asks.Cell.{Cell}
use Rattle.bac_journal.specs.declared.asks.Row.{Row}
use Rattle.bac_journal.specs.Index.{cell_at, cell_in, cells_of, nothing, places_of, ArePlaces, IsOpenTo, IsReadied, IsWithCell}
use Rattle.bac_journal.proofs.Grown.{nothing_left}
use Rattle.bac_journal.proofs.Lists.{get_set, get_set_other}

pub get_within : {A : Type 0} (xs : List A) (i : ℕ) → i < length xs → (x : A) × (slice_get xs i ≡ Some x)
get_within [] i h = absurd (omega (arith, h))
get_within (x ∷ xs) zero h = (x, refl)
get_within (x ∷ xs) (suc i) h = get_within xs i (omega arith)

-- a cell stands on a page of a row
pub record IsOnPage (rows : List Row) (k : Key) : Type 0 where
  pub row : Row
  pub at : slice_get rows k.client ≡ Some row
  pub page : Vec Cell
  pub there : slice_get row.pages.items k.server ≡ Some page
  pub within : k.invoke_id < length page.items

pub on_page : (rows : List Row) (k : Key) (c : Cell) → cell_at rows k ≡ Some c → IsOnPage rows k
on_page rows k c at = go (slice_get rows k.client) refl at
  where
    look : Option (Vec Cell) → Option Cell
    look o = option_and_then (λ (p : Vec Cell). slice_get p.items k.invoke_id) o

    page : (r : Row) → slice_get rows k.client ≡ Some r → (o : Option (Vec Cell)) → slice_get r.pages.items k.server ≡ o → look o ≡ Some c → IsOnPage rows k
    page r e None f g = absurd cc
    page r e (Some p) f g = record { row = r; at = e; page = p; there = f; within = slice_get_within p.items k.invoke_id c g }

    go : (o : Option Row) → slice_get rows k.client ≡ o → option_and_then (cell_in k.server k.invoke_id) o ≡ Some c → IsOnPage rows k
    go None e f = absurd cc
    go (Some r) e f = page r e (slice_get r.pages.items k.server) refl f

-- a client that has cells for a server has one for each transaction with it
pub open_cell : (rows : List Row) (k : Key) → IsOpenTo rows k.client k.server → k.invoke_id < 256 → (c : Cell) × (cell_at rows k ≡ Some c)
open_cell rows k h fits =
    let row : Row = h.0 in
    let found = page row (slice_get row.pages.items k.server) refl (sym (slice_get-map cells_of row.pages.items k.server) ∙ (h.2).place) in
    (found.0, ap (λ (o : Option Row). option_and_then (cell_in k.server k.invoke_id) o) h.1 ∙ found.1)
  where
    page : (r : Row) → (o : Option (Vec Cell)) → slice_get r.pages.items k.server ≡ o → option_map cells_of o ≡ Some 256
        → (c : Cell) × (cell_in k.server k.invoke_id r ≡ Some c)
    page r None e f = absurd cc
    page r (Some p) e f =
        let many : length p.items ≡ 256 = cc in
        let got = get_within p.items k.invoke_id (omega (arith, many, fits)) in
        (got.0, ap (λ (o : Option (Vec Cell)). option_and_then (λ (q : Vec Cell). slice_get q.items k.invoke_id) o) e ∙ got.1)

-- A page is another one.

map_set : {A B : Type 0} (f : A → B) (xs : List A) (i : ℕ) (x y : A) → slice_get xs i ≡ Some x → f y ≡ f x → map f (slice_set xs i y) ≡ map f xs
map_set f [] i x y at same = absurd cc
map_set f (z ∷ xs) zero x y at same = let is : z ≡ x = cc in ap (λ b. b ∷ map f xs) (same ∙ ap f (sym is))
map_set f (z ∷ xs) (suc i) x y at same = ap (λ l. f z ∷ l) (map_set f xs i x y at same)

module _ (old new : Row) (server : ℕ) (page after : Vec Cell) (there : slice_get old.pages.items server ≡ Some page)
    (set : new.pages.items ≡ slice_set old.pages.items server after) where
  abbrev look : ℕ → Option (Vec Cell) → Option Cell
  look i o = option_and_then (λ (p : Vec Cell). slice_get p.items i) o

  within : server < length old.pages.items
  within = slice_get_within old.pages.items server page there

  page_here : slice_get new.pages.items server ≡ Some after
  page_here = ap (λ l. slice_get l server) set ∙ get_set old.pages.items server after within

  page_there : (s : ℕ) → (s ≡ server → ⊥) → slice_get new.pages.items s ≡ slice_get old.pages.items s
  page_there s ne = ap (λ l. slice_get l s) set ∙ get_set_other old.pages.items server s after ne

  old_here : (s i : ℕ) → s ≡ server → cell_in s i old ≡ slice_get page.items i
  old_here s i is = ap (λ t. look i (slice_get old.pages.items t)) is ∙ ap (look i) there

  new_here : (s i : ℕ) → s ≡ server → cell_in s i new ≡ slice_get after.items i
  new_here s i is = ap (λ t. look i (slice_get new.pages.items t)) is ∙ ap (look i) page_here

  new_there : (s i : ℕ) → (s ≡ server → ⊥) → cell_in s i new ≡ cell_in s i old
  new_there s i ne = ap (look i) (page_there s ne)

  -- one cell of it is set
  pub cell_set : (invoke_id : ℕ) (cell : Cell) → invoke_id < length page.items → after.items ≡ slice_set page.items invoke_id cell
      → new.numbers ≡ old.numbers → IsWithCell server invoke_id cell old new
  cell_set invoke_id cell fits items numbers = record {
    here = new_here server invoke_id refl ∙ ap (λ l. slice_get l invoke_id) items ∙ get_set page.items invoke_id cell fits;
    others = λ s i ne. other s i ne (decide_number s server) (decide_number i invoke_id);
    places = ap (map cells_of) set
        ∙ map_set cells_of old.pages.items server page after there (ap (λ l. length l) items ∙ length-set page.items invoke_id cell);
    numbers = numbers;
  }
    where
      other : (s i : ℕ) → ((s ≡ server) × (i ≡ invoke_id) → ⊥) → ((s ≡ server) ⊎ (s ≡ server → ⊥)) → ((i ≡ invoke_id) ⊎ (i ≡ invoke_id → ⊥))
          → cell_in s i new ≡ cell_in s i old
      other s i ne (inl is) (inl it) = absurd (ne (is, it))
      other s i ne (inl is) (inr away) =
          new_here s i is ∙ ap (λ l. slice_get l i) items ∙ get_set_other page.items invoke_id i cell away ∙ sym (old_here s i is)
      other s i ne (inr away) d = new_there s i away

  -- it was empty, and nothing is known of its cells
  module _ (empty : page.items ≡ []) (blank : after.items ≡ replicate 256 nothing) where
    one_of : (n i : ℕ) → (slice_get (replicate n nothing) i ≡ Some nothing) ⊎ (slice_get (replicate n nothing) i ≡ None)
    one_of zero i = inr refl
    one_of (suc n) zero = inl refl
    one_of (suc n) (suc i) = one_of n i

    many_cells : cells_of after ≡ 256
    many_cells = ap (λ l. length l) blank ∙ length-replicate 256 nothing

    pub place_here : slice_get (places_of new) server ≡ Some 256
    place_here = slice_get-map cells_of new.pages.items server ∙ ap (option_map cells_of) page_here ∙ ap Some many_cells

    none_here : (s i : ℕ) → s ≡ server → cell_in s i old ≡ None
    none_here s i is = old_here s i is ∙ ap (λ l. slice_get l i) empty

    cells : (s i : ℕ) → ((s ≡ server) ⊎ (s ≡ server → ⊥)) → ((slice_get (replicate 256 nothing) i ≡ Some nothing) ⊎ (slice_get (replicate 256 nothing) i ≡ None))
        → (cell_in s i new ≡ cell_in s i old) ⊎ ((cell_in s i old ≡ None) × (cell_in s i new ≡ Some nothing))
    cells s i (inl is) (inl some) = inr (none_here s i is, new_here s i is ∙ ap (λ l. slice_get l i) blank ∙ some)
    cells s i (inl is) (inr none) = inl (new_here s i is ∙ ap (λ l. slice_get l i) blank ∙ none ∙ sym (none_here s i is))
    cells s i (inr ne) d = inl (new_there s i ne)

    whole : (servers s n : ℕ) → ArePlaces servers (places_of old) → slice_get (places_of new) s ≡ Some n → ((s ≡ server) ⊎ (s ≡ server → ⊥))
        → (n ≡ 0) ⊎ (n ≡ 256)
    whole servers s n h at (inl is) = inr (let e : Some n ≡ Some 256 = sym at ∙ ap (slice_get (places_of new)) is ∙ place_here in cc)
    whole servers s n h at (inr ne) = h.whole s n
        (slice_get-map cells_of old.pages.items s ∙ ap (option_map cells_of) (sym (page_there s ne)) ∙ sym (slice_get-map cells_of new.pages.items s) ∙ at)

    as_many : length (places_of new) ≡ length (places_of old)
    as_many = length-map new.pages.items cells_of ∙ ap (λ l. length l) set ∙ length-set old.pages.items server after
        ∙ sym (length-map old.pages.items cells_of)

    pub page_made : new.numbers.items ≡ old.numbers.items → IsReadied old new
    page_made numbers = record {
      cells = λ s i. cells s i (decide_number s server) (one_of 256 i);
      places = λ servers h. record {
        many = as_many ∙ h.many;
        whole = λ s n at. whole servers s n h at (decide_number s server);
      };
      numbers = numbers;
    }

-- nothing of it is changed
pub row_still : (old new : Row) → new.pages ≡ old.pages → new.numbers.items ≡ old.numbers.items → IsReadied old new
row_still old new pages numbers = record {
  cells = λ s i. inl (ap (λ (v : Vec (Vec Cell)). option_and_then (λ (p : Vec Cell). slice_get p.items i) (slice_get v.items s)) pages);
  places = λ servers h. subst (λ (v : Vec (Vec Cell)). ArePlaces servers (map cells_of v.items)) (sym pages) h;
  numbers = numbers;
}

-- a page that is not empty is whole
pub page_whole : (r : Row) (server servers : ℕ) (page : Vec Cell) → ArePlaces servers (places_of r) → slice_get r.pages.items server ≡ Some page
    → (page.items ≡ [] → ⊥) → slice_get (places_of r) server ≡ Some 256
page_whole r server servers page h there some = go (h.whole server (length page.items) found)
  where
    found : slice_get (places_of r) server ≡ Some (length page.items)
    found = slice_get-map cells_of r.pages.items server ∙ ap (option_map cells_of) there

    go : ((length page.items ≡ 0) ⊎ (length page.items ≡ 256)) → slice_get (places_of r) server ≡ Some 256
    go (inl none) = absurd (some (nothing_left page.items none))
    go (inr all) = found ∙ ap Some all
