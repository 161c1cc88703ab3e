-- What is kept, after a cell or a number was set.
use Rattle.std.proofs.Common.{◌≡◌, ℕ, suc, ◌+◌, ◌-◌, ◌<◌, ◌≤◌, ◌⊎◌, Bool, true}
use Rattle.std.proofs.Common.{false, List, [], ◌∷◌, ◌++◌, map, length, take, Option, Some, None, slice_get}
use Rattle.std.proofs.Common.{if◌then◌else◌, refl, sym, ap, subst, inl, inr, ◌∙◌, arith}
use Rattle.std.specs.Prelude.{option_and_then}
use Rattle.std.proofs.lemmas.List.{take-append-le, length-map, map-append}
use Rattle.std.proofs.Math.Seq.{take-append_seam}
use Rattle.std.proofs.lemmas.Option.{slice_get_within, slice_get-map}
use Rattle.std.specs.Option.{option_map}
use Rattle.bac_protocol.specs.Transaction.{Key}
use Rattle.bac_protocol.specs.World.{same_key}
use Rattle.bac_protocol.proofs.Keys.{decide_key, same_key_self, set_other}
use Rattle.bac_world.specs.World as world
use Rattle.bac_world.specs.World.{Note, newest, count_of}
use Rattle.bac_world.proofs.Steps.{decide_number}
use Rattle.bac_journal.specs.declared.asks.Cell.{Cell}
use Rattle.bac_journal.specs.declared.asks.Row.{Row}
use Rattle.bac_journal.specs.declared.copies.Copy.{Copy}
use Rattle.bac_journal.specs.Entering.{tickets_of, WasAsked}
use Rattle.bac_journal.specs.Views.{key_view, copy_view}
use Rattle.bac_journal.specs.Index.{cell_at, cell_in, cells_of, nothing, number_at, newest_at, places_of, ArePlaces, IsReadied, IsWithRow, IsWithCell}
use Rattle.bac_journal.specs.Records.{IsKept}
use Rattle.bac_journal.proofs.Lists.{get_push, get_push_other, count_push, count_split}

pub key_other : (a b : Key) → (a ≡ b → ⊥) → same_key a b ≡ false
key_other a b ne = go (same_key a b) (set_other (λ k. false) a true b ne)
  where
    go : (x : Bool) → (if x then true else false) ≡ false → x ≡ false
    go true e = cc
    go false e = refl

key_is : (a b : Key) → a.client ≡ b.client → a.server ≡ b.server → a.invoke_id ≡ b.invoke_id → a ≡ b
key_is a b c s i = λ j. record { client = c j; server = s j; invoke_id = i j }

abbrev pub IsPlaced : List Row → Copy → Type 0
IsPlaced rows c = (k : Cell) × (cell_at rows (key_view c.transaction) ≡ Some k)

-- A cell was set.

module _ (old new : List Row) (key : Key) (cell : Cell) (h : IsWithRow old key.client (IsWithCell key.server key.invoke_id cell) new) where
  pub cell_here : cell_at new key ≡ Some cell
  cell_here = ap (λ (o : Option Row). option_and_then (cell_in key.server key.invoke_id) o) h.here ∙ h.goes.here

  pub cell_there : (k : Key) → (k ≡ key → ⊥) → cell_at new k ≡ cell_at old k
  cell_there k ne = go (decide_number k.client key.client)
    where
      look : Option Row → Option Cell
      look o = option_and_then (cell_in k.server k.invoke_id) o

      go : ((k.client ≡ key.client) ⊎ (k.client ≡ key.client → ⊥)) → cell_at new k ≡ cell_at old k
      go (inl is) =
          ap (λ c. look (slice_get new c)) is ∙ ap look h.here
          ∙ h.goes.others k.server k.invoke_id (λ e. ne (key_is k key is e.0 e.1))
          ∙ sym (ap look h.was) ∙ sym (ap (λ c. look (slice_get old c)) is)
      go (inr away) = ap look (h.others k.client away)

  pub numbers_same : (c t : ℕ) → number_at new c t ≡ number_at old c t
  numbers_same c t = go (decide_number c key.client)
    where
      look : Option Row → Option ℕ
      look o = option_and_then (λ (r : Row). slice_get r.numbers.items t) o

      go : ((c ≡ key.client) ⊎ (c ≡ key.client → ⊥)) → number_at new c t ≡ number_at old c t
      go (inl is) = ap (λ d. look (slice_get new d)) is ∙ ap look h.here ∙ ap (λ v. slice_get v.items t) h.goes.numbers ∙ sym (ap look h.was)
          ∙ sym (ap (λ d. look (slice_get old d)) is)
      go (inr away) = ap look (h.others c away)

  -- the cell has the same newest ask
  newest_same : (k : Key) → cell.newest ≡ newest_at old key → newest_at new k ≡ newest_at old k
  newest_same k same = go (decide_key k key)
    where
      go : ((k ≡ key) ⊎ (k ≡ key → ⊥)) → newest_at new k ≡ newest_at old k
      go (inl is) = ap (newest_at new) is ∙ ap (λ (o : Option Cell). option_and_then (λ (c : Cell). c.newest) o) cell_here ∙ same ∙ sym (ap (newest_at old) is)
      go (inr ne) = ap (λ (o : Option Cell). option_and_then (λ (c : Cell). c.newest) o) (cell_there k ne)

  pub places_are : (c : ℕ) (r : Row) → slice_get new c ≡ Some r → ((c ≡ key.client) ⊎ (c ≡ key.client → ⊥))
      → ((d : ℕ) (q : Row) → slice_get old d ≡ Some q → ArePlaces (length old) (places_of q)) → ArePlaces (length new) (places_of r)
  places_are c r at (inl is) all =
      let same : h.after ≡ r = let e : Some h.after ≡ Some r = sym h.here ∙ ap (slice_get new) (sym is) ∙ at in cc in
      subst (λ n. ArePlaces n (places_of r)) (sym h.many)
      (subst (ArePlaces (length old)) (sym h.goes.places ∙ ap places_of same) (all key.client h.before h.was))
  places_are c r at (inr away) all = subst (λ n. ArePlaces n (places_of r)) (sym h.many) (all c r (sym (h.others c away) ∙ at))

  pub numbers_many : (notes : List Note) (c : ℕ) (r : Row) → slice_get new c ≡ Some r → ((c ≡ key.client) ⊎ (c ≡ key.client → ⊥))
      → ((d : ℕ) (q : Row) → slice_get old d ≡ Some q → length q.numbers.items ≡ tickets_of d notes) → length r.numbers.items ≡ tickets_of c notes
  numbers_many notes c r at (inl is) all =
      let same : h.after ≡ r = let e : Some h.after ≡ Some r = sym h.here ∙ ap (slice_get new) (sym is) ∙ at in cc in
      ap (λ (q : Row). length q.numbers.items) (sym same) ∙ ap (λ v. length v.items) h.goes.numbers ∙ all key.client h.before h.was
      ∙ ap (λ d. tickets_of d notes) (sym is)
  numbers_many notes c r at (inr away) all = all c r (sym (h.others c away) ∙ at)

  -- what has a cell still has one
  pub still_placed : (d : Copy) → IsPlaced old d → IsPlaced new d
  still_placed d k = go (decide_key (key_view d.transaction) key)
    where
      go : ((key_view d.transaction ≡ key) ⊎ (key_view d.transaction ≡ key → ⊥)) → IsPlaced new d
      go (inl is) = (cell, ap (cell_at new) is ∙ cell_here)
      go (inr ne) = (k.0, cell_there (key_view d.transaction) ne ∙ k.1)

  -- a copy of the transaction was sent
  module _ (copies : List Copy) (c : Copy) (of : key_view c.transaction ≡ key) (known : Cell) (there : cell_at old key ≡ Some known)
      (newest_is : cell.newest ≡ known.newest) (one_more : cell.sent ≡ known.sent + 1) (found : c.before ≡ known.sent) (fits : key.invoke_id < 256) where
    all : map copy_view (copies ++ c ∷ []) ≡ map copy_view copies ++ copy_view c ∷ []
    all = map-append copy_view copies (c ∷ [])

    counts : (k : Key) (d : Cell) → k.invoke_id < 256 → cell_at new k ≡ Some d → ((k ≡ key) ⊎ (k ≡ key → ⊥))
        → ((q : Key) (e : Cell) → q.invoke_id < 256 → cell_at old q ≡ Some e → e.sent ≡ count_of q (map copy_view copies))
        → d.sent ≡ count_of k (map copy_view copies ++ copy_view c ∷ [])
    counts k d lk at (inl is) sent =
        let same : cell ≡ d = let e : Some cell ≡ Some d = sym cell_here ∙ ap (cell_at new) (sym is) ∙ at in cc in
        let mine : same_key (key_view c.transaction) k ≡ true = ap (λ q. same_key q k) of ∙ ap (λ q. same_key q k) (sym is) ∙ same_key_self k in
        ap (λ (e : Cell). e.sent) (sym same) ∙ one_more ∙ ap (λ n. n + 1) (sent key known fits there)
        ∙ ap (λ q. count_of q (map copy_view copies) + 1) (sym is)
        ∙ sym (count_push k (map copy_view copies) (copy_view c)
        ∙ ap (λ b. if b then count_of k (map copy_view copies) + 1 else count_of k (map copy_view copies)) mine)
    counts k d lk at (inr ne) sent =
        let other : same_key (key_view c.transaction) k ≡ false = ap (λ q. same_key q k) of ∙ key_other key k (λ e. ne (sym e)) in
        sent k d lk (sym (cell_there k ne) ∙ at)
        ∙ sym (count_push k (map copy_view copies) (copy_view c)
        ∙ ap (λ b. if b then count_of k (map copy_view copies) + 1 else count_of k (map copy_view copies)) other)

    views_many : length (map copy_view copies) ≡ length copies
    views_many = length-map copies copy_view

    befores : (n : ℕ) (d : Copy) → slice_get (copies ++ c ∷ []) n ≡ Some d → ((n ≡ length copies) ⊎ (n ≡ length copies → ⊥))
        → ((m : ℕ) (e : Copy) → slice_get copies m ≡ Some e → e.before ≡ count_of (key_view e.transaction) (take m (map copy_view copies)))
        → known.sent ≡ count_of key (map copy_view copies)
        → d.before ≡ count_of (key_view d.transaction) (take n (map copy_view copies ++ copy_view c ∷ []))
    befores n d at (inl is) before sent =
        let same : c ≡ d = let e : Some c ≡ Some d = sym (get_push copies c) ∙ ap (slice_get (copies ++ c ∷ [])) (sym is) ∙ at in cc in
        let whole : take n (map copy_view copies ++ copy_view c ∷ []) ≡ map copy_view copies =
        ap (λ m. take m (map copy_view copies ++ copy_view c ∷ [])) (is ∙ sym views_many) ∙ take-append_seam (map copy_view copies) (copy_view c ∷ []) in
        ap (λ (e : Copy). e.before) (sym same) ∙ found ∙ sent ∙ ap (λ q. count_of q (map copy_view copies)) (sym of)
        ∙ ap (λ (e : Copy). count_of (key_view e.transaction) (map copy_view copies)) same
        ∙ ap (λ l. count_of (key_view d.transaction) l) (sym whole)
    befores n d at (inr ne) before sent =
        let was : slice_get copies n ≡ Some d = sym (get_push_other copies c n ne) ∙ at in
        let within : n ≤ length (map copy_view copies) = let lt = slice_get_within copies n d was in omega (arith, lt, views_many) in
        before n d was ∙ ap (λ l. count_of (key_view d.transaction) l) (sym (take-append-le n (map copy_view copies) (copy_view c ∷ []) within))

    places_copy : (n : ℕ) (d : Copy) → slice_get (copies ++ c ∷ []) n ≡ Some d → ((n ≡ length copies) ⊎ (n ≡ length copies → ⊥))
        → ((m : ℕ) (e : Copy) → slice_get copies m ≡ Some e → IsPlaced old e) → IsPlaced new d
    places_copy n d at (inl is) placed =
        let same : c ≡ d = let e : Some c ≡ Some d = sym (get_push copies c) ∙ ap (slice_get (copies ++ c ∷ [])) (sym is) ∙ at in cc in
        subst (IsPlaced new) same (cell, ap (cell_at new) of ∙ cell_here)
    places_copy n d at (inr ne) placed = still_placed d (placed n d (sym (get_push_other copies c n ne) ∙ at))

    pub kept_copy : (notes : List Note) → IsKept old copies notes → IsKept new (copies ++ c ∷ []) notes
    kept_copy notes k = record {
      newest_is = λ q lq.
          newest_same q (newest_is ∙ ap (λ (o : Option Cell). option_and_then (λ (e : Cell). e.newest) o) (sym there)) ∙ k.newest_is q lq;
      number_is = λ d t. numbers_same d t ∙ k.number_is d t;
      counted = λ d r at. numbers_many notes d r at (decide_number d key.client) k.counted;
      places = λ d r at. places_are d r at (decide_number d key.client) k.places;
      sent = λ q d lq at. counts q d lq at (decide_key q key) k.sent ∙ ap (count_of q) (sym all);
      before = λ n d at. befores n d at (decide_number n (length copies)) k.before (k.sent key known fits there)
          ∙ ap (λ l. count_of (key_view d.transaction) (take n l)) (sym all);
      placed = λ n d at. places_copy n d at (decide_number n (length copies)) k.placed;
    }

-- How many copies of its transaction came after a copy.
pub later_is : (rows : List Row) (copies : List Copy) (notes : List Note) → IsKept rows copies notes → (number : ℕ) (c : Copy) (k : Cell)
    → slice_get copies number ≡ Some c → cell_at rows (key_view c.transaction) ≡ Some k → c.transaction.invoke_id < 256
    → k.sent - c.before - 1 ≡ world.later (key_view c.transaction) number (map copy_view copies)
later_is rows copies notes h number c k at there fits =
    let key : Key = key_view c.transaction in
    let all : k.sent ≡ count_of key (map copy_view copies) = h.sent key k fits there in
    let front : c.before ≡ count_of key (take number (map copy_view copies)) = h.before number c at in
    let split = count_split key number (map copy_view copies) (copy_view c) (slice_get-map copy_view copies number ∙ ap (option_map copy_view) at)
    (same_key_self key) in
    omega (arith, all, front, split)

count_few : (key : Key) (copies : List world.Copy) → count_of key copies ≤ length copies
count_few key [] = omega arith
count_few key (c ∷ copies) = go (same_key c.key key) (count_few key copies)
  where
    go : (b : Bool) → count_of key copies ≤ length copies → (if b then suc (count_of key copies) else count_of key copies) ≤ suc (length copies)
    go true h = omega arith
    go false h = omega arith

-- a transaction has no more copies than there are
pub sent_few : (rows : List Row) (copies : List Copy) (notes : List Note) → IsKept rows copies notes → (key : Key) (k : Cell) → cell_at rows key ≡ Some k
    → key.invoke_id < 256 → k.sent ≤ length copies
sent_few rows copies notes h key k at fits =
    let all : k.sent ≡ count_of key (map copy_view copies) = h.sent key k fits at in
    let few : count_of key (map copy_view copies) ≤ length (map copy_view copies) = count_few key (map copy_view copies) in
    let many : length (map copy_view copies) ≡ length copies = length-map copies copy_view in
    omega (arith, all, few, many)

-- a transaction that was asked has a cell
pub has_cell : (rows : List Row) (copies : List Copy) (notes : List Note) → IsKept rows copies notes → (key : Key) → key.invoke_id < 256
    → WasAsked notes key → (k : Cell) × (cell_at rows key ≡ Some k)
has_cell rows copies notes h key fits asked = go (cell_at rows key) refl (h.newest_is key fits ∙ asked.1)
  where
    go : (o : Option Cell) → cell_at rows key ≡ o → option_and_then (λ (c : Cell). c.newest) o ≡ Some asked.0 → (k : Cell) × (cell_at rows key ≡ Some k)
    go None e f = absurd cc
    go (Some c) e f = (c, e)

-- Pages.

-- a client has one for each node
pub as_many_pages : (rows : List Row) (copies : List Copy) (notes : List Note) → IsKept rows copies notes → (client server : ℕ) (r : Row)
    → slice_get rows client ≡ Some r → server < length rows → server < length r.pages.items
as_many_pages rows copies notes h client server r at lt =
    let many = (h.places client r at).many in
    let long = length-map r.pages.items cells_of in
    omega (arith, many, long, lt)

-- what has no cell has no copy
none_counted : (rows : List Row) (copies : List Copy) → ((n : ℕ) (c : Copy) → slice_get copies n ≡ Some c → IsPlaced rows c) → (k : Key)
    → cell_at rows k ≡ None → count_of k (map copy_view copies) ≡ 0
none_counted rows [] placed k none = refl
none_counted rows (c ∷ copies) placed k none =
    let first : IsPlaced rows c = placed 0 c refl in
    let other : same_key (key_view c.transaction) k ≡ false =
    key_other (key_view c.transaction) k (λ is. let e : None ≡ Some first.0 = sym none ∙ ap (cell_at rows) (sym is) ∙ first.1 in cc) in
    ap (λ b. if b then suc (count_of k (map copy_view copies)) else count_of k (map copy_view copies)) other
    ∙ none_counted rows copies (λ n. placed (suc n)) k none

-- a row is ready for an ask
module _ (old new : List Row) (client : ℕ) (h : IsWithRow old client IsReadied new) where
  abbrev IsNew : Key → Type 0
  IsNew k = (cell_at old k ≡ None) × (cell_at new k ≡ Some nothing)

  cells_ready : (k : Key) → (cell_at new k ≡ cell_at old k) ⊎ IsNew k
  cells_ready k = go (decide_number k.client client)
    where
      look : Option Row → Option Cell
      look o = option_and_then (cell_in k.server k.invoke_id) o

      new_is : k.client ≡ client → cell_at new k ≡ cell_in k.server k.invoke_id h.after
      new_is is = ap (λ c. look (slice_get new c)) is ∙ ap look h.here

      old_is : k.client ≡ client → cell_at old k ≡ cell_in k.server k.invoke_id h.before
      old_is is = ap (λ c. look (slice_get old c)) is ∙ ap look h.was

      one : k.client ≡ client → ((cell_in k.server k.invoke_id h.after ≡ cell_in k.server k.invoke_id h.before)
          ⊎ ((cell_in k.server k.invoke_id h.before ≡ None) × (cell_in k.server k.invoke_id h.after ≡ Some nothing)))
          → (cell_at new k ≡ cell_at old k) ⊎ IsNew k
      one is (inl same) = inl (new_is is ∙ same ∙ sym (old_is is))
      one is (inr new) = inr (old_is is ∙ new.0, new_is is ∙ new.1)

      go : ((k.client ≡ client) ⊎ (k.client ≡ client → ⊥)) → (cell_at new k ≡ cell_at old k) ⊎ IsNew k
      go (inl is) = one is (h.goes.cells k.server k.invoke_id)
      go (inr away) = inl (ap look (h.others k.client away))

  abbrev newest_of : Option Cell → Option ℕ
  newest_of o = option_and_then (λ (c : Cell). c.newest) o

  newest_ready : (k : Key) → ((cell_at new k ≡ cell_at old k) ⊎ IsNew k) → newest_at new k ≡ newest_at old k
  newest_ready k (inl same) = ap newest_of same
  newest_ready k (inr is) = ap newest_of is.1 ∙ sym (ap newest_of is.0)

  numbers_ready : (c t : ℕ) → number_at new c t ≡ number_at old c t
  numbers_ready c t = go (decide_number c client)
    where
      look : Option Row → Option ℕ
      look o = option_and_then (λ (r : Row). slice_get r.numbers.items t) o

      go : ((c ≡ client) ⊎ (c ≡ client → ⊥)) → number_at new c t ≡ number_at old c t
      go (inl is) = ap (λ d. look (slice_get new d)) is ∙ ap look h.here ∙ ap (λ l. slice_get l t) h.goes.numbers
          ∙ sym (ap look h.was) ∙ sym (ap (λ d. look (slice_get old d)) is)
      go (inr ne) = ap look (h.others c ne)

  counts_ready : (copies : List world.Copy) (k : Key) (c : Cell) → cell_at new k ≡ Some c → ((cell_at new k ≡ cell_at old k) ⊎ IsNew k)
      → ((e : Cell) → cell_at old k ≡ Some e → e.sent ≡ count_of k copies) → (cell_at old k ≡ None → count_of k copies ≡ 0) → c.sent ≡ count_of k copies
  counts_ready copies k c at (inl same) sent none = sent c (sym same ∙ at)
  counts_ready copies k c at (inr is) sent none =
      let e : nothing ≡ c = let s : Some nothing ≡ Some c = sym is.1 ∙ at in cc in
      ap (λ (d : Cell). d.sent) (sym e) ∙ sym (none is.0)

  placed_ready : (c : Copy) → IsPlaced old c → ((cell_at new (key_view c.transaction) ≡ cell_at old (key_view c.transaction)) ⊎ IsNew (key_view c.transaction))
      → IsPlaced new c
  placed_ready c p (inl same) = (p.0, same ∙ p.1)
  placed_ready c p (inr is) = absurd (let e : None ≡ Some p.0 = sym is.0 ∙ p.1 in cc)

  row_ready : (c : ℕ) (r : Row) → slice_get new c ≡ Some r → ((c ≡ client) ⊎ (c ≡ client → ⊥))
      → (q : Row) × (slice_get old c ≡ Some q) × (r.numbers.items ≡ q.numbers.items)
      × ((servers : ℕ) → ArePlaces servers (places_of q) → ArePlaces servers (places_of r))
  row_ready c r at (inl is) =
      let same : h.after ≡ r = let e : Some h.after ≡ Some r = sym h.here ∙ ap (slice_get new) (sym is) ∙ at in cc in (
        h.before,
        ap (slice_get old) is ∙ h.was,
        ap (λ (q : Row). q.numbers.items) (sym same) ∙ h.goes.numbers,
        subst (λ (q : Row). (servers : ℕ) → ArePlaces servers (places_of h.before) → ArePlaces servers (places_of q)) same h.goes.places,
      )
  row_ready c r at (inr ne) = (r, sym (h.others c ne) ∙ at, refl, λ servers p. p)

  pub kept_ready : (copies : List Copy) (notes : List Note) → IsKept old copies notes → IsKept new copies notes
  kept_ready copies notes k = record {
    newest_is = λ q lq. newest_ready q (cells_ready q) ∙ k.newest_is q lq;
    number_is = λ c t. numbers_ready c t ∙ k.number_is c t;
    counted = λ c r at. let q = row_ready c r at (decide_number c client) in ap (λ l. length l) q.2 ∙ k.counted c q.0 q.1;
    places = λ c r at.
        let q = row_ready c r at (decide_number c client) in
        subst (λ n. ArePlaces n (places_of r)) (sym h.many) (q.3 (length old) (k.places c q.0 q.1));
    sent = λ q c lq at.
        counts_ready (map copy_view copies) q c at (cells_ready q) (λ e there. k.sent q e lq there) (none_counted old copies k.placed q);
    before = k.before;
    placed = λ n c at. placed_ready c (k.placed n c at) (cells_ready (key_view c.transaction));
  }
