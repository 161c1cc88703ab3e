-- What is kept, after an ask was noted.
use Rattle.std.proofs.Common.{◌≡◌, ℕ, suc, ◌+◌, ◌<◌, ◌≤◌, ◌⊎◌, Bool, true, false, ◌&&◌, List, [], ◌∷◌, ◌++◌, map, length, Option, Some, None, slice_get}
use Rattle.std.proofs.Common.{if◌then◌else◌, refl, sym, ap, subst, inl, inr, ◌∙◌, arith, nat_eq, nat_lt, slice_set}
use Rattle.std.proofs.lemmas.Bool.Decides.{nat_tests}
use Rattle.std.proofs.lemmas.List.{length-append, length-set, length-map, length-reverse, map-append, reverse-append, reverse-reverse}
use Rattle.std.proofs.lemmas.Option.{slice_get-map}
use Rattle.std.specs.Prelude.{option_and_then, reverse, vec_capacity, is_some, not}
use Rattle.std.specs.Option.{option_map}
use Rattle.bac_npdu.specs.declared.peer.Peer.{Peer}
use Rattle.bac_npdu.specs.Peers.{PeerView}
use Rattle.bac_npdu.specs.Views.{peer_view}
use Rattle.std.specs.Global.{Vec}
use Rattle.bac_protocol.specs.Transaction.{Key}
use Rattle.bac_protocol.specs.World.{same_key}
use Rattle.bac_protocol.proofs.Keys.{decide_key, same_key_self}
use Rattle.bac_world.specs.World.{Note, newest, ask_of, count_of, is_away}
use Rattle.bac_world.proofs.Steps.{decide_number}
use Rattle.bac_journal.specs.declared.asks.Cell.{Cell}
use Rattle.bac_journal.specs.declared.asks.Row.{Row}
use Rattle.bac_journal.specs.declared.copies.Copy.{Copy}
use Rattle.bac_journal.specs.declared.noting.Note as code
use Rattle.bac_journal.specs.Entering.{with_ticket, tickets_of}
use Rattle.bac_journal.specs.Notes.{note_view, notes_view}
use Rattle.bac_journal.specs.Views.{key_view, copy_view}
use Rattle.bac_journal.specs.Index.{cell_at, cell_in, cells_of, number_at, newest_at, places_of, ArePlaces, IsWithRow, IsWithCell, IsWithNumber}
use Rattle.bac_journal.specs.Records.{IsKept}
use Rattle.bac_journal.proofs.Lists.{get_set, get_set_other, get_push, get_push_other}
use Rattle.bac_journal.proofs.Index.{key_other, cell_here, cell_there, numbers_same, still_placed, places_are, numbers_many}

nat_self : (n : ℕ) → nat_eq n n ≡ true
nat_self n = grind (arith, nat_tests)

nat_other : (m n : ℕ) → (m ≡ n → ⊥) → nat_eq m n ≡ false
nat_other m n ne = go (nat_eq m n) refl
  where
    go : (b : Bool) → nat_eq m n ≡ b → b ≡ false
    go true e = absurd (ne (grind (arith, nat_tests)))
    go false e = refl

right_false : (x y : Bool) → y ≡ false → (x && y) ≡ false
right_false true y e = e
right_false false y e = refl

-- A number was added to a client's row.

module _ (old new : List Row) (client ticket number : ℕ) (h : IsWithRow old client (IsWithNumber ticket number) new) where
  abbrev look_cell : Key → Option Row → Option Cell
  look_cell k o = option_and_then (cell_in k.server k.invoke_id) o

  abbrev look_number : ℕ → Option Row → Option ℕ
  look_number t o = option_and_then (λ (r : Row). slice_get r.numbers.items t) o

  cells_same : (k : Key) → cell_at new k ≡ cell_at old k
  cells_same k = go (decide_number k.client client)
    where
      go : ((k.client ≡ client) ⊎ (k.client ≡ client → ⊥)) → cell_at new k ≡ cell_at old k
      go (inl is) = ap (λ d. look_cell k (slice_get new d)) is ∙ ap (look_cell k) h.here
          ∙ ap (λ (v : Vec (Vec Cell)). option_and_then (λ (p : Vec Cell). slice_get p.items k.invoke_id) (slice_get v.items k.server)) h.goes.pages
          ∙ sym (ap (look_cell k) h.was)
          ∙ sym (ap (λ d. look_cell k (slice_get old d)) is)
      go (inr away) = ap (look_cell k) (h.others k.client away)

  number_here : number_at new client ticket ≡ Some number
  number_here = ap (look_number ticket) h.here ∙ h.goes.here

  number_there : (t : ℕ) → (t ≡ ticket → ⊥) → number_at new client t ≡ number_at old client t
  number_there t ne = ap (look_number t) h.here ∙ h.goes.others t ne ∙ sym (ap (look_number t) h.was)

  number_away : (c t : ℕ) → (c ≡ client → ⊥) → number_at new c t ≡ number_at old c t
  number_away c t ne = ap (look_number t) (h.others c ne)

-- An ask was noted: it is its transaction's newest, and its ticket's.

module _ (old mid new : List Row) (key : Key) (cell known : Cell) (number : ℕ)
    (a : IsWithRow old key.client (IsWithCell key.server key.invoke_id cell) mid) (ticket : ℕ)
    (b : IsWithRow mid key.client (IsWithNumber ticket number) new) (fits : key.invoke_id < 256) (there : cell_at old key ≡ Some known)
    (newest_cell : cell.newest ≡ Some number) (same_sent : cell.sent ≡ known.sent) (copies : List Copy) (notes : List Note)
    (numbered : number ≡ length notes) (h : IsKept old copies notes) where
  abbrev note : Note
  note = record { key = key; ticket = ticket; away = None }

  mid_row : a.after ≡ b.before
  mid_row = let e : Some a.after ≡ Some b.before = sym a.here ∙ b.was in cc

  many_numbers : length b.before.numbers.items ≡ tickets_of key.client notes
  many_numbers = ap (λ (r : Row). length r.numbers.items) (sym mid_row) ∙ ap (λ v. length v.items) a.goes.numbers ∙ h.counted key.client a.before a.was

  newests : (q : Key) → q.invoke_id < 256 → ((q ≡ key) ⊎ (q ≡ key → ⊥)) → newest_at new q ≡ newest q (note ∷ notes)
  newests q lq (inl is) =
      ap (newest_at new) is ∙ ap (λ (o : Option Cell). option_and_then (λ (c : Cell). c.newest) o)
      (cells_same mid new key.client ticket number b key ∙ cell_here old mid key cell a) ∙ newest_cell ∙ ap Some numbered
      ∙ sym (ap (λ x. if x then Some (length notes) else newest q notes) (ap (same_key key) is ∙ same_key_self key))
  newests q lq (inr ne) =
      ap (λ (o : Option Cell). option_and_then (λ (c : Cell). c.newest) o)
      (cells_same mid new key.client ticket number b q ∙ cell_there old mid key cell a q ne) ∙ h.newest_is q lq
      ∙ sym (ap (λ x. if x then Some (length notes) else newest q notes) (key_other key q (λ e. ne (sym e))))

  passes_note : (c t : ℕ) → (nat_eq key.client c && nat_eq ticket t) ≡ false → ask_of c t (note ∷ notes) ≡ ask_of c t notes
  passes_note c t e = ap (λ x. if x then Some (length notes) else ask_of c t notes) e

  numbers : (c t : ℕ) → ((c ≡ key.client) ⊎ (c ≡ key.client → ⊥)) → ((t ≡ ticket) ⊎ (t ≡ ticket → ⊥)) → number_at new c t ≡ ask_of c t (note ∷ notes)
  numbers c t (inl is) (inl it) =
      ap (λ d. number_at new d t) is ∙ ap (number_at new key.client) it ∙ number_here mid new key.client ticket number b ∙ ap Some numbered
      ∙ sym (ap (λ x. if x && nat_eq ticket t then Some (length notes) else ask_of c t notes) (ap (nat_eq key.client) is ∙ nat_self key.client)
      ∙ ap (λ x. if x then Some (length notes) else ask_of c t notes) (ap (nat_eq ticket) it ∙ nat_self ticket))
  numbers c t (inl is) (inr ne) =
      ap (λ d. number_at new d t) is ∙ number_there mid new key.client ticket number b t ne
      ∙ numbers_same old mid key cell a key.client t ∙ h.number_is key.client t ∙ ap (λ d. ask_of d t notes) (sym is)
      ∙ sym (passes_note c t (right_false (nat_eq key.client c) (nat_eq ticket t) (nat_other ticket t (λ e. ne (sym e)))))
  numbers c t (inr ne) w =
      number_away mid new key.client ticket number b c t ne ∙ numbers_same old mid key cell a c t ∙ h.number_is c t
      ∙ sym (passes_note c t (ap (λ x. x && nat_eq ticket t) (nat_other key.client c (λ e. ne (sym e)))))

  counts : (c : ℕ) (r : Row) → slice_get new c ≡ Some r → ((c ≡ key.client) ⊎ (c ≡ key.client → ⊥)) → length r.numbers.items ≡ tickets_of c (note ∷ notes)
  counts c r at (inl is) =
      let same : b.after ≡ r = let e : Some b.after ≡ Some r = sym b.here ∙ ap (slice_get new) (sym is) ∙ at in cc in
      ap (λ (q : Row). length q.numbers.items) (sym same) ∙ b.goes.many
      ∙ ap (with_ticket ticket) (many_numbers ∙ ap (λ d. tickets_of d notes) (sym is))
      ∙ sym (ap (λ x. if x then with_ticket ticket (tickets_of c notes) else tickets_of c notes) (ap (nat_eq key.client) is ∙ nat_self key.client))
  counts c r at (inr ne) = numbers_many old mid key cell a notes c r (sym (b.others c ne) ∙ at) (inr ne) h.counted
      ∙ sym (ap (λ x. if x then with_ticket ticket (tickets_of c notes) else tickets_of c notes) (nat_other key.client c (λ e. ne (sym e))))

  places_noted : (c : ℕ) (r : Row) → slice_get new c ≡ Some r → ((c ≡ key.client) ⊎ (c ≡ key.client → ⊥)) → ArePlaces (length new) (places_of r)
  places_noted c r at (inl is) =
      let same : b.after ≡ r = let e : Some b.after ≡ Some r = sym b.here ∙ ap (slice_get new) (sym is) ∙ at in cc in
      let pages : b.before.pages ≡ r.pages = sym b.goes.pages ∙ ap (λ (q : Row). q.pages) same in
      subst (λ n. ArePlaces n (places_of r)) (sym b.many)
      (subst (λ (v : Vec (Vec Cell)). ArePlaces (length mid) (map cells_of v.items)) pages
      (places_are old mid key cell a key.client b.before b.was (inl refl) h.places))
  places_noted c r at (inr ne) =
      subst (λ n. ArePlaces n (places_of r)) (sym b.many) (places_are old mid key cell a c r (sym (b.others c ne) ∙ at) (inr ne) h.places)

  counts_sent : (q : Key) (c : Cell) → q.invoke_id < 256 → cell_at new q ≡ Some c → ((q ≡ key) ⊎ (q ≡ key → ⊥)) → c.sent ≡ count_of q (map copy_view copies)
  counts_sent q c lq at (inl is) =
      let same : cell ≡ c = let e : Some cell ≡ Some c = sym (cell_here old mid key cell a) ∙ sym (cells_same mid new key.client ticket number b key)
      ∙ ap (cell_at new) (sym is) ∙ at in cc in
      ap (λ (d : Cell). d.sent) (sym same) ∙ same_sent ∙ h.sent key known fits there ∙ ap (λ k. count_of k (map copy_view copies)) (sym is)
  counts_sent q c lq at (inr ne) =
      h.sent q c lq (sym (cell_there old mid key cell a q ne) ∙ sym (cells_same mid new key.client ticket number b q) ∙ at)

  pub kept_note : IsKept new copies (note ∷ notes)
  kept_note = record {
    newest_is = λ q lq. newests q lq (decide_key q key);
    number_is = λ c t. numbers c t (decide_number c key.client) (decide_number t ticket);
    counted = λ c r at. counts c r at (decide_number c key.client);
    places = λ c r at. places_noted c r at (decide_number c key.client);
    sent = λ q c lq at. counts_sent q c lq at (decide_key q key);
    before = h.before;
    placed = λ n c at.
        let p = still_placed old mid key cell a c (h.placed n c at) in (p.0, cells_same mid new key.client ticket number b (key_view c.transaction) ∙ p.1);
  }

-- An ask of a stranger was noted: it is its ticket's alone.

pub is_asked : (o : Option Peer) → is_some o ≡ true → is_some (option_map peer_view o) ≡ true
is_asked None e = e
is_asked (Some p) e = refl

module _ (old new : List Row) (key : Key) (number ticket : ℕ) (b : IsWithRow old key.client (IsWithNumber ticket number) new) (away : Option PeerView)
    (stranger : is_some away ≡ true) (copies : List Copy) (notes : List Note) (numbered : number ≡ length notes) (h : IsKept old copies notes) where
  abbrev away_note : Note
  away_note = record { key = key; ticket = ticket; away = away }

  away_newests : (q : Key) → q.invoke_id < 256 → newest_at new q ≡ newest q (record { key = key; ticket = ticket; away = away } ∷ notes)
  away_newests q lq =
      ap (λ (o : Option Cell). option_and_then (λ (c : Cell). c.newest) o) (cells_same old new key.client ticket number b q) ∙ h.newest_is q lq
      ∙ sym (ap (λ x. if not x && same_key key q then Some (length notes) else newest q notes) stranger)

  away_passes : (c t : ℕ) → (nat_eq key.client c && nat_eq ticket t) ≡ false → ask_of c t (away_note ∷ notes) ≡ ask_of c t notes
  away_passes c t e = ap (λ x. if x then Some (length notes) else ask_of c t notes) e

  away_numbers : (c t : ℕ) → ((c ≡ key.client) ⊎ (c ≡ key.client → ⊥)) → ((t ≡ ticket) ⊎ (t ≡ ticket → ⊥))
      → number_at new c t ≡ ask_of c t (away_note ∷ notes)
  away_numbers c t (inl is) (inl it) =
      ap (λ d. number_at new d t) is ∙ ap (number_at new key.client) it ∙ number_here old new key.client ticket number b ∙ ap Some numbered
      ∙ sym (ap (λ x. if x && nat_eq ticket t then Some (length notes) else ask_of c t notes) (ap (nat_eq key.client) is ∙ nat_self key.client)
      ∙ ap (λ x. if x then Some (length notes) else ask_of c t notes) (ap (nat_eq ticket) it ∙ nat_self ticket))
  away_numbers c t (inl is) (inr ne) =
      ap (λ d. number_at new d t) is ∙ number_there old new key.client ticket number b t ne
      ∙ h.number_is key.client t ∙ ap (λ d. ask_of d t notes) (sym is)
      ∙ sym (away_passes c t (right_false (nat_eq key.client c) (nat_eq ticket t) (nat_other ticket t (λ e. ne (sym e)))))
  away_numbers c t (inr ne) w =
      number_away old new key.client ticket number b c t ne ∙ h.number_is c t
      ∙ sym (away_passes c t (ap (λ x. x && nat_eq ticket t) (nat_other key.client c (λ e. ne (sym e)))))

  away_counts : (c : ℕ) (r : Row) → slice_get new c ≡ Some r → ((c ≡ key.client) ⊎ (c ≡ key.client → ⊥))
      → length r.numbers.items ≡ tickets_of c (away_note ∷ notes)
  away_counts c r at (inl is) =
      let same : b.after ≡ r = let e : Some b.after ≡ Some r = sym b.here ∙ ap (slice_get new) (sym is) ∙ at in cc in
      ap (λ (q : Row). length q.numbers.items) (sym same) ∙ b.goes.many
      ∙ ap (with_ticket ticket) (h.counted key.client b.before b.was ∙ ap (λ d. tickets_of d notes) (sym is))
      ∙ sym (ap (λ x. if x then with_ticket ticket (tickets_of c notes) else tickets_of c notes) (ap (nat_eq key.client) is ∙ nat_self key.client))
  away_counts c r at (inr ne) = h.counted c r (sym (b.others c ne) ∙ at)
      ∙ sym (ap (λ x. if x then with_ticket ticket (tickets_of c notes) else tickets_of c notes) (nat_other key.client c (λ e. ne (sym e))))

  away_places : (c : ℕ) (r : Row) → slice_get new c ≡ Some r → ((c ≡ key.client) ⊎ (c ≡ key.client → ⊥)) → ArePlaces (length new) (places_of r)
  away_places c r at (inl is) =
      let same : b.after ≡ r = let e : Some b.after ≡ Some r = sym b.here ∙ ap (slice_get new) (sym is) ∙ at in cc in
      let pages : b.before.pages ≡ r.pages = sym b.goes.pages ∙ ap (λ (q : Row). q.pages) same in
      subst (λ n. ArePlaces n (places_of r)) (sym b.many)
      (subst (λ (v : Vec (Vec Cell)). ArePlaces (length old) (map cells_of v.items)) pages (h.places key.client b.before b.was))
  away_places c r at (inr ne) = subst (λ n. ArePlaces n (places_of r)) (sym b.many) (h.places c r (sym (b.others c ne) ∙ at))

  pub kept_away : IsKept new copies (away_note ∷ notes)
  kept_away = record {
    newest_is = λ q lq. away_newests q lq;
    number_is = λ c t. away_numbers c t (decide_number c key.client) (decide_number t ticket);
    counted = λ c r at. away_counts c r at (decide_number c key.client);
    places = λ c r at. away_places c r at (decide_number c key.client);
    sent = λ q c lq at. h.sent q c lq (sym (cells_same old new key.client ticket number b q) ∙ at);
    before = h.before;
    placed = λ n c at. let p = h.placed n c at in (p.0, cells_same old new key.client ticket number b (key_view c.transaction) ∙ p.1);
  }

-- a cell leaves the numbers of its row and their room as they were
pub numbers_kept : (old mid : List Row) (client server invoke_id ticket : ℕ) (cell : Cell) → IsWithRow old client (IsWithCell server invoke_id cell) mid
    → (r : Row) × (slice_get old client ≡ Some r) × (length r.numbers.items + 1 ≤ vec_capacity r.numbers) × (ticket ≤ length r.numbers.items)
    → (r : Row) × (slice_get mid client ≡ Some r) × (length r.numbers.items + 1 ≤ vec_capacity r.numbers) × (ticket ≤ length r.numbers.items)
numbers_kept old mid client server invoke_id ticket cell h room =
    let same : room.0 ≡ h.before = let e : Some room.0 ≡ Some h.before = sym room.1 ∙ h.was in cc in (
      h.after,
      h.here,
      subst (λ v. length v.items + 1 ≤ vec_capacity v) (sym h.goes.numbers)
          (subst (λ (r : Row). length r.numbers.items + 1 ≤ vec_capacity r.numbers) same room.2),
      subst (λ v. ticket ≤ length v.items) (sym h.goes.numbers) (subst (λ (r : Row). ticket ≤ length r.numbers.items) same room.3),
    )

-- The number of a ticket is set, or comes after the others.

pub number_set : (old new : Row) (ticket number : ℕ) → new.pages ≡ old.pages → new.numbers.items ≡ slice_set old.numbers.items ticket number
    → ticket < length old.numbers.items → IsWithNumber ticket number old new
number_set old new ticket number pages numbers within = record {
  pages = pages;
  here = ap (λ l. slice_get l ticket) numbers ∙ get_set old.numbers.items ticket number within;
  others = λ t ne. ap (λ l. slice_get l t) numbers ∙ get_set_other old.numbers.items ticket t number ne;
  many = ap (λ l. length l) numbers ∙ length-set old.numbers.items ticket number
      ∙ sym (ap (λ b. if b then length old.numbers.items else suc ticket) below);
}
  where
    below : nat_lt ticket (length old.numbers.items) ≡ true
    below = grind (arith, nat_tests)

pub number_pushed : (old new : Row) (ticket number : ℕ) → new.pages ≡ old.pages → new.numbers.items ≡ old.numbers.items ++ number ∷ []
    → ticket ≡ length old.numbers.items → IsWithNumber ticket number old new
number_pushed old new ticket number pages numbers last = record {
  pages = pages;
  here = ap (slice_get new.numbers.items) last ∙ ap (λ l. slice_get l (length old.numbers.items)) numbers ∙ get_push old.numbers.items number;
  others = λ t ne. ap (λ l. slice_get l t) numbers ∙ get_push_other old.numbers.items number t (λ e. ne (e ∙ sym last));
  many = ap (λ l. length l) numbers ∙ length-append old.numbers.items (number ∷ []) ∙ one_more
      ∙ sym (ap (λ b. if b then length old.numbers.items else suc ticket) beyond);
}
  where
    beyond : nat_lt ticket (length old.numbers.items) ≡ false
    beyond = grind (arith, nat_tests)

    one_more : length old.numbers.items + 1 ≡ suc ticket
    one_more = omega arith

pub notes_push : (notes : List code.Note) (n : code.Note) → notes_view (notes ++ n ∷ []) ≡ note_view n ∷ notes_view notes
notes_push notes n = ap reverse (map-append note_view notes (n ∷ [])) ∙ reverse-append (map note_view notes) (note_view n ∷ [])

pub notes_many : (notes : List code.Note) → length notes ≡ length (notes_view notes)
notes_many notes = sym (length-reverse (map note_view notes) ∙ length-map notes note_view)

-- the notes in their order
pub notes_mapped : (xs ys : List code.Note) → notes_view xs ≡ notes_view ys → map note_view xs ≡ map note_view ys
notes_mapped xs ys e = sym (reverse-reverse (map note_view xs)) ∙ ap reverse e ∙ reverse-reverse (map note_view ys)

-- Whose ask a note is of.

abbrev pub asked_away : Option Note → Bool
asked_away None = false
asked_away (Some n) = is_some n.away

away_in : (number : ℕ) (notes : List Note) → is_away number notes ≡ asked_away (slice_get (reverse notes) number)
away_in number [] = refl
away_in number (n ∷ notes) = go (decide_number number (length notes)) (away_in number notes)
  where
    turned : reverse (n ∷ notes) ≡ reverse notes ++ n ∷ []
    turned = reverse-append (n ∷ []) notes

    many : length (reverse notes) ≡ length notes
    many = length-reverse notes

    go : ((number ≡ length notes) ⊎ (number ≡ length notes → ⊥)) → is_away number notes ≡ asked_away (slice_get (reverse notes) number)
        → is_away number (n ∷ notes) ≡ asked_away (slice_get (reverse (n ∷ notes)) number)
    go (inl is) rest =
        ap (λ x. if x then is_some n.away else is_away number notes) (ap (λ k. nat_eq k (length notes)) is ∙ nat_self (length notes))
        ∙ sym (ap (λ l. asked_away (slice_get l number)) turned ∙ ap (λ k. asked_away (slice_get (reverse notes ++ n ∷ []) k)) (is ∙ sym many)
        ∙ ap asked_away (get_push (reverse notes) n))
    go (inr ne) rest =
        ap (λ x. if x then is_some n.away else is_away number notes) (nat_other number (length notes) ne) ∙ rest
        ∙ sym (ap (λ l. asked_away (slice_get l number)) turned ∙ ap asked_away (get_push_other (reverse notes) n number (λ e. ne (e ∙ many))))

pub away_at : (notes : List code.Note) (number : ℕ) → is_away number (notes_view notes) ≡ asked_away (option_map note_view (slice_get notes number))
away_at notes number =
    away_in number (notes_view notes) ∙ ap (λ l. asked_away (slice_get l number)) (reverse-reverse (map note_view notes))
    ∙ ap asked_away (slice_get-map note_view notes number)
