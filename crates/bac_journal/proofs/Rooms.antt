-- Room for a note, as contracts see it.
use Rattle.std.proofs.Common.{◌≡◌, ℕ, suc, ◌+◌, ◌-◌, ◌≤◌, ◌⊎◌, List, [], ◌∷◌, ◌++◌, length, map}
use Rattle.std.proofs.Common.{take, drop, Option, Some, None, slice_get, refl, sym, ap, inl, inr, ◌∙◌, arith}
use Rattle.std.specs.Prelude.{vec_capacity, Result, Ok, Err, IsOk, OnOk}
use Rattle.std.specs.Option.{option_map}
use Rattle.std.proofs.lemmas.Option.{slice_get-map}
use Rattle.bac_world.proofs.Steps.{decide_number}
use Rattle.bac_journal.specs.declared.asks.Cell.{Cell}
use Rattle.bac_journal.specs.declared.asks.Row.{Row}
use Rattle.bac_journal.specs.Index.{IsOpenTo, IsWithCell, IsWithRow}
use Rattle.bac_journal.specs.Journals.{ClientRoom, HasNoteRoom, HasStrangerRoom, JournalView, room_of}

pub room_seen : (rows : List Row) (client server : ℕ) → (h : IsOpenTo rows client server)
    → (slice_get (map room_of rows) client ≡ Some (room_of h.0)) × (1 ≤ (room_of h.0).tickets)
room_seen rows client server h = (slice_get-map room_of rows client ∙ ap (option_map room_of) h.1, (let room = (h.2).ticket in omega (arith, room)))

room_there : (rows : List Row) (client server : ℕ) (n : ClientRoom) → slice_get (map room_of rows) client ≡ Some n → 1 ≤ n.tickets
    → slice_get n.places server ≡ Some 256 → IsOpenTo rows client server
room_there rows client server n at some place = go (slice_get rows client) refl (sym (slice_get-map room_of rows client) ∙ at)
  where
    go : (o : Option Row) → slice_get rows client ≡ o → option_map room_of o ≡ Some n → IsOpenTo rows client server
    go None e f = absurd cc
    go (Some r) e f =
        let is : room_of r ≡ n = cc in
        let free : (room_of r).tickets ≡ n.tickets = ap (λ (c : ClientRoom). c.tickets) is in (
          r,
          e,
          record {
            ticket = omega (arith, free, some);
            place = ap (λ (c : ClientRoom). slice_get c.places server) is ∙ place;
          },
        )

same_members : {A : Type 0} (xs ys : List A) → ((j : ℕ) → slice_get xs j ≡ slice_get ys j) → xs ≡ ys
same_members [] [] h = refl
same_members [] (y ∷ ys) h = absurd (let e : None ≡ Some y = h 0 in cc)
same_members (x ∷ xs) [] h = absurd (let e : Some x ≡ None = h 0 in cc)
same_members (x ∷ xs) (y ∷ ys) h =
    let here : x ≡ y = let e : Some x ≡ Some y = h 0 in cc in
    let rest = same_members xs ys (λ j. h (suc j)) in
    λ i. here i ∷ rest i

-- a cell that is set leaves the room for tickets, and the places, as they were
pub cell_leaves_room : (old new : List Row) (client server invoke_id : ℕ) (cell : Cell) → IsWithRow old client (IsWithCell server invoke_id cell) new
    → map room_of new ≡ map room_of old
cell_leaves_room old new client server invoke_id cell h = same_members (map room_of new) (map room_of old)
    (λ j. slice_get-map room_of new j ∙ at j (decide_number j client) ∙ sym (slice_get-map room_of old j))
  where
    rooms : room_of h.after ≡ room_of h.before
    rooms = λ i. record {
      tickets = vec_capacity (h.goes.numbers i) - length (h.goes.numbers i).items;
      places = h.goes.places i;
    }

    at : (j : ℕ) → ((j ≡ client) ⊎ (j ≡ client → ⊥)) → option_map room_of (slice_get new j) ≡ option_map room_of (slice_get old j)
    at j (inl is) =
        ap (λ d. option_map room_of (slice_get new d)) is ∙ ap (option_map room_of) h.here ∙ ap Some rooms
        ∙ sym (ap (option_map room_of) h.was) ∙ sym (ap (λ d. option_map room_of (slice_get old d)) is)
    at j (inr ne) = ap (option_map room_of) (h.others j ne)

pub open_there : (rows : List Row) (client server : ℕ) (j : JournalView) → j.note_room.clients ≡ map room_of rows → HasNoteRoom j client server
    → IsOpenTo rows client server
open_there rows client server j is h = room_there rows client server h.room (ap (λ l. slice_get l client) (sym is) ∙ h.at) h.ticket h.place

-- there is room for the client's next ticket
abbrev pub HasTicketRoom : List Row → (client : ℕ) → Type 0
HasTicketRoom rows client = (r : Row) × (slice_get rows client ≡ Some r) × (length r.numbers.items + 1 ≤ vec_capacity r.numbers)

pub ticket_seen : (rows : List Row) (client : ℕ) → (h : HasTicketRoom rows client)
    → (slice_get (map room_of rows) client ≡ Some (room_of h.0)) × (1 ≤ (room_of h.0).tickets)
ticket_seen rows client h = (slice_get-map room_of rows client ∙ ap (option_map room_of) h.1, (let room = h.2 in omega (arith, room)))

pub ticket_there : (rows : List Row) (client : ℕ) (j : JournalView) → j.note_room.clients ≡ map room_of rows → HasStrangerRoom j client
    → HasTicketRoom rows client
ticket_there rows client j is h = go (slice_get rows client) refl (sym (slice_get-map room_of rows client) ∙ ap (λ l. slice_get l client) (sym is) ∙ h.at)
  where
    go : (o : Option Row) → slice_get rows client ≡ o → option_map room_of o ≡ Some h.room → HasTicketRoom rows client
    go None e f = absurd cc
    go (Some r) e f =
        let same : room_of r ≡ h.room = cc in
        let free : (room_of r).tickets ≡ h.room.tickets = ap (λ (c : ClientRoom). c.tickets) same in
        let some = h.ticket in
        (r, e, omega (arith, free, some))

-- a list that was written over from its first element on
pub refilled : {A : Type 0} (n : ℕ) (ws xs : List A) → length ws ≡ length xs → n ≡ length xs → take n (ws ++ drop (length ws) xs) ≡ ws
refilled n [] [] same many = ap (λ k. take k []) many
refilled n [] (x ∷ xs) same many = absurd (omega (arith, same))
refilled n (w ∷ ws) [] same many = absurd (omega (arith, same))
refilled n (w ∷ ws) (x ∷ xs) same many =
    ap (λ k. take k (w ∷ (ws ++ drop (length ws) xs))) many ∙ ap (λ l. w ∷ l) (refilled (length xs) ws xs (omega (arith, same)) refl)

pub on_ok : {T E P : Type 0} (r : Result T E) → (IsOk r → P) → OnOk r P
on_ok (Ok x) h = h refl
on_ok (Err e) h = tt
