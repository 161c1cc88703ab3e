-- How many octets a reply table keeps after each call.
use Rattle.std.proofs.Common.{◌≡◌, ℕ, ◌+◌, ◌≤◌, Bool, true, false, ◌&&◌, List, [], ◌∷◌, ◌++◌, filter, max, map, Option, Some, None}
use Rattle.std.proofs.Common.{if◌then◌else◌, refl, ap, sym, ◌∙◌, arith}
use Rattle.bac_slots.specs.Slots.{IsDistinct, value_at, with_value, without}
use Rattle.bac_protocol.specs.Context.{Settings}
use Rattle.bac_protocol.specs.Server.{ServerTransaction, is_live, is_none_live, live_entry, server_ticks}
use Rattle.bac_transaction.specs.Ends.{ServerEnd, ServerSlot, context_of, entry_or, is_slot_live, put_entry, responder_tick, server_ticked, set_or_put}
use Rattle.bac_transaction.specs.Keys.{PeerKey, same_key}
use Rattle.bac_transaction.proofs.Entries.{set_here}
use Rattle.bac_responder.specs.Kept.{entry_octets, kept_octets, octets_of}
use Rattle.bac_responder.proofs.Growth.{Fits, live_within, none_kept, tick_octets}

abbrev Slots : Type 0
Slots = List ServerSlot

-- One slot more, less or another.

pub put_octets : (slots : Slots) (x : ServerSlot) → kept_octets (slots ++ x ∷ []) ≡ kept_octets slots + entry_octets x.value
put_octets [] x = omega arith
put_octets (s ∷ slots) x = let again = put_octets slots x in omega (arith, again)

pub set_octets : (key : PeerKey) (v : ServerTransaction) (slots : Slots)
    → kept_octets (with_value same_key key v slots) + octets_of (value_at same_key key slots) ≤ kept_octets slots + entry_octets v
set_octets key v [] = omega arith
set_octets key v (s ∷ slots) = go (same_key s.key key) (set_octets key v slots)
  where
    go : (b : Bool) → kept_octets (with_value same_key key v slots) + octets_of (value_at same_key key slots) ≤ kept_octets slots + entry_octets v
        → kept_octets (if b then record s { value = v } ∷ slots else s ∷ with_value same_key key v slots)
        + octets_of (if b then Some s.value else value_at same_key key slots) ≤ entry_octets s.value + kept_octets slots + entry_octets v
    go true again = omega arith
    go false again = omega (arith, again)

pub without_octets : (key : PeerKey) (slots : Slots) → kept_octets (without same_key key slots) + octets_of (value_at same_key key slots) ≡ kept_octets slots
without_octets key [] = omega arith
without_octets key (s ∷ slots) = go (same_key s.key key) (without_octets key slots)
  where
    go : (b : Bool) → kept_octets (without same_key key slots) + octets_of (value_at same_key key slots) ≡ kept_octets slots
        → kept_octets (if b then slots else s ∷ without same_key key slots) + octets_of (if b then Some s.value else value_at same_key key slots)
        ≡ entry_octets s.value + kept_octets slots
    go true again = omega arith
    go false again = omega (arith, again)

-- those that are live
abbrev pub live_slots : ℕ → Slots → Slots
live_slots now slots = filter (is_slot_live now) slots

pub live_octets : (now : ℕ) (slots : Slots) → kept_octets (live_slots now slots) ≤ kept_octets slots
live_octets now [] = omega arith
live_octets now (s ∷ slots) = go (is_live now s.value) (live_octets now slots)
  where
    go : (b : Bool) → kept_octets (live_slots now slots) ≤ kept_octets slots
        → kept_octets (if b then s ∷ live_slots now slots else live_slots now slots) ≤ entry_octets s.value + kept_octets slots
    go true again = omega (arith, again)
    go false again = omega (arith, again)

-- the dead entry of a key leaves with the others
pub gone_octets : (now : ℕ) (key : PeerKey) (slots : Slots) → is_none_live now (value_at same_key key slots) ≡ true
    → kept_octets (live_slots now slots) + octets_of (value_at same_key key slots) ≤ kept_octets slots
gone_octets now key [] none = omega arith
gone_octets now key (s ∷ slots) none = go (same_key s.key key) (is_live now s.value) refl none (gone_octets now key slots) (live_octets now slots)
  where
    go : (k b : Bool) → is_live now s.value ≡ b → is_none_live now (if k then Some s.value else value_at same_key key slots) ≡ true
        → (is_none_live now (value_at same_key key slots) ≡ true
        → kept_octets (live_slots now slots) + octets_of (value_at same_key key slots) ≤ kept_octets slots)
        → kept_octets (live_slots now slots) ≤ kept_octets slots
        → kept_octets (if b then s ∷ live_slots now slots else live_slots now slots) + octets_of (if k then Some s.value else value_at same_key key slots)
        ≤ entry_octets s.value + kept_octets slots
    go true true is none again all = absurd (alive (sym (ap (λ (x : Bool). if x then false else true) is) ∙ none))
      where
        alive : false ≡ true → ⊥
        alive e = cc
    go true false is none again all = omega (arith, all)
    go false true is none again all = let less = again none in omega (arith, less)
    go false false is none again all = let less = again none in omega (arith, less)

-- An entry is put.

module _ (now : ℕ) (key : PeerKey) (slots : Slots) where
  abbrev old : Option ServerTransaction
  old = value_at same_key key slots

  pub put_grows : (n : ℕ) (o : Option ServerTransaction) → Fits now (octets_of (live_entry now old) + n) o
      → kept_octets (put_entry now key o slots) ≤ kept_octets slots + n
  put_grows n None fits = omega arith
  put_grows n (Some d) fits = go (is_live now d) refl
    where
      put : (b : Bool) → is_none_live now old ≡ b → is_live now d ≡ true → kept_octets (set_or_put now key d slots b) ≤ kept_octets slots + n
      put true none live =
          let sum = put_octets (live_slots now slots) (record { key = key; begin = d.begin; value = d }) in
          let less = live_octets now slots in
          let no = none_kept now old none in
          let new = fits live in
          omega (arith, sum, less, no, new)
      put false some live =
          let sum = set_octets key d slots in
          let less = live_within now old in
          let new = fits live in
          omega (arith, sum, less, new)

      go : (b : Bool) → is_live now d ≡ b
          → kept_octets (if b then set_or_put now key d slots (is_none_live now old) else slots) ≤ kept_octets slots + n
      go true live = put (is_none_live now old) refl live
      go false dead = omega arith

  -- where none is live, it takes the place of the dead ones
  pub put_begins : (n : ℕ) (o : Option ServerTransaction) → is_none_live now old ≡ true → Fits now (octets_of (live_entry now old) + n) o
      → kept_octets (put_entry now key o slots) ≤ max (kept_octets slots) (kept_octets (live_slots now slots) + n)
  put_begins n None none fits = omega arith
  put_begins n (Some d) none fits = go (is_live now d) refl
    where
      put : (b : Bool) → is_none_live now old ≡ b → is_live now d ≡ true
          → kept_octets (set_or_put now key d slots b) ≤ max (kept_octets slots) (kept_octets (live_slots now slots) + n)
      put true is live =
          let sum = put_octets (live_slots now slots) (record { key = key; begin = d.begin; value = d }) in
          let no = none_kept now old none in
          let new = fits live in
          omega (arith, sum, no, new)
      put false is live = absurd (other (sym none ∙ is))
        where
          other : true ≡ false → ⊥
          other e = cc

      go : (b : Bool) → is_live now d ≡ b
          → kept_octets (if b then set_or_put now key d slots (is_none_live now old) else slots) ≤ max (kept_octets slots) (kept_octets (live_slots now slots) + n)
      go true live = put (is_none_live now old) refl live
      go false dead = omega arith

  -- as much more, or less, as the entry of the key keeps
  pub put_moves : IsDistinct same_key slots → (o : Option ServerTransaction)
      → kept_octets (put_entry now key o slots) + octets_of old ≤ kept_octets slots + octets_of (value_at same_key key (put_entry now key o slots))
  put_moves distinct None = omega arith
  put_moves distinct (Some d) = go (is_live now d)
    where
      put : (b : Bool) → is_none_live now old ≡ b → kept_octets (set_or_put now key d slots b) + octets_of old
          ≤ kept_octets slots + octets_of (value_at same_key key (set_or_put now key d slots b))
      put true none =
          let sum = put_octets (live_slots now slots) (record { key = key; begin = d.begin; value = d }) in
          let less = gone_octets now key slots none in
          let new = ap octets_of (set_here now key slots distinct d true none) in
          omega (arith, sum, less, new)
      put false some =
          let sum = set_octets key d slots in
          let new = ap octets_of (set_here now key slots distinct d false some) in
          omega (arith, sum, new)

      go : (b : Bool) → kept_octets (if b then set_or_put now key d slots (is_none_live now old) else slots) + octets_of old
          ≤ kept_octets slots + octets_of (value_at same_key key (if b then set_or_put now key d slots (is_none_live now old) else slots))
      go true = put (is_none_live now old) refl
      go false = omega arith

-- A tick.

entry_ticks : (e : ServerTransaction) (o : Option ServerTransaction) → octets_of o ≤ entry_octets e → entry_octets (entry_or e o) ≤ entry_octets e
entry_ticks e None h = omega arith
entry_ticks e (Some d) h = h

pub ticked_octets : (c : Settings) (now : ℕ) (slots : Slots) → kept_octets (map (server_ticked c now) slots) ≤ kept_octets slots
ticked_octets c now [] = omega arith
ticked_octets c now (s ∷ slots) =
    let again = ticked_octets c now slots in
    let less = tick_octets (context_of c now s.key) s.value in
    let here = entry_ticks s.value (server_ticks (context_of c now s.key) (Some s.value)).entry less in
    omega (arith, again, here)

-- a tick of the end keeps no more
pub tick_keeps : (c : Settings) (now : ℕ) (e : ServerEnd) → kept_octets (responder_tick c now e).end.slots ≤ kept_octets e.slots
tick_keeps c now e =
    let live = live_octets now (map (server_ticked c now) e.slots) in
    let less = ticked_octets c now e.slots in
    omega (arith, live, less)
