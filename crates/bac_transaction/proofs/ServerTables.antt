-- What each call of a server's end keeps of its table.
use Rattle.std.proofs.Common.{◌≡◌, ℕ, ◌<◌, ◌≤◌, Bool, true, false, ◌&&◌, not, List, [], ◌∷◌, ◌++◌, filter, count_by, length, Option, Some, None}
use Rattle.std.proofs.Common.{if◌then◌else◌, nat_eq, nat_lt, refl, ap, sym, ◌∙◌, arith, length-append}
use Rattle.std.proofs.lemmas.List.{length-map}
use Rattle.std.proofs.lemmas.Bool.Decides.{nat_tests}
use Rattle.std.proofs.lemmas.List.Sums.{count_by-le-length, length-filter}
use Rattle.bac_apdu.specs.Apdu.{Apdu}
use Rattle.bac_apdu.specs.Apdu.Apdu.{ConfirmedRequest}
use Rattle.bac_slots.specs.Slots.{value_at, keep, IsDistinct}
use Rattle.bac_slots.proofs.Values.{set_length, set_others, put_others}
use Rattle.bac_protocol.specs.Context.{Settings, Context}
use Rattle.bac_protocol.specs.Service.{OTHER}
use Rattle.bac_protocol.specs.Server as server
use Rattle.bac_protocol.specs.Server.{ServerTransaction, Reaction, Service, is_live, is_none_live, live_on_apdu, idle_on_apdu, server_on_apdu, server_abort, server_ticks}
use Rattle.bac_transaction.specs.Keys.{PeerKey, same_key}
use Rattle.bac_transaction.specs.Ends.{ServerEnd, ServerSlot, is_slot_live, is_free, set_or_put, put_entry, waits_to_serve}
use Rattle.bac_transaction.specs.Ends.{context_of, key_of, entry_or}
use Rattle.bac_transaction.specs.Tables.{ServerStaysOrderly, ServerOthersStay, AreLive, TicksLeaveLive, comes_new, server_ticked_at}
use Rattle.bac_transaction.proofs.KeyedSlots.{keys_equivalent, passing, passing_value, passing_distinct, changed, changed_value, distinct_changed, value_changed}
use Rattle.bac_transaction.proofs.Entries.{set_here, entry_distinct}

dead_of : (b : Bool) → (if b then false else true) ≡ true → b ≡ false
dead_of true e = absurd cc
dead_of false e = refl

live_of : (b : Bool) → (if b then false else true) ≡ false → b ≡ true
live_of true e = refl
live_of false e = absurd cc

-- where no entry is live, the APDU is one for an idle machine
pub idle_is : (c : Context) (service : Service) (o : Option ServerTransaction) (free : Bool) (a : Apdu) → is_none_live c.now o ≡ true
    → server_on_apdu c service o free a ≡ idle_on_apdu c service o free a
idle_is c service None free a dead = refl
idle_is c service (Some d) free a dead =
    ap (λ x. if x then live_on_apdu c service d d.state a else idle_on_apdu c service (Some d) free a) (dead_of (is_live c.now d) dead)

-- a live entry does not look for a free slot
pub live_anyway : (c : Context) (service : Service) (o : Option ServerTransaction) (free other : Bool) (a : Apdu) → is_none_live c.now o ≡ false
    → server_on_apdu c service o free a ≡ server_on_apdu c service o other a
live_anyway c service None free other a live = absurd cc
live_anyway c service (Some d) free other a live =
    let alive = live_of (is_live c.now d) live in
    ap (λ x. if x then live_on_apdu c service d d.state a else idle_on_apdu c service (Some d) free a) alive
    ∙ sym (ap (λ x. if x then live_on_apdu c service d d.state a else idle_on_apdu c service (Some d) other a) alive)

-- Where no slot is free, no entry begins.

still_idle : (c : Context) (service : Service) (o : Option ServerTransaction) (a : Apdu) → (idle_on_apdu c service o false a).entry ≡ o
still_idle c service o (ConfirmedRequest limits i None choice octets) = refl
still_idle c service o (ConfirmedRequest limits i (Some g) choice octets) = go (nat_eq g.number 0)
  where
    go : (b : Bool) → (if not b then server.rests o [] else server.rests o (server_abort c OTHER ∷ [])).entry ≡ o
    go true = refl
    go false = refl
still_idle c service o _ = refl

still_none : (c : Context) (service : Service) (o : Option ServerTransaction) (a : Apdu) → is_none_live c.now o ≡ true
    → (server_on_apdu c service o false a).entry ≡ o
still_none c service o a dead = ap (λ (r : Reaction). r.entry) (idle_is c service o false a dead) ∙ still_idle c service o a

-- an entry that is not live stays where it is
pub dead_stays : (now : ℕ) (key : PeerKey) (o : Option ServerTransaction) (slots : List ServerSlot) → is_none_live now o ≡ true → put_entry now key o slots ≡ slots
dead_stays now key None slots dead = refl
dead_stays now key (Some d) slots dead =
    ap (λ b. if b then set_or_put now key d slots (is_none_live now (value_at same_key key slots)) else slots) (dead_of (is_live now d) dead)

-- The table.

one_longer : (now : ℕ) (slots : List ServerSlot) (x : ServerSlot) (capacity : ℕ) → nat_lt (count_by (is_slot_live now) slots) capacity ≡ true
    → length (filter (is_slot_live now) slots ++ x ∷ []) ≤ capacity
one_longer now slots x capacity free =
    let lt : count_by (is_slot_live now) slots < capacity = grind (arith, nat_tests, free) in
    let whole = length-append (filter (is_slot_live now) slots) (x ∷ []) in
    let few = length-filter (is_slot_live now) slots in
    omega (arith, whole, few, lt)

module _ (now : ℕ) (key : PeerKey) (slots : List ServerSlot) (capacity : ℕ) where
  abbrev old : Option ServerTransaction
  old = value_at same_key key slots

  -- the table has no more slots, if an entry begins only where a slot is free
  entry_within : length slots ≤ capacity → (o : Option ServerTransaction)
      → ((d : ServerTransaction) → o ≡ Some d → is_live now d ≡ true → is_none_live now old ≡ true → nat_lt (count_by (is_slot_live now) slots) capacity ≡ true)
      → length (put_entry now key o slots) ≤ capacity
  entry_within within None h = within
  entry_within within (Some d) h = go (is_live now d) refl
    where
      put : (b : Bool) → is_none_live now old ≡ b → is_live now d ≡ true → length (set_or_put now key d slots b) ≤ capacity
      put true dead live = one_longer now slots _ capacity (h d refl live dead)
      put false dead live = let same = set_length PeerKey ServerTransaction same_key keys_equivalent key d slots in omega (arith, same, within)

      go : (b : Bool) → is_live now d ≡ b → length (if b then set_or_put now key d slots (is_none_live now old) else slots) ≤ capacity
      go true live = put (is_none_live now old) refl live
      go false live = within

  -- what is found of another key, where a new entry comes or not
  abbrev left : (comes : Bool) → Option ServerTransaction → Option ServerTransaction
  left comes o = if comes then keep (is_live now) o else o

  -- where the slots are as they were, no new entry comes
  none_comes : (o : Option ServerTransaction) → o ≡ left (comes_new now key slots slots) o
  none_comes o = go (is_none_live now old)
    where
      go : (b : Bool) → o ≡ left (b && not b) o
      go true = refl
      go false = refl

  entry_others : (q : PeerKey) → IsDistinct same_key slots → same_key key q ≡ false → (o : Option ServerTransaction)
      → value_at same_key q (put_entry now key o slots) ≡ left (comes_new now key slots (put_entry now key o slots)) (value_at same_key q slots)
  entry_others q distinct ne None = none_comes (value_at same_key q slots)
  entry_others q distinct ne (Some d) = go (is_live now d) refl
    where
      put : (b : Bool) → is_none_live now old ≡ b → is_live now d ≡ true
          → value_at same_key q (set_or_put now key d slots b)
          ≡ left (b && not (is_none_live now (value_at same_key key (set_or_put now key d slots b)))) (value_at same_key q slots)
      put true dead live =
          let comes : is_none_live now (value_at same_key key (set_or_put now key d slots true)) ≡ false =
          ap (is_none_live now) (set_here now key slots distinct d true dead) ∙ ap (λ x. if x then false else true) live in
          put_others PeerKey ServerTransaction same_key keys_equivalent _ q (passing ServerTransaction (is_live now) slots) ne ∙ passing_value ServerTransaction (is_live now) q slots distinct
          ∙ sym (ap (λ x. left (true && not x) (value_at same_key q slots)) comes)
      put false dead live = set_others PeerKey ServerTransaction same_key keys_equivalent key q d slots ne

      go : (b : Bool) → is_live now d ≡ b
          → value_at same_key q (if b then set_or_put now key d slots (is_none_live now old) else slots)
          ≡ left (comes_new now key slots (if b then set_or_put now key d slots (is_none_live now old) else slots)) (value_at same_key q slots)
      go true live = put (is_none_live now old) refl live
      go false live = none_comes (value_at same_key q slots)

begins_free : (c : Context) (service : Service) (o : Option ServerTransaction) (free : Bool) (a : Apdu) (d : ServerTransaction) → (server_on_apdu c service o free a).entry ≡ Some d
    → is_live c.now d ≡ true → is_none_live c.now o ≡ true → free ≡ true
begins_free c service o true a d is live dead = refl
begins_free c service o false a d is live dead =
    let same : o ≡ Some d = sym (still_none c service o a dead) ∙ is in
    let gone = dead_of (is_live c.now d) (ap (is_none_live c.now) (sym same) ∙ dead) in
    absurd cc

-- where an entry may begin, a slot has no live one
pub has_space : (now : ℕ) (e : ServerEnd) → is_free now e ≡ true → nat_lt (count_by (is_slot_live now) e.slots) e.capacity ≡ true
has_space now e f = go (nat_lt (count_by (is_slot_live now) e.slots) e.capacity) (waits_to_serve now e) f
  where
    go : (space waits : Bool) → space && not waits ≡ true → space ≡ true
    go true waits f = refl
    go false waits f = f

-- an entry's tick, as a change of what is found at its key
abbrev ticked : Settings → ℕ → PeerKey → ServerTransaction → ServerTransaction
ticked c now q x = entry_or x (server_ticks (context_of c now q) (Some x)).entry

ticked_is : (c : Settings) (now : ℕ) (q : PeerKey) (o : Option ServerTransaction) → changed_value ServerTransaction (ticked c now) q o ≡ server_ticked_at c now q o
ticked_is c now q None = refl
ticked_is c now q (Some x) = refl

pub server_stays_orderly : ServerStaysOrderly
server_stays_orderly = record {
  hears = λ c now service peer a e h.
      let key = key_of peer a in
      let context = context_of c now key in
      let o = value_at same_key key e.slots in
      let v = server_on_apdu context service o (is_free now e) a in
      record {
        distinct = entry_distinct now key e.slots h.distinct v.entry;
        within = entry_within now key e.slots e.capacity h.within v.entry (λ d is live dead. has_space now e (begins_free context service o (is_free now e) a d is live dead));
      };
  ticks = λ c now e h.
      let all = changed ServerTransaction (ticked c now) e.slots in
      record {
        distinct = passing_distinct ServerTransaction (is_live now) all (distinct_changed ServerTransaction (ticked c now) e.slots h.distinct);
        within =
            let same = length-map e.slots (λ (s : ServerSlot). record s { value = ticked c now s.key s.value }) in
            let few = length-filter (is_slot_live now) all in
            let least = count_by-le-length (is_slot_live now) all in
            omega (arith, same, few, least, h.within);
      };
}

pub server_others_stay : ServerOthersStay
server_others_stay = record {
  hears = λ c now service peer a e q distinct ne.
      entry_others now (key_of peer a) e.slots e.capacity q distinct ne
      (server_on_apdu (context_of c now (key_of peer a)) service (value_at same_key (key_of peer a) e.slots) (is_free now e) a).entry;
  ticks = λ c now e q distinct.
      passing_value ServerTransaction (is_live now) q (changed ServerTransaction (ticked c now) e.slots) (distinct_changed ServerTransaction (ticked c now) e.slots distinct)
      ∙ ap (keep (is_live now)) (value_changed ServerTransaction (ticked c now) q e.slots ∙ ticked_is c now q (value_at same_key q e.slots));
}

-- Slots that pass are live.

passing_live : (now : ℕ) (slots : List ServerSlot) → AreLive now (filter (is_slot_live now) slots)
passing_live now [] = tt
passing_live now (s ∷ slots) = go (is_live now s.value) refl (passing_live now slots)
  where
    go : (b : Bool) → is_live now s.value ≡ b → AreLive now (filter (is_slot_live now) slots)
        → AreLive now (if b then s ∷ filter (is_slot_live now) slots else filter (is_slot_live now) slots)
    go true is again = (is, again)
    go false is again = again

pub ticks_leave_live : TicksLeaveLive
ticks_leave_live c now e = passing_live now (changed ServerTransaction (ticked c now) e.slots)
