-- What each call of a client's end keeps of its table.
use Rattle.std.proofs.Common.{◌≡◌, ℕ, zero, suc, ◌+◌, ◌-◌, ◌<◌, ◌≤◌, ◌||◌, Bool, true, false, List, [], ◌∷◌, ◌++◌, filter, count_by, length, Option, Some, None}
use Rattle.std.proofs.Common.{if◌then◌else◌, nat_le, refl, ap, sym, subst, ◌∙◌, arith, length-append}
use Rattle.std.specs.Option.{option_or}
use Rattle.std.proofs.lemmas.List.{length-map}
use Rattle.std.proofs.lemmas.Bool.Decides.{nat_tests}
use Rattle.std.proofs.lemmas.List.Sums.{length-filter}
use Rattle.bac_apdu.specs.Apdu.{Apdu, Limits}
use Rattle.bac_npdu.specs.Peers.{PeerView}
use Rattle.bac_slots.specs.Slots.{value_at, keep}
use Rattle.bac_slots.proofs.Values.{set_length, set_others, put_others}
use Rattle.bac_protocol.specs.Context.{Settings}
use Rattle.bac_protocol.specs.Sizes.{Way, RequestFault, request_way_of}
use Rattle.bac_protocol.specs.Sizes.Way.{InOne, InSegments, Refused}
use Rattle.bac_protocol.specs.Service.{Octets, Readable}
use Rattle.bac_protocol.specs.Client.{Ask, client_on_apdu}
use Rattle.bac_transaction.specs.Keys.{PeerKey, same_key}
use Rattle.bac_transaction.specs.Ends.{Client, ClientSlot, ClientEnd, TransactionSlot, Accepted, AskRefusal, AskOutcome, MOST_ASKS}
use Rattle.bac_transaction.specs.Ends.{is_held, is_held_there, is_slot_held, is_id_held, is_id_taken, waits_to_ask, has_no_slot, least_not, least_around, free_id, context_of, key_of, held_ticked, client_after}
use Rattle.bac_transaction.specs.Ends.{requester_on_apdu_at, requester_on_apdu_in_slot, requester_ask, asks_by_way, asks_for, asks_with_id, accepts}
use Rattle.bac_transaction.specs.Ends.TransactionSlot.{Open, Closed}
use Rattle.bac_transaction.specs.Ends.AskOutcome.{Asked}
use Rattle.bac_transaction.specs.Tables.{IsOrderlyClient, ClientStaysOrderly, ClientOthersStay, client_ticked_at}
use Rattle.bac_transaction.specs.Tables.{steps_to, IsLeastFree, TakesLeastFree, TakesLeastFromZero, CanGo, AllTaken, OneFree, RefusesAsks}
use Rattle.bac_transaction.proofs.KeyedSlots.{keys_equivalent, with_distinct, passing, passing_value, passing_distinct, put_distinct}
use Rattle.bac_transaction.proofs.KeyedSlots.{changed_value, distinct_changed, value_changed}

-- The least number that a test refuses.

pub record IsLeastNot (test : ℕ → Bool) (count from id : ℕ) : Type 0 where
  pub least : from ≤ id
  pub most : id < from + count
  pub refused : test id ≡ false
  pub before : (n : ℕ) → from ≤ n → n < id → test n ≡ true

below_first : (test : ℕ → Bool) (from id n : ℕ) → test from ≡ true → ((k : ℕ) → from + 1 ≤ k → k < id → test k ≡ true) → from ≤ n → n < id → test n ≡ true
below_first test from id n t h le lt = go (nat_le (from + 1) n) refl
  where
    go : (b : Bool) → nat_le (from + 1) n ≡ b → test n ≡ true
    go true e = h n (grind (arith, nat_tests, e)) lt
    go false e = let same : from ≡ n = grind (arith, nat_tests, e, le) in ap test (sym same) ∙ t

pub least_not_is : (test : ℕ → Bool) (count from id : ℕ) → least_not test count from ≡ Some id → IsLeastNot test count from id
least_not_is test zero from id e = absurd cc
least_not_is test (suc count) from id e = go (test from) refl e (λ f. least_not_is test count (from + 1) id f)
  where
    go : (b : Bool) → test from ≡ b → (if b then least_not test count (from + 1) else Some from) ≡ Some id
        → (least_not test count (from + 1) ≡ Some id → IsLeastNot test count (from + 1) id) → IsLeastNot test (suc count) from id
    go true t e again =
        let r = again e in
        record {
          least = omega (arith, r.least);
          most = omega (arith, r.most);
          refused = r.refused;
          before = λ n le lt. below_first test from id n t r.before le lt;
        }
    go false t e again =
        let same : from ≡ id = cc in
        record {
          least = omega (arith, same);
          most = omega (arith, same);
          refused = ap test (sym same) ∙ t;
          before = λ n le lt. absurd (omega (arith, same, le, lt));
        }

pub all_pass : (test : ℕ → Bool) (count from : ℕ) → least_not test count from ≡ None → (n : ℕ) → from ≤ n → n < from + count → test n ≡ true
all_pass test zero from e n le lt = absurd (omega (arith, le, lt))
all_pass test (suc count) from e n le lt = go (test from) refl e (λ f k a b. all_pass test count (from + 1) f k a b)
  where
    go : (b : Bool) → test from ≡ b → (if b then least_not test count (from + 1) else Some from) ≡ None
        → (least_not test count (from + 1) ≡ None → (k : ℕ) → from + 1 ≤ k → k < from + 1 + count → test k ≡ true) → test n ≡ true
    go true t e again = below_first test from (from + suc count) n t (λ k a b. again e k a (omega (arith, b))) le lt
    go false t e again = absurd cc

pub none_refused : (test : ℕ → Bool) (count from : ℕ) → ((n : ℕ) → from ≤ n → n < from + count → test n ≡ true) → least_not test count from ≡ None
none_refused test zero from h = refl
none_refused test (suc count) from h =
    ap (λ b. if b then least_not test count (from + 1) else Some from) (h from (omega arith) (omega arith))
    ∙ none_refused test count (from + 1) (λ n a b. h n (omega (arith, a)) (omega (arith, b)))

-- From the first one on and around.

pub record IsLeastAround (test : ℕ → Bool) (first id : ℕ) : Type 0 where
  pub octet : id < 256
  pub refused : test id ≡ false
  pub before : (n : ℕ) → n < 256 → steps_to first n < steps_to first id → test n ≡ true

pub least_around_is : (test : ℕ → Bool) (first id : ℕ) → least_around test first ≡ Some id → IsLeastAround test first id
least_around_is test first id e = go (least_not test (256 - first) first) refl e
  where
    -- the first one is no octet, or none of the octets from it on is free
    below : least_not test (256 - first) first ≡ None → IsLeastNot test 256 0 id → IsLeastAround test first id
    below none r = record { octet = omega (arith, r.most); refused = r.refused; before = before }
      where
        before : (n : ℕ) → n < 256 → steps_to first n < steps_to first id → test n ≡ true
        before n lt less = by (nat_le first n) refl
          where
            by : (b : Bool) → nat_le first n ≡ b → test n ≡ true
            by true le = all_pass test (256 - first) first none n (grind (arith, nat_tests, le)) (grind (arith, nat_tests, le, lt))
            by false gt = r.before n (omega arith) (to (nat_le first id) refl)
              where
                to : (b : Bool) → nat_le first id ≡ b → n < id
                to true le = grind (arith, nat_tests, le, gt)
                to false le = grind (arith, nat_tests, le, gt, less)

    go : (o : Option ℕ) → least_not test (256 - first) first ≡ o → option_or o (least_not test 256 0) ≡ Some id → IsLeastAround test first id
    go None none e = below none (least_not_is test 256 0 id e)
    go (Some found) is e =
        let same : found ≡ id = cc in
        let r = least_not_is test (256 - first) first id (is ∙ ap Some same) in
        record { octet = omega (arith, r.least, r.most); refused = r.refused; before = before r }
      where
        before : IsLeastNot test (256 - first) first id → (n : ℕ) → n < 256 → steps_to first n < steps_to first id → test n ≡ true
        before r n lt less = by (nat_le first n) refl
          where
            at : nat_le first id ≡ true
            at = grind (arith, nat_tests, r.least)

            by : (b : Bool) → nat_le first n ≡ b → test n ≡ true
            by true le = r.before n (grind (arith, nat_tests, le)) (grind (arith, nat_tests, le, at, less))
            by false gt = absurd (grind (arith, nat_tests, gt, at, less, lt, r.most))

pub all_pass_around : (test : ℕ → Bool) (first : ℕ) → least_around test first ≡ None → (n : ℕ) → n < 256 → test n ≡ true
all_pass_around test first e n lt = all_pass test 256 0 (go (least_not test (256 - first) first) e) n (omega arith) (omega (arith, lt))
  where
    go : (o : Option ℕ) → option_or o (least_not test 256 0) ≡ None → least_not test 256 0 ≡ None
    go None e = e
    go (Some found) e = absurd cc

pub none_refused_around : (test : ℕ → Bool) (first : ℕ) → ((n : ℕ) → n < 256 → test n ≡ true) → least_around test first ≡ None
none_refused_around test first h =
    ap (λ o. option_or o (least_not test 256 0)) (none_refused test (256 - first) first (λ n le lt. h n (omega (arith, le, lt))))
    ∙ none_refused test 256 0 (λ n le lt. h n (omega (arith, lt)))

pub takes_least_from_zero : TakesLeastFromZero
takes_least_from_zero now peer e begins = ap (least_around test) begins ∙ go (least_not test 256 0)
  where
    test : ℕ → Bool
    test = is_id_taken now e peer

    go : (o : Option ℕ) → option_or o o ≡ o
    go None = refl
    go (Some id) = refl

-- What is free is not held, and the end does not wait.

pub no_wait : (now : ℕ) (e : ClientEnd) (peer : PeerView) (id : ℕ) → is_id_taken now e peer id ≡ false → waits_to_ask now e ≡ false
no_wait now e peer id f = go (waits_to_ask now e) f
  where
    go : (b : Bool) → (b || is_id_held now e.slots peer id) ≡ false → b ≡ false
    go true f = f
    go false f = refl

pub is_untaken : (now : ℕ) (e : ClientEnd) (peer : PeerView) (id : ℕ) → is_id_taken now e peer id ≡ false → is_id_held now e.slots peer id ≡ false
is_untaken now e peer id f = go (waits_to_ask now e) f
  where
    go : (b : Bool) → (b || is_id_held now e.slots peer id) ≡ false → is_id_held now e.slots peer id ≡ false
    go true f = absurd cc
    go false f = f

-- An accepted ask.

pub has_room : (now : ℕ) (e : ClientEnd) → has_no_slot now e ≡ false → count_by (is_slot_held now) e.slots < e.capacity
has_room now e f = go (count_by (is_slot_held now) e.slots) e.capacity (nat_le MOST_ASKS e.asked) f
  where
    go : (n m : ℕ) (b : Bool) → (nat_le m n || b) ≡ false → n < m
    go n m true f = grind (arith, nat_tests)
    go n m false f = grind (arith, nat_tests)

module _ (c : Settings) (now : ℕ) (peer : PeerView) (limits : Limits) (choice : ℕ) (octets : Octets) (e : ClientEnd) where
  abbrev held : ℕ → Bool
  held = is_id_taken now e peer

  abbrev key : ℕ → PeerKey
  key id = record { peer = peer; invoke_id = id }

  abbrev outcome : AskOutcome
  outcome = requester_ask c now peer limits choice octets e

  pub record IsAccepted (x : Accepted) : Type 0 where
    pub id : ℕ
    pub ask : Ask
    pub can_go : CanGo (request_way_of c limits octets)
    pub least : free_id now e peer ≡ Some id
    pub room : has_no_slot now e ≡ false
    pub is : x ≡ accepts c now (key id) ask e

  -- how an ask that can go comes out
  module _ (ask : Ask) where
    abbrev chosen : ℕ → Bool → AskOutcome
    chosen id b = if b then AskOutcome.Refused AskRefusal.NoSlot else Asked (accepts c now (key id) ask e)

    accepted_for : (x : Accepted) → CanGo (request_way_of c limits octets) → asks_for c now peer ask e ≡ Asked x → IsAccepted x
    accepted_for x goes is = go (free_id now e peer) refl is
      where
        go : (o : Option ℕ) → free_id now e peer ≡ o → asks_with_id c now peer ask e o ≡ Asked x → IsAccepted x
        go None least is = absurd cc
        go (Some id) least is = slots (has_no_slot now e) refl is
          where
            slots : (b : Bool) → has_no_slot now e ≡ b → chosen id b ≡ Asked x → IsAccepted x
            slots true room is = absurd cc
            slots false room is =
                let same : accepts c now (key id) ask e ≡ x = cc in
                record { id = id; ask = ask; can_go = goes; least = least; room = room; is = sym same }

    no_id_for : asks_for c now peer ask e ≡ AskOutcome.Refused AskRefusal.NoInvokeId → AllTaken now e peer
    no_id_for is = go (free_id now e peer) refl is
      where
        go : (o : Option ℕ) → free_id now e peer ≡ o → asks_with_id c now peer ask e o ≡ AskOutcome.Refused AskRefusal.NoInvokeId
            → AllTaken now e peer
        go None least is = all_pass_around held e.first_id least
        go (Some id) least is = slots (has_no_slot now e) is
          where
            slots : (b : Bool) → chosen id b ≡ AskOutcome.Refused AskRefusal.NoInvokeId → AllTaken now e peer
            slots true is = absurd cc
            slots false is = absurd cc

    all_held_for : AllTaken now e peer → asks_for c now peer ask e ≡ AskOutcome.Refused AskRefusal.NoInvokeId
    all_held_for h = ap (λ o. asks_with_id c now peer ask e o) (none_refused_around held e.first_id h)

    no_slot_for : asks_for c now peer ask e ≡ AskOutcome.Refused AskRefusal.NoSlot → OneFree now e peer × (has_no_slot now e ≡ true)
    no_slot_for is = go (free_id now e peer) refl is
      where
        go : (o : Option ℕ) → free_id now e peer ≡ o → asks_with_id c now peer ask e o ≡ AskOutcome.Refused AskRefusal.NoSlot
            → OneFree now e peer × (has_no_slot now e ≡ true)
        go None least is = absurd cc
        go (Some id) least is = slots (has_no_slot now e) refl is
          where
            slots : (b : Bool) → has_no_slot now e ≡ b → chosen id b ≡ AskOutcome.Refused AskRefusal.NoSlot
                → OneFree now e peer × (has_no_slot now e ≡ true)
            slots true room is =
                let first = least_around_is held e.first_id id least in
                (((id, first.octet, first.refused)), room)
            slots false room is = absurd cc

    full_for : OneFree now e peer → has_no_slot now e ≡ true → asks_for c now peer ask e ≡ AskOutcome.Refused AskRefusal.NoSlot
    full_for free room = go (free_id now e peer) refl
      where
        go : (o : Option ℕ) → free_id now e peer ≡ o → asks_with_id c now peer ask e o ≡ AskOutcome.Refused AskRefusal.NoSlot
        go None least =
            let passes : held free.0 ≡ true = all_pass_around held e.first_id least free.0 free.1 in
            let fails : held free.0 ≡ false = free.2 in
            absurd cc
        go (Some id) least = ap (chosen id) room

    goes_for : (why : RequestFault) → asks_for c now peer ask e ≡ AskOutcome.Refused (AskRefusal.CannotGo why) → ⊥
    goes_for why is = go (free_id now e peer) is
      where
        go : (o : Option ℕ) → asks_with_id c now peer ask e o ≡ AskOutcome.Refused (AskRefusal.CannotGo why) → ⊥
        go None is = cc
        go (Some id) is = slots (has_no_slot now e) is
          where
            slots : (b : Bool) → chosen id b ≡ AskOutcome.Refused (AskRefusal.CannotGo why) → ⊥
            slots true is = cc
            slots false is = cc

  abbrev by_way : Way RequestFault → AskOutcome
  by_way way = asks_by_way c now peer choice octets e way

  pub accepted_is : (x : Accepted) → outcome ≡ Asked x → IsAccepted x
  accepted_is x is = go (request_way_of c limits octets) refl is
    where
      go : (way : Way RequestFault) → request_way_of c limits octets ≡ way → by_way way ≡ Asked x → IsAccepted x
      go InOne w is = accepted_for (record { first = now; choice = choice; whole = true; pieces = octets ∷ [] }) x (subst CanGo (sym w) tt) is
      go (InSegments pieces) w is =
          accepted_for (record { first = now; choice = choice; whole = false; pieces = pieces }) x (subst CanGo (sym w) tt) is
      go (Refused why) w is = absurd cc

  -- each reason
  no_id_by : (way : Way RequestFault) → by_way way ≡ AskOutcome.Refused AskRefusal.NoInvokeId → CanGo way × AllTaken now e peer
  no_id_by InOne is = (tt, no_id_for (record { first = now; choice = choice; whole = true; pieces = octets ∷ [] }) is)
  no_id_by (InSegments pieces) is = (tt, no_id_for (record { first = now; choice = choice; whole = false; pieces = pieces }) is)
  no_id_by (Refused why) is = absurd cc

  all_held_by : (way : Way RequestFault) → CanGo way → AllTaken now e peer → by_way way ≡ AskOutcome.Refused AskRefusal.NoInvokeId
  all_held_by InOne goes h = all_held_for (record { first = now; choice = choice; whole = true; pieces = octets ∷ [] }) h
  all_held_by (InSegments pieces) goes h = all_held_for (record { first = now; choice = choice; whole = false; pieces = pieces }) h
  all_held_by (Refused why) goes h = absurd goes

  no_slot_by : (way : Way RequestFault) → by_way way ≡ AskOutcome.Refused AskRefusal.NoSlot
      → CanGo way × OneFree now e peer × (has_no_slot now e ≡ true)
  no_slot_by InOne is = let r = no_slot_for (record { first = now; choice = choice; whole = true; pieces = octets ∷ [] }) is in (tt, r.0, r.1)
  no_slot_by (InSegments pieces) is = let r = no_slot_for (record { first = now; choice = choice; whole = false; pieces = pieces }) is in (tt, r.0, r.1)
  no_slot_by (Refused why) is = absurd cc

  full_by : (way : Way RequestFault) → CanGo way → OneFree now e peer → has_no_slot now e ≡ true → by_way way ≡ AskOutcome.Refused AskRefusal.NoSlot
  full_by InOne goes free room = full_for (record { first = now; choice = choice; whole = true; pieces = octets ∷ [] }) free room
  full_by (InSegments pieces) goes free room = full_for (record { first = now; choice = choice; whole = false; pieces = pieces }) free room
  full_by (Refused why) goes free room = absurd goes

  cannot_by : (why : RequestFault) (way : Way RequestFault) → by_way way ≡ AskOutcome.Refused (AskRefusal.CannotGo why) → way ≡ Refused why
  cannot_by why InOne is = absurd (goes_for (record { first = now; choice = choice; whole = true; pieces = octets ∷ [] }) why is)
  cannot_by why (InSegments pieces) is = absurd (goes_for (record { first = now; choice = choice; whole = false; pieces = pieces }) why is)
  cannot_by why (Refused other) is = let same : other ≡ why = cc in ap Refused same

  pub refuses_asks : RefusesAsks c now peer limits choice octets e
  refuses_asks = record {
    cannot_go = λ why. (cannot_by why (request_way_of c limits octets), λ w. ap by_way w);
    no_invoke_id = (no_id_by (request_way_of c limits octets), λ h. all_held_by (request_way_of c limits octets) h.0 h.1);
    no_slot = (no_slot_by (request_way_of c limits octets), λ h. full_by (request_way_of c limits octets) h.0 h.1 h.2);
  }

pub takes_least_free : TakesLeastFree
takes_least_free c now peer limits choice octets e x is =
    let a = accepted_is c now peer limits choice octets e x is in
    let id : x.invoke_id ≡ a.id = ap (λ (y : Accepted). y.invoke_id) a.is in
    let first = least_around_is (is_id_taken now e peer) e.first_id a.id a.least in
    subst (IsLeastFree now e peer) (sym id) (record { octet = first.octet; free = first.refused; least = first.before })

-- The table.

abbrev holds : ℕ → Client → Bool
holds now s = is_held now s.held

free_gone : (now : ℕ) (o : Option Client) → is_held_there now o ≡ false → keep (holds now) o ≡ None
free_gone now None e = refl
free_gone now (Some s) e = ap (λ b. if b then Some s else None) e

one_longer : (now : ℕ) (slots : List ClientSlot) (x : ClientSlot) (capacity : ℕ) → count_by (is_slot_held now) slots < capacity
    → length (filter (is_slot_held now) slots ++ x ∷ []) ≤ capacity
one_longer now slots x capacity lt =
    let whole = length-append (filter (is_slot_held now) slots) (x ∷ []) in
    let few = length-filter (is_slot_held now) slots in
    omega (arith, whole, few, lt)

module _ (c : Settings) (readable : Readable) (now : ℕ) (a : Apdu) (e : ClientEnd) (key : PeerKey) where
  held_orderly : (number : ℕ) (held : TransactionSlot) → IsOrderlyClient e → IsOrderlyClient (requester_on_apdu_in_slot c readable now a e key number held).end
  held_orderly number (Closed first) h = h
  held_orderly number (Open t) h =
      let v : Client = client_after now number t (client_on_apdu (context_of c now key) readable t a) in
      record {
        distinct = with_distinct Client key v e.slots h.distinct;
        within = let same = set_length PeerKey Client same_key keys_equivalent key v e.slots in omega (arith, same, h.within);
      }

  hears_orderly : (o : Option Client) → IsOrderlyClient e → IsOrderlyClient (requester_on_apdu_at c readable now a e key o).end
  hears_orderly None h = h
  hears_orderly (Some s) h = held_orderly s.number s.held h

  held_others : (q : PeerKey) → same_key key q ≡ false → (number : ℕ) (held : TransactionSlot)
      → value_at same_key q (requester_on_apdu_in_slot c readable now a e key number held).end.slots ≡ value_at same_key q e.slots
  held_others q ne number (Closed first) = refl
  held_others q ne number (Open t) =
      set_others PeerKey Client same_key keys_equivalent key q (client_after now number t (client_on_apdu (context_of c now key) readable t a)) e.slots ne

  hears_others : (q : PeerKey) → same_key key q ≡ false → (o : Option Client)
      → value_at same_key q (requester_on_apdu_at c readable now a e key o).end.slots ≡ value_at same_key q e.slots
  hears_others q ne None = refl
  hears_others q ne (Some s) = held_others q ne s.number s.held

-- a slot's tick, as a change of what is found at its key
abbrev ticked : Settings → ℕ → PeerKey → Client → Client
ticked c now q s = held_ticked (context_of c now q) s.number s.held

ticked_is : (c : Settings) (now : ℕ) (q : PeerKey) (o : Option Client) → changed_value Client (ticked c now) q o ≡ client_ticked_at c now q o
ticked_is c now q None = refl
ticked_is c now q (Some s) = refl

pub client_stays_orderly : ClientStaysOrderly
client_stays_orderly = record {
  hears = λ c readable now peer a e h. hears_orderly c readable now a e (key_of peer a) (value_at same_key (key_of peer a) e.slots) h;
  ticks = λ c now e h. record {
    distinct = distinct_changed Client (ticked c now) e.slots h.distinct;
    within = let same = length-map e.slots (λ (s : ClientSlot). record s { value = ticked c now s.key s.value }) in omega (arith, same, h.within);
  };
  asks = λ c now peer limits choice octets e x is h.
      let a = accepted_is c now peer limits choice octets e x is in
      let key : PeerKey = record { peer = peer; invoke_id = a.id } in
      let free = is_untaken now e peer a.id (least_around_is (is_id_taken now e peer) e.first_id a.id a.least).refused in
      let slots : List ClientSlot = passing Client (holds now) e.slots in
      let gone : value_at same_key key slots ≡ None =
      passing_value Client (holds now) key e.slots h.distinct ∙ free_gone now (value_at same_key key e.slots) free in
      subst (λ (y : Accepted). IsOrderlyClient y.end) (sym a.is) (record {
        distinct = put_distinct Client key now _ slots (passing_distinct Client (holds now) e.slots h.distinct) gone;
        within = one_longer now e.slots _ e.capacity (has_room now e a.room);
      });
}

pub client_others_stay : ClientOthersStay
client_others_stay = record {
  hears = λ c readable now peer a e q ne. hears_others c readable now a e (key_of peer a) q ne (value_at same_key (key_of peer a) e.slots);
  ticks = λ c now e q. value_changed Client (ticked c now) q e.slots ∙ ticked_is c now q (value_at same_key q e.slots);
  asks = λ c now peer limits choice octets e x q is distinct ne.
      let a = accepted_is c now peer limits choice octets e x is in
      let id : x.invoke_id ≡ a.id = ap (λ (y : Accepted). y.invoke_id) a.is in
      let other : same_key (record { peer = peer; invoke_id = a.id }) q ≡ false =
      ap (λ n. same_key (record { peer = peer; invoke_id = n }) q) (sym id) ∙ ne in
      ap (λ (y : Accepted). value_at same_key q y.end.slots) a.is
      ∙ put_others PeerKey Client same_key keys_equivalent _ q (passing Client (holds now) e.slots) other
      ∙ passing_value Client (holds now) q e.slots distinct;
}
