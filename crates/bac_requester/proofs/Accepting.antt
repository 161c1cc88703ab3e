-- An ask: the least invoke ID, the slots after it, and how it is refused.
use Rattle.std.proofs.Common.{◌≡◌, ℕ, suc, ◌+◌, ◌-◌, ◌<◌, ◌≤◌, ◌||◌, Bool, true, false, List, [], ◌∷◌, ◌++◌, filter, count_by, Option}
use Rattle.std.proofs.Common.{Some, None, Result, Ok, Err, nat_le, if◌then◌else◌, refl, ap, sym, subst, ◌∙◌, arith}
use Rattle.std.specs.Option.{option_or}
use Rattle.std.proofs.lemmas.Bool.Decides.{nat_tests}
use Rattle.bac_npdu.specs.Peers.{PeerView}
use Rattle.bac_slots.specs.declared.slot.Slot.{Slot}
use Rattle.bac_slots.specs.Slots.{value_at, keep}
use Rattle.bac_protocol.specs.Context.{Settings, Context}
use Rattle.bac_protocol.specs.Client.{Ask, ClientTransaction, after, asked_ticket, new_ticket, request_apdu, sends_request_window}
use Rattle.bac_protocol.specs.Client.Reaction.{GoesOn}
use Rattle.bac_protocol.specs.Client.Phase.{AwaitConfirmation}
use Rattle.bac_segment.specs.Window.{outgoing}
use Rattle.bac_protocol.specs.Service.{Octets}
use Rattle.bac_protocol.specs.Sizes as sizes
use Rattle.bac_transaction.specs.Ends.{Client, ClientEnd, ClientSlot, AskOutcome, AskRefusal, CannotGo, TransactionSlot, MOST_ASKS, context_of, kept, is_held, is_held_there}
use Rattle.bac_transaction.specs.Ends.{is_id_held, is_id_taken, waits_to_ask, is_slot_held, has_no_slot, least_not, least_around, free_id, accepts, asks_by_way, asks_for, asks_with_id}
use Rattle.bac_transaction.specs.Ends.TransactionSlot.{Open}
use Rattle.bac_transaction.specs.Keys as keys
use Rattle.bac_transaction.specs.Views.{code_same_key, peer_key_view, slot_view, slots_view}
use Rattle.bac_transaction.specs.declared.peer_key.PeerKey.{PeerKey}
use Rattle.bac_transaction.proofs.ClientTables.{least_around_is, none_refused_around}
use Rattle.bac_transaction.proofs.Keyed.{value_viewed, put_viewed, filter_viewed}
use Rattle.bac_transaction.proofs.Viewed.{count_viewed}
use Rattle.bac_service.specs.Spellings.{request_spelling}
use Rattle.bac_service.specs.Values.{Request, choice_of}
use Rattle.bac_requester.specs.Requests.{ask_at, request_by}
use Rattle.bac_requester.specs.TransactionViews.{fault_view, way_view}
use Rattle.bac_requester.specs.declared.outgoing_request.RequestFault.{RequestFault}
use Rattle.bac_requester.specs.declared.outgoing_request.RequestWay.{RequestWay}
use Rattle.bac_requester.specs.declared.outgoing_request.RequestWay.TheVariants as way
use Rattle.bac_requester.specs.Reactions.{MayBegin}
use Rattle.bac_requester.specs.Views.{end_of}

abbrev Slots : Type 0
Slots = List (Slot PeerKey Client)

-- The least number that a test refuses.

abbrev pub or_else : Bool → (later : Option ℕ) → ℕ → Option ℕ
or_else b later n = if b then later else Some n

step : (test : ℕ → Bool) (n : ℕ) (b : Bool) → n < 256 → test n ≡ b → least_not test (256 - n) n ≡ or_else b (least_not test (256 - (n + 1)) (n + 1)) n
step test n b lt is =
    let count : 256 - n ≡ suc (256 - (n + 1)) = omega arith in
    ap (λ k. least_not test k n) count ∙ ap (λ x. or_else x (least_not test (256 - (n + 1)) (n + 1)) n) is

pub least_more : (test : ℕ → Bool) (n : ℕ) (whole : Option ℕ) → n < 256 → least_not test (256 - n) n ≡ whole → test n ≡ true
    → least_not test (256 - (n + 1)) (n + 1) ≡ whole
least_more test n whole lt e t = sym (step test n true lt t) ∙ e

pub least_found : (test : ℕ → Bool) (n : ℕ) (whole : Option ℕ) → n < 256 → least_not test (256 - n) n ≡ whole → test n ≡ false → Some n ≡ whole
least_found test n whole lt e t = sym (step test n false lt t) ∙ e

pub least_none : (test : ℕ → Bool) (n : ℕ) (whole : Option ℕ) → 256 ≤ n → least_not test (256 - n) n ≡ whole → None ≡ whole
least_none test n whole le e = let count : 256 - n ≡ 0 = omega arith in sym (ap (λ k. least_not test k n) count) ∙ e

pub free_around : (test : ℕ → Bool) (first id : ℕ) → Some id ≡ least_around test first → test id ≡ false
free_around test first id e = (least_around_is test first id (sym e)).refused

-- the first part has one, or the second part counts
pub found_first : (test : ℕ → Bool) (first : ℕ) (o : Option ℕ) (id : ℕ) → o ≡ least_not test (256 - first) first → o ≡ Some id → Some id ≡ least_around test first
found_first test first o id is some = ap (λ p. option_or p (least_not test 256 0)) (sym some ∙ is)

pub found_around : (test : ℕ → Bool) (first : ℕ) (o p : Option ℕ) → o ≡ least_not test (256 - first) first → o ≡ None
    → p ≡ least_not test (256 - 0) 0 → p ≡ least_around test first
found_around test first o p is none again = again ∙ ap (λ q. option_or q (least_not test 256 0)) (sym none ∙ is)

-- The slots.

pub id_held : (now : ℕ) (key : PeerKey) (slots : Slots) (o : Option Client) → value_at code_same_key key slots ≡ o
    → is_held_there now o ≡ is_id_held now (slots_view slots) (peer_key_view key).peer key.invoke_id
id_held now key slots o is = ap (λ p. is_held_there now p) (sym is ∙ value_viewed Client key slots)

-- an invoke ID that is not held is not alive in the table
pub not_alive : (now : ℕ) (key : PeerKey) (slots : Slots) → is_id_held now (slots_view slots) (peer_key_view key).peer key.invoke_id ≡ false
    → keep (λ (v : Client). is_held now v.held) (value_at code_same_key key slots) ≡ None
not_alive now key slots free = go (value_at code_same_key key slots) (id_held now key slots _ refl ∙ free)
  where
    go : (o : Option Client) → is_held_there now o ≡ false → keep (λ (v : Client). is_held now v.held) o ≡ None
    go None f = refl
    go (Some v) f = ap (λ b. if b then Some v else None) f

pub entered : (now : ℕ) (key : PeerKey) (v : Client) (slots new : Slots)
    → new ≡ filter (λ s. is_held now s.value.held) slots ++ record { key = key; begin = now; value = v } ∷ []
    → slots_view new ≡ filter (is_slot_held now) (slots_view slots) ++ record { key = peer_key_view key; begin = now; value = v } ∷ []
entered now key v slots new put =
    let x : Slot PeerKey Client = record { key = key; begin = now; value = v } in
    ap (λ l. slots_view l) put ∙ put_viewed Client (filter (λ s. is_held now s.value.held) slots) x
    ∙ ap (λ l. l ++ slot_view x ∷ []) (filter_viewed Client (λ (w : Client). is_held now w.held) slots)

-- The outcome.

-- an end that does not wait refuses the invoke IDs that are held, and no other
untaken : (now : ℕ) (peer : PeerView) (e : ClientEnd) → waits_to_ask now e ≡ false
    → least_around (is_id_held now e.slots peer) e.first_id ≡ free_id now e peer
untaken now peer e awake = ap (λ (b : Bool). least_around (λ id. b || is_id_held now e.slots peer id) e.first_id) (sym awake)

-- one that waits has none to give
pub waiting : (c : Settings) (now : ℕ) (peer : PeerView) (ask : Ask) (e : ClientEnd) → waits_to_ask now e ≡ true
    → asks_for c now peer ask e ≡ AskOutcome.Refused AskRefusal.NoInvokeId
waiting c now peer ask e waits =
    ap (λ o. asks_with_id c now peer ask e o)
    (none_refused_around (is_id_taken now e peer) e.first_id (λ n lt. ap (λ (b : Bool). b || is_id_held now e.slots peer n) waits))

module _ (c : Settings) (now : ℕ) (peer : PeerView) (ask : Ask) (e : ClientEnd) (awake : waits_to_ask now e ≡ false) where
  with_id : (o : Option ℕ) → o ≡ least_around (is_id_held now e.slots peer) e.first_id → asks_for c now peer ask e ≡ asks_with_id c now peer ask e o
  with_id o is = ap (λ p. asks_with_id c now peer ask e p) (sym (is ∙ untaken now peer e awake))

  pub no_id : (o : Option ℕ) → o ≡ least_around (is_id_held now e.slots peer) e.first_id → o ≡ None
      → asks_for c now peer ask e ≡ AskOutcome.Refused AskRefusal.NoInvokeId
  no_id o is none = with_id o is ∙ ap (λ p. asks_with_id c now peer ask e p) none

  abbrev chosen : ℕ → Bool → AskOutcome
  chosen id full = if full then AskOutcome.Refused AskRefusal.NoSlot else AskOutcome.Asked (accepts c now (record { peer = peer; invoke_id = id }) ask e)

  pub no_slot : (o : Option ℕ) (id : ℕ) → o ≡ least_around (is_id_held now e.slots peer) e.first_id → o ≡ Some id → has_no_slot now e ≡ true
      → asks_for c now peer ask e ≡ AskOutcome.Refused AskRefusal.NoSlot
  no_slot o id is some full = with_id o is ∙ ap (λ p. asks_with_id c now peer ask e p) some ∙ ap (λ b. chosen id b) full

  pub accepted : (o : Option ℕ) (id : ℕ) → o ≡ least_around (is_id_held now e.slots peer) e.first_id → o ≡ Some id → has_no_slot now e ≡ false
      → asks_for c now peer ask e ≡ AskOutcome.Asked (accepts c now (record { peer = peer; invoke_id = id }) ask e)
  accepted o id is some full = with_id o is ∙ ap (λ p. asks_with_id c now peer ask e p) some ∙ ap (λ b. chosen id b) full

  pub may_begin : (o : Option ℕ) (id : ℕ) → o ≡ least_around (is_id_held now e.slots peer) e.first_id → o ≡ Some id → has_no_slot now e ≡ false
      → MayBegin (asks_for c now peer ask e)
  may_begin o id is some full = subst MayBegin (sym (accepted o id is some full)) tt

pub has_room : (now : ℕ) (slots : Slots) (capacity asked from first_id : ℕ) → has_no_slot now (end_of slots capacity asked from first_id) ≡ false
    → count_by (λ s. is_held now s.value.held) slots < capacity
has_room now slots capacity asked from first_id f =
    subst (λ (n : ℕ). n < capacity) (count_viewed Client (λ (v : Client). is_held now v.held) slots)
    (go (count_by (is_slot_held now) (slots_view slots)) capacity (nat_le MOST_ASKS asked) f)
  where
    go : (n m : ℕ) (b : Bool) → (nat_le m n || b) ≡ false → n < m
    go n m true f = grind (arith, nat_tests)
    go n m false f = grind (arith, nat_tests)

pub has_number : (now : ℕ) (e : ClientEnd) → has_no_slot now e ≡ false → e.asked < MOST_ASKS
has_number now e f = go (nat_le e.capacity (count_by (is_slot_held now) e.slots)) e.asked MOST_ASKS f
  where
    go : (b : Bool) (n m : ℕ) → (b || nat_le m n) ≡ false → n < m
    go true n m f = absurd cc
    go false n m f = grind (arith, nat_tests)

-- a new ticket is open
pub kept_open : (c : Context) (ask : Ask) → kept (asked_ticket c ask) ≡ Open (asked_ticket c ask)
kept_open c ask = go ask.whole
  where
    go : (b : Bool)
        → kept (after c.now (new_ticket c.now ask) (if b then GoesOn AwaitConfirmation
        (request_apdu c ask ∷ []) else sends_request_window c ask.choice (outgoing ask.pieces) false))
        ≡ Open (after c.now (new_ticket c.now ask) (if b then GoesOn AwaitConfirmation
        (request_apdu c ask ∷ []) else sends_request_window c ask.choice (outgoing ask.pieces) false))
    go true = refl
    go false = refl

-- The way of a request.

-- the ask of a request that goes that way
abbrev pub asked_by : (now : ℕ) → Request → RequestWay → Ask
asked_by now r w = ask_at now (request_by (choice_of r) (request_spelling r) w)

abbrev pub by_result : Settings → (now : ℕ) → PeerView → (choice : ℕ) → Octets → ClientEnd → Result RequestWay RequestFault → AskOutcome
by_result c now peer choice octets e (Ok w) = asks_for c now peer (ask_at now (request_by choice octets w)) e
by_result c now peer choice octets e (Err why) = AskOutcome.Refused (CannotGo (fault_view why))

by_way : (c : Settings) (now : ℕ) (peer : PeerView) (choice : ℕ) (octets : Octets) (e : ClientEnd) (r : Result RequestWay RequestFault)
    → asks_by_way c now peer choice octets e (way_view octets r) ≡ by_result c now peer choice octets e r
by_way c now peer choice octets e (Ok way.InOne) = refl
by_way c now peer choice octets e (Ok (way.InSegments size)) = refl
by_way c now peer choice octets e (Err why) = refl

-- a request that can go is asked by its way
pub can_go : (c : Settings) (now : ℕ) (peer : PeerView) (choice : ℕ) (octets : Octets) (e : ClientEnd) (w : sizes.Way sizes.RequestFault)
    (r : Result RequestWay RequestFault) (x : RequestWay) → w ≡ way_view octets r → r ≡ Ok x
    → asks_by_way c now peer choice octets e w ≡ asks_for c now peer (ask_at now (request_by choice octets x)) e
can_go c now peer choice octets e w r x is can =
    ap (λ v. asks_by_way c now peer choice octets e v) is ∙ by_way c now peer choice octets e r ∙ ap (λ q. by_result c now peer choice octets e q) can

-- The end after an ask.

pub entered_end : (c : Settings) (now : ℕ) (key : keys.PeerKey) (ask : Ask) (slots new : List ClientSlot) (capacity room number from first_id : ℕ) (t : ClientTransaction)
    → t ≡ asked_ticket (context_of c now key) ask
    → new ≡ filter (is_slot_held now) slots ++ record { key = key; begin = now; value = record { number = number; held = Open t } } ∷ [] → room ≡ capacity
    → (let e : ClientEnd = record { slots = new; capacity = room; asked = number + 1; asks_from = from; first_id = first_id } in e)
    ≡ (accepts c now key ask (record { slots = slots; capacity = capacity; asked = number; asks_from = from; first_id = first_id })).end
entered_end c now key ask slots new capacity room number from first_id t is put same =
    let with_slots : List ClientSlot → ℕ → ClientEnd = λ l k. record { slots = l; capacity = k; asked = number + 1; asks_from = from; first_id = first_id } in
    let with_held : TransactionSlot → List ClientSlot = λ h. filter (is_slot_held now) slots
    ++ record { key = key; begin = now; value = record { number = number; held = h } } ∷ [] in
    ap (λ l. with_slots l room) put ∙ ap (λ k. with_slots (with_held (Open t)) k) same
    ∙ ap (λ h. with_slots (with_held h) capacity) (ap (λ u. Open u) is ∙ sym (kept_open (context_of c now key) ask))
