-- No more client slots are held, and no more entries are live, than there are slots.
use Rattle.std.proofs.Common.{◌≡◌, ◌+◌, ◌≤◌, ◌<◌, ◌⊎◌, ◌||◌, ℕ, Bool, true, false, not, List, [], ◌∷◌, ◌++◌, map, filter, count_by, Option, Some, None, slice_get}
use Rattle.std.proofs.Common.{if◌then◌else◌, nat_eq, nat_le, refl, sym, ap, subst, inl, inr, ◌∙◌, arith}
use Rattle.std.proofs.lemmas.Bool.Decides.{nat_tests}
use Rattle.std.proofs.Math.Nat.{mul-le-mul_left}
use Rattle.bac_apdu.specs.Apdu.{Apdu, Limits}
use Rattle.bac_apdu.specs.Apdu.Apdu.{ConfirmedRequest, UnconfirmedRequest, SimpleAck, ComplexAck, SegmentAck, Error, Reject, Abort}
use Rattle.bac_npdu.specs.Peers.{PeerView}
use Rattle.bac_service.specs.Values.{Request, choice_of}
use Rattle.bac_service.specs.Services.{reads_reply}
use Rattle.bac_protocol.specs.Context.{Settings, Context}
use Rattle.bac_protocol.specs.Pace.{Pace, Clock, period, clock_at, goes_on, steps}
use Rattle.bac_protocol.specs.Sizes.{Way, RequestFault, request_way_of}
use Rattle.bac_protocol.specs.Sizes.Way.{InOne, InSegments, Refused}
use Rattle.bac_protocol.specs.Service.{Octets, OTHER}
use Rattle.bac_protocol.specs.Wire.{is_from_client}
use Rattle.bac_protocol.specs.Client.{Ask, client_on_apdu}
use Rattle.bac_protocol.specs.Server as server
use Rattle.bac_protocol.specs.Server.{ServerTransaction, Service, is_live, is_none_live, server_on_apdu, server_ticks, live_ticks, idle_on_apdu, rests}
use Rattle.bac_protocol.proofs.Paces.{divided}
use Rattle.bac_slots.specs.Slots.{value_at}
use Rattle.bac_transaction.specs.Keys.{PeerKey, same_key}
use Rattle.bac_transaction.specs.Sends.{Datagram}
use Rattle.bac_transaction.specs.Ends.{Client, ClientEnd, ServerEnd, TransactionSlot, Accepted, AskOutcome, AskRefusal, is_held, is_slot_held, is_slot_live}
use Rattle.bac_transaction.specs.Ends.{is_free, requester_on_apdu_at, requester_on_apdu_in_slot, client_after, client_ticked, held_ticked, server_ticked}
use Rattle.bac_transaction.specs.Ends.{entry_or, set_or_put, put_entry, key_of, context_of, has_no_slot, asks_with_id, asks_for, asks_by_way, accepts, free_id}
use Rattle.bac_transaction.specs.Ends.{MOST_ASKS, new_client}
use Rattle.bac_transaction.specs.Ends.TransactionSlot.{Open, Closed}
use Rattle.bac_transaction.specs.Ends.AskOutcome.{Asked}
use Rattle.bac_transaction.specs.Services.{service_of}
use Rattle.bac_transaction.proofs.ServerTables.{has_space}
use Rattle.bac_world.specs.Node.{Node, Outcome, NodeOn, NodeTick, NodeAsks, IsHeardBy, with_change}
use Rattle.bac_world.specs.World.{World, Event, WorldStep, WorldRun, IsFresh, IsFreshNode, IsWithNode, DeliversIf, Hears, is_deliverable, Time, passes}
use Rattle.bac_world.specs.World.{with_clock, told}
use Rattle.bac_world.specs.World.Event.{Deliver, Noise, Stray, Tick, Advance, Change, Restart, Begin, BeginAgain}
use Rattle.bac_world.specs.World.{IsBegun}
use Rattle.bac_world.proofs.Bridge.{AreIdle}
use Rattle.bac_world.proofs.Lives.{step_idle}
use Rattle.bac_world.proofs.Steps.{decide_number}
use Rattle.bac_world.proofs.Asking.{accepted_is}
use Rattle.bac_liveness.specs.Room.{HasRoom, HaveRoom}
use Rattle.bac_liveness.proofs.StraightRuns.Counts.{count, count_changed, count_passing, count_weaker, count_put, count_with}

-- Entries.

-- where none is live and no slot is free, what comes leaves the entry as it was
module _ (c : Context) (s : Service) where
  unfree_idle : (o : Option ServerTransaction) (a : Apdu) → (idle_on_apdu c s o false a).entry ≡ o
  unfree_idle o (ConfirmedRequest limits i None choice octets) = refl
  unfree_idle o (ConfirmedRequest limits i (Some g) choice octets) = go (not (nat_eq g.number 0))
    where
      go : (b : Bool) → (if b then rests o [] else rests o (server.server_abort c OTHER ∷ [])).entry ≡ o
      go true = refl
      go false = refl
  unfree_idle o (UnconfirmedRequest choice octets) = refl
  unfree_idle o (SimpleAck i choice) = refl
  unfree_idle o (ComplexAck i g choice octets) = refl
  unfree_idle o (SegmentAck up i ack) = refl
  unfree_idle o (Error i choice class code) = refl
  unfree_idle o (Reject i r) = refl
  unfree_idle o (Abort up i r) = refl

  unfree : (o : Option ServerTransaction) (a : Apdu) → is_none_live c.now o ≡ true → (server_on_apdu c s o false a).entry ≡ o
  unfree None a dead = unfree_idle None a
  unfree (Some e) a dead = go (is_live c.now e) dead
    where
      go : (b : Bool) → (if b then false else true) ≡ true
          → (if b then server.live_on_apdu c s e e.state a else idle_on_apdu c s (Some e) false a).entry ≡ Some e
      go true dead = absurd cc
      go false dead = unfree_idle (Some e) a

not_dead : (now : ℕ) (d : ServerTransaction) → is_live now d ≡ true → is_none_live now (Some d) ≡ false
not_dead now d live = ap (λ b. if b then false else true) live

live_there : (now : ℕ) (o : Option ServerTransaction) → is_none_live now o ≡ false → (d : ServerTransaction) × (o ≡ Some d) × (is_live now d ≡ true)
live_there now None e = absurd cc
live_there now (Some d) e = go (is_live now d) refl e
  where
    go : (b : Bool) → is_live now d ≡ b → (if b then false else true) ≡ false → (y : ServerTransaction) × (Some d ≡ Some y) × (is_live now y ≡ true)
    go true is e = (d, refl, is)
    go false is e = absurd cc

module _ (now : ℕ) (key : PeerKey) (e : ServerEnd) (room : count ServerTransaction (is_live now) e.slots ≤ e.capacity) where
  abbrev there : Option ServerTransaction
  there = value_at same_key key e.slots

  set_room : (d : ServerTransaction) (b : Bool) → is_none_live now there ≡ b → (b ≡ true → is_free now e ≡ true)
      → count ServerTransaction (is_live now) (set_or_put now key d e.slots b) ≤ e.capacity
  set_room d false live free =
      let old = live_there now there live in
      let k = count_with ServerTransaction (is_live now) key d old.0 e.slots old.1 old.2 in
      omega arith
  set_room d true dead free =
      let f = has_space now e (free refl) in
      let lt : count ServerTransaction (is_live now) e.slots < e.capacity = grind (arith, nat_tests) in
      let k = count_put ServerTransaction (is_live now) (record { key = key; begin = d.begin; value = d }) e.slots in
      omega arith

  put_room : (o : Option ServerTransaction) → (is_none_live now there ≡ true → is_free now e ≡ false → o ≡ there)
      → count ServerTransaction (is_live now) (put_entry now key o e.slots) ≤ e.capacity
  put_room None so = room
  put_room (Some d) so = go (is_live now d) refl
    where
      free : is_live now d ≡ true → is_none_live now there ≡ true → is_free now e ≡ true
      free live dead = by (is_free now e) refl
        where
          by : (b : Bool) → is_free now e ≡ b → b ≡ true
          by true is = refl
          by false is =
              let same : is_none_live now (Some d) ≡ true = ap (is_none_live now) (so dead is) ∙ dead in
              let f : true ≡ false = sym same ∙ not_dead now d live in
              absurd cc

      go : (b : Bool) → is_live now d ≡ b
          → count ServerTransaction (is_live now) (if b then set_or_put now key d e.slots (is_none_live now there) else e.slots) ≤ e.capacity
      go true live = set_room d (is_none_live now there) refl (λ dead. free live dead)
      go false dead = room

-- Nodes.

abbrev holds : ℕ → Client → Bool
holds now v = is_held now v.held

module _ (c : Settings) (now : ℕ) (a : Apdu) (e : ClientEnd) (key : PeerKey) where
  held_room : (number : ℕ) (y : TransactionSlot) → value_at same_key key e.slots ≡ Some (record { number = number; held = y })
      → count Client (holds now) e.slots ≤ e.capacity
      → count Client (holds now) (requester_on_apdu_in_slot c reads_reply now a e key number y).end.slots ≤
      (requester_on_apdu_in_slot c reads_reply now a e key number
      y).end.capacity
  held_room number (Closed first) at room = room
  held_room number (Open t) at room =
      let k = count_with Client (holds now) key (client_after now number t (client_on_apdu (context_of c now key) reads_reply t a))
      (record { number = number; held = Open t }) e.slots at refl in
      omega arith

  hears_room : (o : Option Client) → value_at same_key key e.slots ≡ o → count Client (holds now) e.slots ≤ e.capacity
      → count Client (holds now) (requester_on_apdu_at c reads_reply now a e key o).end.slots ≤ (requester_on_apdu_at c reads_reply now a e key o).end.capacity
  hears_room None at room = room
  hears_room (Some s) at room = held_room s.number s.held at room

heard_room : (now : ℕ) (peer : PeerView) (a : Apdu) (old new : Node) (o : Outcome) (up : Bool) → IsHeardBy up peer a now old new o → HasRoom now old
    → HasRoom now new
heard_room now peer a old new o true turn h = subst (HasRoom now) (sym turn.node) (record {
  held = h.held;
  live =
      let key = key_of peer a in
      let gets = λ (free : Bool). server_on_apdu (context_of old.settings now key) (service_of old.store) (value_at same_key key old.servers.slots) free a in
      put_room now key old.servers h.live (gets (is_free now old.servers)).entry
      (λ dead none. ap (λ (b : Bool). (gets b).entry) none
      ∙ unfree (context_of old.settings now key) (service_of old.store) (value_at same_key key old.servers.slots) a dead);
})
heard_room now peer a old new o false turn h = subst (HasRoom now) (sym turn.node) (record {
  held = hears_room old.settings now a old.clients (key_of peer a) (value_at same_key (key_of peer a) old.clients.slots) refl h.held;
  live = h.live;
})

on_room : (now : ℕ) (from octets : Octets) (old new : Node) (o : Outcome) → NodeOn now from octets old new o → HasRoom now old → HasRoom now new
on_room now from octets old new o (inl d) h = subst (HasRoom now) (sym d.node) (record { held = h.held; live = h.live })
on_room now from octets old new o (inr z) h = heard_room now z.peer z.apdu old new o (is_from_client z.apdu) z.heard h

tick_room : (now : ℕ) (old new : Node) (o : Outcome) → NodeTick now old new o → HasRoom now old → HasRoom now new
tick_room now old new o tick h = subst (HasRoom now) (sym tick.node) (record {
  held =
      let k = count_changed Client (holds now) (holds now) (client_ticked old.settings now) (λ s l. still s.key s.value.number s.value.held l)
      old.clients.slots in
      let r = h.held in
      omega arith;
  live =
      let all = map (server_ticked old.settings now) old.servers.slots in
      let few = count_passing ServerTransaction (is_live now) all in
      let k = count_changed ServerTransaction (is_live now) (is_live now) (server_ticked old.settings now) (λ s l. lives s.key s.value l) old.servers.slots in
      let r = h.live in
      omega (arith, few, k, r);
})
  where
    still : (key : PeerKey) (number : ℕ) (y : TransactionSlot) → is_held now (held_ticked (context_of old.settings now key) number y).held ≡ true
        → is_held now y ≡ true
    still key number (Closed first) l = l
    still key number (Open t) l = refl

    lives : (key : PeerKey) (e : ServerTransaction) → is_live now (entry_or e (server_ticks (context_of old.settings now key) (Some e)).entry) ≡ true
        → is_live now e ≡ true
    lives key e = go (is_live now e) refl
      where
        go : (b : Bool) → is_live now e ≡ b
            → is_live now (entry_or e (if b then live_ticks (context_of old.settings now key) e e.state else rests (Some e) []).entry) ≡ true → b ≡ true
        go true is l = refl
        go false is l = sym is ∙ l

-- An accepted ask had a slot.
module _ (c : Settings) (now : ℕ) (peer : PeerView) (choice : ℕ) (octets : Octets) (e : ClientEnd) (a : Accepted) where
  slot_for : (ask : Ask) → asks_for c now peer ask e ≡ Asked a → has_no_slot now e ≡ false
  slot_for ask is = go (free_id now e peer) is
    where
      go : (o : Option ℕ) → asks_with_id c now peer ask e o ≡ Asked a → has_no_slot now e ≡ false
      go None is = absurd cc
      go (Some id) is = slot (has_no_slot now e) is
        where
          slot : (b : Bool)
              → (if b then AskOutcome.Refused AskRefusal.NoSlot else Asked (accepts c now (record { peer = peer; invoke_id = id }) ask e)) ≡ Asked a
              → b ≡ false
          slot true is = absurd cc
          slot false is = refl

  slot_by : (way : Way RequestFault) → asks_by_way c now peer choice octets e way ≡ Asked a → has_no_slot now e ≡ false
  slot_by InOne is = slot_for (record { first = now; choice = choice; whole = true; pieces = octets ∷ [] }) is
  slot_by (InSegments pieces) is = slot_for (record { first = now; choice = choice; whole = false; pieces = pieces }) is
  slot_by (Refused why) is = absurd cc

or_false : (a b : Bool) → (a || b) ≡ false → a ≡ false
or_false true b e = absurd cc
or_false false b e = refl

put_room_for : (now : ℕ) (key : PeerKey) (v : Client) (e : ClientEnd) → count Client (holds now) e.slots < e.capacity
    → count Client (holds now) (filter (is_slot_held now) e.slots ++ record { key = key; begin = now; value = v } ∷ []) ≤ e.capacity
put_room_for now key v e lt =
    let k = count_put Client (holds now) (record { key = key; begin = now; value = v }) e.slots in
    omega arith

asks_room : (now : ℕ) (peer : PeerView) (limits : Limits) (r : Request) (old new : Node) (a : Accepted) (sends : List Datagram)
    → NodeAsks now peer limits r old new a sends → HasRoom now old → HasRoom now new
asks_room now peer limits r old new a sends asks h =
    let e = old.clients in
    let parts = accepted_is old.settings now peer (choice_of r) asks.octets e a limits asks.accepted in
    let key : PeerKey = record { peer = peer; invoke_id = parts.id } in
    let ask : Ask = record { first = now; choice = choice_of r; whole = parts.whole; pieces = parts.front ∷ parts.rest } in
    let none = slot_by old.settings now peer (choice_of r) asks.octets e a (request_way_of old.settings limits asks.octets) asks.accepted in
    let slot : nat_le e.capacity (count_by (is_slot_held now) e.slots) ≡ false =
    or_false (nat_le e.capacity (count_by (is_slot_held now) e.slots)) (nat_le MOST_ASKS e.asked) none in
    let lt : count Client (holds now) e.slots < e.capacity = grind (arith, nat_tests) in
    subst (HasRoom now) (sym (asks.node ∙ ap (λ (y : Accepted). record old { latest = now; clients = y.end }) parts.is)) (record {
      held = put_room_for now key (new_client (context_of old.settings now key) e.asked ask) e lt;
      live = h.live;
    })

later_room : (now after : ℕ) → now ≤ after → (n : Node) → HasRoom now n → HasRoom after n
later_room now after le n h = record {
  held =
      let k = count_weaker Client (holds now) (holds after) (λ v l. earlier v.held l) n.clients.slots in
      let r = h.held in
      omega arith;
  live =
      let k = count_weaker ServerTransaction (is_live now) (is_live after) (λ d l. grind (arith, nat_tests)) n.servers.slots in
      let r = h.live in
      omega arith;
}
  where
    earlier : (y : TransactionSlot) → is_held after y ≡ true → is_held now y ≡ true
    earlier (Open t) l = refl
    earlier (Closed first) l = grind (arith, nat_tests)

fresh_room : (now : ℕ) (n : Node) → IsFreshNode n → HasRoom now n
fresh_room now n fresh = record {
  held = subst (λ l. count_by (is_slot_held now) l ≤ n.clients.capacity) (sym fresh.slots) (omega arith);
  live = subst (λ l. count_by (is_slot_live now) l ≤ n.servers.capacity) (sym fresh.entries) (omega arith);
}

-- Clocks.

-- each clock shows the milliseconds of its whole ticks
abbrev AreShown : Time → Type 0
AreShown t = (i : ℕ) → t.clocks i ≡ clock_at t.pace (t.clocks i).exact

-- and so it never shows less than before
goes_on_later : (p : Pace) (by own : ℕ) (c : Clock) → c ≡ clock_at p c.exact → c.shows ≤ (goes_on p by own c).shows
goes_on_later p by own c told =
    subst (λ (k : ℕ). k ≤ (goes_on p by own c).shows) (sym (ap (λ (y : Clock). y.shows) told))
    (mul-le-mul_left p.tick (divided c.exact (c.exact + steps p by own) (period p) (omega arith)))

with_shown : (t : Time) (i exact : ℕ) → AreShown t → AreShown (with_clock t i exact)
with_shown t i exact h j = go (nat_eq j i)
  where
    go : (b : Bool) → (if b then clock_at t.pace exact else t.clocks j) ≡ clock_at t.pace (if b then clock_at t.pace exact else t.clocks j).exact
    go true = refl
    go false = h j

-- Worlds.

with_room : (now : ℕ → ℕ) (old new : List Node) (i : ℕ) (b : Node) → IsWithNode old i b new → HasRoom (now i) b
    → ((j : ℕ) (n : Node) → (j ≡ i → ⊥) → slice_get old j ≡ Some n → HasRoom (now j) n) → (j : ℕ) (n : Node) → slice_get new j ≡ Some n → HasRoom (now j) n
with_room now old new i b nodes room h j n at = go (decide_number j i)
  where
    go : ((j ≡ i) ⊎ (j ≡ i → ⊥)) → HasRoom (now j) n
    go (inl is) =
        let e : Some b ≡ Some n = sym nodes.here ∙ ap (slice_get new) (sym is) ∙ at in
        let same : b ≡ n = cc in
        subst (λ (k : ℕ). HasRoom (now k) n) (sym is) (subst (HasRoom (now i)) same room)
    go (inr ne) = h j n ne (sym (nodes.others j ne) ∙ at)

-- where one node is another one and no time passes
still_room : (w w' : World) (i : ℕ) (b : Node) → IsWithNode w.nodes i b w'.nodes → w'.time ≡ w.time → HasRoom (told w i) b → HaveRoom w → HaveRoom w'
still_room w w' i b nodes time room h j n at = subst (λ (t : Time). HasRoom (t.clocks j).shows n) (sym time)
    (with_room (told w) w.nodes w'.nodes i b nodes room (λ k m ne there. h k m there) j n at)

hears_stays : (w w' : World) (i : ℕ) (from octets : Octets) → Hears w i from octets w' → HaveRoom w → HaveRoom w'
hears_stays w w' i from octets y h =
    still_room w w' i y.after y.acts.nodes y.acts.time (on_room (told w i) from octets y.before y.after y.outcome y.on (h i y.before y.at)) h

same_room : (w w' : World) → w' ≡ w → HaveRoom w → HaveRoom w'
same_room w w' same h = subst HaveRoom (sym same) h

-- a node that restarts holds nothing, and others are as they were
restart_room : (w w' : World) (i exact : ℕ) (b : Node) → IsWithNode w.nodes i b w'.nodes → w'.time ≡ with_clock w.time i exact
    → ((now : ℕ) → HasRoom now b) → HaveRoom w → HaveRoom w'
restart_room w w' i exact b nodes time room h j n at = subst (λ (t : Time). HasRoom (t.clocks j).shows n) (sym time)
    (with_room (λ k. ((with_clock w.time i exact).clocks k).shows) w.nodes w'.nodes i b nodes (room _) others j n at)
  where
    others : (k : ℕ) (m : Node) → (k ≡ i → ⊥) → slice_get w.nodes k ≡ Some m → HasRoom ((with_clock w.time i exact).clocks k).shows m
    others k m ne there = go (nat_eq k i) refl
      where
        go : (y : Bool) → nat_eq k i ≡ y → HasRoom (if y then clock_at w.time.pace exact else w.time.clocks k).shows m
        go true e = absurd (ne (grind (arith, nat_tests)))
        go false e = h k m there

-- a node that begins is as it was at its beginning
begin_room : (w w' : World) (i exact : ℕ) → IsBegun w i exact w' → AreIdle w.nodes w.lives → HaveRoom w → HaveRoom w'
begin_room w w' i exact s idle h = subst HaveRoom (sym s.is) (λ j n at. go j n at (nat_eq j i) refl)
  where
    go : (j : ℕ) (n : Node) → slice_get w.nodes j ≡ Some n → (y : Bool) → nat_eq j i ≡ y
        → HasRoom (if nat_eq j i then clock_at w.time.pace exact else w.time.clocks j).shows n
    go j n at true e =
        let is : j ≡ i = grind (arith, nat_tests) in
        fresh_room _ n (idle j n at (ap (λ (k : ℕ). (w.lives k).active) is ∙ s.first))
    go j n at false e = subst (λ (y : Bool). HasRoom (if y then clock_at w.time.pace exact else w.time.clocks j).shows n) (sym e) (h j n at)

step_room : (overtake : ℕ) (w w' : World) (e : Event) → WorldStep overtake w e w' → AreShown w.time → AreIdle w.nodes w.lives → HaveRoom w → HaveRoom w'
step_room overtake w w' (Event.Ask client server limits r) (inl s) shown idle h = still_room w w' client s.after s.nodes s.time
    (asks_room (told w client) _ limits r s.before s.after s.accepted s.sends s.asks (h client s.before s.at)) h
step_room overtake w w' (Event.Ask client server limits r) (inr s) shown idle h = same_room w w' s.same h
step_room overtake w w' (Event.AskAway client peer limits r) (inl s) shown idle h = still_room w w' client s.after s.nodes s.time
    (asks_room (told w client) _ limits r s.before s.after s.accepted s.sends s.asks (h client s.before s.at)) h
step_room overtake w w' (Event.AskAway client peer limits r) (inr s) shown idle h = same_room w w' s.same h
step_room overtake w w' (Deliver number) s shown idle h = go (is_deliverable overtake w.time.pace.life w.time.now number w.copies s.copy) s.goes
  where
    go : (b : Bool) → DeliversIf b w s.copy w' → HaveRoom w'
    go true d = hears_stays w w' s.copy.to d.link s.copy.octets d.hears h
    go false same = same_room w w' same h
step_room overtake w w' (Noise node from octets) (inl s) shown idle h = hears_stays w w' node from octets s.hears h
step_room overtake w w' (Noise node from octets) (inr s) shown idle h = same_room w w' s.same h
step_room overtake w w' (Stray node from octets) (inl s) shown idle h = hears_stays w w' node from octets s.hears h
step_room overtake w w' (Stray node from octets) (inr s) shown idle h = same_room w w' s.same h
step_room overtake w w' (Tick node) s shown idle h = still_room w w' node s.after s.acts.nodes s.acts.time
    (tick_room (told w node) s.before s.after s.outcome s.tick (h node s.before s.at)) h
step_room overtake w w' (Advance by own) s shown idle h = subst HaveRoom (sym s) (λ j n at. later_room (told w j)
    (goes_on w.time.pace by (own j) (w.time.clocks j)).shows (goes_on_later w.time.pace by (own j) (w.time.clocks j) (shown j)) n (h j n at))
step_room overtake w w' (Change node change) s shown idle h = still_room w w' node (with_change change s.before) s.nodes s.time
    (let room = h node s.before s.at in record { held = room.held; live = room.live }) h
step_room overtake w w' (Restart node exact store) s shown idle h =
    restart_room w w' node exact _ s.nodes s.time (λ now. record { held = omega arith; live = omega arith }) h
step_room overtake w w' (Begin node exact) s shown idle h = begin_room w w' node exact s idle h
step_room overtake w w' (BeginAgain node exact first_id store) s shown idle h =
    restart_room w w' node exact _ s.nodes s.time (λ now. record { held = omega arith; live = omega arith }) h

still_shown : (t u : Time) → u ≡ t → AreShown t → AreShown u
still_shown t u same h = subst AreShown (sym same) h

step_shown : (overtake : ℕ) (w w' : World) (e : Event) → WorldStep overtake w e w' → AreShown w.time → AreShown w'.time
step_shown overtake w w' (Event.Ask client server limits r) (inl s) h = still_shown w.time w'.time s.time h
step_shown overtake w w' (Event.Ask client server limits r) (inr s) h = still_shown w.time w'.time (ap (λ (y : World). y.time) s.same) h
step_shown overtake w w' (Event.AskAway client peer limits r) (inl s) h = still_shown w.time w'.time s.time h
step_shown overtake w w' (Event.AskAway client peer limits r) (inr s) h = still_shown w.time w'.time (ap (λ (y : World). y.time) s.same) h
step_shown overtake w w' (Deliver number) s h = go (is_deliverable overtake w.time.pace.life w.time.now number w.copies s.copy) s.goes
  where
    go : (b : Bool) → DeliversIf b w s.copy w' → AreShown w'.time
    go true d = still_shown w.time w'.time d.hears.acts.time h
    go false same = still_shown w.time w'.time (ap (λ (y : World). y.time) same) h
step_shown overtake w w' (Noise node from octets) (inl s) h = still_shown w.time w'.time s.hears.acts.time h
step_shown overtake w w' (Noise node from octets) (inr s) h = still_shown w.time w'.time (ap (λ (y : World). y.time) s.same) h
step_shown overtake w w' (Stray node from octets) (inl s) h = still_shown w.time w'.time s.hears.acts.time h
step_shown overtake w w' (Stray node from octets) (inr s) h = still_shown w.time w'.time (ap (λ (y : World). y.time) s.same) h
step_shown overtake w w' (Tick node) s h = still_shown w.time w'.time s.acts.time h
step_shown overtake w w' (Advance by own) s h = still_shown (passes w.time by own) w'.time (ap (λ (y : World). y.time) s) (λ i. refl)
step_shown overtake w w' (Change node change) s h = still_shown w.time w'.time s.time h
step_shown overtake w w' (Restart node exact store) s h = still_shown (with_clock w.time node exact) w'.time s.time (with_shown w.time node exact h)
step_shown overtake w w' (Begin node exact) s h =
    still_shown (with_clock w.time node exact) w'.time (ap (λ (y : World). y.time) s.is) (with_shown w.time node exact h)
step_shown overtake w w' (BeginAgain node exact first_id store) s h =
    still_shown (with_clock w.time node exact) w'.time s.time (with_shown w.time node exact h)

run_room : (overtake : ℕ) (events : List Event) (w w' : World) → WorldRun overtake w events w' → AreShown w.time → AreIdle w.nodes w.lives → HaveRoom w
    → HaveRoom w'
run_room overtake [] w w' run shown idle h = same_room w w' run h
run_room overtake (e ∷ es) w w' run shown idle h = run_room overtake es run.0 w' run.2 (step_shown overtake w run.0 e run.1 shown)
    (step_idle overtake w run.0 e run.1 idle) (step_room overtake w run.0 e run.1 shown idle h)

pub have_room : (overtake : ℕ) (events : List Event) (first old : World) → WorldRun overtake first events old → IsFresh first → HaveRoom old
have_room overtake events first old run fresh =
    run_room overtake events first old run fresh.clocks (λ j n at off. fresh.nodes j n at) (λ j n at. fresh_room (told first j) n (fresh.nodes j n at))
