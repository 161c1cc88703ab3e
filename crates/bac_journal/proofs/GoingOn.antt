-- What is known of each world that a run of a fresh one leads to.
use Rattle.std.proofs.Common.{◌≡◌, ℕ, suc, ◌+◌, ◌<◌, ◌≤◌, ◌⊎◌, Bool, true, false, List, [], ◌∷◌, Option, Some, None, slice_get, if◌then◌else◌}
use Rattle.std.proofs.Common.{length, min, nat_eq, nat_lt, refl, sym, ap, subst, inl, inr, ◌∙◌, arith}
use Rattle.std.proofs.lemmas.Bool.Decides.{nat_tests}
use Rattle.std.specs.Option.{option_map}
use Rattle.bac_apdu.specs.Apdu.{Apdu, Limits}
use Rattle.bac_npdu.specs.Peers.{PeerView}
use Rattle.bac_service.specs.Values.{Request, choice_of}
use Rattle.bac_service.specs.Services.{reads_reply}
use Rattle.bac_store.specs.AtNode as at_node
use Rattle.bac_protocol.specs.Context.{Settings}
use Rattle.bac_protocol.specs.Pace.{Clock, IsShown, IsTimely, clock_at, goes_on, most}
use Rattle.bac_protocol.specs.declared.times.TheConstants.{DEADLINE}
use Rattle.bac_protocol.specs.Service.{Octets, Readable}
use Rattle.bac_protocol.specs.Own.{invoke_id_of}
use Rattle.bac_protocol.specs.Wire.{is_from_client}
use Rattle.bac_protocol.specs.Transaction.{Rules}
use Rattle.bac_protocol.specs.World.{Net, Post, net_start}
use Rattle.bac_protocol.specs.Claims.{IsBounded as IsBoundedNet}
use Rattle.bac_protocol.proofs.Paces.{shown_at, shows_on}
use Rattle.bac_slots.specs.Slots.{value_at}
use Rattle.bac_transaction.specs.Keys.{PeerKey, same_key}
use Rattle.bac_transaction.specs.Ends.{Client, ClientEnd, TransactionSlot, Accepted, requester_on_apdu_at, requester_on_apdu_in_slot, key_of}
use Rattle.bac_transaction.specs.Ends.TransactionSlot.{Open, Closed}
use Rattle.bac_transaction.specs.Services.{service_of}
use Rattle.bac_world.specs.Node.{Node, Outcome, IsDropped, IsServerTurn, NodeTick, NodeAsks, with_change}
use Rattle.bac_world.specs.ReusingLogs.{IsOnceSo, Reuses}
use Rattle.bac_world.specs.ReusingNodes.{NodeHears}
use Rattle.bac_world.specs.ReusingWorlds.{DeliversIfSo, HearsSo, WorldRunSo, WorldStepSo}
use Rattle.bac_world.specs.World.{World, Time, Event, Copy, told, passes, with_clock, link_at, stores_of, peer_at, is_deliverable, IsWithNode, IsOutside, IsChanged, IsBegun}
use Rattle.bac_world.specs.World.{Life, with_act, with_life}
use Rattle.bac_world.specs.World.{Note}
use Rattle.bac_transaction.specs.Sends.{Datagram}
use Rattle.bac_world.specs.World.{WorldRun, IsFresh, IsBounded}
use Rattle.bac_world.specs.World.Event.{Ask, AskAway, Deliver, Noise, Stray, Tick, Advance, Change, Restart, Begin, BeginAgain}
use Rattle.bac_world.proofs.Pairs.{IsPaired, pairwise_get}
use Rattle.bac_world.proofs.Bridge.{IsCopyOf, IsBetween, framed_means, slot_key}
use Rattle.bac_world.proofs.Settings.{Mode, always, hears_at}
use Rattle.bac_world.proofs.Steps.{Over, decide_number, each_with}
use Rattle.bac_world.proofs.Asking.{accepted_is}
use Rattle.bac_world.proofs.Headline.{run_over_so, rules_of, rules_bounded, fresh_over, reached_once_more, long_bounded, room}
use Rattle.bac_world.specs.LongApdus.{AllAskLong, RepliesFit, TakeLongApdus}
use Rattle.bac_world.proofs.Heard.{IsHeardIn, IsHeardInBy, heard_in}
use Rattle.bac_world.proofs.AsEver.{run_as}
use Rattle.bac_journal.specs.Entering.{CanGoOn, CanGoOnSo, note_of, with_ticket, tickets_of}
use Rattle.bac_journal.proofs.Heard.{Enters, nothing_enters, server_enters, client_enters}
use Rattle.bac_journal.proofs.HeardOutside.{stranger_enters}
use Rattle.bac_journal.proofs.Ticked.{tick_enters, ask_enters}

-- What a call makes of a node's moment and of its count of asks.

record IsCounted (now : ℕ) (more : ℕ) (a b : Node) : Type 0 where
  latest : b.latest ≡ now
  asked : b.clients.asked ≡ a.clients.asked + more

no_more : (k : ℕ) → k ≡ k + 0
no_more k = omega arith

held_asked : (c : Settings) (r : Readable) (now : ℕ) (p : Apdu) (e : ClientEnd) (q : PeerKey) (k : ℕ) (y : TransactionSlot)
    → (requester_on_apdu_in_slot c r now p e q k y).end.asked ≡ e.asked
held_asked c r now p e q k (Closed first) = refl
held_asked c r now p e q k (Open t) = refl

slot_asked : (c : Settings) (r : Readable) (now : ℕ) (p : Apdu) (e : ClientEnd) (q : PeerKey) (s : Option Client)
    → (requester_on_apdu_at c r now p e q s).end.asked ≡ e.asked
slot_asked c r now p e q None = refl
slot_asked c r now p e q (Some s) = held_asked c r now p e q s.number s.held

heard_counted : (reuse up : Bool) (peer : PeerView) (p : Apdu) (now : ℕ) (a b : Node) (o : Outcome) → IsHeardInBy reuse up peer p now a b o
    → IsCounted now 0 a b
heard_counted reuse true peer p now a b o t = record {
  latest = ap (λ (n : Node). n.latest) t.1.node;
  asked = ap (λ (n : Node). n.clients.asked) t.1.node ∙ no_more a.clients.asked;
}
heard_counted reuse false peer p now a b o t = record {
  latest = ap (λ (n : Node). n.latest) t.node;
  asked = ap (λ (n : Node). n.clients.asked) t.node
      ∙ slot_asked a.settings reads_reply now p a.clients (key_of peer p) (value_at same_key (key_of peer p) a.clients.slots) ∙ no_more a.clients.asked;
}

on_counted : (reuse : Bool) (now : ℕ) (from octets : Octets) (a b : Node) (o : Outcome) → NodeHears reuse now from octets a b o → IsCounted now 0 a b
on_counted reuse now from octets a b o h = go (heard_in now from octets a b o reuse h)
  where
    go : IsDropped now from octets a b o ⊎ IsHeardIn reuse now from octets a b o → IsCounted now 0 a b
    go (inl d) = record {
      latest = ap (λ (n : Node). n.latest) d.node;
      asked = ap (λ (n : Node). n.clients.asked) d.node ∙ no_more a.clients.asked;
    }
    go (inr d) = heard_counted reuse (is_from_client d.apdu) d.peer d.apdu now a b o d.heard

tick_counted : (now : ℕ) (a b : Node) (o : Outcome) → NodeTick now a b o → IsCounted now 0 a b
tick_counted now a b o t = record {
  latest = ap (λ (n : Node). n.latest) t.node;
  asked = ap (λ (n : Node). n.clients.asked) t.node ∙ no_more a.clients.asked;
}

ask_counted : (now : ℕ) (peer : PeerView) (limits : Limits) (r : Request) (a b : Node) (accepted : Accepted) (ds : List _)
    → NodeAsks now peer limits r a b accepted ds → IsCounted now 1 a b
ask_counted now peer limits r a b accepted ds k =
    let parts = accepted_is a.settings now peer (choice_of r) k.octets a.clients accepted limits k.accepted in
    record {
      latest = ap (λ (n : Node). n.latest) k.node;
      asked = ap (λ (n : Node). n.clients.asked) k.node ∙ ap (λ (y : Accepted). y.end.asked) parts.is;
    }

-- Worlds whose nodes' moments and counts are right.

-- a clock is made of what it is exactly
record IsRightTime (t : Time) : Type 0 where
  some : 0 < t.pace.grain
  shown : (i : ℕ) → t.clocks i ≡ clock_at t.pace (t.clocks i).exact

record Tidy (w : World) : Type 0 where
  right : IsRightTime w.time
  punctual : (i : ℕ) (a : Node) → slice_get w.nodes i ≡ Some a → a.latest ≤ told w i
  counted : (i : ℕ) (a : Node) → slice_get w.nodes i ≡ Some a → a.clients.asked ≤ tickets_of i w.notes
  idle : (i : ℕ) (a : Node) → slice_get w.nodes i ≡ Some a → (w.lives i).active ≡ false → a.latest ≡ 0

-- something happens at one node
record Touches (w w' : World) (i : ℕ) : Type 0 where
  life : Life
  is : w'.lives ≡ with_life w.lives i life
  active : life.active ≡ true

acts_there : (w w' : World) (i : ℕ) → w'.lives ≡ with_act w.lives i → Touches w w' i
acts_there w w' i is = record { life = record { active = true; sends_until = (w.lives i).sends_until }; is = is; active = refl }

-- one node went on, and more asks of it were noted; the other nodes' clocks show the same
tidy_with : (w w' : World) → Tidy w → (i : ℕ) (b : Node) → Touches w w' i → IsWithNode w.nodes i b w'.nodes → IsRightTime w'.time
    → ((j : ℕ) → (j ≡ i → ⊥) → told w' j ≡ told w j) → b.latest ≡ told w' i → b.clients.asked ≤ tickets_of i w'.notes
    → ((j : ℕ) → (j ≡ i → ⊥) → tickets_of j w'.notes ≡ tickets_of j w.notes) → Tidy w'
tidy_with w w' t i b touches nodes right tells latest mine others = record {
  right = right;
  punctual = λ j c at'. later j c at' (decide_number j i);
  counted = λ j c at'. counts j c at' (decide_number j i);
  idle = λ j c at' off. unmoved j c at' (nat_eq j i) refl (subst (λ (f : ℕ → Life). (f j).active ≡ false) touches.is off);
}
  where
    here : (j : ℕ) (c : Node) → slice_get w'.nodes j ≡ Some c → j ≡ i → b ≡ c
    here j c at' is =
        let there : slice_get w'.nodes i ≡ Some c = subst (λ (k : ℕ). slice_get w'.nodes k ≡ Some c) is at' in
        let e : Some b ≡ Some c = sym nodes.here ∙ there in cc

    later : (j : ℕ) (c : Node) → slice_get w'.nodes j ≡ Some c → ((j ≡ i) ⊎ (j ≡ i → ⊥)) → c.latest ≤ told w' j
    later j c at' (inl is) =
        let e : c.latest ≡ told w' j = ap (λ (n : Node). n.latest) (sym (here j c at' is)) ∙ latest ∙ ap (told w') (sym is) in
        omega arith
    later j c at' (inr ne) =
        let e : c.latest ≤ told w j = t.punctual j c (sym (nodes.others j ne) ∙ at') in
        let same : told w' j ≡ told w j = tells j ne in
        omega arith

    unmoved : (j : ℕ) (c : Node) → slice_get w'.nodes j ≡ Some c → (b : Bool) → nat_eq j i ≡ b
        → (if b then touches.life else w.lives j).active ≡ false → c.latest ≡ 0
    unmoved j c at' true e off = absurd (let no : true ≡ false = sym touches.active ∙ off in cc)
    unmoved j c at' false e off =
        t.idle j c (sym (nodes.others j (λ same. let is : j ≡ i = same in grind (arith, nat_tests))) ∙ at') off

    counts : (j : ℕ) (c : Node) → slice_get w'.nodes j ≡ Some c → ((j ≡ i) ⊎ (j ≡ i → ⊥)) → c.clients.asked ≤ tickets_of j w'.notes
    counts j c at' (inl is) = subst (λ (k : ℕ). c.clients.asked ≤ tickets_of k w'.notes) (sym is)
        (subst (λ (n : Node). n.clients.asked ≤ tickets_of i w'.notes) (here j c at' is) mine)
    counts j c at' (inr ne) = subst (λ (k : ℕ). c.clients.asked ≤ k) (sym (others j ne)) (t.counted j c (sym (nodes.others j ne) ∙ at'))

-- where time stays
tidy_still : (w w' : World) → Tidy w → (i : ℕ) (b : Node) → Touches w w' i → IsWithNode w.nodes i b w'.nodes → w'.time ≡ w.time → b.latest ≡ told w i
    → b.clients.asked ≤ tickets_of i w'.notes → ((j : ℕ) → (j ≡ i → ⊥) → tickets_of j w'.notes ≡ tickets_of j w.notes) → Tidy w'
tidy_still w w' t i b touches nodes time latest mine others = tidy_with w w' t i b touches nodes (subst IsRightTime (sym time) t.right) (λ j ne. tells j)
    (latest ∙ sym (tells i)) mine others
  where
    tells : (j : ℕ) → told w' j ≡ told w j
    tells j = ap (λ (y : Time). (y.clocks j).shows) time

tidy_acts : (w w' : World) → Tidy w → (i : ℕ) (a b : Node) → Touches w w' i → slice_get w.nodes i ≡ Some a → IsWithNode w.nodes i b w'.nodes → w'.time ≡ w.time
    → w'.notes ≡ w.notes → IsCounted (told w i) 0 a b → Tidy w'
tidy_acts w w' t i a b touches at nodes time notes f = tidy_still w w' t i b touches nodes time f.latest
    (subst (λ notes. b.clients.asked ≤ tickets_of i notes) (sym notes) as_many) (λ j ne. ap (tickets_of j) notes)
  where
    as_many : b.clients.asked ≤ tickets_of i w.notes
    as_many =
        let same : b.clients.asked ≡ a.clients.asked + 0 = f.asked in
        let was : a.clients.asked ≤ tickets_of i w.notes = t.counted i a at in
        omega arith

tidy_hears : (reuse : Bool) (w w' : World) → Tidy w → (i : ℕ) (from octets : Octets) → HearsSo reuse w i from octets w' → Tidy w'
tidy_hears reuse w w' t i from octets h = tidy_acts w w' t i h.before h.after (acts_there w w' i h.acts.lives) h.at h.acts.nodes h.acts.time h.acts.notes
    (on_counted reuse (told w i) from octets h.before h.after h.outcome h.on)

-- a ticket is among those with it
pub counts_it : (ticket tickets : ℕ) → ticket + 1 ≤ with_ticket ticket tickets
counts_it ticket tickets = go (nat_lt ticket tickets) refl
  where
    go : (b : Bool) → nat_lt ticket tickets ≡ b → ticket + 1 ≤ (if b then tickets else suc ticket)
    go true e = grind (arith, nat_tests)
    go false e = omega arith

self : (i : ℕ) → nat_eq i i ≡ true
self i = grind (arith, nat_tests)

away : (i j : ℕ) → (i ≡ j → ⊥) → nat_eq i j ≡ false
away i j ne = go (nat_eq i j) refl
  where
    go : (b : Bool) → nat_eq i j ≡ b → b ≡ false
    go true e = absurd (ne (grind (arith, nat_tests)))
    go false e = refl

-- an ask of a peer was noted
module _ (w w' : World) (t : Tidy w) (i : ℕ) (touches : Touches w w' i) (peer : PeerView) (limits : Limits) (r : Request) (a b : Node) (at : slice_get w.nodes i ≡ Some a)
    (accepted : Accepted) (ds : List Datagram) (k : NodeAsks (told w i) peer limits r a b accepted ds) (nodes : IsWithNode w.nodes i b w'.nodes)
    (time : w'.time ≡ w.time) (note : Note) (client : note.key.client ≡ i) (ticket : note.ticket ≡ accepted.ticket) (notes : w'.notes ≡ note ∷ w.notes) where
  counted : IsCounted (told w i) 1 a b
  counted = ask_counted (told w i) peer limits r a b accepted ds k

  ticket_is : accepted.ticket ≡ a.clients.asked
  ticket_is =
      let parts = accepted_is a.settings (told w i) peer (choice_of r) k.octets a.clients accepted limits k.accepted in
      ap (λ (y : Accepted). y.ticket) parts.is

  one_more : b.clients.asked ≤ with_ticket note.ticket (tickets_of i w.notes)
  one_more =
      let next : b.clients.asked ≡ a.clients.asked + 1 = counted.asked in
      let many : note.ticket + 1 ≤ with_ticket note.ticket (tickets_of i w.notes) = counts_it note.ticket (tickets_of i w.notes) in
      let same = ticket_is in
      omega arith

  abbrev tickets_in : Bool → ℕ → ℕ
  tickets_in y j = if y then with_ticket note.ticket (tickets_of j w.notes) else tickets_of j w.notes

  tidy_noted : Tidy w'
  tidy_noted = tidy_still w w' t i b touches nodes time counted.latest
      (subst (λ notes'. b.clients.asked ≤ tickets_of i notes') (sym notes)
      (subst (λ (y : Bool). b.clients.asked ≤ tickets_in y i) (sym (ap (λ (c : ℕ). nat_eq c i) client ∙ self i)) one_more))
      (λ j ne. ap (tickets_of j) notes ∙ ap (λ y. tickets_in y j) (ap (λ (c : ℕ). nat_eq c j) client ∙ away i j (λ is. ne (sym is))))

tidy_changed : (w w' : World) → Tidy w → (i : ℕ) (c : at_node.Change) → IsChanged w i c w' → Tidy w'
tidy_changed w w' t i c k = record {
  right = subst IsRightTime (sym k.time) t.right;
  punctual = λ j a at. subst (λ (y : Time). a.latest ≤ (y.clocks j).shows) (sym k.time) (each_with (λ m b. b.latest ≤ told w m) w.nodes w'.nodes i
      (with_change c k.before) k.nodes (t.punctual i k.before k.at) t.punctual j a at);
  counted = λ j a at. subst (λ notes. a.clients.asked ≤ tickets_of j notes) (sym k.notes)
      (each_with (λ m b. b.clients.asked ≤ tickets_of m w.notes) w.nodes w'.nodes i
      (with_change c k.before) k.nodes (t.counted i k.before k.at) t.counted j a at);
  idle = λ j a at off. each_with (λ m b. (w.lives m).active ≡ false → b.latest ≡ 0) w.nodes w'.nodes i (with_change c k.before) k.nodes
      (t.idle i k.before k.at) t.idle j a at (subst (λ (f : ℕ → Life). (f j).active ≡ false) k.lives off);
}

-- a node's new clock is right, and so are the others
anew_right : (t : Time) → IsRightTime t → (i exact : ℕ) → IsRightTime (with_clock t i exact)
anew_right t right i exact = record { some = right.some; shown = λ j. go (nat_eq j i) (t.clocks j) (right.shown j) }
  where
    go : (b : Bool) (c : Clock) → c ≡ clock_at t.pace c.exact
        → (if b then clock_at t.pace exact else c) ≡ clock_at t.pace (if b then clock_at t.pace exact else c).exact
    go true c e = refl
    go false c e = e

-- a node began with a new clock, and with no tickets
tidy_anew : (w w' : World) → Tidy w → (i exact : ℕ) (b : Node) → Touches w w' i → IsWithNode w.nodes i b w'.nodes → w'.time ≡ with_clock w.time i exact
    → w'.notes ≡ w.notes → b.latest ≡ (clock_at w.time.pace exact).shows → b.clients.asked ≡ 0 → Tidy w'
tidy_anew w w' t i exact b touches nodes time notes latest asked = tidy_with w w' t i b touches nodes
    (subst IsRightTime (sym time) (anew_right w.time t.right i exact)) others (latest ∙ here) (omega arith) (λ j ne. ap (tickets_of j) notes)
  where
    new_clock : Bool → ℕ → ℕ
    new_clock b j = (if b then clock_at w.time.pace exact else w.time.clocks j).shows

    tells : (j : ℕ) → told w' j ≡ new_clock (nat_eq j i) j
    tells j = ap (λ (y : Time). (y.clocks j).shows) time

    others : (j : ℕ) → (j ≡ i → ⊥) → told w' j ≡ told w j
    others j ne = tells j ∙ ap (λ b. new_clock b j) (away j i ne)

    here : (clock_at w.time.pace exact).shows ≡ told w' i
    here = sym (tells i ∙ ap (λ b. new_clock b i) (self i))

tidy_begun : (w w' : World) → Tidy w → (i exact : ℕ) → IsBegun w i exact w' → Tidy w'
tidy_begun w w' t i exact k = subst Tidy (sym k.is) (record {
  right = anew_right w.time t.right i exact;
  punctual = λ j a at. later j a at (nat_eq j i) refl;
  counted = t.counted;
  idle = t.idle;
})
  where
    later : (j : ℕ) (a : Node) → slice_get w.nodes j ≡ Some a → (b : Bool) → nat_eq j i ≡ b
        → a.latest ≤ (if nat_eq j i then clock_at w.time.pace exact else w.time.clocks j).shows
    later j a at true e =
        let is : j ≡ i = grind (arith, nat_tests) in
        let first : a.latest ≡ 0 = t.idle j a at (ap (λ (l : ℕ). (w.lives l).active) is ∙ k.first) in omega arith
    later j a at false e = subst (λ (b : Bool). a.latest ≤ (if b then clock_at w.time.pace exact else w.time.clocks j).shows) (sym e) (t.punctual j a at)

-- clocks go on
tidy_later : (w : World) → Tidy w → (by : ℕ) (own : ℕ → ℕ) → Tidy (record w { time = passes w.time by own })
tidy_later w t by own = record {
  right = record { some = t.right.some; shown = λ i. refl };
  punctual = λ i a at.
      let was : a.latest ≤ told w i = t.punctual i a at in
      let on : told w i ≤ (goes_on w.time.pace by (own i) (w.time.clocks i)).shows = later i in
      omega arith;
  counted = t.counted;
  idle = t.idle;
}
  where
    later : (i : ℕ) → told w i ≤ (goes_on w.time.pace by (own i) (w.time.clocks i)).shows
    later i = shows_on w.time.pace t.right.some by (own i) (w.time.clocks i)
        (subst (IsShown w.time.pace) (sym (t.right.shown i)) (shown_at w.time.pace t.right.some (w.time.clocks i).exact))

tidy_delivered : (b : Bool) (u : Reuses) (w : World) (c : Copy) (w' : World) → Tidy w → DeliversIfSo b u w c w' → Tidy w'
tidy_delivered true u w c w' t d = tidy_hears (u c.to) w w' t c.to d.link c.octets d.hears
tidy_delivered false u w c w' t same = subst Tidy (sym same) t

tidy_step : (overtake : ℕ) (u : Reuses) (w w' : World) (e : Event) → Tidy w → WorldStepSo overtake u w e w' → Tidy w'
tidy_step overtake u w w' (Ask client server limits r) t (inl s) = tidy_noted w w' t client
    (record { life = record { active = true; sends_until = w.time.now + most w.time.pace DEADLINE + 1 }; is = s.lives; active = refl }) (peer_at s.link) limits r s.before s.after s.at s.accepted s.sends s.asks
    s.nodes s.time (note_of client server s.accepted.invoke_id s.accepted.ticket) refl refl s.notes
tidy_step overtake u w w' (Ask client server limits r) t (inr s) = subst Tidy (sym s.same) t
tidy_step overtake u w w' (AskAway client peer limits r) t (inl s) = tidy_noted w w' t client (acts_there w w' client s.lives) peer limits r s.before s.after s.at s.accepted s.sends s.asks
    s.nodes s.time
    (record { key = record { client = client; server = 0; invoke_id = s.accepted.invoke_id }; ticket = s.accepted.ticket; away = Some peer }) refl refl s.notes
tidy_step overtake u w w' (AskAway client peer limits r) t (inr s) = subst Tidy (sym s.same) t
tidy_step overtake u w w' (Deliver number) t s =
    tidy_delivered (is_deliverable overtake w.time.pace.life w.time.now number w.copies s.copy) u w s.copy w' t s.goes
tidy_step overtake u w w' (Noise node from octets) t (inl s) = tidy_hears (u node) w w' t node from octets s.hears
tidy_step overtake u w w' (Noise node from octets) t (inr s) = subst Tidy (sym s.same) t
tidy_step overtake u w w' (Stray node from octets) t (inl s) = tidy_hears (u node) w w' t node from octets s.hears
tidy_step overtake u w w' (Stray node from octets) t (inr s) = subst Tidy (sym s.same) t
tidy_step overtake u w w' (Tick node) t s =
    tidy_acts w w' t node s.before s.after (acts_there w w' node s.acts.lives) s.at s.acts.nodes s.acts.time s.acts.notes
    (tick_counted (told w node) s.before s.after s.outcome s.tick)
tidy_step overtake u w w' (Advance by own) t s = subst Tidy (sym s) (tidy_later w t by own)
tidy_step overtake u w w' (Change node change) t s = tidy_changed w w' t node change s
tidy_step overtake u w w' (Restart node exact store) t s = tidy_anew w w' t node exact _
    (record { life = record { active = true; sends_until = min (w.lives node).sends_until (w.time.now + 1) }; is = s.lives; active = refl }) s.nodes s.time s.notes
    refl refl
tidy_step overtake u w w' (Begin node exact) t s = tidy_begun w w' t node exact s
tidy_step overtake u w w' (BeginAgain node exact first_id store) t s = tidy_anew w w' t node exact _ (acts_there w w' node s.lives) s.nodes s.time s.notes refl refl

tidy_run : (overtake : ℕ) (u : Reuses) (events : List Event) (w w' : World) → Tidy w → WorldRunSo overtake u w events w' → Tidy w'
tidy_run overtake u [] w w' t run = subst Tidy (sym run) t
tidy_run overtake u (e ∷ es) w w' t run = tidy_run overtake u es run.0 w' (tidy_step overtake u w run.0 e t run.1) run.2

tidy_fresh : (w : World) → IsFresh w → IsTimely w.time.pace → Tidy w
tidy_fresh w f timely = record {
  right = record { some = timely.some; shown = f.clocks };
  punctual = λ i a at. let e : a.latest ≡ 0 = (f.nodes i a at).latest in omega arith;
  counted = λ i a at. let e : a.clients.asked ≡ 0 = (f.nodes i a at).asked in omega arith;
  idle = λ i a at off. (f.nodes i a at).latest;
}

-- All of it.

node_there : (nodes : List Node) (i : ℕ) (l : Octets) → link_at nodes i ≡ Some l → (a : Node) × (slice_get nodes i ≡ Some a)
node_there nodes i l at = go (slice_get nodes i) refl at
  where
    go : (o : Option Node) → slice_get nodes i ≡ o → option_map (λ (n : Node). n.link) o ≡ Some l → (a : Node) × (slice_get nodes i ≡ Some a)
    go None e f = absurd cc
    go (Some a) e f = (a, e)

module _ (links : ℕ → Option Octets) (apart : (i j : ℕ) (l : Octets) → links i ≡ Some l → links j ≡ Some l → i ≡ j) (W : ℕ) (x : Rules)
    (bound : IsBoundedNet W x) (mode : Mode) (w : World) (n : Net) (h : Over links apart W x (Some mode) w n) where
  abbrev u : Reuses
  u = mode.now

  Result : ℕ → Node → Outcome → Type 0
  Result = Enters links apart W x bound mode w n h

  copied : (number : ℕ) (c : Copy) → slice_get w.copies number ≡ Some c → IsPaired (IsCopyOf links apart) n.posts number c
  copied number c at = pairwise_get (IsCopyOf links apart) n.posts w.copies number c h.posts at

  by_way : (number : ℕ) (p : Post) (c : Copy) → slice_get n.posts number ≡ Some p → IsCopyOf links apart p c → (a b : Node) (o : Outcome)
      → slice_get w.nodes c.to ≡ Some a → (l : Octets) → links c.from ≡ Some l → (up : Bool) → IsBetween up p.key c.from c.to
      → IsHeardInBy (u c.to) up (peer_at l) p.copy.apdu (told w c.to) a b o → Enters links apart W x bound mode w n h c.to b o
  by_way number p c at k a b o node l link true between turn =
      subst (λ (i : ℕ). Enters links apart W x bound mode w n h i b o) (sym between.1)
      (server_enters links apart W x bound mode w n h number p at a b o (subst (λ (i : ℕ). slice_get w.nodes i ≡ Some a) between.1 node) l
      (subst (λ (i : ℕ). links i ≡ Some l) between.0 link) k.invoke (service_of a.store) turn.0
      (subst (λ (i : ℕ). IsServerTurn (hears_at turn.0 (u i) a.settings (told w i) (service_of a.store) (slot_key l (invoke_id_of p.copy.apdu)) p.copy.apdu a.servers)
      (told w i) a b o) between.1 turn.1))
  by_way number p c at k a b o node l link false between turn =
      subst (λ (i : ℕ). Enters links apart W x bound mode w n h i b o) (sym between.1)
      (client_enters links apart W x bound mode w n h p a b o (subst (λ (i : ℕ). slice_get w.nodes i ≡ Some a) between.1 node) l
      (subst (λ (i : ℕ). links i ≡ Some l) between.0 link) k.invoke
      (subst (λ (i : ℕ). IsHeardInBy (u i) false (peer_at l) p.copy.apdu (told w i) a b o) between.1 turn))

  pub copy_enters : (number : ℕ) (c : Copy) → slice_get w.copies number ≡ Some c → (l : Octets) → link_at w.nodes c.from ≡ Some l → (a b : Node) (o : Outcome)
      → slice_get w.nodes c.to ≡ Some a → NodeHears (u c.to) (told w c.to) l c.octets a b o → Enters links apart W x bound mode w n h c.to b o
  copy_enters number c at l link a b o node on = go (heard_in (told w c.to) l c.octets a b o (u c.to) on)
    where
      go : IsDropped (told w c.to) l c.octets a b o ⊎ IsHeardIn (u c.to) (told w c.to) l c.octets a b o → Enters links apart W x bound mode w n h c.to b o
      go (inl d) = nothing_enters links apart W x bound mode w n h c.to b o
          (ap (λ (y : Outcome). y.sends) d.outcome) (ap (λ (y : Outcome). y.ended) d.outcome) (ap (λ (y : Outcome). y.performed) d.outcome)
      go (inr d) =
          let p = copied number c at in
          let one = framed_means l p.goes.to_link p.other.copy.apdu d.apdu d.peer c.octets p.goes.frame p.goes.short d.means in
          by_way number p.other c p.there p.goes a b o node l (sym (h.linked c.from) ∙ link) (is_from_client p.other.copy.apdu) p.goes.between
          (subst (λ (q : PeerView). IsHeardInBy (u c.to) (is_from_client p.other.copy.apdu) q p.other.copy.apdu (told w c.to) a b o) one.0
          (subst (λ (y : Apdu). IsHeardInBy (u c.to) (is_from_client y) d.peer y (told w c.to) a b o) one.1 d.heard))

  pub outside_enters : (i : ℕ) (from octets : Octets) → IsOutside w.nodes from octets → (a b : Node) (o : Outcome) → slice_get w.nodes i ≡ Some a
      → NodeHears (u i) (told w i) from octets a b o → Enters links apart W x bound mode w n h i b o
  outside_enters i from octets out a b o node on = go out (heard_in (told w i) from octets a b o (u i) on)
    where
      go : IsOutside w.nodes from octets → IsDropped (told w i) from octets a b o ⊎ IsHeardIn (u i) (told w i) from octets a b o
          → Enters links apart W x bound mode w n h i b o
      go out (inl d) = nothing_enters links apart W x bound mode w n h i b o
          (ap (λ (y : Outcome). y.sends) d.outcome) (ap (λ (y : Outcome). y.ended) d.outcome) (ap (λ (y : Outcome). y.performed) d.outcome)
      go (inr noise) (inr d) = absurd (noise d.peer d.apdu d.means)
      go (inl foreign) (inr d) = stranger_enters links apart W x bound mode w n h i d.peer d.apdu
          (λ k at. foreign k (h.linked k ∙ at ∙ ap (λ (q : PeerView). Some q.link) d.means.carries.sender)) a b o node (is_from_client d.apdu) d.heard

  opens : Tidy w → (overtake : ℕ) → CanGoOnSo u W overtake w
  opens t overtake = record {
    punctual = t.punctual;
    counted = t.counted;
    from = λ number c at. node_there w.nodes c.from (copied number c at).goes.from_link (h.linked c.from ∙ (copied number c at).goes.from_at);
    to = λ number c at. node_there w.nodes c.to (copied number c at).goes.to_link (h.linked c.to ∙ (copied number c at).goes.to_at);
    hears = λ number c at young l link a b o node on.
        let e = copy_enters number c at l link a b o node on in (e.can, e.few, e.one);
    outside = λ i from octets out a b o node on. let e = outside_enters i from octets out a b o node on in (e.can, e.few, e.one);
    ticks = tick_enters links apart W x bound mode w n h;
    asks = ask_enters links apart W x bound mode w n h;
  }

pub runs_can_go_on_so : (u : Reuses) (W overtake : ℕ) (w w' : World) → IsFresh w → IsTimely w.time.pace → IsBounded W overtake w → (events : List Event)
    → WorldRunSo overtake u w events w' → CanGoOnSo u W overtake w'
runs_can_go_on_so u W overtake w w' f timely b events run =
    let x = rules_of overtake w in
    let bound = rules_bounded W overtake w b in
    let reached = run_over_so (link_at w.nodes) f.apart W x (Some (always u)) bound refl (stores_of w.nodes) events w w'
    (net_start w.time.pace (λ i. (w.time.clocks i).exact)) (fresh_over (Some (always u)) W overtake w f timely b)
    (subst (λ l. IsOnceSo u (stores_of w.nodes) l (stores_of w.nodes)) (sym f.log) (λ node. refl)) run in
    opens (link_at w.nodes) f.apart W x bound (always u) w' reached.0 reached.1 (tidy_run overtake u events w w' (tidy_fresh w f timely) run) overtake

-- where no invoke ID is used again
pub runs_can_go_on : (W overtake : ℕ) (w w' : World) → IsFresh w → IsTimely w.time.pace → IsBounded W overtake w → (events : List Event)
    → WorldRun overtake w events w' → CanGoOn W overtake w'
runs_can_go_on W overtake w w' f timely b events run =
    runs_can_go_on_so (λ node. false) W overtake w w' f timely b events (run_as overtake w events w' run)

-- where all nodes take APDUs of 480 octets or more, whatever overtakes what; and after one event more
pub runs_can_go_on_long : (u : Reuses) (W overtake : ℕ) (w w' : World) → IsFresh w → IsTimely w.time.pace → TakeLongApdus W w → (events : List Event)
    → AllAskLong events → WorldRunSo overtake u w events w' → RepliesFit w'.log → (more : List Event) (v : World) → length more ≤ 1
    → WorldRunSo overtake u w' more v → CanGoOnSo u W overtake v
runs_can_go_on_long u W overtake w w' f timely t events asks run fits more v few last =
    let reached = reached_once_more (Some (always u)) W overtake w w' f timely t events asks run fits more v few last in
    opens (link_at w.nodes) f.apart W (rules_of (room W) w) (rules_bounded W (room W) w (long_bounded W w t)) (always u) v reached.0 reached.1
    (tidy_run overtake u more w' v (tidy_run overtake u events w w' (tidy_fresh w f timely) run) last) overtake
