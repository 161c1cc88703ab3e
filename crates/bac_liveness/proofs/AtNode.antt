-- Each ask ends, at its node.
use Rattle.std.proofs.Common.{◌≡◌, ◌⊎◌, ℕ, suc, ◌+◌, ◌-◌, ◌<◌, Bool, true, false, List, [], ◌∷◌, ◌++◌, Option, Some, None, slice_get, if◌then◌else◌, nat_eq}
use Rattle.std.proofs.Common.{refl, sym, ap, subst, inl, inr, ◌∙◌, arith}
use Rattle.std.proofs.lemmas.Bool.Decides.{nat_tests}
use Rattle.bac_service.specs.Services.{reads_reply}
use Rattle.bac_protocol.specs.declared.times.TheConstants.{DEADLINE}
use Rattle.bac_protocol.specs.Context.{Context}
use Rattle.bac_protocol.specs.Service as machine
use Rattle.bac_protocol.specs.Service.{Octets}
use Rattle.bac_protocol.specs.Client as client
use Rattle.bac_protocol.specs.Client.{ClientTransaction, Reaction, is_idle, is_expired, client_on_apdu, client_ticks}
use Rattle.bac_protocol.specs.Client.Reaction.{Stays, Ends}
use Rattle.bac_protocol.specs.Transaction.{Key, Rules}
use Rattle.bac_protocol.specs.Pace.{IsTimely}
use Rattle.bac_protocol.specs.World.{Net, is_lost}
use Rattle.bac_protocol.specs.Claims as claims
use Rattle.bac_slots.specs.Slots.{value_at, in_order, IsApart, IsDistinct}
use Rattle.bac_transaction.specs.Keys.{PeerKey, peer_key_cmp, same_key}
use Rattle.bac_transaction.specs.Sends.{Pairwise}
use Rattle.bac_transaction.specs.Meanings as plain
use Rattle.bac_transaction.specs.Meanings.{EndedView, IsEndedView, MeansEnding}
use Rattle.bac_transaction.specs.Ends.{Client, TransactionSlot, ClientSlot, Ended, context_of, from_each, client_tick_ends, requester_on_apdu_at, key_of, kept}
use Rattle.bac_transaction.specs.Ends.{ended_with}
use Rattle.bac_transaction.specs.Ends.TransactionSlot.{Open, Closed}
use Rattle.bac_transaction.proofs.KeyedSlots.{EachSlot, changed_value, value_changed, with_same, slot, decide_slot_key, apart_none, found_first, passed_first}
use Rattle.bac_transaction.proofs.KeyedSlots.{distinct_in_order, each_in_order, found_in_order, each_at}
use Rattle.bac_world.specs.Node.{Node, Outcome, NodeTick, IsHeardBy, IsClientTurn}
use Rattle.bac_world.specs.World.{World, WorldRun, Event, IsFresh, IsBounded, ask_of, is_away, peer_at, link_at, stores_of}
use Rattle.bac_world.proofs.Bridge.{here_at, IsKnown, IsStranger, TicketFits, slot_key, out_key, newest_near, key_of as node_key}
use Rattle.bac_world.proofs.Machines.{away_apart}
use Rattle.bac_world.proofs.Pairs.{IsSplit, pairwise_split, pairwise_none}
use Rattle.bac_world.proofs.ClientTick.{client_tick}
use Rattle.bac_world.proofs.Hearing.{ticket_at, out_one}
use Rattle.bac_world.proofs.NodeLaws.{heard_as}
use Rattle.bac_world.proofs.Steps.{Over}
use Rattle.bac_world.proofs.AsEver.{run_as}
use Rattle.bac_world.proofs.Headline.{fresh_over, rules_of, rules_bounded, run_over_so}
use Rattle.bac_world.proofs.Settings.{Setting, always, reuses_in}
use Rattle.bac_world.specs.ReusingLogs.{Reuses}
use Rattle.bac_world.specs.ReusingWorlds.{WorldRunSo}
use Rattle.bac_liveness.specs.WorldEnds.{IsOpen, finishes_of, expired, HasFinish, HasTicketsApart, TickEnds, AnswerEnds, NodesAreInOrder}
use Rattle.bac_liveness.proofs.Serving.{late_gets}
use Rattle.bac_liveness.proofs.Endings.{not_from_client}
use Rattle.bac_liveness.proofs.Followers.{are_numbered}
use Rattle.bac_liveness.proofs.WorldEndings.{opened, tick_leaves, opened_net, opened_once}

-- Lists of endings.

finishes_join : (number : ℕ) (fs gs : List EndedView) → finishes_of number (fs ++ gs) ≡ finishes_of number fs + finishes_of number gs
finishes_join number [] gs = omega arith
finishes_join number (f ∷ fs) gs = go (nat_eq f.ticket number) (finishes_join number fs gs)
  where
    go : (b : Bool) → finishes_of number (fs ++ gs) ≡ finishes_of number fs + finishes_of number gs
        → (if b then suc (finishes_of number (fs ++ gs)) else finishes_of number (fs ++ gs))
        ≡ (if b then suc (finishes_of number fs) else finishes_of number fs) + finishes_of number gs
    go true e = omega (arith, e)
    go false e = e

has_left : (f : EndedView) (fs gs : List EndedView) → HasFinish f fs → HasFinish f (fs ++ gs)
has_left f [] gs h = absurd h
has_left f (g ∷ fs) gs (inl e) = inl e
has_left f (g ∷ fs) gs (inr h) = inr (has_left f fs gs h)

has_right : (f : EndedView) (fs gs : List EndedView) → HasFinish f gs → HasFinish f (fs ++ gs)
has_right f [] gs h = h
has_right f (g ∷ fs) gs h = inr (has_right f fs gs h)

abbrev finish : ℕ → plain.Ending → EndedView
finish number how = record { ticket = number; how = how }

-- what has ended as Expired
pub record IsOnlyExpired (number : ℕ) (fs : List EndedView) : Type 0 where
  pub has : HasFinish (expired number) fs
  pub once : finishes_of number fs ≡ 1

only_expired : (number choice : ℕ) (fs : List EndedView) → Pairwise IsEndedView (ended_with number choice (Some machine.Ending.Expired)) fs
    → IsOnlyExpired number fs
only_expired number choice [] h = absurd h
only_expired number choice (f ∷ g ∷ fs) h = absurd h.1
only_expired number choice (f ∷ []) h = record { has = inl (go f.how h.0.how); once = one (nat_eq f.ticket number) refl }
  where
    go : (how : plain.Ending) → MeansEnding choice machine.Ending.Expired how → finish f.ticket how ≡ expired number
    go plain.Ending.Expired m = ap (λ (k : ℕ). finish k plain.Ending.Expired) h.0.ticket
    go (plain.Ending.Answered p) m = absurd m
    go (plain.Ending.Rejected a) m = absurd m
    go (plain.Ending.Aborted a) m = absurd m
    go plain.Ending.TimedOut m = absurd m

    one : (b : Bool) → nat_eq f.ticket number ≡ b → (if b then suc 0 else 0) ≡ 1
    one true e = refl
    one false e = let same : f.ticket ≡ number = h.0.ticket in absurd (grind (arith, nat_tests))

others_end : (number k choice : ℕ) (o : Option machine.Ending) (fs : List EndedView) → (k ≡ number → ⊥) → Pairwise IsEndedView (ended_with k choice o) fs
    → finishes_of number fs ≡ 0
others_end number k choice None [] ne h = refl
others_end number k choice None (f ∷ fs) ne h = absurd h
others_end number k choice (Some how) [] ne h = absurd h
others_end number k choice (Some how) (f ∷ g ∷ fs) ne h = absurd h.1
others_end number k choice (Some how) (f ∷ []) ne h = go (nat_eq f.ticket number) refl
  where
    go : (b : Bool) → nat_eq f.ticket number ≡ b → (if b then suc 0 else 0) ≡ 0
    go false e = refl
    go true e =
        let same : f.ticket ≡ k = h.0.ticket in
        let is : f.ticket ≡ number = grind (arith, nat_tests) in
        absurd (ne (sym same ∙ is))

-- A ticket that is too old.

late_ticks : (c : Context) (t : ClientTransaction) → is_idle t.phase ≡ false → DEADLINE < c.now - t.ask.first
    → client_ticks c t ≡ Ends [] machine.Ending.Expired
late_ticks c t going late =
    ap (λ (b : Bool). if b then Stays else if is_expired c.now t.ask then Ends [] machine.Ending.Expired else client.open_ticks c t t.phase) going
    ∙ ap (λ (b : Bool). if b then Ends [] machine.Ending.Expired else client.open_ticks c t t.phase) expires
  where
    expires : is_expired c.now t.ask ≡ true
    expires = grind (arith, nat_tests)

-- In a tick.

module _ (now : ℕ) (old : Node) (apart : HasTicketsApart old) (key : PeerKey) (number : ℕ) (t : ClientTransaction) (there : IsOpen old key number t)
    (late : DEADLINE < now - t.ask.first) where
  abbrev ends : ClientSlot → List Ended
  ends = client_tick_ends old.settings now

  -- the slots of the client, each found at its key
  abbrev Own : PeerKey → Client → Type 0
  Own q v = value_at same_key q old.clients.slots ≡ Some v

  -- another slot's ticket is another one
  other_ends : (q : PeerKey) (begin k : ℕ) (y : TransactionSlot) (fs : List EndedView) → (q ≡ key → ⊥) → Own q (record { number = k; held = y })
      → Pairwise IsEndedView (ends (slot Client q begin (record { number = k; held = y }))) fs → finishes_of number fs ≡ 0
  other_ends q begin k (Closed first) fs ne own h = ap (finishes_of number) (pairwise_none IsEndedView fs h)
  other_ends q begin k (Open u) fs ne own h = others_end number k u.ask.choice (client.ending_of (client_ticks (context_of old.settings now q) u)) fs
      (λ same. ne (apart.apart q key number u t
      (own ∙ ap (λ (i : ℕ). Some (record { number = i; held = Open u })) same) there)) h

  none_end : (os : List ClientSlot) → IsApart same_key key os → EachSlot Client Own os → (fs : List EndedView) → Pairwise IsEndedView (from_each ends os) fs
      → finishes_of number fs ≡ 0
  none_end [] away own fs h = ap (finishes_of number) (pairwise_none IsEndedView fs h)
  none_end (s ∷ os) away own fs h =
      let d = pairwise_split IsEndedView (ends s) (from_each ends os) fs h in
      let ne : s.key ≡ key → ⊥ = λ is. (let no : Some s.value ≡ None = sym (found_first Client s.key s.begin s.value [])
      ∙ ap (λ (q : PeerKey). value_at same_key q (s ∷ [])) is ∙ apart_none Client key (s ∷ []) (away.0, tt) in cc) in
      let one = other_ends s.key s.begin s.value.number s.value.held d.front ne own.0 d.first in
      let two = none_end os away.1 own.1 d.rest d.second in
      ap (finishes_of number) d.is ∙ finishes_join number d.front d.rest ∙ (λ i. one i + two i)

  own_ends : (begin : ℕ) (fs : List EndedView) → Pairwise IsEndedView (ends (slot Client key begin (record { number = number; held = Open t }))) fs
      → IsOnlyExpired number fs
  own_ends begin fs h = only_expired number t.ask.choice fs
      (subst (λ (r : Reaction). Pairwise IsEndedView (ended_with number t.ask.choice (client.ending_of r)) fs)
      (late_ticks (context_of old.settings now key) t (apart.going key number t there) late) h)

  one_ends : (os : List ClientSlot) → IsDistinct same_key os → EachSlot Client Own os
      → value_at same_key key os ≡ Some (record { number = number; held = Open t })
      → (fs : List EndedView) → Pairwise IsEndedView (from_each ends os) fs → IsOnlyExpired number fs
  one_ends [] distinct own found fs h = absurd cc
  one_ends (s ∷ os) distinct own found fs h =
      go (decide_slot_key s.key key) (λ ne. one_ends os distinct.1 own.1 (sym (passed_first Client s.key key s.begin s.value os ne) ∙ found) d.rest d.second)
    where
      d : IsSplit IsEndedView (ends s) (from_each ends os) fs
      d = pairwise_split IsEndedView (ends s) (from_each ends os) fs h

      go : ((s.key ≡ key) ⊎ (s.key ≡ key → ⊥)) → ((s.key ≡ key → ⊥) → IsOnlyExpired number d.rest) → IsOnlyExpired number fs
      go (inl is) again =
          let value : s.value ≡ record { number = number; held = Open t } =
          (let e : Some s.value ≡ Some (record { number = number; held = Open t }) =
          sym (found_first Client s.key s.begin s.value os) ∙ ap (λ (q : PeerKey). value_at same_key q (s ∷ os)) is ∙ found in cc) in
          let one = own_ends s.begin d.front (subst (λ (q : PeerKey).
          Pairwise IsEndedView (ends (slot Client q s.begin (record { number = number; held = Open t }))) d.front) is
          (subst (λ (v : Client). Pairwise IsEndedView (ends (slot Client s.key s.begin v)) d.front) value d.first)) in
          let two = none_end os (subst (λ (q : PeerKey). IsApart same_key q os) is distinct.0) own.1 d.rest d.second in
          record {
            has = subst (λ (gs : List EndedView). HasFinish (expired number) gs) (sym d.is) (has_left (expired number) d.front d.rest one.has);
            once = ap (finishes_of number) d.is ∙ finishes_join number d.front d.rest ∙ (λ i. (one.once) i + two i);
          }
      go (inr ne) again =
          let one = other_ends s.key s.begin s.value.number s.value.held d.front ne own.0 d.first in
          let two = again ne in
          record {
            has = subst (λ (gs : List EndedView). HasFinish (expired number) gs) (sym d.is) (has_right (expired number) d.front d.rest two.has);
            once = ap (finishes_of number) d.is ∙ finishes_join number d.front d.rest ∙ (λ i. one i + (two.once) i);
          }

each_own : (slots : List ClientSlot) → IsDistinct same_key slots → EachSlot Client (λ q v. value_at same_key q slots ≡ Some v) slots
each_own [] d = tt
each_own (s ∷ slots) d = (found_first Client s.key s.begin s.value slots, rest slots d.0 (each_own slots d.1))
  where
    rest : (os : List ClientSlot) → IsApart same_key s.key os → EachSlot Client (λ q v. value_at same_key q slots ≡ Some v) os
        → EachSlot Client (λ q v. value_at same_key q (s ∷ slots) ≡ Some v) os
    rest [] away own = tt
    rest (o ∷ os) away own = (
      passed_first Client s.key o.key s.begin s.value slots (λ is. (let no : Some o.value ≡ None =
          sym (found_first Client o.key o.begin o.value []) ∙ ap (λ (q : PeerKey). value_at same_key q (o ∷ [])) (sym is)
          ∙ apart_none Client s.key (o ∷ []) (away.0, tt) in cc)) ∙ own.0,
      rest os away.1 own.1,
    )

tick_closed : (now : ℕ) (old new : Node) (o : Outcome) → NodeTick now old new o → (key : PeerKey) (number : ℕ) (t : ClientTransaction) → IsOpen old key number t
    → is_idle t.phase ≡ false → DEADLINE < now - t.ask.first
    → value_at same_key key new.clients.slots ≡ Some (record { number = number; held = Closed t.ask.first })
tick_closed now old new o tick key number t there going late =
    ap (λ (n : Node). value_at same_key key n.clients.slots) tick.node
    ∙ value_changed Client (client_tick old.settings now) key old.clients.slots
    ∙ ap (changed_value Client (client_tick old.settings now) key) there
    ∙ ap (λ (r : Reaction). Some (record { number = number; held = kept (client.after now t r) }))
    (late_ticks (context_of old.settings now key) t going late)

pub tick_ends : TickEnds
tick_ends = record {
  leaves = λ now old new o tick key number t is. tick_leaves now old new o tick key number t is;
  ends = λ now old new o tick apart key number t there late.
      let slots = in_order peer_key_cmp old.clients.slots in
      let only = one_ends now old apart key number t there late slots (distinct_in_order Client old.clients.slots apart.keys.clients)
      (each_in_order Client (λ q v. value_at same_key q old.clients.slots ≡ Some v) old.clients.slots (each_own old.clients.slots apart.keys.clients))
      (found_in_order Client key old.clients.slots apart.keys.clients ∙ there) o.ended tick.ended in
      record { has = only.has; once = only.once; closed = tick_closed now old new o tick key number t there (apart.going key number t there) late };
}

-- As an answer comes.

pub answer_ends : AnswerEnds
answer_ends now peer a old new o gets from apart number t there late = record { has = only.has; once = only.once; closed = closed }
  where
    going : is_idle t.phase ≡ false
    going = apart.going (key_of peer a) number t there

    turn : IsClientTurn (requester_on_apdu_at old.settings reads_reply now a old.clients (key_of peer a)
        (Some (record { number = number; held = Open t }))) now old new o
    turn = subst (λ (v : Option Client). IsClientTurn (requester_on_apdu_at old.settings reads_reply now a old.clients (key_of peer a) v) now old new o) there
        (subst (λ (b : Bool). IsHeardBy b peer a now old new o) (not_from_client a from) (heard_as now peer a old new o gets))

    reaction : client_on_apdu (context_of old.settings now (key_of peer a)) reads_reply t a ≡ Ends [] machine.Ending.Expired
    reaction = late_gets reads_reply (context_of old.settings now (key_of peer a)) t a from going late

    only : IsOnlyExpired number o.ended
    only = only_expired number t.ask.choice o.ended
        (subst (λ (r : Reaction). Pairwise IsEndedView (ended_with number t.ask.choice (client.ending_of r)) o.ended) reaction turn.ended)

    closed : value_at same_key (key_of peer a) new.clients.slots ≡ Some (record { number = number; held = Closed t.ask.first })
    closed = ap (λ (n : Node). value_at same_key (key_of peer a) n.clients.slots) turn.node
        ∙ with_same Client (key_of peer a) _ (record { number = number; held = Open t }) old.clients.slots there
        ∙ ap (λ (r : Reaction). Some (record { number = number; held = kept (client.after now t r) })) reaction

-- Nodes of a world that was reached.

module _ (links : ℕ → Option Octets) (apart : (i j : ℕ) (l : Octets) → links i ≡ Some l → links j ≡ Some l → i ≡ j) (W : ℕ) (x : Rules)
    (set : Setting) (bound : claims.IsBounded W x) (w : World) (n : Net) (over : Over links apart W x set w n) (i : ℕ) (a : Node) (at : slice_get w.nodes i ≡ Some a) where
  pub record IsTicketOf (p : PeerKey) (number : ℕ) (t : ClientTransaction) : Type 0 where
    pub server : ℕ
    pub link : Octets
    pub linked : links server ≡ Some link
    pub peer : p.peer ≡ peer_at link
    pub ticket : n.tickets (node_key i server p.invoke_id) ≡ Some t
    pub number_is : ask_of i number w.notes ≡ Some (n.numbers (node_key i server p.invoke_id))
    pub going : is_idle t.phase ≡ false

  -- of an ask of a stranger
  pub record IsTicketAway (p : PeerKey) (number : ℕ) (t : ClientTransaction) : Type 0 where
    pub ticket : n.far.tickets (out_key i p) ≡ Some t
    pub number_is : ask_of i number w.notes ≡ Some (n.far.numbers (out_key i p))
    pub going : is_idle t.phase ≡ false

  abbrev Peer : PeerKey → Type 0
  Peer q = IsKnown links apart q ⊎ IsStranger links apart q

  ticket_near : (p : PeerKey) (number : ℕ) (t : ClientTransaction) → IsOpen a p number t → IsKnown links apart p → IsTicketOf p number t
  ticket_near p number t there known =
      let fits = (over.nodes i a at).clients in
      let key_is : slot_key known.link p.invoke_id ≡ p = λ j. record { peer = sym known.peer j; invoke_id = p.invoke_id } in
      let found : TicketFits (is_lost n (node_key i known.node p.invoke_id)) (here_at n i) w.notes i (n.numbers (node_key i known.node p.invoke_id))
      (Some (record { number = number; held = Open t }))
      (n.tickets (node_key i known.node p.invoke_id)) =
      subst (λ (v : Option Client). TicketFits (is_lost n (node_key i known.node p.invoke_id)) (here_at n i) w.notes i
      (n.numbers (node_key i known.node p.invoke_id)) v
      (n.tickets (node_key i known.node p.invoke_id))) (ap (λ (q : PeerKey). value_at same_key q a.clients.slots) key_is ∙ there)
      (fits.found known.node known.link p.invoke_id known.at) in
      let is = ticket_at (is_lost n (node_key i known.node p.invoke_id)) (here_at n i) w.notes i (n.numbers (node_key i known.node p.invoke_id)) number t
      (n.tickets (node_key i known.node p.invoke_id)) found in
      let held : TicketFits (is_lost n (node_key i known.node p.invoke_id)) (here_at n i) w.notes i (n.numbers (node_key i known.node p.invoke_id))
      (Some (record { number = number; held = Open t })) (Some t) =
      subst (λ (v : Option ClientTransaction). TicketFits (is_lost n (node_key i known.node p.invoke_id)) (here_at n i) w.notes i
      (n.numbers (node_key i known.node p.invoke_id))
      (Some (record { number = number; held = Open t })) v) is.0 found in
      record {
        server = known.node;
        link = known.link;
        linked = known.at;
        peer = known.peer;
        ticket = is.0;
        number_is = is.1;
        going = (opened t t (sym held.held)).1;
      }

  ticket_away : (p : PeerKey) (number : ℕ) (t : ClientTransaction) → IsOpen a p number t → IsStranger links apart p → IsTicketAway p number t
  ticket_away p number t there stranger =
      let k : Key = out_key i p in
      let slot : Option Client = Some (record { number = number; held = Open t }) in
      let found : TicketFits false (here_at n i) w.notes i (n.far.numbers k) slot (n.far.tickets k) =
      subst (λ (v : Option Client). TicketFits false (here_at n i) w.notes i (n.far.numbers k) v (n.far.tickets k)) there
      ((over.nodes i a at).clients.strangers p stranger) in
      let is = ticket_at false (here_at n i) w.notes i (n.far.numbers k) number t (n.far.tickets k) found in
      let held : TicketFits false (here_at n i) w.notes i (n.far.numbers k) slot (Some t) =
      subst (λ (v : Option ClientTransaction). TicketFits false (here_at n i) w.notes i (n.far.numbers k) slot v) is.0 found in
      record { ticket = is.0; number_is = is.1; going = (opened t t (sym held.held)).1 }

  ticket_of : (p : PeerKey) (number : ℕ) (t : ClientTransaction) → IsOpen a p number t → IsTicketOf p number t ⊎ IsTicketAway p number t
  ticket_of p number t there = go (each_at Client (λ q v. Peer q × (v.number < a.clients.asked)) p (record { number = number; held = Open t }) a.clients.slots
      (over.nodes i a at).clients.known there).0
    where
      go : Peer p → IsTicketOf p number t ⊎ IsTicketAway p number t
      go (inl known) = inl (ticket_near p number t there known)
      go (inr stranger) = inr (ticket_away p number t there stranger)

  -- an ask of a node and one of a stranger have numbers of their own
  near_and_away : (p q : PeerKey) (number : ℕ) (t u : ClientTransaction) → IsTicketOf p number t → IsTicketAway q number u → ⊥
  near_and_away p q number t u one two =
      let k : Key = node_key i one.server p.invoke_id in
      let numbers : n.numbers k ≡ n.far.numbers (out_key i q) =
      (let e : Some (n.numbers k) ≡ Some (n.far.numbers (out_key i q)) = sym one.number_is ∙ two.number_is in cc) in
      let near : is_away (n.numbers k) w.notes ≡ false = newest_near k w.notes (n.numbers k) (over.noted k t one.ticket) in
      let away : is_away (n.numbers k) w.notes ≡ true =
      ap (λ (y : ℕ). is_away y w.notes) numbers ∙ over.away (out_key i q) u two.ticket in
      absurd (let e : true ≡ false = sym away ∙ near in cc)

  going_of : (p : PeerKey) (number : ℕ) (t : ClientTransaction) → IsTicketOf p number t ⊎ IsTicketAway p number t → is_idle t.phase ≡ false
  going_of p number t (inl one) = one.going
  going_of p number t (inr one) = one.going

  same_key_of : (p q : PeerKey) (number : ℕ) (t u : ClientTransaction) → IsTicketOf p number t ⊎ IsTicketAway p number t
      → IsTicketOf q number u ⊎ IsTicketAway q number u → p ≡ q
  same_key_of p q number t u (inl one) (inr two) = absurd (near_and_away p q number t u one two)
  same_key_of p q number t u (inr one) (inl two) = absurd (near_and_away q p number u t two one)
  same_key_of p q number t u (inr one) (inr two) =
      let numbers : n.far.numbers (out_key i p) ≡ n.far.numbers (out_key i q) =
      (let e : Some (n.far.numbers (out_key i p)) ≡ Some (n.far.numbers (out_key i q)) = sym one.number_is ∙ two.number_is in cc) in
      out_one i p q (away_apart W x set bound n over.sound (out_key i p) (out_key i q) t u one.ticket two.ticket numbers)
  same_key_of p q number t u (inl one) (inl two) =
      let numbers : n.numbers (node_key i one.server p.invoke_id) ≡ n.numbers (node_key i two.server q.invoke_id) =
      (let e : Some (n.numbers (node_key i one.server p.invoke_id)) ≡ Some (n.numbers (node_key i two.server q.invoke_id)) =
      sym one.number_is ∙ two.number_is in cc) in
      let key = are_numbered W x bound set n over.sound (node_key i one.server p.invoke_id) (node_key i two.server q.invoke_id) t u
      one.ticket two.ticket numbers in
      let link : one.link ≡ two.link =
      (let e : Some one.link ≡ Some two.link = sym one.linked ∙ ap (λ (k : Key). links k.server) key ∙ two.linked in cc) in
      (λ j. record { peer = (one.peer ∙ ap peer_at link ∙ sym two.peer) j; invoke_id = (key j).invoke_id })

  pub tickets_apart : HasTicketsApart a
  tickets_apart = record {
    keys = record { clients = (over.nodes i a at).clients.distinct; servers = (over.nodes i a at).servers.distinct };
    apart = λ p q number t u here there. same_key_of p q number t u (ticket_of p number t here) (ticket_of q number u there);
    going = λ p number t there. going_of p number t (ticket_of p number t there);
  }

-- of either rule
pub nodes_in_order_so : (u : Reuses) (W overtake : ℕ) (opening reached : World) → IsFresh opening → IsTimely opening.time.pace → IsBounded W overtake opening
    → (events : List Event) → WorldRunSo overtake u opening events reached → NodesAreInOrder reached
nodes_in_order_so u W overtake opening reached fresh timely bounded events run i a at =
    let set : Setting = Some (always u) in
    let bound = rules_bounded W overtake opening bounded in
    let m = run_over_so (link_at opening.nodes) fresh.apart W (rules_of overtake opening) set bound refl (stores_of opening.nodes) events opening reached
    (opened_net opening) (fresh_over set W overtake opening fresh timely bounded) (opened_once u opening fresh) run in
    tickets_apart (link_at opening.nodes) fresh.apart W (rules_of overtake opening) set bound reached m.0 m.1 i a at

pub nodes_in_order : (W overtake : ℕ) (opening reached : World) → IsFresh opening → IsTimely opening.time.pace → IsBounded W overtake opening
    → (events : List Event) → WorldRun overtake opening events reached → NodesAreInOrder reached
nodes_in_order W overtake opening reached fresh timely bounded events run =
    nodes_in_order_so (reuses_in None) W overtake opening reached fresh timely bounded events (run_as overtake opening events reached run)
