-- What a node's calls make of one open ticket: it stays open, or ends.
use Rattle.std.proofs.Common.{◌≡◌, ◌⊎◌, ℕ, ◌+◌, Bool, true, false, List, [], ◌∷◌, ◌++◌, Option, Some, None, refl, sym, ap, subst, inl, inr, ◌∙◌}
use Rattle.bac_apdu.specs.Apdu.{Apdu, Limits}
use Rattle.bac_npdu.specs.Peers.{PeerView}
use Rattle.bac_service.specs.Services.{reads_reply}
use Rattle.bac_service.specs.Values.{Request, choice_of}
use Rattle.bac_protocol.specs.Context.{Settings}
use Rattle.bac_protocol.specs.Service as machine
use Rattle.bac_protocol.specs.Client as client
use Rattle.bac_protocol.specs.Client.{Ask, ClientTransaction, Reaction, client_on_apdu, client_ticks, is_idle}
use Rattle.bac_protocol.specs.Client.Reaction.{Stays, GoesOn, Repeats, Ends}
use Rattle.bac_slots.specs.Slots.{value_at, in_order, keep, IsDistinct}
use Rattle.bac_transaction.specs.Keys.{PeerKey, peer_key_cmp, same_key}
use Rattle.bac_transaction.specs.Sends.{Datagram, Pairwise}
use Rattle.bac_transaction.specs.Meanings.{EndedView, Ending, IsEndedView, MeansEnding}
use Rattle.bac_transaction.specs.Ends.{Accepted, Client, ClientEnd, ClientSlot, Ended, TransactionSlot, ClientTurn, client_after, client_goes, client_tick_ends, context_of}
use Rattle.bac_transaction.specs.Ends.{ended_with, from_each, is_held, is_id_held, is_held_there, kept, key_of, open_unless, requester_on_apdu_at, requester_on_apdu_in_slot}
use Rattle.bac_transaction.specs.Ends.TransactionSlot.{Open, Closed}
use Rattle.bac_transaction.proofs.ClientTables.{accepted_is, client_others_stay, is_untaken, takes_least_free}
use Rattle.bac_transaction.proofs.KeyedSlots.{changed_value, decide_slot_key, found_first, found_in_order, key_other, passed_first, slot, value_changed, with_same}
use Rattle.bac_world.specs.Node.{Node, Outcome, IsClientTurn, IsHeardBy, NodeAsks, NodeTick}
use Rattle.bac_world.proofs.ClientTick.{client_tick}
use Rattle.bac_world.proofs.Pairs.{IsSplit, pairwise_split}
use Rattle.bac_liveness.specs.WorldEnds.{HasFinish, IsOpen}
use Rattle.bac_liveness.proofs.Opens.{Opens, gets_opens, ticks_opens}

-- Endings of a turn.

abbrev pub finish : ℕ → Ending → EndedView
finish number how = record { ticket = number; how = how }

-- that ticket has ended, in some way
abbrev pub IsFinished : (number : ℕ) → List EndedView → Type 0
IsFinished number fs = (how : Ending) × HasFinish (finish number how) fs

finish_left : (f : EndedView) (fs gs : List EndedView) → HasFinish f fs → HasFinish f (fs ++ gs)
finish_left f [] gs h = absurd h
finish_left f (g ∷ fs) gs (inl e) = inl e
finish_left f (g ∷ fs) gs (inr h) = inr (finish_left f fs gs h)

finish_right : (f : EndedView) (fs gs : List EndedView) → HasFinish f gs → HasFinish f (fs ++ gs)
finish_right f [] gs h = h
finish_right f (g ∷ fs) gs h = inr (finish_right f fs gs h)

-- as its machine says
pub finished_as : (number choice : ℕ) (how : machine.Ending) (fs : List EndedView) → Pairwise IsEndedView (ended_with number choice (Some how)) fs
    → (v : Ending) × MeansEnding choice how v × HasFinish (finish number v) fs
finished_as number choice how [] h = absurd h
finished_as number choice how (f ∷ g ∷ fs) h = absurd h.1
finished_as number choice how (f ∷ []) h = (f.how, h.0.how, inl (ap (λ (k : ℕ). finish k f.how) h.0.ticket))

finished_one : (number choice : ℕ) (how : machine.Ending) (fs : List EndedView) → Pairwise IsEndedView (ended_with number choice (Some how)) fs
    → IsFinished number fs
finished_one number choice how fs h = let f = finished_as number choice how fs h in (f.0, f.2)

-- A step of the machine.

pub after_ask : (now : ℕ) (t : ClientTransaction) (r : Reaction) → (client.after now t r).ask ≡ t.ask
after_ask now t Stays = refl
after_ask now t (GoesOn phase sends) = refl
after_ask now t (Repeats phase sends) = refl
after_ask now t (Ends sends how) = refl

-- it stays open, or ends
pub open_or_ended : (now : ℕ) (t : ClientTransaction) (r : Reaction) → Opens r → is_idle t.phase ≡ false
    → (is_idle (client.after now t r).phase ≡ false) ⊎ ((how : machine.Ending) × (client.ending_of r ≡ Some how))
open_or_ended now t Stays opens going = inl going
open_or_ended now t (GoesOn phase sends) opens going = inl opens
open_or_ended now t (Repeats phase sends) opens going = inl opens
open_or_ended now t (Ends sends how) opens going = inr (how, refl)

kept_open : (t : ClientTransaction) → is_idle t.phase ≡ false → kept t ≡ Open t
kept_open t going = ap (λ (b : Bool). open_unless b t) going

-- A ticket of that number and ask, at that key.
module _ (key : PeerKey) (number : ℕ) (ask : Ask) where
  pub record IsKept (n : Node) : Type 0 where
    pub ticket : ClientTransaction
    pub there : IsOpen n key number ticket
    pub going : is_idle ticket.phase ≡ false
    pub ask_is : ticket.ask ≡ ask

  -- a call leaves it open, or it ends in that call; no ask is accepted
  pub record IsKeptBy (old new : Node) (o : Outcome) : Type 0 where
    pub goes : IsKept old → IsKept new ⊎ IsFinished number o.ended
    pub asked : new.clients.asked ≡ old.clients.asked

  -- where the client's end stays
  pub quiet_keeps : (old new : Node) (o : Outcome) → new.clients ≡ old.clients → IsKeptBy old new o
  quiet_keeps old new o same = record {
    goes = λ h. inl (record {
      ticket = h.ticket;
      there = ap (λ (e : ClientEnd). value_at same_key key e.slots) same ∙ h.there;
      going = h.going;
      ask_is = h.ask_is;
    });
    asked = ap (λ (e : ClientEnd). e.asked) same;
  }

  -- the slot after a step of its machine
  stepped : (now : ℕ) (t : ClientTransaction) (r : Reaction) (old new : Node) (fs : List EndedView) → Opens r → is_idle t.phase ≡ false → t.ask ≡ ask
      → value_at same_key key new.clients.slots ≡ Some (client_after now number t r)
      → ((how : machine.Ending) → client.ending_of r ≡ Some how → IsFinished number fs) → IsKept new ⊎ IsFinished number fs
  stepped now t r old new fs opens going ask_is slot ends = go (open_or_ended now t r opens going)
    where
      go : (is_idle (client.after now t r).phase ≡ false) ⊎ ((how : machine.Ending) × (client.ending_of r ≡ Some how)) → IsKept new ⊎ IsFinished number fs
      go (inl still) = inl (record {
        ticket = client.after now t r;
        there = slot ∙ ap (λ (y : TransactionSlot). Some (record { number = number; held = y })) (kept_open (client.after now t r) still);
        going = still;
        ask_is = after_ask now t r ∙ ask_is;
      })
      go (inr e) = inr (ends e.0 e.1)

  -- An APDU of a peer.
  module _ (now : ℕ) (peer : PeerView) (a : Apdu) (old new : Node) (o : Outcome) (turn : IsHeardBy false peer a now old new o) where
    abbrev at : PeerKey
    at = key_of peer a

    abbrev gets : Option Client → ClientTurn
    gets v = requester_on_apdu_at old.settings reads_reply now a old.clients at v

    asked_in : (k : ℕ) (y : TransactionSlot) → (requester_on_apdu_in_slot old.settings reads_reply now a old.clients at k y).end.asked ≡ old.clients.asked
    asked_in k (Closed first) = refl
    asked_in k (Open t) = refl

    asked_same : (v : Option Client) → (gets v).end.asked ≡ old.clients.asked
    asked_same None = refl
    asked_same (Some s) = asked_in s.number s.held

    -- the machine's step, where it comes for the ticket
    abbrev reaction : ClientTransaction → Reaction
    reaction t = client_on_apdu (context_of old.settings now at) reads_reply t a

    pub own_turn : (t : ClientTransaction) → value_at same_key at old.clients.slots ≡ Some (record { number = number; held = Open t })
        → IsClientTurn (client_goes now old.clients at number t (reaction t)) now old new o
    own_turn t there = subst (λ (v : Option Client). IsClientTurn (gets v) now old new o) there turn

    own : at ≡ key → IsKept old → IsKept new ⊎ IsFinished number o.ended
    own is h = stepped now h.ticket (reaction h.ticket) old new o.ended (gets_opens (context_of old.settings now at) reads_reply h.ticket a) h.going h.ask_is
        (sym (ap (λ (k : PeerKey). value_at same_key k new.clients.slots) is)
        ∙ ap (λ (n : Node). value_at same_key at n.clients.slots) its_turn.node
        ∙ with_same Client at (client_after now number h.ticket (reaction h.ticket)) (record { number = number; held = Open (h.ticket) }) old.clients.slots there)
        (λ how e. finished_one number h.ticket.ask.choice how o.ended
        (subst (λ (y : Option machine.Ending). Pairwise IsEndedView (ended_with number h.ticket.ask.choice y) o.ended) e its_turn.ended))
      where
        there : value_at same_key at old.clients.slots ≡ Some (record { number = number; held = Open (h.ticket) })
        there = ap (λ (k : PeerKey). value_at same_key k old.clients.slots) is ∙ h.there

        its_turn : IsClientTurn (client_goes now old.clients at number h.ticket (reaction h.ticket)) now old new o
        its_turn = own_turn h.ticket there

    other : (at ≡ key → ⊥) → IsKept old → IsKept new ⊎ IsFinished number o.ended
    other ne h = inl (record {
      ticket = h.ticket;
      there = ap (λ (n : Node). value_at same_key key n.clients.slots) turn.node
          ∙ client_others_stay.hears old.settings reads_reply now peer a old.clients key (key_other at key ne) ∙ h.there;
      going = h.going;
      ask_is = h.ask_is;
    })

    pub hears_keeps : IsKeptBy old new o
    hears_keeps = record {
      goes = λ h. go (decide_slot_key at key) h;
      asked = ap (λ (n : Node). n.clients.asked) turn.node ∙ asked_same (value_at same_key at old.clients.slots);
    }
      where
        go : ((at ≡ key) ⊎ (at ≡ key → ⊥)) → IsKept old → IsKept new ⊎ IsFinished number o.ended
        go (inl is) h = own is h
        go (inr ne) h = other ne h

  -- A tick.

  abbrev ends : Settings → ℕ → ClientSlot → List Ended
  ends c now = client_tick_ends c now

  tick_finishes : (c : Settings) (now : ℕ) (t : ClientTransaction) (how : machine.Ending) → client.ending_of (client_ticks (context_of c now key) t) ≡ Some how
      → (os : List ClientSlot) → value_at same_key key os ≡ Some (record { number = number; held = Open t })
      → (fs : List EndedView) → Pairwise IsEndedView (from_each (ends c now) os) fs → IsFinished number fs
  tick_finishes c now t how is [] found fs h = absurd cc
  tick_finishes c now t how is (s ∷ os) found fs h =
      go (decide_slot_key s.key key) (λ ne. tick_finishes c now t how is os (sym (passed_first Client s.key key s.begin s.value os ne) ∙ found) d.rest d.second)
    where
      d : IsSplit IsEndedView (ends c now s) (from_each (ends c now) os) fs
      d = pairwise_split IsEndedView (ends c now s) (from_each (ends c now) os) fs h

      joined : IsFinished number (d.front ++ d.rest) → IsFinished number fs
      joined f = subst (IsFinished number) (sym d.is) f

      go : ((s.key ≡ key) ⊎ (s.key ≡ key → ⊥)) → ((s.key ≡ key → ⊥) → IsFinished number d.rest) → IsFinished number fs
      go (inl same) again =
          let value : s.value ≡ record { number = number; held = Open t } =
          (let e : Some s.value ≡ Some (record { number = number; held = Open t }) =
          sym (found_first Client s.key s.begin s.value os) ∙ ap (λ (q : PeerKey). value_at same_key q (s ∷ os)) same ∙ found in cc) in
          let first : Pairwise IsEndedView (ends c now (slot Client key s.begin (record { number = number; held = Open t }))) d.front =
          subst (λ (q : PeerKey). Pairwise IsEndedView (ends c now (slot Client q s.begin (record { number = number; held = Open t }))) d.front) same
          (subst (λ (v : Client). Pairwise IsEndedView (ends c now (slot Client s.key s.begin v)) d.front) value d.first) in
          let one = finished_one number t.ask.choice how d.front
          (subst (λ (y : Option machine.Ending). Pairwise IsEndedView (ended_with number t.ask.choice y) d.front) is first) in
          joined (one.0, finish_left (finish number one.0) d.front d.rest one.1)
      go (inr ne) again = let rest = again ne in joined (rest.0, finish_right (finish number rest.0) d.front d.rest rest.1)

  pub tick_keeps : (now : ℕ) (old new : Node) (o : Outcome) → NodeTick now old new o → IsDistinct same_key old.clients.slots → IsKeptBy old new o
  tick_keeps now old new o tick distinct = record {
    goes = λ h. stepped now h.ticket (client_ticks (context_of old.settings now key) h.ticket) old new o.ended
        (ticks_opens (context_of old.settings now key) h.ticket) h.going h.ask_is
        (ap (λ (n : Node). value_at same_key key n.clients.slots) tick.node
        ∙ value_changed Client (client_tick old.settings now) key old.clients.slots
        ∙ ap (changed_value Client (client_tick old.settings now) key) h.there)
        (λ how e. tick_finishes old.settings now h.ticket how e (in_order peer_key_cmp old.clients.slots)
        (found_in_order Client key old.clients.slots distinct ∙ h.there) o.ended tick.ended);
    asked = ap (λ (n : Node). n.clients.asked) tick.node;
  }

  -- An accepted ask: it has another invoke ID, or is of another peer.
  module _ (now : ℕ) (peer : PeerView) (limits : Limits) (r : Request) (old new : Node) (a : Accepted) (sends : List Datagram)
      (asks : NodeAsks now peer limits r old new a sends) where
    abbrev new_key : PeerKey
    new_key = record { peer = peer; invoke_id = a.invoke_id }

    untaken : is_id_held now old.clients.slots peer a.invoke_id ≡ false
    untaken = is_untaken now old.clients peer a.invoke_id
        (takes_least_free old.settings now peer limits (choice_of r) asks.octets old.clients a asks.accepted).free

    pub asks_keep : IsDistinct same_key old.clients.slots → IsKept old → IsKept new
    asks_keep distinct h = record {
      ticket = h.ticket;
      there = ap (λ (n : Node). value_at same_key key n.clients.slots) asks.node
          ∙ client_others_stay.asks old.settings now peer limits (choice_of r) asks.octets old.clients a key asks.accepted distinct (key_other new_key key differ)
          ∙ ap (keep (λ (s : Client). is_held now s.held)) h.there;
      going = h.going;
      ask_is = h.ask_is;
    }
      where
        differ : new_key ≡ key → ⊥
        differ is =
            let there : value_at same_key new_key old.clients.slots ≡ Some (record { number = number; held = Open (h.ticket) }) =
            ap (λ (k : PeerKey). value_at same_key k old.clients.slots) is ∙ h.there in
            let held : is_id_held now old.clients.slots peer a.invoke_id ≡ true = ap (is_held_there now) there in
            let no : true ≡ false = sym held ∙ untaken in
            cc

    pub ticket_is : a.ticket ≡ old.clients.asked
    ticket_is = ap (λ (y : Accepted). y.ticket)
        (accepted_is old.settings now peer limits (choice_of r) asks.octets old.clients a asks.accepted).is

    pub asked_more : new.clients.asked ≡ old.clients.asked + 1
    asked_more = ap (λ (n : Node). n.clients.asked) asks.node
        ∙ ap (λ (y : Accepted). y.end.asked) (accepted_is old.settings now peer limits (choice_of r) asks.octets old.clients a asks.accepted).is
