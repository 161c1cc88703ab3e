-- A tick of a node's client slots, in ascending order of keys.
use Rattle.std.proofs.Common.{◌≡◌, ℕ, List, [], ◌∷◌, ◌++◌, Option, Some, refl, sym, ap, subst, ◌∙◌, append_assoc}
use Rattle.bac_protocol.specs.Context.{Settings}
use Rattle.bac_protocol.specs.Service.{Octets}
use Rattle.bac_protocol.specs.Client as client
use Rattle.bac_protocol.specs.Client.{client_ticks}
use Rattle.bac_protocol.specs.Transaction.{Key, Rules, client_context}
use Rattle.bac_protocol.specs.World.{Net, client_acts}
use Rattle.bac_protocol.specs.Claims.{IsBounded}
use Rattle.bac_protocol.proofs.Own.{client_sends_own}
use Rattle.bac_slots.specs.Slots.{value_at, IsDistinct}
use Rattle.bac_transaction.specs.Keys.{PeerKey, same_key}
use Rattle.bac_transaction.specs.Sends.{Datagram, Pairwise, IsSent, to_all}
use Rattle.bac_transaction.specs.Meanings.{EndedView, IsEndedView}
use Rattle.bac_transaction.specs.Ends.{ClientSlot, Client, TransactionSlot, context_of, held_ticked, client_tick_sends, client_tick_ends, from_each, ended_with}
use Rattle.bac_transaction.specs.Ends.TransactionSlot.{Open, Closed}
use Rattle.bac_world.specs.Once.{Fact}
use Rattle.bac_world.specs.World.{World, Note, Copy, AreEnded, peer_at}
use Rattle.bac_transaction.proofs.KeyedSlots.{EachSlot, slot}
use Rattle.bac_world.proofs.Bridge.{here_at}
use Rattle.bac_protocol.specs.Pace.{Clock}
use Rattle.bac_world.proofs.Changes.{look, Change, look_first, look_next, look_here, look_same, change_rest}
use Rattle.bac_world.proofs.Leads.{Leads}
use Rattle.bac_world.proofs.Leads.Leads.{TicksTicket, TicksTicketAway}
use Rattle.bac_world.proofs.Machines.{Sound, ticks_at_client, ticks_at_client_away}
use Rattle.bac_world.proofs.Pairs.{pairwise_split, pairwise_none, append_none}
use Rattle.bac_world.proofs.Bridge.{IsKnown, IsStranger, key_of, slot_key, out_key, copied_to, copied_none, copied_split}
use Rattle.bac_protocol.specs.World.{client_acts_away}
use Rattle.bac_world.specs.World.{is_away, ending_fact}
use Rattle.bac_world.specs.World.{AreCopied}
use Rattle.bac_world.proofs.Steps.{Over}
use Rattle.bac_world.proofs.Hearing.{Reached, reached_alike, reacts, reacts_stranger}
use Rattle.std.proofs.Common.{◌⊎◌, inl, inr}
use Rattle.bac_world.proofs.Settings.{Setting}

-- endings of two lists enter the log one list after the other
record IsEnded (notes : List Note) (i : ℕ) (fs gs : List EndedView) (old new : List Fact) : Type 0 where
  between : List Fact
  first : AreEnded notes i fs old between
  second : AreEnded notes i gs between new

ended_split : (notes : List Note) (i : ℕ) (fs gs : List EndedView) (old new : List Fact) → AreEnded notes i (fs ++ gs) old new → IsEnded notes i fs gs old new
ended_split notes i [] gs old new h = record { between = old; first = refl; second = h }
ended_split notes i (f ∷ fs) gs old new h =
    let again = ended_split notes i fs gs (ending_fact (is_away h.0 notes) h.0 f.how ∷ old) new h.2 in
    record { between = again.between; first = (h.0, h.1, again.first); second = again.second }

abbrev pub client_tick : Settings → ℕ → PeerKey → Client → Client
client_tick c now q v = held_ticked (context_of c now q) v.number v.held

module _ (links : ℕ → Option Octets) (apart : (i j : ℕ) (l : Octets) → links i ≡ Some l → links j ≡ Some l → i ≡ j) (W : ℕ) (x : Rules)
    (set : Setting)
    (bound : IsBounded W x) (w : World) (n : Net) (h : Over links apart W x set w n) (i : ℕ) (li : Octets) (from : links i ≡ Some li)
    (all : List ClientSlot) where
  abbrev c : Settings
  c = x.settings i

  abbrev tick : PeerKey → Client → Client
  tick = client_tick (x.settings i) (here_at n i)

  -- the slots of that list go on, while these copies and facts are there
  abbrev Folds : List ClientSlot → Type 0
  Folds os = IsDistinct same_key os → EachSlot Client (λ p v. IsKnown links apart p ⊎ IsStranger links apart p) os → Change Client tick all os
      → (copies : List Copy) (log : List Fact) (m : Net) → Reached links apart W x set w i n (look Client tick all os) copies log m
      → (ds : List Datagram) (cs : List Copy) (fs : List EndedView) (log' : List Fact)
      → Pairwise IsSent (from_each (client_tick_sends (x.settings i) (here_at n i)) os) ds → AreCopied w.nodes n.now i ds cs
      → Pairwise IsEndedView (from_each (client_tick_ends (x.settings i) (here_at n i)) os) fs → AreEnded w.notes i fs log log'
      → (m' : Net) × Reached links apart W x set w i n (λ q. value_at same_key q all) (copies ++ cs) log' m'

  no_slots : Folds []
  no_slots distinct known change copies log m r ds cs fs log' sent copied finished logged =
      let ds_is : ds ≡ [] = pairwise_none IsSent ds sent in
      let cs_is : cs ≡ [] =
      subst (λ (d : List Datagram). AreCopied w.nodes n.now i d cs) ds_is copied in
      let fs_is : fs ≡ [] = pairwise_none IsEndedView fs finished in
      let log_is : log' ≡ log = subst (λ (f : List EndedView). AreEnded w.notes i f log log') fs_is logged in (
        m,
        subst (λ (l : List Copy). Reached links apart W x set w i n (λ q. value_at same_key q all) l log' m)
            (sym (append_none copies) ∙ ap (λ (l : List Copy). copies ++ l) (sym cs_is))
            (subst (λ (lg : List Fact). Reached links apart W x set w i n (λ q. value_at same_key q all) copies lg m) (sym log_is) r),
      )

  module _ (node : ℕ) (l : Octets) (id : ℕ) (at : links node ≡ Some l) (begin k : ℕ) (os : List ClientSlot) (again : Folds os) where
    abbrev p : PeerKey
    p = slot_key l id

    one_closed : (first : ℕ) → Folds (slot Client (slot_key l id) begin (record { number = k; held = Closed first }) ∷ os)
    one_closed first distinct known change copies log m r ds cs fs log' sent copied finished logged =
        let v : Client = record { number = k; held = Closed first } in
        again distinct.1 known.1 (change_rest Client tick all p begin v os distinct.0 change) copies log m
        (reached_alike links apart W x set w i n (look Client tick all (slot Client p begin v ∷ os)) (look Client tick all os) copies log m
        (look_same Client tick all p begin v os distinct.0 change refl) r)
        ds cs fs log' sent copied finished logged

    one_open : (t : client.ClientTransaction) → Folds (slot Client (slot_key l id) begin (record { number = k; held = Open t }) ∷ os)
    one_open t distinct known change copies log m r ds cs fs log' sent copied finished logged =
        let v : Client = record { number = k; held = Open t } in
        let key : Key = key_of i node id in
        let did : client.Reaction = client_ticks (client_context x key (here_at n i)) t in
        let d = pairwise_split IsSent (to_all (peer_at l) (client.sends_of did)) (from_each (client_tick_sends c (here_at n i)) os) ds sent in
        let e = copied_split w.nodes n.now i d.front d.rest cs
        (subst (λ (z : List Datagram). AreCopied w.nodes n.now i z cs) d.is copied) in
        let f = pairwise_split IsEndedView (ended_with k t.ask.choice (client.ending_of did)) (from_each (client_tick_ends c (here_at n i)) os) fs finished in
        let g = ended_split w.notes i f.front f.rest log log' (subst (λ (z : List EndedView). AreEnded w.notes i z log log') f.is logged) in
        let next = reacts links apart W x set bound w n key l li from at (look Client tick all (slot Client p begin v ∷ os)) (look Client tick all os)
        copies log m r h.linked k t (look_first Client tick all p begin v os) did
        (λ is. subst (λ (z : ℕ). Sound W x set (client_acts m key t (client_ticks (client_context x key z) t))
        × Leads x n (client_acts m key t (client_ticks (client_context x key z) t))) (ap (λ (f : ℕ → Clock). (f i).shows) r.alike.here)
        (ticks_at_client W x set bound m r.sound key t is, TicksTicket m key t r.leads is))
        (client_sends_own.ticks (client_context x key (here_at n i)) t)
        (look_here Client tick all p begin v os distinct.0 change)
        (λ q ne. look_next Client tick all p begin v os q ne)
        d.front e.front d.first (copied_to links apart w.nodes h.linked n.now i node (peer_at l) at (client.sends_of did) d.front e.front d.first e.first)
        f.front g.between f.first g.first in
        let rest = again distinct.1 known.1 (change_rest Client tick all p begin v os distinct.0 change) (copies ++ e.front) g.between
        (client_acts m key t did) next d.rest e.rest f.rest log' d.second e.second f.second g.second in (
          rest.0,
          subst (λ (z : List Copy). Reached links apart W x set w i n (λ q. value_at same_key q all) z log' rest.0)
              (append_assoc copies e.front e.rest ∙ ap (λ (z : List Copy). copies ++ z) (sym e.is)) rest.1,
        )

    one_slot : (y : TransactionSlot) → Folds (slot Client (slot_key l id) begin (record { number = k; held = y }) ∷ os)
    one_slot (Closed first) = one_closed first
    one_slot (Open t) = one_open t

  -- the same of an ask of a stranger; what is sent to it is not followed
  module _ (p : PeerKey) (g : IsStranger links apart p) (begin k : ℕ) (os : List ClientSlot) (again : Folds os) where
    stranger_closed : (first : ℕ) → Folds (slot Client p begin (record { number = k; held = Closed first }) ∷ os)
    stranger_closed first distinct known change copies log m r ds cs fs log' sent copied finished logged =
        let v : Client = record { number = k; held = Closed first } in
        again distinct.1 known.1 (change_rest Client tick all p begin v os distinct.0 change) copies log m
        (reached_alike links apart W x set w i n (look Client tick all (slot Client p begin v ∷ os)) (look Client tick all os) copies log m
        (look_same Client tick all p begin v os distinct.0 change refl) r)
        ds cs fs log' sent copied finished logged

    stranger_open : (t : client.ClientTransaction) → Folds (slot Client p begin (record { number = k; held = Open t }) ∷ os)
    stranger_open t distinct known change copies log m r ds cs fs log' sent copied finished logged =
        let v : Client = record { number = k; held = Open t } in
        let key : Key = out_key i p in
        let did : client.Reaction = client_ticks (client_context x key (here_at n i)) t in
        let d = pairwise_split IsSent (to_all p.peer (client.sends_of did)) (from_each (client_tick_sends c (here_at n i)) os) ds sent in
        let e = copied_split w.nodes n.now i d.front d.rest cs
        (subst (λ (z : List Datagram). AreCopied w.nodes n.now i z cs) d.is copied) in
        let none : e.front ≡ [] = copied_none links apart w.nodes h.linked n.now i p g (client.sends_of did) d.front e.front d.first e.first in
        let f = pairwise_split IsEndedView (ended_with k t.ask.choice (client.ending_of did)) (from_each (client_tick_ends c (here_at n i)) os) fs finished in
        let y = ended_split w.notes i f.front f.rest log log' (subst (λ (z : List EndedView). AreEnded w.notes i z log log') f.is logged) in
        let next = reacts_stranger links apart W x set bound w n i p g (look Client tick all (slot Client p begin v ∷ os)) (look Client tick all os)
        copies log m r k t (look_first Client tick all p begin v os) did
        (λ is. subst (λ (z : ℕ). Sound W x set (client_acts_away m key t (client_ticks (client_context x key z) t))
        × Leads x n (client_acts_away m key t (client_ticks (client_context x key z) t))) (ap (λ (f : ℕ → Clock). (f i).shows) r.alike.here)
        (ticks_at_client_away W x set bound m r.sound key t is, TicksTicketAway m key t r.leads is))
        (look_here Client tick all p begin v os distinct.0 change)
        (λ q ne. look_next Client tick all p begin v os q ne)
        f.front y.between f.first y.first in
        let rest = again distinct.1 known.1 (change_rest Client tick all p begin v os distinct.0 change) copies y.between
        (client_acts_away m key t did) next d.rest e.rest f.rest log' d.second e.second f.second y.second in (
          rest.0,
          subst (λ (z : List Copy). Reached links apart W x set w i n (λ q. value_at same_key q all) (copies ++ z) log' rest.0)
              (sym (e.is ∙ ap (λ (z : List Copy). z ++ e.rest) none)) rest.1,
        )

    stranger_slot : (y : TransactionSlot) → Folds (slot Client p begin (record { number = k; held = y }) ∷ os)
    stranger_slot (Closed first) = stranger_closed first
    stranger_slot (Open t) = stranger_open t

  by_peer : (s : ClientSlot) (os : List ClientSlot) → Folds os → IsKnown links apart s.key ⊎ IsStranger links apart s.key
      → Folds (slot Client s.key s.begin s.value ∷ os)
  by_peer s os again (inl k) =
      subst (λ (p : PeerKey). Folds (slot Client p s.begin s.value ∷ os)) (λ j. record { peer = sym k.peer j; invoke_id = s.key.invoke_id })
      (one_slot k.node k.link s.key.invoke_id k.at s.begin s.value.number os again s.value.held)
  by_peer s os again (inr g) = stranger_slot s.key g s.begin s.value.number os again s.value.held

  pub folds : (os : List ClientSlot) → Folds os
  folds [] = no_slots
  folds (s ∷ os) = λ distinct known. by_peer s os (folds os) known.0 distinct known
