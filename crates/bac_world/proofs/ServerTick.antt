-- A tick of a node's entries, in ascending order of keys.
use Rattle.std.proofs.Common.{◌≡◌, ℕ, ◌⊎◌, Bool, true, false, List, [], ◌∷◌, ◌++◌, Option, Some, None}
use Rattle.std.proofs.Common.{if◌then◌else◌, refl, sym, ap, subst, inl, inr, ◌∙◌, append_assoc}
use Rattle.bac_apdu.specs.Apdu.{Apdu}
use Rattle.bac_protocol.specs.Context.{Settings, Context}
use Rattle.bac_protocol.specs.Service.{Octets}
use Rattle.bac_protocol.specs.Server as server
use Rattle.bac_protocol.specs.Server.{ServerTransaction, live_entry, is_live, server_ticks}
use Rattle.bac_protocol.specs.Transaction.{Key, Rules, performed, server_context}
use Rattle.bac_protocol.specs.World.{Net, server_acts, set_at}
use Rattle.bac_protocol.specs.Claims.{IsBounded}
use Rattle.bac_protocol.specs.Steps.{IsSameReaction, StaysIn}
use Rattle.bac_protocol.proofs.Keys.{set_same, set_other, decide_key}
use Rattle.bac_protocol.proofs.Dead.{dead_is_none}
use Rattle.bac_protocol.proofs.Served.{live_stays_law, ticks_quiet}
use Rattle.bac_protocol.proofs.Own.{server_sends_own}
use Rattle.bac_slots.specs.Slots.{value_at, IsApart, IsDistinct}
use Rattle.bac_transaction.specs.Keys.{PeerKey, same_key}
use Rattle.bac_transaction.specs.Sends.{Send, Datagram, Pairwise, IsSent, to_all}
use Rattle.bac_transaction.specs.Ends.{ServerSlot, context_of, server_tick_sends, entry_or, from_each}
use Rattle.bac_world.specs.Node.{Node}
use Rattle.bac_world.specs.World.{World, Copy, link_at, peer_at, IsCopied}
use Rattle.bac_transaction.proofs.KeyedSlots.{EachSlot, slot}
use Rattle.bac_protocol.specs.World.{server_now}
use Rattle.bac_world.proofs.Bridge.{here_at, there_at}
use Rattle.bac_protocol.specs.Pace.{Clock}
use Rattle.bac_world.proofs.Steps.{IsAlike, served_elsewhere, set_elsewhere}
use Rattle.bac_world.proofs.Changes.{look, Change, look_first, look_next, look_here, look_same, change_rest}
use Rattle.bac_world.proofs.Leads.{Leads}
use Rattle.bac_world.proofs.Leads.Leads.{TicksEntry, TicksEntryAway}
use Rattle.bac_world.proofs.Machines.{Sound, own_of, ticks_at_server, ticks_at_server_away}
use Rattle.bac_world.proofs.Pairs.{pairwise_join, pairwise_split, pairwise_none, append_none}
use Rattle.bac_world.proofs.Bridge.{NodeFits, IsKnown, IsStranger, IsCopyOf, EntryFits, key_of, slot_key, stranger_key, copies_of, copied_to, copied_none, copied_split}
use Rattle.bac_world.specs.World.{AreCopied}
use Rattle.bac_protocol.specs.World.{server_acts_away, begin_of}
use Rattle.bac_protocol.specs.Transaction.{served}
use Rattle.bac_world.proofs.StrangersHeard.{stranger_one, others_fit_away}
use Rattle.bac_world.proofs.Reused.{alike_by_live}
use Rattle.bac_world.proofs.Serving.{others_fit, one_client, each_of_server}
use Rattle.bac_world.proofs.Settings.{Setting}

abbrev pub entry_tick : Settings → ℕ → PeerKey → ServerTransaction → ServerTransaction
entry_tick c now q d = entry_or d (server_ticks (context_of c now q) (Some d)).entry

stays_some : (e : ServerTransaction) (o : Option ServerTransaction) → StaysIn e o → Some (entry_or e o) ≡ o
stays_some e None h = absurd h
stays_some e (Some d) h = refl

module _ (links : ℕ → Option Octets) (apart : (i j : ℕ) (l : Octets) → links i ≡ Some l → links j ≡ Some l → i ≡ j) (W : ℕ) (x : Rules)
    (set : Setting)
    (bound : IsBounded W x) (w : World) (n k : Net) (linked : (j : ℕ) → link_at w.nodes j ≡ links j) (i : ℕ) (li : Octets) (from : links i ≡ Some li) where
  -- what the entries of a node and the net have in common, while some have gone on since the net was k
  pub record Served (found : PeerKey → Option ServerTransaction) (every : List Copy) (m : Net) : Type 0 where
    pub alike : IsAlike i m n
    pub made : m.made ≡ k.made
    pub restarted : m.restarted ≡ k.restarted
    pub asks : m.asks ≡ k.asks
    pub numbers : m.numbers ≡ k.numbers
    pub tickets : m.tickets ≡ k.tickets
    pub far_tickets : m.far.tickets ≡ k.far.tickets
    pub far_numbers : m.far.numbers ≡ k.far.numbers
    pub log : m.log ≡ k.log
    pub asks_from : m.asks_from ≡ k.asks_from
    pub serves_from : m.serves_from ≡ k.serves_from
    pub entries : (c : ℕ) (l : Octets) (id : ℕ) → links c ≡ Some l → EntryFits (there_at n i) (found (slot_key l id)) (m.entries (key_of c i id))
    pub strangers : (p : PeerKey) → IsStranger links apart p → EntryFits (there_at n i) (found p) (m.far.entries (stranger_key i p))
    pub others : (j : ℕ) (a : Node) → (j ≡ i → ⊥) → NodeFits links apart x (here_at n j) (there_at n j) w.notes k j a → NodeFits links apart x (here_at n j) (there_at n j) w.notes m j a
    pub posts : Pairwise (IsCopyOf links apart) m.posts every
    pub sound : Sound W x set m
    pub leads : Leads x n m

  module _ (all : List ServerSlot) where
    abbrev c : Settings
    c = x.settings i

    abbrev tick : PeerKey → ServerTransaction → ServerTransaction
    tick = entry_tick (x.settings i) (there_at n i)

    abbrev Folds : List ServerSlot → Type 0
    Folds os = IsDistinct same_key os → EachSlot ServerTransaction (λ p v. IsKnown links apart p ⊎ IsStranger links apart p) os → Change ServerTransaction tick all os
        → (copies : List Copy) (m : Net) → Served (look ServerTransaction tick all os) copies m
        → (ds : List Datagram) (cs : List Copy)
        → Pairwise IsSent (from_each (server_tick_sends (x.settings i) (there_at n i)) os) ds → AreCopied w.nodes n.now i ds cs
        → (m' : Net) × Served (λ q. value_at same_key q all) (copies ++ cs) m'

    no_entries : Folds []
    no_entries distinct known change copies m r ds cs sent copied =
        let ds_is : ds ≡ [] = pairwise_none IsSent ds sent in
        let cs_is : cs ≡ [] =
        subst (λ (d : List Datagram). AreCopied w.nodes n.now i d cs) ds_is copied in
        (m, subst (λ (l : List Copy). Served (λ q. value_at same_key q all) l m) (sym (append_none copies) ∙ ap (λ (l : List Copy). copies ++ l) (sym cs_is)) r)

    -- An entry that is not live sends nothing and stays as it is.
    dead_entry : (p : PeerKey) (begin : ℕ) (d : ServerTransaction) (os : List ServerSlot) → Folds os → is_live (there_at n i) d ≡ false → Folds (slot ServerTransaction p begin d ∷ os)
    dead_entry p begin d os again dead distinct known change copies m r ds cs sent copied =
        again distinct.1 known.1 (change_rest ServerTransaction tick all p begin d os distinct.0 change) copies m alike ds cs
        (subst (λ (z : List Send). Pairwise IsSent z ds)
        (ap (λ (v : server.Reaction). to_all p.peer v.sends ++ from_each (server_tick_sends (x.settings i) (there_at n i)) os) still) sent) copied
      where
        context : Context
        context = context_of (x.settings i) (there_at n i) p

        still : server_ticks context (Some d) ≡ server.rests (Some d) []
        still = ap (λ b. if b then server.live_ticks context d d.state else server.rests (Some d) []) dead

        alike : Served (look ServerTransaction tick all os) copies m
        alike = record {
          alike = r.alike;
          made = r.made;
          restarted = r.restarted;
          asks = r.asks;
          numbers = r.numbers;
          tickets = r.tickets;
          far_tickets = r.far_tickets;
          far_numbers = r.far_numbers;
          log = r.log;
          asks_from = r.asks_from;
          serves_from = r.serves_from;
          entries = λ c l' id' at'. ap (live_entry (there_at n i))
              (sym (look_same ServerTransaction tick all p begin d os distinct.0 change (ap (λ (v : server.Reaction). entry_or d v.entry) still) (slot_key l' id')))
              ∙ r.entries c l' id' at';
          strangers = λ q f. ap (live_entry (there_at n i))
              (sym (look_same ServerTransaction tick all p begin d os distinct.0 change (ap (λ (v : server.Reaction). entry_or d v.entry) still) q))
              ∙ r.strangers q f;
          others = r.others;
          posts = r.posts;
          sound = r.sound;
          leads = r.leads;
        }

    -- The net's entry goes on like the slot's.
    module _ (node : ℕ) (l : Octets) (id : ℕ) (at : links node ≡ Some l) (begin : ℕ) (d : ServerTransaction) (os : List ServerSlot) where
      abbrev p : PeerKey
      p = slot_key l id

      abbrev key : Key
      key = key_of node i id

      abbrev context : Context
      context = context_of (x.settings i) (there_at n i) (slot_key l id)

      abbrev did : server.Reaction
      did = server_ticks context (Some d)

      module _ (copies : List Copy) (m : Net) (r : Served (look ServerTransaction tick all (slot ServerTransaction (slot_key l id) begin d ∷ os)) copies m)
          (away : IsApart same_key (slot_key l id) os) (change : Change ServerTransaction tick all (slot ServerTransaction (slot_key l id) begin d ∷ os))
          (live : is_live (there_at n i) d ≡ true) where
        abbrev does : server.Reaction
        does = server_ticks (server_context x key (server_now m key)) (m.entries key)

        fit : live_entry (there_at n i) (Some d) ≡ live_entry (there_at n i) (m.entries key)
        fit = ap (live_entry (there_at n i)) (sym (look_first ServerTransaction tick all p begin d os)) ∙ r.entries node l id at

        same : IsSameReaction (there_at n i) did does
        same =
            subst (λ (now : ℕ). IsSameReaction (there_at n i) did (server_ticks (server_context x key now) (m.entries key)))
            (sym (ap (λ (f : ℕ → Clock). (f i).shows) r.alike.there))
            (alike_by_live (there_at n i) (server_ticks context) (dead_is_none.ticks context) (Some d) (m.entries key) fit)

        made : look ServerTransaction tick all os p ≡ did.entry
        made = look_here ServerTransaction tick all p begin d os away change ∙ stays_some d did.entry (live_stays_law.ticks context d live)

        entries : (c : ℕ) (l' : Octets) (id' : ℕ) → links c ≡ Some l' → ((key ≡ key_of c i id') ⊎ (key ≡ key_of c i id' → ⊥))
            → EntryFits (there_at n i) (look ServerTransaction tick all os (slot_key l' id')) (set_at m.entries key does.entry (key_of c i id'))
        entries c l' id' at' (inl is) =
            let link : l ≡ l' = let e : Some l ≡ Some l' = sym at ∙ ap (λ (y : Key). links y.client) is ∙ at' in cc in
            ap (λ (q : PeerKey). live_entry (there_at n i) (look ServerTransaction tick all os q)) (λ j. slot_key (sym link j) (sym is j).invoke_id)
            ∙ ap (live_entry (there_at n i)) made ∙ same.entry
            ∙ ap (live_entry (there_at n i)) (sym (set_same m.entries key does.entry) ∙ ap (set_at m.entries key does.entry) is)
        entries c l' id' at' (inr ne) =
            ap (live_entry (there_at n i)) (look_next ServerTransaction tick all p begin d os (slot_key l' id') (λ is. ne (one_client links apart W x set key l at c l' id' at' is)))
            ∙ r.entries c l' id' at'
            ∙ ap (live_entry (there_at n i)) (sym (set_other m.entries key does.entry (key_of c i id') ne))

        goes_on : (ds : List Datagram) (cs : List Copy) → Pairwise IsSent (to_all (peer_at l) did.sends) ds → Pairwise (IsCopied w.nodes n.now i) ds cs
            → Served (look ServerTransaction tick all os) (copies ++ cs) (server_acts m key does)
        goes_on ds cs sent copied = record {
          alike = record {
            now = r.alike.now;
            pace = r.alike.pace;
            here = r.alike.here;
            there = r.alike.there;
            asked = r.alike.asked;
            served = λ j ne. served_elsewhere i m.served j ne ∙ r.alike.served j ne;
            sends = r.alike.sends;
            tickets = r.alike.tickets;
            far_tickets = r.alike.far_tickets;
            entries = λ k ne. set_elsewhere (λ (y : Key). y.server) m.entries key does.entry k ne ∙ r.alike.entries k ne;
            far_entries = r.alike.far_entries;
          };
          made = r.made;
          restarted = r.restarted;
          asks = r.asks;
          numbers = r.numbers;
          tickets = r.tickets;
          far_tickets = r.far_tickets;
          far_numbers = r.far_numbers;
          log = ap (λ e. performed (m.numbers key) e m.log) (ticks_quiet (server_context x key (server_now m key)) (m.entries key)) ∙ r.log;
          asks_from = r.asks_from;
          serves_from = r.serves_from;
          entries = λ c l' id' at'. entries c l' id' at' (decide_key key (key_of c i id'));
          strangers = λ q g. ap (live_entry (there_at n i)) (look_next ServerTransaction tick all p begin d os q
              (λ is. g.none node (at ∙ ap (λ (y : PeerKey). Some y.peer.link) is))) ∙ r.strangers q g;
          others = λ j a ne f. others_fit links apart W x set (here_at n j) (there_at n j) w.notes m key does j a ne (r.others j a ne f);
          posts = pairwise_join (IsCopyOf links apart) m.posts _ copies cs r.posts
              (copies_of links apart w.nodes linked m.now false key i node li l (record { between = (refl, refl); from = from; to = at })
              does.sends ds cs
              (each_of_server id does.sends (server_sends_own.ticks (server_context x key (server_now m key)) (m.entries key) (own_of W x set bound m r.sound key)).0)
              (subst (λ (y : List Apdu). Pairwise IsSent (to_all (peer_at l) y) ds) same.sends sent)
              (subst (λ (t : ℕ). Pairwise (IsCopied w.nodes t i) ds cs) (sym r.alike.now) copied));
          sound = ticks_at_server W x set bound m r.sound key;
          leads = TicksEntry m key r.leads;
        }

      one_live : Folds os → is_live (there_at n i) d ≡ true → Folds (slot ServerTransaction (slot_key l id) begin d ∷ os)
      one_live again live distinct known change copies m r ds cs sent copied =
          let y = pairwise_split IsSent (to_all (peer_at l) did.sends) (from_each (server_tick_sends (x.settings i) (there_at n i)) os) ds sent in
          let e = copied_split w.nodes n.now i y.front y.rest cs
          (subst (λ (z : List Datagram). AreCopied w.nodes n.now i z cs) y.is copied) in
          let next = goes_on copies m r distinct.0 change live y.front e.front y.first
          (copied_to links apart w.nodes linked n.now i node (peer_at l) at did.sends y.front e.front y.first e.first) in
          let rest = again distinct.1 known.1 (change_rest ServerTransaction tick all p begin d os distinct.0 change) (copies ++ e.front)
          (server_acts m key (does copies m r distinct.0 change live)) next y.rest e.rest y.second e.second in (
            rest.0,
            subst (λ (z : List Copy). Served (λ q. value_at same_key q all) z rest.0)
                (append_assoc copies e.front e.rest ∙ ap (λ (z : List Copy). copies ++ z) (sym e.is)) rest.1,
          )

      one_entry : Folds os → (b : Bool) → is_live (there_at n i) d ≡ b → Folds (slot ServerTransaction (slot_key l id) begin d ∷ os)
      one_entry again true live = one_live again live
      one_entry again false dead = dead_entry (slot_key l id) begin d os again dead

    -- The same of a stranger's entry; what it sends is not followed.
    module _ (p : PeerKey) (g : IsStranger links apart p) (begin : ℕ) (d : ServerTransaction) (os : List ServerSlot) where
      abbrev far_key : Key
      far_key = stranger_key i p

      abbrev far_context : Context
      far_context = context_of (x.settings i) (there_at n i) p

      abbrev stranger_did : server.Reaction
      stranger_did = server_ticks far_context (Some d)

      module _ (copies : List Copy) (m : Net) (r : Served (look ServerTransaction tick all (slot ServerTransaction p begin d ∷ os)) copies m)
          (away : IsApart same_key p os) (change : Change ServerTransaction tick all (slot ServerTransaction p begin d ∷ os)) (live : is_live (there_at n i) d ≡ true) where
        abbrev stranger_does : server.Reaction
        stranger_does = server_ticks (server_context x far_key (server_now m far_key)) (m.far.entries far_key)

        stranger_fit : live_entry (there_at n i) (Some d) ≡ live_entry (there_at n i) (m.far.entries far_key)
        stranger_fit = ap (live_entry (there_at n i)) (sym (look_first ServerTransaction tick all p begin d os)) ∙ r.strangers p g

        stranger_same : IsSameReaction (there_at n i) stranger_did stranger_does
        stranger_same =
            subst (λ (now : ℕ). IsSameReaction (there_at n i) stranger_did (server_ticks (server_context x far_key now) (m.far.entries far_key)))
            (sym (ap (λ (f : ℕ → Clock). (f i).shows) r.alike.there))
            (alike_by_live (there_at n i) (server_ticks far_context) (dead_is_none.ticks far_context) (Some d) (m.far.entries far_key) stranger_fit)

        stranger_made : look ServerTransaction tick all os p ≡ stranger_did.entry
        stranger_made = look_here ServerTransaction tick all p begin d os away change ∙ stays_some d stranger_did.entry (live_stays_law.ticks far_context d live)

        stranger_entries : (q : PeerKey) → IsStranger links apart q → ((far_key ≡ stranger_key i q) ⊎ (far_key ≡ stranger_key i q → ⊥))
            → EntryFits (there_at n i) (look ServerTransaction tick all os q) (set_at m.far.entries far_key stranger_does.entry (stranger_key i q))
        stranger_entries q f (inl is) =
            ap (λ (y : PeerKey). live_entry (there_at n i) (look ServerTransaction tick all os y)) (sym (stranger_one i p q is))
            ∙ ap (live_entry (there_at n i)) stranger_made ∙ stranger_same.entry
            ∙ ap (live_entry (there_at n i)) (sym (set_same m.far.entries far_key stranger_does.entry) ∙ ap (set_at m.far.entries far_key stranger_does.entry) is)
        stranger_entries q f (inr ne) =
            ap (live_entry (there_at n i)) (look_next ServerTransaction tick all p begin d os q (λ is. ne (ap (stranger_key i) is)))
            ∙ r.strangers q f
            ∙ ap (live_entry (there_at n i)) (sym (set_other m.far.entries far_key stranger_does.entry (stranger_key i q) ne))

        stranger_goes_on : Served (look ServerTransaction tick all os) copies (server_acts_away m far_key stranger_does)
        stranger_goes_on = record {
          alike = record {
            now = r.alike.now;
            pace = r.alike.pace;
            here = r.alike.here;
            there = r.alike.there;
            asked = r.alike.asked;
            served = λ j ne. served_elsewhere i m.served j ne ∙ r.alike.served j ne;
            sends = r.alike.sends;
            tickets = r.alike.tickets;
            far_tickets = r.alike.far_tickets;
            entries = r.alike.entries;
            far_entries = λ k ne. set_elsewhere (λ (y : Key). y.server) m.far.entries far_key stranger_does.entry k ne ∙ r.alike.far_entries k ne;
          };
          made = r.made;
          restarted = r.restarted;
          asks = r.asks;
          numbers = r.numbers;
          tickets = r.tickets;
          far_tickets = r.far_tickets;
          far_numbers = r.far_numbers;
          log = ap (λ e. served far_key (begin_of stranger_does.entry) e m.log) (ticks_quiet (server_context x far_key (server_now m far_key)) (m.far.entries far_key)) ∙ r.log;
          asks_from = r.asks_from;
          serves_from = r.serves_from;
          entries = λ c l' id' at'. ap (live_entry (there_at n i)) (look_next ServerTransaction tick all p begin d os (slot_key l' id')
              (λ is. g.none c (at' ∙ ap (λ (y : PeerKey). Some y.peer.link) (sym is)))) ∙ r.entries c l' id' at';
          strangers = λ q f. stranger_entries q f (decide_key far_key (stranger_key i q));
          others = λ j a ne f. others_fit_away links apart W x set (here_at n j) (there_at n j) w.notes m far_key stranger_does j a ne (r.others j a ne f);
          posts = r.posts;
          sound = ticks_at_server_away W x set bound m r.sound far_key;
          leads = TicksEntryAway m far_key r.leads;
        }

      stranger_live : Folds os → is_live (there_at n i) d ≡ true → Folds (slot ServerTransaction p begin d ∷ os)
      stranger_live again live distinct known change copies m r ds cs sent copied =
          let y = pairwise_split IsSent (to_all p.peer stranger_did.sends) (from_each (server_tick_sends (x.settings i) (there_at n i)) os) ds sent in
          let e = copied_split w.nodes n.now i y.front y.rest cs (subst (λ (z : List Datagram). AreCopied w.nodes n.now i z cs) y.is copied) in
          let none : e.front ≡ [] = copied_none links apart w.nodes linked n.now i p g stranger_did.sends y.front e.front y.first e.first in
          let next = stranger_goes_on copies m r distinct.0 change live in
          let rest = again distinct.1 known.1 (change_rest ServerTransaction tick all p begin d os distinct.0 change) copies
          (server_acts_away m far_key (stranger_does copies m r distinct.0 change live)) next y.rest e.rest y.second e.second in (
            rest.0,
            subst (λ (z : List Copy). Served (λ q. value_at same_key q all) (copies ++ z) rest.0)
                (sym (e.is ∙ ap (λ (z : List Copy). z ++ e.rest) none)) rest.1,
          )

      stranger_entry : Folds os → (b : Bool) → is_live (there_at n i) d ≡ b → Folds (slot ServerTransaction p begin d ∷ os)
      stranger_entry again true live = stranger_live again live
      stranger_entry again false dead = dead_entry p begin d os again dead

    by_peer : (s : ServerSlot) (os : List ServerSlot) → Folds os → IsKnown links apart s.key ⊎ IsStranger links apart s.key
        → Folds (slot ServerTransaction s.key s.begin s.value ∷ os)
    by_peer s os again (inl k) =
        subst (λ (p : PeerKey). Folds (slot ServerTransaction p s.begin s.value ∷ os)) (λ j. record { peer = sym k.peer j; invoke_id = s.key.invoke_id })
        (one_entry k.node k.link s.key.invoke_id k.at s.begin s.value os again (is_live (there_at n i) s.value) refl)
    by_peer s os again (inr g) = stranger_entry s.key g s.begin s.value os again (is_live (there_at n i) s.value) refl

    pub serves : (os : List ServerSlot) → Folds os
    serves [] = no_entries
    serves (s ∷ os) = λ distinct known. by_peer s os (serves os) known.0 distinct known
