-- An accepted ask of a stranger.
use Rattle.std.proofs.Common.{◌≡◌, ℕ, ◌+◌, ◌<◌, ◌⊎◌, Bool, true, false, ◌&&◌, ◌||◌, List, [], ◌∷◌, ◌++◌, length, Option, Some, None}
use Rattle.std.proofs.Common.{slice_get, if◌then◌else◌, nat_eq, nat_lt, refl, sym, ap, subst, inl, inr, ◌∙◌, arith}
use Rattle.bac_apdu.specs.Apdu.{Limits}
use Rattle.bac_service.specs.Values.{Request, choice_of}
use Rattle.bac_service.specs.Requests.{SpellsRequest}
use Rattle.bac_npdu.specs.Peers.{PeerView}
use Rattle.bac_protocol.specs.Context.{Settings}
use Rattle.bac_protocol.specs.Service.{Octets}
use Rattle.bac_protocol.specs.Client.{Ask, ClientTransaction, asked_ticket}
use Rattle.bac_protocol.specs.Transaction.{Key, Rules, client_context}
use Rattle.bac_protocol.specs.World.{Net, is_key_held, is_lost, client_now, asked_away_at}
use Rattle.bac_protocol.specs.World as net
use Rattle.bac_protocol.specs.Claims.{IsBounded}
use Rattle.bac_protocol.proofs.Keys.{set_same, set_other, decide_key}
use Rattle.bac_slots.specs.Slots.{value_at, keep}
use Rattle.bac_transaction.specs.Keys.{PeerKey, same_key}
use Rattle.bac_transaction.specs.Sends.{Pairwise}
use Rattle.bac_transaction.specs.Ends.{Client, ClientEnd, kept, is_held_there, waits_to_ask}
use Rattle.bac_transaction.specs.Ends.{Accepted, AskOutcome, requester_ask}
use Rattle.bac_transaction.specs.Ends.AskOutcome.{Asked}
use Rattle.bac_transaction.proofs.KeyedSlots.{slot, passing, passing_value, passing_distinct, put_same, put_other, put_distinct}
use Rattle.bac_transaction.proofs.KeyedSlots.{each_at, each_so, each_passing, each_put}
use Rattle.bac_world.specs.Node.{Node}
use Rattle.bac_world.specs.Once.{Fact, Stores}
use Rattle.bac_world.specs.ReusingLogs.{IsOnceSo}
use Rattle.std.proofs.lemmas.Bool.Decides.{nat_tests}
use Rattle.bac_protocol.specs.Pace.{Clock}
use Rattle.bac_world.specs.World.{World, Life, Time, told, Note, Copy, stores_of, newest, ask_of, is_away, IsAskedAway}
use Rattle.bac_world.proofs.Machines.{Sound, counted, asked_away, away_below}
use Rattle.bac_world.proofs.Logs.{FactMeans, asks_counted}
use Rattle.bac_world.proofs.Bridge.{here_at, there_at, HasNothing, LifeFits, NodeFits, ClientsFit, IsKnown, IsStranger, IsCopyOf, TicketFits, AwayNoted, key_of, slot_key, out_key, away_more}
use Rattle.bac_world.proofs.Steps.{Over, Fits, Goes, idle_with, linked_with, set_elsewhere, stores_same, decide_number}
use Rattle.bac_protocol.proofs.Aside.{IsAside, asked_aside}
use Rattle.bac_world.proofs.Hearing.{out_one}
use Rattle.bac_world.proofs.Asking.{IsAccepted, accepted_is, holds, free_ticket, free_kept, fits_kept, fits_noted, differ, and_false, equal_self}
use Rattle.bac_world.proofs.Settings.{Setting, ever_in}

-- its client can ask under that key, where it does not wait
key_free_away : (n : Net) (key : Key) (e : ClientEnd) → e.asks_from ≡ n.asks_from key.client → waits_to_ask (client_now n key) e ≡ false
    → is_key_held (client_now n key) (n.far.tickets key) ≡ false → net.is_id_held_away n key ≡ false
key_free_away n key e from awake free =
    ap (λ (y : ℕ). nat_lt (client_now n key) y || is_key_held (client_now n key) (n.far.tickets key)) (sym from)
    ∙ ap (λ (b : Bool). b || is_key_held (client_now n key) (n.far.tickets key)) awake ∙ free

module _ (links : ℕ → Option Octets) (apart : (i j : ℕ) (l : Octets) → links i ≡ Some l → links j ≡ Some l → i ≡ j) (W : ℕ) (x : Rules)
    (set : Setting)
    (bound : IsBounded W x) where
  -- What an ask makes of the client's slots.
  module _ (n : Net) (notes : List Note) (number_is : n.asks ≡ length notes) (i : ℕ) (p : PeerKey) (g : IsStranger links apart p) (ask : Ask)
      (e : ClientEnd) (h : ClientsFit links apart (here_at n i) notes n i e)
      (free : is_held_there (here_at n i) (value_at same_key p e.slots) ≡ false) where
    abbrev akey : Key
    akey = out_key i p

    abbrev pub note : Note
    note = record { key = record { client = i; server = 0; invoke_id = p.invoke_id }; ticket = e.asked; away = Some p.peer }

    abbrev m : Net
    m = asked_away_at x n (out_key i p) ask

    abbrev made : ClientTransaction
    made = asked_ticket (client_context x (out_key i p) (here_at n i)) ask

    abbrev client : Client
    client = record { number = e.asked; held = kept made }

    abbrev pub ended : ClientEnd
    ended = record e { slots = passing Client (holds (here_at n i)) e.slots ++ slot Client p (here_at n i) client ∷ []; asked = e.asked + 1 }

    gone : value_at same_key p (passing Client (holds (here_at n i)) e.slots) ≡ None
    gone = passing_value Client (holds (here_at n i)) p e.slots h.distinct ∙ free_kept (here_at n i) (value_at same_key p e.slots) free

    earlier : (q : PeerKey) (z : Client) → value_at same_key q e.slots ≡ Some z → (nat_eq i i && nat_eq e.asked z.number) ≡ false
    earlier q z is =
        let lt = (each_at Client (λ y v. (IsKnown links apart y ⊎ IsStranger links apart y) × (v.number < e.asked)) q z e.slots h.known is).1 in
        and_false (nat_eq i i) (nat_eq e.asked z.number) (differ e.asked z.number (λ same. omega arith))

    own : ask_of i e.asked (note ∷ notes) ≡ Some (m.far.numbers (out_key i p))
    own = ap (λ b. if b && nat_eq e.asked e.asked then Some (length notes) else ask_of i e.asked notes) (equal_self i)
        ∙ ap (λ b. if b then Some (length notes) else ask_of i e.asked notes) (equal_self e.asked)
        ∙ ap Some (sym number_is ∙ sym (set_same n.far.numbers (out_key i p) n.asks))

    fit : TicketFits false (here_at n i) (note ∷ notes) i (m.far.numbers (out_key i p)) (value_at same_key p ended.slots) (m.far.tickets (out_key i p))
    fit = subst (λ (o : Option Client). TicketFits false (here_at n i) (note ∷ notes) i (m.far.numbers akey) o (m.far.tickets akey))
        (sym (put_same Client p (here_at n i) client (passing Client (holds (here_at n i)) e.slots) gone))
        (subst (λ (o : Option ClientTransaction). TicketFits false (here_at n i) (note ∷ notes) i (m.far.numbers akey) (Some client) o)
        (sym (set_same n.far.tickets akey (Some made))) (record { held = refl; noted = λ still_open. own }))

    look : (q : PeerKey) → (p ≡ q → ⊥) → value_at same_key q ended.slots ≡ keep (holds (here_at n i)) (value_at same_key q e.slots)
    look q other = put_other Client p q (here_at n i) client (passing Client (holds (here_at n i)) e.slots) other ∙ passing_value Client (holds (here_at n i)) q e.slots h.distinct

    after_fits : (lost : Bool) (q : PeerKey) (number : ℕ) (t : Option ClientTransaction) → TicketFits lost (here_at n i) notes i number (value_at same_key q e.slots) t
        → TicketFits lost (here_at n i) (note ∷ notes) i number (keep (holds (here_at n i)) (value_at same_key q e.slots)) t
    after_fits lost q number t f = fits_kept lost (here_at n i) (note ∷ notes) i number (value_at same_key q e.slots) t
        (fits_noted lost (here_at n i) notes note i number (value_at same_key q e.slots) t (earlier q) f)

    found : (s : ℕ) (l : Octets) (id : ℕ) → links s ≡ Some l
        → TicketFits (is_lost n (key_of i s id)) (here_at n i) (note ∷ notes) i (n.numbers (key_of i s id)) (value_at same_key (slot_key l id) ended.slots)
        (n.tickets (key_of i s id))
    found s l id at = subst (λ (o : Option Client). TicketFits (is_lost n (key_of i s id)) (here_at n i) (note ∷ notes) i (n.numbers (key_of i s id)) o (n.tickets (key_of i s id)))
        (sym (look (slot_key l id) (λ is. g.none s (at ∙ ap (λ (y : PeerKey). Some y.peer.link) (sym is)))))
        (after_fits (is_lost n (key_of i s id)) (slot_key l id) (n.numbers (key_of i s id)) (n.tickets (key_of i s id)) (h.found s l id at))

    strangers : (q : PeerKey) → IsStranger links apart q → ((out_key i p ≡ out_key i q) ⊎ (out_key i p ≡ out_key i q → ⊥))
        → TicketFits false (here_at n i) (note ∷ notes) i (m.far.numbers (out_key i q)) (value_at same_key q ended.slots) (m.far.tickets (out_key i q))
    strangers q f (inl is) = subst (λ (y : PeerKey). TicketFits false (here_at n i) (note ∷ notes) i (m.far.numbers (out_key i y)) (value_at same_key y ended.slots)
        (m.far.tickets (out_key i y))) (out_one i p q is) fit
    strangers q f (inr ne) =
        let k : Key = out_key i q in
        subst (λ (o : Option Client). TicketFits false (here_at n i) (note ∷ notes) i (m.far.numbers k) o (m.far.tickets k)) (sym (look q (λ is. ne (ap (out_key i) is))))
        (subst (λ (y : ℕ). TicketFits false (here_at n i) (note ∷ notes) i y (keep (holds (here_at n i)) (value_at same_key q e.slots)) (m.far.tickets k))
        (sym (set_other n.far.numbers akey n.asks k ne))
        (subst (λ (o : Option ClientTransaction). TicketFits false (here_at n i) (note ∷ notes) i (n.far.numbers k) (keep (holds (here_at n i)) (value_at same_key q e.slots)) o)
        (sym (set_other n.far.tickets akey (Some made) k ne)) (after_fits false q (n.far.numbers k) (n.far.tickets k) (h.strangers q f))))

    pub ask_fits : ClientsFit links apart (here_at n i) (note ∷ notes) (asked_away_at x n (out_key i p) ask) i ended
    ask_fits = record {
      distinct = put_distinct Client p (here_at n i) client (passing Client (holds (here_at n i)) e.slots) (passing_distinct Client (holds (here_at n i)) e.slots h.distinct) gone;
      known = each_put Client (λ y v. (IsKnown links apart y ⊎ IsStranger links apart y) × (v.number < e.asked + 1)) p (here_at n i) client
          (passing Client (holds (here_at n i)) e.slots) (inr g, omega arith)
          (each_passing Client (λ y v. (IsKnown links apart y ⊎ IsStranger links apart y) × (v.number < e.asked + 1)) (holds (here_at n i)) e.slots
          (each_so Client (λ y v. (IsKnown links apart y ⊎ IsStranger links apart y) × (v.number < e.asked))
          (λ y v. (IsKnown links apart y ⊎ IsStranger links apart y) × (v.number < e.asked + 1))
          (λ y v k. (k.0, let lt = k.1 in omega arith)) e.slots h.known));
      found = found;
      strangers = λ q f. strangers q f (decide_key (out_key i p) (out_key i q));
    }

    pub others_noted : (j : ℕ) (a : Node) → (j ≡ i → ⊥) → NodeFits links apart x (here_at n j) (there_at n j) notes n j a
        → NodeFits links apart x (here_at n j) (there_at n j) (note ∷ notes) (asked_away_at x n (out_key i p) ask) j a
    others_noted j a ne f = record {
      settings = f.settings;
      link = f.link;
      asks = f.asks;
      serves = f.serves;
      clients = record {
        distinct = f.clients.distinct;
        known = f.clients.known;
        found = λ s l id at. noted_so (is_lost n (key_of j s id)) (slot_key l id) (n.numbers (key_of j s id)) (n.tickets (key_of j s id)) (f.clients.found s l id at);
        strangers = λ q y.
            let k : Key = out_key j q in
            let away : akey ≡ k → ⊥ = λ is. ne (sym (ap (λ (z : Key). z.client) is)) in
            subst (λ (z : ℕ). TicketFits false (here_at n j) (note ∷ notes) j z (value_at same_key q a.clients.slots) (m.far.tickets k))
            (sym (set_other n.far.numbers akey n.asks k away))
            (subst (λ (o : Option ClientTransaction). TicketFits false (here_at n j) (note ∷ notes) j (n.far.numbers k) (value_at same_key q a.clients.slots) o)
            (sym (set_other n.far.tickets akey (Some made) k away)) (noted_so false q (n.far.numbers k) (n.far.tickets k) (f.clients.strangers q y)));
      };
      servers = record { distinct = f.servers.distinct; known = f.servers.known; found = f.servers.found; strangers = f.servers.strangers };
    }
      where
        noted_so : (lost : Bool) (q : PeerKey) (number : ℕ) (t : Option ClientTransaction) → TicketFits lost (here_at n j) notes j number (value_at same_key q a.clients.slots) t
            → TicketFits lost (here_at n j) (note ∷ notes) j number (value_at same_key q a.clients.slots) t
        noted_so lost q number t y = fits_noted lost (here_at n j) notes note j number (value_at same_key q a.clients.slots) t
            (λ z is. ap (λ b. b && nat_eq e.asked z.number) (differ i j (λ same. ne (sym same)))) y

  -- What it makes of the world.
  module _ (w w' : World) (n : Net) (h : Over links apart W x set w n) (i : ℕ) (peer : PeerView) (limits : Limits) (r : Request)
      (step : IsAskedAway w i peer limits r w')
      (parts : IsAccepted (x.settings i) (here_at n i) peer (choice_of r) step.asks.octets step.before.clients step.accepted) where
    abbrev a : Node
    a = step.before

    abbrev p : PeerKey
    p = record { peer = peer; invoke_id = parts.id }

    abbrev key : Key
    key = out_key i (record { peer = peer; invoke_id = parts.id })

    abbrev ask : Ask
    ask = record { first = here_at n i; choice = choice_of r; whole = parts.whole; pieces = parts.front ∷ parts.rest }

    abbrev after : Net
    after = asked_away_at x n key ask

    g : IsStranger links apart (record { peer = peer; invoke_id = parts.id })
    g = record { none = λ k at. step.stranger k (h.linked k ∙ at) }

    fits : Fits links apart W x set w n n i step.before
    fits = h.nodes i step.before step.at

    free : net.is_id_held_away n key ≡ false
    free = key_free_away n key a.clients fits.asks parts.awake
        (free_ticket false (here_at n i) w.notes i (n.far.numbers key) (value_at same_key p a.clients.slots) (n.far.tickets key)
        (fits.clients.strangers p g) parts.free)

    sound : Sound W x set after
    sound = asked_away W x set bound n h.sound key free (choice_of r) parts.whole parts.front parts.rest

    abbrev note' : Note
    note' = record { key = record { client = i; server = 0; invoke_id = parts.id }; ticket = a.clients.asked; away = Some peer }

    abbrev ended' : ClientEnd
    ended' = ended n w.notes h.asks i p g ask a.clients fits.clients parts.free

    notes_is : w'.notes ≡ note' ∷ w.notes
    notes_is = step.notes
        ∙ ap (λ (y : Accepted). record { key = record { client = i; server = 0; invoke_id = y.invoke_id }; ticket = y.ticket; away = Some peer } ∷ w.notes) parts.is

    node_is : step.after ≡ record a { latest = told w i; clients = ended' }
    node_is = step.asks.node ∙ ap (λ (y : Accepted). record a { latest = told w i; clients = y.end }) parts.is

    made_fits : NodeFits links apart x (here_at n i) (there_at n i) (note' ∷ w.notes) after i (record a { latest = told w i; clients = ended' })
    made_fits = record {
      settings = fits.settings;
      link = fits.link;
      asks = fits.asks;
      serves = fits.serves;
      clients = ask_fits n w.notes h.asks i p g ask a.clients fits.clients parts.free;
      servers = record { distinct = fits.servers.distinct; known = fits.servers.known; found = fits.servers.found; strangers = fits.servers.strangers };
    }

    nodes : (j : ℕ) (b : Node) → slice_get w'.nodes j ≡ Some b → ((j ≡ i) ⊎ (j ≡ i → ⊥)) → NodeFits links apart x (here_at n j) (there_at n j) (note' ∷ w.notes) after j b
    nodes j b at (inl is) =
        let there : slice_get w'.nodes i ≡ Some b = subst (λ (k : ℕ). slice_get w'.nodes k ≡ Some b) is at in
        let same : step.after ≡ b = let e : Some step.after ≡ Some b = sym step.nodes.here ∙ there in cc in
        subst (λ (k : ℕ). NodeFits links apart x (here_at n k) (there_at n k) (note' ∷ w.notes) after k b) (sym is)
        (subst (λ (d : Node). NodeFits links apart x (here_at n i) (there_at n i) (note' ∷ w.notes) after i d) (sym node_is ∙ same) made_fits)
    nodes j b at (inr ne) = others_noted n w.notes h.asks i p g ask a.clients fits.clients parts.free j b ne
        (h.nodes j b (sym (step.nodes.others j ne) ∙ at))

    last_is : is_away (length w.notes) (note' ∷ w.notes) ≡ true
    last_is = ap (λ (b : Bool). if b then true else is_away (length w.notes) w.notes) (equal_self (length w.notes))

    away : (k : Key) (u : ClientTransaction) → ((key ≡ k) ⊎ (key ≡ k → ⊥)) → after.far.tickets k ≡ Some u
        → is_away (after.far.numbers k) (note' ∷ w.notes) ≡ true
    away k u (inl is) at = subst (λ (y : Key). is_away (after.far.numbers y) (note' ∷ w.notes) ≡ true) is
        (subst (λ (y : ℕ). is_away y (note' ∷ w.notes) ≡ true) (sym h.asks ∙ sym (set_same n.far.numbers key n.asks)) last_is)
    away k u (inr ne) at =
        let at' : n.far.tickets k ≡ Some u = sym (set_other n.far.tickets key (Some (asked_ticket (client_context x key (here_at n i)) ask)) k ne) ∙ at in
        subst (λ (y : ℕ). is_away y (note' ∷ w.notes) ≡ true) (sym (set_other n.far.numbers key n.asks k ne))
        (away_more (n.far.numbers k) note' w.notes (subst (λ (y : ℕ). n.far.numbers k < y) h.asks (away_below W x set bound n h.sound k u at')) ∙ h.away k u at')

    asks_is : n.asks + 1 ≡ length w'.notes
    asks_is = ap (λ (k : ℕ). k + 1) h.asks ∙ (let e : length w.notes + 1 ≡ length (note' ∷ w.notes) = omega arith in e)
        ∙ sym (ap (λ (l : List Note). length l) notes_is)

    asker_lives : (j : ℕ) (b : Bool) → nat_eq j i ≡ b
        → LifeFits after j (if b then record { active = true; sends_until = (w.lives i).sends_until } else w.lives j)
    asker_lives j true e = record {
      active = λ off. absurd cc;
      none = λ off. absurd cc;
      sends = (h.lives j).sends ∙ ap (λ (k : ℕ). (w.lives k).sends_until) (let same : j ≡ i = grind (arith, nat_tests) in same);
    }
    asker_lives j false e = record {
      active = λ off. ap (λ (b : Bool). (b || n.asked j) || n.served j) e ∙ (h.lives j).active off;
      none = λ off. let old : HasNothing n j = (h.lives j).none off in record {
        tickets = old.tickets;
        far_tickets = λ k is. set_elsewhere (λ (y : Key). y.client) n.far.tickets key (Some (asked_ticket (client_context x key (here_at n i)) ask)) k
            (ap (λ (c : ℕ). nat_eq c i) is ∙ e) ∙ old.far_tickets k is;
        entries = old.entries;
        far_entries = old.far_entries;
      };
      sends = (h.lives j).sends;
    }

    over : Over links apart W x set w' after
    over = record {
      now = h.now ∙ sym (ap (λ (t : Time). t.now) step.time);
      pace = h.pace ∙ sym (ap (λ (t : Time). t.pace) step.time);
      here = λ j. h.here j ∙ sym (ap (λ (t : Time). t.clocks j) step.time);
      there = λ j. h.there j ∙ sym (ap (λ (t : Time). t.clocks j) step.time);
      lives = λ j. subst (λ (lives : ℕ → Life). LifeFits after j (lives j)) (sym step.lives) (asker_lives j (nat_eq j i) refl);
      idle = idle_with w.nodes w'.nodes w.lives w'.lives i step.after (record { active = true; sends_until = (w.lives i).sends_until })
          step.nodes step.lives refl h.idle;
      asks = asks_is;
      linked = linked_with links w.nodes w'.nodes i a step.after step.nodes step.at (ap (λ (d : Node). d.link) node_is) h.linked;
      nodes = λ j b at. subst (λ (l : List Note). NodeFits links apart x (here_at n j) (there_at n j) l after j b) (sym notes_is) (nodes j b at (decide_number j i));
      noted = λ k t at. ap (newest k) notes_is ∙ h.noted k t at;
      away = subst (λ (l : List Note). AwayNoted l after) (sym notes_is) (λ k u at. away k u (decide_key key k) at);
      posts = subst (λ (l : List Copy). Pairwise (IsCopyOf links apart) after.posts l) (sym step.copies) h.posts;
      log = subst (λ (lg : List Fact). Pairwise (FactMeans set) after.log lg) (sym step.log)
          ((sym h.asks, subst (λ (o : Octets). SpellsRequest (choice_of r) r o) (sym parts.joined) step.asks.spelled), h.log);
      sound = sound;
    }

    once : (opening : Stores) → IsOnceSo (ever_in set) opening w.log (stores_of w.nodes) → IsOnceSo (ever_in set) opening w'.log (stores_of w'.nodes)
    once opening before = subst (λ (lg : List Fact). IsOnceSo (ever_in set) opening lg (stores_of w'.nodes)) (sym step.log) (
      stores_of w.nodes,
      (
        sym h.asks ∙ counted W x set bound n h.sound ∙ sym (asks_counted set n.log w.log h.log),
        stores_same w.nodes w'.nodes i a step.after step.nodes step.at (ap (λ (d : Node). d.store) node_is),
      ),
      before,
    )

    pub asks_away_with : (m : Net) × Goes links apart W x set w w' m × IsAside n m
    asks_away_with = (after, record { bridge = over; once = once }, asked_aside x n key ask)

  pub asks_away_over : (w w' : World) (n : Net) → Over links apart W x set w n → (client : ℕ) (peer : PeerView) (limits : Limits) (r : Request)
      → IsAskedAway w client peer limits r w' → (m : Net) × Goes links apart W x set w w' m × IsAside n m
  asks_away_over w w' n h i peer limits r step =
      let fits : Fits links apart W x set w n n i step.before = h.nodes i step.before step.at in
      let asked_of : Settings → ℕ → AskOutcome =
      λ c now. requester_ask c now peer limits (choice_of r) step.asks.octets step.before.clients in
      let parts = accepted_is (x.settings i) (here_at n i) peer (choice_of r) step.asks.octets step.before.clients step.accepted limits
      (subst (λ (y : Settings). asked_of y (here_at n i) ≡ Asked step.accepted) fits.settings
      (subst (λ (y : ℕ). asked_of step.before.settings y ≡ Asked step.accepted) (sym (ap (λ (y : Clock). y.shows) (h.here i))) step.asks.accepted)) in
      asks_away_with w w' n h i peer limits r step parts
