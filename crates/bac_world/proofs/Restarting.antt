-- A node restarts, or another program begins where one was: both its tables are lost.
use Rattle.std.proofs.Common.{◌≡◌, ℕ, ◌+◌, ◌≤◌, ◌⊎◌, Bool, true, false, ◌&&◌, List, length, Option, Some, None, slice_get}
use Rattle.std.proofs.Common.{nat_eq, if◌then◌else◌, refl, sym, ap, subst, inl, inr, ◌∙◌, arith}
use Rattle.std.proofs.lemmas.Bool.Decides.{nat_tests}
use Rattle.std.specs.Option.{option_map}
use Rattle.bac_store.specs.Stores.{Store}
use Rattle.bac_protocol.specs.declared.times.TheConstants.{KEEP, REST}
use Rattle.bac_protocol.specs.Service.{Octets}
use Rattle.bac_protocol.specs.Client as client
use Rattle.bac_protocol.specs.Client.{ClientTransaction}
use Rattle.bac_protocol.specs.Client.Phase.{Idle}
use Rattle.bac_protocol.specs.Server.{live_entry}
use Rattle.bac_protocol.specs.Transaction.{Key, Rules}
use Rattle.bac_protocol.specs.World.{Net, lost, client_anew, client_restarted, next_client, server_restarted}
use Rattle.bac_protocol.specs.World as machine
use Rattle.bac_protocol.specs.Claims.{IsBounded}
use Rattle.bac_slots.specs.Slots.{value_at}
use Rattle.bac_transaction.specs.Keys.{same_key}
use Rattle.bac_transaction.specs.Sends.{Pairwise}
use Rattle.bac_world.specs.Node.{Node, store_after_restart}
use Rattle.bac_world.specs.Once.{Fact, with_restarted}
use Rattle.bac_world.specs.ReusingLogs.{IsOnceSo}
use Rattle.bac_world.specs.World.{World, Life, Time, Copy, Note, stores_of, newest, with_clock, with_life, IsWithNode, IsRestarted, IsBegunAgain, is_quiet}
use Rattle.bac_world.proofs.Bridge.{here_at, there_at}
use Rattle.bac_protocol.specs.Pace.{Pace, Clock, clock_at, most}
use Rattle.std.proofs.Common.{nat_lt, nat_le, not, min, ◌||◌, ◌<◌, [], ◌∷◌}
use Rattle.bac_transaction.specs.Ends.{Client}
use Rattle.bac_world.specs.Once.Fact.{Restarted}
use Rattle.bac_world.proofs.Machines.{Sound, restarts, begins_again, asked_before, sent_before}
use Rattle.bac_world.proofs.Logs.{FactMeans}
use Rattle.bac_world.proofs.Bridge.{HasNothing, LifeFits, NodeFits, IsCopyOf, IsGone, TicketFits, EntryFits, AwayNoted, key_of, slot_key, stranger_key, out_key}
use Rattle.bac_world.specs.World.{is_away}
use Rattle.bac_world.proofs.Steps.{Over, Goes, decide_number, idle_with, linked_with}
use Rattle.bac_world.proofs.Settings.{Setting, ever_in}

self : (i : ℕ) → nat_eq i i ≡ true
self i = grind (arith, nat_tests)

away : (j i : ℕ) → (j ≡ i → ⊥) → nat_eq j i ≡ false
away j i ne = go (nat_eq j i) refl
  where
    go : (b : Bool) → nat_eq j i ≡ b → b ≡ false
    go true e = absurd (ne (grind (arith, nat_tests)))
    go false e = refl

-- a lost ticket holds no invoke ID of its client's next life
gone_lost : (made from shown : ℕ) (o : Option ClientTransaction) → ((t : ClientTransaction) → o ≡ Some t → made < from) → IsGone (nat_lt made from) shown (lost o)
gone_lost made from shown None before = record { over = refl; free = go (nat_lt made from) }
  where
    go : (b : Bool) → (not b && false) ≡ false
    go true = refl
    go false = refl
gone_lost made from shown (Some t) before = record {
  over = refl;
  free = ap (λ (b : Bool). not b && client.is_held shown (record t { phase = Idle })) late;
}
  where
    late : nat_lt made from ≡ true
    late = let first : made < from = before t refl in grind (arith, nat_tests)

-- what the net makes of it: that client's asks from before that moment are lost, and it asks again from that one on; its server restarts
abbrev pub renewed_net : Net → (i exact lost_before from : ℕ) → (ℕ → ℕ) → Net
renewed_net n i exact lost_before from sends = server_restarted (record (client_anew n i exact) {
  restarted = λ j. if nat_eq j i then lost_before else n.restarted j;
  sends_until = sends;
  asks_from = λ j. if nat_eq j i then from else n.asks_from j;
}) i exact None

-- and of the node
abbrev renewed : (now from first_id : ℕ) → Store → Node → Node
renewed now from first_id store a =
    record a {
      latest = now;
      clients = record { slots = []; capacity = a.clients.capacity; asked = 0; asks_from = from; first_id = first_id };
      servers = record { slots = []; capacity = a.servers.capacity; serves_from = now + KEEP + 1 };
      store = store;
    }

-- what happens to the world
record Renews (w : World) (i exact from first_id until : ℕ) (o : Option Store) (w' : World) : Type 0 where
  before : Node
  at : slice_get w.nodes i ≡ Some before
  nodes : IsWithNode w.nodes i (renewed (clock_at w.time.pace exact).shows from first_id (store_after_restart before.store o) before) w'.nodes
  time : w'.time ≡ with_clock w.time i exact
  lives : w'.lives ≡ with_life w.lives i (record { active = true; sends_until = until })
  copies : w'.copies ≡ w.copies
  notes : w'.notes ≡ w.notes
  log : w'.log ≡ Restarted i o ∷ w.log

-- and what is known of both
record IsRenewed (w : World) (n : Net) (i lost_before from asks_from until : ℕ) (sends : ℕ → ℕ) : Type 0 where
  asks : asks_from ≡ from
  made : (key : Key) (t : ClientTransaction) → n.tickets key ≡ Some t → key.client ≡ i → n.made key < lost_before
  sends_is : (j : ℕ) (b : Bool) → nat_eq j i ≡ b → sends j ≡ (if b then until else n.sends_until j)

module _ (links : ℕ → Option Octets) (apart : (i j : ℕ) (l : Octets) → links i ≡ Some l → links j ≡ Some l → i ≡ j) (W : ℕ) (x : Rules)
    (set : Setting) (w w' : World) (n : Net) (h : Over links apart W x set w n) (i exact lost_before from asks_from first_id until : ℕ) (o : Option Store)
    (sends : ℕ → ℕ) (s : Renews w i exact asks_from first_id until o w') (k : IsRenewed w n i lost_before from asks_from until sends)
    (sound : Sound W x set (renewed_net n i exact lost_before from sends)) where
  abbrev m : Net
  m = renewed_net n i exact lost_before from sends

  abbrev made : Node
  made = renewed (clock_at w.time.pace exact).shows asks_from first_id (store_after_restart s.before.store o) s.before

  f : NodeFits links apart x (here_at n i) (there_at n i) w.notes n i s.before
  f = h.nodes i s.before s.at

  -- its own ticket, and another client's
  abbrev TicketIn : (b : Bool) → (j : ℕ) → Option Client → Key → Type 0
  TicketIn b j v k = TicketFits (nat_lt (n.made k) (if b then lost_before else n.restarted j)) (if b then clock_at n.pace exact else n.client_clocks j).shows
      w.notes j (n.numbers k) v (if b then lost (n.tickets k) else n.tickets k)

  no_ticket : (key : Key) → key.client ≡ i → TicketIn (nat_eq i i) i None key
  no_ticket key its = subst (λ (b : Bool). TicketIn b i None key)
      (sym (self i)) (gone_lost (n.made key) lost_before (clock_at n.pace exact).shows (n.tickets key) (λ t is. k.made key t is its))

  no_far : (k : Key) → IsGone false (here_at m i) (if nat_eq i i then None else n.far.tickets k)
  no_far k = subst (λ (b : Bool). IsGone false (here_at m i) (if b then None else n.far.tickets k)) (sym (self i)) (record { over = refl; free = refl })

  made_fits : NodeFits links apart x (here_at m i) (there_at m i) w.notes m i made
  made_fits = record {
    settings = f.settings;
    link = f.link;
    asks = k.asks ∙ sym (ap (λ (b : Bool). if b then from else n.asks_from i) (self i));
    serves = ap (λ (p : Pace). (clock_at p exact).shows + KEEP + 1) (sym h.pace)
        ∙ sym (ap (λ (b : Bool). if b then (clock_at n.pace exact).shows + KEEP + 1 else n.serves_from i) (self i));
    clients = record { distinct = tt; known = tt; found = λ p l id at. no_ticket (key_of i p id) refl; strangers = λ p g. no_far (out_key i p) };
    servers = record {
      distinct = tt;
      known = tt;
      found = λ c l id at. ap (λ (b : Bool). live_entry (there_at m i) (if b then None else n.entries (key_of c i id))) (sym (self i));
      strangers = λ p g. ap (λ (b : Bool). live_entry (there_at m i) (if b then None else n.far.entries (stranger_key i p))) (sym (self i));
    };
  }

  others : (j : ℕ) (a : Node) → (j ≡ i → ⊥) → NodeFits links apart x (here_at n j) (there_at n j) w.notes n j a
      → NodeFits links apart x (here_at m j) (there_at m j) w.notes m j a
  others j a ne g = record {
    settings = g.settings;
    link = g.link;
    asks = g.asks ∙ sym (ap (λ (b : Bool). if b then from else n.asks_from j) (away j i ne));
    serves = g.serves ∙ sym (ap (λ (b : Bool). if b then (clock_at n.pace exact).shows + KEEP + 1 else n.serves_from j) (away j i ne));
    clients = record {
      distinct = g.clients.distinct;
      known = g.clients.known;
      found = λ p l id at. subst (λ (b : Bool). TicketIn b j (value_at same_key (slot_key l id) a.clients.slots) (key_of j p id))
          (sym (away j i ne)) (g.clients.found p l id at);
      strangers = λ p y. subst (λ (b : Bool). TicketFits false (if b then clock_at n.pace exact else n.client_clocks j).shows w.notes j (n.far.numbers (out_key j p))
          (value_at same_key p a.clients.slots) (if b then None else n.far.tickets (out_key j p)))
          (sym (away j i ne)) (g.clients.strangers p y);
    };
    servers = record {
      distinct = g.servers.distinct;
      known = g.servers.known;
      found = λ c l id at. subst (λ (b : Bool). EntryFits (if b then clock_at n.pace exact else n.server_clocks j).shows
          (value_at same_key (slot_key l id) a.servers.slots) (if b then None else n.entries (key_of c j id))) (sym (away j i ne)) (g.servers.found c l id at);
      strangers = λ p y. subst (λ (b : Bool). EntryFits (if b then clock_at n.pace exact else n.server_clocks j).shows
          (value_at same_key p a.servers.slots) (if b then None else n.far.entries (stranger_key j p))) (sym (away j i ne)) (g.servers.strangers p y);
    };
  }

  fits : (j : ℕ) (c : Node) → slice_get w'.nodes j ≡ Some c → ((j ≡ i) ⊎ (j ≡ i → ⊥)) → NodeFits links apart x (here_at m j) (there_at m j) w.notes m j c
  fits j c at (inl is) =
      let there : slice_get w'.nodes i ≡ Some c = subst (λ (k : ℕ). slice_get w'.nodes k ≡ Some c) is at in
      let same : made ≡ c = let e : Some made ≡ Some c = sym s.nodes.here ∙ there in cc in
      subst (λ (k : ℕ). NodeFits links apart x (here_at m k) (there_at m k) w.notes m k c) (sym is)
      (subst (λ (d : Node). NodeFits links apart x (here_at m i) (there_at m i) w.notes m i d) same made_fits)
  fits j c at (inr ne) = others j c ne (h.nodes j c (sym (s.nodes.others j ne) ∙ at))

  noted : (key : Key) (t : ClientTransaction) (b : Bool) → (if b then lost (n.tickets key) else n.tickets key) ≡ Some t
      → newest key w.notes ≡ Some (n.numbers key)
  noted key t false is = h.noted key t is
  noted key t true is = go (n.tickets key) refl is
    where
      go : (y : Option ClientTransaction) → n.tickets key ≡ y → lost y ≡ Some t → newest key w.notes ≡ Some (n.numbers key)
      go None e is = absurd cc
      go (Some u) e is = h.noted key u e

  far_noted : (key : Key) (t : ClientTransaction) (b : Bool) → (if b then None else n.far.tickets key) ≡ Some t → is_away (n.far.numbers key) w.notes ≡ true
  far_noted key t false is = h.away key t is
  far_noted key t true is = absurd cc

  lives : (j : ℕ) (b : Bool) → nat_eq j i ≡ b → LifeFits m j (if b then record { active = true; sends_until = until } else w.lives j)
  lives j true e = record { active = λ off. absurd cc; sends = k.sends_is j true e; none = λ off. absurd cc }
  lives j false e = record {
    active = λ off. ap (λ (b : Bool). (b || n.asked j) || (b || n.served j)) e ∙ (h.lives j).active off;
    sends = k.sends_is j false e ∙ (h.lives j).sends;
    none = λ off. let old : HasNothing n j = (h.lives j).none off in record {
      tickets = λ key is. ap (λ (b : Bool). if b then lost (n.tickets key) else n.tickets key) (elsewhere key.client is) ∙ old.tickets key is;
      far_tickets = λ key is. ap (λ (b : Bool). if b then None else n.far.tickets key) (elsewhere key.client is) ∙ old.far_tickets key is;
      entries = λ key is. ap (λ (b : Bool). if b then None else n.entries key) (elsewhere key.server is) ∙ old.entries key is;
      far_entries = λ key is. ap (λ (b : Bool). if b then None else n.far.entries key) (elsewhere key.server is) ∙ old.far_entries key is;
    };
  }
    where
      elsewhere : (at : ℕ) → at ≡ j → nat_eq at i ≡ false
      elsewhere at is = ap (λ (c : ℕ). nat_eq c i) is ∙ e

  renewed_over : Over links apart W x set w' m
  renewed_over = record {
    now = h.now ∙ sym (ap (λ (t : Time). t.now) s.time);
    pace = h.pace ∙ sym (ap (λ (t : Time). t.pace) s.time);
    here = λ j. (λ k. if nat_eq j i then clock_at (h.pace k) exact else h.here j k) ∙ sym (ap (λ (t : Time). t.clocks j) s.time);
    there = λ j. (λ k. if nat_eq j i then clock_at (h.pace k) exact else h.there j k) ∙ sym (ap (λ (t : Time). t.clocks j) s.time);
    lives = λ j. subst (λ (f : ℕ → Life). LifeFits m j (f j)) (sym s.lives) (lives j (nat_eq j i) refl);
    idle = idle_with w.nodes w'.nodes w.lives w'.lives i made (record { active = true; sends_until = until }) s.nodes s.lives refl h.idle;
    asks = h.asks ∙ sym (ap (λ (l : List Note). length l) s.notes);
    linked = linked_with links w.nodes w'.nodes i s.before made s.nodes s.at refl h.linked;
    nodes = λ j a at. subst (λ (l : List Note). NodeFits links apart x (here_at m j) (there_at m j) l m j a) (sym s.notes) (fits j a at (decide_number j i));
    noted = λ key t is. ap (newest key) s.notes ∙ noted key t (nat_eq key.client i) is;
    away = subst (λ (l : List Note). AwayNoted l m) (sym s.notes) (λ key t is. far_noted key t (nat_eq key.client i) is);
    posts = subst (λ (l : List Copy). Pairwise (IsCopyOf links apart) n.posts l) (sym s.copies) h.posts;
    log = subst (λ (l : List Fact). Pairwise (FactMeans set) m.log l) (sym s.log) (refl, h.log);
    sound = sound;
  }

  stores_renewed : (node : ℕ) → stores_of w'.nodes node ≡ with_restarted i o (stores_of w.nodes) node
  stores_renewed node = go (nat_eq node i) refl
    where
      store : Option Node → Option Store
      store y = option_map (λ (a : Node). a.store) y

      go : (b : Bool) → nat_eq node i ≡ b → stores_of w'.nodes node
          ≡ (if b then option_map (λ (y : Store). store_after_restart y o) (stores_of w.nodes i) else stores_of w.nodes node)
      go true e =
          let same : node ≡ i = grind (arith, nat_tests) in
          ap (stores_of w'.nodes) same ∙ ap store s.nodes.here
          ∙ sym (ap (λ y. option_map (λ (z : Store). store_after_restart z o) (store y)) s.at)
      go false e = ap store (s.nodes.others node (λ same. grind (arith, nat_tests)))

  renewed_goes : Goes links apart W x set w w' m
  renewed_goes = record {
    bridge = renewed_over;
    once = λ opening once. subst (λ (l : List Fact). IsOnceSo (ever_in set) opening l (stores_of w'.nodes)) (sym s.log) (stores_of w.nodes, stores_renewed, once);
  }

-- both ends of the node restart
abbrev pub restarted_net : Net → (i exact : ℕ) → Net
restarted_net n i exact = server_restarted (client_restarted n i exact) i exact None

-- or another client begins, and its server restarts
abbrev pub replaced_net : Net → (i exact : ℕ) → Net
replaced_net n i exact = server_restarted (next_client n i exact) i exact None

-- the server's clock begins anew, whichever it was
pub replaced_is : (n : Net) (i exact : ℕ) → replaced_net n i exact ≡ server_restarted (machine.begun_again n i exact) i exact None
replaced_is n i exact = ap (λ (f : ℕ → Clock). record (replaced_net n i exact) { server_clocks = f }) (λ k. λ j. anew (n.served i) j k)
  where
    twice : (c d : Clock) (b : Bool) → (if b then c else d) ≡ (if b then c else (if b then c else d))
    twice c d true = refl
    twice c d false = refl

    anew : (b : Bool) (j : ℕ) → machine.with_clock n.pace i exact n.server_clocks j
        ≡ machine.with_clock n.pace i exact (if b then n.server_clocks else machine.with_clock n.pace i exact n.server_clocks) j
    anew true j = refl
    anew false j = twice (clock_at n.pace exact) (n.server_clocks j) (nat_eq j i)

module _ (links : ℕ → Option Octets) (apart : (i j : ℕ) (l : Octets) → links i ≡ Some l → links j ≡ Some l → i ≡ j) (W : ℕ) (x : Rules)
    (set : Setting) (bound : IsBounded W x) (w w' : World) (n : Net) (h : Over links apart W x set w n) (i exact : ℕ) where
  -- where all is over in the world, it is in the net
  pub quiet_net : is_quiet w i ≡ true → machine.is_quiet n i ≡ true
  quiet_net quiet = (λ k. nat_le ((h.lives i).sends k + (h.pace k).life + most (h.pace k) KEEP + (h.pace k).life) (h.now k)) ∙ quiet

  -- and all that it asked was asked before
  pub asked_earlier : is_quiet w i ≡ true → (key : Key) (t : ClientTransaction) → n.tickets key ≡ Some t → key.client ≡ i → n.made key < n.now
  asked_earlier all_over key t is its =
      let quiet : machine.is_quiet n i ≡ true = quiet_net all_over in
      let lt = sent_before W x set bound n h.sound key t is in
      let last : n.sends_until key.client ≡ n.sends_until i = ap n.sends_until its in
      let over : n.sends_until i + n.pace.life + most n.pace KEEP + n.pace.life ≤ n.now = grind (arith, nat_tests) in omega arith

  -- how long its client sends for what it asked so far
  sends_here : (j : ℕ) → nat_eq j i ≡ true → n.sends_until j ≡ (w.lives i).sends_until
  sends_here j e = (h.lives j).sends ∙ ap (λ (c : ℕ). (w.lives c).sends_until) (let same : j ≡ i = grind (arith, nat_tests) in same)

  pub restarted_goes : (o : Option Store) → IsRestarted w i exact o w' → Goes links apart W x set w w' (restarted_net n i exact)
  restarted_goes o s = renewed_goes links apart W x set w w' n h i exact (n.now + 1) ((clock_at n.pace exact).shows + REST + 1)
      ((clock_at w.time.pace exact).shows + REST + 1) s.before.clients.first_id (min (w.lives i).sends_until (w.time.now + 1)) o
      (λ j. if nat_eq j i then min (n.sends_until j) (n.now + 1) else n.sends_until j)
      (record { before = s.before; at = s.at; nodes = s.nodes; time = s.time; lives = s.lives; copies = s.copies; notes = s.notes; log = s.log })
      (record {
        asks = ap (λ (p : Pace). (clock_at p exact).shows + REST + 1) (sym h.pace);
        made = λ key t is its. let le = asked_before W x set bound n h.sound key t is in omega arith;
        sends_is = sends;
      }) (restarts W x set bound n i exact h.sound)
    where
      sends : (j : ℕ) (b : Bool) → nat_eq j i ≡ b → (if nat_eq j i then min (n.sends_until j) (n.now + 1) else n.sends_until j)
          ≡ (if b then min (w.lives i).sends_until (w.time.now + 1) else n.sends_until j)
      sends j true e = ap (λ (b : Bool). if b then min (n.sends_until j) (n.now + 1) else n.sends_until j) e
          ∙ (λ k. min (sends_here j e k) (h.now k + 1))
      sends j false e = ap (λ (b : Bool). if b then min (n.sends_until j) (n.now + 1) else n.sends_until j) e

  pub replaced_goes : (first_id : ℕ) (o : Option Store) → IsBegunAgain w i exact first_id o w' → Goes links apart W x set w w' (replaced_net n i exact)
  replaced_goes first_id o s = renewed_goes links apart W x set w w' n h i exact n.now 0 0 first_id (w.lives i).sends_until o n.sends_until
      (record { before = s.before; at = s.at; nodes = s.nodes; time = s.time; lives = s.lives; copies = s.copies; notes = s.notes; log = s.log })
      (record {
        asks = refl;
        made = asked_earlier s.quiet;
        sends_is = sends;
      }) (subst (λ (y : Net). Sound W x set y) (sym (replaced_is n i exact)) (begins_again W x set bound n i exact (quiet_net s.quiet) h.sound))
    where
      sends : (j : ℕ) (b : Bool) → nat_eq j i ≡ b → n.sends_until j ≡ (if b then (w.lives i).sends_until else n.sends_until j)
      sends j true e = sends_here j e
      sends j false e = refl

  -- the nets after them
  pub restarted_over : (o : Option Store) → IsRestarted w i exact o w' → Over links apart W x set w' (restarted_net n i exact)
  restarted_over o s = (restarted_goes o s).bridge

  pub replaced_over : (first_id : ℕ) (o : Option Store) → IsBegunAgain w i exact first_id o w' → Over links apart W x set w' (replaced_net n i exact)
  replaced_over first_id o s = (replaced_goes first_id o s).bridge
