-- A node at which nothing happened begins, with a new clock.
use Rattle.std.proofs.Common.{◌≡◌, ℕ, Bool, true, false, List, [], Option, Some, None, slice_get, nat_eq, if◌then◌else◌, refl, sym, ap, subst, ◌∙◌, arith}
use Rattle.std.proofs.lemmas.Bool.Decides.{nat_tests}
use Rattle.bac_protocol.specs.Pace.{Clock, clock_at}
use Rattle.bac_protocol.specs.Service.{Octets}
use Rattle.bac_protocol.specs.Client.{ClientTransaction}
use Rattle.bac_protocol.specs.Server.{live_entry}
use Rattle.bac_protocol.specs.Transaction.{Rules}
use Rattle.bac_protocol.specs.World.{Net, begun, is_lost}
use Rattle.bac_protocol.specs.World as machine
use Rattle.bac_protocol.specs.Claims.{IsBounded}
use Rattle.bac_slots.specs.Slots.{value_at}
use Rattle.bac_transaction.specs.Keys.{PeerKey, same_key}
use Rattle.bac_transaction.specs.Ends.{Client}
use Rattle.bac_world.specs.Node.{Node}
use Rattle.bac_world.specs.World.{World, Note, with_clock, IsBegun}
use Rattle.bac_world.proofs.Bridge.{HasNothing, NodeFits, TicketFits, here_at, there_at, key_of, lives_as, out_key, slot_key, stranger_key}
use Rattle.bac_world.proofs.Machines.{begins}
use Rattle.bac_world.proofs.Steps.{Over}
use Rattle.bac_world.proofs.Settings.{Setting}

-- where there is no ticket, nothing depends on the clock
ticket_none : (gone : Bool) (now after : ℕ) (notes : List Note) (i number : ℕ) (o : Option Client) (t : Option ClientTransaction) → t ≡ None
    → TicketFits gone now notes i number o t → TicketFits gone after notes i number o t
ticket_none gone now after notes i number None None e h = record { over = h.over; free = h.free }
ticket_none gone now after notes i number (Some s) None e h = absurd h
ticket_none gone now after notes i number o (Some t) e h = absurd cc

module _ (links : ℕ → Option Octets) (apart : (i j : ℕ) (l : Octets) → links i ≡ Some l → links j ≡ Some l → i ≡ j) (W : ℕ) (x : Rules)
    (set : Setting) (bound : IsBounded W x) (w w' : World) (n : Net) (h : Over links apart W x set w n) (i exact : ℕ) (s : IsBegun w i exact w') where
  abbrev m : Net
  m = begun n i exact

  -- the node has nothing, in the net and in its tables
  starts : (a : Node) → a.servers.slots ≡ [] → HasNothing n i → NodeFits links apart x (here_at n i) (there_at n i) w.notes n i a
      → NodeFits links apart x (here_at m i) (there_at m i) w.notes m i a
  starts a idle none f = record {
    settings = f.settings;
    link = f.link;
    asks = f.asks;
    serves = f.serves;
    clients = record {
      distinct = f.clients.distinct;
      known = f.clients.known;
      found = λ p l id at. ticket_none (is_lost n (key_of i p id)) (here_at n i) (here_at m i) w.notes i (n.numbers (key_of i p id))
          (value_at same_key (slot_key l id) a.clients.slots) (n.tickets (key_of i p id)) (none.tickets (key_of i p id) refl) (f.clients.found p l id at);
      strangers = λ p g. ticket_none false (here_at n i) (here_at m i) w.notes i (n.far.numbers (out_key i p)) (value_at same_key p a.clients.slots)
          (n.far.tickets (out_key i p)) (none.far_tickets (out_key i p) refl) (f.clients.strangers p g);
    };
    servers = record {
      distinct = f.servers.distinct;
      known = f.servers.known;
      found = λ c l id at. empty (slot_key l id) ∙ sym (ap (live_entry (there_at m i)) (none.entries (key_of c i id) refl));
      strangers = λ p g. empty p ∙ sym (ap (live_entry (there_at m i)) (none.far_entries (stranger_key i p) refl));
    };
  }
    where
      empty : (p : PeerKey) → live_entry (there_at m i) (value_at same_key p a.servers.slots) ≡ None
      empty p = ap (λ slots. live_entry (there_at m i) (value_at same_key p slots)) idle

  -- nothing changes at the others
  stays : (j : ℕ) (a : Node) → nat_eq j i ≡ false → NodeFits links apart x (here_at n j) (there_at n j) w.notes n j a
      → NodeFits links apart x (here_at m j) (there_at m j) w.notes m j a
  stays j a ne f =
      subst (λ (t : ℕ). NodeFits links apart x t (there_at m j) w.notes m j a) (sym (same n.client_clocks))
      (subst (λ (t : ℕ). NodeFits links apart x (here_at n j) t w.notes m j a) (sym (same n.server_clocks)) (record {
        settings = f.settings;
        link = f.link;
        asks = f.asks;
        serves = f.serves;
        clients = record { distinct = f.clients.distinct; known = f.clients.known; found = f.clients.found; strangers = f.clients.strangers };
        servers = record { distinct = f.servers.distinct; known = f.servers.known; found = f.servers.found; strangers = f.servers.strangers };
      }))
    where
      same : (clocks : ℕ → Clock) → (machine.with_clock n.pace i exact clocks j).shows ≡ (clocks j).shows
      same clocks = ap (λ (b : Bool). (if b then clock_at n.pace exact else clocks j).shows) ne

  fits : (j : ℕ) (a : Node) → slice_get w.nodes j ≡ Some a → (b : Bool) → nat_eq j i ≡ b → NodeFits links apart x (here_at m j) (there_at m j) w.notes m j a
  fits j a at true e =
      let is : j ≡ i = grind (arith, nat_tests) in
      let at' : slice_get w.nodes i ≡ Some a = sym (ap (slice_get w.nodes) is) ∙ at in
      subst (λ (k : ℕ). NodeFits links apart x (here_at m k) (there_at m k) w.notes m k a) (sym is)
      (starts a (h.idle i a at' s.first).entries ((h.lives i).none s.first) (h.nodes i a at'))
  fits j a at false e = stays j a e (h.nodes j a at)

  pub begun_over : Over links apart W x set (record w { time = with_clock w.time i exact }) m
  begun_over = record {
    now = h.now;
    pace = h.pace;
    here = λ j. λ k. if nat_eq j i then clock_at (h.pace k) exact else h.here j k;
    there = λ j. λ k. if nat_eq j i then clock_at (h.pace k) exact else h.there j k;
    lives = λ j. lives_as n m j (w.lives j) refl refl refl refl refl (h.lives j);
    idle = h.idle;
    asks = h.asks;
    linked = h.linked;
    nodes = λ j a at. fits j a at (nat_eq j i) refl;
    noted = h.noted;
    away = h.away;
    posts = h.posts;
    log = h.log;
    sound = begins W x set bound n i exact ((h.lives i).active s.first) h.sound;
  }
