-- What holds of every net to which moves lead. Each step of an end, of time and of a life keeps it.
use Rattle.std.proofs.Common.{◌≡◌, ℕ, ◌+◌, ◌-◌, ◌≤◌, ◌⊎◌, Bool, true, false, List, [], ◌∷◌, ◌++◌, Option, Some, None, slice_get, if◌then◌else◌, refl, sym, ap, subst, inl, inr, arith}
use Rattle.bac_apdu.specs.Apdu.{Apdu}
use Rattle.bac_protocol.specs.Times.{DEADLINE, KEEP}
use Rattle.bac_protocol.specs.Pace.{Pace, IsTimely, clock_at, most}
use Rattle.bac_protocol.specs.Service.{Ending, Octets}
use Rattle.bac_protocol.specs.Service.Outcome.{Rejects}
use Rattle.bac_protocol.specs.Wire.{is_from_client}
use Rattle.bac_protocol.specs.Client as client
use Rattle.bac_protocol.specs.Client.{Ask, ClientTransaction, is_idle, request_of}
use Rattle.bac_protocol.specs.Client.Reaction.{Stays}
use Rattle.bac_protocol.specs.Server as server
use Rattle.bac_protocol.specs.Server.{Effect, ServerTransaction, Service}
use Rattle.bac_protocol.specs.Log.{IsOrderly}
use Rattle.bac_protocol.specs.Log.Fact.{Asked, AskedAway, Changed, EndedAway, Served}
use Rattle.bac_protocol.specs.Transaction.{Copy, Key, Rules, client_context, ended_away, server_context}
use Rattle.bac_protocol.specs.World.{Net, Post, Strangers, asked_at, asked_away_at, begin_of, client_acts, client_acts_away, client_now, is_id_held, is_room}
use Rattle.bac_protocol.specs.World.{net_start, notes_change, passes, server_acts, server_acts_away, server_now, set_at, with_clock, with_node}
use Rattle.bac_protocol.specs.World.{begun, begun_again, client_begun, client_restarted, is_active, is_quiet, next_client, server_begun, server_restarted}
use Rattle.bac_protocol.specs.Claims.{IsBounded, moments_of}
use Rattle.bac_protocol.proofs.Alone.{one}
use Rattle.bac_protocol.proofs.Asks.{IsSpent}
use Rattle.bac_protocol.proofs.Calm.{Calm, calm_asked, calm_changed, calm_client, calm_client_begins, calm_client_restarted, calm_gets, calm_later, calm_next_client}
use Rattle.bac_protocol.proofs.Calm.{calm_server_begins, calm_server_restarted, calm_start, calm_ticks, restarted_by, spent_free}
use Rattle.bac_protocol.proofs.ClientKeeps.{client_gets_kept, client_ticks_kept}
use Rattle.bac_protocol.proofs.Dead.{ended_is_silent}
use Rattle.bac_protocol.proofs.Keys.{set_nothing}
use Rattle.bac_protocol.proofs.Nets.{IsLogOf, NetSound, log_away, net_asked, net_away, net_changed, net_client, net_client_begins, net_client_restarted, net_far}
use Rattle.bac_protocol.proofs.Nets.{net_later, net_log, net_next_client, net_server, net_server_begins, net_server_restarted, net_starts, room_opens, sound_at}
use Rattle.bac_protocol.proofs.Resting.{Unasked, Unserved, not_active, unasked_acts, unasked_anew, unasked_asks, unasked_more, unasked_restarts}
use Rattle.bac_protocol.proofs.Resting.{unserved_acts, unserved_acts_away, unserved_more, unserved_restarts}
use Rattle.bac_protocol.proofs.Sending.{Sends, made_before, sends_asked, sends_client, sends_later, sends_next_client, sends_restarted, sends_start}
use Rattle.bac_protocol.proofs.ServerKeeps.{server_gets_kept, server_ticks_kept}
use Rattle.bac_protocol.proofs.Sound.{IsClear, Says}
use Rattle.bac_protocol.proofs.StrangerTables.{Away, away_after, away_asked, away_ended, away_later, away_lost, away_more, away_performed}
use Rattle.bac_protocol.proofs.StrangerTables.{away_server_begins, away_server_restarted, away_starts, right_after, right_asked}

pub record Stands (W : ℕ) (n : Net) : Type 0 where
  pub net : NetSound W n
  pub calm : Calm n
  pub away : Away n
  pub unasked : Unasked n
  pub unserved : Unserved n
  pub sends : Sends n

pub start_stands : (W : ℕ) (pace : Pace) (clocks : ℕ → ℕ) → IsTimely pace → Stands W (net_start pace clocks)
start_stands W pace clocks timely = record {
  net = net_starts W pace clocks;
  calm = calm_start pace clocks timely;
  away = away_starts (λ node. clock_at pace (clocks node));
  unasked = λ node off. record { tickets = λ key is. refl; restarted = refl; sends = refl };
  unserved = λ node off. record { entries = λ key is. refl; away = λ key is. refl; opens = refl };
  sends = sends_start pace clocks;
}

all_there : (posts : List Post) → posts ++ [] ≡ posts
all_there [] = refl
all_there (p ∷ posts) = ap (λ ps. p ∷ ps) (all_there posts)

-- few enough later copies may overtake one, or its transfers are short
pub few_are_clear : (W : ℕ) (x : Rules) → IsBounded W x → (pieces k : ℕ) → (k ≤ x.overtake) ⊎ (pieces ≤ 256) → IsClear W pieces k
few_are_clear W x bound pieces k (inl few) = let room = bound.room in inl (omega arith)
few_are_clear W x bound pieces k (inr short) = inr short

module _ (W : ℕ) (n : Net) (s : Stands W n) where
  log_stands : IsLogOf n.asks n.log
  log_stands = net_log W n s.net

  -- where an invoke ID is free, nothing is left of what was asked with it
  pub spent_stands : (key : Key) → is_id_held n key ≡ false → IsSpent (one n key)
  spent_stands key free = spent_free W n s.net s.calm s.sends key free

  pub time_stands : (by : ℕ) (clients servers : ℕ → ℕ) → Stands W (passes n by clients servers)
  time_stands by clients servers = record {
    net = net_later W by clients servers n s.net;
    calm = calm_later n by clients servers s.calm;
    away = away_later n by clients servers s.calm s.away;
    unasked = s.unasked;
    unserved = s.unserved;
    sends = sends_later W n by clients servers (net_later W by clients servers n s.net) s.sends;
  }

  pub change_stands : (node : ℕ) (change : Octets) → Stands W (notes_change n node change)
  change_stands node change = record {
    net = net_changed W n node change s.net;
    calm = calm_changed n node change s.calm;
    away = away_more n.server_clocks n.serves_from n.far (Changed node change) n.log tt s.away;
    unasked = s.unasked;
    unserved = s.unserved;
    sends = s.sends;
  }

  -- Lives.

  pub client_restart_stands : (node exact : ℕ) → Stands W (client_restarted n node exact)
  client_restart_stands node exact = record {
    net = net_client_restarted W n node exact s.net;
    calm = calm_client_restarted n node exact s.calm;
    away = away_lost n node s.away;
    unasked = unasked_restarts n s.unasked node;
    unserved = s.unserved;
    sends = sends_restarted W n node exact s.net s.sends;
  }

  pub server_restart_stands : (node exact : ℕ) (store : Option Octets) → Stands W (server_restarted n node exact store)
  server_restart_stands node exact store = record {
    net = net_server_restarted W n node exact store s.net;
    calm = calm_server_restarted n node exact store s.calm;
    away = away_server_restarted n node exact store s.away;
    unasked = s.unasked;
    unserved = unserved_restarts n s.unserved node ((clock_at n.pace exact).shows + KEEP + 1);
    sends = s.sends;
  }

  client_begin_stands : (node exact : ℕ) → n.asked node ≡ false → Stands W (client_begun n node exact)
  client_begin_stands node exact off = record {
    net = net_client_begins W n node exact (s.unasked node off) s.net;
    calm = calm_client_begins n node exact (s.unasked node off) s.calm;
    away = s.away;
    unasked = s.unasked;
    unserved = s.unserved;
    sends = s.sends;
  }

  pub server_begin_stands : (node exact : ℕ) → n.served node ≡ false → Stands W (server_begun n node exact)
  server_begin_stands node exact off = record {
    net = net_server_begins W n node exact (s.unserved node off) s.net;
    calm = calm_server_begins n node exact (s.unserved node off) s.calm;
    away = away_server_begins n node exact (s.unserved node off) s.away;
    unasked = s.unasked;
    unserved = s.unserved;
    sends = s.sends;
  }

  next_client_stands : (node exact : ℕ) → is_quiet n node ≡ true → Stands W (next_client n node exact)
  next_client_stands node exact quiet = record {
    net = net_next_client W n node exact (made_before n node s.sends quiet) s.net;
    calm = calm_next_client W n node exact s.net s.sends quiet s.calm;
    away = away_lost n node s.away;
    unasked = unasked_anew n s.unasked node n.now n.sends_until (λ m other none. none);
    unserved = s.unserved;
    sends = sends_next_client n node exact quiet s.sends;
  }

  -- one more server has served, with nothing done
  pub served_stands : (node : ℕ) → Stands W (record n { served = with_node node n.served })
  served_stands node = record {
    net = record { each = s.net.each; apart = s.net.apart };
    calm = s.calm;
    away = s.away;
    unasked = s.unasked;
    unserved = unserved_more n s.unserved node;
    sends = s.sends;
  }

  -- What an end does, where the transactions of nodes stay right.

  pub reacts_keep : (key : Key) (t : ClientTransaction) → n.tickets key ≡ Some t → (r : client.Reaction) → NetSound W (client_acts n key t r)
      → Calm (client_acts n key t r) → Stands W (client_acts n key t r)
  reacts_keep key t at r sound calm = record {
    net = sound;
    calm = calm;
    away = away_ended n.server_clocks n.serves_from n.far (n.numbers key) (client.ending_of r) n.log s.away;
    unasked = unasked_acts n s.unasked key t at (Some (client.after (client_now n key) t r));
    unserved = s.unserved;
    sends = sends_client n s.sends key t at r;
  }

  pub serves_keep : (key : Key) (v : server.Reaction) → NetSound W (server_acts n key v) → Calm (server_acts n key v) → Stands W (server_acts n key v)
  serves_keep key v sound calm = record {
    net = sound;
    calm = calm;
    away = away_performed n.server_clocks n.serves_from n.far (n.numbers key) v.effect n.log s.away;
    unasked = s.unasked;
    unserved = unserved_acts n s.unserved key v.entry;
    sends = s.sends;
  }

  -- Strangers.

  pub away_right : (key : Key) (t : ClientTransaction) → n.far.tickets key ≡ Some t → (r : client.Reaction) → (is_idle t.phase ≡ true → r ≡ Stays)
      → IsOrderly (ended_away (n.far.numbers key) (client.ending_of r) n.log)
  away_right key t at r silent = right_after n.server_clocks n.serves_from n.far n.log s.away key t at n.asks r silent log_stands.orderly

  pub away_reacts : (key : Key) (t : ClientTransaction) → n.far.tickets key ≡ Some t → (r : client.Reaction) → (is_idle t.phase ≡ true → r ≡ Stays)
      → Stands W (client_acts_away n key t r)
  away_reacts key t at r silent = record {
    net = net (client.ending_of r) (away_right key t at r silent);
    calm = s.calm;
    away = away_after n.server_clocks n.serves_from n.far n.log s.away key t at (client_now n key) r silent;
    unasked = s.unasked;
    unserved = s.unserved;
    sends = s.sends;
  }
    where
      far : Strangers
      far = record (n.far) { tickets = set_at n.far.tickets key (Some (client.after (client_now n key) t r)) }

      net : (o : Option Ending) → IsOrderly (ended_away (n.far.numbers key) o n.log)
          → NetSound W (record n { far = far; log = ended_away (n.far.numbers key) o n.log })
      net None right = net_far W n n.served far s.net
      net (Some how) right = net_away W n n.asks n.asked n.served far (EndedAway (n.far.numbers key) how) tt
          (log_away n.asks n.asks (EndedAway (n.far.numbers key) how) n.log tt (omega arith) log_stands log_stands.counted right) s.net

  pub away_serves : (key : Key) (v : server.Reaction) → Away (server_acts_away n key v) → Stands W (server_acts_away n key v)
  away_serves key v away = record {
    net = net v.effect;
    calm = s.calm;
    away = away;
    unasked = s.unasked;
    unserved = unserved_acts_away n s.unserved key v.entry;
    sends = s.sends;
  }
    where
      far : Strangers
      far = record (n.far) { entries = set_at n.far.entries key v.entry }

      net : (o : Option Effect) → NetSound W (server_acts_away n key (record v { effect = o }))
      net None = net_far W n (with_node key.server n.served) far s.net
      net (Some e) = net_away W n n.asks n.asked (with_node key.server n.served) far
          (Served key.client key.server key.invoke_id (begin_of v.entry) e.request e.reply) tt
          (log_away n.asks n.asks (Served key.client key.server key.invoke_id (begin_of v.entry) e.request e.reply) n.log tt (omega arith)
          log_stands log_stands.counted log_stands.orderly) s.net

  pub away_asks : (x : Rules) (key : Key) (ask : Ask) → Stands W (asked_away_at x n key ask)
  away_asks x key ask = record {
    net = net_away W n (n.asks + 1) (with_node key.client n.asked) n.served
        (record (n.far) { numbers = set_at n.far.numbers key n.asks; tickets = set_at n.far.tickets key (Some ticket) })
        (AskedAway n.asks key.client key.server (request_of ask)) tt
        (log_away n.asks (n.asks + 1) (AskedAway n.asks key.client key.server (request_of ask)) n.log tt (omega arith) log_stands
        (let e = log_stands.counted in omega arith)
        (right_asked n.server_clocks n.serves_from n.far n.log s.away n.asks log_stands key ticket (request_of ask))) s.net;
    calm = s.calm;
    away = away_asked n.server_clocks n.serves_from n.far n.log s.away n.asks log_stands key ticket (request_of ask);
    unasked = unasked_more n s.unasked key.client;
    unserved = s.unserved;
    sends = s.sends;
  }
    where
      ticket : ClientTransaction
      ticket = client.asked_ticket (client_context x key (client_now n key)) ask

-- a node begins
pub begin_stands : (W : ℕ) (n : Net) → Stands W n → (node exact : ℕ) → is_active n node ≡ false → Stands W (begun n node exact)
begin_stands W n s node exact off =
    let none = not_active n node off in
    client_begin_stands W (server_begun n node exact) (server_begin_stands W n s node exact none.1) node exact none.0

-- another client begins at a node
pub begin_again_stands : (W : ℕ) (n : Net) → Stands W n → (node exact : ℕ) → is_quiet n node ≡ true → Stands W (begun_again n node exact)
begin_again_stands W n s node exact quiet = go (n.served node) refl
  where
    go : (b : Bool) → n.served node ≡ b
        → Stands W (record (next_client n node exact) { server_clocks = if b then n.server_clocks else with_clock n.pace node exact n.server_clocks })
    go true is = next_client_stands W n s node exact quiet
    go false off = next_client_stands W (server_begun n node exact) (server_begin_stands W n s node exact off) node exact quiet

module _ (W : ℕ) (x : Rules) (bound : IsBounded W x) (n : Net) (s : Stands W n) (key : Key) where
  module _ (choice : ℕ) (whole : Bool) (front : Octets) (rest : List Octets) where
    abbrev pub ask : Ask
    ask = record { first = client_now n key; choice = choice; whole = whole; pieces = front ∷ rest }

    pub ask_stands : is_id_held n key ≡ false → Stands W (asked_at x n key ask)
    ask_stands free = record {
      net = net_asked W bound.some x n key s.net (spent_stands W n s key free) choice whole front rest;
      calm = calm_asked x n s.calm key (restarted_by n s.calm key free) choice whole (front ∷ rest);
      away = away_more n.server_clocks n.serves_from n.far (Asked n.asks key.client key.server (request_of ask)) n.log tt s.away;
      unasked = unasked_asks n s.unasked key (Some (client.asked_ticket (client_context x key (client_now n key)) ask)) (n.now + most n.pace DEADLINE + 1);
      unserved = s.unserved;
      sends = sends_asked x n s.sends key (restarted_by n s.calm key free) ask;
    }

  -- a tick where nothing was asked
  pub no_entry_ticks : n.tickets key ≡ None → Stands W (server_acts n key (server.server_ticks (server_context x key (server_now n key)) (n.entries key)))
  no_entry_ticks at = go (n.entries key) refl (sound_at W n key None at s.net).no_entry
    where
      go : (o : Option ServerTransaction) → n.entries key ≡ o → o ≡ None → Stands W (server_acts n key (server.server_ticks (server_context x key (server_now n key)) o))
      go (Some e) is nil = absurd cc
      go None is nil = subst (λ (m : Net). Stands W m)
          (λ i. record n {
            served = with_node key.server n.served;
            entries = sym (set_nothing n.entries key None is) i;
            pieces = sym (set_nothing n.pieces key (n.pieces key) refl) i;
            posts = sym (all_there n.posts) i;
          })
          (served_stands W n s key.server)

  -- What each machine does, where there is a ticket.
  module _ (t : ClientTransaction) (at : n.tickets key ≡ Some t) where
    abbrev Says_at : (m k : ℕ) → Apdu → Type 0
    Says_at m k a =
        let f = sound_at W n key (Some t) at s.net in
        Says W (moments_of n key) (n.numbers key) t.ask n.log f.0 f.1 m k a

    pub ticket_stays : Stands W (client_acts n key t Stays)
    ticket_stays = reacts_keep W n s key t at Stays (net_client W n key t at s.net Stays (sound_at W n key (Some t) at s.net))
        (calm_client n s.calm key t at Stays (λ idle. refl))

    pub ticket_ticks : Stands W (client_acts n key t (client.client_ticks (client_context x key (client_now n key)) t))
    ticket_ticks =
        let f = sound_at W n key (Some t) at s.net in
        let c = client_context x key (client_now n key) in
        let r = client.client_ticks c t in
        reacts_keep W n s key t at r (net_client W n key t at s.net r
        (client_ticks_kept W bound.some (x.settings key.client) (bound.windows key.client) x.readable key
        (one n key) t f.0 f.1 f.2))
        (calm_client n s.calm key t at r (ended_is_silent.ticks c t))

    pub ticket_gets : (m k : ℕ) → IsClear W (n.pieces key) k → (a : Apdu) → Says_at m k a
        → Stands W (client_acts n key t (client.client_on_apdu (client_context x key (client_now n key)) x.readable t a))
    ticket_gets m k few a says =
        let f = sound_at W n key (Some t) at s.net in
        let c = client_context x key (client_now n key) in
        let r = client.client_on_apdu c x.readable t a in
        reacts_keep W n s key t at r (net_client W n key t at s.net r
        (client_gets_kept W bound.some (x.settings key.client) (bound.windows key.client) x.readable key
        (one n key) t f.0 f.1 f.2 m k few a says))
        (calm_client n s.calm key t at r (ended_is_silent.gets c x.readable t a))

    pub entry_gets : (k : ℕ) → IsClear W (n.pieces key) k → (p : Copy) → slice_get (one n key).copies k ≡ Some p → n.now - p.moment ≤ n.pace.life
        → is_from_client p.apdu ≡ true → Says_at p.moment k p.apdu → (service : Service) (free : Bool)
        → Stands W (server_acts n key (server.server_on_apdu (server_context x key (server_now n key)) service (n.entries key)
        (is_room n key free) p.apdu))
    entry_gets k few p place young way says service free =
        let f = sound_at W n key (Some t) at s.net in
        let c = server_context x key (server_now n key) in
        let v = server.server_on_apdu c service (n.entries key) (is_room n key free) p.apdu in
        serves_keep W n s key v
        (net_server W n key t at s.net v
        (server_gets_kept W bound.some (x.settings key.server) (bound.windows key.server) service key
        (one n key) t (n.entries key) f.0 f.1 f.2 (is_room n key free) (room_opens n key free) p.moment k few young p.apdu says))
        (calm_gets n s.calm key c refl refl service (is_room n key free) (room_opens n key free) k p place young way)

    pub entry_ticks : Stands W (server_acts n key (server.server_ticks (server_context x key (server_now n key)) (n.entries key)))
    entry_ticks =
        let f = sound_at W n key (Some t) at s.net in
        let c = server_context x key (server_now n key) in
        let v = server.server_ticks c (n.entries key) in
        serves_keep W n s key v
        (net_server W n key t at s.net v (server_ticks_kept W bound.some (x.settings key.server) (bound.windows key.server)
        (λ choice octets. Rejects 0) key (one n key) t (n.entries key) f.0 f.1 f.2))
        (calm_ticks n s.calm key c refl refl)
