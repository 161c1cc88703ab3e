-- What servers that do not let invoke IDs be used again perform for strangers: all that holds of it where no server does holds of it beside others that do.
use Rattle.std.proofs.Common.{◌≡◌, ℕ, ◌+◌, ◌<◌, ◌⊎◌, Bool, true, false, List, [], ◌∷◌, Option, Some, None, slice_get, if◌then◌else◌, nat_eq}
use Rattle.std.proofs.Common.{refl, ap, sym, subst, inl, inr, ◌∙◌}
use Rattle.bac_apdu.specs.Apdu.{Apdu}
use Rattle.bac_protocol.specs.declared.times.TheConstants.{KEEP}
use Rattle.bac_protocol.specs.Pace.{Pace, clock_at}
use Rattle.bac_protocol.specs.Context.{Context}
use Rattle.bac_protocol.specs.Service.{Ending, Octets, Reply as reply, Request}
use Rattle.bac_protocol.specs.Wire.{is_from_client}
use Rattle.bac_protocol.specs.Client as client
use Rattle.bac_protocol.specs.Client.{Ask, ClientTransaction}
use Rattle.bac_protocol.specs.Server as server
use Rattle.bac_protocol.specs.Server.{Effect, ServerTransaction, Service, server_on_apdu}
use Rattle.bac_protocol.specs.Log.{Fact}
use Rattle.bac_protocol.specs.Log.Fact.{Asked, AskedAway, Changed, Ended, EndedAway, Performed, Restarted, Served}
use Rattle.bac_protocol.specs.Claims.{AreSpaced, HasSinceRestart}
use Rattle.bac_protocol.specs.Reuse.{server_hears}
use Rattle.bac_protocol.specs.Transaction.{Key, Rules, client_context, ended, ended_away, performed, served, server_context}
use Rattle.bac_protocol.specs.World.{Net, Post, Strangers, asked_at, asked_away_at, begin_of, client_acts, client_acts_away, client_now, is_deliverable}
use Rattle.bac_protocol.specs.World.{is_id_held, is_id_held_away, is_room, net_start, passes, server_acts, server_acts_away, server_now}
use Rattle.bac_protocol.specs.World.{server_restarted, set_at, with_clock}
use Rattle.bac_protocol.specs.World.{begun, begun_again, is_active, is_quiet, next_client, server_begun}
use Rattle.bac_protocol.proofs.Resting.{Unserved, not_active}
use Rattle.bac_protocol.specs.Moves.{Move, strayed_to_client, taken_by_client, ticket_ticked, ticket_ticked_away}
use Rattle.bac_protocol.specs.Moves.Move.{Asks, Arrives, TicksTicket, TicksEntry, Passes, Changes, RestartsClient, RestartsServer, Begins, BeginsAgain}
use Rattle.bac_protocol.specs.Moves.Move.{Strays, AsksAway, TicksTicketAway, TicksEntryAway}
use Rattle.bac_protocol.proofs.Calm.{Calm}
use Rattle.bac_protocol.proofs.Keys.{decide_key, set_other, set_same}
use Rattle.bac_protocol.proofs.Nets.{room_opens}
use Rattle.bac_protocol.proofs.StrangerTables.{Away, AwayIn, away_gets, away_later, away_server_begins, away_server_restarted, away_starts, away_ticks, served_apart}
use Rattle.bac_reuse.specs.Moves.{AreServedApartSo, AreSpacedSo, arrived_so, moved_so, strayed_to_server_so, taken_by_server_so}
use Rattle.bac_reuse.specs.Runs.{AreOf, Reusing, with_reuses}
use Rattle.bac_reuse.proofs.Beside.{Own, over}

-- the entries for strangers but those of servers that let invoke IDs be used again; without tickets
abbrev pub far_left : Reusing → Strangers → Strangers
far_left u far = record { numbers = λ key. 0; tickets = λ key. None; entries = λ key. if u.reuses key.server then None else far.entries key }

-- what those servers performed for strangers, and when they restarted
abbrev pub log_left : Reusing → List Fact → List Fact
log_left u [] = []
log_left u (Restarted s o ∷ log) = Restarted s o ∷ log_left u log
log_left u (Served q s i b r p ∷ log) = if u.reuses s then log_left u log else Served q s i b r p ∷ log_left u log
log_left u (f ∷ log) = log_left u log

abbrev left_of : Reusing → Net → Net
left_of u n = record n { far = far_left u n.far; log = log_left u n.log }

abbrev pub AwayLeft : Reusing → Net → Type 0
AwayLeft u n = Away (left_of u n)

-- Facts that are not of it.

module _ (u : Reusing) (log : List Fact) where
  ended_left : (i : ℕ) (o : Option Ending) → log_left u (ended i o log) ≡ log_left u log
  ended_left i None = refl
  ended_left i (Some how) = refl

  ended_away_left : (i : ℕ) (o : Option Ending) → log_left u (ended_away i o log) ≡ log_left u log
  ended_away_left i None = refl
  ended_away_left i (Some how) = refl

  performed_left : (i : ℕ) (o : Option Effect) → log_left u (performed i o log) ≡ log_left u log
  performed_left i None = refl
  performed_left i (Some e) = refl

  served_off : (key : Key) (begin : ℕ) (o : Option Effect) → u.reuses key.server ≡ true → log_left u (served key begin o log) ≡ log_left u log
  served_off key begin None off = refl
  served_off key begin (Some e) off =
      ap (λ b. if b then log_left u log else Served key.client key.server key.invoke_id begin e.request e.reply ∷ log_left u log) off

  served_on : (key : Key) (begin : ℕ) (o : Option Effect) → u.reuses key.server ≡ false
      → served key begin o (log_left u log) ≡ log_left u (served key begin o log)
  served_on key begin None on = refl
  served_on key begin (Some e) on =
      sym (ap (λ b. if b then log_left u log else Served key.client key.server key.invoke_id begin e.request e.reply ∷ log_left u log) on)

-- Entries.

module _ (u : Reusing) (f : Key → Option ServerTransaction) (key : Key) (e : Option ServerTransaction) where
  abbrev left_at : (Key → Option ServerTransaction) → Key → Option ServerTransaction
  left_at h k = if u.reuses k.server then None else h k

  entries_off : u.reuses key.server ≡ true → (k : Key) → left_at f k ≡ left_at (set_at f key e) k
  entries_off off k = go (decide_key key k)
    where
      go : ((key ≡ k) ⊎ (key ≡ k → ⊥)) → left_at f k ≡ left_at (set_at f key e) k
      go (inl is) = subst (λ (j : Key). left_at f j ≡ left_at (set_at f key e) j) is
          (ap (λ b. if b then None else f key) off ∙ sym (ap (λ b. if b then None else set_at f key e key) off))
      go (inr ne) = sym (ap (λ (o : Option ServerTransaction). if u.reuses k.server then None else o) (set_other f key e k ne))

  entries_on : u.reuses key.server ≡ false → (k : Key) → set_at (left_at f) key e k ≡ left_at (set_at f key e) k
  entries_on on k = go (decide_key key k)
    where
      go : ((key ≡ k) ⊎ (key ≡ k → ⊥)) → set_at (left_at f) key e k ≡ left_at (set_at f key e) k
      go (inl is) = subst (λ (j : Key). set_at (left_at f) key e j ≡ left_at (set_at f key e) j) is
          (set_same (left_at f) key e ∙ sym (ap (λ b. if b then None else set_at f key e key) on ∙ set_same f key e))
      go (inr ne) = set_other (left_at f) key e k ne
          ∙ sym (ap (λ (o : Option ServerTransaction). if u.reuses k.server then None else o) (set_other f key e k ne))

swapped : (a b : Bool) (o : Option ServerTransaction) → (if a then None else if b then None else o) ≡ (if b then None else if a then None else o)
swapped true true o = refl
swapped true false o = refl
swapped false b o = refl

either_way : (b : Bool) (o : Option ServerTransaction) → o ≡ (if b then o else o)
either_way true o = refl
either_way false o = refl

-- these servers let invoke IDs be used again now, of those that ever do, which are not looked at
module _ (x : Rules) (ever : Reusing) (reuses : ℕ → Bool) (among : AreOf reuses ever) (n : Net) (h : AwayLeft ever n) where
  abbrev u : Reusing
  u = with_reuses ever reuses

  -- the tables with these entries
  abbrev with_entries : (Key → Option ServerTransaction) → Strangers
  with_entries f = record { numbers = λ key. 0; tickets = λ key. None; entries = f }

  with_log : (log : List Fact) → log_left ever log ≡ log_left ever n.log → AwayIn n.server_clocks n.serves_from (far_left ever n.far) (log_left ever log)
  with_log log same = subst (λ (l : List Fact). AwayIn n.server_clocks n.serves_from (far_left ever n.far) l) (sym same) h

  client_left : (key : Key) (t : ClientTransaction) (r : client.Reaction) → AwayLeft ever (client_acts n key t r)
  client_left key t r = with_log (ended (n.numbers key) (client.ending_of r) n.log) (ended_left ever n.log (n.numbers key) (client.ending_of r))

  server_left : (key : Key) (v : server.Reaction) → AwayLeft ever (server_acts n key v)
  server_left key v = with_log (performed (n.numbers key) v.effect n.log) (performed_left ever n.log (n.numbers key) v.effect)

  client_away_left : (key : Key) (t : ClientTransaction) (r : client.Reaction) → AwayLeft ever (client_acts_away n key t r)
  client_away_left key t r = with_log (ended_away (n.far.numbers key) (client.ending_of r) n.log)
      (ended_away_left ever n.log (n.far.numbers key) (client.ending_of r))

  -- a server that lets invoke IDs be used again
  server_off : (key : Key) (v : server.Reaction) → ever.reuses key.server ≡ true → AwayLeft ever (server_acts_away n key v)
  server_off key v off = subst (λ (f : Key → Option ServerTransaction). AwayIn n.server_clocks n.serves_from (with_entries f)
      (log_left ever (served key (begin_of v.entry) v.effect n.log))) (λ i k. entries_off ever n.far.entries key v.entry off k i)
      (with_log (served key (begin_of v.entry) v.effect n.log) (served_off ever n.log key (begin_of v.entry) v.effect off))

  -- one that does not
  server_on : (key : Key) (v : server.Reaction) → ever.reuses key.server ≡ false → Away (server_acts_away (left_of ever n) key v)
      → AwayLeft ever (server_acts_away n key v)
  server_on key v on away = subst (λ (l : List Fact). AwayIn n.server_clocks n.serves_from (far_left ever (server_acts_away n key v).far) l)
      (served_on ever n.log key (begin_of v.entry) v.effect on)
      (subst (λ (f : Key → Option ServerTransaction). AwayIn n.server_clocks n.serves_from (with_entries f)
      (served key (begin_of v.entry) v.effect (log_left ever n.log))) (λ i k. entries_on ever n.far.entries key v.entry on k i) away)

  not_now : (node : ℕ) → ever.reuses node ≡ false → reuses node ≡ false
  not_now node off = go (reuses node) refl
    where
      go : (b : Bool) → reuses node ≡ b → reuses node ≡ false
      go true is = absurd (let no : true ≡ false = sym (among node is) ∙ off in cc)
      go false is = is

  entry_on : (key : Key) → ever.reuses key.server ≡ false → (left_of ever n).far.entries key ≡ n.far.entries key
  entry_on key on = ap (λ b. if b then None else n.far.entries key) on

  hears_left : (key : Key) (free : Bool) (service : Service) (a : Apdu) → AwayLeft ever (strayed_to_server_so x u n key free service a)
  hears_left key free service a = go (ever.reuses key.server) refl
    where
      c : Context
      c = server_context x key (server_now n key)

      hears : Bool → server.Reaction
      hears b = server_hears b c service u.reads (n.far.entries key) (is_room n key free) a

      go : (b : Bool) → ever.reuses key.server ≡ b → AwayLeft ever (server_acts_away n key (hears (reuses key.server)))
      go true off = server_off key (hears (reuses key.server)) off
      go false on = subst (λ b. AwayLeft ever (server_acts_away n key (hears b))) (sym (not_now key.server on))
          (server_on key (hears false) on (subst (λ (o : Option ServerTransaction). Away (server_acts_away (left_of ever n) key
          (server_on_apdu c service o (is_room n key free) a))) (entry_on key on)
          (away_gets (left_of ever n) h key c refl service (is_room n key free) (room_opens (left_of ever n) key free) a)))

  ticks_left : (key : Key) → AwayLeft ever (server_acts_away n key (server.server_ticks (server_context x key (server_now n key)) (n.far.entries key)))
  ticks_left key = go (ever.reuses key.server) refl
    where
      c : Context
      c = server_context x key (server_now n key)

      go : (b : Bool) → ever.reuses key.server ≡ b → AwayLeft ever (server_acts_away n key (server.server_ticks c (n.far.entries key)))
      go true off = server_off key (server.server_ticks c (n.far.entries key)) off
      go false on = server_on key (server.server_ticks c (n.far.entries key)) on
          (subst (λ (o : Option ServerTransaction). Away (server_acts_away (left_of ever n) key (server.server_ticks c o))) (entry_on key on)
          (away_ticks (left_of ever n) h key c))

  -- Each move.

  taken_left : (p : Post) (o : Option ClientTransaction) → AwayLeft ever (taken_by_client x n p o)
  taken_left p None = h
  taken_left p (Some t) = client_left p.key t (client.client_on_apdu (client_context x p.key (client_now n p.key)) x.readable t p.copy.apdu)

  arrives_left : (number : ℕ) (free : Bool) (service : Service) (o : Option Post) → AwayLeft ever (arrived_so x u n number free service o)
  arrives_left number free service None = h
  arrives_left number free service (Some p) = go (is_deliverable x n number p) (is_from_client p.copy.apdu)
    where
      go : (b up : Bool) → AwayLeft ever (if b then (if up then taken_by_server_so x u n p free service else taken_by_client x n p (n.tickets p.key)) else n)
      go true true = server_left p.key
          (server_hears (u.reuses p.key.server) (server_context x p.key (server_now n p.key)) service u.reads (n.entries p.key) (is_room n p.key free)
          p.copy.apdu)
      go true false = taken_left p (n.tickets p.key)
      go false up = h

  ticket_left : (key : Key) (o : Option ClientTransaction) → AwayLeft ever (ticket_ticked x n key o)
  ticket_left key None = h
  ticket_left key (Some t) = client_left key t (client.client_ticks (client_context x key (client_now n key)) t)

  ticket_away_left : (key : Key) (o : Option ClientTransaction) → AwayLeft ever (ticket_ticked_away x n key o)
  ticket_away_left key None = h
  ticket_away_left key (Some t) = client_away_left key t (client.client_ticks (client_context x key (client_now n key)) t)

  stray_left : (key : Key) (a : Apdu) (o : Option ClientTransaction) → AwayLeft ever (strayed_to_client x n key a o)
  stray_left key a None = h
  stray_left key a (Some t) = client_away_left key t (client.client_on_apdu (client_context x key (client_now n key)) x.readable t a)

  strays_left : (key : Key) (free : Bool) (service : Service) (a : Apdu) (up : Bool)
      → AwayLeft ever (if up then strayed_to_server_so x u n key free service a else strayed_to_client x n key a (n.far.tickets key))
  strays_left key free service a true = hears_left key free service a
  strays_left key free service a false = stray_left key a (n.far.tickets key)

  ask_left : (key : Key) (ask : Ask) (b : Bool) → AwayLeft ever (if b then n else asked_at x n key ask)
  ask_left key ask true = h
  ask_left key ask false = h

  ask_away_left : (key : Key) (ask : Ask) (b : Bool) → AwayLeft ever (if b then n else asked_away_at x n key ask)
  ask_away_left key ask true = h
  ask_away_left key ask false = h

  pub restart_left : (node exact : ℕ) (store : Option Octets) → AwayLeft ever (server_restarted n node exact store)
  restart_left node exact store = subst (λ (f : Key → Option ServerTransaction). AwayIn (server_restarted n node exact store).server_clocks
      (server_restarted n node exact store).serves_from (with_entries f) (Restarted node store ∷ log_left ever n.log))
      (λ i k. swapped (nat_eq k.server node) (ever.reuses k.server) (n.far.entries k) i) (away_server_restarted (left_of ever n) node exact store h)

-- time passes
time_left : (n : Net) → Calm n → (far : Strangers) (log : List Fact) → AwayIn n.server_clocks n.serves_from far log → (by : ℕ) (clients servers : ℕ → ℕ)
    → AwayIn (passes n by clients servers).server_clocks n.serves_from far log
time_left n calm far log h by clients servers = away_later (record n { far = far; log = log }) by clients servers (λ k. calm k) h

-- a server begins
server_begin_left : (u : Reusing) (n : Net) → Unserved n → AwayLeft u n → (node exact : ℕ) → n.served node ≡ false → AwayLeft u (server_begun n node exact)
server_begin_left u n unserved h node exact off =
    let old = unserved node off in
    away_server_begins (left_of u n) node exact
    (record { entries = old.entries; away = λ key is. none (u.reuses key.server) (n.far.entries key) (old.away key is); opens = old.opens }) h
  where
    none : (b : Bool) (o : Option ServerTransaction) → o ≡ None → (if b then None else o) ≡ None
    none true o is = refl
    none false o is = is

-- a node begins
begin_left : (u : Reusing) (n : Net) → Unserved n → AwayLeft u n → (node exact : ℕ) (b : Bool) → is_active n node ≡ b
    → AwayLeft u (if b then n else begun n node exact)
begin_left u n unserved h node exact true is = h
begin_left u n unserved h node exact false off = server_begin_left u n unserved h node exact (not_active n node off).1

-- another client begins
again_left : (u : Reusing) (n : Net) → Unserved n → AwayLeft u n → (node exact : ℕ) (b : Bool) → AwayLeft u (if b then begun_again n node exact else n)
again_left u n unserved h node exact false = h
again_left u n unserved h node exact true = go (n.served node) refl
  where
    go : (b : Bool) → n.served node ≡ b
        → AwayLeft u (record (next_client n node exact) { server_clocks = if b then n.server_clocks else with_clock n.pace node exact n.server_clocks })
    go true is = h
    go false off = server_begin_left u n unserved h node exact off

-- a net whose clocks are those of a calm one
pub move_left : (x : Rules) (ever : Reusing) (reuses : ℕ → Bool) → AreOf reuses ever → (n : Net) (g : Own) → Calm n → Unserved (over n g)
    → AwayLeft ever (over n g) → (m : Move) → AwayLeft ever (moved_so x (with_reuses ever reuses) (over n g) m)
move_left x ever reuses among n g calm unserved h (Asks key choice whole front rest) =
    ask_left x ever reuses among (over n g) h key (record { first = client_now n key; choice = choice; whole = whole; pieces = front ∷ rest }) (is_id_held n key)
move_left x ever reuses among n g calm unserved h (Arrives number free service) = arrives_left x ever reuses among (over n g) h number free service (slice_get g.posts number)
move_left x ever reuses among n g calm unserved h (TicksTicket key) = ticket_left x ever reuses among (over n g) h key (n.tickets key)
move_left x ever reuses among n g calm unserved h (TicksEntry key) = server_left x ever reuses among (over n g) h key (server.server_ticks (server_context x key (server_now n key)) (g.entries key))
move_left x ever reuses among n g calm unserved h (Passes by clients servers) = time_left n calm (far_left ever (over n g).far) (log_left ever g.log) h by clients servers
move_left x ever reuses among n g calm unserved h (Changes node change) = h
move_left x ever reuses among n g calm unserved h (RestartsClient node exact) = h
move_left x ever reuses among n g calm unserved h (RestartsServer node exact store) = restart_left x ever reuses among (over n g) h node exact store
move_left x ever reuses among n g calm unserved h (Begins node exact) = begin_left ever (over n g) unserved h node exact (is_active n node) refl
move_left x ever reuses among n g calm unserved h (BeginsAgain node exact) = again_left ever (over n g) unserved h node exact (is_quiet n node)
move_left x ever reuses among n g calm unserved h (Strays key free service a) = strays_left x ever reuses among (over n g) h key free service a (is_from_client a)
move_left x ever reuses among n g calm unserved h (AsksAway key choice whole front rest) =
    ask_away_left x ever reuses among (over n g) h key (record { first = client_now n key; choice = choice; whole = whole; pieces = front ∷ rest }) (is_id_held_away n key)
move_left x ever reuses among n g calm unserved h (TicksTicketAway key) = ticket_away_left x ever reuses among (over n g) h key (n.far.tickets key)
move_left x ever reuses among n g calm unserved h (TicksEntryAway key) = ticks_left x ever reuses among (over n g) h key

pub start_left : (u : Reusing) (pace : Pace) (clocks : ℕ → ℕ) → AwayLeft u (net_start pace clocks)
start_left u pace clocks = subst (λ (f : Key → Option ServerTransaction). AwayIn (λ node. clock_at pace (clocks node)) (λ node. 0)
    (record { numbers = λ key. 0; tickets = λ key. None; entries = f }) []) (λ i k. either_way (u.reuses k.server) None i)
    (away_starts (λ node. clock_at pace (clocks node)))

-- What it says.

since_left : (u : Reusing) (q s i b : ℕ) (r : Request) (p : reply) (log : List Fact) → u.reuses s ≡ false → HasSinceRestart s (Served q s i b r p) log
    → HasSinceRestart s (Served q s i b r p) (log_left u log)
since_left u q s i b r p [] on h = h
since_left u q s i b r p (Restarted z o ∷ log) on h = (h.0, since_left u q s i b r p log on h.1)
since_left u q s i b r p (Served c z j d y a ∷ log) on (inl is) =
    let same : z ≡ s = cc in
    subst (λ e. HasSinceRestart s (Served q s i b r p) (if e then log_left u log else Served c z j d y a ∷ log_left u log))
    (sym (ap u.reuses same ∙ on)) (inl is)
since_left u q s i b r p (Served c z j d y a ∷ log) on (inr h) = go (u.reuses z) (since_left u q s i b r p log on h)
  where
    go : (e : Bool) → HasSinceRestart s (Served q s i b r p) (log_left u log)
        → HasSinceRestart s (Served q s i b r p) (if e then log_left u log else Served c z j d y a ∷ log_left u log)
    go true k = k
    go false k = inr k
since_left u q s i b r p (Asked m c z y ∷ log) on (inl is) = absurd cc
since_left u q s i b r p (Asked m c z y ∷ log) on (inr h) = since_left u q s i b r p log on h
since_left u q s i b r p (Performed m y a ∷ log) on (inl is) = absurd cc
since_left u q s i b r p (Performed m y a ∷ log) on (inr h) = since_left u q s i b r p log on h
since_left u q s i b r p (Ended m how ∷ log) on (inl is) = absurd cc
since_left u q s i b r p (Ended m how ∷ log) on (inr h) = since_left u q s i b r p log on h
since_left u q s i b r p (Changed z c ∷ log) on (inl is) = absurd cc
since_left u q s i b r p (Changed z c ∷ log) on (inr h) = since_left u q s i b r p log on h
since_left u q s i b r p (AskedAway m c z y ∷ log) on (inl is) = absurd cc
since_left u q s i b r p (AskedAway m c z y ∷ log) on (inr h) = since_left u q s i b r p log on h
since_left u q s i b r p (EndedAway m how ∷ log) on (inl is) = absurd cc
since_left u q s i b r p (EndedAway m how ∷ log) on (inr h) = since_left u q s i b r p log on h

spaced_left : (u : Reusing) (log : List Fact) → AreSpaced (log_left u log) → AreSpacedSo u log
spaced_left u [] h = tt
spaced_left u (Served q s i b r p ∷ log) h = (first, spaced_left u log (rest (u.reuses s) h))
  where
    rest : (e : Bool) → AreSpaced (if e then log_left u log else Served q s i b r p ∷ log_left u log) → AreSpaced (log_left u log)
    rest true k = k
    rest false k = k.1

    first : u.reuses s ≡ false → (a : ℕ) (r' : Request) (p' : reply) → HasSinceRestart s (Served q s i a r' p') log → a + KEEP < b
    first on a r' p' has = (subst (λ e. AreSpaced (if e then log_left u log else Served q s i b r p ∷ log_left u log)) on h).0 a r' p'
        (since_left u q s i a r' p' log on has)
spaced_left u (Asked m c z y ∷ log) h = spaced_left u log h
spaced_left u (Performed m y a ∷ log) h = spaced_left u log h
spaced_left u (Ended m how ∷ log) h = spaced_left u log h
spaced_left u (Changed z c ∷ log) h = spaced_left u log h
spaced_left u (Restarted z o ∷ log) h = spaced_left u log h
spaced_left u (AskedAway m c z y ∷ log) h = spaced_left u log h
spaced_left u (EndedAway m how ∷ log) h = spaced_left u log h

pub apart_left : (u : Reusing) (n : Net) → AwayLeft u n → AreServedApartSo u n
apart_left u n h =
    let apart = served_apart (left_of u n) h in
    record {
      spaced = spaced_left u n.log apart.spaced;
      waited = λ q s i b r p on has. apart.waited q s i b r p (since_left u q s i b r p n.log on has);
    }
