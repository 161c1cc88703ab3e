-- Nets of machines that moves lead to, in either setting: what is known of them, and each move by itself.
use Rattle.std.proofs.Common.{◌≡◌, ℕ, ◌-◌, ◌≤◌, ◌<◌, Bool, true, false, ◌&&◌, ◌||◌, List, [], ◌∷◌, Option, Some, None, slice_get, nat_le}
use Rattle.std.proofs.Common.{refl, sym, ap, subst, inl, ◌∙◌, arith, if◌then◌else◌}
use Rattle.std.proofs.lemmas.Bool.Decides.{nat_tests}
use Rattle.bac_protocol.specs.Pace.{Pace, IsTimely, goes_on}
use Rattle.bac_protocol.specs.World.{client_now, server_now, passes}
use Rattle.bac_protocol.proofs.Paces.{shows_on}
use Rattle.bac_protocol.specs.Service.{Octets}
use Rattle.bac_protocol.specs.Wire.{is_from_client}
use Rattle.bac_protocol.specs.Client as client
use Rattle.bac_protocol.specs.Client.{ClientTransaction, request_of}
use Rattle.bac_protocol.specs.Reuse.{server_hears}
use Rattle.bac_protocol.specs.Server as server
use Rattle.bac_protocol.specs.Server.{Service}
use Rattle.bac_protocol.specs.Log.{Fact, Has, asks_in, IsOrderly, WasAskedAway}
use Rattle.bac_protocol.specs.Service.{Outcome}
use Rattle.bac_protocol.specs.Log.Fact.{Asked, Performed, Ended, Changed, Restarted, Served, AskedAway, EndedAway}
use Rattle.bac_protocol.specs.Transaction.{Key, Rules, client_context, server_context}
use Rattle.bac_protocol.specs.World.{Net, Post, later, client_acts, server_acts, asked_at, notes_change, is_id_held, is_room, is_short, is_deliverable, net_start}
use Rattle.bac_protocol.specs.World.{is_active, is_quiet, begun, begun_again, client_restarted, server_restarted, server_acts_away, client_acts_away, asked_away_at, is_id_held_away}
use Rattle.bac_apdu.specs.Apdu.{Apdu}
use Rattle.bac_protocol.specs.Claims.{IsBounded, AreServedApart, AreSpaced}
use Rattle.bac_protocol.specs.Own.{IsOwnEntry}
use Rattle.bac_protocol.specs.Moves.{Move, moved, arrived, taken_by_client, taken_by_server, strayed_to_client, ticket_ticked}
use Rattle.bac_protocol.specs.Moves.{ticket_ticked_away, IsReached, IsInOrder}
use Rattle.bac_protocol.specs.Moves.Move.{Asks, Arrives, TicksTicket, TicksEntry, Passes, Changes, RestartsClient, RestartsServer, Begins, BeginsAgain, Strays, AsksAway}
use Rattle.bac_protocol.specs.Moves.Move.{TicksTicketAway, TicksEntryAway}
use Rattle.bac_protocol.specs.Moves.{IsReached as ever}
use Rattle.bac_protocol.proofs.Nets.{sound_at}
use Rattle.bac_protocol.proofs.SingleMoves.{in_order, reached_net, reached_calm, reached_stands}
use Rattle.bac_protocol.proofs.Standing.{Stands}
use Rattle.bac_transaction.specs.Reuse.{is_read}
use Rattle.bac_reuse.specs.Moves.{IsInOrderSo, IsOrderlySo, IsReachedSoIn, AreSpacedSo, arrived_so, moved_so, taken_by_server_so}
use Rattle.bac_reuse.specs.Moves.{IsReachedSoIn as again}
use Rattle.bac_reuse.proofs.ReusingMoves.{apart_same, in_order_so_in, reached_known_in}
use Rattle.bac_reuse.specs.Runs.{AreSameBut, Reusing, with_reuses}
use Rattle.bac_world.specs.ReusingLogs.{NoneReuses, Reuses}
use Rattle.bac_reuse.proofs.Orderly.{away_asked_below}
use Rattle.bac_world.proofs.Settings.{Mode, Setting, reuses_in, reusing_in}

-- moves of that setting lead to the net: under these rules, or under any with such windows
abbrev pub ReachedIn : (W : ℕ) → Rules → Setting → (from : Net) → Net → Type 0
ReachedIn W x None from n = IsReached x from n
ReachedIn W x (Some m) from n = IsReachedSoIn (IsBounded W) (reusing_in (Some m)) from m.now n

-- they do from a net at its beginning
abbrev pub Sound : (W : ℕ) → Rules → Setting → Net → Type 0
Sound W x set n = (pace : Pace) × (clocks : ℕ → ℕ) × (IsTimely pace) × ReachedIn W x set (net_start pace clocks) n

-- What is known of a net where no invoke ID is used again, in the words of those where some are.

orderly_so : (log : List Fact) → IsOrderly log → IsOrderlySo (reusing_in None) log
orderly_so [] o = tt
orderly_so (Asked n c s r ∷ log) o = (o.0, orderly_so log o.1)
orderly_so (Performed n r p ∷ log) o = ((o.0.0, o.0.1, o.0.2, inl o.1), orderly_so log o.2)
orderly_so (Ended n how ∷ log) o = (o.0, o.1, orderly_so log o.2)
orderly_so (Changed s c ∷ log) o = orderly_so log o
orderly_so (Restarted s e ∷ log) o = orderly_so log o
orderly_so (Served q s i b r p ∷ log) o = orderly_so log o
orderly_so (AskedAway n c q r ∷ log) o = (o.0, orderly_so log o.1)
orderly_so (EndedAway n how ∷ log) o = (o.0, o.1, orderly_so log o.2)

spaced_so : (log : List Fact) → AreSpaced log → AreSpacedSo (reusing_in None) log
spaced_so [] h = tt
spaced_so (Asked n c s r ∷ log) h = spaced_so log h
spaced_so (Performed n r p ∷ log) h = spaced_so log h
spaced_so (Ended n how ∷ log) h = spaced_so log h
spaced_so (Changed s c ∷ log) h = spaced_so log h
spaced_so (Restarted s e ∷ log) h = spaced_so log h
spaced_so (Served q s i b r p ∷ log) h = (λ off. h.0, spaced_so log h.1)
spaced_so (AskedAway n c q r ∷ log) h = spaced_so log h
spaced_so (EndedAway n how ∷ log) h = spaced_so log h

known_ever : (W : ℕ) (x : Rules) → IsBounded W x → (n : Net) → Sound W x None n → IsInOrderSo (reusing_in None) n
known_ever W x bound n s = record {
  orderly = orderly_so n.log known.orderly;
  counted = known.counted;
  asked = known.asked;
  made = λ key t is. let at = sound_at W n key (Some t) is (reached_net W x bound s.0 s.2 s.1 n s.3) in ((at.2).clock).on;
  posted = known.posted;
  entered = known.entered;
  own = known.own;
  dead = known.dead;
  ticking = λ key. let calm = reached_calm W x bound s.0 s.2 s.1 n s.3 key in record { some = calm.timely.some; client = calm.client; server = calm.server };
  away = known.away;
  apart = known.apart;
  served_apart = record { spaced = spaced_so n.log known.served_apart.spaced; waited = λ q e i b r p off h. known.served_apart.waited q e i b r p h };
}
  where
    known : IsInOrder n
    known = in_order W x bound s.0 s.2 s.1 n s.3

known_in : (W : ℕ) (x : Rules) (set : Setting) → IsBounded W x → (n : Net) → Sound W x set n → IsInOrderSo (reusing_in set) n
known_in W x None bound n s = known_ever W x bound n s
known_in W x (Some m) bound n s = in_order_so_in W (reusing_in (Some m)) s.0 s.2 s.1 m.now n s.3

-- Moves.

-- the servers that let invoke IDs be used again now
abbrev reusing_now : Mode → Reusing
reusing_now m = with_reuses (reusing_in (Some m)) m.now

abbrev moves_to : Rules → Setting → Net → Move → Net
moves_to x None n m = moved x n m
moves_to x (Some u) n m = moved_so x (reusing_now u) n m

moves : (W : ℕ) (x : Rules) (set : Setting) → IsBounded W x → (n : Net) (m : Move) → Sound W x set n → Sound W x set (moves_to x set n m)
moves W x None bound n m s = (s.0, s.1, s.2, ever.Moved n m s.3)
moves W x (Some u) bound n m s = (s.0, s.1, s.2, again.Moved x bound u.now n m s.3)

-- moves at which no end hears anything
abbrev IsUnheard : Move → Type 0
IsUnheard (Arrives number free service) = ⊥
IsUnheard (Strays key free service a) = ⊥
IsUnheard _ = Unit {0}

alike : (x : Rules) (set : Setting) (n : Net) (m : Move) → IsUnheard m → moves_to x set n m ≡ moved x n m
alike x None n m h = refl
alike x (Some u) n (Asks key choice whole front rest) h = refl
alike x (Some u) n (Arrives number free service) h = absurd h
alike x (Some u) n (TicksTicket key) h = refl
alike x (Some u) n (TicksEntry key) h = refl
alike x (Some u) n (Passes by clients servers) h = refl
alike x (Some u) n (Changes node change) h = refl
alike x (Some u) n (RestartsClient node exact) h = refl
alike x (Some u) n (RestartsServer node exact store) h = refl
alike x (Some u) n (Begins node exact) h = refl
alike x (Some u) n (BeginsAgain node exact) h = refl
alike x (Some u) n (Strays key free service a) h = absurd h
alike x (Some u) n (AsksAway key choice whole front rest) h = refl
alike x (Some u) n (TicksTicketAway key) h = refl
alike x (Some u) n (TicksEntryAway key) h = refl

unheard : (W : ℕ) (x : Rules) (set : Setting) → IsBounded W x → (n : Net) → Sound W x set n → (m : Move) → IsUnheard m → Sound W x set (moved x n m)
unheard W x set bound n s m h = subst (λ (y : Net). Sound W x set y) (alike x set n m h) (moves W x set bound n m s)

-- a copy reaches its server
abbrev taken : Rules → Setting → Net → Post → (free : Bool) → Service → Net
taken x set n p free service = server_acts n p.key
    (server_hears (reuses_in set p.key.server) (server_context x p.key (server_now n p.key)) service is_read (n.entries p.key) (is_room n p.key free)
    p.copy.apdu)

-- a copy arrives
arrives : (x : Rules) (set : Setting) (n : Net) (number : ℕ) (p : Post) → slice_get n.posts number ≡ Some p → is_deliverable x n number p ≡ true
    → (free : Bool) (service : Service)
    → moves_to x set n (Arrives number free service)
    ≡ (if is_from_client p.copy.apdu then taken x set n p free service else taken_by_client x n p (n.tickets p.key))
arrives x None n number p at may free service =
    ap (arrived x n number free service) at
    ∙ ap (λ b. if b then (if is_from_client p.copy.apdu then taken_by_server x n p free service else taken_by_client x n p (n.tickets p.key)) else n) may
arrives x (Some u) n number p at may free service =
    let all : Reusing = reusing_now u in
    ap (arrived_so x all n number free service) at
    ∙ ap (λ b. if b then (if is_from_client p.copy.apdu then taken_by_server_so x all n p free service else taken_by_client x n p (n.tickets p.key)) else n) may

-- a stranger's APDU reaches a server
abbrev strayed : Rules → Setting → Net → Key → (free : Bool) → Service → Apdu → Net
strayed x set n key free service a = server_acts_away n key
    (server_hears (reuses_in set key.server) (server_context x key (server_now n key)) service is_read (n.far.entries key) (is_room n key free) a)

strays : (x : Rules) (set : Setting) (n : Net) (key : Key) (free : Bool) (service : Service) (a : Apdu)
    → moves_to x set n (Strays key free service a)
    ≡ (if is_from_client a then strayed x set n key free service a else strayed_to_client x n key a (n.far.tickets key))
strays x None n key free service a = refl
strays x (Some u) n key free service a = refl

-- what strangers had performed is apart, where no invoke ID is used again
pub served_apart_of : (W : ℕ) (x : Rules) → IsBounded W x → (n : Net) → Sound W x None n → AreServedApart n
served_apart_of W x bound n s = (in_order W x bound s.0 s.2 s.1 n s.3).served_apart

module _ (W : ℕ) (x : Rules) (set : Setting) (bound : IsBounded W x) where
  known : (n : Net) → Sound W x set n → IsInOrderSo (reusing_in set) n
  known n s = known_in W x set bound n s

  pub orderly : (n : Net) → Sound W x set n → IsOrderlySo (reusing_in set) n.log
  orderly n s = (known n s).orderly

  pub counted : (n : Net) → Sound W x set n → n.asks ≡ asks_in n.log
  counted n s = (known n s).counted

  pub own_of : (n : Net) → Sound W x set n → (key : Key) → IsOwnEntry key.invoke_id (n.entries key)
  own_of n s key = (known n s).own key

  pub ticket_of : (n : Net) → Sound W x set n → (number : ℕ) (p : Post) → slice_get n.posts number ≡ Some p → (t : ClientTransaction) × (n.tickets p.key ≡ Some t)
  ticket_of n s number p at = go (n.tickets p.key) refl
    where
      go : (o : Option ClientTransaction) → n.tickets p.key ≡ o → (t : ClientTransaction) × (n.tickets p.key ≡ Some t)
      go None is = absurd ((known n s).posted number p at is)
      go (Some t) is = (t, is)

  pub asked_of : (n : Net) → Sound W x set n → (key : Key) (t : ClientTransaction) → n.tickets key ≡ Some t
      → Has (Asked (n.numbers key) key.client key.server (request_of t.ask)) n.log
  asked_of n s key t is = (known n s).asked key t is

  pub may_arrive : (n : Net) (number : ℕ) (p : Post) → n.now - p.copy.moment ≤ n.pace.life → later p.key number n.posts ≤ x.overtake
      → is_deliverable x n number p ≡ true
  may_arrive n number p young few = go (nat_le (n.now - p.copy.moment) n.pace.life) (nat_le (later p.key number n.posts) x.overtake) refl refl
    where
      go : (a b : Bool) → nat_le (n.now - p.copy.moment) n.pace.life ≡ a → nat_le (later p.key number n.posts) x.overtake ≡ b
          → (a && (b || is_short n p.key)) ≡ true
      go true true e f = refl
      go true false e f = absurd (grind (arith, nat_tests))
      go false b e f = absurd (grind (arith, nat_tests))

  -- in a short transfer it may, however many overtook it
  pub short_may_arrive : (n : Net) (number : ℕ) (p : Post) → n.now - p.copy.moment ≤ n.pace.life → is_short n p.key ≡ true → is_deliverable x n number p ≡ true
  short_may_arrive n number p young short =
      go (nat_le (n.now - p.copy.moment) n.pace.life) (nat_le (later p.key number n.posts) x.overtake) refl
    where
      go : (a b : Bool) → nat_le (n.now - p.copy.moment) n.pace.life ≡ a → (a && (b || is_short n p.key)) ≡ true
      go true true e = refl
      go true false e = short
      go false b e = absurd (grind (arith, nat_tests))

  -- no ticket was asked later than now
  pub asked_before : (n : Net) → Sound W x set n → (key : Key) (t : ClientTransaction) → n.tickets key ≡ Some t → n.made key ≤ n.now
  asked_before n s key t is = (known n s).made key t is

  -- a clock goes on
  pub client_later : (n : Net) → Sound W x set n → (key : Key) (by own : ℕ) → client_now n key ≤ (goes_on n.pace by own (n.client_clocks key.client)).shows
  client_later n s key by own = let g = (known n s).ticking key in shows_on n.pace g.some by own (n.client_clocks key.client) g.client

  pub server_later : (n : Net) → Sound W x set n → (key : Key) (by own : ℕ) → server_now n key ≤ (goes_on n.pace by own (n.server_clocks key.server)).shows
  server_later n s key by own = let g = (known n s).ticking key in shows_on n.pace g.some by own (n.server_clocks key.server) g.server

  arrived_sound : (n : Net) → Sound W x set n → (number : ℕ) (p : Post) → slice_get n.posts number ≡ Some p → is_deliverable x n number p ≡ true
      → (free : Bool) (service : Service)
      → Sound W x set (if is_from_client p.copy.apdu then taken x set n p free service else taken_by_client x n p (n.tickets p.key))
  arrived_sound n s number p at may free service =
      subst (λ (m : Net). Sound W x set m) (arrives x set n number p at may free service)
      (moves W x set bound n (Arrives number free service) s)

  -- a slot is free for it only where its server does not wait
  pub gets_at_server : (n : Net) → Sound W x set n → (number : ℕ) (p : Post) → slice_get n.posts number ≡ Some p → is_deliverable x n number p ≡ true
      → is_from_client p.copy.apdu ≡ true → (service : Service) (free : Bool) → is_room n p.key free ≡ free
      → Sound W x set (server_acts n p.key
      (server_hears (reuses_in set p.key.server) (server_context x p.key (server_now n p.key)) service is_read (n.entries p.key) free p.copy.apdu))
  gets_at_server n s number p at may up service free room =
      let way : Bool → Net = λ b. if b then taken x set n p free service else taken_by_client x n p (n.tickets p.key) in
      subst (λ (b : Bool). Sound W x set (server_acts n p.key
      (server_hears (reuses_in set p.key.server) (server_context x p.key (server_now n p.key)) service is_read (n.entries p.key) b p.copy.apdu)))
      room (subst (λ (m : Net). Sound W x set m) (ap way up) (arrived_sound n s number p at may free service))

  pub away_of : (n : Net) → Sound W x set n → (key : Key) (t : ClientTransaction) → n.far.tickets key ≡ Some t → WasAskedAway (n.far.numbers key) n.log
  away_of n s key t is = (known n s).away key t is

  -- no two asks of strangers have one number
  pub away_apart : (n : Net) → Sound W x set n → (a b : Key) (t u : ClientTransaction) → n.far.tickets a ≡ Some t → n.far.tickets b ≡ Some u
      → n.far.numbers a ≡ n.far.numbers b → a ≡ b
  away_apart n s = (known n s).apart

  pub away_below : (n : Net) → Sound W x set n → (key : Key) (t : ClientTransaction) → n.far.tickets key ≡ Some t → n.far.numbers key < n.asks
  away_below n s key t is =
      let lt = away_asked_below (reusing_in set) n.log (orderly n s) (n.far.numbers key) (away_of n s key t is) in let e = counted n s in omega arith

  pub strays_at_client : (n : Net) → Sound W x set n → (key : Key) (t : ClientTransaction) → n.far.tickets key ≡ Some t → (a : Apdu) → is_from_client a ≡ false
      → Sound W x set (client_acts_away n key t (client.client_on_apdu (client_context x key (client_now n key)) x.readable t a))
  strays_at_client n s key t is a down =
      let service : Service = λ choice octets. Outcome.Rejects 0 in
      subst (λ (m : Net). Sound W x set m)
      (strays x set n key false service a
      ∙ ap (λ (b : Bool). if b then strayed x set n key false service a else strayed_to_client x n key a (n.far.tickets key)) down
      ∙ ap (strayed_to_client x n key a) is)
      (moves W x set bound n (Strays key false service a) s)

  pub ticks_at_client_away : (n : Net) → Sound W x set n → (key : Key) (t : ClientTransaction) → n.far.tickets key ≡ Some t
      → Sound W x set (client_acts_away n key t (client.client_ticks (client_context x key (client_now n key)) t))
  ticks_at_client_away n s key t is = subst (λ (m : Net). Sound W x set m) (ap (ticket_ticked_away x n key) is) (unheard W x set bound n s (TicksTicketAway key) tt)

  pub asked_away : (n : Net) → Sound W x set n → (key : Key) → is_id_held_away n key ≡ false → (choice : ℕ) (whole : Bool) (front : Octets)
      (rest : List Octets) → Sound W x set (asked_away_at x n key (record { first = client_now n key; choice = choice; whole = whole; pieces = front ∷ rest }))
  asked_away n s key free choice whole front rest = subst (λ (m : Net). Sound W x set m)
      (ap (λ b. if b then n else asked_away_at x n key (record { first = client_now n key; choice = choice; whole = whole; pieces = front ∷ rest })) free)
      (unheard W x set bound n s (AsksAway key choice whole front rest) tt)

  -- a stranger's APDU comes to a server
  pub strays_at_server : (n : Net) → Sound W x set n → (key : Key) (free : Bool) → is_room n key free ≡ free → (service : Service) (a : Apdu)
      → is_from_client a ≡ true
      → Sound W x set (server_acts_away n key
      (server_hears (reuses_in set key.server) (server_context x key (server_now n key)) service is_read (n.far.entries key) free a))
  strays_at_server n s key free room service a up =
      subst (λ (b : Bool). Sound W x set (server_acts_away n key
      (server_hears (reuses_in set key.server) (server_context x key (server_now n key)) service is_read (n.far.entries key) b a))) room
      (subst (λ (m : Net). Sound W x set m)
      (strays x set n key free service a
      ∙ ap (λ (b : Bool). if b then strayed x set n key free service a else strayed_to_client x n key a (n.far.tickets key)) up)
      (moves W x set bound n (Strays key free service a) s))

  pub ticks_at_server_away : (n : Net) → Sound W x set n → (key : Key)
      → Sound W x set (server_acts_away n key (server.server_ticks (server_context x key (server_now n key)) (n.far.entries key)))
  ticks_at_server_away n s key = unheard W x set bound n s (TicksEntryAway key) tt

  pub gets_at_client : (n : Net) → Sound W x set n → (number : ℕ) (p : Post) → slice_get n.posts number ≡ Some p → is_deliverable x n number p ≡ true
      → is_from_client p.copy.apdu ≡ false → (service : Service) → (t : ClientTransaction) → n.tickets p.key ≡ Some t
      → Sound W x set (client_acts n p.key t (client.client_on_apdu (client_context x p.key (client_now n p.key)) x.readable t p.copy.apdu))
  gets_at_client n s number p at may down service t is =
      let way : Bool → Net = λ b. if b then taken x set n p false service else taken_by_client x n p (n.tickets p.key) in
      subst (λ (m : Net). Sound W x set m) (ap way down ∙ ap (taken_by_client x n p) is) (arrived_sound n s number p at may false service)

  pub ticks_at_client : (n : Net) → Sound W x set n → (key : Key) (t : ClientTransaction) → n.tickets key ≡ Some t
      → Sound W x set (client_acts n key t (client.client_ticks (client_context x key (client_now n key)) t))
  ticks_at_client n s key t is = subst (λ (m : Net). Sound W x set m) (ap (ticket_ticked x n key) is) (unheard W x set bound n s (TicksTicket key) tt)

  pub ticks_at_server : (n : Net) → Sound W x set n → (key : Key)
      → Sound W x set (server_acts n key (server.server_ticks (server_context x key (server_now n key)) (n.entries key)))
  ticks_at_server n s key = unheard W x set bound n s (TicksEntry key) tt

  pub asked : (n : Net) → Sound W x set n → (key : Key) → is_id_held n key ≡ false → (choice : ℕ) (whole : Bool) (front : Octets)
      (rest : List Octets) → Sound W x set (asked_at x n key (record { first = client_now n key; choice = choice; whole = whole; pieces = front ∷ rest }))
  asked n s key free choice whole front rest = subst (λ (m : Net). Sound W x set m)
      (ap (λ b. if b then n else asked_at x n key (record { first = client_now n key; choice = choice; whole = whole; pieces = front ∷ rest })) free)
      (unheard W x set bound n s (Asks key choice whole front rest) tt)

  pub passed : (n : Net) (by : ℕ) (clients servers : ℕ → ℕ) → Sound W x set n → Sound W x set (passes n by clients servers)
  passed n by clients servers s = unheard W x set bound n s (Passes by clients servers) tt

  pub changes : (n : Net) (node : ℕ) (change : Octets) → Sound W x set n → Sound W x set (notes_change n node change)
  changes n node change s = unheard W x set bound n s (Changes node change) tt

  pub restarts : (n : Net) (node exact : ℕ) → Sound W x set n → Sound W x set (server_restarted (client_restarted n node exact) node exact None)
  restarts n node exact s =
      unheard W x set bound (client_restarted n node exact) (unheard W x set bound n s (RestartsClient node exact) tt) (RestartsServer node exact None) tt

  -- a node that did nothing begins
  pub begins : (n : Net) (node exact : ℕ) → is_active n node ≡ false → Sound W x set n → Sound W x set (begun n node exact)
  begins n node exact off s = subst (λ (m : Net). Sound W x set m) (ap (λ b. if b then n else begun n node exact) off) (unheard W x set bound n s (Begins node exact) tt)

  -- another client begins where one was, and its server restarts
  pub begins_again : (n : Net) (node exact : ℕ) → is_quiet n node ≡ true → Sound W x set n → Sound W x set (server_restarted (begun_again n node exact) node exact None)
  begins_again n node exact quiet s = unheard W x set bound (begun_again n node exact)
      (subst (λ (m : Net). Sound W x set m) (ap (λ b. if b then begun_again n node exact else n) quiet) (unheard W x set bound n s (BeginsAgain node exact) tt))
      (RestartsServer node exact None) tt

  -- a client sends for each of its asks later than it was made
  pub sent_before : (n : Net) → Sound W x set n → (key : Key) (t : ClientTransaction) → n.tickets key ≡ Some t → n.made key < n.sends_until key.client
  sent_before n s key t is = sent_in set n s key t is
    where
      sent_by : (m : Net) → Stands W m → (key : Key) (t : ClientTransaction) → m.tickets key ≡ Some t → m.made key < m.sends_until key.client
      sent_by m stands key t is = let by = stands.sends.each key t is in let first = by.made_until in let soon = by.soon in omega arith

      sent_in : (y : Setting) (m : Net) → Sound W x y m → (key : Key) (t : ClientTransaction) → m.tickets key ≡ Some t → m.made key < m.sends_until key.client
      sent_in None m s key t is = sent_by m (reached_stands W x bound s.0 s.2 s.1 m s.3) key t is
      sent_in (Some u) m s key t is =
          let f = (reached_known_in W (reusing_in (Some u)) s.0 s.2 s.1 u.now m s.3).followed in
          subst (λ (y : Net). y.made key < y.sends_until key.client) (sym f.4)
          (sent_by f.0 f.2 key t (subst (λ (y : Net). y.tickets key ≡ Some t) f.4 is))

pub starts : (W : ℕ) (x : Rules) (set : Setting) (pace : Pace) → IsTimely pace → (clocks : ℕ → ℕ) → Sound W x set (net_start pace clocks)
starts W x None pace timely clocks = (pace, clocks, timely, ever.Still)
starts W x (Some u) pace timely clocks = (pace, clocks, timely, again.Still u.now u.among)

-- The servers that let invoke IDs be used again change.

abbrev pub mode : (ever now : Reuses) → ((node : ℕ) → now node ≡ true → ever node ≡ true) → Mode
mode ever now among = record { ever = ever; now = now; among = among }

module _ (W : ℕ) (x : Rules) (ever now next : Reuses) (among : (node : ℕ) → now node ≡ true → ever node ≡ true)
    (later : (node : ℕ) → next node ≡ true → ever node ≡ true) where
  abbrev IsNow : Net → Type 0
  IsNow n = Sound W x (Some (mode ever now among)) n

  abbrev IsNext : Net → Type 0
  IsNext n = Sound W x (Some (mode ever next later)) n

  -- they are the same
  pub same_turned : (n : Net) → ((node : ℕ) → next node ≡ now node) → IsNow n → IsNext n
  same_turned n same s = (
    s.0,
    s.1,
    s.2,
    subst (λ (r : Reuses). IsReachedSoIn (IsBounded W) (reusing_in (Some (mode ever now among))) (net_start s.0 s.1) r n) (λ i node. sym (same node) i) s.3,
  )

  module _ (bound : IsBounded W x) (n : Net) (node exact : ℕ) (others : AreSameBut node now next) (s : IsNow n) where
    -- but for one that restarts
    pub restart_turned : IsNext (server_restarted (client_restarted n node exact) node exact None)
    restart_turned = (
      s.0,
      s.1,
      s.2,
      again.Turned x bound now next later (client_restarted n node exact) node exact None others (again.Moved x bound now n (RestartsClient node exact) s.3),
    )

    -- or for one at which another program begins
    pub begin_again_turned : is_quiet n node ≡ true → IsNext (server_restarted (begun_again n node exact) node exact None)
    begin_again_turned quiet = (
      s.0,
      s.1,
      s.2,
      again.Turned x bound now next later (begun_again n node exact) node exact None others
          (subst (λ (m : Net). IsReachedSoIn (IsBounded W) (reusing_in (Some (mode ever now among))) (net_start s.0 s.1) now m)
          (ap (λ b. if b then begun_again n node exact else n) quiet) (again.Moved x bound now n (BeginsAgain node exact) s.3)),
    )

-- what strangers had performed is apart, where no node ever lets them be used again
pub apart_where_none : (W : ℕ) (x : Rules) (m : Mode) → NoneReuses m.ever → IsBounded W x → (n : Net) → Sound W x (Some m) n → AreServedApart n
apart_where_none W x m none bound n s = apart_same (reusing_in (Some m)) none n (known_in W x (Some m) bound n s).served_apart
