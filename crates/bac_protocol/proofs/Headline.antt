-- After every run the log is right with the stores.
use Rattle.std.proofs.Common.{◌≡◌, ℕ, ◌-◌, ◌<◌, ◌≤◌, Bool, true, false, ◌&&◌, ◌||◌, List, [], ◌∷◌, Option, Some, None, slice_get, if◌then◌else◌}
use Rattle.std.proofs.Common.{nat_le, nat_eq, ◌∙◌, refl, sym, ap, subst, inl, inr, arith}
use Rattle.std.proofs.lemmas.Bool.Decides.{nat_tests}
use Rattle.bac_apdu.specs.Apdu.{Apdu}
use Rattle.bac_protocol.specs.Pace.{Pace, IsTimely}
use Rattle.bac_protocol.specs.Service.{Octets, Request, Ending}
use Rattle.bac_protocol.specs.Wire.{is_from_client}
use Rattle.bac_protocol.specs.Client as client
use Rattle.bac_protocol.specs.Client.{Ask, request_of, ClientTransaction, is_idle}
use Rattle.bac_protocol.specs.Client.Reaction.{Stays}
use Rattle.bac_protocol.specs.Server as server
use Rattle.bac_protocol.specs.Server.{ServerTransaction, Effect}
use Rattle.bac_protocol.specs.Log.{Fact, Has, asks_in, StoreModel, AreSame, MayEnter, IsOnce, HasNoRestart, IsOnceInOneLife, HasNoChange, IsOnceByRequests, IsOrderly, HasNoStranger, IsOnceAmongNodes}
use Rattle.bac_protocol.specs.Log.Fact.{Asked, Performed, Ended, Changed, Restarted, Served, AskedAway, EndedAway}
use Rattle.bac_protocol.specs.Transaction.{Key, Rules, Copy, ended, ended_away, performed, served, client_context, server_context}
use Rattle.bac_protocol.specs.World.{World, Post, Event, later, client_acts, server_acts, asked_at, begin_of, is_id_held, is_room, service_of, reacts}
use Rattle.bac_protocol.specs.World.{serves, ask_made, takes_at_client, takes_at_server, arrives, delivered, ticks_ticket, ticks_as_client}
use Rattle.bac_protocol.specs.World.{ticks_as_server, stored, is_short, is_active, begun, is_quiet, begun_again, happens, run, start, client_now, server_now}
use Rattle.bac_protocol.specs.World.Event.{MakeAsk, Deliver, Tick, Noise, Advance, Change, RestartClient, RestartServer, Begin, BeginAgain, Stray, AskAway, TickAway}
use Rattle.bac_protocol.specs.World.{server_acts_away, reacts_away, serves_away, is_id_held_away}
use Rattle.bac_protocol.specs.World.{strays_to_server, strays_to_client, asked_away, ticks_ticket_away, ticks_as_client_away, ticks_as_server_away}
use Rattle.bac_protocol.specs.Claims.{IsBounded, AreServedApart}
use Rattle.bac_protocol.proofs.Dead.{ended_is_silent}
use Rattle.bac_protocol.proofs.Keys.{copy_at}
use Rattle.bac_protocol.proofs.Nets.{net_log, room_opens, sound_at}
use Rattle.bac_protocol.proofs.Served.{IsServed, gets_served, ticks_quiet}
use Rattle.bac_protocol.proofs.Sound.{IsClear}
use Rattle.bac_protocol.proofs.Standing.{Stands, few_are_clear, start_stands, time_stands, change_stands, client_restart_stands, server_restart_stands, begin_stands, begin_again_stands}
use Rattle.bac_protocol.proofs.Standing.{ask_stands, ticket_gets, ticket_ticks, entry_gets, entry_ticks, no_entry_ticks, away_right, away_reacts, away_serves, away_asks}
use Rattle.bac_protocol.proofs.StrangerTables.{Away, away_gets, away_ticks, served_apart}

-- An ask has one request.

has_below : (n c s : ℕ) (r : Request) (log : List Fact) → IsOrderly log → Has (Asked n c s r) log → n < asks_in log
has_below n c s r [] o h = absurd h
has_below n c s r (Asked m a b q ∷ log) o (inl e) = let same : m ≡ n = cc in let is = o.0 in omega arith
has_below n c s r (Asked m a b q ∷ log) o (inr h) = let lt = has_below n c s r log o.1 h in omega arith
has_below n c s r (Performed m q p ∷ log) o (inl e) = absurd cc
has_below n c s r (Performed m q p ∷ log) o (inr h) = has_below n c s r log o.2 h
has_below n c s r (Ended m how ∷ log) o (inl e) = absurd cc
has_below n c s r (Ended m how ∷ log) o (inr h) = has_below n c s r log o.2 h
has_below n c s r (Changed a b ∷ log) o (inl e) = absurd cc
has_below n c s r (Changed a b ∷ log) o (inr h) = has_below n c s r log o h
has_below n c s r (Restarted a b ∷ log) o (inl e) = absurd cc
has_below n c s r (Restarted a b ∷ log) o (inr h) = has_below n c s r log o h
has_below n c s r (Served q a i b x p ∷ log) o (inl e) = absurd cc
has_below n c s r (Served q a i b x p ∷ log) o (inr h) = has_below n c s r log o h
has_below n c s r (AskedAway m a q x ∷ log) o (inl e) = absurd cc
has_below n c s r (AskedAway m a q x ∷ log) o (inr h) = let lt = has_below n c s r log o.1 h in omega arith
has_below n c s r (EndedAway m how ∷ log) o (inl e) = absurd cc
has_below n c s r (EndedAway m how ∷ log) o (inr h) = has_below n c s r log o.2 h

-- the two facts that a log has of one ask are one
pub asked_once : (n c s d u : ℕ) (q r : Request) (log : List Fact) → IsOrderly log → Has (Asked n c s q) log → Has (Asked n d u r) log → q ≡ r
asked_once n c s d u q r [] o h k = absurd h
asked_once n c s d u q r (Asked m a b x ∷ log) o (inl e) (inl f) = cc
asked_once n c s d u q r (Asked m a b x ∷ log) o (inl e) (inr k) = let same : m ≡ n = cc in let is = o.0 in let lt = has_below n d u r log o.1 k in absurd
    (omega arith)
asked_once n c s d u q r (Asked m a b x ∷ log) o (inr h) (inl f) = let same : m ≡ n = cc in let is = o.0 in let lt = has_below n c s q log o.1 h in absurd
    (omega arith)
asked_once n c s d u q r (Asked m a b x ∷ log) o (inr h) (inr k) = asked_once n c s d u q r log o.1 h k
asked_once n c s d u q r (Performed m x p ∷ log) o (inl e) k = absurd cc
asked_once n c s d u q r (Performed m x p ∷ log) o (inr h) (inl f) = absurd cc
asked_once n c s d u q r (Performed m x p ∷ log) o (inr h) (inr k) = asked_once n c s d u q r log o.2 h k
asked_once n c s d u q r (Ended m how ∷ log) o (inl e) k = absurd cc
asked_once n c s d u q r (Ended m how ∷ log) o (inr h) (inl f) = absurd cc
asked_once n c s d u q r (Ended m how ∷ log) o (inr h) (inr k) = asked_once n c s d u q r log o.2 h k
asked_once n c s d u q r (Changed a b ∷ log) o (inl e) k = absurd cc
asked_once n c s d u q r (Changed a b ∷ log) o (inr h) (inl f) = absurd cc
asked_once n c s d u q r (Changed a b ∷ log) o (inr h) (inr k) = asked_once n c s d u q r log o h k
asked_once n c s d u q r (Restarted a b ∷ log) o (inl e) k = absurd cc
asked_once n c s d u q r (Restarted a b ∷ log) o (inr h) (inl f) = absurd cc
asked_once n c s d u q r (Restarted a b ∷ log) o (inr h) (inr k) = asked_once n c s d u q r log o h k
asked_once n c s d u q r (Served z a i b x p ∷ log) o (inl e) k = absurd cc
asked_once n c s d u q r (Served z a i b x p ∷ log) o (inr h) (inl f) = absurd cc
asked_once n c s d u q r (Served z a i b x p ∷ log) o (inr h) (inr k) = asked_once n c s d u q r log o h k
asked_once n c s d u q r (AskedAway m a z x ∷ log) o (inl e) k = absurd cc
asked_once n c s d u q r (AskedAway m a z x ∷ log) o (inr h) (inl f) = absurd cc
asked_once n c s d u q r (AskedAway m a z x ∷ log) o (inr h) (inr k) = asked_once n c s d u q r log o.1 h k
asked_once n c s d u q r (EndedAway m how ∷ log) o (inl e) k = absurd cc
asked_once n c s d u q r (EndedAway m how ∷ log) o (inr h) (inl f) = absurd cc
asked_once n c s d u q r (EndedAway m how ∷ log) o (inr h) (inr k) = asked_once n c s d u q r log o.2 h k

none_there : (k : ℕ) (c : Copy) → slice_get [] k ≡ Some c → ⊥
none_there k c e = cc

-- Where no node changes its own store, stores change by performed requests alone.
pub by_requests : (S : Type 0) (model : StoreModel S) (opening : ℕ → S) (log : List Fact) (stores : ℕ → S) → HasNoChange log → IsOnce S model opening log stores
    → IsOnceByRequests S model opening log stores
by_requests S model opening [] stores none h = h
by_requests S model opening (Asked n c s r ∷ log) stores none h = (h.0, h.1, by_requests S model opening log h.0 none h.2)
by_requests S model opening (Performed n r p ∷ log) stores none h = (h.0, h.1, by_requests S model opening log h.0 none h.2)
by_requests S model opening (Ended n how ∷ log) stores none h = (h.0, h.1, by_requests S model opening log h.0 none h.2)
by_requests S model opening (Served q s i b r p ∷ log) stores none h = (h.0, h.1, by_requests S model opening log h.0 none h.2)
by_requests S model opening (AskedAway n c q r ∷ log) stores none h = (h.0, h.1, by_requests S model opening log h.0 none h.2)
by_requests S model opening (EndedAway n how ∷ log) stores none h = (h.0, h.1, by_requests S model opening log h.0 none h.2)
by_requests S model opening (Changed s c ∷ log) stores none h = absurd none
by_requests S model opening (Restarted s o ∷ log) stores none h = (h.0, (none.0, kept o none.0 h.1), by_requests S model opening log h.0 none.1 h.2)
  where
    same : (node : ℕ) (b : Bool) → nat_eq node s ≡ b → (if b then h.0 s else h.0 node) ≡ h.0 node
    same node true e = let is : s ≡ node = grind (arith, nat_tests) in ap h.0 is
    same node false e = refl

    kept : (o : Option Octets) → o ≡ None → MayEnter S model (Restarted s o) log h.0 stores → AreSame S h.0 stores
    kept None is may = λ node. may node ∙ same node (nat_eq node s) refl
    kept (Some store) is may = absurd cc

-- Where no server restarts, the log is right without restarts.
pub in_one_life : (S : Type 0) (model : StoreModel S) (opening : ℕ → S) (log : List Fact) (stores : ℕ → S) → HasNoRestart log → IsOnce S model opening log stores
    → IsOnceInOneLife S model opening log stores
in_one_life S model opening [] stores none h = h
in_one_life S model opening (Asked n c s r ∷ log) stores none h = (h.0, h.1, in_one_life S model opening log h.0 none h.2)
in_one_life S model opening (Performed n r p ∷ log) stores none h = (h.0, h.1, in_one_life S model opening log h.0 none h.2)
in_one_life S model opening (Ended n how ∷ log) stores none h = (h.0, h.1, in_one_life S model opening log h.0 none h.2)
in_one_life S model opening (Served q s i b r p ∷ log) stores none h = (h.0, h.1, in_one_life S model opening log h.0 none h.2)
in_one_life S model opening (AskedAway n c q r ∷ log) stores none h = (h.0, h.1, in_one_life S model opening log h.0 none h.2)
in_one_life S model opening (EndedAway n how ∷ log) stores none h = (h.0, h.1, in_one_life S model opening log h.0 none h.2)
in_one_life S model opening (Changed s c ∷ log) stores none h = (h.0, h.1, in_one_life S model opening log h.0 none h.2)
in_one_life S model opening (Restarted s o ∷ log) stores none h = absurd none

-- Where there are no strangers, the log is right without them.
pub among_nodes : (S : Type 0) (model : StoreModel S) (opening : ℕ → S) (log : List Fact) (stores : ℕ → S) → HasNoStranger log → IsOnce S model opening log stores
    → IsOnceAmongNodes S model opening log stores
among_nodes S model opening [] stores none h = h
among_nodes S model opening (Asked n c s r ∷ log) stores none h = (h.0, h.1, among_nodes S model opening log h.0 none h.2)
among_nodes S model opening (Performed n r p ∷ log) stores none h = (h.0, h.1, among_nodes S model opening log h.0 none h.2)
among_nodes S model opening (Ended n how ∷ log) stores none h = (h.0, h.1, among_nodes S model opening log h.0 none h.2)
among_nodes S model opening (Changed s c ∷ log) stores none h = (h.0, h.1, among_nodes S model opening log h.0 none h.2)
among_nodes S model opening (Restarted s o ∷ log) stores none h = (h.0, h.1, among_nodes S model opening log h.0 none h.2)
among_nodes S model opening (Served q s i b r p ∷ log) stores none h = absurd none
among_nodes S model opening (AskedAway n c q r ∷ log) stores none h = absurd none
among_nodes S model opening (EndedAway n how ∷ log) stores none h = absurd none

-- No event moves the log and the stores apart.
module _ (S : Type 0) (model : StoreModel S) (opening : ℕ → S) (W : ℕ) (x : Rules) (bound : IsBounded W x) where
  pub record Kept (w : World S) : Type 0 where
    pub stands : Stands W w.net
    pub once : IsOnce S model opening w.net.log w.stores

  reacts_kept : (w : World S) → Kept w → (key : Key) (t : ClientTransaction) (r : client.Reaction) → Stands W (client_acts w.net key t r)
      → Kept (reacts S w key t r)
  reacts_kept w s key t r stands = record
      { stands = stands; once = go (client.ending_of r) (net_log W (client_acts w.net key t r) stands.net).orderly }
    where
      go : (o : Option Ending) → IsOrderly (ended (w.net.numbers key) o w.net.log) → IsOnce S model opening (ended (w.net.numbers key) o w.net.log) w.stores
      go None h = s.once
      go (Some how) h = (w.stores, (h.0, h.1, λ node. refl), s.once)

  -- a request was performed
  effect_once : (w : World S) → Kept w → (key : Key) (t : ClientTransaction) → w.net.tickets key ≡ Some t → (e : Effect) → IsServed (service_of S model w key) (Some e)
      → IsOrderly (Performed (w.net.numbers key) e.request e.reply ∷ w.net.log)
      → IsOnce S model opening (Performed (w.net.numbers key) e.request e.reply ∷ w.net.log) (stored S model key.server (Some e) w.stores)
  effect_once w s key t at e is right =
      let own = (sound_at W w.net key (Some t) at s.stands.net).2 in
      let n = w.net.numbers key in
      let same : request_of t.ask ≡ e.request = asked_once n key.client key.server right.0.0 right.0.1
      (request_of t.ask) e.request w.net.log right.2 own.asked right.0.2 in
      (w.stores, (key.client, key.server, subst (λ r. Has (Asked n key.client key.server r) w.net.log) same own.asked, right.1, is, λ node. refl), s.once)

  serves_kept : (w : World S) → Kept w → (key : Key) (t : ClientTransaction) → w.net.tickets key ≡ Some t → (v : server.Reaction)
      → IsServed (service_of S model w key) v.effect → Stands W (server_acts w.net key v) → Kept (serves S model w key v)
  serves_kept w s key t at v is stands = record { stands = stands; once = go v.effect is (net_log W (server_acts w.net key v) stands.net).orderly }
    where
      go : (o : Option Effect) → IsServed (service_of S model w key) o → IsOrderly (performed (w.net.numbers key) o w.net.log)
          → IsOnce S model opening (performed (w.net.numbers key) o w.net.log) (stored S model key.server o w.stores)
      go None is right = s.once
      go (Some e) is right = effect_once w s key t at e is right

  asks_kept : (w : World S) → Kept w → (key : Key) (choice : ℕ) (whole : Bool) (front : Octets) (rest : List Octets) (b : Bool)
      → is_id_held w.net key ≡ b
      → Kept (if b then w else ask_made S x w key (record { first = client_now w.net key; choice = choice; whole = whole; pieces = front ∷ rest }))
  asks_kept w s key choice whole front rest true e = s
  asks_kept w s key choice whole front rest false e =
      let stands = ask_stands W x bound w.net s.stands key choice whole front rest e in
      let ask : Ask = record { first = client_now w.net key; choice = choice; whole = whole; pieces = front ∷ rest } in
      record { stands = stands; once = (w.stores, ((net_log W (asked_at x w.net key ask) stands.net).orderly.0, λ node. refl), s.once) }

  -- the copy whose number that is arrives
  module _ (w : World S) (s : Kept w) (number : ℕ) (p : Post) (at_number : slice_get w.net.posts number ≡ Some p) where
    arrives_kept : (o : Option ClientTransaction) → w.net.tickets p.key ≡ o → w.net.now - p.copy.moment ≤ w.net.pace.life → IsClear W (w.net.pieces p.key) (later p.key number w.net.posts)
        → (free up : Bool) → is_from_client p.copy.apdu ≡ up → Kept (if up then takes_at_server S model x w p.key free p.copy.apdu else takes_at_client S x w p.key p.copy.apdu o)
    arrives_kept None at young few free up way =
        absurd (none_there (later p.key number w.net.posts) p.copy
        (subst (λ (cs : List Copy). slice_get cs (later p.key number w.net.posts) ≡ Some p.copy) (sound_at W w.net p.key None at s.stands.net).no_copies
        (copy_at number w.net.posts p at_number)))
    arrives_kept (Some t) at young few free true way =
        let place = copy_at number w.net.posts p at_number in
        let says = (((sound_at W w.net p.key (Some t) at s.stands.net).2).arriving (later p.key number w.net.posts) p.copy place young).1 in
        let v = server.server_on_apdu (server_context x p.key (server_now w.net p.key)) (service_of S model w p.key) (w.net.entries p.key) (is_room w.net p.key free) p.copy.apdu in
        serves_kept w s p.key t at v (gets_served (server_context x p.key (server_now w.net p.key)) (service_of S model w p.key)
        (w.net.entries p.key) (is_room w.net p.key free) p.copy.apdu)
        (entry_gets W x bound w.net s.stands p.key t at (later p.key number w.net.posts) few p.copy place young way says (service_of S model w p.key) free)
    arrives_kept (Some t) at young few free false way =
        let says = (((sound_at W w.net p.key (Some t) at s.stands.net).2).arriving (later p.key number w.net.posts) p.copy
        (copy_at number w.net.posts p at_number) young).1 in
        reacts_kept w s p.key t (client.client_on_apdu (client_context x p.key (client_now w.net p.key)) x.readable t p.copy.apdu)
        (ticket_gets W x bound w.net s.stands p.key t at p.copy.moment (later p.key number w.net.posts) few p.copy.apdu says)

    by_test : (free a b d : Bool) → nat_le (w.net.now - p.copy.moment) w.net.pace.life ≡ a → nat_le (later p.key number w.net.posts) x.overtake ≡ b
        → is_short w.net p.key ≡ d → Kept (if a && (b || d) then arrives S model x w p.key free p.copy.apdu else w)
    by_test free true true d young few short = arrives_kept (w.net.tickets p.key) refl (grind (arith, nat_tests))
        (few_are_clear W x bound (w.net.pieces p.key) (later p.key number w.net.posts) (inl (grind (arith, nat_tests)))) free (is_from_client p.copy.apdu) refl
    by_test free true false true young few short = arrives_kept (w.net.tickets p.key) refl (grind (arith, nat_tests))
        (few_are_clear W x bound (w.net.pieces p.key) (later p.key number w.net.posts) (inr (grind (arith, nat_tests)))) free (is_from_client p.copy.apdu) refl
    by_test free true false false young few short = s
    by_test free false b d young few short = s

  delivered_kept : (w : World S) → Kept w → (number : ℕ) (free : Bool) (o : Option Post) → slice_get w.net.posts number ≡ o
      → Kept (delivered S model x w number free o)
  delivered_kept w s number free None e = s
  delivered_kept w s number free (Some p) e = by_test w s number p e free (nat_le (w.net.now - p.copy.moment) w.net.pace.life)
      (nat_le (later p.key number w.net.posts) x.overtake) (is_short w.net p.key) refl refl refl

  -- a ticket's tick
  ticket_kept : (w : World S) → Kept w → (key : Key) (o : Option ClientTransaction) → w.net.tickets key ≡ o → Kept (ticks_ticket S x w key o)
  ticket_kept w s key None at = s
  ticket_kept w s key (Some t) at = reacts_kept w s key t (client.client_ticks (client_context x key (client_now w.net key)) t)
      (ticket_ticks W x bound w.net s.stands key t at)

  clients_kept : (keys : List Key) (w : World S) → Kept w → Kept (ticks_as_client S x keys w)
  clients_kept [] w s = s
  clients_kept (key ∷ keys) w s = clients_kept keys (ticks_ticket S x w key (w.net.tickets key)) (ticket_kept w s key (w.net.tickets key) refl)

  -- an entry's tick
  quiet : (w : World S) (key : Key) (v : server.Reaction) → v.effect ≡ None → IsServed (service_of S model w key) v.effect
  quiet w key v e = subst (IsServed (service_of S model w key)) (sym e) tt

  entry_kept : (w : World S) → Kept w → (key : Key) (o : Option ClientTransaction) → w.net.tickets key ≡ o
      → Kept (serves S model w key (server.server_ticks (server_context x key (server_now w.net key)) (w.net.entries key)))
  entry_kept w s key (Some t) at =
      let v = server.server_ticks (server_context x key (server_now w.net key)) (w.net.entries key) in
      serves_kept w s key t at v (quiet w key v (ticks_quiet (server_context x key (server_now w.net key)) (w.net.entries key)))
      (entry_ticks W x bound w.net s.stands key t at)
  entry_kept w s key None at = record
      { stands = no_entry_ticks W x bound w.net s.stands key at; once = go (w.net.entries key) (sound_at W w.net key None at s.stands.net).no_entry }
    where
      go : (o : Option ServerTransaction) → o ≡ None
          → (let v = server.server_ticks (server_context x key (server_now w.net key)) o in
          IsOnce S model opening (performed (w.net.numbers key) v.effect w.net.log) (stored S model key.server v.effect w.stores))
      go (Some e) nil = absurd cc
      go None nil = s.once

  servers_kept : (keys : List Key) (w : World S) → Kept w → Kept (ticks_as_server S model x keys w)
  servers_kept [] w s = s
  servers_kept (key ∷ keys) w s = servers_kept keys (serves S model w key
      (server.server_ticks (server_context x key (server_now w.net key)) (w.net.entries key))) (entry_kept w s key (w.net.tickets key) refl)

  -- Strangers.

  reacts_away_kept : (w : World S) → Kept w → (key : Key) (t : ClientTransaction) → w.net.far.tickets key ≡ Some t → (r : client.Reaction)
      → (is_idle t.phase ≡ true → r ≡ Stays) → Kept (reacts_away S w key t r)
  reacts_away_kept w s key t at r silent = record
      { stands = away_reacts W w.net s.stands key t at r silent; once = go (client.ending_of r) (away_right W w.net s.stands key t at r silent) }
    where
      go : (o : Option Ending) → IsOrderly (ended_away (w.net.far.numbers key) o w.net.log)
          → IsOnce S model opening (ended_away (w.net.far.numbers key) o w.net.log) w.stores
      go None right = s.once
      go (Some how) right = (w.stores, (right.0, right.1, λ node. refl), s.once)

  serves_away_kept : (w : World S) → Kept w → (key : Key) (v : server.Reaction) → IsServed (service_of S model w key) v.effect
      → Away (server_acts_away w.net key v) → Kept (serves_away S model w key v)
  serves_away_kept w s key v is away = record { stands = away_serves W w.net s.stands key v away; once = go v.effect is }
    where
      go : (o : Option Effect) → IsServed (service_of S model w key) o
          → IsOnce S model opening (served key (begin_of v.entry) o w.net.log) (stored S model key.server o w.stores)
      go None is = s.once
      go (Some e) is = (w.stores, (is, λ node. refl), s.once)

  to_client_kept : (w : World S) → Kept w → (key : Key) (a : Apdu) (o : Option ClientTransaction) → w.net.far.tickets key ≡ o → Kept (strays_to_client S x w key a o)
  to_client_kept w s key a None at = s
  to_client_kept w s key a (Some t) at = reacts_away_kept w s key t at (client.client_on_apdu (client_context x key (client_now w.net key)) x.readable t a)
      (ended_is_silent.gets (client_context x key (client_now w.net key)) x.readable t a)

  strays_kept : (w : World S) → Kept w → (key : Key) (free : Bool) (a : Apdu) (up : Bool)
      → Kept (if up then strays_to_server S model x w key free a else strays_to_client S x w key a (w.net.far.tickets key))
  strays_kept w s key free a true =
      let c = server_context x key (server_now w.net key) in
      let service = service_of S model w key in
      serves_away_kept w s key (server.server_on_apdu c service (w.net.far.entries key) (is_room w.net key free) a)
      (gets_served c service (w.net.far.entries key) (is_room w.net key free) a)
      (away_gets w.net s.stands.away key c refl service (is_room w.net key free) (room_opens w.net key free) a)
  strays_kept w s key free a false = to_client_kept w s key a (w.net.far.tickets key) refl

  asks_away_kept : (w : World S) → Kept w → (key : Key) (ask : Ask) (b : Bool) → Kept (if b then w else asked_away S x w key ask)
  asks_away_kept w s key ask true = s
  asks_away_kept w s key ask false =
      record { stands = away_asks W w.net s.stands x key ask; once = (w.stores, ((net_log W w.net s.stands.net).counted, λ node. refl), s.once) }

  ticket_away_kept : (w : World S) → Kept w → (key : Key) (o : Option ClientTransaction) → w.net.far.tickets key ≡ o → Kept (ticks_ticket_away S x w key o)
  ticket_away_kept w s key None at = s
  ticket_away_kept w s key (Some t) at = reacts_away_kept w s key t at (client.client_ticks (client_context x key (client_now w.net key)) t)
      (ended_is_silent.ticks (client_context x key (client_now w.net key)) t)

  clients_away_kept : (keys : List Key) (w : World S) → Kept w → Kept (ticks_as_client_away S x keys w)
  clients_away_kept [] w s = s
  clients_away_kept (key ∷ keys) w s = clients_away_kept keys (ticks_ticket_away S x w key (w.net.far.tickets key))
      (ticket_away_kept w s key (w.net.far.tickets key) refl)

  servers_away_kept : (keys : List Key) (w : World S) → Kept w → Kept (ticks_as_server_away S model x keys w)
  servers_away_kept [] w s = s
  servers_away_kept (key ∷ keys) w s =
      let c = server_context x key (server_now w.net key) in
      let v = server.server_ticks c (w.net.far.entries key) in
      servers_away_kept keys (serves_away S model w key v)
      (serves_away_kept w s key v (quiet w key v (ticks_quiet c (w.net.far.entries key))) (away_ticks w.net s.stands.away key c))

  -- Late starts.

  begins_kept : (w : World S) → Kept w → (node exact : ℕ) (b : Bool) → is_active w.net node ≡ b
      → Kept (if b then w else record { net = begun w.net node exact; stores = w.stores })
  begins_kept w s node exact true is = s
  begins_kept w s node exact false off = record { stands = begin_stands W w.net s.stands node exact off; once = s.once }

  begins_again_kept : (w : World S) → Kept w → (node exact : ℕ) (b : Bool) → is_quiet w.net node ≡ b
      → Kept (if b then record { net = begun_again w.net node exact; stores = w.stores } else w)
  begins_again_kept w s node exact true quiet = record { stands = begin_again_stands W w.net s.stands node exact quiet; once = s.once }
  begins_again_kept w s node exact false is = s

  pub event_kept : (w : World S) → Kept w → (e : Event) → Kept (happens S model x w e)
  event_kept w s (MakeAsk key choice whole front rest) = asks_kept w s key choice whole front rest (is_id_held w.net key) refl
  event_kept w s (Deliver number free) = delivered_kept w s number free (slice_get w.net.posts number) refl
  event_kept w s (Tick as_client as_server) = servers_kept as_server (ticks_as_client S x as_client w) (clients_kept as_client w s)
  event_kept w s Noise = s
  event_kept w s (Advance by clients servers) = record { stands = time_stands W w.net s.stands by clients servers; once = s.once }
  event_kept w s (Change node change) = record { stands = change_stands W w.net s.stands node change; once = (w.stores, λ n. refl, s.once) }
  event_kept w s (RestartClient node exact) = record { stands = client_restart_stands W w.net s.stands node exact; once = s.once }
  event_kept w s (RestartServer node exact store) =
      record { stands = server_restart_stands W w.net s.stands node exact store; once = (w.stores, λ n. refl, s.once) }
  event_kept w s (Begin node exact) = begins_kept w s node exact (is_active w.net node) refl
  event_kept w s (BeginAgain node exact) = begins_again_kept w s node exact (is_quiet w.net node) refl
  event_kept w s (Stray key free a) = strays_kept w s key free a (is_from_client a)
  event_kept w s (AskAway key choice whole front rest) = asks_away_kept w s key
      (record { first = client_now w.net key; choice = choice; whole = whole; pieces = front ∷ rest }) (is_id_held_away w.net key)
  event_kept w s (TickAway as_client as_server) =
      servers_away_kept as_server (ticks_as_client_away S x as_client w) (clients_away_kept as_client w s)

  pub run_kept : (events : List Event) (w : World S) → Kept w → Kept (run S model x events w)
  run_kept [] w s = s
  run_kept (e ∷ es) w s = run_kept es (happens S model x w e) (event_kept w s e)

  module _ (pace : Pace) (timely : IsTimely pace) (clocks : ℕ → ℕ) where
    pub start_kept : Kept (start S pace clocks opening)
    start_kept = record { stands = start_stands W pace clocks timely; once = λ node. refl }

    pub headline : (events : List Event)
        → IsOnce S model opening (run S model x events (start S pace clocks opening)).net.log (run S model x events (start S pace clocks opening)).stores
    headline events = (run_kept events (start S pace clocks opening) start_kept).once

    pub apart_in_run : (events : List Event) → AreServedApart (run S model x events (start S pace clocks opening)).net
    apart_in_run events =
        served_apart (run S model x events (start S pace clocks opening)).net (run_kept events (start S pace clocks opening) start_kept).stands.away
