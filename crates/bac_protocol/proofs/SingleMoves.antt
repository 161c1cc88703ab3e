-- After any moves a net is in order.
use Rattle.std.proofs.Common.{◌≡◌, ℕ, ◌-◌, ◌≤◌, ◌⊎◌, Bool, true, false, ◌&&◌, ◌||◌, List, [], ◌∷◌, Option, Some, None, slice_get, nat_le, refl, subst, inl, inr, if◌then◌else◌}
use Rattle.std.proofs.Common.{arith}
use Rattle.std.proofs.lemmas.Bool.Decides.{nat_tests}
use Rattle.bac_apdu.specs.Apdu.{Apdu}
use Rattle.bac_protocol.specs.Pace.{Pace, IsTimely}
use Rattle.bac_protocol.specs.Service.{Octets}
use Rattle.bac_protocol.specs.Wire.{is_from_client}
use Rattle.bac_protocol.specs.Client as client
use Rattle.bac_protocol.specs.Client.{Ask, ClientTransaction}
use Rattle.bac_protocol.specs.Server as server
use Rattle.bac_protocol.specs.Server.{Service}
use Rattle.bac_protocol.specs.Transaction.{Key, Rules, client_context, server_context, Copy}
use Rattle.bac_protocol.specs.World.{Net, Post, later, server_acts, asked_at, asked_away_at, is_id_held, is_id_held_away, is_room, net_start, client_now, server_now}
use Rattle.bac_protocol.specs.World.{is_short, is_active, begun, is_quiet, begun_again}
use Rattle.bac_protocol.specs.Claims.{IsBounded}
use Rattle.bac_protocol.specs.Moves.{Move, taken_by_client, taken_by_server, arrived, ticket_ticked, moved, IsReached, IsInOrder, SetsOnePlace}
use Rattle.bac_protocol.specs.Moves.{strayed_to_client, strayed_to_server, ticket_ticked_away}
use Rattle.bac_protocol.specs.Moves.Move.{Asks, Arrives, TicksTicket, TicksEntry, Passes, Changes, RestartsClient, RestartsServer, Begins, BeginsAgain}
use Rattle.bac_protocol.specs.Moves.Move.{Strays, AsksAway, TicksTicketAway, TicksEntryAway}
use Rattle.bac_protocol.specs.Moves.IsReached.{Still, Moved}
use Rattle.bac_protocol.proofs.Calm.{Calm, none_live_of}
use Rattle.bac_protocol.proofs.Dead.{ended_is_silent}
use Rattle.bac_protocol.proofs.Keys.{copy_at, set_same, set_other}
use Rattle.bac_protocol.proofs.Nets.{NetSound, net_log, room_opens, sound_at}
use Rattle.bac_protocol.proofs.Standing.{Stands, few_are_clear, start_stands, time_stands, change_stands, client_restart_stands, server_restart_stands, begin_stands, begin_again_stands}
use Rattle.bac_protocol.proofs.Standing.{ask_stands, ticket_gets, ticket_ticks, entry_gets, entry_ticks, no_entry_ticks, away_reacts, away_serves, away_asks, spent_stands}
use Rattle.bac_protocol.proofs.Sound.{IsClear}
use Rattle.bac_protocol.proofs.StrangerTables.{away_gets, away_ticks, served_apart, was_away}

none_there : (k : ℕ) (c : Copy) → slice_get [] k ≡ Some c → ⊥
none_there k c e = cc

posted : (W : ℕ) (n : Net) → Stands W n → (number : ℕ) (p : Post) → slice_get n.posts number ≡ Some p → n.tickets p.key ≡ None → ⊥
posted W n s number p at is = none_there (later p.key number n.posts) p.copy
    (subst (λ (cs : List Copy). slice_get cs (later p.key number n.posts) ≡ Some p.copy) (sound_at W n p.key None is s.net).no_copies
    (copy_at number n.posts p at))

-- a net that stands is in order, whatever the rules of the moves that led to it
pub stands_in_order : (W : ℕ) (n : Net) → Stands W n → IsInOrder n
stands_in_order W n s = record {
  orderly = (net_log W n s.net).orderly;
  counted = (net_log W n s.net).counted;
  asked = λ key t is. ((sound_at W n key (Some t) is s.net).2).asked;
  posted = posted W n s;
  entered = λ key is. (sound_at W n key None is s.net).no_entry;
  own = λ key. (s.calm key).own;
  dead = λ key free. none_live_of (server_now n key) (n.entries key) (spent_stands W n s key free).dead;
  away = λ key t is. was_away n.server_clocks n.serves_from n.far n.log s.away key t is;
  apart = s.away.apart;
  served_apart = served_apart n s.away;
}

module _ (W : ℕ) (x : Rules) (bound : IsBounded W x) where
  arrives_stands : (n : Net) → Stands W n → (number : ℕ) (p : Post) → slice_get n.posts number ≡ Some p → n.now - p.copy.moment ≤ n.pace.life
      → IsClear W (n.pieces p.key) (later p.key number n.posts) → (free : Bool) (service : Service) (o : Option ClientTransaction) → n.tickets p.key ≡ o → (up : Bool)
      → is_from_client p.copy.apdu ≡ up → Stands W (if up then taken_by_server x n p free service else taken_by_client x n p o)
  arrives_stands n s number p at young few free service None is up way = absurd (posted W n s number p at is)
  arrives_stands n s number p at young few free service (Some t) is true way =
      let place = copy_at number n.posts p at in
      let says = (((sound_at W n p.key (Some t) is s.net).2).arriving (later p.key number n.posts) p.copy place young).1 in
      entry_gets W x bound n s p.key t is (later p.key number n.posts) few p.copy place young way says service free
  arrives_stands n s number p at young few free service (Some t) is false way =
      let says = (((sound_at W n p.key (Some t) is s.net).2).arriving (later p.key number n.posts) p.copy (copy_at number n.posts p at) young).1 in
      ticket_gets W x bound n s p.key t is p.copy.moment (later p.key number n.posts) few p.copy.apdu says

  arrived_stands : (n : Net) → Stands W n → (number : ℕ) (free : Bool) (service : Service) (o : Option Post) → slice_get n.posts number ≡ o
      → Stands W (arrived x n number free service o)
  arrived_stands n s number free service None at = s
  arrived_stands n s number free service (Some p) at = go (nat_le (n.now - p.copy.moment) n.pace.life) (nat_le (later p.key number n.posts) x.overtake)
      (is_short n p.key) refl refl refl
    where
      arrives : n.now - p.copy.moment ≤ n.pace.life → (later p.key number n.posts ≤ x.overtake) ⊎ (n.pieces p.key ≤ 256)
          → Stands W (if is_from_client p.copy.apdu then taken_by_server x n p free service else taken_by_client x n p (n.tickets p.key))
      arrives young clear = arrives_stands n s number p at young (few_are_clear W x bound (n.pieces p.key) (later p.key number n.posts) clear) free service
          (n.tickets p.key) refl (is_from_client p.copy.apdu) refl

      go : (a b d : Bool) → nat_le (n.now - p.copy.moment) n.pace.life ≡ a → nat_le (later p.key number n.posts) x.overtake ≡ b → is_short n p.key ≡ d
          → Stands W (if a && (b || d) then (if is_from_client p.copy.apdu then taken_by_server x n p free service else taken_by_client x n p (n.tickets p.key)) else n)
      go true true d young few short = arrives (grind (arith, nat_tests)) (inl (grind (arith, nat_tests)))
      go true false true young few short = arrives (grind (arith, nat_tests)) (inr (grind (arith, nat_tests)))
      go true false false young few short = s
      go false b d young few short = s

  ticket_stands : (n : Net) → Stands W n → (key : Key) (o : Option ClientTransaction) → n.tickets key ≡ o → Stands W (ticket_ticked x n key o)
  ticket_stands n s key None is = s
  ticket_stands n s key (Some t) is = ticket_ticks W x bound n s key t is

  entry_stands : (n : Net) → Stands W n → (key : Key) (o : Option ClientTransaction) → n.tickets key ≡ o
      → Stands W (server_acts n key (server.server_ticks (server_context x key (server_now n key)) (n.entries key)))
  entry_stands n s key (Some t) is = entry_ticks W x bound n s key t is
  entry_stands n s key None is = no_entry_ticks W x bound n s key is

  asked_stands : (n : Net) → Stands W n → (key : Key) (choice : ℕ) (whole : Bool) (front : Octets) (rest : List Octets) (b : Bool)
      → is_id_held n key ≡ b
      → Stands W (if b then n else asked_at x n key (record { first = client_now n key; choice = choice; whole = whole; pieces = front ∷ rest }))
  asked_stands n s key choice whole front rest true e = s
  asked_stands n s key choice whole front rest false e = ask_stands W x bound n s key choice whole front rest e

  -- Strangers.

  to_client : (n : Net) → Stands W n → (key : Key) (a : Apdu) (o : Option ClientTransaction) → n.far.tickets key ≡ o → Stands W (strayed_to_client x n key a o)
  to_client n s key a None at = s
  to_client n s key a (Some t) at = away_reacts W n s key t at (client.client_on_apdu (client_context x key (client_now n key)) x.readable t a)
      (ended_is_silent.gets (client_context x key (client_now n key)) x.readable t a)

  strays_stand : (n : Net) → Stands W n → (key : Key) (free : Bool) (service : Service) (a : Apdu) (up : Bool)
      → Stands W (if up then strayed_to_server x n key free service a else strayed_to_client x n key a (n.far.tickets key))
  strays_stand n s key free service a true =
      let c = server_context x key (server_now n key) in
      away_serves W n s key (server.server_on_apdu c service (n.far.entries key) (is_room n key free) a)
      (away_gets n s.away key c refl service (is_room n key free) (room_opens n key free) a)
  strays_stand n s key free service a false = to_client n s key a (n.far.tickets key) refl

  asked_away_stands : (n : Net) → Stands W n → (key : Key) (ask : Ask) (b : Bool) → Stands W (if b then n else asked_away_at x n key ask)
  asked_away_stands n s key ask true = s
  asked_away_stands n s key ask false = away_asks W n s x key ask

  ticket_away_stands : (n : Net) → Stands W n → (key : Key) (o : Option ClientTransaction) → n.far.tickets key ≡ o → Stands W (ticket_ticked_away x n key o)
  ticket_away_stands n s key None at = s
  ticket_away_stands n s key (Some t) at = away_reacts W n s key t at (client.client_ticks (client_context x key (client_now n key)) t)
      (ended_is_silent.ticks (client_context x key (client_now n key)) t)

  -- Late starts.

  begun_stands : (n : Net) → Stands W n → (node exact : ℕ) (b : Bool) → is_active n node ≡ b → Stands W (if b then n else begun n node exact)
  begun_stands n s node exact true is = s
  begun_stands n s node exact false off = begin_stands W n s node exact off

  begun_again_stands : (n : Net) → Stands W n → (node exact : ℕ) (b : Bool) → is_quiet n node ≡ b → Stands W (if b then begun_again n node exact else n)
  begun_again_stands n s node exact true quiet = begin_again_stands W n s node exact quiet
  begun_again_stands n s node exact false is = s

  pub move_stands : (n : Net) → Stands W n → (m : Move) → Stands W (moved x n m)
  move_stands n s (Asks key choice whole front rest) = asked_stands n s key choice whole front rest (is_id_held n key) refl
  move_stands n s (Arrives number free service) = arrived_stands n s number free service (slice_get n.posts number) refl
  move_stands n s (TicksTicket key) = ticket_stands n s key (n.tickets key) refl
  move_stands n s (TicksEntry key) = entry_stands n s key (n.tickets key) refl
  move_stands n s (Passes by clients servers) = time_stands W n s by clients servers
  move_stands n s (Changes node change) = change_stands W n s node change
  move_stands n s (RestartsClient node exact) = client_restart_stands W n s node exact
  move_stands n s (RestartsServer node exact store) = server_restart_stands W n s node exact store
  move_stands n s (Begins node exact) = begun_stands n s node exact (is_active n node) refl
  move_stands n s (BeginsAgain node exact) = begun_again_stands n s node exact (is_quiet n node) refl
  move_stands n s (Strays key free service a) = strays_stand n s key free service a (is_from_client a)
  move_stands n s (AsksAway key choice whole front rest) = asked_away_stands n s key
      (record { first = client_now n key; choice = choice; whole = whole; pieces = front ∷ rest }) (is_id_held_away n key)
  move_stands n s (TicksTicketAway key) = ticket_away_stands n s key (n.far.tickets key) refl
  move_stands n s (TicksEntryAway key) =
      let c = server_context x key (server_now n key) in
      away_serves W n s key (server.server_ticks c (n.far.entries key)) (away_ticks n s.away key c)

  module _ (pace : Pace) (timely : IsTimely pace) (clocks : ℕ → ℕ) where
    pub reached_stands : (n : Net) → IsReached x (net_start pace clocks) n → Stands W n
    reached_stands _ Still = start_stands W pace clocks timely
    reached_stands _ (Moved n m h) = move_stands n (reached_stands n h) m

    pub reached_net : (n : Net) → IsReached x (net_start pace clocks) n → NetSound W n
    reached_net n h = (reached_stands n h).net

    pub reached_calm : (n : Net) → IsReached x (net_start pace clocks) n → Calm n
    reached_calm n h = (reached_stands n h).calm

    pub in_order : (n : Net) → IsReached x (net_start pace clocks) n → IsInOrder n
    in_order n h = stands_in_order W n (reached_stands n h)

-- One place of a table.
pub sets_one_place : {A : Type 0} → SetsOnePlace A
sets_one_place = record { same = set_same; other = set_other }
