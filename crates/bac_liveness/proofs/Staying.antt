-- The moves that lead to a net are a path, so its asks and restarts are not later than now.
use Rattle.std.proofs.Common.{◌≡◌, ℕ, Bool, true, false, List, Option, Some, None, slice_get, if◌then◌else◌, refl}
use Rattle.bac_protocol.specs.Pace.{Pace}
use Rattle.bac_protocol.specs.Service.{Octets}
use Rattle.bac_protocol.specs.Wire.{is_from_client}
use Rattle.bac_protocol.specs.Client.{ClientTransaction}
use Rattle.bac_protocol.specs.Server.{Service}
use Rattle.bac_protocol.specs.Transaction.{Key, Rules, client_context, server_context}
use Rattle.bac_protocol.specs.World.{Net, Post, asked_at, client_now, is_active, is_deliverable, is_id_held, is_quiet, net_start}
use Rattle.bac_protocol.specs.Moves.{Move, IsReached, moved, arrived, taken_by_client, taken_by_server, ticket_ticked}
use Rattle.bac_protocol.specs.Moves.{strayed_to_client, strayed_to_server, ticket_ticked_away}
use Rattle.bac_protocol.specs.World.{client_acts_away, server_acts_away, asked_away_at, is_id_held_away, is_room, server_now}
use Rattle.bac_protocol.specs.Client as client
use Rattle.bac_protocol.specs.Server as server
use Rattle.bac_protocol.proofs.Aside.{client_aside, server_aside, asked_aside}
use Rattle.bac_protocol.specs.Moves.Move.{Asks, Arrives, TicksTicket, TicksEntry, Passes, Changes, RestartsClient, RestartsServer, Begins, BeginsAgain, Strays, AsksAway, TicksTicketAway, TicksEntryAway}
use Rattle.bac_protocol.specs.Moves.IsReached.{Still, Moved}
use Rattle.bac_liveness.proofs.Paths.{Any, Bounded, Comes, Path, Step, ask_of, aside_step, begin_path, begin_again_path, bounded_start, path_bounded, path_then}
use Rattle.bac_liveness.proofs.Paths.Path.{Here, Then}

module _ (x : Rules) (n : Net) where
  asks_path : (key : Key) (choice : ℕ) (whole : Bool) (front : Octets) (rest : List Octets) (b : Bool) → is_id_held n key ≡ b
      → Path x Any n (if b then n else asked_at x n key (ask_of (client_now n key) choice whole front rest))
  asks_path key choice whole front rest true e = Here
  asks_path key choice whole front rest false e =
      Then n (asked_at x n key (ask_of (client_now n key) choice whole front rest)) Here (Step.Asks key choice whole front rest e)

  taken_path : (number : ℕ) (p : Post) → Comes x n number p → is_from_client p.copy.apdu ≡ false → (o : Option ClientTransaction) → n.tickets p.key ≡ o
      → Path x Any n (taken_by_client x n p o)
  taken_path number p comes down None there = Here
  taken_path number p comes down (Some t) there = Then n (taken_by_client x n p (Some t)) Here (Step.Hears number p t comes down there)

  heard_path : (number : ℕ) (free : Bool) (service : Service) (p : Post) → Comes x n number p → (up : Bool) → is_from_client p.copy.apdu ≡ up
      → Path x Any n (if up then taken_by_server x n p free service else taken_by_client x n p (n.tickets p.key))
  heard_path number free service p comes true up = Then n (taken_by_server x n p free service) Here (Step.Serves number p free service comes up tt)
  heard_path number free service p comes false down = taken_path number p comes down (n.tickets p.key) refl

  arrived_path : (number : ℕ) (free : Bool) (service : Service) (o : Option Post) → slice_get n.posts number ≡ o
      → Path x Any n (arrived x n number free service o)
  arrived_path number free service None at = Here
  arrived_path number free service (Some p) at = go (is_deliverable x n number p) refl
    where
      go : (b : Bool) → is_deliverable x n number p ≡ b → Path x Any n
          (if b then (if is_from_client p.copy.apdu then taken_by_server x n p free service else taken_by_client x n p (n.tickets p.key)) else n)
      go true arrives = heard_path number free service p (record { at = at; arrives = arrives }) (is_from_client p.copy.apdu) refl
      go false lost = Here

  ticked_path : (key : Key) (o : Option ClientTransaction) → n.tickets key ≡ o → Path x Any n (ticket_ticked x n key o)
  ticked_path key None there = Here
  ticked_path key (Some t) there = Then n (ticket_ticked x n key (Some t)) Here (Step.TicksTicket key t there)

  -- with strangers
  client_step : (key : Key) (t : ClientTransaction) (r : client.Reaction) → Step x Any n (client_acts_away n key t r)
  client_step key t r = aside_step x Any n (client_acts_away n key t r) (client_aside n key t r)

  server_step : (key : Key) (v : server.Reaction) → Step x Any n (server_acts_away n key v)
  server_step key v = aside_step x Any n (server_acts_away n key v) (server_aside n key v)

  move_path : Bounded n → (m : Move) → Path x Any n (moved x n m)
  move_path h (Asks key choice whole front rest) = asks_path key choice whole front rest (is_id_held n key) refl
  move_path h (Arrives number free service) = arrived_path number free service (slice_get n.posts number) refl
  move_path h (TicksTicket key) = ticked_path key (n.tickets key) refl
  move_path h (TicksEntry key) = Then n (moved x n (TicksEntry key)) Here (Step.TicksEntry key)
  move_path h (Strays key free service a) = strayed_path (is_from_client a)
    where
      to_client : (o : Option ClientTransaction) → Path x Any n (strayed_to_client x n key a o)
      to_client None = Here
      to_client (Some t) = Then n (strayed_to_client x n key a (Some t)) Here
          (client_step key t (client.client_on_apdu (client_context x key (client_now n key)) x.readable t a))

      strayed_path : (up : Bool)
          → Path x Any n (if up then strayed_to_server x n key free service a else strayed_to_client x n key a (n.far.tickets key))
      strayed_path true = Then n (strayed_to_server x n key free service a) Here
          (server_step key (server.server_on_apdu (server_context x key (server_now n key)) service (n.far.entries key) (is_room n key free) a))
      strayed_path false = to_client (n.far.tickets key)
  move_path h (AsksAway key choice whole front rest) = asked_path (is_id_held_away n key)
    where
      asked_path : (b : Bool) → Path x Any n (if b then n else asked_away_at x n key (ask_of (client_now n key) choice whole front rest))
      asked_path true = Here
      asked_path false = Then n (asked_away_at x n key (ask_of (client_now n key) choice whole front rest)) Here
          (aside_step x Any n (asked_away_at x n key (ask_of (client_now n key) choice whole front rest))
          (asked_aside x n key (ask_of (client_now n key) choice whole front rest)))
  move_path h (TicksTicketAway key) = ticked (n.far.tickets key)
    where
      ticked : (o : Option ClientTransaction) → Path x Any n (ticket_ticked_away x n key o)
      ticked None = Here
      ticked (Some t) = Then n (ticket_ticked_away x n key (Some t)) Here (client_step key t (client.client_ticks (client_context x key (client_now n key)) t))
  move_path h (TicksEntryAway key) = Then n (moved x n (TicksEntryAway key)) Here
      (server_step key (server.server_ticks (server_context x key (server_now n key)) (n.far.entries key)))
  move_path h (Passes by clients servers) = Then n (moved x n (Passes by clients servers)) Here (Step.Passes by clients servers)
  move_path h (Changes node change) = Then n (moved x n (Changes node change)) Here (Step.Changes node change)
  move_path h (RestartsClient node exact) = Then n (moved x n (RestartsClient node exact)) Here (Step.RestartsClient node exact)
  move_path h (RestartsServer node exact store) = Then n (moved x n (RestartsServer node exact store)) Here (Step.RestartsServer node exact store)
  move_path h (Begins node exact) = begin_path x Any n h node exact (is_active n node) refl
  move_path h (BeginsAgain node exact) = begin_again_path x Any n h node exact (is_quiet n node) refl

reached_path : (x : Rules) (from n : Net) → Bounded from → IsReached x from n → Path x Any from n
reached_path x from _ h Still = Here
reached_path x from _ h (Moved n m reached) =
    let before = reached_path x from n h reached in
    path_then x Any from n (moved x n m) before (move_path x n (path_bounded x Any from n before h) m)

pub reached_bounded : (x : Rules) (pace : Pace) (clocks : ℕ → ℕ) (n : Net) → IsReached x (net_start pace clocks) n → Bounded n
reached_bounded x pace clocks n reached =
    path_bounded x Any (net_start pace clocks) n (reached_path x (net_start pace clocks) n (bounded_start pace clocks) reached) (bounded_start pace clocks)
