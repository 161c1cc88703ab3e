-- What holds of entries after any moves of a net in which invoke IDs are used again: each is of a ticket, and its transaction's own.
use Rattle.std.proofs.Common.{◌≡◌, ℕ, ◌⊎◌, Bool, true, false, ◌∷◌, Option, Some, None, slice_get, if◌then◌else◌, nat_eq, refl, ap, sym, subst}
use Rattle.std.proofs.Common.{inl, inr, ◌∙◌}
use Rattle.bac_apdu.specs.Apdu.{Apdu}
use Rattle.bac_protocol.specs.Wire.{is_from_client}
use Rattle.bac_protocol.specs.Client.{Ask, ClientTransaction}
use Rattle.bac_protocol.specs.Server as server
use Rattle.bac_protocol.specs.Server.{ServerTransaction, Service}
use Rattle.bac_protocol.specs.Own.{IsOwnEntry}
use Rattle.bac_protocol.specs.Reuse.{server_hears}
use Rattle.bac_protocol.specs.Transaction.{Key, Rules, server_context}
use Rattle.bac_protocol.specs.World.{Net, Post, asked_at, asked_away_at, client_now, is_deliverable, is_id_held, is_id_held_away, is_room, lost, server_acts}
use Rattle.bac_protocol.specs.World.{server_now, set_at}
use Rattle.bac_protocol.specs.Moves.{Move, strayed_to_client, taken_by_client, ticket_ticked, ticket_ticked_away}
use Rattle.bac_protocol.specs.Moves.Move.{Asks, Arrives, TicksTicket, TicksEntry, Passes, Changes, RestartsClient, RestartsServer, Begins, BeginsAgain}
use Rattle.bac_protocol.specs.World.{begun, begun_again, is_active, is_quiet}
use Rattle.bac_protocol.specs.Moves.Move.{Strays, AsksAway, TicksTicketAway, TicksEntryAway}
use Rattle.bac_protocol.proofs.Keys.{decide_key, set_other, set_same}
use Rattle.bac_protocol.proofs.Own.{server_sends_own}
use Rattle.bac_reuse.specs.Moves.{arrived_so, moved_so, strayed_to_server_so, taken_by_server_so}
use Rattle.bac_reuse.specs.Runs.{Reusing}
use Rattle.bac_reuse.proofs.Beside.{set_keeps}
use Rattle.bac_reuse.proofs.FreshReads.{hears_own}

pub record AreKept (n : Net) : Type 0 where
  pub own : (key : Key) → IsOwnEntry key.invoke_id (n.entries key)
  pub entered : (key : Key) → n.tickets key ≡ None → n.entries key ≡ None

-- where a copy is, there is a ticket
abbrev pub ArePosted : Net → Type 0
ArePosted n = (number : ℕ) (p : Post) → slice_get n.posts number ≡ Some p → n.tickets p.key ≡ None → ⊥

-- a ticket more
ticket_set : (n : Net) → AreKept n → (key : Key) (t : ClientTransaction) (k : Key) → set_at n.tickets key (Some t) k ≡ None → n.entries k ≡ None
ticket_set n h key t k = go (decide_key key k)
  where
    go : ((key ≡ k) ⊎ (key ≡ k → ⊥)) → set_at n.tickets key (Some t) k ≡ None → n.entries k ≡ None
    go (inl is) none =
        let there : Some t ≡ None = sym (set_same n.tickets key (Some t)) ∙ subst (λ (j : Key). set_at n.tickets key (Some t) j ≡ None) (sym is) none in
        absurd cc
    go (inr ne) none = h.entered k (sym (set_other n.tickets key (Some t) k ne) ∙ none)

-- another entry
entry_set : (n : Net) → AreKept n → (key : Key) (v : server.Reaction) → IsOwnEntry key.invoke_id v.entry → (n.tickets key ≡ None → v.entry ≡ None)
    → AreKept (server_acts n key v)
entry_set n h key v own entered = record {
  own = λ k. set_keeps n.entries key v.entry (λ j o. IsOwnEntry j.invoke_id o) k (h.own k) (λ old. own);
  entered = λ k. set_keeps n.entries key v.entry (λ j o. n.tickets j ≡ None → o ≡ None) k (h.entered k) (λ old. entered);
}

not_lost : (o : Option ClientTransaction) → lost o ≡ None → o ≡ None
not_lost None is = refl
not_lost (Some t) is = absurd cc

module _ (x : Rules) (u : Reusing) (n : Net) (h : AreKept n) where
  client_kept : (p : Post) (o : Option ClientTransaction) → AreKept (taken_by_client x n p o)
  client_kept p None = h
  client_kept p (Some t) = record { own = h.own; entered = ticket_set n h p.key _ }

  server_kept : (number : ℕ) (p : Post) → slice_get n.posts number ≡ Some p → ArePosted n → (free : Bool) (service : Service)
      → AreKept (taken_by_server_so x u n p free service)
  server_kept number p at posted free service =
      let c = server_context x p.key (server_now n p.key) in
      entry_set n h p.key (server_hears (u.reuses p.key.server) c service u.reads (n.entries p.key) (is_room n p.key free) p.copy.apdu)
      (hears_own c service (u.reuses p.key.server) u.reads (n.entries p.key) (h.own p.key) (is_room n p.key free) p.copy.apdu)
      (λ none. absurd (posted number p at none))

  arrives_kept : ArePosted n → (number : ℕ) (free : Bool) (service : Service) (o : Option Post) → slice_get n.posts number ≡ o
      → AreKept (arrived_so x u n number free service o)
  arrives_kept posted number free service None at = h
  arrives_kept posted number free service (Some p) at = go (is_deliverable x n number p) (is_from_client p.copy.apdu)
    where
      go : (b up : Bool) → AreKept (if b then (if up then taken_by_server_so x u n p free service else taken_by_client x n p (n.tickets p.key)) else n)
      go true true = server_kept number p at posted free service
      go true false = client_kept p (n.tickets p.key)
      go false up = h

  ticket_kept : (key : Key) (o : Option ClientTransaction) → AreKept (ticket_ticked x n key o)
  ticket_kept key None = h
  ticket_kept key (Some t) = record { own = h.own; entered = ticket_set n h key _ }

  ask_kept : (key : Key) (ask : Ask) (b : Bool) → AreKept (if b then n else asked_at x n key ask)
  ask_kept key ask true = h
  ask_kept key ask false = record { own = h.own; entered = ticket_set n h key _ }

  entry_kept : (key : Key) → AreKept (server_acts n key (server.server_ticks (server_context x key (server_now n key)) (n.entries key)))
  entry_kept key =
      let c = server_context x key (server_now n key) in
      entry_set n h key (server.server_ticks c (n.entries key)) (server_sends_own.ticks c (n.entries key) (h.own key)).1
      (λ none. subst (λ (o : Option ServerTransaction). (server.server_ticks c o).entry ≡ None) (sym (h.entered key none)) refl)

  -- strangers
  far : (m : Net) → m.entries ≡ n.entries → m.tickets ≡ n.tickets → AreKept m
  far m entries tickets = record {
    own = λ k. subst (λ (f : Key → Option ServerTransaction). IsOwnEntry k.invoke_id (f k)) (sym entries) (h.own k);
    entered = λ k none. ap (λ (f : Key → Option ServerTransaction). f k) entries
        ∙ h.entered k (sym (ap (λ (f : Key → Option ClientTransaction). f k) tickets) ∙ none);
  }

  stray_kept : (key : Key) (a : Apdu) (o : Option ClientTransaction) → AreKept (strayed_to_client x n key a o)
  stray_kept key a None = h
  stray_kept key a (Some t) = far (strayed_to_client x n key a (Some t)) refl refl

  ticket_away_kept : (key : Key) (o : Option ClientTransaction) → AreKept (ticket_ticked_away x n key o)
  ticket_away_kept key None = h
  ticket_away_kept key (Some t) = far (ticket_ticked_away x n key (Some t)) refl refl

  strays_kept : (key : Key) (free : Bool) (service : Service) (a : Apdu) (up : Bool)
      → AreKept (if up then strayed_to_server_so x u n key free service a else strayed_to_client x n key a (n.far.tickets key))
  strays_kept key free service a true = far (strayed_to_server_so x u n key free service a) refl refl
  strays_kept key free service a false = stray_kept key a (n.far.tickets key)

  ask_away_kept : (key : Key) (ask : Ask) (b : Bool) → AreKept (if b then n else asked_away_at x n key ask)
  ask_away_kept key ask true = h
  ask_away_kept key ask false = far (asked_away_at x n key ask) refl refl

  pub move_keeps : ArePosted n → (m : Move) → AreKept (moved_so x u n m)
  move_keeps posted (Asks key choice whole front rest) =
      ask_kept key (record { first = client_now n key; choice = choice; whole = whole; pieces = front ∷ rest }) (is_id_held n key)
  move_keeps posted (Arrives number free service) = arrives_kept posted number free service (slice_get n.posts number) refl
  move_keeps posted (TicksTicket key) = ticket_kept key (n.tickets key)
  move_keeps posted (TicksEntry key) = entry_kept key
  move_keeps posted (Passes by clients servers) = record { own = h.own; entered = h.entered }
  move_keeps posted (Changes node change) = record { own = h.own; entered = h.entered }
  move_keeps posted (RestartsClient node exact) = record { own = h.own; entered = λ k. entered k (nat_eq k.client node) }
    where
      entered : (k : Key) (b : Bool) → (if b then lost (n.tickets k) else n.tickets k) ≡ None → n.entries k ≡ None
      entered k true is = h.entered k (not_lost (n.tickets k) is)
      entered k false is = h.entered k is
  move_keeps posted (RestartsServer node exact store) = record { own = λ k. own k (nat_eq k.server node); entered = λ k. entered k (nat_eq k.server node) }
    where
      own : (k : Key) (b : Bool) → IsOwnEntry k.invoke_id (if b then None else n.entries k)
      own k true = tt
      own k false = h.own k

      entered : (k : Key) (b : Bool) → n.tickets k ≡ None → (if b then None else n.entries k) ≡ None
      entered k true is = refl
      entered k false is = h.entered k is
  move_keeps posted (Begins node exact) = begins (is_active n node)
    where
      begins : (b : Bool) → AreKept (if b then n else begun n node exact)
      begins true = record { own = h.own; entered = h.entered }
      begins false = record { own = h.own; entered = h.entered }
  move_keeps posted (BeginsAgain node exact) = begins (is_quiet n node)
    where
      entered : (k : Key) (b : Bool) → (if b then lost (n.tickets k) else n.tickets k) ≡ None → n.entries k ≡ None
      entered k true is = h.entered k (not_lost (n.tickets k) is)
      entered k false is = h.entered k is

      begins : (b : Bool) → AreKept (if b then begun_again n node exact else n)
      begins true = record { own = h.own; entered = λ k. entered k (nat_eq k.client node) }
      begins false = record { own = h.own; entered = h.entered }
  move_keeps posted (Strays key free service a) = strays_kept key free service a (is_from_client a)
  move_keeps posted (AsksAway key choice whole front rest) =
      ask_away_kept key (record { first = client_now n key; choice = choice; whole = whole; pieces = front ∷ rest }) (is_id_held_away n key)
  move_keeps posted (TicksTicketAway key) = ticket_away_kept key (n.far.tickets key)
  move_keeps posted (TicksEntryAway key) = record { own = h.own; entered = h.entered }
