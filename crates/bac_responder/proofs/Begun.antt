-- An entry that begins, begins now.
use Rattle.std.proofs.Common.{◌≡◌, ℕ, Bool, true, false, not, List, Option, Some, None, Result, Ok, Err, nat_eq, if◌then◌else◌, refl, subst, [], ◌∷◌}
use Rattle.bac_apdu.specs.Apdu.{Apdu, Limits, Segment}
use Rattle.bac_apdu.specs.Apdu.Apdu.{ConfirmedRequest}
use Rattle.bac_segment.specs.Pieces.{join}
use Rattle.bac_segment.specs.Window.{Taking, incoming, takes}
use Rattle.bac_protocol.specs.Context.{Context}
use Rattle.bac_protocol.specs.Sizes.{Way, reply_way_of}
use Rattle.bac_protocol.specs.Sizes.Way.{InOne, InSegments, Refused}
use Rattle.bac_protocol.specs.Service.{Octets, Reply, Outcome, OTHER}
use Rattle.bac_protocol.specs.Service.Outcome.{Replies, Rejects}
use Rattle.bac_protocol.specs.Server as server
use Rattle.bac_protocol.specs.Server.{ServerTransaction, Service}
use Rattle.bac_npdu.specs.Peers.{PeerView}
use Rattle.bac_store.specs.Stores.{Store}
use Rattle.bac_value.specs.declared.memory.NoMemory.{NoMemory}
use Rattle.bac_responder.specs.Reactions.{IdleReacts, BeginsAt, BeginsWith, IsBegunAt}
use Rattle.bac_responder.specs.declared.performed.Performed.{Performed}

abbrev HasBegun : ℕ → Option ServerTransaction → Type 0
HasBegun now None = Unit {0}
HasBegun now (Some d) = d.begin ≡ now

module _ (c : Context) (service : Service) where
  sends_begun : (e : ServerTransaction) → e.begin ≡ c.now → (before : List Apdu) (octets : Octets) (reply : Reply) (way : Way ℕ)
      → HasBegun c.now (server.sends_reply c e before octets reply way).entry
  sends_begun e h before octets reply InOne = h
  sends_begun e h before octets reply (InSegments pieces) = h
  sends_begun e h before octets reply (Refused reason) = h

  so_begun : (e : ServerTransaction) → e.begin ≡ c.now → (before : List Apdu) (octets : Octets) (o : Outcome)
      → HasBegun c.now (server.performs_so c e before octets o).entry
  so_begun e h before octets (Replies reply) = sends_begun e h before octets reply (reply_way_of c.settings e.limits reply)
  so_begun e h before octets (Rejects reason) = h

  taken_begun : (e : ServerTransaction) → e.begin ≡ c.now → (number window : ℕ) (t : Taking)
      → HasBegun c.now (server.request_segment_taken c service e number window t).entry
  taken_begun e h number window (Taking.Taken true inc) = h
  taken_begun e h number window (Taking.Taken false inc) = h
  taken_begun e h number window (Taking.Whole parts) =
      so_begun (server.keeps_first parts e) h (server.server_ack c false number window ∷ []) (join parts) (service e.choice (join parts))
  taken_begun e h number window (Taking.Nak inc) = h
  taken_begun e h number window Taking.TooLong = h

  request_begun : (free : Bool) (choice : ℕ) (limits : Limits) (octets : Octets)
      → HasBegun c.now (server.idle_on_request c service None free choice limits octets).entry
  request_begun true choice limits octets = so_begun (server.begins c choice limits (Some octets)) refl [] octets (service choice octets)
  request_begun false choice limits octets = tt

  segment_begun : (free : Bool) (choice : ℕ) (limits : Limits) (g : Segment) (octets : Octets)
      → HasBegun c.now (server.idle_on_segment c service None free choice limits g octets).entry
  segment_begun free choice limits g octets = go (nat_eq g.number 0) free
    where
      go : (b d : Bool) → HasBegun c.now (if not b then server.rests None [] else if d then server.request_segment_taken c service
          (server.begins c choice limits None) g.number (incoming c.settings.window g.window).window
          (takes (incoming c.settings.window g.window) g.number g.more octets)
          else server.rests None (server.server_abort c OTHER ∷ [])).entry
      go true true = taken_begun (server.begins c choice limits None) refl g.number (incoming c.settings.window g.window).window
          (takes (incoming c.settings.window g.window) g.number g.more octets)
      go true false = tt
      go false d = tt

  idle_begun : (free : Bool) (a : Apdu) → HasBegun c.now (server.idle_on_apdu c service None free a).entry
  idle_begun free (ConfirmedRequest limits i None choice octets) = request_begun free choice limits octets
  idle_begun free (ConfirmedRequest limits i (Some g) choice octets) = segment_begun free choice limits g octets
  idle_begun free _ = tt

  begins_now : (free : Bool) (a : Apdu) (d : ServerTransaction) → (server.idle_on_apdu c service None free a).entry ≡ Some d → d.begin ≡ c.now
  begins_now free a d is = subst (λ (o : Option ServerTransaction). HasBegun c.now o) is (idle_begun free a)

  pub idle_begins_now : (peer : PeerView) (s t : Store) (free : Bool) (a : Apdu) (r : Result (Performed × Option ServerTransaction) NoMemory)
      → IdleReacts (λ dead. server.idle_on_apdu c service dead free a) peer s r t → BeginsAt c.now r
  idle_begins_now peer s t free a (Ok x) does = go x.0 x.1 does
    where
      go : (p : Performed) (o : Option ServerTransaction) → BeginsWith (λ dead. server.idle_on_apdu c service dead free a) peer s p o t → IsBegunAt c.now o
      go p None does = tt
      go p (Some e) does = begins_now free a e (does None).entry_is
  idle_begins_now peer s t free a (Err e) does = tt
