-- What the last segment of a request does to its receiver, and what comes of it.
use Rattle.std.proofs.Common.{◌≡◌, ℕ, Bool, true, false, not, nat_eq, if◌then◌else◌, Option, None, Result, Ok, Err, ap, [], ◌∷◌, ◌∙◌}
use Rattle.std.specs.Global.{Vec}
use Rattle.std.specs.Option.{option_map}
use Rattle.bac_apdu.specs.Apdu.{Limits, Segment}
use Rattle.bac_npdu.specs.Peers.{PeerView}
use Rattle.bac_segment.specs.Pieces.{join}
use Rattle.bac_segment.specs.Window.{Incoming, Taking, incoming, takes}
use Rattle.bac_segment.specs.Answers.{Takes, IsKept, answer_of}
use Rattle.bac_segment.specs.declared.incoming.Step.{Step}
use Rattle.bac_segment.specs.declared.incoming.Step.TheVariants as step
use Rattle.bac_store.specs.Stores.{Store}
use Rattle.bac_value.specs.declared.memory.NoMemory.{NoMemory}
use Rattle.bac_protocol.specs.Context.{Context}
use Rattle.bac_protocol.specs.Server.{Reaction, ServerTransaction, Service, State, begins, idle_on_segment, keeps_first, request_segment_taken, rests, server_ack}
use Rattle.bac_protocol.specs.Service.{Octets}
use Rattle.bac_transaction.specs.Services.{Performed, service_of, store_after}
use Rattle.bac_responder.specs.Preparing.{CanCommit, IsCommitted}
use Rattle.bac_responder.specs.Reactions.{IsReaction}
use Rattle.bac_responder.specs.Segments.{IsFirstKept, IsLast, Receives, TakesSegment}
use Rattle.bac_responder.specs.TransactionViews.{IsSendable, state_view}
use Rattle.bac_responder.specs.declared.performed.Performed as code
use Rattle.bac_responder.specs.declared.replying.PreparedReply.{PreparedReply}
use Rattle.bac_responder.specs.declared.server_transaction.Origin.{Origin}
use Rattle.bac_responder.specs.declared.server_transaction.Reassembly.{Reassembly}
use Rattle.bac_responder.specs.declared.server_transaction.State as code_state
use Rattle.bac_responder.proofs.Performances.{performed, prepared_commits, prepared_sendable}

pub record IsWholeTaking (t : Taking) (old new : Incoming) : Type 0 where
  pub taken : t ≡ Taking.Whole new.parts
  pub window : new.window ≡ old.window

pub takes_whole : (t : Taking) (old new : Incoming) (r : Step) → Ok step.Whole ≡ answer_of t → Takes t old (Ok r) new → IsWholeTaking t old new
takes_whole (Taking.Taken ack next) old new r e h = absurd (cc)
takes_whole (Taking.Whole parts) old new step.Whole e h = record { taken = h.0; window = ap (λ z. z.window) h.1 }
takes_whole (Taking.Whole parts) old new (step.Taken ack) e h = absurd (cc)
takes_whole (Taking.Whole parts) old new step.Nak e h = absurd (cc)
takes_whole (Taking.Nak next) old new r e h = absurd (cc)
takes_whole Taking.TooLong old new r e h = absurd (cc)

pub whole_kept : (t : Taking) → Ok step.Whole ≡ answer_of t → IsKept t
whole_kept (Taking.Taken ack next) e = absurd (cc)
whole_kept (Taking.Whole parts) e = tt
whole_kept (Taking.Nak next) e = absurd (cc)
whole_kept Taking.TooLong e = absurd (cc)

module _ (c : Context) (peer : PeerView) (s : Store) (number window : ℕ) (x : PreparedReply) where
  pub last_commits : (choice : ℕ) (limits : Limits) (t : Taking) → IsLast c peer choice limits s number window t x → CanCommit s x.commit
  last_commits choice limits (Taking.Taken ack next) last = absurd last
  last_commits choice limits (Taking.Whole parts) last = prepared_commits c peer choice limits s last.found (server_ack c false number window ∷ []) x last.prepared
  last_commits choice limits (Taking.Nak next) last = absurd last
  last_commits choice limits Taking.TooLong last = absurd last

  -- an entry that keeps that piece of its request, in the state that follows
  abbrev entry_with : ServerTransaction → Option Octets → ServerTransaction
  entry_with e first = record e { first = first; state = state_view e.choice x.state }

  pub last_performed : (e : ServerTransaction) (t : Taking) (first : Option (Vec ℕ)) → IsLast c peer e.choice e.limits s number window t x → IsFirstKept t first
      → (entry : ServerTransaction) (q : Option Performed) (after : Store) → entry ≡ entry_with e (option_map (λ v. v.items) first) → IsCommitted s x.commit q
      → after ≡ store_after s q → IsReaction (request_segment_taken c (service_of s) e number window t) peer s entry x.sends.items q after
  last_performed e (Taking.Taken ack next) first last kept entry q after is committed store = absurd last
  last_performed e (Taking.Whole parts) first last kept entry q after is committed store =
      performed c peer (keeps_first parts e) (server_ack c false number window ∷ []) (join parts) s last.found x entry q after last.read last.prepared
      (is ∙ ap (entry_with e) kept) committed store
  last_performed e (Taking.Nak next) first last kept entry q after is committed store = absurd last
  last_performed e Taking.TooLong first last kept entry q after is committed store = absurd last

  pub last_sendable : (choice : ℕ) (limits : Limits) (t : Taking) → IsLast c peer choice limits s number window t x → IsSendable choice x.state
  last_sendable choice limits (Taking.Taken ack next) last = absurd last
  last_sendable choice limits (Taking.Whole parts) last =
      prepared_sendable c peer choice limits s last.found (server_ack c false number window ∷ []) x last.prepared
  last_sendable choice limits (Taking.Nak next) last = absurd last
  last_sendable choice limits Taking.TooLong last = absurd last

pub takes_receives : (r : State → Reaction) (peer : PeerView) (o kept : Origin) (old new : Reassembly) (s : Store) (x : Result (code.Performed × Option code_state.State) NoMemory)
    (t : Store) → TakesSegment r peer o kept old new s x t → (z : State) → Receives (r z) peer o kept old new s x t
takes_receives r peer o kept old new s (Ok x) t h z = h z
takes_receives r peer o kept old new s (Err e) t h z = h

-- Segment 0 comes, and a slot is free.
pub first_taken : (c : Context) (service : Service) (dead : Option ServerTransaction) (choice : ℕ) (limits : Limits) (g : Segment) (octets : Octets)
    → g.number ≡ 0 → idle_on_segment c service dead true choice limits g octets
    ≡ request_segment_taken c service (begins c choice limits None) g.number (incoming c.settings.window g.window).window
    (takes (incoming c.settings.window g.window) g.number g.more octets)
first_taken c service dead choice limits g octets zero =
    let is : nat_eq g.number 0 ≡ true = ap (λ n. nat_eq n 0) zero in
    ap (λ (b : Bool). if not b then rests dead [] else request_segment_taken c service (begins c choice limits None) g.number
    (incoming c.settings.window g.window).window (takes (incoming c.settings.window g.window) g.number g.more octets)) is
