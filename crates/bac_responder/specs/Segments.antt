-- What the handling of segments answers.
use Rattle.std.specs.Prelude.{◌≡◌, ℕ, false, [], ◌∷◌, Bool, not, Option, Some, None, is_some, Result, Ok, Err}
use Rattle.std.specs.Global.{Vec}
use Rattle.std.specs.Option.{option_map}
use Rattle.bac_apdu.specs.Apdu.{Limits, Segment}
use Rattle.bac_npdu.specs.Peers.{PeerView}
use Rattle.bac_segment.specs.Pieces.{join}
use Rattle.bac_segment.specs.Window.{Taking}
use Rattle.bac_service.specs.Values.{Request}
use Rattle.bac_store.specs.Stores.{Store}
use Rattle.bac_value.specs.declared.memory.NoMemory.{NoMemory}
use Rattle.bac_protocol.specs.Context.{Context}
use Rattle.bac_protocol.specs.Service.{Octets}
use Rattle.bac_protocol.specs.Server as server
use Rattle.bac_protocol.specs.Server.{State, ServerTransaction, first_of, server_ack, is_kept}
use Rattle.bac_responder.specs.Reading.{IsRead}
use Rattle.bac_responder.specs.Reactions.{IsReaction}
use Rattle.bac_responder.specs.TransactionViews.{IsSendable, entry_of, entry_view, performed_view, reassembly_state}
use Rattle.bac_responder.specs.Preparing.{IsPrepared}
use Rattle.bac_responder.specs.declared.performed.Performed.{Performed}
use Rattle.bac_responder.specs.declared.replying.PreparedReply.{PreparedReply}
use Rattle.bac_responder.specs.declared.server_transaction.State as code
use Rattle.bac_responder.specs.declared.server_transaction.Origin.{Origin}
use Rattle.bac_responder.specs.declared.server_transaction.Reassembly.{Reassembly}

-- the entry receives on, or goes over to another state, which keeps only what can be sent
abbrev pub GoesOn : server.Reaction → PeerView → Origin → Reassembly → Store → Performed → Option code.State → Store → Type 0
GoesOn r peer origin new s x None t = IsReaction r peer s (entry_of origin (reassembly_state new)) x.sends.items (performed_view x.effect) t
GoesOn r peer origin new s x (Some z) t =
    IsSendable origin.terms.choice z × IsReaction r peer s (entry_view origin z) x.sends.items (performed_view x.effect) t

-- a reassembly, what is kept of the request beside it, and the store are as they were
abbrev pub IsUnchanged : (origin kept : Origin) → (old new : Reassembly) → (s t : Store) → Type 0
IsUnchanged origin kept old new s t = (kept ≡ origin) × (new.incoming ≡ old.incoming) × (new.since ≡ old.since) × (t ≡ s)

-- an APDU comes; what is then kept of the request beside its segments
abbrev pub Receives : server.Reaction → PeerView → (origin kept : Origin) → (old new : Reassembly) → Store → Result (Performed × Option code.State) NoMemory
    → Store → Type 0
Receives r peer origin kept old new s (Ok x) t = GoesOn r peer kept new s x.0 x.1 t
Receives r peer origin kept old new s (Err e) t = IsUnchanged origin kept old new s t

-- a segment comes, whatever state the entry had
abbrev pub TakesSegment : (State → server.Reaction) → PeerView → (origin kept : Origin) → (old new : Reassembly) → Store
    → Result (Performed × Option code.State) NoMemory → Store → Type 0
TakesSegment r peer origin kept old new s (Ok x) t = (z : State) → GoesOn (r z) peer kept new s x.0 x.1 t
TakesSegment r peer origin kept old new s (Err e) t = IsUnchanged origin kept old new s t

-- all of a performance but its commit, after the SegmentACK of the last segment
pub record IsWhole (c : Context) (peer : PeerView) (choice : ℕ) (limits : Limits) (s : Store) (number window : ℕ) (octets : Octets) (x : PreparedReply)
    : Type 0 where
  pub found : Result Request ℕ
  pub read : IsRead choice octets found
  pub prepared : IsPrepared c peer choice limits s found (server_ack c false number window ∷ []) x

-- the same of the last segment
abbrev pub IsLast : Context → PeerView → (choice : ℕ) → Limits → Store → (number window : ℕ) → Taking → PreparedReply → Type 0
IsLast c peer choice limits s number window (Taking.Taken ack inc) x = ⊥
IsLast c peer choice limits s number window (Taking.Whole parts) x = IsWhole c peer choice limits s number window (join parts) x
IsLast c peer choice limits s number window (Taking.Nak inc) x = ⊥
IsLast c peer choice limits s number window Taking.TooLong x = ⊥

-- the first piece is kept, as the entry keeps it
abbrev pub IsFirstKept : Taking → Option (Vec ℕ) → Type 0
IsFirstKept (Taking.Taken ack inc) first = ⊥
IsFirstKept (Taking.Whole parts) first = option_map (λ v. v.items) first ≡ first_of parts
IsFirstKept (Taking.Nak inc) first = ⊥
IsFirstKept Taking.TooLong first = ⊥

abbrev pub TakesLast : Context → PeerView → (choice : ℕ) → Limits → Store → (number : ℕ) → Taking → (old new : Reassembly)
    → Result (PreparedReply × Option (Vec ℕ)) NoMemory → Type 0
TakesLast c peer choice limits s number taking old new (Ok x) =
    IsLast c peer choice limits s number old.incoming.window taking x.0 × IsFirstKept taking x.1
TakesLast c peer choice limits s number taking old new (Err e) = (new.incoming ≡ old.incoming) × (new.since ≡ old.since)

-- whether a request is that of an entry: a copy of the kept one, or a segment where the entry began with one
abbrev pub is_repeated : ServerTransaction → Option Segment → (choice : ℕ) → Octets → Bool
is_repeated e None choice octets = is_kept e e.request choice octets
is_repeated e (Some segment) choice octets = not (is_some e.request)
