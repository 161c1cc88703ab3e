-- What one event makes one transaction send, and how it ends it.
use Rattle.std.specs.Prelude.{◌≡◌, ℕ, true, false, List, [], Option, Some, None, Result, Ok, Err}
use Rattle.std.specs.Option.{option_map}
use Rattle.bac_value.specs.declared.memory.NoMemory.{NoMemory}
use Rattle.bac_service.specs.Replies.{SpellsComplex}
use Rattle.bac_service.specs.Services.{reads_reply}
use Rattle.bac_service.specs.Values.{Complex}
use Rattle.bac_segment.specs.Window.{Incoming}
use Rattle.bac_protocol.specs.Service.{Octets, Ending}
use Rattle.bac_protocol.specs.Client.{Ask, ClientTransaction, Phase, Reaction, after, sends_of, ending_of, asked_ticket, asks}
use Rattle.bac_transaction.specs.Ends.{TransactionSlot, kept}
use Rattle.bac_transaction.specs.Meanings as meanings
use Rattle.bac_transaction.specs.Meanings.{MeansEnding}
use Rattle.bac_transaction.specs.Sends.{Datagram, Pairwise, IsSent, to_all}
use Rattle.bac_transaction.specs.Views.{context_view, peer_of}
use Rattle.bac_requester.specs.TransactionViews.{ending_view, ticket_view}
use Rattle.bac_transaction.specs.declared.context.Context.{Context}
use Rattle.bac_requester.specs.declared.transaction.RequestState.{RequestState}
use Rattle.bac_requester.specs.declared.transaction.Phase as states
use Rattle.bac_requester.specs.declared.transaction.Phase.TheVariants as state
use Rattle.bac_requester.specs.declared.ending.Ending as endings
use Rattle.bac_requester.specs.declared.transition.Transition.{Transition}
use Rattle.bac_requester.specs.declared.transition.Closing.{Closing}

-- the segments of a reply that a transaction keeps
abbrev pub parts_taken : Phase → List Octets
parts_taken (Phase.SegmentedRequest sender all_sent) = []
parts_taken Phase.AwaitConfirmation = []
parts_taken (Phase.SegmentedConf incoming) = incoming.parts
parts_taken Phase.Idle = []

-- how a transaction ends, if it does
abbrev pub MeansEnd : (choice : ℕ) → Option Ending → Option meanings.Ending → Type 0
MeansEnd choice None None = Unit {0}
MeansEnd choice None (Some f) = ⊥
MeansEnd choice (Some e) None = ⊥
MeansEnd choice (Some e) (Some f) = MeansEnding choice e f

-- a request was sent for the first time: the transaction after that, and what it sent
pub record IsBegun (c : Context) (ask : Ask) (new : ClientTransaction) (sent : List Datagram) : Type 0 where
  pub ticket : new ≡ asked_ticket (context_view c) ask
  pub sends : Pairwise IsSent (to_all (peer_of c) (sends_of (asks (context_view c) ask))) sent

-- the sends and the ending of the machine's reaction
pub record IsTransition (c : Context) (t : ClientTransaction) (r : Reaction) (x : Transition) : Type 0 where
  pub sends : Pairwise IsSent (to_all (peer_of c) (sends_of r)) x.sends.items
  pub ending : MeansEnd t.ask.choice (ending_of r) (option_map ending_view x.ending)

-- what is kept of a transaction that ends so, if it does
abbrev pub kept_with : Option endings.Ending → ClientTransaction → TransactionSlot
kept_with None t = TransactionSlot.Open t
kept_with (Some how) t = TransactionSlot.Closed t.ask.first

-- an open transaction made the machine's transition; of one that has ended only the first sending counts
pub record MakesTransition (c : Context) (old : ClientTransaction) (r : Reaction) (x : Transition) (new : ClientTransaction) : Type 0 where
  pub held : kept_with x.ending new ≡ kept (after c.moment old r)
  pub sends : Pairwise IsSent (to_all (peer_of c) (sends_of r)) x.sends.items
  pub ending : MeansEnd old.ask.choice (ending_of r) (option_map ending_view x.ending)

-- or allocation failed, and the transaction is as before
abbrev pub TriesTransition : Context → (old : ClientTransaction) → Reaction → Result Transition NoMemory → (new : ClientTransaction) → Type 0
TriesTransition c old r (Ok x) new = MakesTransition c old r x new
TriesTransition c old r (Err e) new = new ≡ old

-- the transaction ends so
pub record IsClosing (c : Context) (choice : ℕ) (r : Reaction) (x : Closing) : Type 0 where
  pub held : (t : ClientTransaction) → kept (after c.moment t r) ≡ TransactionSlot.Closed t.ask.first
  pub sends : Pairwise IsSent (to_all (peer_of c) (sends_of r)) x.sends.items
  pub ending : MeansEnd choice (ending_of r) (Some (ending_view x.ending))

-- what the service data of a ComplexACK mean
abbrev pub IsRead : (choice : ℕ) → Octets → Option Complex → Type 0
IsRead choice octets (Some x) = SpellsComplex choice x octets × (reads_reply choice octets ≡ true)
IsRead choice octets None = reads_reply choice octets ≡ false

-- a segment came for a transaction, whatever state it was in, which reassembles from then on; or allocation failed, and the reassembly is as before
abbrev pub TakesSegment : Context → Reaction → RequestState → (old : Incoming) → Result Transition NoMemory → (new : Incoming) → Type 0
TakesSegment c r core old (Ok x) new =
    (p : states.Phase) → MakesTransition c (ticket_view core p) r x (ticket_view (record core { since = c.moment }) (state.SegmentedConf new))
TakesSegment c r core old (Err e) new = new ≡ old
