-- What the calls of the client's end return.
use Rattle.std.specs.Prelude.{◌≡◌, ℕ, List, [], ◌∷◌, map, Option, Some, None, Result, Ok, Err}
use Rattle.bac_apdu.specs.Apdu.{Apdu}
use Rattle.bac_service.specs.Services.{reads_reply}
use Rattle.bac_slots.specs.Slots.{value_at}
use Rattle.bac_value.specs.declared.memory.NoMemory.{NoMemory}
use Rattle.bac_protocol.specs.Context.{Settings}
use Rattle.bac_protocol.specs.Client.{ClientTransaction, Reaction, client_on_apdu, ending_of, sends_of}
use Rattle.bac_transaction.specs.Ends.{Client, ClientEnd, ClientSlot, ClientTurn, TransactionSlot, client_after, client_tick_sends, client_tick_ends, ended_with}
use Rattle.bac_transaction.specs.Ends.{requester_on_apdu_at}
use Rattle.bac_transaction.specs.Keys as keys
use Rattle.bac_transaction.specs.Keys.{same_key}
use Rattle.bac_transaction.specs.Meanings as meanings
use Rattle.bac_transaction.specs.Meanings.{EndedView, IsEndedView}
use Rattle.bac_transaction.specs.Sends.{Datagram, IsSent, Pairwise, to_all}
use Rattle.bac_transaction.specs.Views.{context_view, peer_of}
use Rattle.bac_transaction.specs.declared.context.Context.{Context}
use Rattle.bac_requester.specs.Views.{ended_view}
use Rattle.bac_requester.specs.declared.reaction.Reaction as code
use Rattle.bac_requester.specs.declared.asking.Asked.{Asked}
use Rattle.bac_requester.specs.declared.ask_fault.AskFault.{AskFault}
use Rattle.bac_requester.specs.declared.ask_fault.AskFault.TheVariants as fault
use Rattle.bac_protocol.specs.Sizes.{RequestFault}
use Rattle.bac_transaction.specs.Ends.{Accepted, AskOutcome, AskRefusal, CannotGo}

-- ---- an APDU, a tick

-- the datagrams and the endings are those of this turn of the end
pub record IsReaction (turn : ClientTurn) (x : code.Reaction) : Type 0 where
  pub sends : Pairwise IsSent turn.sends x.sends.items
  pub ended : Pairwise IsEndedView turn.ended (map ended_view x.ended.items)

-- the turn was taken
pub record IsDone (turn : ClientTurn) (new : ClientEnd) (x : code.Reaction) : Type 0 where
  pub end : new ≡ turn.end
  pub reaction : IsReaction turn x

-- or allocation failed, and nothing has changed
abbrev pub OnApdu : ClientTurn → (old : ClientEnd) → Result code.Reaction NoMemory → (new : ClientEnd) → Type 0
OnApdu turn old (Ok x) new = IsDone turn new x
OnApdu turn old (Err e) new = new ≡ old

-- a transaction that has ended, of which only the first sending is kept
abbrev pub IsClosed : TransactionSlot → Type 0
IsClosed (TransactionSlot.Open t) = ⊥
IsClosed (TransactionSlot.Closed first) = Unit {0}

-- no transaction is open there: there was none, or it has ended
abbrev pub IsNoneOpen : Option Client → Type 0
IsNoneOpen None = Unit {0}
IsNoneOpen (Some v) = IsClosed v.held

-- no transaction of the end is open for that key
abbrev pub HasNoneOpen : ClientEnd → keys.PeerKey → Type 0
HasNoneOpen e key = IsNoneOpen (value_at same_key key e.slots)

-- ---- an ask

-- an ask was accepted
pub record IsAccepted (a : Accepted) (new : ClientEnd) (x : Asked) : Type 0 where
  pub end : new ≡ a.end
  pub ticket : x.ticket ≡ a.ticket
  pub invoke_id : x.invoke_id ≡ a.invoke_id
  pub sends : Pairwise IsSent a.sends x.sends.items

abbrev pub Accepts : AskOutcome → (new : ClientEnd) → Asked → Type 0
Accepts (AskOutcome.Refused why) new x = ⊥
Accepts (AskOutcome.Asked a) new x = IsAccepted a new x

-- an ask with that outcome would be accepted
abbrev pub MayBegin : AskOutcome → Type 0
MayBegin (AskOutcome.Asked a) = Unit {0}
MayBegin (AskOutcome.Refused why) = ⊥

-- the fault says why an ask with that outcome is refused; only one that would be accepted otherwise fails to allocate
abbrev pub Refuses : AskFault → AskOutcome → Type 0
Refuses fault.ClockBack outcome = ⊥
Refuses fault.SelfPeer outcome = ⊥
Refuses fault.TooLong outcome = outcome ≡ AskOutcome.Refused (CannotGo RequestFault.TooLong)
Refuses fault.NeedsSegments outcome = outcome ≡ AskOutcome.Refused (CannotGo RequestFault.NeedsSegments)
Refuses fault.NoInvokeId outcome = outcome ≡ AskOutcome.Refused AskRefusal.NoInvokeId
Refuses fault.NoSlot outcome = outcome ≡ AskOutcome.Refused AskRefusal.NoSlot
Refuses fault.NoMemory outcome = MayBegin outcome

-- what an ask of another link returns; after a fault nothing has changed
abbrev pub Asks : AskOutcome → (old : ClientEnd) → Result Asked AskFault → (new : ClientEnd) → Type 0
Asks outcome old (Ok x) new = Accepts outcome new x
Asks outcome old (Err e) new = Refuses e outcome × (new ≡ old)

-- ---- one slot

-- a transaction with that ticket ends so, if it does
abbrev pub endings_with : (ticket : ℕ) → Option meanings.Ending → List EndedView
endings_with ticket None = []
endings_with ticket (Some how) = record { ticket = ticket; how = how } ∷ []

-- an open transaction made the machine's reaction
pub record IsReactionInSlot (c : Context) (number : ℕ) (t : ClientTransaction) (r : Reaction) (x : code.Reaction) (new : Client) : Type 0 where
  pub value : new ≡ client_after c.moment number t r
  pub sends : Pairwise IsSent (to_all (peer_of c) (sends_of r)) x.sends.items
  pub ended : Pairwise IsEndedView (ended_with number t.ask.choice (ending_of r)) (map ended_view x.ended.items)

-- one that has ended ignores what comes
pub record IsIgnored (old : Client) (x : code.Reaction) (new : Client) : Type 0 where
  pub value : new ≡ old
  pub sends : x.sends.items ≡ []
  pub ended : x.ended.items ≡ []

-- an APDU came for a slot with that ticket, and that is kept of its transaction
abbrev pub ReactsInSlot : Context → Apdu → (number : ℕ) → TransactionSlot → code.Reaction → (new : Client) → Type 0
ReactsInSlot c a number (TransactionSlot.Open t) x new = IsReactionInSlot c number t (client_on_apdu (context_view c) reads_reply t a) x new
ReactsInSlot c a number (TransactionSlot.Closed first) x new = IsIgnored (record { number = number; held = TransactionSlot.Closed first }) x new

-- or allocation failed, and the slot is as before
abbrev pub OnApduInSlot : Context → Apdu → (old : Client) → Result code.Reaction NoMemory → (new : Client) → Type 0
OnApduInSlot c a old (Ok x) new = ReactsInSlot c a old.number old.held x new
OnApduInSlot c a old (Err e) new = new ≡ old

-- what a tick of one slot sends and ends
pub record IsTickOfSlot (c : Settings) (now : ℕ) (s : ClientSlot) (sent : List Datagram) (endings : List EndedView) : Type 0 where
  pub sends : Pairwise IsSent (client_tick_sends c now s) sent
  pub ended : Pairwise IsEndedView (client_tick_ends c now s) endings

-- an APDU comes for a key
abbrev pub turn_at_key : Settings → (now : ℕ) → keys.PeerKey → Apdu → ClientEnd → ClientTurn
turn_at_key c now key a e = requester_on_apdu_at c reads_reply now a e key (value_at same_key key e.slots)
