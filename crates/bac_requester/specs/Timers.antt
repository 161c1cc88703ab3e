-- The moment before which a tick finds nothing to do for a ticket.
use Rattle.std.specs.Prelude.{◌≡◌, ℕ, ◌+◌, ◌≤◌, false, min}
use Rattle.bac_protocol.specs.declared.times.TheConstants.{T_OUT, T_SEG, T_WAIT_FOR_SEG, DEADLINE}
use Rattle.bac_protocol.specs.Client.{ClientTransaction, Phase, is_idle}
use Rattle.bac_transaction.specs.Ends.{TransactionSlot}

-- the timer of a state (clause 5.4.4); IDLE has none
abbrev pub wait_of : Phase → ℕ
wait_of (Phase.SegmentedRequest out all_sent) = T_SEG
wait_of Phase.AwaitConfirmation = T_OUT
wait_of (Phase.SegmentedConf inc) = T_WAIT_FOR_SEG
wait_of Phase.Idle = T_OUT

-- the last moment that a clock of 64 bits can tell
abbrev pub LAST_MOMENT : ℕ
LAST_MOMENT = 18446744073709551615

-- the first moment at which a ticket is expired or its timer is due, or the last one of all
abbrev pub due_of : ClientTransaction → ℕ
due_of t = min (min (t.ask.first + DEADLINE + 1) (t.since + wait_of t.phase)) LAST_MOMENT

-- the same for what is kept of a ticket; one that has ended is never due
abbrev pub held_due : TransactionSlot → ℕ
held_due (TransactionSlot.Open t) = due_of t
held_due (TransactionSlot.Closed first) = LAST_MOMENT

-- the ticket is open, and a tick before that moment finds nothing to do
pub record IsQuiet (due : ℕ) (t : ClientTransaction) : Type 0 where
  pub unended : is_idle t.phase ≡ false
  pub deadline : due ≤ t.ask.first + DEADLINE + 1
  pub timer : due ≤ t.since + wait_of t.phase

-- the same of what is kept of a ticket; one that has ended does nothing at all
abbrev pub IsHeldQuiet : (due : ℕ) → TransactionSlot → Type 0
IsHeldQuiet due (TransactionSlot.Open t) = IsQuiet due t
IsHeldQuiet due (TransactionSlot.Closed first) = Unit {0}
