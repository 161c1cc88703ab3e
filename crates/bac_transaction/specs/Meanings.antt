-- What the octets of service data mean, and how a ticket ends as a value.
use Rattle.std.specs.Prelude.{◌≡◌, ℕ}
use Rattle.bac_service.specs.Replies as plain
use Rattle.bac_service.specs.Replies.{SpellsComplex}
use Rattle.bac_protocol.specs.Service as machine
use Rattle.bac_transaction.specs.Ends.{Ended}

-- a reply in octets, of a request of that choice, is this reply as a value
abbrev pub MeansReply : (choice : ℕ) → machine.Reply → plain.Reply → Type 0
MeansReply choice machine.Reply.Simple plain.Reply.Simple = Unit {0}
MeansReply choice (machine.Reply.Complex octets) (plain.Reply.Complex c) = SpellsComplex choice c octets
MeansReply choice (machine.Reply.Error class code) (plain.Reply.Error a b) = (a ≡ class) × (b ≡ code)
MeansReply choice _ _ = ⊥

-- how a ticket ends, as a value
pub data Ending : Type 0 where
  Answered : (reply : plain.Reply) → Ending
  Rejected : (reason : ℕ) → Ending
  Aborted : (reason : ℕ) → Ending
  TimedOut : Ending
  Expired : Ending

-- the ending of a ticket whose request has that choice is this one
abbrev pub MeansEnding : (choice : ℕ) → machine.Ending → Ending → Type 0
MeansEnding choice (machine.Ending.Answered r) (Answered p) = MeansReply choice r p
MeansEnding choice (machine.Ending.Rejected reason) (Rejected a) = a ≡ reason
MeansEnding choice (machine.Ending.Aborted reason) (Aborted a) = a ≡ reason
MeansEnding choice machine.Ending.TimedOut TimedOut = Unit {0}
MeansEnding choice machine.Ending.Expired Expired = Unit {0}
MeansEnding choice _ _ = ⊥

-- a ticket has ended: its number, and how
pub record EndedView : Type 0 where
  pub ticket : ℕ
  pub how : Ending

-- the ending of a ticket, as a value
pub record IsEndedView (e : Ended) (f : EndedView) : Type 0 where
  pub ticket : f.ticket ≡ e.number
  pub how : MeansEnding e.choice e.how f.how
