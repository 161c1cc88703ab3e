-- What comes of a node's call enters the journal and the log.
use Rattle.std.specs.Prelude.{◌≡◌, ◌⊎◌, ℕ, List, Option, Some, None, slice_get}
use Rattle.bac_world.specs.Node.{Node, Outcome}
use Rattle.bac_world.specs.Once.{Fact}
use Rattle.bac_world.specs.Services.{Performed}
use Rattle.bac_slots.specs.Slots.{value_at}
use Rattle.bac_protocol.specs.Server.{ServerTransaction}
use Rattle.bac_transaction.specs.Keys.{same_key}
use Rattle.bac_world.specs.ReusingWorlds.{IsServedSo}
use Rattle.bac_world.specs.World.{IsLogged, IsServedTo, Note, newest, ask_of, with_act, AreEnded}
use Rattle.bac_journal.specs.Lives.{lives_at}
use Rattle.bac_transaction.specs.Meanings.{EndedView}
use Rattle.bac_journal.specs.Entering.{Every}
use Rattle.bac_journal.specs.Growing.{BecomeCopies, CanBecome}
use Rattle.bac_journal.specs.Journals.{JournalView}
use Rattle.bac_journal.specs.Views.{AreLinks}

-- the endings of a node's tickets have the numbers of asks
abbrev pub AreNoted : List Note → (node : ℕ) → List EndedView → Type 0
AreNoted notes node ended = Every (λ f. (number : ℕ) × (ask_of node f.ticket notes ≡ Some number)) ended

-- the newest ask of that client, of the node and with its invoke ID, is known
abbrev pub IsAskOf : List Note → (client node : ℕ) → Performed → Type 0
IsAskOf notes client node p =
    (number : ℕ) × (newest (record { client = client; server = node; invoke_id = p.key.invoke_id }) notes ≡ Some number)

-- the node keeps the entry in which it was performed
abbrev pub IsKeptFor : (after : Node) → Performed → Type 0
IsKeptFor after p = (entry : ServerTransaction) × (value_at same_key p.key after.servers.slots ≡ Some entry)

-- where it was performed for one of the nodes, that is its client
abbrev pub HasClient : JournalView → (node : ℕ) → Performed → Type 0
HasClient j node p = (i : ℕ) → slice_get j.links i ≡ Some p.key.peer.link → IsAskOf j.notes i node p

abbrev pub HaveClient : JournalView → (node : ℕ) → Option Performed → Type 0
HaveClient j node None = Unit {0}
HaveClient j node (Some p) = HasClient j node p

-- what was performed for a stranger enters the log as such, with the beginning of its entry where the node keeps one
pub record EntersServed (nodes : List Node) (node : ℕ) (after : Node) (p : Performed) (old new : List Fact) : Type 0 where
  pub kept : IsKeptFor after p → IsServedTo nodes node after p old new
  pub served : IsServedSo nodes node p old new

-- what was performed enters the log, for a node or a stranger
abbrev pub EntersLog : List Node → List Note → (node : ℕ) → (after : Node) → Option Performed → (old new : List Fact) → Type 0
EntersLog nodes notes node after None old new = new ≡ old
EntersLog nodes notes node after (Some p) old new = IsLogged nodes notes node p old new ⊎ EntersServed nodes node after p old new

-- what comes of a node's call can enter
pub record CanBeEntered (j : JournalView) (node : ℕ) (o : Outcome) : Type 0 where
  pub nodes : List Node
  pub linked : AreLinks nodes j.links
  pub sends : CanBecome nodes j.notes j.moment node o.sends
  pub ended : AreNoted j.notes node o.ended
  pub performed : HaveClient j node o.performed

-- how many entries of the log are made of what was performed
abbrev pub performances : Option Performed → ℕ
performances None = 0
performances (Some p) = 1

-- nothing of a journal changed but what nodes did so far, the copies and their room
abbrev pub SendsAlone : (old new : JournalView) → Type 0
SendsAlone old new = new ≡ record old { lives = new.lives; copies = new.copies; room = new.room }

-- it has entered; the node is that one after the call
pub record IsEntered (nodes : List Node) (node : ℕ) (after : Node) (o : Outcome) (old new : JournalView) (log log' : List Fact) : Type 0 where
  pub sent : BecomeCopies nodes old.moment node o.sends old.copies new.copies
  pub lives : lives_at new.lives ≡ with_act (lives_at old.lives) node
  pub between : List Fact
  pub ended : AreEnded old.notes node o.ended log between
  pub logged : EntersLog nodes old.notes node after o.performed between log'

-- it has, whichever nodes have the journal's links
abbrev pub Enters : (node : ℕ) → (after : Node) → Outcome → (old new : JournalView) → (log log' : List Fact) → Type 0
Enters node after o old new log log' = (nodes : List Node) → AreLinks nodes old.links → IsEntered nodes node after o old new log log'
