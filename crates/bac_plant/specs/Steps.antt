-- What happens in a plant: time passes, and a station does what a call of bac_driver promises, at the moment that its clock shows.
use Rattle.std.specs.Prelude.{◌≡◌, ℕ, Bool, true, false, List, ◌∷◌, ◌++◌, length, Option, Some, None, slice_get, slice_set}
use Rattle.bac_apdu.specs.Apdu.{Limits}
use Rattle.bac_npdu.specs.Peers.{PeerView}
use Rattle.bac_service.specs.Values.{Request}
use Rattle.bac_store.specs.AtNode as at_node
use Rattle.bac_store.specs.AtNode.{change_fault}
use Rattle.bac_store.specs.Stores.{Store}
use Rattle.bac_protocol.specs.Pace.{clock_at}
use Rattle.bac_protocol.specs.Service.{Octets}
use Rattle.bac_transaction.specs.Views.{rules_view}
use Rattle.bac_transaction.specs.Sends.{Datagram, Pairwise}
use Rattle.bac_world.specs.Node.{Node, Outcome, begun_again, restarted, store_after_restart, with_change}
use Rattle.bac_world.specs.Once.{Fact}
use Rattle.bac_world.specs.Once.Fact.{Asked, AskedAway, Changed, Restarted}
use Rattle.bac_world.specs.ReusingWorlds.{AreLoggedSo}
use Rattle.bac_world.specs.World.{AreCopied, AreEnded, Copy, IsCopied, IsOfNone, Life, Note, is_quiet, link_at, passes, peer_at, with_act, with_ask}
use Rattle.bac_world.specs.World.{with_clock, with_restart}
use Rattle.bac_driver.specs.BoundNodes.{BoundNode}
use Rattle.bac_driver.specs.Calls.{one_more, with_call}
use Rattle.bac_driver.specs.Calls.Call.{FailedReceive}
use Rattle.bac_driver.specs.Turns.{IsCarried, IsTurn, Receives, Turn, ended_of, performed_of}
use Rattle.bac_driver.specs.Rounds.{IsTaken, sends_in, sends_of_all}
use Rattle.bac_driver.specs.Runs.{Run}
use Rattle.bac_driver.specs.Asking.{IsBegun, Question}
use Rattle.bac_driver.specs.declared.wait_limit.WaitLimit.{WaitLimit}
use Rattle.bac_plant.specs.Plants.{IsSetTo, Plant, nodes_of, shows, world_of}
use Rattle.bac_plant.specs.Network.{HandsOver, Source}
use Rattle.bac_plant.specs.Network.Source.{Nowhere}

-- time passes, and each clock goes on; a station takes a turn, by a datagram from that source; its link fails to receive; it begins an ask of another
-- station or of a stranger, changes its own store, or restarts; a program starts there, as the first one, or after another. In a round it takes turns whose sends it holds, and then sends what these turns hold.
pub data Step : Type 0 where
  Passes : (by : ℕ) (own : ℕ → ℕ) → Step
  Takes : (station : ℕ) (source : Source) (turn : Turn) → Step
  FailsToReceive : (station : ℕ) → Step
  Begins : (station server : ℕ) (limits : Limits) (request : Request) → Step
  BeginsAway : (station : ℕ) (peer : PeerView) (limits : Limits) (request : Request) → Step
  Changes : (station : ℕ) (change : at_node.Change) → Step
  Restarts : (station exact : ℕ) (store : Option Store) → Step
  Starts : (station exact : ℕ) → Step
  StartsAgain : (station exact first_id : ℕ) (store : Option Store) → Step
  Holds : (station : ℕ) (source : Source) (turn : Turn) → Step
  SendsHeld : (station : ℕ) (turns : List Turn) → Step

-- a station is another one now, and all others are as they were
abbrev pub with_station : Plant → (station : ℕ) → BoundNode → Plant
with_station p i after = record p { stations = slice_set p.stations i after }

-- what a station gives its link for stations becomes these copies, and what goes to strangers is not followed. One whose send fails is among the copies, and
-- the network need not hand it over. So is one that a round holds, from the turn that made it.
abbrev pub BecomeCopies : Plant → (station : ℕ) → List Datagram → List Copy → Type 0
BecomeCopies p i sends sent = AreCopied (nodes_of p.stations) p.time.now i sends sent

-- ---- a turn

-- the turn of a station as its call promises it, whatever the limit of its wait, and whenever it began
pub record IsSomeTurn (now : ℕ) (before : BoundNode) (turn : Turn) (after : BoundNode) : Type 0 where
  pub limit : WaitLimit
  pub began : ℕ
  pub is : IsTurn limit began now before turn after

-- all that a turn of a station of that setting returned enters the log: how asks ended by the datagram, what was performed, and how asks ended by the tick;
-- middle is the node between both
pub record AreEntered (reuse : Bool) (p : Plant) (i : ℕ) (middle : Node) (turn : Turn) (log : List Fact) : Type 0 where
  pub ended : List Fact
  pub performed : List Fact
  pub ends : AreEnded p.notes i (ended_of turn.heard) p.log ended
  pub performs : AreLoggedSo reuse (nodes_of p.stations) p.notes i middle (performed_of turn.heard) ended performed
  pub gives_up : AreEnded p.notes i (ended_of turn.ticked) performed log

-- something happens at a station where it hears what came, and where it ticks
abbrev pub heard_lives : (station : ℕ) → Source → (heard : Option Outcome) → (ℕ → Life) → ℕ → Life
heard_lives i Nowhere heard lives = lives
heard_lives i source None lives = lives
heard_lives i source (Some o) lives = with_act lives i

abbrev pub ticked_lives : (station : ℕ) → (ticked : Option Outcome) → (ℕ → Life) → ℕ → Life
ticked_lives i None lives = lives
ticked_lives i (Some o) lives = with_act lives i

abbrev pub turn_lives : (station : ℕ) → Source → Turn → (ℕ → Life) → ℕ → Life
turn_lives i source turn lives = ticked_lives i turn.ticked (heard_lives i source turn.heard lives)

-- what a station received in a turn comes from there, what the turn sends becomes copies, and what it ended and performed enters the log
pub record HappensAt (reuse : Bool) (overtake : ℕ) (old : Plant) (i : ℕ) (source : Source) (turn : Turn) (middle : Node) (after : BoundNode) (new : Plant)
    : Type 0 where
  pub comes : HandsOver overtake old i source turn.received after.buffer
  pub sent : List Copy
  pub copied : BecomeCopies old i (sends_in turn) sent
  pub log : List Fact
  pub entered : AreEntered reuse old i middle turn log
  pub is : new ≡ record (with_station old i after) { lives = turn_lives i source turn old.lives; copies = old.copies ++ sent; log = log }

-- a station takes a turn
pub record TakesTurnAt (overtake : ℕ) (old : Plant) (i : ℕ) (source : Source) (turn : Turn) (new : Plant) : Type 0 where
  pub before : BoundNode
  pub at : slice_get old.stations i ≡ Some before
  pub after : BoundNode
  pub takes : IsSomeTurn (shows old i) before turn after
  pub reuse : Bool
  pub set : IsSetTo reuse before
  pub happens : HappensAt reuse overtake old i source turn takes.is.acts.middle after new

-- ---- a round

-- the turn of a round as its call promises it, whatever the limit of its wait, and whenever it began: nothing is sent
pub record HoldsSomeTurn (now : ℕ) (before : BoundNode) (turn : Turn) (after : BoundNode) : Type 0 where
  pub limit : WaitLimit
  pub began : ℕ
  pub middle : BoundNode
  pub receives : Receives limit began before turn.received middle
  pub takes : IsTaken now middle turn after

-- a station takes such a turn: what it is to send is among the copies from now on
pub record HoldsTurnAt (overtake : ℕ) (old : Plant) (i : ℕ) (source : Source) (turn : Turn) (new : Plant) : Type 0 where
  pub before : BoundNode
  pub at : slice_get old.stations i ≡ Some before
  pub after : BoundNode
  pub holds : HoldsSomeTurn (shows old i) before turn after
  pub reuse : Bool
  pub set : IsSetTo reuse before
  pub happens : HappensAt reuse overtake old i source turn holds.takes.middle after new

-- all that turns send goes to the link, each datagram once, in order; failed sends are counted
pub record AreSent (turns : List Turn) (before after : BoundNode) : Type 0 where
  pub lost : ℕ
  pub carried : IsCarried (sends_of_all turns) lost before after
  pub node : after.node ≡ before.node
  pub buffer : after.buffer ≡ before.buffer
  pub rules : after.rules ≡ before.rules

-- a station sends what turns hold: that is among the copies
pub record SendsHeldAt (old : Plant) (i : ℕ) (turns : List Turn) (new : Plant) : Type 0 where
  pub before : BoundNode
  pub at : slice_get old.stations i ≡ Some before
  pub after : BoundNode
  pub sends : AreSent turns before after
  pub is : new ≡ with_station old i after

-- ---- a failure

-- its link could not receive: its count and its calls change, and the buffer may
pub record FailsAt (old : Plant) (i : ℕ) (new : Plant) : Type 0 where
  pub before : BoundNode
  pub at : slice_get old.stations i ≡ Some before
  pub after : BoundNode
  pub node : after.node ≡ before.node
  pub count : after.failures ≡ one_more before.failures
  pub calls : after.calls ≡ with_call before.calls FailedReceive
  pub rules : after.rules ≡ before.rules
  pub is : new ≡ with_station old i after

-- ---- an ask

abbrev pub question : PeerView → Limits → Request → Question
question peer limits r = record { peer = peer; limits = limits; request = r }

abbrev pub note_of : (client server invoke_id ticket : ℕ) → Note
note_of client server invoke_id ticket = record { key = record { client = client; server = server; invoke_id = invoke_id }; ticket = ticket; away = None }

-- a station begins an ask of another one: it has the next number, and what it sends becomes copies. A refused ask changes nothing.
pub record AsksAt (old : Plant) (i server : ℕ) (limits : Limits) (r : Request) (new : Plant) : Type 0 where
  pub before : BoundNode
  pub at : slice_get old.stations i ≡ Some before
  pub link : Octets
  pub peer : link_at (nodes_of old.stations) server ≡ Some link
  pub after : BoundNode
  pub ticket : ℕ
  pub begun : IsBegun (shows old i) (question (peer_at link) limits r) before ticket after
  pub sent : List Copy
  pub copied : Pairwise (IsCopied (nodes_of old.stations) old.time.now i) begun.sends sent
  pub is : new ≡ record (with_station old i after) {
    lives = with_ask old.time old.lives i;
    copies = old.copies ++ sent;
    log = Asked (length old.notes) i server r ∷ old.log;
    notes = note_of i server begun.accepted.invoke_id ticket ∷ old.notes;
  }

abbrev pub away_note : (client : ℕ) → PeerView → (invoke_id ticket : ℕ) → Note
away_note client peer invoke_id ticket =
    record { key = record { client = client; server = 0; invoke_id = invoke_id }; ticket = ticket; away = Some peer }

-- a station begins an ask of a stranger, at a link of no station: it has the next number, and what it sends is not followed
pub record AsksAwayAt (old : Plant) (i : ℕ) (peer : PeerView) (limits : Limits) (r : Request) (new : Plant) : Type 0 where
  pub before : BoundNode
  pub at : slice_get old.stations i ≡ Some before
  pub stranger : IsOfNone (nodes_of old.stations) peer.link
  pub after : BoundNode
  pub ticket : ℕ
  pub begun : IsBegun (shows old i) (question peer limits r) before ticket after
  pub is : new ≡ record (with_station old i after) {
    lives = with_act old.lives i;
    log = AskedAway (length old.notes) i peer r ∷ old.log;
    notes = away_note i peer begun.accepted.invoke_id ticket ∷ old.notes;
  }

-- ---- the store, and restarts

-- a station changes its own store, where that has no fault
pub record ChangesAt (old : Plant) (i : ℕ) (c : at_node.Change) (new : Plant) : Type 0 where
  pub before : BoundNode
  pub at : slice_get old.stations i ≡ Some before
  pub may : change_fault before.node.store c ≡ None
  pub is : new ≡ record (with_station old i (record before { node = with_change c before.node })) { log = Changed i c ∷ old.log }

-- a station restarts with a new clock, and with any link and buffer: its node waits, and has the store that it had or another one; its setting stays
pub record RestartsAt (old : Plant) (i exact : ℕ) (store : Option Store) (new : Plant) : Type 0 where
  pub before : BoundNode
  pub at : slice_get old.stations i ≡ Some before
  pub after : BoundNode
  pub node : after.node ≡ restarted (clock_at old.time.pace exact).shows (store_after_restart before.node.store store) before.node
  pub rules : rules_view after.rules ≡ rules_view before.rules
  pub is : new ≡ record (with_station old i after) {
    time = with_clock old.time i exact;
    lives = with_restart old.time old.lives i;
    log = Restarted i store ∷ old.log;
  }

-- a program starts at a station at which nothing happened, with a new clock, and with any link and buffer; nothing is logged
pub record StartsAt (old : Plant) (i exact : ℕ) (new : Plant) : Type 0 where
  pub before : BoundNode
  pub at : slice_get old.stations i ≡ Some before
  pub first : (old.lives i).active ≡ false
  pub after : BoundNode
  pub node : after.node ≡ before.node
  pub rules : rules_view after.rules ≡ rules_view before.rules
  pub is : new ≡ record (with_station old i after) { time = with_clock old.time i exact }

-- another program starts at a station, with a new clock, and with any link and buffer, once all is over that the client before it sent: its client may ask at
-- once, and its server waits as after a restart
pub record StartsAgainAt (old : Plant) (i exact first_id : ℕ) (store : Option Store) (new : Plant) : Type 0 where
  pub before : BoundNode
  pub at : slice_get old.stations i ≡ Some before
  pub quiet : is_quiet (world_of old) i ≡ true
  pub after : BoundNode
  pub node : after.node ≡ begun_again (clock_at old.time.pace exact).shows first_id (store_after_restart before.node.store store) before.node
  pub rules : rules_view after.rules ≡ rules_view before.rules
  pub is : new ≡ record (with_station old i after) {
    time = with_clock old.time i exact;
    lives = with_act old.lives i;
    log = Restarted i store ∷ old.log;
  }

-- ---- steps, one after the other

abbrev pub PlantStep : (overtake : ℕ) → Plant → Step → Plant → Type 0
PlantStep overtake old (Passes by own) new = new ≡ record old { time = passes old.time by own }
PlantStep overtake old (Takes station source turn) new = TakesTurnAt overtake old station source turn new
PlantStep overtake old (FailsToReceive station) new = FailsAt old station new
PlantStep overtake old (Begins station server limits request) new = AsksAt old station server limits request new
PlantStep overtake old (BeginsAway station peer limits request) new = AsksAwayAt old station peer limits request new
PlantStep overtake old (Changes station change) new = ChangesAt old station change new
PlantStep overtake old (Restarts station exact store) new = RestartsAt old station exact store new
PlantStep overtake old (Starts station exact) new = StartsAt old station exact new
PlantStep overtake old (StartsAgain station exact first_id store) new = StartsAgainAt old station exact first_id store new
PlantStep overtake old (Holds station source turn) new = HoldsTurnAt overtake old station source turn new
PlantStep overtake old (SendsHeld station turns) new = SendsHeldAt old station turns new

-- the newest step comes first
abbrev pub PlantRun : (overtake : ℕ) → List Step → (old new : Plant) → Type 0
PlantRun overtake steps old new = Run (PlantStep overtake) steps old new
