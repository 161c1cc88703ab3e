-- An ask that was accepted enters the journal and the log.
use Rattle.std.specs.Prelude.{◌≡◌, ◌<◌, ◌≤◌, ◌+◌, ℕ, List, ◌∷◌, length, Option, Some, Result, Ok, Err}
use Rattle.bac_npdu.specs.Peers.{PeerView}
use Rattle.bac_transaction.specs.Sends.{Datagram}
use Rattle.bac_requester.specs.declared.ask_fault.AskFault.{AskFault}
use Rattle.bac_requester.specs.declared.ask_fault.AskFault.TheVariants as ask_fault
use Rattle.bac_service.specs.Values.{Request}
use Rattle.bac_world.specs.Node.{Node}
use Rattle.bac_world.specs.Once.{Fact}
use Rattle.bac_world.specs.Once.Fact.{Asked, AskedAway}
use Rattle.bac_world.specs.World.{Note, IsOfNone, with_act, with_ask}
use Rattle.bac_journal.specs.Clocks.{time_of}
use Rattle.bac_journal.specs.Lives.{lives_at}
use Rattle.bac_journal.specs.Entering.{note_of, tickets_of}
use Rattle.bac_journal.specs.Growing.{BecomeCopies, CanBecome}
use Rattle.bac_journal.specs.Journals.{HasNoteRoom, HasStrangerRoom, JournalView}
use Rattle.bac_journal.specs.Views.{AreLinks}
use Rattle.bac_network.specs.Networks.{HasRoom, IsReady}
use Rattle.bac_network.specs.declared.fault.WorldFault.{WorldFault}
use Rattle.bac_network.specs.declared.fault.WorldFault.TheVariants as fault
use Rattle.bac_network.specs.declared.network.Network.{Network}

-- a node can ask another one, and there is room for what comes of it
pub record CanAsk (client server : ℕ) (n : Network) : Type 0 where
  pub window : ℕ
  pub overtake : ℕ
  pub ready : IsReady window overtake n
  pub client_there : client < length n.nodes.items
  pub server_there : server < length n.nodes.items
  pub note : HasNoteRoom n.journal client server
  pub room : HasRoom 1 (window + 1) n

-- an accepted ask can be noted: its ticket is one that its client had, or the one after them
pub record CanBeNoted (j : JournalView) (client server invoke_id ticket : ℕ) (sends : List Datagram) : Type 0 where
  pub nodes : List Node
  pub linked : AreLinks nodes j.links
  pub sent : CanBecome nodes (note_of client server invoke_id ticket ∷ j.notes) j.moment client sends
  pub client_there : client < length j.links
  pub room : HasNoteRoom j client server
  pub counted : ticket ≤ tickets_of client j.notes

-- it is noted
pub record IsNotedAsk (nodes : List Node) (client server : ℕ) (r : Request) (invoke_id ticket : ℕ) (sends : List Datagram) (old new : JournalView)
    (facts facts' : List Fact) : Type 0 where
  pub sent : BecomeCopies nodes old.moment client sends old.copies new.copies
  pub notes : new.notes ≡ note_of client server invoke_id ticket ∷ old.notes
  pub log : facts' ≡ Asked (length old.notes) client server r ∷ facts
  pub moment : new.moment ≡ old.moment
  pub own : new.own ≡ old.own
  pub lives : lives_at new.lives ≡ with_ask (time_of old.moment old.own) (lives_at old.lives) client
  pub links : new.links ≡ old.links

-- the fault of a refused ask is told, but where memory was refused, which is the event's
abbrev pub TellsFault : AskFault → Result (Option AskFault) WorldFault → Type 0
TellsFault ask_fault.ClockBack r = r ≡ Ok (Some ask_fault.ClockBack)
TellsFault ask_fault.SelfPeer r = r ≡ Ok (Some ask_fault.SelfPeer)
TellsFault ask_fault.TooLong r = r ≡ Ok (Some ask_fault.TooLong)
TellsFault ask_fault.NeedsSegments r = r ≡ Ok (Some ask_fault.NeedsSegments)
TellsFault ask_fault.NoInvokeId r = r ≡ Ok (Some ask_fault.NoInvokeId)
TellsFault ask_fault.NoSlot r = r ≡ Ok (Some ask_fault.NoSlot)
TellsFault ask_fault.NoMemory r = r ≡ Err fault.NoMemory

-- Asks of strangers.

-- a node can ask a stranger, and there is room for what comes of it
pub record CanAskAway (client : ℕ) (peer : PeerView) (n : Network) : Type 0 where
  pub window : ℕ
  pub overtake : ℕ
  pub ready : IsReady window overtake n
  pub client_there : client < length n.nodes.items
  pub stranger : IsOfNone n.nodes.items peer.link
  pub note : HasStrangerRoom n.journal client
  pub room : HasRoom 1 0 n

-- the note of an ask of a stranger
abbrev pub away_note : (client invoke_id ticket : ℕ) → PeerView → Note
away_note client invoke_id ticket peer =
    record { key = record { client = client; server = 0; invoke_id = invoke_id }; ticket = ticket; away = Some peer }

-- it is noted, and enters the log with the next number; nothing becomes a copy
pub record IsNotedAway (client : ℕ) (peer : PeerView) (r : Request) (invoke_id ticket : ℕ) (old new : JournalView) (facts facts' : List Fact) : Type 0 where
  pub same : new ≡ record old { lives = new.lives; notes = away_note client invoke_id ticket peer ∷ old.notes; note_room = new.note_room }
  pub lives : lives_at new.lives ≡ with_act (lives_at old.lives) client
  pub log : facts' ≡ AskedAway (length old.notes) client peer r ∷ facts
