-- What comes of calls in a world at which the bridge stands can enter, whatever settings its nodes had before.
use Rattle.std.proofs.Common.{◌≡◌, ℕ, ◌≤◌, true, List, ◌∷◌, length, Option, Some, slice_get}
use Rattle.bac_apdu.specs.Apdu.{Limits}
use Rattle.bac_service.specs.Values.{Request}
use Rattle.bac_protocol.specs.Claims.{IsBounded}
use Rattle.bac_protocol.specs.Service.{Octets}
use Rattle.bac_protocol.specs.Transaction.{Rules}
use Rattle.bac_protocol.specs.World.{Net}
use Rattle.bac_transaction.specs.Ends.{Accepted}
use Rattle.bac_transaction.specs.Sends.{Datagram}
use Rattle.bac_world.specs.Node.{Node, NodeAsks, NodeTick, Outcome}
use Rattle.bac_world.specs.ReusingLogs.{Reuses}
use Rattle.bac_world.specs.ReusingNodes.{NodeHears}
use Rattle.bac_world.specs.World.{Copy, Event, IsOutside, World, is_deliverable, link_at, peer_at, told}
use Rattle.bac_world.specs.ReusingWorlds.{WorldRunSo}
use Rattle.bac_world.proofs.Settings.{Mode}
use Rattle.bac_world.proofs.Steps.{Over}
use Rattle.bac_journal.specs.Entering.{CanBeCopied, CanEnter, CanEnterSo, CanGoOnSo, Every, note_of}
use Rattle.bac_journal.proofs.GoingOn.{copy_enters, outside_enters}
use Rattle.bac_journal.proofs.Ticked.{ask_enters, tick_enters}
use Rattle.bac_plant.specs.Plants.{Plant, settings_of, world_of}

-- nodes of the world hear copies and octets from outside, tick and ask, and what comes of that can enter
pub record TakesCalls (u : Reuses) (overtake : ℕ) (w : World) : Type 0 where
  pub hears : (number : ℕ) (c : Copy) → slice_get w.copies number ≡ Some c → is_deliverable overtake w.time.pace.life w.time.now number w.copies c ≡ true
      → (link : Octets) → link_at w.nodes c.from ≡ Some link → (a b : Node) (o : Outcome) → slice_get w.nodes c.to ≡ Some a
      → NodeHears (u c.to) (told w c.to) link c.octets a b o → CanEnterSo (u c.to) w c.to b o
  pub outside : (i : ℕ) (from octets : Octets) → IsOutside w.nodes from octets → (a b : Node) (o : Outcome) → slice_get w.nodes i ≡ Some a
      → NodeHears (u i) (told w i) from octets a b o → CanEnterSo (u i) w i b o
  pub ticks : (i : ℕ) (a b : Node) (o : Outcome) → slice_get w.nodes i ≡ Some a → NodeTick (told w i) a b o → CanEnter w i b o
  pub asks : (client server : ℕ) (a b : Node) (link : Octets) (limits : Limits) (r : Request) (accepted : Accepted) (sends : List Datagram)
      → slice_get w.nodes client ≡ Some a → link_at w.nodes server ≡ Some link → NodeAsks (told w client) (peer_at link) limits r a b accepted sends
      → Every (CanBeCopied w.nodes (note_of client server accepted.invoke_id accepted.ticket ∷ w.notes) w.time.now client) sends

pub takes_known : (u : Reuses) (W overtake : ℕ) (w : World) → CanGoOnSo u W overtake w → TakesCalls u overtake w
takes_known u W overtake w on = record {
  hears = λ number c at may link link_is a b o node h. (on.hears number c at may link link_is a b o node h).0;
  outside = λ i from octets out a b o node h. (on.outside i from octets out a b o node h).0;
  ticks = on.ticks;
  asks = λ client server a b link limits r accepted sends at there k. (on.asks client server a b link limits r accepted sends at there k).0;
}

-- a plant whose world takes calls, also after one event more
pub record CanGo (overtake : ℕ) (p : Plant) : Type 0 where
  pub u : Reuses
  pub now : (i : ℕ) → settings_of p i ≡ u i
  pub on : (es : List Event) (w : World) → length es ≤ 1 → WorldRunSo overtake u (world_of p) es w → TakesCalls u overtake w

module _ (links : ℕ → Option Octets) (apart : (i j : ℕ) (l : Octets) → links i ≡ Some l → links j ≡ Some l → i ≡ j) (W : ℕ) (x : Rules)
    (bound : IsBounded W x) (mode : Mode) (w : World) (n : Net) (h : Over links apart W x (Some mode) w n) where
  abbrev u : Reuses
  u = mode.now

  pub takes_over : (overtake : ℕ) → TakesCalls u overtake w
  takes_over overtake = record {
    hears = λ number c at young l link a b o node on. (copy_enters links apart W x bound mode w n h number c at l link a b o node on).can;
    outside = λ i from octets out a b o node on. (outside_enters links apart W x bound mode w n h i from octets out a b o node on).can;
    ticks = tick_enters links apart W x bound mode w n h;
    asks = λ i s a b l limits r accepted ds at there k. (ask_enters links apart W x bound mode w n h i s a b l limits r accepted ds at there k).0;
  }
