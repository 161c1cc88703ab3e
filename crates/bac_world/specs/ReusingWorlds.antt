-- Worlds some of whose nodes let clients use an invoke ID again as soon as its transaction is over. All that is not said here is as in World.
use Rattle.std.specs.Prelude.{◌≡◌, ◌⊎◌, ℕ, Bool, true, false, List, [], ◌∷◌, ◌++◌, Option, Some, None, slice_get}
use Rattle.bac_protocol.specs.Service.{Octets}
use Rattle.bac_world.specs.Laws.{IsMeaningless}
use Rattle.bac_world.specs.Node.{Node, Outcome}
use Rattle.bac_world.specs.Once.{Fact}
use Rattle.bac_world.specs.Once.Fact.{Served}
use Rattle.bac_world.specs.ReusingLogs.{Reuses}
use Rattle.bac_world.specs.ReusingNodes.{NodeHears}
use Rattle.bac_world.specs.Services as service
use Rattle.bac_world.specs.World.{AreCopied, AreEnded, AreLogged, Copy, Event, IsLogged, IsOfNone, IsWithNode, LosesOctets, Note, World, WorldStep, with_act}
use Rattle.bac_world.specs.World.{is_deliverable, link_at, told}
use Rattle.bac_world.specs.World.Event.{Deliver, Noise, Stray}

-- what such a node performed for a stranger enters the log; a read may have no entry, so when the entry began is not told
pub record IsServedSo (nodes : List Node) (node : ℕ) (p : service.Performed) (old new : List Fact) : Type 0 where
  pub stranger : IsOfNone nodes p.key.peer.link
  pub begin : ℕ
  pub log : new ≡ Served p.key.peer node p.key.invoke_id begin p.request p.reply ∷ old

abbrev pub AreLoggedSo : (reuse : Bool) → List Node → List Note → (node : ℕ) → (after : Node) → Option service.Performed → (old new : List Fact) → Type 0
AreLoggedSo false nodes notes node after p old new = AreLogged nodes notes node after p old new
AreLoggedSo true nodes notes node after None old new = new ≡ old
AreLoggedSo true nodes notes node after (Some p) old new = IsLogged nodes notes node p old new ⊎ IsServedSo nodes node p old new

-- what a call of a node of that setting does to the world
pub record ActsSo (reuse : Bool) (old : World) (i : ℕ) (node : Node) (o : Outcome) (new : World) : Type 0 where
  pub nodes : IsWithNode old.nodes i node new.nodes
  pub time : new.time ≡ old.time
  pub lives : new.lives ≡ with_act old.lives i
  pub notes : new.notes ≡ old.notes
  pub sent : List Copy
  pub copies : new.copies ≡ old.copies ++ sent
  pub copied : AreCopied old.nodes old.time.now i o.sends sent
  pub between : List Fact
  pub ended : AreEnded old.notes i o.ended old.log between
  pub logged : AreLoggedSo reuse old.nodes old.notes i node o.performed between new.log

-- it hears a datagram
pub record HearsSo (reuse : Bool) (old : World) (i : ℕ) (from octets : Octets) (new : World) : Type 0 where
  pub before : Node
  pub at : slice_get old.nodes i ≡ Some before
  pub after : Node
  pub outcome : Outcome
  pub on : NodeHears reuse (told old i) from octets before after outcome
  pub acts : ActsSo reuse old i after outcome new

-- a copy is delivered, where it is deliverable
pub record DeliversSo (u : Reuses) (old : World) (c : Copy) (new : World) : Type 0 where
  pub link : Octets
  pub sender : link_at old.nodes c.from ≡ Some link
  pub hears : HearsSo (u c.to) old c.to link c.octets new

abbrev pub DeliversIfSo : Bool → Reuses → World → Copy → World → Type 0
DeliversIfSo true u old c new = DeliversSo u old c new
DeliversIfSo false u old c new = new ≡ old

pub record IsDeliveredSo (overtake : ℕ) (u : Reuses) (old : World) (number : ℕ) (new : World) : Type 0 where
  pub copy : Copy
  pub there : slice_get old.copies number ≡ Some copy
  pub goes : DeliversIfSo (is_deliverable overtake old.time.pace.life old.time.now number old.copies copy) u old copy new

-- octets from outside are heard, where they may come from there
pub record HearsOutsideSo (IsFit : Type 0) (u : Reuses) (old : World) (i : ℕ) (from octets : Octets) (new : World) : Type 0 where
  pub fit : IsFit
  pub hears : HearsSo (u i) old i from octets new

abbrev pub WorldStepSo : (overtake : ℕ) → Reuses → World → Event → World → Type 0
WorldStepSo overtake u old (Deliver number) new = IsDeliveredSo overtake u old number new
WorldStepSo overtake u old (Noise node from octets) new =
    HearsOutsideSo (IsMeaningless from octets) u old node from octets new ⊎ LosesOctets (IsMeaningless from octets) old node new
WorldStepSo overtake u old (Stray node from octets) new =
    HearsOutsideSo (IsOfNone old.nodes from) u old node from octets new ⊎ LosesOctets (IsOfNone old.nodes from) old node new
WorldStepSo overtake u old e new = WorldStep overtake old e new

abbrev pub WorldRunSo : (overtake : ℕ) → Reuses → World → List Event → World → Type 0
WorldRunSo overtake u old [] new = new ≡ old
WorldRunSo overtake u old (e ∷ es) new = (v : World) × WorldStepSo overtake u old e v × WorldRunSo overtake u v es new
