-- Worlds whose nodes all take APDUs of 480 octets or more: no copy is lost there for those that overtake it.
use Rattle.std.specs.Prelude.{ℕ, ◌*◌, ◌≡◌, ◌≤◌, List, [], ◌∷◌, Some, slice_get}
use Rattle.bac_store.specs.ReplyLengths.{DATA_LIMIT, reply_length}
use Rattle.bac_protocol.specs.LongApdus.{TakesLong}
use Rattle.bac_world.specs.Node.{Node}
use Rattle.bac_world.specs.Once.{Fact}
use Rattle.bac_world.specs.Once.Fact.{Performed, Served}
use Rattle.bac_world.specs.World.{Event, World}
use Rattle.bac_world.specs.World.Event.{Ask}

-- all nodes do, and all windows are at most W
pub record TakeLongApdus (W : ℕ) (w : World) : Type 0 where
  pub some : 1 ≤ W
  pub room : 2 * W ≤ 255
  pub windows : (i : ℕ) (n : Node) → slice_get w.nodes i ≡ Some n → n.settings.window ≤ W
  pub long : (i : ℕ) (n : Node) → slice_get w.nodes i ≡ Some n → TakesLong n.settings.limits

-- and whoever asks a node knows that it does
abbrev pub AsksLong : Event → Type 0
AsksLong (Ask client server limits r) = TakesLong limits
AsksLong e = Unit {0}

abbrev pub AllAskLong : List Event → Type 0
AllAskLong [] = Unit {0}
AllAskLong (e ∷ es) = AsksLong e × AllAskLong es

-- no reply in the log has more octets of service data than can be sent, as none of a store of this stack has
abbrev pub RepliesFit : List Fact → Type 0
RepliesFit [] = Unit {0}
RepliesFit (Performed n r p ∷ log) = (reply_length p ≤ DATA_LIMIT) × RepliesFit log
RepliesFit (Served q i d b r p ∷ log) = (reply_length p ≤ DATA_LIMIT) × RepliesFit log
RepliesFit (f ∷ log) = RepliesFit log
