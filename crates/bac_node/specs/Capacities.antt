-- How many slots a node's tables can have: as many after each call as before it.
use Rattle.std.specs.Prelude.{◌≡◌, ℕ, Bool}
use Rattle.bac_npdu.specs.Peers.{PeerView}
use Rattle.bac_apdu.specs.Apdu.{Limits}
use Rattle.bac_service.specs.Values.{Request}
use Rattle.bac_protocol.specs.Service.{Octets}
use Rattle.bac_transaction.specs.Sharing.{EndRules}
use Rattle.bac_requester.specs.declared.asking.Asked.{Asked}
use Rattle.bac_world.specs.Node.{Node, Outcome, NodeOn, NodeTick}
use Rattle.bac_node.specs.Calls.{IsAsked, ticked}
use Rattle.bac_node.specs.Serving.{NodeServes}

pub record HasSameCapacities (old new : Node) : Type 0 where
  pub clients : new.clients.capacity ≡ old.clients.capacity
  pub servers : new.servers.capacity ≡ old.servers.capacity

-- so it is in each call
pub record CapacitiesStay : Type 0 where
  pub on : (now : ℕ) (from octets : Octets) (old new : Node) (o : Outcome) → NodeOn now from octets old new o → HasSameCapacities old new
  pub hear : (rules : EndRules) (away : Bool) (now : ℕ) (from octets : Octets) (old new : Node) (o : Outcome) → NodeServes rules away now from octets old new o
      → HasSameCapacities old new
  pub tick : (now : ℕ) (old new : Node) (o : Outcome) → NodeTick now old new o → HasSameCapacities old new
  pub commit_tick : (now : ℕ) (node : Node) → HasSameCapacities node (ticked now node)
  pub ask : (now : ℕ) (peer : PeerView) (limits : Limits) (r : Request) (old new : Node) (x : Asked) → IsAsked now peer limits r old new x
      → HasSameCapacities old new
