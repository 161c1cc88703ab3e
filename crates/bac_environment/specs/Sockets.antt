-- Links that a machine bound, clocks that it made, and nodes on such links.
use Rattle.std.specs.Prelude.{◌≡◌, ℕ}
use Rattle.bac_driver.specs.Nodes.{Octets, Rules, Node}
use Rattle.bac_driver.specs.BoundNodes.{BoundNode}
use Rattle.bac_driver.specs.Calls.{Calls}
use Rattle.bac_driver.specs.Moments.{Told}

-- a link that the machine bound to a port of an IPv4 address, by its address, the count of its failures and the calls that were made
pub record OnPort {Link : Type 0} (IsBound : (host : Octets) → (port : ℕ) → Link → (address : Octets) → Type 0) (failures_of : Link → ℕ)
    (calls_of : Link → Calls) (host : Octets) (port : ℕ) (address : Octets) (failures : ℕ) (calls : Calls) : Type 0 where
  pub link : Link
  pub bound : IsBound host port link address
  pub failed : failures ≡ failures_of link
  pub made : calls ≡ calls_of link

-- a clock that the machine made, by what it has printed
pub record OnClock {Timer : Type 0} (IsMade : Timer → Type 0) (told_by : Timer → Told) (told : Told) : Type 0 where
  pub timer : Timer
  pub made : IsMade timer
  pub is : told ≡ told_by timer

-- What follows takes two such relations: of the links of a machine, and of its clocks.
abbrev pub Links : Type 1
Links = (host : Octets) → (port : ℕ) → (address : Octets) → (failures : ℕ) → Calls → Type 0

abbrev pub Clocks : Type 1
Clocks = Told → Type 0

-- a node on a link at a port: that node, by its address, with that setting of whether it lets clients use an invoke ID again, and for how long
-- it then remembers a request
pub record IsAt (IsOn : Links) (host : Octets) (port : ℕ) (node_at : (address : Octets) → Node) (rules : Rules) (bound_node : BoundNode) : Type 0 where
  pub address : Octets
  pub node : bound_node.node ≡ node_at address
  pub rules_are : bound_node.rules ≡ rules
  pub on : IsOn host port address bound_node.failures bound_node.calls
