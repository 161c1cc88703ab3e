-- A bound node: a node on its link.
use Rattle.std.specs.Prelude.{ℕ}
use Rattle.bac_protocol.specs.Service.{Octets}
use Rattle.bac_driver.specs.Calls.{Calls}
use Rattle.bac_world.specs.Node.{Node}
use Rattle.bac_transaction.specs.declared.rules.Rules.{Rules}

-- how many octets of a datagram are received
abbrev pub BUFFER : ℕ
BUFFER = 2048

-- a node; how many calls of its link failed, and which calls were made, where the link keeps them; the buffer for what comes; and the rules by which the node
-- serves
pub record BoundNode : Type 0 where
  pub node : Node
  pub failures : ℕ
  pub calls : Calls
  pub buffer : Octets
  pub rules : Rules
