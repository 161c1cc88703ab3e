-- What the crates above a bound node name of its node.
pub use Rattle.bac_node.specs.Fresh.{large_slots_fit, with_first_id}
pub use Rattle.bac_node.specs.Views.{outcome_view}
pub use Rattle.bac_world.specs.Laws.{Gets, IsPerformedNow}
pub use Rattle.bac_world.specs.Node.{Node, NodeOn, NodeRefuses, Outcome, Refusal, begun_again, restarted}
pub use Rattle.bac_protocol.specs.Service.{Octets}
pub use Rattle.bac_transaction.specs.declared.rules.Rules.{Rules}
pub use Rattle.bac_transaction.specs.Given.{STRICTLY}
