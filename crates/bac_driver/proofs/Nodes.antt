-- Laws of nodes, for the crates above a bound node.
pub use Rattle.bac_world.proofs.NodeLaws.{new_is_performed, stores_reply}
