use Rattle.std.proofs.Math.Logic.{∥∥₁_map}
use Rattle.bac_value.proofs.ElementLists.{data_elements}
use Rattle.bac_value.proofs.data.Data.elements.Goals as goal

pub invariant_of-result : goal.invariant_of-result
invariant_of-result c = record { whole = ∥∥₁_map c.args.self.whole (data_elements c.args.self.octets.now) }
