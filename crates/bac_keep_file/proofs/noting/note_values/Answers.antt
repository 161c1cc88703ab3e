use Rattle.bac_value.specs.Views.{object_identifier_view}
use Rattle.bac_store.specs.Writes.{listed_at}
use Rattle.bac_keep_file.proofs.Causes.{listed_few}
use Rattle.bac_keep_file.proofs.noting.note_values.Goals as goal

pub put_cell-requires-clause-few : goal.put_cell-requires-clause-few
put_cell-requires-clause-few g c =
    listed_few c.args.store.now c.stores_are_in_order.ensures (object_identifier_view c.args.object) c.args.number c.in-Some.listed c.in-Some.ensures
