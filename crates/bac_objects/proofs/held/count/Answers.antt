-- A map has as many entries as the table has members.
use Rattle.std.proofs.Common.{sym, ◌∙◌}
use Rattle.bac_objects.proofs.Tables.{count_length}
use Rattle.bac_objects.proofs.held.count.Goals as goal

pub returns : goal.returns
returns c = c.len.ensures.len ∙ sym (count_length c.args.table.now.entries)
