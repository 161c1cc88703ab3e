-- They are compared octet by octet.
use Rattle.std.proofs.lemmas.Slice.Eq.{slice_eq-Decides, bytes_eq-Decides}
use Rattle.bac_journal.proofs.comparing.are_same_links.Goals as goal

pub returns : goal.returns
returns c = slice_eq-Decides bytes_eq-Decides c.args.ones.now c.args.others.now c.eq.result c.eq.ensures
