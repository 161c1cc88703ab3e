-- By whether the table has a socket where the node is.
use Rattle.bac_points.proofs.performing.do_with_points.Goals as goal

pub returns : goal.returns
returns g c = record { is_unheard = c.is_unheard.result; because = c.is_unheard.ensures; works = c.work_at.ensures }
