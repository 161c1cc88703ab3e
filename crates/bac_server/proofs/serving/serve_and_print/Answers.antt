use Rattle.std.proofs.Common.{rules}
use Rattle.bac_server.proofs.serving.serve_and_print.Goals as goal

pub returns-clause-printed : goal.returns-clause-printed
returns-clause-printed g c = record { effects = c.in_ok-effects.effects; serves = c.in_ok-effects.ensures.served; printed = search rules }

pub returns-clause-watched : goal.returns-clause-watched
returns-clause-watched g c = record { effects = c.in_ok-effects.effects; watches = c.in_ok-effects.ensures.watched }
