-- The stretch began at the moment that the clock gave.
use Rattle.bac_serving.proofs.Stretches.{one_taken}
use Rattle.bac_serving.proofs.looking.take_stretch.Goals as goal

pub returns-clause-taken : goal.returns-clause-taken
returns-clause-taken g c =
    let state = g.S.Stretching.state in
    one_taken g.S.Stretching.serves c.args.stop.at c.now-now.result c.longest-longest.result _ c.in_ok-effects.effects _ (state c.args.server.now)
    (state c.now-now.new.self) (state c.serve_stretch.new.self) (state c.look.new.server) c.now-now.ensures.told c.if-is_over.ensures
    c.longest-longest.ensures c.stretch_from-limit.ensures.turns c.stretch_from-limit.ensures.until c.in_ok-effects.ensures.served c.in_ok-is_last.ensures.changed
