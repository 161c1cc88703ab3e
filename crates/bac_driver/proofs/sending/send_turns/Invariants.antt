use Rattle.std.proofs.Common.{map, take}
use Rattle.bac_driver.specs.Rounds.{sends_of_all}
use Rattle.bac_driver.specs.Views.{turn_view}
use Rattle.bac_driver.proofs.Turned.{IsSentBy}
use Rattle.bac_driver.proofs.sending.send_turns.Given as goal

abbrev pub invariant-loop-turn : goal.invariant-loop-turn
invariant-loop-turn g l =
    IsSentBy (sends_of_all (map turn_view (take l.turn-index l.turns))) l.lost (g.L.Link.failures l.initial.link) (g.L.Link.failures l.link)
    (g.L.Link.calls l.initial.link) (g.L.Link.calls l.link)
