-- The lives so far.
use Rattle.std.proofs.Common.{◌≡◌, map, take}
use Rattle.bac_journal.specs.Lives.{fresh_life}
use Rattle.bac_journal.proofs.lives.fresh_lives.Given as goal

abbrev pub invariant-loop-link : goal.invariant-loop-link
invariant-loop-link l = l.lives.items ≡ map fresh_life (take l._link-index l.links)
