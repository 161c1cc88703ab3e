use Rattle.std.proofs.Common.{arith, sym, drop}
use Rattle.std.proofs.lemmas.List.{length-take}
use Rattle.bac_value.specs.Octets.{joined}
use Rattle.bac_value.proofs.Joined.{after_front}
use Rattle.bac_value.proofs.parts.PartsOctets.split.Goals as goal

pub returns-clause-after : goal.returns-clause-after
returns-clause-after c =
    let p = c.args.self in
    rw (c.settled.ensures.count, c.settled.ensures.same)
    (sym (after_front (joined p.parts.now) p.skip p.len c.args.count (omega (arith, c.requires, length-take p.len (drop p.skip (joined p.parts.now))))))
