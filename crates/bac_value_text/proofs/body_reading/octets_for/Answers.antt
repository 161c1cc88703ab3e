use Rattle.std.proofs.Common.{rules, ◌<◌, length, arith}
use Rattle.std.proofs.lemmas.Grind.{common_steps}
use Rattle.bac_value_text.proofs.BitStrings.{more_octets}
use Rattle.bac_value_text.proofs.body_reading.octets_for.Goals as goal

pub loop-rest-preserved : goal.loop-rest-preserved
loop-rest-preserved c =
    let some : 0 < length c.loop-rest.rest.now = search rules in
    let more = more_octets c.loop-rest.rest.now some in
    grind (arith, common_steps, more)
