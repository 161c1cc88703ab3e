use Rattle.std.proofs.Common.{arith}
use Rattle.bac_value.specs.Reading.{tag_at}
use Rattle.bac_value.specs.Spelling.{SpellsTag}
use Rattle.bac_value.specs.Views.{tag_view}
use Rattle.bac_value.proofs.Steps.{found, refused}
use Rattle.bac_value.proofs.Tags.{tag_exact}
use Rattle.bac_value.proofs.tag_reading.tag_in.Goals as goal

pub returns-in-Ok : goal.returns-in-Ok
returns-in-Ok g c = found tag_at SpellsTag tag_exact (g.O.Octets.octets c.args.octets) (g.O.Octets.octets c.in-Ok.read.1) _ (tag_view c.in-Ok.read.0)
    c.len-all.ensures.each (omega (arith, c.len-all.ensures.count, c.len.ensures.count)) c.in-Ok.ensures.reads.1

pub returns-in-Err : goal.returns-in-Err
returns-in-Err g c = refused tag_at SpellsTag tag_exact (g.O.Octets.octets c.args.octets) c.in-Err.kind c.in-Err.ensures.reads
