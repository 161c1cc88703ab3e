-- What was there was replaced.
use Rattle.std.proofs.Common.{refl, arith}
use Rattle.std.proofs.lemmas.Option.{slice_get_read}
use Rattle.bac_asking.specs.InFlight.{sky}
use Rattle.bac_asking.proofs.InFlight.{end_read}
use Rattle.bac_asking.proofs.flights.Flights.take_end.Goals as goal

pub returns : goal.returns
returns c =
    end_read c.args.place c.index_mut.result.now c.replace.result c.replace.new.dest (sky c.args.self.now)
    (slice_get_read c.args.self.now.ends.items _ c.args.place c.index_mut.result.now refl (omega arith) c.index_mut.ensures.value) c.replace.ensures.value
    c.replace.ensures.after
