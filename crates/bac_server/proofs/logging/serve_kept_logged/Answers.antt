-- The log began whole.
use Rattle.std.proofs.Common.{refl}
use Rattle.bac_server.specs.Logs.{Log}
use Rattle.bac_server.proofs.logging.serve_kept_logged.Goals as goal

pub returns-clause-logged : goal.returns-clause-logged
returns-clause-logged g c =
    let last : Log = record {
      settings = c.serve_kept-status.new.watch.settings;
      whole = c.serve_kept-status.new.watch.whole;
      tally = c.serve_kept-status.new.watch.tally;
      text = g.E.Write.contents c.serve_kept-status.new.err;
    } in
    record {
      last = last;
      whole_is = refl;
      text = refl;
      served =
          record { printed = c.serve_kept-status.ensures.printed; all = c.serve_kept-status.ensures.all; ends = c.serve_kept-status.ensures.kept };
    }
