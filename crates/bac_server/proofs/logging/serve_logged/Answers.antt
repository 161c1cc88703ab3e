-- The log began whole, and is whole in the end.
use Rattle.std.proofs.Common.{true, refl}
use Rattle.bac_server.specs.Logs.{Log, NONE_AWAY, written_in}
use Rattle.bac_server.proofs.LoggedTurns.{logged}
use Rattle.bac_server.proofs.logging.serve_logged.Goals as goal

pub returns-clause-logged : goal.returns-clause-logged
returns-clause-logged g c whole =
    let from : Log = record { settings = c.args.command.now.settings; whole = true; tally = NONE_AWAY; text = g.E.Write.contents c.args.err.now } in
    let to : Log = record {
      settings = c.serve-status.new.watch.settings;
      whole = c.serve-status.new.watch.whole;
      tally = c.serve-status.new.watch.tally;
      text = g.E.Write.contents c.serve-status.new.err;
    } in
    record {
      last = written_in to;
      text = refl;
      watched =
          logged c.serve-status.result c.args.command.now.limit.wait_limit c.args.command.now.limit.turns from to _ _ whole c.serve-status.ensures.watched;
    }
