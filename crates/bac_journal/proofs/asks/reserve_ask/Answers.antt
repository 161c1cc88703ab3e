-- One row is ready.
use Rattle.std.proofs.Common.{length}
use Rattle.std.proofs.lemmas.List.{length-set}
use Rattle.std.proofs.lemmas.Option.{slice_get-get_or}
use Rattle.bac_journal.proofs.Lists.{get_set, get_set_other}
use Rattle.bac_journal.proofs.Index.{as_many_pages, kept_ready}
use Rattle.bac_journal.proofs.asks.reserve_ask.Goals as goal

pub reserve_in-requires-clause-there : goal.reserve_in-requires-clause-there
reserve_in-requires-clause-there c =
    as_many_pages c.args.rows.now c.requires.kept.0 c.requires.kept.1 c.requires.kept.2 c.args.client c.args.server _
    (slice_get-get_or c.args.rows.now c.args.client _ c.requires.client) c.requires.server

pub reserve_in-requires-clause-places : goal.reserve_in-requires-clause-places
reserve_in-requires-clause-places c =
    (length c.args.rows.now, (c.requires.kept.2).places c.args.client _ (slice_get-get_or c.args.rows.now c.args.client _ c.requires.client))

pub returns-clause-ok : goal.returns-clause-ok
returns-clause-ok c = λ ok. (c.reserve_in.new.row, get_set c.args.rows.now c.args.client _ c.requires.client, c.reserve_in.ensures.ok ok)

pub returns-clause-kept : goal.returns-clause-kept
returns-clause-kept c =
    kept_ready c.args.rows.now _ c.args.client
    (record {
      before = _;
      after = c.reserve_in.new.row;
      was = slice_get-get_or c.args.rows.now c.args.client _ c.requires.client;
      here = get_set c.args.rows.now c.args.client _ c.requires.client;
      goes = c.reserve_in.ensures.same;
      others = λ j ne. get_set_other c.args.rows.now c.args.client j _ ne;
      many = length-set c.args.rows.now c.args.client _;
    })
