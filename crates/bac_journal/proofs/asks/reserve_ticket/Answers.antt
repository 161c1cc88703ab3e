-- One row has room for a ticket more.
use Rattle.std.proofs.lemmas.List.{length-set}
use Rattle.std.proofs.lemmas.Option.{slice_get-get_or}
use Rattle.bac_journal.proofs.Lists.{get_set, get_set_other}
use Rattle.bac_journal.proofs.Index.{kept_ready}
use Rattle.bac_journal.proofs.asks.reserve_ticket.Goals as goal

pub returns-clause-ok : goal.returns-clause-ok
returns-clause-ok c = λ ok. (c.reserve_number.new.row, get_set c.args.rows.now c.args.client _ c.requires.client, c.reserve_number.ensures.ok ok)

pub returns-clause-kept : goal.returns-clause-kept
returns-clause-kept c =
    kept_ready c.args.rows.now _ c.args.client
    (record {
      before = _;
      after = c.reserve_number.new.row;
      was = slice_get-get_or c.args.rows.now c.args.client _ c.requires.client;
      here = get_set c.args.rows.now c.args.client _ c.requires.client;
      goes = c.reserve_number.ensures.same;
      others = λ j ne. get_set_other c.args.rows.now c.args.client j _ ne;
      many = length-set c.args.rows.now c.args.client _;
    })
