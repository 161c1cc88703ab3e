-- One row has the number of a ticket.
use Rattle.std.proofs.lemmas.List.{length-set}
use Rattle.std.proofs.lemmas.Option.{slice_get-get_or, slice_get_within}
use Rattle.bac_journal.proofs.Lists.{get_set, get_set_other}
use Rattle.bac_journal.proofs.asks.add_number.Goals as goal

pub returns : goal.returns
returns c =
    let within = slice_get_within c.args.rows.now c.args.client c.requires.0 c.requires.1 in
    record {
      before = _;
      after = c.put_number.new.row;
      was = slice_get-get_or c.args.rows.now c.args.client _ within;
      here = get_set c.args.rows.now c.args.client _ within;
      goes = c.put_number.ensures;
      others = λ j ne. get_set_other c.args.rows.now c.args.client j _ ne;
      many = length-set c.args.rows.now c.args.client _;
    }
