use Rattle.std.proofs.Common.{ℕ, List, reverse, drop, length, subst, sym}
use Rattle.bac_value.specs.Reading.{IsOver}
use Rattle.bac_value.proofs.Turns.{passed_in, onward_in}
use Rattle.bac_value.proofs.data_reading.pass.Goals as goal

pub returns-clause-onward : goal.returns-clause-onward
returns-clause-onward g c =
    let octets = g.O.Octets.octets in
    onward_in (reverse c.args.opened.now.items) (octets c.args.octets) c.run-run.result.now (reverse c.pass_run-is_over.new.opened.items)
    c.pass_run-is_over.result.0.now (octets c.split-rest.result.1) c.run-run.ensures c.pass_run-is_over.ensures.passed c.split-rest.ensures.after

pub returns-clause-over : goal.returns-clause-over
returns-clause-over g c over =
    let octets = g.O.Octets.octets in
    let xs = octets c.args.octets in
    let run = c.run-run.result.now in
    let opened = reverse c.pass_run-is_over.new.opened.items in
    subst (λ (l : List ℕ). IsOver opened l)
    (sym (passed_in (reverse c.args.opened.now.items) xs run opened c.pass_run-is_over.result.0.now (octets c.split-rest.result.1) c.run-run.ensures
    c.pass_run-is_over.ensures.passed c.split-rest.ensures.after))
    (c.pass_run-is_over.ensures.over over (drop (length run) xs))
