use Rattle.bac_explain_report.specs.AccountViews.{account_view}
use Rattle.bac_explain_report.proofs.Blocking.{none_so_far, more_so_far, all_printed}
use Rattle.bac_explain_report.proofs.reporter.print_rest.Goals as goal

pub loop-init : goal.loop-init
loop-init g c = none_so_far g.F.ReportForm.IsOne (account_view c.args.account.now) (g.W.Write.contents c.args.out.now)

pub loop-preserved : goal.loop-preserved
loop-preserved g c =
    more_so_far g.F.ReportForm.IsOne (account_view c.args.account.now) (account_view c.loop.account) (account_view c.print_next.new.account)
    (g.W.Write.contents c.args.out.now) (g.W.Write.contents c.loop.out) (g.W.Write.contents c.print_next.new.out)
    c.in_ok-print_next.field-0 c.loop.invariant c.in_ok-print_next.ensures c.if-not-branch.false

pub returns-then-not-branch : goal.returns-then-not-branch
returns-then-not-branch g c =
    all_printed g.F.ReportForm.IsOne (account_view c.args.account.now) (account_view c.loop.account) (account_view c.print_next.new.account)
    (g.W.Write.contents c.args.out.now) (g.W.Write.contents c.loop.out) (g.W.Write.contents c.print_next.new.out)
    c.in_ok-print_next.field-0 c.loop.invariant c.in_ok-print_next.ensures c.if-not-branch.true
