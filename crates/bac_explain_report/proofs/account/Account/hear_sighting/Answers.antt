-- The report on the APDU, and the state after it: part by part.
use Rattle.std.proofs.Common.{◌≡◌, ◌∙◌, ℕ, List, Option, ap, map}
use Rattle.std.specs.Option.{option_map}
use Rattle.bac_explain.specs.Closings.{closed_view, heard_view}
use Rattle.bac_explain.specs.Sightings.{sighting_view}
use Rattle.bac_explain.specs.Tables.{Transactions, awaited, heard}
use Rattle.bac_explain_report.specs.AccountViews.{account_view}
use Rattle.bac_explain_report.specs.Accounts.{Account, heard_tally, hearing, is_alone, kept, told_by}
use Rattle.bac_explain_report.specs.Tallies.{with_alone, with_blocks, with_finding}
use Rattle.bac_explain_report.specs.declared.tally.Tally.{Tally}
use Rattle.bac_explain_report.proofs.Hearings.{hearing_told}
use Rattle.bac_explain_report.proofs.account.Account.hear_sighting.Goals as goal

pub returns : goal.returns
returns c =
    let now = c.args.now in
    let s = sighting_view c.args.sighting in
    let o = c.take.new.self.options in
    let over = option_map closed_view c.pop_over-over.result in
    let h = heard_view c.take.new.self.explainer c.in_ok-heard.heard in
    let its = awaited now s.key c.take.new.self.explainer in
    let counted = c.with_alone-self.ensures
    ∙ ap (λ b. with_alone b c.with_finding.result) c.is_alone.ensures
    ∙ ap (with_alone (is_alone its c.told_finding-finding.result)) (c.with_finding.ensures
    ∙ ap (with_finding h.finding) (c.with_blocks-2.ensures ∙ ap (with_blocks o.selection h.closed) c.with_blocks.ensures)) in
    hearing_told o now s over h (account_view c.take.new.self).sums _ _ _ _ _ (account_view c.tell.new.self) c.shown.ensures c.shown-2.ensures
    c.told_finding-finding.ensures c.is_again-again.ensures c.is_answered-answered.ensures
    (c.tell.ensures ∙ (λ i. record {
      options = o;
      slots = told_by c.is_answered-answered.result now s.key c.take.new.self.explainer;
      sums = record { tally = counted i; devices = c.in_ok-count_both.ensures i };
    }))
    ∙ ap (λ (a : Account). hearing a.options now s over h a.sums) c.in_ok-heard.ensures.next
    ∙ (λ i. hearing c.args.self.now.options now s (c.pop_over-over.ensures.closed i)
    ((c.in_ok-heard.ensures.is_heard
    ∙ ap (λ (l : Transactions). kept c.args.self.now.tally.frames now s (heard c.args.self.now.options.strict_ids now s.key s.role s.octets l))
    c.pop_over-over.ensures.left) i)
    (account_view c.args.self.now).sums)
