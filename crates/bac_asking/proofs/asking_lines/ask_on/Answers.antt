-- By the node that is ready, or by the next one.
use Rattle.std.proofs.Common.{◌≡◌, true, false, sym, ◌∙◌, rules}
use Rattle.bac_environment.specs.Sockets.{OnPort}
use Rattle.bac_asking.proofs.Clients.{asked_anew, asked_ready}
use Rattle.bac_asking.proofs.asking_lines.ask_on.Goals as goal

pub returns-then-not-ends_spent-clause-asked : goal.returns-then-not-ends_spent-clause-asked
returns-then-not-ends_spent-clause-asked g c =
    let no : c.ends_spent.result ≡ false = search rules in
    asked_ready (OnPort g.M.Sockets.is_bound g.M.Link.Link.failures g.M.Link.Link.calls) c.args.asking.now _ c.in_ok-end.end c.in_ok-start.start _ _ _
    (sym c.ends_spent.ensures ∙ no) c.in_ok-start.ensures.ready c.in_ok-end.ensures.asked

pub returns-clause-asked : goal.returns-clause-asked
returns-clause-asked g c =
    let spent : c.ends_spent.result ≡ true = search rules in
    asked_anew (OnPort g.M.Sockets.is_bound g.M.Link.Link.failures g.M.Link.Link.calls) c.args.asking.now _ c.in_ok-end.end c.in_ok-start.start
    c.ask_from.result _ _ _ _ _ (sym c.ends_spent.ensures ∙ spent) c.in_ok-start.ensures.ready c.in_ok-end.ensures.asked c.in_ok-replace.ensures.renewed
    c.ask_from.ensures.asked
