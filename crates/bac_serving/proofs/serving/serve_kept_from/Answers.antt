-- Whoever saw it.
use Rattle.bac_serving.proofs.KeptServed.{kept_so, printed_so}
use Rattle.bac_serving.proofs.serving.serve_kept_from.Goals as goal

pub returns-then-not-serving-clause-printed : goal.returns-then-not-serving-clause-printed
returns-then-not-serving-clause-printed g c =
    printed_so _ c.serve_kept.result _ _ _ _ _ _ _ _ c.wait_limit.ensures c.most_turns.ensures c.serve_kept.ensures.printed

pub returns-then-not-serving-clause-kept : goal.returns-then-not-serving-clause-kept
returns-then-not-serving-clause-kept g c =
    kept_so _ _ _ _ g.K.Keeper.IsHonest g.K.Keeper.IsOpen g.K.Keeper.kept g.K.Keeper.noted g.K.Keeper.may_find _ _ _ c.wait_limit.ensures c.most_turns.ensures
    c.serve_kept.ensures.kept

pub returns-then-not-logged-clause-printed : goal.returns-then-not-logged-clause-printed
returns-then-not-logged-clause-printed g c =
    printed_so _ c.serve_kept_logged-logged.result.status _ _ _ _ _ _ _ _ c.wait_limit.ensures c.most_turns.ensures
    c.serve_kept_logged-logged.ensures.logged.served.printed

pub returns-else-not-logged-clause-printed : goal.returns-else-not-logged-clause-printed
returns-else-not-logged-clause-printed g c =
    printed_so _ c.serve_kept_logged-logged.result.status _ _ _ _ _ _ _ _ c.wait_limit.ensures c.most_turns.ensures
    c.serve_kept_logged-logged.ensures.logged.served.printed

pub returns-then-is_some-clause-printed : goal.returns-then-is_some-clause-printed
returns-then-is_some-clause-printed g c =
    printed_so _ c.serve_kept-status.result _ _ _ _ _ _ _ _ c.wait_limit.ensures c.most_turns.ensures c.serve_kept-status.ensures.printed
