-- The keeper is that of the database that was opened, which is closed in the end.
use Rattle.std.proofs.Common.{◌≤◌, subst}
use Rattle.sqlite_trees.specs.View.{doubt}
use Rattle.bac_keep_file.specs.Steps.{NoMore}
use Rattle.bac_environment.specs.Sockets.{OnClock, OnPort}
use Rattle.bac_serving.proofs.Opened.{begins_kept, closed_so, kept_over}
use Rattle.bac_environment.proofs.Statuses.{kept_or_failed}
use Rattle.bac_serving.proofs.keeping.serve_database.Goals as goal

pub serve_round-status-requires : goal.serve_round-status-requires
serve_round-status-requires g c =
    begins_kept g.M.Database.Store.view (λ k. k.database) (λ k. k.document) c.in-Ok.opened.0 c.args.served.store c.in-Ok-keeper_over.opened.1
    c.in-Ok-keeper_over.opened.0 _ c.in-Ok-new.ensures.keeper c.in-Ok-keeper_over.ensures.document c.in-Ok-keeper_over.ensures.store

-- (no keeper was given back: the database is as it was last)
pub returns-in_default-keeper : goal.returns-in_default-keeper
returns-in_default-keeper g c =
    kept_over g.M.Database.Store.view (λ k. k.database) (λ k. k.document) _ g.M.Databases.is_database g.M.Database.Store.recovers g.met.M.Database.Store.settled
    c.args.path.now c.in-Ok.opened.1 c.in-Ok.opened.0 c.args.served.store c.in-Ok-keeper_over.opened.1 c.in-Ok-keeper_over.opened.0 _ _
    (OnPort g.M.Sockets.is_bound g.M.Link.Link.failures g.M.Link.Link.calls) (OnClock g.M.Sockets.is_made g.M.Timer.Clock.told) c.args.serving.now
    c.restarted_by-serving.result _ _ c.serve_round-status.result.0 c.in-Ok.ensures.opened c.in-Ok-new.ensures.keeper c.in-Ok-keeper_over.ensures.document
    c.in-Ok-keeper_over.ensures.store c.restarted_by-serving.ensures (λ last _. record { ended = last.database; honest = λ clean. clean; crash = λ db may. may })
    c.serve_round-status.ensures

pub returns : goal.returns
returns g c =
    kept_or_failed _ _ _ c.serve_round-status.result.0 c.close_kept.result c.close_kept.ensures.status
    (kept_over g.M.Database.Store.view (λ k. k.database) (λ k. k.document) _ g.M.Databases.is_database g.M.Database.Store.recovers g.met.M.Database.Store.settled
    c.args.path.now c.in-Ok.opened.1 c.in-Ok.opened.0 c.args.served.store c.in-Ok-keeper_over.opened.1 c.in-Ok-keeper_over.opened.0 _ _
    (OnPort g.M.Sockets.is_bound g.M.Link.Link.failures g.M.Link.Link.calls) (OnClock g.M.Sockets.is_made g.M.Timer.Clock.told) c.args.serving.now
    c.restarted_by-serving.result _ _ c.serve_round-status.result.0 c.in-Ok.ensures.opened c.in-Ok-new.ensures.keeper c.in-Ok-keeper_over.ensures.document
    c.in-Ok-keeper_over.ensures.store c.restarted_by-serving.ensures
    (closed_so g.M.Database.Store.view (λ k. k.database) (λ k. k.document) g.M.Database.Store.recovers c.serve_round-status.result.1 c.in-Some.keeper
    c.close_kept.new.database c.in-Some.is
    (subst (λ d. doubt (g.M.Database.Store.view d).is_clean ≤ doubt (g.M.Database.Store.view c.close_kept.new.database).is_clean)
    c.into_database-database.ensures c.close_kept.ensures.clean)
    (subst (λ d. NoMore g.M.Database.Store.recovers d c.close_kept.new.database) c.into_database-database.ensures
    c.close_kept.ensures.crash))
    c.serve_round-status.ensures)
