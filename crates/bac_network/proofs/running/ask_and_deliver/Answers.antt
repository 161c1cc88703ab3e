-- What arises from the ask is delivered.
use Rattle.std.proofs.Common.{◌≡◌, ◌⊎◌, ℕ, Bool, List, [], length, ap, inl, inr, refl, subst, sym, ◌∙◌}
use Rattle.bac_apdu.specs.Views.{limits_view}
use Rattle.bac_service.specs.Views.{owned_request_view}
use Rattle.bac_world.specs.ReusingLogs.{NoneReuses}
use Rattle.bac_network.specs.Histories.{WorldView, HasNoReuse, as_world}
use Rattle.bac_network.specs.Logs.{IsSince}
use Rattle.bac_network.specs.Rules.{reuses_by}
use Rattle.bac_network.specs.StraightFaults.{Fails}
use Rattle.bac_network.specs.StraightRuns.{AsksIf}
use Rattle.bac_network.proofs.Logs.{since_all}
use Rattle.bac_network.proofs.StraightGoing.{asked_since, copies_many, notes_many, stays_so, stopped_goes, stuck_fails, told_as, told_why}
use Rattle.bac_network.proofs.Strictly.{settings_on}
use Rattle.bac_network.proofs.running.ask_and_deliver.Goals as goal

pub returns-in_err-ask-clause-goes : goal.returns-in_err-ask-clause-goes
returns-in_err-ask-clause-goes c = λ none.
    let w = c.args.world.now in
    told_why _ (λ f. Fails f w.overtake (as_world w) c.args.client c.args.server (limits_view c.args.limits) (owned_request_view c.args.request)
    (as_world c.ask.new.world)) _ c.from_residual.result c.from_residual.ensures.1
    (inl (c.in_err-ask.ensures.fault, ap (λ v. (as_world v)) c.in_err-ask.ensures.err))

pub deliver_all-requires : goal.deliver_all-requires
deliver_all-requires c = go c.facts_before-since.ensures
  where
    w : WorldView
    w = c.args.world.now

    go : (c.facts_before-since.result ≡ 0) ⊎ ((w.reuses ≡ []) × (c.facts_before-since.result ≡ length w.log))
        → IsSince c.facts_before-since.result (length c.asks-number.result.now) c.ask.new.world.log
    go (inl zero) = subst (λ (since : ℕ). IsSince since (length c.asks-number.result.now) c.ask.new.world.log) (sym zero) (since_all (length c.asks-number.result.now) c.ask.new.world.log)
    go (inr all) =
        let none : HasNoReuse w = subst (λ (l : List Bool). NoneReuses (reuses_by l)) (sym all.0) (λ i. refl) in
        let limits = limits_view c.args.limits in
        let r = owned_request_view c.args.request in
        asked_since w c.ask.new.world (c.requires none) c.args.client c.args.server limits r
        (subst (λ b. AsksIf b (as_world w) c.args.client c.args.server limits r (as_world c.ask.new.world)) c.if-branch.true c.in_ok-ask.ensures.asked)
        _ _ all.1 (notes_many c.asks-number.result.now w.notes c.asks-number.ensures)

pub returns-then-branch-clause-goes : goal.returns-then-branch-clause-goes
returns-then-branch-clause-goes c = λ none.
    let w = c.args.world.now in
    let asked = c.ask.new.world in
    let new = c.deliver_all.new.world in
    let limits = limits_view c.args.limits in
    let r = owned_request_view c.args.request in
    let asks = subst (λ b. AsksIf b (as_world w) c.args.client c.args.server limits r (as_world asked)) c.if-branch.true c.in_ok-ask.ensures.asked in
    let number = notes_many c.asks-number.result.now w.notes c.asks-number.ensures in
    let first = copies_many c.copies-first.result.now w.copies c.copies-first.ensures in
    told_as c.deliver_all.result
    (λ s h. stopped_goes w asked new (c.requires none) none c.args.client c.args.server limits r asks c.ask.ensures.settings.0 c.ask.ensures.settings.2 _ _ _ number
    first s.deliveries s.ask h.0 h.1)
    (λ f h. stuck_fails w asked new (c.requires none) none c.args.client c.args.server limits r asks c.ask.ensures.settings.0 c.ask.ensures.settings.2 _ _ _ number
    first f h)
    c.deliver_all.ensures

pub returns-then-branch-clause-settings : goal.returns-then-branch-clause-settings
returns-then-branch-clause-settings c =
    settings_on c.args.world.now c.ask.new.world c.deliver_all.new.world
    (stays_so (length c.asks-number.result.now) c.facts_before-since.result (length c.copies-first.result.now) c.ask.new.world c.deliver_all.new.world
    c.deliver_all.result c.deliver_all.ensures).0 c.ask.ensures.settings

pub returns-then-branch-clause-passed : goal.returns-then-branch-clause-passed
returns-then-branch-clause-passed c =
    (stays_so (length c.asks-number.result.now) c.facts_before-since.result (length c.copies-first.result.now) c.ask.new.world c.deliver_all.new.world
    c.deliver_all.result c.deliver_all.ensures).1 ∙ c.ask.ensures.passed
