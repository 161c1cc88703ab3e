-- Each clock goes on.
use Rattle.std.proofs.Common.{◌≡◌, ◌<◌, ℕ, ◌+◌, ◌*◌, length, ap, ◌∙◌, arith}
use Rattle.bac_world.specs.World.{passes}
use Rattle.bac_journal.specs.Clocks.{parts_of, steps_of, time_of, view_of_own}
use Rattle.bac_journal.specs.Journals.{JournalView}
use Rattle.bac_journal.proofs.Passing.{time_passes}
use Rattle.bac_journal.proofs.journal.Journal.advance.Goals as goal

pub pass-requires : goal.pass-requires
pass-requires c =
    let seen = ap (λ (v : JournalView). parts_of v.own * c.args.by) c.self.view_is in
    let parts = ap (λ (k : ℕ). k * c.args.by) c.parts.ensures in
    let sum : c.self.inside.moment + parts_of (view_of_own c.self.inside.own) * c.args.by < 18446744073709551616 = omega arith in
    (c.self.inside.moment, length c.self.inside.links.items, sum, c.self.invariant.2)

pub returns-clause-time : goal.returns-clause-time
returns-clause-time c = λ is.
    let seen = ap (λ (v : JournalView). parts_of v.own * c.args.by) c.self.view_is in
    let parts = ap (λ (k : ℕ). k * c.args.by) c.parts.ensures in
    let sum : c.in_ok-self-inside.field-0 ≡ c.self.inside.moment + parts_of (view_of_own c.self.inside.own) * c.args.by = omega arith in
    (λ i. time_of (sum i) (c.pass.ensures i))
    ∙ time_passes c.self.inside.moment (length c.self.inside.links.items) (view_of_own c.self.inside.own) c.self.invariant.2 c.args.by
    ∙ ap (λ (v : JournalView). passes (time_of v.moment v.own) (parts_of v.own * c.args.by) (steps_of v.own c.args.by)) c.self.view_is
