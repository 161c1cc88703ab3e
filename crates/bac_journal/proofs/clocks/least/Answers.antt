-- It is the formula.
use Rattle.std.proofs.Common.{◌≡◌, ℕ, ◌+◌, ◌-◌, ◌*◌, ◌/◌, sym, ap, ◌∙◌, arith}
use Rattle.bac_protocol.specs.Pace.{least}
use Rattle.bac_journal.proofs.clocks.least.Goals as goal

pub returns : goal.returns
unfolding least
returns c = λ life. let all : c.args.ms / 1 ≡ c.args.ms = omega arith in
    ap (λ (d : ℕ). (1000000 * (1000000 * c.args.ms + 1) - 1) / (1000000 + d)) c.from.ensures
    ∙ ap (λ (n : ℕ). (1000000 * (1000000 * n + 1) - 1) / (1000000 + c.args.drift)) (sym all)
