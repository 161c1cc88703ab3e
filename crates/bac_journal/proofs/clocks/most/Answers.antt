-- It is the formula.
use Rattle.std.proofs.Common.{◌≡◌, ℕ, ◌+◌, ◌-◌, ◌*◌, ◌/◌, sym, ap, ◌∙◌, arith}
use Rattle.bac_protocol.specs.Pace.{most}
use Rattle.bac_journal.proofs.clocks.most.Goals as goal

pub returns-clause-is : goal.returns-clause-is
unfolding most
returns-clause-is c = λ life. let all : c.args.ms / 1 ≡ c.args.ms = omega arith in
    ap (λ (d : ℕ). 1000000 * (1000000 * c.args.ms + 999999) / (1000000 - d)) c.from.ensures
    ∙ ap (λ (n : ℕ). 1000000 * (1000000 * n + 999999) / (1000000 - c.args.drift)) (sym all)
