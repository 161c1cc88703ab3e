-- No octets are copied.
use Rattle.std.proofs.Common.{ℕ, List, [], refl, arith}
use Rattle.bac_c.specs.Results.{IsCopied}

pub none_copied : (before : List ℕ) → IsCopied [] before 0 before
none_copied before = record { count = refl; fits = λ _. refl; short = λ few. absurd (omega (arith, few)) }
