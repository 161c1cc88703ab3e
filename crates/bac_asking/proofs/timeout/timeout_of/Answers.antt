-- A time is read of the text behind the word.
use Rattle.std.proofs.Common.{◌≡◌, List, ℕ, Option, Some, codes, subst}
use Rattle.bac_environment.specs.Given.{words_text}
use Rattle.bac_asking.specs.Given.{IsReadBy}
use Rattle.bac_asking.specs.Timeouts.{IsTimeout}
use Rattle.bac_asking.proofs.timeout.timeout_of.Goals as goal

pub returns : goal.returns
returns c =
    let is : Some c.in_ok-get_str.field-0.now ≡ words_text c.args.given.now (codes "timeout") = c.in_ok-get_str.ensures in
    subst (λ (x : Option (List ℕ)). IsReadBy IsTimeout x c.read_timeout.result) is c.read_timeout.ensures
