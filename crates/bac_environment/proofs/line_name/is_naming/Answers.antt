-- By its last octet.
use Rattle.std.proofs.Common.{◌≡◌, ◌∙◌, ◌&&◌, ℕ, Bool, true, false, not, ap, sym, nat_eq, rules}
use Rattle.bac_environment.specs.LineNames.{ends_with_colon}
use Rattle.bac_environment.specs.LineWords.{is_address}
use Rattle.bac_environment.proofs.LineNames.{colon_last}
use Rattle.bac_environment.proofs.line_name.is_naming.Goals as goal

pub returns-then-octet-eq58 : goal.returns-then-octet-eq58
returns-then-octet-eq58 c =
    let last : ends_with_colon c.args.word.now ≡ nat_eq c.in-Some.octet.now 58 =
    ap ends_with_colon c.in-Some.ensures.cases.0 ∙ colon_last c.in-Some.field-0-1.now c.in-Some.octet.now in
    let yes : ends_with_colon c.args.word.now ≡ true = last ∙ ap (λ (n : ℕ). nat_eq n 58) c.if-octet-eq58.true in
    ap not c.is_address.ensures ∙ sym (ap (λ (b : Bool). b && not (is_address c.args.word.now)) yes)

pub returns-else-octet-eq58 : goal.returns-else-octet-eq58
returns-else-octet-eq58 c =
    let last : ends_with_colon c.args.word.now ≡ nat_eq c.in-Some.octet.now 58 =
    ap ends_with_colon c.in-Some.ensures.cases.0 ∙ colon_last c.in-Some.field-0-1.now c.in-Some.octet.now in
    let no : nat_eq c.in-Some.octet.now 58 ≡ false = search rules in
    no ∙ sym (ap (λ (b : Bool). b && not (is_address c.args.word.now)) (last ∙ no))
