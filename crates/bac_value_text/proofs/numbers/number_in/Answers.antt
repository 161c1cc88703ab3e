use Rattle.std.proofs.Common.{rules, ◌≡◌, ◌∙◌, true}
use Rattle.std.specs.Char.{is_ascii_digit}
use Rattle.std.specs.List.{list_all}
use Rattle.bac_value_text.proofs.DecimalDigits.{number_parsed}
use Rattle.bac_value_text.proofs.numbers.number_in.Goals as goal

pub returns-then-are_digits : goal.returns-then-are_digits
returns-then-are_digits c =
    let digits : list_all is_ascii_digit c.args.word.now ≡ true = search rules in
    c.ok.ensures.value ∙ number_parsed c.args.word.now _ digits c.parse_u64.ensures
