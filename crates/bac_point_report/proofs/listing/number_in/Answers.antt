-- The first element is the only one, or another follows.
use Rattle.std.proofs.Common.{rules, ◌≡◌, [], ◌++◌, length, ap, arith}
use Rattle.std.proofs.lemmas.List.{nil_from_length}
use Rattle.std.proofs.lemmas.Result.{IfOk-weaker}
use Rattle.bac_value.specs.Element.{part_spelling}
use Rattle.bac_value.specs.Views.{element_view}
use Rattle.bac_point_report.proofs.Numbers.{more_than_one, of_one}
use Rattle.bac_point_report.proofs.listing.number_in.Goals as goal

pub returns-then-not-is_empty : goal.returns-then-not-is_empty
returns-then-not-is_empty c =
    let are : c.args.values.octets.now ≡ part_spelling (element_view (λ s. s.now) c.in-Some.element) ++ c.in-Some.others.octets.now = search rules in
    more_than_one _ _ _ c.in-Some.ensures.0 are (λ none. grind (arith, ap length none, c.is_empty.ensures, c.if-not-is_empty.true))

pub returns : goal.returns
returns c =
    let are : c.args.values.octets.now ≡ part_spelling (element_view (λ s. s.now) c.in-Some.element) ++ c.in-Some.others.octets.now = search rules in
    let last : c.in-Some.others.octets.now ≡ [] = nil_from_length _ (grind (arith, c.is_empty.ensures, c.if-not-is_empty.false)) in
    IfOk-weaker c.unsigned_of.result _ _ (λ o told. of_one o _ _ _ c.in-Some.ensures.0 are last told) c.unsigned_of.ensures
