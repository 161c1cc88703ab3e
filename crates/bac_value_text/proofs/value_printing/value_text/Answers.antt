use Rattle.std.proofs.Common.{◌≡◌, ◌≢◌, ◌++◌, ◌∷◌, arith, refl}
use Rattle.std.proofs.lemmas.Grind.{common_steps}
use Rattle.bac_value.specs.Value.{null}
use Rattle.bac_value.specs.Views.{value_view}
use Rattle.bac_value.specs.declared.value.Value.{Value}
use Rattle.bac_value.specs.declared.value.Value.TheVariants as value
use Rattle.bac_value_text.specs.Numbers.{separator_octet}
use Rattle.bac_value_text.specs.Texts.{kind_name, IsTextOf}
use Rattle.bac_value_text.proofs.Values.{named_is}
use Rattle.bac_value_text.proofs.value_printing.value_text.Goals as goal

no_null : (v : Value) → v ≢ value.Null → value_view v ≢ null
no_null value.Null some e = some refl
no_null v some e = cc e

pub returns : goal.returns
returns c =
    let made : c.extend_from_slice.new.self.items ≡ kind_name (value_view c.args.value.now) ++ (separator_octet c.args.separator ∷ c.in_ok-body.body.items)
    = grind (arith, common_steps) in
    let is : IsTextOf (separator_octet c.args.separator) (value_view c.args.value.now) c.extend_from_slice.new.self.items
    = named_is _ (value_view c.args.value.now) _ (no_null c.args.value.now c.in_default.not-Null) (c.in_ok-body.body.items, (c.in_ok-body.ensures.is, made)) in
    record { is = is; reads = c.printed_values_are_read.ensures c.args.separator (value_view c.args.value.now) _ c.body_text.ensures.valid c.body_text.ensures.each is }
