use Rattle.std.specs.Prelude.{◌≡◌, ◌++◌, ℕ, OnOk}
use Rattle.std.specs.Global.{Vec}
use Rattle.std.specs.declared.result.Result.TheVariants.{the_data, Ok, Err}
use Rattle.bac_value.specs.Value.{Datum, IsValue}
use Rattle.bac_value.specs.Writing.{AppendsValue, value_spelling}
use Rattle.bac_value.proofs.Values.{value_spelled}
use Rattle.bac_value.proofs.value_writing.write_value.Goals as goal

-- what was appended stays unless the write failed
kept : {E : Type 0} (r : the_data Unit E) (d : Datum) (old written new : Vec ℕ) →
    OnOk r (new ≡ written) → OnOk r (written.items ≡ old.items ++ value_spelling d) → IsValue d → OnOk r (AppendsValue d old.items new.items)
kept (Ok _) d old written new same is value = record { spelled = value_spelled d value; is = rw same is }
kept (Err _) _ _ _ _ _ _ _ = _

pub returns-clause-ok : goal.returns-clause-ok
returns-clause-ok c = rw c.whole_or_undone.ensures.same
    (kept c.put_value-written.result _ c.args.out.now c.put_value-written.new.out c.whole_or_undone.new.out c.whole_or_undone.ensures.ok c.put_value-written.ensures.ok c.put_value-written.ensures.value)
