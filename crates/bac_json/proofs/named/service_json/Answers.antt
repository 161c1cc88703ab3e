use Rattle.bac_json.proofs.Added.{named_form, one_added}
use Rattle.bac_json.proofs.named.service_json.Goals as goal

pub loop-rest-preserved : goal.loop-rest-preserved
loop-rest-preserved c =
    one_added c.args.members.now.all c.loop-rest.rest.now c.listed-item.result c.in-len1-up.len_at_least c.listed-item.is _ c.loop-rest.object
    c.with_listed-object.result c.loop-rest.invariant c.with_listed-object.ensures

pub returns : goal.returns
returns c =
    named_form c.args.name.now c.args.members.now.all c.loop-rest.rest.now c.new.result c.text-object.result c.loop-rest.object _ c.in_default.len_below
    c.new.ensures c.text-object.ensures c.loop-rest.invariant c.in_ok-end.ensures
