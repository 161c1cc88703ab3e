use Rattle.bac_service_text.proofs.Listed.{all_printed, member_more}
use Rattle.bac_service_text.proofs.members.print_members.Goals as goal

pub loop-rest-preserved : goal.loop-rest-preserved
loop-rest-preserved g c =
    λ end h. c.loop-rest.invariant end
    (member_more c.args.in_words c.loop-rest.rest.now c.listed-item.result c.in-len1-up.len_at_least c.listed-item.is _ _ end c.in_ok-print_listed.ensures h)

pub returns : goal.returns
returns g c = all_printed c.args.in_words c.args.members.now.all c.loop-rest.rest.now _ _ c.in_default.len_below c.loop-rest.invariant
