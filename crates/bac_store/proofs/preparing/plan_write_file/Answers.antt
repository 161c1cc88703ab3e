use Rattle.std.proofs.Common.{sym, map}
use Rattle.bac_value.specs.Views.{object_identifier_view}
use Rattle.bac_service.specs.Values.Request.{WriteFile}
use Rattle.bac_service.specs.Values.WriteAccess.{WriteStream}
use Rattle.bac_store.specs.Plans.{IsPlanFor, IsStreamPlan}
use Rattle.bac_store.specs.Views.{entry_view, file_view}
use Rattle.bac_store.proofs.PlanLaws.{IfOk-map, stream_plan}
use Rattle.bac_store.proofs.preparing.plan_write_file.Goals as goal

pub returns-in-Stream-clause-plan : goal.returns-in-Stream-clause-plan
returns-in-Stream-clause-plan c =
    let s = map entry_view c.args.objects.now in
    let id = object_identifier_view c.args.write.file in
    let start = c.in-Stream.stream.start in
    let new = c.in-Stream.stream.content.octets.now in
    let f = file_view c.in-Some.file.now in
    rw c.in-Stream.is
    (IfOk-map c.plan_write_stream.result (IsStreamPlan id start new f) (IsPlanFor s (WriteFile id (WriteStream start new)))
    (λ p plan. stream_plan s id start new f p c.requires (sym (c.in-Some.ensures).found) plan) c.plan_write_stream.ensures.plan)
