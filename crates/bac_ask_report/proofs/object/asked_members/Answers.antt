use Rattle.std.proofs.Common.{◌∙◌, ap}
use Rattle.serde_json.specs.Data.{string}
use Rattle.bac_json.specs.Forms.{object_form}
use Rattle.bac_ask_report.specs.Objects.{index_or_null, property_or_null}
use Rattle.bac_ask_report.specs.Records.{record_view}
use Rattle.bac_ask_report.proofs.Told.{asked_told}
use Rattle.bac_ask_report.proofs.object.asked_members.Goals as goal

pub returns : goal.returns
returns c =
    asked_told (record_view c.args.ask.now) _ _ _ _ _ _ (c.index_or_null.ensures ∙ ap index_or_null c.property-reference.ensures) c.number_or_null.ensures
    (c.in_ok-named.ensures ∙ ap object_form c.object.ensures) c.in_ok-peer.ensures
    (c.in_ok-property.ensures ∙ ap property_or_null c.property-reference.ensures) (c.in_ok-request.ensures ∙ ap string c.verb.ensures)
