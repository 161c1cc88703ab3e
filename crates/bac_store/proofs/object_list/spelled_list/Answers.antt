use Rattle.std.proofs.Common.{◌∙◌, ◌++◌, ◌∷◌, [], map, take, sym, ap, subst, arith}
use Rattle.std.proofs.lemmas.List.{map-append, take_more}
use Rattle.bac_value.specs.Data.{none, IsData, IsWithin, spelling}
use Rattle.bac_value.specs.Views.{object_identifier_view}
use Rattle.bac_value.specs.Value.{object}
use Rattle.bac_value.specs.Writing.{value_spelling}
use Rattle.bac_store.specs.Described.{list_spelling}
use Rattle.bac_store.proofs.ObjectLists.{data_appended, list_appended}
use Rattle.bac_store.proofs.ValueData.{value_is_data}
use Rattle.bac_store.proofs.object_list.spelled_list.Goals as goal

pub loop-id-init : goal.loop-id-init
unfolding spelling IsWithin
loop-id-init c = record { is = c.new-octets.ensures.items; whole = (none, record { within = tt; is = c.new-octets.ensures.items }) }

pub loop-id-preserved : goal.loop-id-preserved
loop-id-preserved c =
    let ids = c.args.ids.now in
    let x = c.id-item.result in
    let e = c.in_ok-write_value.ensures.ok in
    let text = value_spelling (object (object_identifier_view x)) in
    let more = ap (map object_identifier_view) (take_more ids c.loop-id.id-index x (omega arith))
    ∙ map-append object_identifier_view (take c.loop-id.id-index ids) _
    ∙ ap (λ i. map object_identifier_view (take c.loop-id.id-index ids) ++ object_identifier_view i ∷ []) (sym c.id-item.is) in
    record {
      is = e.is ∙ ap (λ l. l ++ text) c.loop-id.invariant.is
          ∙ sym (ap list_spelling more ∙ list_appended (map object_identifier_view (take c.loop-id.id-index ids)) (object_identifier_view x));
      whole = subst IsData (sym e.is) (data_appended c.loop-id.octets.items text c.loop-id.invariant.whole
          (value_is_data (object (object_identifier_view x)) text e.spelled));
    }
