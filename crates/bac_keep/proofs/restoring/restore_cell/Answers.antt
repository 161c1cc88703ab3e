use Rattle.std.proofs.Common.{rules, arith, true, false, ◌≡◌, ◌∙◌, ap, sym, suc, ◌+◌, List, ℕ}
use Rattle.bac_value.specs.Views.{object_identifier_view}
use Rattle.bac_keep.specs.Cells.{file_place, value_place}
use Rattle.bac_keep.specs.Parts.{IsForNothing}
use Rattle.bac_keep.specs.Refused.{IsUnfit}
use Rattle.bac_keep.specs.Held.{IsRising, held}
use Rattle.bac_store.specs.Writes.{file_at}
use Rattle.bac_keep.specs.Restored.{is_writable_file, with_kept_octets, with_kept_values}
use Rattle.bac_keep.proofs.Lists.{chunk_step, count_gone, count_step, values_step}
use Rattle.bac_keep.proofs.Refusals.{chunks_refused, count_refused, for_nothing, octets_refused, passed_on, values_refused}
use Rattle.bac_keep.proofs.restoring.restore_cell.Goals as goal

pub returns-in_ok-restore_values-in-Some-Values-clause-restored : goal.returns-in_ok-restore_values-in-Some-Values-clause-restored
returns-in_ok-restore_values-in-Some-Values-clause-restored c = λ rise.
    let object = c.in-Some-Values.object in
    let id = object_identifier_view object in
    let cell = c.index-cells-at.result in
    let place : cell.place ≡ value_place id c.in-Some-Values.property = search rules in
    c.in_ok-restore_values-in-Some-Values.ensures.restored
    ∙ ap (λ (x : List ℕ). with_kept_values id c.in-Some-Values.property x c.args.store.now) c.deref.ensures.value
    ∙ values_step c.args.cells.now c.args.at cell c.requires.within (sym c.index-cells-at.is) c.args.document.now c.stores_are_in_order.ensures
    c.args.store.now (c.args.at + 1) (omega arith) (c.requires.above rise) id
    (record { kind = object.kind_fits; instance = object.instance_fits }) c.in-Some-Values.property (search rules) place

pub returns-in_ok-restore_octets-in-Some-Count-clause-restored : goal.returns-in_ok-restore_octets-in-Some-Count-clause-restored
returns-in_ok-restore_octets-in-Some-Count-clause-restored c = λ rise.
    let object = c.in-Some-Count.object in
    let id = object_identifier_view object in
    let cell = c.index-cells-at.result in
    let count = c.in_ok-count-in-Some-Count.count in
    let place : cell.place ≡ file_place id 0 = search rules in
    c.in_ok-restore_octets-in-Some-Count.ensures.restored
    ∙ ap (λ (x : List ℕ). with_kept_octets id x c.args.store.now) c.deref-in-Some-Count.ensures.value
    ∙ count_step c.args.cells.now c.args.at cell c.requires.within (sym c.index-cells-at.is) c.args.document.now c.stores_are_in_order.ensures
    c.args.store.now (c.args.at + 1) (omega arith) (c.requires.above rise) id
    (record { kind = object.kind_fits; instance = object.instance_fits }) count c.in_ok-octets-in-Some-Count.octets.items (omega arith) place
    c.in_ok-count-in-Some-Count.ensures.states
    (c.in_ok-octets-in-Some-Count.ensures.joined rise)

pub returns-in-Some-Chunk-clause-restored : goal.returns-in-Some-Chunk-clause-restored
returns-in-Some-Chunk-clause-restored c = λ rise.
    let object = c.in-Some-Chunk.field-0-0 in
    let id = object_identifier_view object in
    let cell = c.index-cells-at.result in
    let place : cell.place ≡ file_place id (suc c.in-Some-Chunk.field-0-1) = search rules in
    chunk_step c.args.cells.now c.args.at cell c.requires.within (sym c.index-cells-at.is) c.args.document.now c.stores_are_in_order.ensures c.args.store.now
    (c.args.at + 1) (omega arith) (c.requires.above rise) id
    (record { kind = object.kind_fits; instance = object.instance_fits }) c.in-Some-Chunk.field-0-1 (search rules) place rise

pub returns-in_err-restore_values-in-Some-Values-clause-refused : goal.returns-in_err-restore_values-in-Some-Values-clause-refused
returns-in_err-restore_values-in-Some-Values-clause-refused c =
    passed_on (λ e. IsRising c.args.cells.now → IsUnfit c.args.document.now (held c.args.cells.now) e) _ c.from_residual.result c.from_residual.ensures.1 (λ rise.
    let object = c.in-Some-Values.object in
    let cell = c.index-cells-at.result in
    let place : cell.place ≡ value_place (object_identifier_view object) c.in-Some-Values.property = search rules in
    values_refused c.args.cells.now c.args.at cell c.requires.within (sym c.index-cells-at.is) rise c.args.document.now c.args.store.now
    (c.args.at + 1) (c.requires.above rise) object c.in-Some-Values.property (search rules) place _ c.deref.ensures.value _
    c.in_err-restore_values-in-Some-Values.ensures.refused)

pub returns-in_err-restore_octets-in-Some-Count-clause-refused : goal.returns-in_err-restore_octets-in-Some-Count-clause-refused
returns-in_err-restore_octets-in-Some-Count-clause-refused c =
    passed_on (λ e. IsRising c.args.cells.now → IsUnfit c.args.document.now (held c.args.cells.now) e) _
    c.from_residual-in_err-restore_octets-in-Some-Count.result c.from_residual-in_err-restore_octets-in-Some-Count.ensures.1 (λ rise.
    let object = c.in-Some-Count.object in
    let cell = c.index-cells-at.result in
    let place : cell.place ≡ file_place (object_identifier_view object) 0 = search rules in
    octets_refused c.args.cells.now c.args.at cell c.requires.within (sym c.index-cells-at.is) rise c.args.document.now c.args.store.now
    (c.args.at + 1) (c.requires.above rise) object c.in_ok-count-in-Some-Count.count _ place c.in_ok-count-in-Some-Count.ensures.states
    (c.deref-in-Some-Count.ensures.value ∙ c.in_ok-octets-in-Some-Count.ensures.joined rise) (search rules) _
    c.in_err-restore_octets-in-Some-Count.ensures.refused)

pub returns-then-not-may_write_file-clause-restored : goal.returns-then-not-may_write_file-clause-restored
returns-then-not-may_write_file-clause-restored c = λ rise.
    let object = c.in-Some-Count.object in
    let id = object_identifier_view object in
    let cell = c.index-cells-at.result in
    let place : cell.place ≡ file_place id 0 = search rules in
    let fixed : is_writable_file (file_at c.args.store.now id) ≡ false = search rules in
    count_gone c.args.cells.now c.args.at cell c.requires.within (sym c.index-cells-at.is) c.args.document.now c.stores_are_in_order.ensures
    c.args.store.now (c.args.at + 1) (omega arith) (c.requires.above rise) id
    (record { kind = object.kind_fits; instance = object.instance_fits }) place fixed

pub returns-in-None-clause-refused : goal.returns-in-None-clause-refused
returns-in-None-clause-refused c = λ rise.
    let cell = c.index-cells-at.result in
    let nothing : IsForNothing cell.place = c.in-None.ensures.none (search rules) in
    for_nothing c.args.cells.now c.args.at cell c.requires.within (sym c.index-cells-at.is) rise c.args.document.now c.args.store.now nothing

pub returns-in_err-count-in-Some-Count-clause-refused : goal.returns-in_err-count-in-Some-Count-clause-refused
returns-in_err-count-in-Some-Count-clause-refused c =
    passed_on (λ e. IsRising c.args.cells.now → IsUnfit c.args.document.now (held c.args.cells.now) e) _
    c.from_residual-in_err-count-in-Some-Count.result c.from_residual-in_err-count-in-Some-Count.ensures.1 (λ rise.
    let object = c.in-Some-Count.object in
    let id = object_identifier_view object in
    let cell = c.index-cells-at.result in
    let place : cell.place ≡ file_place id 0 = search rules in
    let writable : is_writable_file (file_at c.args.store.now id) ≡ true = search rules in
    count_refused c.args.cells.now c.args.at cell c.requires.within (sym c.index-cells-at.is) rise c.args.document.now c.args.store.now
    (c.args.at + 1) (c.requires.above rise) id place writable _ c.in_err-count-in-Some-Count.ensures.refused c.in_err-count-in-Some-Count.ensures.other)

pub returns-in_err-octets-in-Some-Count-clause-refused : goal.returns-in_err-octets-in-Some-Count-clause-refused
returns-in_err-octets-in-Some-Count-clause-refused c =
    passed_on (λ e. IsRising c.args.cells.now → IsUnfit c.args.document.now (held c.args.cells.now) e) _
    c.from_residual-in_err-octets-in-Some-Count.result c.from_residual-in_err-octets-in-Some-Count.ensures.1 (λ rise.
    let object = c.in-Some-Count.object in
    let id = object_identifier_view object in
    let cell = c.index-cells-at.result in
    let place : cell.place ≡ file_place id 0 = search rules in
    let writable : is_writable_file (file_at c.args.store.now id) ≡ true = search rules in
    chunks_refused c.args.cells.now c.args.at cell c.requires.within (sym c.index-cells-at.is) rise c.args.document.now c.args.store.now
    (c.args.at + 1) (c.requires.above rise) id place writable c.in_ok-count-in-Some-Count.count c.in_ok-count-in-Some-Count.ensures.states _
    c.in_err-octets-in-Some-Count.ensures.refused)
