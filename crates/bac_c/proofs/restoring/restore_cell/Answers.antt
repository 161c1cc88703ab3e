-- The cell is restored on top of those after it, and fits; or it is the one that does not.
use Rattle.std.proofs.Common.{rules, arith, ◌≡◌, ◌∙◌, ◌<◌, ap, refl, sym, suc, ◌+◌, List, ℕ, drop, false, true}
use Rattle.bac_value.specs.Views.{object_identifier_view}
use Rattle.bac_keep.specs.Cells.{NUMBERS, file_place, value_place}
use Rattle.bac_keep.specs.Restored.{with_kept_octets, with_kept_values}
use Rattle.bac_keep.specs.Held.{IsRising, held}
use Rattle.bac_keep.proofs.Lists.{chunk_step, count_gone, count_step, values_step}
use Rattle.bac_c.specs.Fitting.{IsWrong, octets_fit, values_fit}
use Rattle.bac_c.specs.declared.kept_fault.KeptFault.TheVariants as fault
use Rattle.bac_c.proofs.Fits.{counted, file_under, is_chunk, is_file, is_fixed_file, is_value, joined_from, no_count, octets_under, one_fits, place_of, uncounted}
use Rattle.bac_c.proofs.Fits.{values_under, wrong_part, wrong_place}
use Rattle.bac_c.proofs.restoring.restore_cell.Goals as goal

pub returns-in_err-restore_values-in-Some-Values-clause-fault : goal.returns-in_err-restore_values-in-Some-Values-clause-fault
returns-in_err-restore_values-in-Some-Values-clause-fault c =
    let object = c.in-Some-Values.object in
    let id = object_identifier_view object in
    let n = c.in-Some-Values.property in
    let cell = c.index-cells-at.result in
    let document = c.args.document.now in
    let rest = held (drop (c.args.at + 1) c.args.cells.now) in
    let place : cell.place ≡ value_place id n = search rules in
    let small : n < NUMBERS = search rules in
    let wrong : IsRising c.args.cells.now → IsWrong c.in_err-restore_values-in-Some-Values.field-0.0 document (held c.args.cells.now) = λ rise.
    wrong_part document c.args.cells.now c.args.at cell c.requires.within (sym c.index-cells-at.is) _ _ cell.place refl
    (λ unfit. is_value document c.args.cells.now rise c.args.at cell c.requires.within (sym c.index-cells-at.is) object false n small place
    (values_under rest document c.args.store.now (c.requires.above rise) id false n cell.octets.items
    (ap (values_fit c.args.store.now id n) (sym c.deref.ensures.value) ∙ unfit)))
    c.in_err-restore_values-in-Some-Values.ensures.fault in
    search (rules, wrong)

pub returns-then-not-is_writable_as_file-clause-made : goal.returns-then-not-is_writable_as_file-clause-made
returns-then-not-is_writable_as_file-clause-made c = λ rise.
    let object = c.in-Some-Count.object in
    let cell = c.index-cells-at.result in
    let place : cell.place ≡ file_place (object_identifier_view object) 0 = search rules in
    count_gone c.args.cells.now c.args.at cell c.requires.within (sym c.index-cells-at.is) c.args.document.now c.stores_are_in_order.ensures c.args.store.now
    (c.args.at + 1) (omega arith) (c.requires.above rise) (object_identifier_view object)
    (record { kind = object.kind_fits; instance = object.instance_fits }) place (sym c.is_writable_as_file.ensures ∙ c.if-not-is_writable_as_file.true)

pub returns-then-not-is_writable_as_file-clause-fits : goal.returns-then-not-is_writable_as_file-clause-fits
returns-then-not-is_writable_as_file-clause-fits c = λ rise.
    let object = c.in-Some-Count.object in
    let id = object_identifier_view object in
    let cell = c.index-cells-at.result in
    let rest = held (drop (c.args.at + 1) c.args.cells.now) in
    let place : cell.place ≡ file_place id 0 = search rules in
    one_fits c.args.document.now (held c.args.cells.now) c.args.cells.now c.args.at (c.args.at + 1) cell c.requires.within (sym c.index-cells-at.is) (omega arith)
    (is_fixed_file c.args.document.now (held c.args.cells.now) cell.place object place
    (file_under rest c.args.document.now c.args.store.now (c.requires.above rise) id false (sym c.is_writable_as_file.ensures ∙ c.if-not-is_writable_as_file.true)))
    (c.requires.others rise)

pub returns-in_err-count-in-Some-Count-clause-fault : goal.returns-in_err-count-in-Some-Count-clause-fault
returns-in_err-count-in-Some-Count-clause-fault c =
    let object = c.in-Some-Count.object in
    let id = object_identifier_view object in
    let cell = c.index-cells-at.result in
    let document = c.args.document.now in
    let rest = held (drop (c.args.at + 1) c.args.cells.now) in
    let place : cell.place ≡ file_place id 0 = search rules in
    let wrong : IsRising c.args.cells.now → IsWrong c.in_err-count-in-Some-Count.field-0.0 document (held c.args.cells.now) = λ rise.
    wrong_part document c.args.cells.now c.args.at cell c.requires.within (sym c.index-cells-at.is) _ _ cell.place refl
    (λ lacking. is_file document c.args.cells.now rise c.args.at cell c.requires.within (sym c.index-cells-at.is) object false place
    (file_under rest document c.args.store.now (c.requires.above rise) id true (sym c.is_writable_as_file.ensures ∙ c.if-not-is_writable_as_file.false))
    (no_count document (held c.args.cells.now) id cell.octets.items lacking))
    c.in_err-count-in-Some-Count.ensures.fault in
    search (rules, wrong)

pub octets_at-requires-clause-place : goal.octets_at-requires-clause-place
octets_at-requires-clause-place c =
    let place : c.index-cells-at.result.place ≡ file_place (object_identifier_view c.in-Some-Count.object) 0 = search rules in
    place_of c.args.cells.now c.args.at c.index-cells-at.result _ c.requires.within (sym c.index-cells-at.is) place

pub returns-in-None-clause-fault : goal.returns-in-None-clause-fault
returns-in-None-clause-fault c =
    λ rise. wrong_place c.args.document.now c.args.cells.now c.args.at c.index-cells-at.result c.requires.within (sym c.index-cells-at.is)
    (fault.Wrong c.index-cells-at.result.place) refl (λ placed. c.in-None.ensures.may.1 placed refl)

pub returns-in_ok-restore_values-in-Some-Values-clause-made : goal.returns-in_ok-restore_values-in-Some-Values-clause-made
returns-in_ok-restore_values-in-Some-Values-clause-made c = λ rise.
    let object = c.in-Some-Values.object in
    let id = object_identifier_view object in
    let cell = c.index-cells-at.result in
    let place : cell.place ≡ value_place id c.in-Some-Values.property = search rules in
    c.in_ok-restore_values-in-Some-Values.ensures.made
    ∙ ap (λ (x : List ℕ). with_kept_values id c.in-Some-Values.property x c.args.store.now) c.deref.ensures.value
    ∙ values_step c.args.cells.now c.args.at cell c.requires.within (sym c.index-cells-at.is) c.args.document.now c.stores_are_in_order.ensures
    c.args.store.now (c.args.at + 1) (omega arith) (c.requires.above rise) id
    (record { kind = object.kind_fits; instance = object.instance_fits }) c.in-Some-Values.property (search rules) place

pub returns-in_ok-restore_values-in-Some-Values-clause-fits : goal.returns-in_ok-restore_values-in-Some-Values-clause-fits
returns-in_ok-restore_values-in-Some-Values-clause-fits c = λ rise.
    let object = c.in-Some-Values.object in
    let id = object_identifier_view object in
    let n = c.in-Some-Values.property in
    let cell = c.index-cells-at.result in
    let rest = held (drop (c.args.at + 1) c.args.cells.now) in
    let place : cell.place ≡ value_place id n = search rules in
    let taken : values_fit c.args.store.now id n cell.octets.items ≡ true =
    ap (values_fit c.args.store.now id n) (sym c.deref.ensures.value) ∙ c.in_ok-restore_values-in-Some-Values.ensures.fits in
    one_fits c.args.document.now (held c.args.cells.now) c.args.cells.now c.args.at (c.args.at + 1) cell c.requires.within (sym c.index-cells-at.is) (omega arith)
    (is_value c.args.document.now c.args.cells.now rise c.args.at cell c.requires.within (sym c.index-cells-at.is) object true n (search rules) place
    (values_under rest c.args.document.now c.args.store.now (c.requires.above rise) id true n cell.octets.items taken))
    (c.requires.others rise)

pub returns-in_err-octets-in-Some-Count-clause-fault : goal.returns-in_err-octets-in-Some-Count-clause-fault
returns-in_err-octets-in-Some-Count-clause-fault c =
    let object = c.in-Some-Count.object in
    let id = object_identifier_view object in
    let cell = c.index-cells-at.result in
    let document = c.args.document.now in
    let rest = held (drop (c.args.at + 1) c.args.cells.now) in
    let place : cell.place ≡ file_place id 0 = search rules in
    let wrong : IsRising c.args.cells.now → IsWrong c.in_err-octets-in-Some-Count.field-0.0 document (held c.args.cells.now) = λ rise.
    wrong_part document c.args.cells.now c.args.at cell c.requires.within (sym c.index-cells-at.is) _ _ (file_place id 0) (sym place)
    (λ lacking. is_file document c.args.cells.now rise c.args.at cell c.requires.within (sym c.index-cells-at.is) object false place
    (file_under rest document c.args.store.now (c.requires.above rise) id true (sym c.is_writable_as_file.ensures ∙ c.if-not-is_writable_as_file.false))
    (uncounted document (held c.args.cells.now) id cell.octets.items c.in_ok-count-in-Some-Count.count c.in_ok-count-in-Some-Count.ensures.made (lacking rise)))
    c.in_err-octets-in-Some-Count.ensures.fault in
    search (rules, wrong)

pub returns-in_err-restore_octets-in-Some-Count-clause-fault : goal.returns-in_err-restore_octets-in-Some-Count-clause-fault
returns-in_err-restore_octets-in-Some-Count-clause-fault c =
    let object = c.in-Some-Count.object in
    let id = object_identifier_view object in
    let cell = c.index-cells-at.result in
    let count = c.in_ok-count-in-Some-Count.count in
    let octets = c.in_ok-octets-in-Some-Count.octets.items in
    let document = c.args.document.now in
    let rest = held (drop (c.args.at + 1) c.args.cells.now) in
    let place : cell.place ≡ file_place id 0 = search rules in
    let here = place_of c.args.cells.now c.args.at cell (file_place id 0) c.requires.within (sym c.index-cells-at.is) place in
    let wrong : IsRising c.args.cells.now → IsWrong c.in_err-restore_octets-in-Some-Count.field-0.0 document (held c.args.cells.now) = λ rise.
    wrong_part document c.args.cells.now c.args.at cell c.requires.within (sym c.index-cells-at.is) _ _ cell.place refl
    (λ unfit. is_file document c.args.cells.now rise c.args.at cell c.requires.within (sym c.index-cells-at.is) object false place
    (file_under rest document c.args.store.now (c.requires.above rise) id true (sym c.is_writable_as_file.ensures ∙ c.if-not-is_writable_as_file.false))
    (counted document (held c.args.cells.now) id cell.octets.items octets count true false c.in_ok-count-in-Some-Count.ensures.made
    (c.in_ok-octets-in-Some-Count.ensures.fits rise)
    (c.in_ok-octets-in-Some-Count.ensures.made rise ∙ joined_from c.args.cells.now c.args.at id rise here count)
    (octets_under rest document c.args.store.now (c.requires.above rise) id false octets
    (ap (octets_fit c.args.store.now id) (sym c.deref-in-Some-Count.ensures.value) ∙ unfit))))
    c.in_err-restore_octets-in-Some-Count.ensures.fault in
    search (rules, wrong)

pub returns-in_ok-restore_octets-in-Some-Count-clause-made : goal.returns-in_ok-restore_octets-in-Some-Count-clause-made
returns-in_ok-restore_octets-in-Some-Count-clause-made c = λ rise.
    let object = c.in-Some-Count.object in
    let id = object_identifier_view object in
    let cell = c.index-cells-at.result in
    let count = c.in_ok-count-in-Some-Count.count in
    let place : cell.place ≡ file_place id 0 = search rules in
    c.in_ok-restore_octets-in-Some-Count.ensures.made
    ∙ ap (λ (x : List ℕ). with_kept_octets id x c.args.store.now) c.deref-in-Some-Count.ensures.value
    ∙ count_step c.args.cells.now c.args.at cell c.requires.within (sym c.index-cells-at.is) c.args.document.now c.stores_are_in_order.ensures
    c.args.store.now (c.args.at + 1) (omega arith) (c.requires.above rise) id
    (record { kind = object.kind_fits; instance = object.instance_fits }) count c.in_ok-octets-in-Some-Count.octets.items (omega arith) place
    c.in_ok-count-in-Some-Count.ensures.made
    (c.in_ok-octets-in-Some-Count.ensures.made rise)

pub returns-in_ok-restore_octets-in-Some-Count-clause-fits : goal.returns-in_ok-restore_octets-in-Some-Count-clause-fits
returns-in_ok-restore_octets-in-Some-Count-clause-fits c = λ rise.
    let object = c.in-Some-Count.object in
    let id = object_identifier_view object in
    let cell = c.index-cells-at.result in
    let count = c.in_ok-count-in-Some-Count.count in
    let octets = c.in_ok-octets-in-Some-Count.octets.items in
    let rest = held (drop (c.args.at + 1) c.args.cells.now) in
    let place : cell.place ≡ file_place id 0 = search rules in
    let here = place_of c.args.cells.now c.args.at cell (file_place id 0) c.requires.within (sym c.index-cells-at.is) place in
    let taken : octets_fit c.args.store.now id octets ≡ true =
    ap (octets_fit c.args.store.now id) (sym c.deref-in-Some-Count.ensures.value) ∙ c.in_ok-restore_octets-in-Some-Count.ensures.fits in
    one_fits c.args.document.now (held c.args.cells.now) c.args.cells.now c.args.at (c.args.at + 1) cell c.requires.within (sym c.index-cells-at.is) (omega arith)
    (is_file c.args.document.now c.args.cells.now rise c.args.at cell c.requires.within (sym c.index-cells-at.is) object true place
    (file_under rest c.args.document.now c.args.store.now (c.requires.above rise) id true (sym c.is_writable_as_file.ensures ∙ c.if-not-is_writable_as_file.false))
    (counted c.args.document.now (held c.args.cells.now) id cell.octets.items octets count true true c.in_ok-count-in-Some-Count.ensures.made
    (c.in_ok-octets-in-Some-Count.ensures.fits rise)
    (c.in_ok-octets-in-Some-Count.ensures.made rise ∙ joined_from c.args.cells.now c.args.at id rise here count)
    (octets_under rest c.args.document.now c.args.store.now (c.requires.above rise) id true octets taken)))
    (c.requires.others rise)

pub returns-in-Some-Chunk-clause-made : goal.returns-in-Some-Chunk-clause-made
returns-in-Some-Chunk-clause-made c = λ rise.
    let object = c.in-Some-Chunk.field-0-0 in
    let id = object_identifier_view object in
    let cell = c.index-cells-at.result in
    let place : cell.place ≡ file_place id (suc c.in-Some-Chunk.field-0-1) = search rules in
    chunk_step c.args.cells.now c.args.at cell c.requires.within (sym c.index-cells-at.is) c.args.document.now c.stores_are_in_order.ensures c.args.store.now
    (c.args.at + 1) (omega arith) (c.requires.above rise) id
    (record { kind = object.kind_fits; instance = object.instance_fits }) c.in-Some-Chunk.field-0-1 (search rules) place rise

pub returns-in-Some-Chunk-clause-fits : goal.returns-in-Some-Chunk-clause-fits
returns-in-Some-Chunk-clause-fits c = λ rise.
    let object = c.in-Some-Chunk.field-0-0 in
    let cell = c.index-cells-at.result in
    let place : cell.place ≡ file_place (object_identifier_view object) (suc c.in-Some-Chunk.field-0-1) = search rules in
    one_fits c.args.document.now (held c.args.cells.now) c.args.cells.now c.args.at (c.args.at + 1) cell c.requires.within (sym c.index-cells-at.is) (omega arith)
    (is_chunk c.args.document.now (held c.args.cells.now) cell.place object c.in-Some-Chunk.field-0-1 (search rules) place)
    (c.requires.others rise)
