use Rattle.std.proofs.Common.{◌∙◌, sym, ap, set, get_or, map, List, ℕ}
use Rattle.std.specs.Option.{option_map}
use Rattle.std.proofs.lemmas.List.{map-set}
use Rattle.bac_value.specs.Views.{object_identifier_view}
use Rattle.bac_store.specs.Changes.{with_contents, with_octets}
use Rattle.bac_store.specs.Stores.{is_object}
use Rattle.bac_store.specs.Views.{entry_view, file_view}
use Rattle.bac_store.proofs.Places.{where_that-none, where_that-only}
use Rattle.bac_store.proofs.changing.set_contents.Goals as goal

pub returns-in-Some-file : goal.returns-in-Some-file
returns-in-Some-file c =
    let objects = map entry_view c.args.objects.now in
    let old = get_or c.args.objects.now c.in-Some.at c.index-objects-at.result in
    let write : List ℕ → List ℕ = λ old. c.args.octets.items in
    map-set entry_view c.args.objects.now c.in-Some.at _
    ∙ ap (λ o. set objects c.in-Some.at (record (entry_view old) { file = option_map (with_contents write) (option_map file_view o) })) (sym c.in-Some-file.is)
    ∙ sym (where_that-only entry_view (is_object (object_identifier_view c.args.object)) (with_octets write) c.args.objects.now c.in-Some.at
    c.index-objects-at.result c.in-Some.ensures)

pub returns-in-None-file : goal.returns-in-None-file
returns-in-None-file c =
    let objects = map entry_view c.args.objects.now in
    let old = get_or c.args.objects.now c.in-Some.at c.index-objects-at.result in
    let write : List ℕ → List ℕ = λ old. c.args.octets.items in
    map-set entry_view c.args.objects.now c.in-Some.at _
    ∙ ap (λ o. set objects c.in-Some.at (record (entry_view old) { file = option_map file_view o })) c.in-None-file.is
    ∙ ap (λ o. set objects c.in-Some.at (record (entry_view old) { file = option_map (with_contents write) (option_map file_view o) })) (sym c.in-None-file.is)
    ∙ sym (where_that-only entry_view (is_object (object_identifier_view c.args.object)) (with_octets write) c.args.objects.now c.in-Some.at
    c.index-objects-at.result c.in-Some.ensures)

pub returns-in-None : goal.returns-in-None
returns-in-None c =
    sym (where_that-none entry_view (is_object (object_identifier_view c.args.object))
    (with_octets (λ old. c.args.octets.items)) c.args.objects.now c.in-None.ensures)
