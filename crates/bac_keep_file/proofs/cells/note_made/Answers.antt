use Rattle.std.proofs.Common.{rules, arith, ◌≡◌, ◌∙◌, ap}
use Rattle.sqlite_trees.specs.View.{IsClean}
use Rattle.bac_service.specs.Values.Request.{WriteFile, WriteProperty}
use Rattle.bac_service.specs.Views.{lent, priority_view, property_reference_view, write_access_view}
use Rattle.bac_value.specs.Views.{object_identifier_view}
use Rattle.bac_store.specs.AtNode.{Change}
use Rattle.bac_keep.specs.Cells.{Cells}
use Rattle.bac_keep.specs.Made.{made_view}
use Rattle.bac_keep.specs.Made.Made.{Changed, Performed}
use Rattle.bac_keep.specs.Overlay.{overlay}
use Rattle.bac_keep_file.specs.Rows.{cells_of}
use Rattle.bac_keep.proofs.Notes.{changed_octets, changed_value, performed_octets, performed_size, performed_value}
use Rattle.bac_keep_file.proofs.cells.note_made.Goals as goal

pub returns-in_ok-note_values-in-Performed-WriteProperty-clause-noted : goal.returns-in_ok-note_values-in-Performed-WriteProperty-clause-noted
returns-in_ok-note_values-in-Performed-WriteProperty-clause-noted g c = λ clean.
    let noted = c.in_ok-note_values-in-Performed-WriteProperty.ensures in
    let first : IsClean (g.S.Store.view c.args.database.now) = omega (arith, clean, noted.quiet.clean) in
    let w = c.in-Performed-WriteProperty.write in
    let e : made_view c.args.made.now ≡ Performed
    (WriteProperty (property_reference_view w.reference) w.values.octets.now (priority_view w.priority)) = search rules in
    record {
      ready = (noted.noted clean).ready;
      noted =
          ap (λ (x : Cells). overlay x c.args.document.now) (noted.noted clean).has
          ∙ performed_value (cells_of (g.S.Store.view c.args.database.now).trees) c.args.document.now c.stores_are_in_order.ensures c.args.store.now _
          (c.requires.made first).is
          (c.requires.made first).keepable _ _ _ (omega (arith, c.if-reference-eq-FILE_SIZE.false)) e (record { kind = w.reference.object.kind_fits; instance = w.reference.object.instance_fits }) noted.fits;
      committed = (noted.noted clean).committed;
    }

pub returns-in_ok-note_octets-in-Performed-WriteProperty-clause-noted : goal.returns-in_ok-note_octets-in-Performed-WriteProperty-clause-noted
returns-in_ok-note_octets-in-Performed-WriteProperty-clause-noted g c = λ clean.
    let noted = c.in_ok-note_octets-in-Performed-WriteProperty.ensures in
    let first : IsClean (g.S.Store.view c.args.database.now) = omega (arith, clean, noted.quiet.clean) in
    let w = c.in-Performed-WriteProperty.write in
    let e : made_view c.args.made.now ≡ Performed
    (WriteProperty (property_reference_view w.reference) w.values.octets.now (priority_view w.priority)) = search rules in
    record {
      ready = (noted.noted clean).ready;
      noted =
          ap (λ (x : Cells). overlay x c.args.document.now) (noted.noted clean).has
          ∙ performed_size (cells_of (g.S.Store.view c.args.database.now).trees) c.args.document.now c.stores_are_in_order.ensures c.args.store.now _
          (c.requires.made first).is
          (c.requires.made first).keepable c.stores_are_in_order-2.ensures _ _ _ (omega (arith, c.if-reference-eq-FILE_SIZE.true)) e (record { kind = w.reference.object.kind_fits; instance = w.reference.object.instance_fits });
      committed = (noted.noted clean).committed;
    }

pub returns-in_ok-note_octets-in-Performed-WriteFile-clause-noted : goal.returns-in_ok-note_octets-in-Performed-WriteFile-clause-noted
returns-in_ok-note_octets-in-Performed-WriteFile-clause-noted g c = λ clean.
    let noted = c.in_ok-note_octets-in-Performed-WriteFile.ensures in
    let first : IsClean (g.S.Store.view c.args.database.now) = omega (arith, clean, noted.quiet.clean) in
    let w = c.in-Performed-WriteFile.write in
    let e : made_view c.args.made.now ≡ Performed (WriteFile (object_identifier_view w.file) (write_access_view lent w.access)) = search rules in
    record {
      ready = (noted.noted clean).ready;
      noted =
          ap (λ (x : Cells). overlay x c.args.document.now) (noted.noted clean).has
          ∙ performed_octets (cells_of (g.S.Store.view c.args.database.now).trees) c.args.document.now c.stores_are_in_order.ensures c.args.store.now _
          (c.requires.made first).is
          (c.requires.made first).keepable c.stores_are_in_order-2.ensures _ _ e (record { kind = w.file.kind_fits; instance = w.file.instance_fits });
      committed = (noted.noted clean).committed;
    }

pub returns-in_ok-note_values-in-Changed-Value-clause-noted : goal.returns-in_ok-note_values-in-Changed-Value-clause-noted
returns-in_ok-note_values-in-Changed-Value-clause-noted g c = λ clean.
    let noted = c.in_ok-note_values-in-Changed-Value.ensures in
    let first : IsClean (g.S.Store.view c.args.database.now) = omega (arith, clean, noted.quiet.clean) in
    let id = c.in-Changed-Value.object in
    let e : made_view c.args.made.now ≡ Changed
    (Change.Value (object_identifier_view id) c.in-Changed-Value.property c.in-Changed-Value.field-0-2.items) = search rules in
    record {
      ready = (noted.noted clean).ready;
      noted =
          ap (λ (x : Cells). overlay x c.args.document.now) (noted.noted clean).has
          ∙ changed_value (cells_of (g.S.Store.view c.args.database.now).trees) c.args.document.now c.stores_are_in_order.ensures c.args.store.now _
          (c.requires.made first).is
          (c.requires.made first).keepable _ _ _ e (record { kind = id.kind_fits; instance = id.instance_fits }) noted.fits;
      committed = (noted.noted clean).committed;
    }

pub returns-in_ok-note_octets-in-Changed-File-clause-noted : goal.returns-in_ok-note_octets-in-Changed-File-clause-noted
returns-in_ok-note_octets-in-Changed-File-clause-noted g c = λ clean.
    let noted = c.in_ok-note_octets-in-Changed-File.ensures in
    let first : IsClean (g.S.Store.view c.args.database.now) = omega (arith, clean, noted.quiet.clean) in
    let id = c.in-Changed-File.object in
    let e : made_view c.args.made.now ≡ Changed (Change.File (object_identifier_view id) c.in-Changed-File.field-0-1.items) = search rules in
    record {
      ready = (noted.noted clean).ready;
      noted =
          ap (λ (x : Cells). overlay x c.args.document.now) (noted.noted clean).has
          ∙ changed_octets (cells_of (g.S.Store.view c.args.database.now).trees) c.args.document.now c.stores_are_in_order.ensures c.args.store.now _
          (c.requires.made first).is
          (c.requires.made first).keepable c.stores_are_in_order-2.ensures _ _ e (record { kind = id.kind_fits; instance = id.instance_fits });
      committed = (noted.noted clean).committed;
    }
