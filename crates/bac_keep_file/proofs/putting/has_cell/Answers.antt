use Rattle.std.proofs.Common.{rules, ◌≡◌, ◌∙◌, ap, subst, true, ℤ, pos, Bool, Some, to_z, of_z, w64}
use Rattle.sqlite_value.specs.declared.value.Value.{Value}
use Rattle.sqlite_value.specs.declared.value.Value.TheVariants.{Blob}
use Rattle.sqlite_value.specs.Order.{column, bytes}
use Rattle.sqlite_trees.specs.View.{Finds, IsClean}
use Rattle.bac_keep.specs.declared.fault.KeepFault.{KeepFault}
use Rattle.bac_keep_file.proofs.Faults.{if_ok}
use Rattle.bac_keep_file.proofs.Finding.{found-filter}
use Rattle.bac_keep_file.proofs.putting.has_cell.Goals as goal

pub returns-in-Blob-clause-there : goal.returns-in-Blob-clause-there
returns-in-Blob-clause-there g c = λ same clean.
    let got : c.in_ok-found.found ≡ true = search rules in
    let rows = (g.S.Store.view c.args.database.now).trees 0 in
    let key : to_z w64 (of_z w64 c.key_of.result) ≡ pos c.args.place = search rules in
    let finds : Finds rows (pos c.args.place) c.get.new.row true =
    subst (λ (b : Bool). Finds rows (pos c.args.place) c.get.new.row b) got
    (subst (λ (z : ℤ). Finds rows z c.get.new.row c.in_ok-found.found) key (if_ok KeepFault (λ found. IsClean (g.S.Store.view c.get.new.self) → Finds rows (to_z w64 (of_z w64 c.key_of.result)) c.get.new.row found) _ _ c.in_ok-found.ensures.cases c.get.ensures.ok clean)) in
    let blob : column c.get.new.row 2 ≡ Blob c.in-Blob.kept.now = search rules in
    let octets : c.in-Blob.kept.now ≡ c.args.octets.now = search rules in
    found-filter rows c.args.place c.get.new.row finds ∙ ap (λ (v : Value). Some (bytes v)) blob ∙ ap Some octets
