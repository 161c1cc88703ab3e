-- The copy of that number, as contracts see it.
use Rattle.std.proofs.Common.{◌≡◌, ℕ, List, map, length, Some, None, slice_get, refl, sym, ap, ◌∙◌, arith}
use Rattle.std.specs.Option.{option_map}
use Rattle.std.proofs.lemmas.List.{length-map}
use Rattle.std.proofs.lemmas.Option.{slice_get_read, slice_get_within, slice_get-map}
use Rattle.bac_world.specs.World as world
use Rattle.bac_world.specs.World.{is_deliverable}
use Rattle.bac_journal.specs.declared.copies.Copy.{Copy}
use Rattle.bac_journal.specs.Views.{copy_view}
use Rattle.bac_journal.proofs.arriving.deliverable.Goals as goal

seen : (copies : List Copy) (number : ℕ) (c : Copy) → slice_get copies number ≡ Some c → slice_get (map copy_view copies) number ≡ Some (copy_view c)
seen copies number c at = slice_get-map copy_view copies number ∙ ap (option_map copy_view) at

pub returns-in-Some-clause-none : goal.returns-in-Some-clause-none
returns-in-Some-clause-none c = λ e.
    let copies = c.args.copies.now in
    let copy = c.in-Some.copy.now in
    let at = slice_get_read copies (length copies) c.args.number copy refl c.in-Some.ensures.lookup.3.0 c.in-Some.ensures.lookup.1 in
    let f : Some (copy_view copy) ≡ None = sym (seen copies c.args.number copy at) ∙ e in cc

pub returns-in-Some-clause-is : goal.returns-in-Some-clause-is
returns-in-Some-clause-is c = λ notes h w e.
    let copies = c.args.copies.now in
    let copy = c.in-Some.copy.now in
    let at = slice_get_read copies (length copies) c.args.number copy refl c.in-Some.ensures.lookup.3.0 c.in-Some.ensures.lookup.1 in
    let same : copy_view copy ≡ w = let f : Some (copy_view copy) ≡ Some w = sym (seen copies c.args.number copy at) ∙ e in cc in
    ap Some (c.may_arrive.ensures notes c.args.number h at)
    ∙ ap (λ (d : world.Copy). Some (is_deliverable c.args.overtake c.args.life c.args.now c.args.number (map copy_view copies) d)) same

pub returns-in-None-clause-is : goal.returns-in-None-clause-is
returns-in-None-clause-is c = λ notes h w e.
    let within = slice_get_within (map copy_view c.args.copies.now) c.args.number w e in
    let many = length-map c.args.copies.now copy_view in
    absurd (omega (arith, within, many, c.in-None.ensures.lookup.3))
