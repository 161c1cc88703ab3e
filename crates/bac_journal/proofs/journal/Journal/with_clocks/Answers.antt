-- Nothing is known yet, and the clocks begin.
use Rattle.std.proofs.Common.{◌≡◌, [], List, length, sym, ap, subst, ◌∙◌}
use Rattle.std.proofs.lemmas.List.{length-map}
use Rattle.bac_journal.specs.declared.lives.Life.{Life}
use Rattle.bac_journal.specs.Lives.{fresh_life}
use Rattle.bac_journal.specs.declared.copies.Copy.{Copy}
use Rattle.bac_journal.specs.declared.noting.Note.{Note}
use Rattle.bac_journal.specs.Notes.{notes_view}
use Rattle.bac_journal.specs.Records.{IsKept}
use Rattle.bac_journal.proofs.Fresh.{fresh_kept}
use Rattle.bac_journal.proofs.Passing.{begins}
use Rattle.bac_journal.proofs.journal.Journal.with_clocks.Goals as goal

pub invariant_of-result : goal.invariant_of-result
invariant_of-result c =
    let rows = c.in_ok-rows.rows.items in
    let value = c.deref.ensures.value in
    let links : c.deref.result.now ≡ c.args.links.items = cc in (
      subst (λ (l : List Copy). IsKept rows l (notes_view c.new-2.result.items)) (sym c.new.ensures.items)
          (subst (λ (l : List Note). IsKept rows [] (notes_view l)) (sym c.new-2.ensures.items)
          (fresh_kept rows c.len.result c.in_ok-rows.ensures.many c.in_ok-rows.ensures.fresh)),
      c.in_ok-rows.ensures.many ∙ c.len.ensures ∙ c.args.links.ok.0,
      begins c.args.pace.drift c.args.pace.life _ c.args.starts.now c.in_ok-nodes.nodes.items c.in_ok-nodes.ensures.are c.requires.slow c.requires.each
          (c.in_ok-nodes.ensures.sane c.args.pace.drift),
      ap (λ (l : List Life). length l) c.in_ok-lives.ensures ∙ length-map c.deref.result.now fresh_life ∙ ap (λ l. length l) links,
    )
