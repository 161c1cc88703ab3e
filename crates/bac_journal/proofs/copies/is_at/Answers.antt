-- The link of that node.
use Rattle.std.proofs.Common.{◌≡◌, true, false, length, Some, refl, sym, ap, ◌∙◌, arith}
use Rattle.std.proofs.lemmas.Option.{slice_get_read, slice_get_within}
use Rattle.bac_journal.proofs.copies.is_at.Goals as goal

pub returns-in-Some : goal.returns-in-Some
returns-in-Some c =
    let links = c.args.links.now in
    let other = c.in-Some.other.now in
    let at = slice_get_read links (length links) c.args.node other refl c.in-Some.ensures.lookup.3.0 c.in-Some.ensures.lookup.1 in (
      λ t. at ∙ ap Some (c.is_link.ensures.0 t),
      λ e. c.is_link.ensures.1 (let same : Some other ≡ Some c.args.link = sym at ∙ e in cc),
    )

pub returns-in-None : goal.returns-in-None
returns-in-None c = (
  λ t. (let e : false ≡ true = t in cc),
  λ e. absurd (omega (arith, slice_get_within c.args.links.now c.args.node c.args.link e, c.in-None.ensures.lookup.3)),
)
