-- The counts include the octets of the new part, and its length.
use Rattle.std.proofs.Common.{◌∷◌, [], ◌++◌, refl, ap, ◌∙◌, length}
use Rattle.bac_value.specs.Octets.{joined}
use Rattle.bac_segment.specs.Pieces.{split}
use Rattle.bac_segment.proofs.Joined.{CountsOctets-push, split-push}
use Rattle.bac_segment.proofs.Same.{same_incoming}
use Rattle.bac_segment.proofs.incoming.Incoming.keep.Goals as goal

pub invariant_of-self-2 : goal.invariant_of-self-2
invariant_of-self-2 c =
    let short = rw (← c.self.view_is) at c.requires.short in
    let few = rw (← c.self.view_is) at c.requires.few in
    let lengths = c.push_reserved.ensures.items ∙ ap (λ l. l ++ length c.args.octets.now ∷ []) c.reserve.ensures.items in
    CountsOctets-push c.self.inside.lengths.items (joined c.self.inside.chunks.items) c.args.octets.now _ _ _ _ _ c.self.invariant lengths
    c.in-Ok-append.ensures.ok refl short few

pub returns-clause-ok : goal.returns-clause-ok
returns-clause-ok c =
    let lengths = c.push_reserved.ensures.items ∙ ap (λ l. l ++ length c.args.octets.now ∷ []) c.reserve.ensures.items in
    rw (← c.self.view_is) (same_incoming _ _ (ap (λ l. split l (joined c.append.new.chunks.items)) lengths
    ∙ ap (split (c.self.inside.lengths.items ++ length c.args.octets.now ∷ [])) c.in-Ok-append.ensures.ok
    ∙ split-push c.self.inside.lengths.items (joined c.self.inside.chunks.items) c.args.octets.now _ c.self.invariant.whole refl) refl refl)
