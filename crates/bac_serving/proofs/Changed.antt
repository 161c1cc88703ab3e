-- Changes of a node's own store, one after the other.
use Rattle.std.proofs.Common.{◌≡◌, List, [], ◌∷◌, ◌++◌, refl, subst, sym}
use Rattle.bac_store.specs.AtNode.{Change}
use Rattle.bac_driver.specs.BoundNodes.{BoundNode}
use Rattle.bac_driver.specs.Changes.{MakesChange, MakesChanges}
use Rattle.bac_serving.specs.Stretches.{IsChanged}

changes_joined : (later earlier : List Change) (first middle last : BoundNode) → MakesChanges earlier first middle → MakesChanges later middle last
    → MakesChanges (later ++ earlier) first last
changes_joined [] earlier first middle last before after = subst (MakesChanges earlier first) (sym after) before
changes_joined (c ∷ later) earlier first middle last before after =
    record { middle = after.middle; so_far = changes_joined later earlier first middle after.middle before after.so_far; last = after.last }

pub changed_none : (b : BoundNode) → IsChanged b b
changed_none b = record { changes = []; made = refl }

pub changed_nothing : (old new : BoundNode) → new ≡ old → IsChanged old new
changed_nothing old new same = record { changes = []; made = same }

pub changed_once : (old new : BoundNode) (change : Change) → MakesChange old change new → IsChanged old new
changed_once old new change makes = record { changes = change ∷ []; made = record { middle = old; so_far = refl; last = makes } }

pub changed_again : (first middle last : BoundNode) → IsChanged first middle → IsChanged middle last → IsChanged first last
changed_again first middle last one other =
    record { changes = other.changes ++ one.changes; made = changes_joined other.changes one.changes first middle last one.made other.made }
