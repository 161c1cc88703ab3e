-- They are equal place by place.
use Rattle.std.proofs.Common.{ap, sym, ◌∙◌, arith}
use Rattle.bac_store.proofs.Equal.{same_items, same_lists, same_more}
use Rattle.bac_journal.specs.Notes.{note_view}
use Rattle.bac_journal.proofs.comparing.are_same_notes.Goals as goal

pub loop-at-preserved : goal.loop-at-preserved
loop-at-preserved c =
    same_more note_view c.args.ones.now c.args.others.now c.loop-at.at c.index-ones-at.result c.index-others-at.result (omega arith) (omega arith)
    (sym (ap note_view c.index-ones-at.is) ∙ c.if-not-is_same_note.ensures ∙ ap note_view c.index-others-at.is) c.loop-at.invariant

pub returns-then-not-is_same_note : goal.returns-then-not-is_same_note
returns-then-not-is_same_note c = λ same.
    c.if-not-is_same_note.ensures
    (ap note_view c.index-ones-at.is
    ∙ same_items note_view c.args.ones.now c.args.others.now c.loop-at.at c.index-ones-at.result c.index-others-at.result (omega arith) same
    ∙ sym (ap note_view c.index-others-at.is))

pub returns : goal.returns
returns c = same_lists note_view c.args.ones.now c.args.others.now (omega arith) (λ j d l. c.loop-at.invariant j d (omega arith))
