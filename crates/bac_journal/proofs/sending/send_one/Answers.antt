-- The copy's transaction was asked; where there is none, the datagram goes to a stranger.
use Rattle.std.proofs.Common.{refl}
use Rattle.bac_journal.specs.Views.{copy_view}
use Rattle.bac_journal.proofs.Sends.{copied_cell, copied_none, one_becomes, none_becomes}
use Rattle.bac_journal.proofs.sending.send_one.Goals as goal

pub add_copy-requires-clause-there : goal.add_copy-requires-clause-there
add_copy-requires-clause-there c =
    let goes = c.requires.can.2 in
    copied_cell goes.nodes c.args.links.now goes.linked c.args.rows.now c.args.copies.now.items c.requires.can.0 c.requires.can.1 c.args.now c.args.sender
    c.args.datagram goes.can c.in-Some.copy (c.in-Some.ensures.some goes.nodes goes.linked) c.in-Some.ensures.fits

pub returns-in-Some-clause-copies : goal.returns-in-Some-clause-copies
returns-in-Some-clause-copies c = λ nodes linked.
    one_becomes nodes c.args.now c.args.sender c.args.datagram (copy_view c.in-Some.copy) _ _ (c.in-Some.ensures.some nodes linked) c.add_copy.ensures.copies

pub returns-in-None-clause-copies : goal.returns-in-None-clause-copies
returns-in-None-clause-copies c = λ nodes linked.
    none_becomes nodes c.args.now c.args.sender c.args.datagram _
    (copied_none c.args.links.now c.requires.can.0 c.args.now c.args.sender c.args.datagram c.requires.can.2
    (λ ns l d k. c.in-None.ensures.none ns l d k refl) nodes linked)
