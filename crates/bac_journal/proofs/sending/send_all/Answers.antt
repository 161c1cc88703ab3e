-- One more datagram has become a copy.
use Rattle.std.proofs.Common.{◌≡◌, ◌∷◌, [], length, map, sym, ap, subst, ◌∙◌, append_assoc, append-nil, arith}
use Rattle.std.proofs.lemmas.List.{length-append}
use Rattle.std.specs.Vec.Iter.{into_iter_items}
use Rattle.bac_journal.specs.Growing.{BecomeCopies, CanGo}
use Rattle.bac_journal.specs.Views.{copy_view}
use Rattle.bac_journal.proofs.Grown.{nothing_left, head_goes, tail_goes, more_become}
use Rattle.bac_journal.proofs.sending.send_all.Goals as goal

pub send_one-requires-clause-can : goal.send_one-requires-clause-can
send_one-requires-clause-can c = (
  c.requires.can.0,
  c.loop-datagram.invariant.kept c.requires.can.0 c.requires.can.1,
  head_goes c.args.links.now c.requires.can.0 c.args.now c.args.sender _ c.in-Some.datagram _ c.in-Some.ensures.steps.0
      (c.loop-datagram.invariant.can c.requires.can.0 (subst (CanGo c.args.links.now c.requires.can.0 c.args.now c.args.sender)
      (sym c.into_iter-datagram-iterator.ensures.into_iter_gives.0) c.requires.can.2)),
)

pub send_one-requires-clause-room : goal.send_one-requires-clause-room
send_one-requires-clause-room c =
    let short = ap length c.in-Some.ensures.steps.0 in
    let space = c.loop-datagram.invariant.space in
    omega arith

pub loop-datagram-preserved : goal.loop-datagram-preserved
loop-datagram-preserved c =
    let at = c.loop-datagram in
    let d = c.in-Some.datagram in
    let steps : into_iter_items at.datagram-iterator ≡ d ∷ into_iter_items c.next.new.self = c.in-Some.ensures.steps.0 in
    let short = ap length steps in
    record {
      all = append_assoc at.yielded (d ∷ []) _ ∙ rw (← steps) at.invariant.all;
      left = (let was = at.invariant.left in let gone = c.in-Some.ensures.steps.1 in omega arith);
      can = λ notes h. tail_goes c.args.links.now notes c.args.now c.args.sender _ d _ steps (at.invariant.can notes h);
      space = (let was = at.invariant.space in let many = c.send_one.ensures.many in let room = c.send_one.ensures.room in omega arith);
      copies = λ nodes linked.
          more_become nodes c.args.now c.args.sender at.yielded (d ∷ []) _ _ _ (at.invariant.copies nodes linked) (c.send_one.ensures.copies nodes linked);
      kept = λ notes h. c.send_one.ensures.kept notes (at.invariant.kept notes h);
      nodes = c.send_one.ensures.nodes ∙ at.invariant.nodes;
      many = (let was = at.invariant.many in let more = c.send_one.ensures.many in let long = length-append at.yielded (d ∷ []) in omega arith);
      room = c.send_one.ensures.room ∙ at.invariant.room;
      rooms = c.send_one.ensures.rooms ∙ at.invariant.rooms;
    }

pub returns-clause-copies : goal.returns-clause-copies
returns-clause-copies c = λ nodes linked.
    let at = c.loop-datagram in
    let empty : into_iter_items at.datagram-iterator ≡ [] = nothing_left _ (sym at.invariant.left ∙ c.in-None.ensures.steps.0) in
    let all = sym (append-nil at.yielded) ∙ rw empty at at.invariant.all ∙ c.into_iter-datagram-iterator.ensures.into_iter_gives.0 in
    subst (λ l. BecomeCopies nodes c.args.now c.args.sender l (map copy_view c.args.copies.now.items) (map copy_view at.copies.items)) all
    (at.invariant.copies nodes linked)

pub returns-clause-many : goal.returns-clause-many
returns-clause-many c =
    let at = c.loop-datagram in
    let empty : into_iter_items at.datagram-iterator ≡ [] = nothing_left _ (sym at.invariant.left ∙ c.in-None.ensures.steps.0) in
    let all = sym (append-nil at.yielded) ∙ rw empty at at.invariant.all ∙ c.into_iter-datagram-iterator.ensures.into_iter_gives.0 in
    let long = ap length all in
    let many = at.invariant.many in
    omega arith
