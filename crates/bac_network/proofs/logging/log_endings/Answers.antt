-- One ending more is logged.
use Rattle.std.proofs.Common.{◌≡◌, ◌∷◌, [], length, map, sym, ap, subst, ◌∙◌, append_assoc, append-nil, arith}
use Rattle.std.proofs.lemmas.List.{length-append, map-append}
use Rattle.std.specs.Vec.Iter.{into_iter_items}
use Rattle.bac_requester.specs.Views.{ended_view}
use Rattle.bac_world.specs.World.{AreEnded}
use Rattle.bac_network.specs.Views.{log_view}
use Rattle.bac_network.proofs.Entered.{more_ended, head_noted, nothing_left, tail_noted}
use Rattle.bac_network.proofs.logging.log_endings.Goals as goal

pub log_ending-requires-clause-noted : goal.log_ending-requires-clause-noted
log_ending-requires-clause-noted c =
    head_noted c.args.journal.now.notes c.args.node _ (ended_view c.in-Some.finish) _ (ap (map ended_view) c.in-Some.ensures.steps.0)
    c.loop-finish.invariant.noted

pub log_ending-requires-clause-room : goal.log_ending-requires-clause-room
log_ending-requires-clause-room c =
    let short = ap length c.in-Some.ensures.steps.0 in
    let space = c.loop-finish.invariant.space in
    omega arith

pub loop-finish-preserved : goal.loop-finish-preserved
loop-finish-preserved c =
    let at = c.loop-finish in
    let f = c.in-Some.finish in
    let steps : into_iter_items at.finish-iterator ≡ f ∷ into_iter_items c.next.new.self = c.in-Some.ensures.steps.0 in
    let short = ap length steps in
    record {
      all = append_assoc at.yielded (f ∷ []) _ ∙ rw (← steps) at.invariant.all;
      left = (let was = at.invariant.left in let gone = c.in-Some.ensures.steps.1 in omega arith);
      noted = tail_noted c.args.journal.now.notes c.args.node _ (ended_view f) _ (ap (map ended_view) steps) at.invariant.noted;
      space = (let was = at.invariant.space in let many = c.log_ending.ensures.many in let room = c.log_ending.ensures.room in omega arith);
      ended = subst (λ l. AreEnded c.args.journal.now.notes c.args.node l (log_view c.args.log.now.items) (log_view c.log_ending.new.log.items))
          (sym (map-append ended_view at.yielded (f ∷ [])))
          (more_ended c.args.journal.now.notes c.args.node (map ended_view at.yielded) (ended_view f ∷ []) _ _ _ at.invariant.ended c.log_ending.ensures.log);
      many = (let was = at.invariant.many in let more = c.log_ending.ensures.many in let long = length-append at.yielded (f ∷ []) in omega arith);
      room = c.log_ending.ensures.room ∙ at.invariant.room;
    }

pub returns-clause-log : goal.returns-clause-log
returns-clause-log c =
    let at = c.loop-finish in
    let empty : into_iter_items at.finish-iterator ≡ [] = nothing_left _ (sym at.invariant.left ∙ c.in-None.ensures.steps.0) in
    let all = sym (append-nil at.yielded) ∙ rw empty at at.invariant.all ∙ c.into_iter-finish-iterator.ensures.into_iter_gives.0 in
    subst (λ l. AreEnded c.args.journal.now.notes c.args.node (map ended_view l) (log_view c.args.log.now.items) (log_view at.log.items)) all
    at.invariant.ended

pub returns-clause-many : goal.returns-clause-many
returns-clause-many c =
    let at = c.loop-finish in
    let empty : into_iter_items at.finish-iterator ≡ [] = nothing_left _ (sym at.invariant.left ∙ c.in-None.ensures.steps.0) in
    let all = sym (append-nil at.yielded) ∙ rw empty at at.invariant.all ∙ c.into_iter-finish-iterator.ensures.into_iter_gives.0 in
    let long = ap length all in
    let many = at.invariant.many in
    omega arith
