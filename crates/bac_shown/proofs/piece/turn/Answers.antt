use Rattle.std.proofs.Common.{◌≤◌, length, take, sym, ap, ◌∙◌, arith, length-take-le}
use Rattle.bstr.proofs.lemmas.PieceLemmas.{size-within}
use Rattle.bac_shown.proofs.piece.turn.Goals as goal

pub slice_bounds-push_piece-end : goal.slice_bounds-push_piece-end
slice_bounds-push_piece-end c =
    let is = c.deref.ensures.value in let again = c.deref-2.ensures.value in
    let fits : c.decode-character.result.1 ≤ length c.deref-2.result.now =
    omega (arith, size-within c.deref.result.now, c.decode-character.ensures.size, ap length is, ap length again) in
    sym (length-take-le c.decode-character.result.1 c.deref-2.result.now fits)

pub remove_front-requires : goal.remove_front-requires
remove_front-requires c = let is = c.deref.ensures.value in omega (arith, size-within c.deref.result.now, c.decode-character.ensures.size, ap length is)
