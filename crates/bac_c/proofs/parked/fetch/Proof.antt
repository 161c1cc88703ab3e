-- `fetch` makes the box of what is parked.
use Rattle.std.proofs.Common.{◌≡◌, List, [], ◌∷◌, refl, sym, ap, ◌∙◌}
use Rattle.std.specs.Prelude.{Option, None, Some}
use base.Fraction.{full_share}
use base.Fml.{ftrue, flft}
use base.Logic.{emp, id⊢}
use mir.Val.{Val}
use contract.BorrowLft.{◌⊑◌, ⊑_refl}
use contract.Monad.{fact, fact_i}
use contract.Running.{tables}
use types.Kit.{‵, raw, ◌⊛◌, some, later, at_ret, ◌$◌, ◌∵◌, !, qed, done, move, drop, use0, use1, split, join, fsplit, fjoin, feq_i, pick, await, rewrite, suffices}
use types.Part.{sub, whole}
use types.Run.{enter, of_opd, stop, fld, no_more, and_then, first, blocks, exec, returns}
use types.ByLocal.{alloc_all, pass_all, free_all, look_at, get, get_in, sets, lands_last, env}
use denote.Laws.{Is, shows}
use denote.Param.NoDrop.{glues}
use denote.RattleType.{owns}
use denote.RawPtr.{ptr_val, rawptr_Lawful}
use denote.Signature.{types_at, plain}
use denote.Steps.{nothing, heard, peeks}
use denote.Triple.Call.{calls_at_last}
use denote.Triple.Clauses.{Lasts, lasts}
use denote.Triple.Entry.{alive}
use denote.Triple.Spec.{triple_of}
use denote.Triple.Table.{framed}
use denote.Triple.Walked.{Stays, stay_dropped, walk_of, says, ends_at}
use Rattle.std.proofs.alloc.Calls.{Goes-blank}
use Rattle.std.proofs.raw_atomic.Walks.{proved}
use Rattle.std.specs.contracts.impls.GlobalAllocator.TheImpl.{ghosts, dict}
use Rattle.std.proofs.impls.GlobalAllocator.TheImpl.Met.{passed}
use Rattle.std.specs.contracts.alloc.Global as global
use Rattle.std.specs.contracts.boxed.Box.from_raw as callee
use Rattle.std.proofs.boxed.Box.from_raw.Met.{met}
use Rattle.bac_c.specs.Parking.{parks}
use Rattle.bac_c.proofs.Heap.{D, D-laws, Z, Z-laws, Z-told, B, B-laws, Z-drop}
use Rattle.bac_c.proofs.Words.{R, word, word_typed, word_told, held_in, held_is}
use Rattle.bac_c.proofs.Destruct++none.drop.Symbol.{symbol}
use Rattle.bac_c.specs.contracts.parked.fetch as F
use Rattle.bac_c.proofs.parked.fetch.Statement.{statement}
use Rattle.bac_c.proofs.parked.fetch.Code as code

abbrev stayed : Stays F.ended.signature.params F.ended.kept
stayed = (stay_dropped _ _, (stay_dropped _ _, tt))

pub fetch_spec : {M : Type 1} → statement M
unfolding Rattle.bac_c.proofs.Destruct++none.drop.Code.code
fetch_spec {M} 𝓤 𝓛 𝓜 𝓡 wired =
    let c = F.clauses 𝓛 𝓜.mem 𝓡.returns in let W = walk_of 𝓛 F.ended stayed c in let 𝓣 = tables 𝓤 𝓛.H 𝓜 𝓡 𝓡.env in
    proved 𝓛 F.ended stayed c 𝓜 𝓡 (Goes-blank 𝓛 0 (plain (λ _. global.the_row)) F.ended.kept.0 (λ κs x f. tt), (Goes-blank 𝓛 0 (plain (λ _. R)) F.ended.kept.1.0 (λ κs x f. tt), tt))
    F.Key.name code.function (code.unfolded 𝓤 𝓛.H 𝓜 𝓡 wired)
    (λ κs. ((λ g. Z-told.val g ∷ []), ((λ d. word d.at ∷ []), tt))) (λ κs. (Z-told.tells, (word_told, tt))) (λ κs qs bounds a g are.
    let heap = a.0 in let d = a.1.0 in let hv = Z-told.val heap in
    let y : W.Ghost = ((κs, qs, bounds, a, (hv ∷ [], (word d.at ∷ [], tt))), g) in
    qed 𝓛 ((raw (alive 𝓛 F.signature κs qs) ⊛ ‵ (owns (types_at F.signature.params κs) a y.0.4)) ∷ raw (fact 𝓤 (d.device ≡ None → ⊥)) ∷ []) ∵
    split ! $ drop ! $ fsplit ! $ move ! (1 ∷ []) $ fsplit ! $ fsplit ! $ drop ! $ move ! (1 ∷ []) $ drop ! $
    -- [what is parked; the handle; the requires]
    move ! (2 ∷ []) $ heard ! _ (λ full.
    let x = held_in d.device full in let is = held_is d.device full in
    let G = triple_of 𝓛 (callee.signature D Z ghosts dict Z-drop) (callee.spec D Z ghosts dict Z-drop 𝓛 𝓜.mem 𝓡.returns) in
    let z : G.Ghost = ((([], ([], tt)), (full_share, (full_share, tt)), tt, (heap, (d.at, tt)), (hv ∷ [], (ptr_val d.at ∷ [], tt))), x) in
    rewrite ! 0 (λ (u : Option D.Denot). ‵ (parks d.at u)) is refl $
    use0 𝓛 (raw (fact 𝓤 ([] ⊑ Z.lives))) (fact_i 𝓤 ([] ⊑ Z.lives) (emp 𝓤) (⊑_refl [])) $ join ! $
    use0 𝓛 (raw (fact 𝓤 ([] ⊑ D.lives))) (fact_i 𝓤 ([] ⊑ D.lives) (emp 𝓤) (⊑_refl [])) $ join ! $
    nothing ! $ feq_i ! (List Val) (ptr_val d.at ∷ []) (ptr_val d.at ∷ []) refl $ fjoin ! $ move ! (2 ∷ 0 ∷ []) $ fjoin ! $
    nothing ! $ use0 𝓛 (‵ (flft [] full_share)) (𝓛.lfts.lft-nil full_share) $ join ! $ use0 𝓛 (‵ (flft [] full_share)) (𝓛.lfts.lft-nil full_share) $ join ! $
    join ! $ join ! $ use1 𝓛 (raw (G.pre z)) (id⊢ 𝓤 _) $
    let at_typed = ((rawptr_Lawful 𝓛).typed d.at (ptr_val d.at ∷ []) refl).0 in
    enter ! _ _ _ _ _ $ alloc_all ! (λ l. pass_all ! refl ((tt, ((tt, tt), tt)), (word_typed d.at, tt)) $
    sets ! (of_opd ! (get_in ! (fld ! refl (stop !)) (sub ! 0 refl (whole !)))) refl at_typed $
    first ! $ blocks ! $ sets ! (of_opd ! (get ! refl)) refl at_typed $
    calls_at_last ! (framed 𝓤 𝓛.H 𝓜 𝓣) G (met 𝓤 𝓛 𝓜 𝓡 (code.calls-std_alloc::boxed::Box::from_raw 𝓡.env wired) D Z D-laws Z-laws ghosts dict Z-drop
    (passed 𝓡.env (code.calls-std_heap::GlobalAllocator::allocate 𝓡.env wired) (code.calls-std_heap::GlobalAllocator::deallocate 𝓡.env wired) (code.calls-std_heap::GlobalAllocator::grow 𝓡.env wired) (code.calls-std_heap::GlobalAllocator::shrink 𝓡.env wired) M 𝓤 𝓛 𝓜 𝓡)
    (glues symbol 𝓡.env (code.calls-bac_c::Destruct++none::drop 𝓡.env wired) Z Z-laws M 𝓤 𝓛 𝓜 𝓡)) z
    (and_then ! (get ! refl) (and_then ! (get ! refl) (no_more !))) (λ u.
    use1 𝓛 (later (some (λ (r : B.Denot). ((‵ (flft [] full_share) ⊛ ‵ (flft [] full_share) ⊛ ‵ ftrue) ⊛ ‵ (B.own_val r (u ∷ []))) ⊛
    some (λ (ls : Lasts (callee.ended D Z ghosts dict Z-drop) z.0.0 z.0.3). ‵ (lasts (callee.ended D Z ghosts dict Z-drop) z.0.0 z.0.3 ls) ⊛ raw (fact 𝓤 (r.value ≡ x)) ⊛ raw (fact 𝓤 (r.alloc ≡ heap)))))) (id⊢ 𝓤 _) $
    await ! tt $ pick ! (λ r. split ! $ split ! $ drop ! $ move ! (1 ∷ []) $ pick ! (λ ls. split ! $ drop ! $ split ! $ heard ! _ (λ same. drop ! $
    -- [the box]
    peeks ! B (Is B) (shows 𝓛 B) r (u ∷ []) (λ told.
    let box_typed = ((B-laws.lawful 𝓛).typed r (u ∷ []) told).0 in
    lands_last ! refl box_typed $ exec ! 𝓣.C 𝓣.Λ (env code.Mir.locals l) code.Mir.t-3 (at_ret _ (W.post y)) $
    sets ! (of_opd ! (get ! refl)) refl box_typed $ returns ! (look_at ! 0 refl) $ free_all ! refl $
    suffices ! _ (ends_at 𝓛 F.ended stayed c y u r (tt, (tt, tt)) (tt, (tt, tt))) $ says ! (is ∙ ap Some (sym same)) $
    nothing ! $ nothing ! $ fjoin ! $ nothing ! $ fjoin ! $ join ! $ nothing ! $ done !))))))))
