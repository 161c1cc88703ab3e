-- `park` keeps what the box owned.
use Rattle.std.proofs.Common.{[], ◌∷◌, ◌++◌, refl, ap}
use Rattle.std.specs.Prelude.{Some}
use base.Fraction.{full_share}
use base.Fml.{ftrue, flft}
use base.Logic.{emp, id⊢}
use contract.BorrowLft.{◌⊑◌, ⊑_refl}
use contract.Monad.{fact, fact_i}
use contract.Running.{tables}
use prog.Wp.{WpFn}
use types.Kit.{Sq, ‵, raw, ◌⊛◌, some, later, prop, ◌$◌, ◌∵◌, !, qed, done, move, drop, use0, use1, split, join, fsplit, fjoin, feq_l, pick, await, suffices}
use types.Part.{agg}
use types.Run.{enter, of_opd, no_more, and_then, returns}
use types.ByLocal.{alloc_all, pass_all, free_all, look_at, get, sets, lands_as}
use denote.Param.{layout}
use denote.Param.NoDrop.{glues}
use denote.Param.Steps.{one_value}
use denote.RattleType.{owns}
use denote.RawPtr.{Ptr, RawPtr, ptr_val, rawptr_Lawful}
use denote.Signature.{types_at, plain}
use denote.Steps.{nothing, only}
use denote.Triple.Call.{calls_at}
use denote.Triple.Clauses.{Lasts, lasts}
use denote.Triple.Entry.{alive}
use denote.Triple.Spec.{triple_of}
use denote.Triple.Table.{framed}
use denote.Triple.Walked.{Stays, stay_dropped, walk_of, says, ends_at}
use Rattle.std.proofs.alloc.Calls.{Goes-blank}
use Rattle.std.proofs.raw_atomic.Walks.{proved_at}
use Rattle.std.specs.contracts.impls.GlobalAllocator.TheImpl.{ghosts, dict}
use Rattle.std.proofs.impls.GlobalAllocator.TheImpl.Met.{passed}
use Rattle.std.specs.contracts.boxed.Box.into_raw as callee
use Rattle.std.proofs.boxed.Box.into_raw.Met.{met}
use Rattle.bac_c.specs.Parking.{parks}
use Rattle.bac_c.proofs.Heap.{D, D-laws, Z, Z-laws, B, B-laws, Z-drop}
use Rattle.bac_c.proofs.LetsGo.{D-drop, lets_go}
use Rattle.bac_c.proofs.Words.{R, word, word_typed, parked_in}
use Rattle.bac_c.proofs.Destruct++none.drop.Symbol.{symbol}
use Rattle.bac_c.specs.contracts.parked.park as F
use Rattle.bac_c.proofs.parked.park.Statement.{statement}
use Rattle.bac_c.proofs.parked.park.Code as code

abbrev stayed : Stays F.ended.signature.params F.ended.kept
stayed = (stay_dropped _ _, tt)

pub park_spec : {M : Type 1} → statement M
unfolding Rattle.bac_c.proofs.Destruct++none.drop.Code.code
park_spec {M} 𝓤 𝓛 𝓜 𝓡 wired =
    let c = F.clauses 𝓛 𝓜.mem 𝓡.returns in let W = walk_of 𝓛 F.ended stayed c in let 𝓣 = tables 𝓤 𝓛.H 𝓜 𝓡 𝓡.env in
    proved_at 𝓛 F.ended stayed c 𝓜 𝓡 (Goes-blank 𝓛 0 (plain (λ _. B)) F.ended.kept.0 (λ κs x f. tt), tt)
    F.Key.name code.function (code.unfolded 𝓤 𝓛.H 𝓜 𝓡 wired) (λ y are.
    let boxed = y.0.3.0 in
    qed 𝓛 ((raw (alive 𝓛 F.signature y.0.0 y.0.1) ⊛ ‵ (owns (types_at F.signature.params y.0.0) y.0.3 y.0.4)) ∷ ‵ ftrue ∷ []) ∵
    split ! $ drop ! $ move ! (1 ∷ []) $ drop ! $ fsplit ! $ move ! (1 ∷ []) $ drop ! $
    one_value (layout B) (λ us. Sq 𝓛 (‵ (B.own_val boxed us) ∷ []) (prop (WpFn 𝓤 𝓛.H 𝓣.C 𝓣.Λ code.function (us ++ []) (W.post y)))) y.0.4.0 ((B-laws.lawful 𝓛).typed boxed y.0.4.0 are.0) (λ v box_typed.
    let G = triple_of 𝓛 (callee.signature D Z ghosts dict Z-drop D-drop) (callee.spec D Z ghosts dict Z-drop D-drop 𝓛 𝓜.mem 𝓡.returns) in
    let z : G.Ghost = ((([], ([], tt)), (full_share, (full_share, tt)), tt, (boxed, tt), (v ∷ [], tt)), tt) in
    nothing ! $ use0 𝓛 (raw (fact 𝓤 ([] ⊑ Z.lives))) (fact_i 𝓤 ([] ⊑ Z.lives) (emp 𝓤) (⊑_refl [])) $ join ! $
    use0 𝓛 (raw (fact 𝓤 ([] ⊑ D.lives))) (fact_i 𝓤 ([] ⊑ D.lives) (emp 𝓤) (⊑_refl [])) $ join ! $
    nothing ! $ move ! (2 ∷ 0 ∷ []) $ fjoin ! $
    nothing ! $ use0 𝓛 (‵ (flft [] full_share)) (𝓛.lfts.lft-nil full_share) $ join ! $ use0 𝓛 (‵ (flft [] full_share)) (𝓛.lfts.lft-nil full_share) $ join ! $
    join ! $ join ! $ use1 𝓛 (raw (G.pre z)) (id⊢ 𝓤 _) $
    enter ! _ _ _ _ _ $ alloc_all ! (λ l. pass_all ! refl (box_typed, tt) $ sets ! (of_opd ! (get ! refl)) refl box_typed $
    calls_at ! (framed 𝓤 𝓛.H 𝓜 𝓣) G (met 𝓤 𝓛 𝓜 𝓡 (code.calls-std_alloc::boxed::Box::into_raw 𝓡.env wired) D Z D-laws Z-laws ghosts dict Z-drop D-drop
    (passed 𝓡.env (code.calls-std_heap::GlobalAllocator::allocate 𝓡.env wired) (code.calls-std_heap::GlobalAllocator::deallocate 𝓡.env wired) (code.calls-std_heap::GlobalAllocator::grow 𝓡.env wired) (code.calls-std_heap::GlobalAllocator::shrink 𝓡.env wired) M 𝓤 𝓛 𝓜 𝓡)
    (glues symbol 𝓡.env (code.calls-bac_c::Destruct++none::drop 𝓡.env wired) Z Z-laws M 𝓤 𝓛 𝓜 𝓡)
    (lets_go (record { M = M; 𝓤 = 𝓤; 𝓛 = 𝓛; 𝓜 = 𝓜; 𝓡 = 𝓡 }) (code.calls-bac_c::bac_c++device++Device+Destruct::drop 𝓡.env wired))) z
    (and_then ! (get ! refl) (no_more !)) (λ u.
    use1 𝓛 (later (some (λ (p : Ptr). ((‵ (flft [] full_share) ⊛ ‵ (flft [] full_share) ⊛ ‵ ftrue) ⊛ ‵ (RawPtr.own_val p (u ∷ []))) ⊛
    some (λ (ls : Lasts (callee.ended D Z ghosts dict Z-drop D-drop) z.0.0 z.0.3). ‵ (lasts (callee.ended D Z ghosts dict Z-drop D-drop) z.0.0 z.0.3 ls) ⊛ ‵ (parks p (Some boxed.value)))))) (id⊢ 𝓤 _) $
    await ! tt $ pick ! (λ p. split ! $ split ! $ drop ! $ feq_l ! (λ is. pick ! (λ ls. split ! $ drop ! $
    -- [what is parked]
    let at_typed = ((rawptr_Lawful 𝓛).typed p (ptr_val p ∷ []) refl).0 in let made : R.Denot = record { at = p; device = Some boxed.value } in
    lands_as ! (ap only is) refl at_typed $ sets ! (of_opd ! (get ! refl)) refl at_typed $
    sets ! (agg ! (and_then ! (get ! refl) (no_more !))) refl (word_typed p) $
    returns ! (look_at ! 0 refl) $ free_all ! refl $ parked_in ! made $
    suffices ! _ (ends_at 𝓛 F.ended stayed c y (word p) made (tt, tt) (tt, tt)) $ says ! refl $
    nothing ! $ nothing ! $ fjoin ! $ join ! $ nothing ! $ done !)))))))
