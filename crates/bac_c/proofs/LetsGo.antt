-- What lets a device go, as `Box::into_raw` asks for it: the device's own drop.
use Rattle.std.proofs.Common.{[], ◌∷◌, refl}
use mir.Syntax.{Dict, Callee, impl, method, tnil, dnil}
use prog.Wired.{Wired}
use denote.Param.{layouts}
use denote.Param.Glue.{Met}
use denote.Triple.Carry.{AllWithin}
use denote.Triple.Clauses.{Ended, Lasts, lasts, at_exit}
use denote.Triple.Walked.{Fit}
use borrow.Fn.Glue.{glue_by, glue_ps}
use borrow.Fn.Impl.{via_longer, method_Known}
use borrow.Fn.Kinds.{ended_of, stays, r_unit}
use borrow.Fn.Run.{Over}
use borrow.Fn.World.{World}
use Rattle.bac_c.proofs.Heap.{D, D-laws}
use Rattle.bac_c.proofs.bac_c++device++Device+Destruct.drop.Kinds.{ps, r}
use Rattle.bac_c.proofs.bac_c++device++Device+Destruct.drop.Met.{met}
use Rattle.bac_c.proofs.bac_c++device++Device+Destruct.drop.Reads as reads
use Rattle.bac_c.proofs.bac_c++device++Device+Destruct.drop.Symbol.{code, symbol, name, as_method}

abbrev pub D-drop : Dict
D-drop = impl (symbol ∷ []) tnil dnil

abbrev key : Callee
key = method D-drop 0 (layouts [] tt)

abbrev E : Ended
E = ended_of 0 ps r

pub lets_go : (w : World) → Wired w.𝓡.env code → Met w.𝓛 w.𝓜 w.𝓡 w.𝓡.env D D-drop
lets_go w wired =
    glue_by D D-laws w D-drop w.𝓡.env (λ κs a. Lasts E tt a) (λ κs a. lasts E tt a) (λ κs a x ws. Fit E (stays ps) tt a ws × reads.Learnt tt a x (at_exit E tt a ws))
    (λ κs a. AllWithin 1 (κs.0, tt) (D.lives, tt) × Unit {0}) 0 tt (λ κs a h. ((h, tt), tt))
    (via_longer w.𝓛 (Over w.𝓛 w.𝓜 w.𝓡 w.𝓡.env) 1 (glue_ps D D-laws) r_unit (λ κs a. Lasts E tt a) (λ κs a. lasts E tt a)
    (λ κs a x ws. Fit E (stays ps) tt a ws × reads.Learnt tt a x (at_exit E tt a ws)) (λ κs a. AllWithin 1 (κs.0, tt) (D.lives, tt) × Unit {0}) key 0 tt
    (λ κs. tt) (λ κs a. reads.Asked tt a) (λ κs a p. (tt, tt)) (λ κs bd within a vss qs.
    method_Known 0 ps r reads.requires reads.ensures reads.Asked reads.Learnt reads.known w name key (as_method w.𝓡.env wired key refl) (met w.𝓤 w.𝓛 w.𝓜 w.𝓡 wired)
    ((tt, qs, tt, a, vss), tt)))
