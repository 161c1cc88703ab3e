-- What a call promises of its result, where a keeper's fault stands in the place of its error.
use Rattle.std.proofs.Common.{◌≡◌, true, Result, Ok, Err, IfOk, IfErr, OnOk, MatchResult, is_ok, sym, subst}

pub on_ok : {T E P : Type 0} (r : Result T E) → true ≡ is_ok r → OnOk r P → P
on_ok (Ok x) is p = p
on_ok (Err e) is p = absurd (cc)

abbrev ok : {T : Type 0} (F : Type 0) → T → Result T F
ok F x = Ok x

abbrev pub err : {F : Type 0} (T : Type 0) → F → Result T F
err T e = Err e

same : {T F : Type 0} (x y : T) → ok F x ≡ ok F y → x ≡ y
same x y is = cc

pub if_ok : {T E : Type 0} (F : Type 0) (P : T → Type 0) (r : Result T E) (x : T) → MatchResult r (λ y. ok F x ≡ Ok y) (λ e. ⊥) → IfOk r P → P x
if_ok F P (Ok y) x is p = subst P (sym (same x y is)) p
if_ok F P (Err e) x is p = absurd is

no_ok : {T F : Type 0} (e : F) (x : T) → err T e ≡ Ok x → ⊥
no_ok e x is = cc

pub if_err : {T E F : Type 0} (told : E → F → Type 0) (P : E → Type 0) (Q : F → Type 0) (r : Result T E) (f : F)
    → MatchResult r (λ x. err T f ≡ Ok x) (λ e. told e f) → IfErr r P → ((e : E) → told e f → P e → Q f) → Q f
if_err told P Q (Ok x) f is p then = absurd (no_ok f x is)
if_err told P Q (Err e) f is p then = then e is p
