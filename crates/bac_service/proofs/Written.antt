-- Writing all parts writes the whole; if writing a part fails, there was too little room for the whole.
use Rattle.std.proofs.Common.{◌≡◌, ℕ, ◌+◌, ◌<◌, ◌≤◌, List, ◌++◌, length, Result, Ok, Err, IsErr, vec_len, vec_capacity, ap, ◌∙◌, append_assoc, arith}
use Rattle.std.specs.Global.{Vec}
use Rattle.std.proofs.lemmas.Bool.{false≢true}
use Rattle.std.proofs.lemmas.List.{length-append}
use Rattle.bac_service.specs.Writing.{Writes}

pub record Wrote (old new : Vec ℕ) (text : List ℕ) : Type 0 where
  pub is : new.items ≡ old.items ++ text
  pub grows : vec_capacity old ≤ vec_capacity new

pub record Lacked (old new : Vec ℕ) (text : List ℕ) : Type 0 where
  pub few : vec_capacity old < vec_len old + length text
  pub grows : vec_capacity old ≤ vec_capacity new

pub wrote : {R E : Type 0} {u : R} {old new : Vec ℕ} {text : List ℕ} → Writes {R = R} {E = E} (Ok u) old new text → Wrote old new text
wrote w = record { is = w.ok; grows = w.grows }

pub lacked : {R E : Type 0} {e : E} {old new : Vec ℕ} {text : List ℕ} → Writes {R = R} {E = E} (Err e) old new text → Lacked old new text
lacked w = record { few = w.full; grows = w.grows }

length_is : (v : Vec ℕ) → vec_len v ≡ length v.items
length_is v = v.ok.0

pub both : {old mid new : Vec ℕ} {x y : List ℕ} → Wrote old mid x → Wrote mid new y → Wrote old new (x ++ y)
both {old = old} {x = x} {y = y} a b =
    record { is = b.is ∙ ap (λ (t : List ℕ). t ++ y) a.is ∙ append_assoc old.items x y; grows = omega (arith, a.grows, b.grows) }

pub sooner : {old new : Vec ℕ} {x : List ℕ} (y : List ℕ) → Lacked old new x → Lacked old new (x ++ y)
sooner {x = x} y a = record { few = omega (arith, a.few, length-append x y); grows = a.grows }

longer : (old mid : Vec ℕ) (x : List ℕ) → mid.items ≡ old.items ++ x → vec_len mid ≡ vec_len old + length x
longer old mid x e = omega (arith, length_is old, length_is mid, ap length e, length-append old.items x)

pub later : {old mid new : Vec ℕ} {x y : List ℕ} → Wrote old mid x → Lacked mid new y → Lacked old new (x ++ y)
later {old = old} {mid = mid} {x = x} {y = y} a b =
    record { few = omega (arith, a.grows, b.few, longer old mid x a.is, length-append x y); grows = omega (arith, a.grows, b.grows) }

pub refused : {R E : Type 0} {r : Result R E} {old new : Vec ℕ} {text : List ℕ} → IsErr r → Lacked old new text → Writes r old new text
refused {r = Ok v} h a = absurd (false≢true h)
refused {r = Err e} h a = record { ok = tt; full = a.few; grows = a.grows }

-- the last part
pub last : {R E : Type 0} {r : Result R E} {old mid new : Vec ℕ} {x y : List ℕ} → Wrote old mid x → Writes r mid new y → Writes r old new (x ++ y)
last {r = Ok v} a b = let w = both a (wrote b) in record { ok = w.is; full = tt; grows = w.grows }
last {r = Err e} a b = let w = later a (lacked b) in record { ok = tt; full = w.few; grows = w.grows }
