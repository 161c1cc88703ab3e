-- Counting octet strings one by one.
use Rattle.std.proofs.Common.{◌≡◌, ℕ, zero, suc, ◌+◌, ◌-◌, ◌<◌, ◌≤◌, Bool, true, false, cond}
use Rattle.std.proofs.Common.{Option, Some, None, Result, Ok, Err, is_some, refl, sym, ap, ◌∙◌, length, take}
use Rattle.std.proofs.Common.{zero-add, add-zero, arith}
use Rattle.bac_value.specs.declared.tag.Class.TheVariants.{Application}
use Rattle.bac_value.specs.Spelling.{Mark}
use Rattle.bac_service.specs.Members.{Octets}
use Rattle.bac_service.specs.declared.stop.Stop.{Stop}
use Rattle.bac_value.specs.Steps.{◌>>=◌}
use Rattle.bac_service.specs.Reading.{Read, next_tag, announced, application_string}
use Rattle.bac_service.specs.Runs.{strings_at, run_at, string_step}

abbrev pub plus : ℕ → Read ℕ → Read ℕ
plus count (Ok t) = Ok (count + t.0, t.1)
plus count (Err e) = Err e

pub plus-zero : (o : Read ℕ) → plus 0 o ≡ o
plus-zero (Ok t) = rw zero-add refl
plus-zero (Err e) = refl

one_more : Read ℕ → Read ℕ
one_more o = o >>= λ n. Ok (n.0 + 1, n.1)

plus-one_more : (count : ℕ) (o : Read ℕ) → plus count (one_more o) ≡ plus (count + 1) o
unfolding one_more
plus-one_more count (Err e) = refl
plus-one_more count (Ok t) = let e : count + (t.0 + 1) ≡ count + 1 + t.0 = omega arith in rw e refl

-- what one step implies for the reading that begins with it
stepped : ℕ → Octets → Result (Option Octets) Stop → Read ℕ
stepped most bytes (Err e) = Err e
stepped most bytes (Ok None) = Ok (0, bytes)
stepped most bytes (Ok (Some next)) = one_more (strings_at most next)

of_string : (most : ℕ) (bytes : Octets) (s : Read Octets)
    → (s >>= λ x. strings_at most x.1 >>= λ n. Ok (n.0 + 1, n.1)) ≡ stepped most bytes (s >>= λ x. Ok (Some x.1))
unfolding stepped one_more
of_string most bytes (Err e) = refl
of_string most bytes (Ok s) = refl

of_test : (most : ℕ) (bytes : Octets) (b : Bool)
    → cond b (application_string bytes >>= λ s. strings_at most s.1 >>= λ n. Ok (n.0 + 1, n.1)) (Ok (0, bytes))
    ≡ stepped most bytes (cond b (application_string bytes >>= λ s. Ok (Some s.1)) (Ok None))
unfolding stepped
of_test most bytes true = of_string most bytes (application_string bytes)
of_test most bytes false = refl

of_tag : (most : ℕ) (bytes : Octets) (t : Read Mark)
    → (t >>= λ t. cond (is_some (announced Application 6 t.0)) (application_string bytes >>= λ s. strings_at most s.1 >>= λ n. Ok (n.0 + 1, n.1))
    (Ok (0, bytes)))
    ≡ stepped most bytes (t >>= λ t. cond (is_some (announced Application 6 t.0)) (application_string bytes >>= λ s. Ok (Some s.1)) (Ok None))
unfolding stepped
of_tag most bytes (Err e) = refl
of_tag most bytes (Ok t) = of_test most bytes (is_some (announced Application 6 t.0))

strings_step : (most : ℕ) (bytes : Octets) → strings_at (suc most) bytes ≡ stepped most bytes (string_step bytes)
unfolding strings_at
strings_step most bytes = of_tag most bytes (next_tag bytes)

-- reading continues from these octets, with enough steps left, and this many strings follow
pub record IsUnderway (all : Octets) (count : ℕ) (bytes : Octets) : Type 0 where
  pub most : ℕ
  pub enough : length bytes < most
  pub few : count + length bytes ≤ length all
  pub same : plus count (strings_at most bytes) ≡ strings_at (suc (length all)) all

pub begins : (all : Octets) → IsUnderway all 0 all
begins all = record { most = suc (length all); enough = omega arith; few = omega arith; same = plus-zero (strings_at (suc (length all)) all) }

from_steps : (all : Octets) (count : ℕ) (bytes : Octets) (o : Result (Option Octets) Stop) → string_step bytes ≡ o → (n : ℕ) → length bytes < n
    → plus count (strings_at n bytes) ≡ strings_at (suc (length all)) all
    → (m : ℕ) × (n ≡ suc m) × (plus count (stepped m bytes o) ≡ strings_at (suc (length all)) all)
from_steps all count bytes o e zero lt same = absurd (omega arith)
from_steps all count bytes o e (suc m) lt same = (m, refl, ap (plus count) (sym (strings_step m bytes ∙ ap (stepped m bytes) e)) ∙ same)

after_step : (all : Octets) (count : ℕ) (bytes : Octets) (o : Result (Option Octets) Stop) (u : IsUnderway all count bytes) → string_step bytes ≡ o
    → (m : ℕ) × (u.most ≡ suc m) × (plus count (stepped m bytes o) ≡ strings_at (suc (length all)) all)
after_step all count bytes o u e = from_steps all count bytes o e u.most u.enough u.same

pub goes_on : (all : Octets) (count : ℕ) (bytes next : Octets) → IsUnderway all count bytes → string_step bytes ≡ Ok (Some next)
    → length next < length bytes → IsUnderway all (count + 1) next
unfolding stepped
goes_on all count bytes next u e lt =
    let a = after_step all count bytes (Ok (Some next)) u e in
    record { most = a.0; enough = omega (arith, u.enough, a.1); few = omega (arith, u.few); same = sym (plus-one_more count (strings_at a.0 next)) ∙ a.2 }

pub stops : (all : Octets) (count : ℕ) (bytes : Octets) → IsUnderway all count bytes → string_step bytes ≡ Ok None
    → strings_at (suc (length all)) all ≡ Ok (count, bytes)
unfolding stepped
stops all count bytes u e =
    let a = after_step all count bytes (Ok None) u e in
    sym a.2 ∙ ap (λ (n : ℕ). Ok (n, bytes)) (add-zero count)

pub fails : (all : Octets) (count : ℕ) (bytes : Octets) (d : Stop) → IsUnderway all count bytes → string_step bytes ≡ Err d
    → strings_at (suc (length all)) all ≡ Err d
unfolding stepped
fails all count bytes d u e = sym (after_step all count bytes (Err d) u e).2

pub none_of : {A : Type 0} (o : Option A) → ((x : A) → o ≡ Some x → ⊥) → o ≡ None
none_of None never = refl
none_of (Some x) never = absurd (never x refl)

pub run_is : (bytes text rest : Octets) (n k : ℕ) → strings_at (suc (length bytes)) bytes ≡ Ok (n, rest) → k ≡ length bytes - length rest
    → text ≡ take k bytes → run_at bytes ≡ Ok ((n, text), rest)
unfolding run_at
run_is bytes text rest n k e is front = rw (e, front, is) refl
