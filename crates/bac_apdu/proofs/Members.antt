-- The two laws of each member of an APDU: what is read is a spelling of the member, and each spelling is read as that member.
use Rattle.std.proofs.Common.{◌≡◌, ℕ, ◌+◌, ◌*◌, ◌/◌, ◌%◌, ◌<◌, Bool, true, false, cond, ltb, List, [], ◌∷◌, ◌++◌, Result, Ok, Err, Option, Some, None, refl}
use Rattle.std.proofs.Common.{ap, subst, ◌∙◌, arith, IsTrue}
use Rattle.std.specs.Prelude.{is_some}
use Rattle.std.proofs.lemmas.Bool.{ltb-true, lt-ltb, and_parts, and_from}
use Rattle.bac_value.specs.Octets.{IsBytes}
use Rattle.bac_value.specs.Steps.{◌>>=◌, octet_at}
use Rattle.bac_value.proofs.Steps.{Takes, Takes-then, octet_takes, bind_ok, where_ok, ok_is}
use Rattle.bac_apdu.specs.declared.fault.ApduFault.{ApduFault}
use Rattle.bac_apdu.specs.declared.fault.ApduFault.TheVariants.{Truncated, ReservedBits, ReservedCode, BadWindow}
use Rattle.bac_apdu.specs.Apdu.{Limits, Segment}
use Rattle.bac_apdu.specs.Spelling.{window_fits, limits_fit, segment_fits, bit, segment_bits, segment_octets}
use Rattle.bac_apdu.specs.Reading.{window_at, segment_at, limits_at}

-- ---- windows and segments

pub window_takes : (bytes : List ℕ) (x : ℕ × List ℕ) → IsBytes bytes → window_at bytes ≡ Ok x → Takes bytes (x.0 ∷ []) x.1 × IsTrue (window_fits x.0)
unfolding window_at
window_takes bytes x fits e =
    let one = bind_ok (octet_at Truncated bytes) (λ w. cond (window_fits w.0) (Ok (w.0, w.1)) (Err BadWindow)) x e in
    let t = octet_takes Truncated bytes one.0 fits one.1 in
    let g = where_ok (window_fits one.0.0) BadWindow (Ok (one.0.0, one.0.1)) x one.2 in
    subst (λ (y : ℕ × List ℕ). Takes bytes (y.0 ∷ []) y.1 × IsTrue (window_fits y.0)) (ok_is (one.0.0, one.0.1) x g.1) (t.0, g.0)

abbrev segment : Bool → ℕ → ℕ → Segment
segment more number window = record { more = more; number = number; window = window }

-- the flag for more segments
abbrev pub more_of : Option Segment → Bool
more_of None = false
more_of (Some s) = s.more

IsSegment : Bool → Bool → List ℕ → Option Segment × List ℕ → Type 0
IsSegment is more bytes x = Takes bytes (segment_octets x.0) x.1 × IsTrue (segment_fits x.0) × (segment_bits x.0 ≡ cond is (8 + bit more 4) 0)

pub segment_takes : (is more : Bool) (bytes : List ℕ) (x : Option Segment × List ℕ) → IsBytes bytes → segment_at is more bytes ≡ Ok x
    → Takes bytes (segment_octets x.0) x.1 × IsTrue (segment_fits x.0) × (segment_bits x.0 ≡ cond is (8 + bit more 4) 0)
unfolding segment_at IsSegment
segment_takes false more bytes x fits e = subst (IsSegment false more bytes) (ok_is (None, bytes) x e) (record { parts = refl; rest_fits = fits }, refl, refl)
segment_takes true more bytes x fits e =
    let after_window : ℕ → ℕ × List ℕ → Result (Option Segment × List ℕ) ApduFault = λ number window. Ok (Some (segment more number window.0), window.1) in
    let number = bind_ok (octet_at Truncated bytes) (λ number. window_at number.1 >>= after_window number.0) x e in
    let tn = octet_takes Truncated bytes number.0 fits number.1 in
    let window = bind_ok (window_at number.0.1) (after_window number.0.0) x number.2 in
    let tw = window_takes number.0.1 window.0 tn.0.rest_fits window.1 in
    let both = Takes-then bytes (number.0.0 ∷ []) number.0.1 (window.0.0 ∷ []) window.0.1 tn.0 tw.0 in
    subst (IsSegment true more bytes) (ok_is (Some (segment more number.0.0 window.0.0), window.0.1) x window.2) (both, tw.1, refl)

pub segment_again : (s : Option Segment) (rest : List ℕ) → IsTrue (segment_fits s)
    → segment_at (is_some s) (more_of s) (segment_octets s ++ rest) ≡ Ok (s, rest)
unfolding segment_at window_at
segment_again None rest fits = refl
segment_again (Some s) rest fits = rw fits refl

-- ---- codes

abbrev limits : Bool → ℕ → ℕ → Limits
limits takes segments apdu = record { takes_segments = takes; max_segments = segments; max_apdu = apdu }

abbrev LimitsRead : Bool → List ℕ → Limits × List ℕ → Type 0
LimitsRead takes bytes x =
    Takes bytes ((16 * x.0.max_segments + x.0.max_apdu) ∷ []) x.1 × IsTrue (limits_fit x.0) × (x.0.takes_segments ≡ takes)

pub limits_takes : (takes : Bool) (bytes : List ℕ) (x : Limits × List ℕ) → IsBytes bytes → limits_at takes bytes ≡ Ok x
    → Takes bytes ((16 * x.0.max_segments + x.0.max_apdu) ∷ []) x.1 × IsTrue (limits_fit x.0) × (x.0.takes_segments ≡ takes)
unfolding limits_at
limits_takes takes bytes x fits e =
    let split : ℕ × List ℕ → Result (Limits × List ℕ) ApduFault =
    λ c. cond (ltb (c.0 % 16) 6) (Ok (limits takes (c.0 / 16) (c.0 % 16), c.1)) (Err ReservedCode) in
    let one = bind_ok (octet_at Truncated bytes) (λ c. cond (ltb c.0 128) (split c) (Err ReservedBits)) x e in
    let c : ℕ = one.0.0 in
    let t = octet_takes Truncated bytes one.0 fits one.1 in
    let g = where_ok (ltb c 128) ReservedBits (split one.0) x one.2 in
    let h = where_ok (ltb (c % 16) 6) ReservedCode (Ok (limits takes (c / 16) (c % 16), one.0.1)) x g.1 in
    let whole : c ≡ 16 * (c / 16) + c % 16 = omega arith in
    let high : ltb (c / 16) 8 ≡ true = lt-ltb (c / 16) 8 (omega (arith, ltb-true _ _ g.0)) in
    subst (LimitsRead takes bytes) (ok_is (limits takes (c / 16) (c % 16), one.0.1) x h.1) (
      record { parts = t.0.parts ∙ ap (λ (n : ℕ). n ∷ one.0.1) whole; rest_fits = t.0.rest_fits },
      and_from (ltb (c / 16) 8) (ltb (c % 16) 6) high h.0,
      refl,
    )

pub limits_again : (l : Limits) (rest : List ℕ) → IsTrue (limits_fit l)
    → limits_at l.takes_segments ((16 * l.max_segments + l.max_apdu) ∷ rest) ≡ Ok (l, rest)
unfolding limits_at
limits_again l rest fits =
    let p = and_parts (ltb l.max_segments 8) (ltb l.max_apdu 6) fits in
    let la : l.max_segments < 8 = ltb-true _ _ p.0 in
    let lb : l.max_apdu < 6 = ltb-true _ _ p.1 in
    let low : (16 * l.max_segments + l.max_apdu) % 16 ≡ l.max_apdu = omega arith in
    let high : (16 * l.max_segments + l.max_apdu) / 16 ≡ l.max_segments = omega arith in
    rw (lt-ltb (16 * l.max_segments + l.max_apdu) 128 (omega arith), low, high, p.1) refl
