-- The number that the only value is.
use Rattle.std.proofs.Common.{◌≡◌, ◌∙◌, ℕ, List, [], ◌++◌, arith, ap, sym, subst, append-nil}
use Rattle.std.specs.Prelude.{Option, Some, None, MatchOption}
use Rattle.bac_value.specs.Element.{Part, part_spelling, SpellsElement}
use Rattle.bac_value.specs.Meaning.{IsValueOf}
use Rattle.bac_value.specs.Value.{Datum, null, boolean, unsigned, signed, real, double, octets, characters, bits, enumerated, date, time, object}
use Rattle.bac_point_report.specs.Listing.{IsNoNumber, IsNumber, unsigned_in}
use Rattle.bac_point_report.proofs.Objects.{kinds_differ, same_front}

-- ---- one element is no two values

no_unsigned : (d : Datum) (p : Part) → unsigned_in d ≡ None → IsValueOf d p → (n : ℕ) → IsValueOf (unsigned n) p → ⊥
no_unsigned null p none a n b = kinds_differ null (unsigned n) p (λ e. omega (arith, e)) a b
no_unsigned (boolean x) p none a n b = kinds_differ (boolean x) (unsigned n) p (λ e. omega (arith, e)) a b
no_unsigned (unsigned x) p none a n b = cc
no_unsigned (signed x) p none a n b = kinds_differ (signed x) (unsigned n) p (λ e. omega (arith, e)) a b
no_unsigned (real x) p none a n b = kinds_differ (real x) (unsigned n) p (λ e. omega (arith, e)) a b
no_unsigned (double x) p none a n b = kinds_differ (double x) (unsigned n) p (λ e. omega (arith, e)) a b
no_unsigned (octets x) p none a n b = kinds_differ (octets x) (unsigned n) p (λ e. omega (arith, e)) a b
no_unsigned (characters s x) p none a n b = kinds_differ (characters s x) (unsigned n) p (λ e. omega (arith, e)) a b
no_unsigned (bits u x) p none a n b = kinds_differ (bits u x) (unsigned n) p (λ e. omega (arith, e)) a b
no_unsigned (enumerated x) p none a n b = kinds_differ (enumerated x) (unsigned n) p (λ e. omega (arith, e)) a b
no_unsigned (date x) p none a n b = kinds_differ (date x) (unsigned n) p (λ e. omega (arith, e)) a b
no_unsigned (time x) p none a n b = kinds_differ (time x) (unsigned n) p (λ e. omega (arith, e)) a b
no_unsigned (object x) p none a n b = kinds_differ (object x) (unsigned n) p (λ e. omega (arith, e)) a b

is_unsigned : (d : Datum) (n : ℕ) → unsigned_in d ≡ Some n → d ≡ unsigned n
is_unsigned null n e = cc
is_unsigned (boolean x) n e = cc
is_unsigned (unsigned x) n e = cc
is_unsigned (signed x) n e = cc
is_unsigned (real x) n e = cc
is_unsigned (double x) n e = cc
is_unsigned (octets x) n e = cc
is_unsigned (characters s x) n e = cc
is_unsigned (bits u x) n e = cc
is_unsigned (enumerated x) n e = cc
is_unsigned (date x) n e = cc
is_unsigned (time x) n e = cc
is_unsigned (object x) n e = cc

pub number_told : (o : Option ℕ) (d : Datum) (p : Part) → o ≡ unsigned_in d → IsValueOf d p
    → MatchOption o ((n : ℕ) → IsValueOf (unsigned n) p → ⊥) (λ n. IsValueOf (unsigned n) p)
number_told None d p is value = no_unsigned d p (sym is) value
number_told (Some n) d p is value = subst (λ (x : Datum). IsValueOf x p) (is_unsigned d n (sym is)) value

-- ---- values

-- the first element is the only one
only_front : (p : Part) (run others : List ℕ) → SpellsElement p (part_spelling p) → run ≡ part_spelling p ++ others → (n : ℕ) → (is : IsNumber n run)
    → (p ≡ is.element) × (others ≡ [])
only_front p run others spelled is n number =
    same_front p number.element others [] spelled number.spelled (sym is ∙ number.is ∙ sym (append-nil (part_spelling number.element)))

-- more than one
pub more_than_one : (p : Part) (run others : List ℕ) → SpellsElement p (part_spelling p) → run ≡ part_spelling p ++ others → (others ≡ [] → ⊥) → IsNoNumber run
more_than_one p run others spelled is some n number = some (only_front p run others spelled is n number).1

-- one
pub of_one : (o : Option ℕ) (p : Part) (run others : List ℕ) → SpellsElement p (part_spelling p) → run ≡ part_spelling p ++ others → others ≡ []
    → MatchOption o ((n : ℕ) → IsValueOf (unsigned n) p → ⊥) (λ n. IsValueOf (unsigned n) p) → MatchOption o (IsNoNumber run) (λ n. IsNumber n run)
of_one None p run others spelled is last never = λ n number.
    never n (subst (λ (x : Part). IsValueOf (unsigned n) x) (sym (only_front p run others spelled is n number).0) number.value)
of_one (Some n) p run others spelled is last value = record {
  element = p;
  spelled = spelled;
  is = is ∙ ap (λ (xs : List ℕ). part_spelling p ++ xs) last ∙ append-nil (part_spelling p);
  value = value;
}
