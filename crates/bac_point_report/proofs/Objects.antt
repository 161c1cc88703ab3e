-- The objects that values are, one element after the other.
use Rattle.std.proofs.Common.{◌≡◌, ◌∙◌, ◌<◌, ℕ, List, [], ◌∷◌, ◌++◌, length, arith, ap, sym, subst, append_assoc, append-nil, length-append}
use Rattle.std.specs.Prelude.{Option, Some, None, MatchOption}
use Rattle.std.specs.Option.{option_map}
use Rattle.std.proofs.lemmas.List.{append_cancel_left}
use Rattle.bac_value.specs.Element.{Part, part_spelling, SpellsElement}
use Rattle.bac_value.specs.Meaning.{IsValueOf}
use Rattle.bac_value.specs.Spelling.{Mark, tag_spelling}
use Rattle.bac_value.specs.Reading.{element_at}
use Rattle.bac_value.specs.Value.{Datum, ObjectId, null, boolean, unsigned, signed, real, double, octets, characters, bits, enumerated, date, time, object, kind_number}
use Rattle.bac_value.specs.Views.{object_identifier_view, value_view}
use Rattle.bac_value.specs.declared.value.ObjectIdentifier.{ObjectIdentifier}
use Rattle.bac_value.specs.declared.value.Value.{Value}
use Rattle.bac_value.proofs.Elements.{element_exact}
use Rattle.bac_value.proofs.Steps.{one_only}
use Rattle.bac_point_report.specs.Listing.{AreNoObjects, AreObjects, object_in}

-- an element has at least one octet
some_octets : (p : Part) → SpellsElement p (part_spelling p) → 0 < length (part_spelling p)
unfolding tag_spelling
some_octets p s = omega (arith, ap length s.is)

pub shorter : (p : Part) (rest next : List ℕ) → SpellsElement p (part_spelling p) → rest ≡ part_spelling p ++ next → length next < length rest
shorter p rest next s is =
    let some = some_octets p s in
    omega (arith, some, ap length is, length-append (part_spelling p) next)

-- together with the objects of what is left, these are all
abbrev pub AreTaken : List ObjectId → (rest run : List ℕ) → Type 0
AreTaken objects rest run = (more : List ObjectId) → AreObjects more rest → AreObjects (objects ++ more) run

pub one_more : (objects : List ObjectId) (i : ObjectId) (run rest next : List ℕ) (p : Part) → AreTaken objects rest run → SpellsElement p (part_spelling p)
    → rest ≡ part_spelling p ++ next → IsValueOf (object i) p → AreTaken (objects ++ (i ∷ [])) next run
one_more objects i run rest next p before spelled is value = λ more are.
    subst (λ (l : List ObjectId). AreObjects l run) (sym (append_assoc objects (i ∷ []) more))
    (before (i ∷ more) (record { element = p; others = next; spelled = spelled; is = is; value = value; more = are }))

pub all_taken : (objects : List ObjectId) (rest run : List ℕ) → AreTaken objects rest run → rest ≡ [] → AreObjects objects run
all_taken objects rest run taken none = subst (λ (l : List ObjectId). AreObjects l run) (append-nil objects) (taken [] none)

-- ---- values that are no objects

-- where what is left is no objects, all is not
abbrev pub AreLeft : (rest run : List ℕ) → Type 0
AreLeft rest run = AreNoObjects rest → AreNoObjects run

-- of two elements in front each is the other
pub same_front : (p q : Part) (a b : List ℕ) → SpellsElement p (part_spelling p) → SpellsElement q (part_spelling q) → part_spelling p ++ a ≡ part_spelling q ++ b
    → (p ≡ q) × (a ≡ b)
same_front p q a b s t e =
    let same = (one_only element_at SpellsElement element_exact p q (part_spelling p) (part_spelling q) a b s t e).0 in
    (same, append_cancel_left (part_spelling p) a b (e ∙ ap (λ (x : Part). part_spelling x ++ b) (sym same)))

not_empty : (p : Part) (rest next : List ℕ) → SpellsElement p (part_spelling p) → rest ≡ part_spelling p ++ next → rest ≡ [] → ⊥
not_empty p rest next s is none =
    let some = some_octets p s in
    omega (arith, some, ap length is, ap length none, length-append (part_spelling p) next)

pub none_behind : (p : Part) (rest next : List ℕ) → SpellsElement p (part_spelling p) → rest ≡ part_spelling p ++ next → AreLeft next rest
none_behind p rest next s is none [] are = not_empty p rest next s is are
none_behind p rest next s is none (i ∷ others) are =
    let same = same_front p are.element next are.others s are.spelled (sym is ∙ are.is) in
    none others (subst (λ (xs : List ℕ). AreObjects others xs) (sym same.1) are.more)

pub none_first : (p : Part) (rest next : List ℕ) → SpellsElement p (part_spelling p) → rest ≡ part_spelling p ++ next
    → ((i : ObjectId) → IsValueOf (object i) p → ⊥) → AreNoObjects rest
none_first p rest next s is never [] are = not_empty p rest next s is are
none_first p rest next s is never (i ∷ others) are =
    let same = same_front p are.element next are.others s are.spelled (sym is ∙ are.is) in
    never i (subst (λ (x : Part). IsValueOf (object i) x) (sym same.0) are.value)

-- ---- one element is no two values

pub kinds_differ : (d e : Datum) (p : Part) → (kind_number d ≡ kind_number e → ⊥) → IsValueOf d p → IsValueOf e p → ⊥
kinds_differ d e p differ a b = differ (ap (λ (m : Mark). m.number) (sym a.tag ∙ b.tag))

pub no_object : (d : Datum) (p : Part) → object_in d ≡ None → IsValueOf d p → (i : ObjectId) → IsValueOf (object i) p → ⊥
no_object null p none a i b = kinds_differ null (object i) p (λ e. omega (arith, e)) a b
no_object (boolean x) p none a i b = kinds_differ (boolean x) (object i) p (λ e. omega (arith, e)) a b
no_object (unsigned x) p none a i b = kinds_differ (unsigned x) (object i) p (λ e. omega (arith, e)) a b
no_object (signed x) p none a i b = kinds_differ (signed x) (object i) p (λ e. omega (arith, e)) a b
no_object (real x) p none a i b = kinds_differ (real x) (object i) p (λ e. omega (arith, e)) a b
no_object (double x) p none a i b = kinds_differ (double x) (object i) p (λ e. omega (arith, e)) a b
no_object (octets x) p none a i b = kinds_differ (octets x) (object i) p (λ e. omega (arith, e)) a b
no_object (characters s x) p none a i b = kinds_differ (characters s x) (object i) p (λ e. omega (arith, e)) a b
no_object (bits u x) p none a i b = kinds_differ (bits u x) (object i) p (λ e. omega (arith, e)) a b
no_object (enumerated x) p none a i b = kinds_differ (enumerated x) (object i) p (λ e. omega (arith, e)) a b
no_object (date x) p none a i b = kinds_differ (date x) (object i) p (λ e. omega (arith, e)) a b
no_object (time x) p none a i b = kinds_differ (time x) (object i) p (λ e. omega (arith, e)) a b
no_object (object x) p none a i b = cc

-- ---- what is told of a value

is_object : (d : Datum) (i : ObjectId) → object_in d ≡ Some i → d ≡ object i
is_object null i e = cc
is_object (boolean x) i e = cc
is_object (unsigned x) i e = cc
is_object (signed x) i e = cc
is_object (real x) i e = cc
is_object (double x) i e = cc
is_object (octets x) i e = cc
is_object (characters s x) i e = cc
is_object (bits u x) i e = cc
is_object (enumerated x) i e = cc
is_object (date x) i e = cc
is_object (time x) i e = cc
is_object (object x) i e = cc

pub object_told : (o : Option ObjectIdentifier) (d : Datum) (p : Part) → option_map object_identifier_view o ≡ object_in d → IsValueOf d p
    → MatchOption o ((i : ObjectId) → IsValueOf (object i) p → ⊥) (λ i. IsValueOf (object (object_identifier_view i)) p)
object_told None d p is value = no_object d p (sym is) value
object_told (Some i) d p is value = subst (λ (x : Datum). IsValueOf x p) (is_object d (object_identifier_view i) (sym is)) value

-- an element is no object, so all is not
pub none_at : (objects : List ObjectId) (p : Part) (run rest next : List ℕ) → AreTaken objects rest run × AreLeft rest run
    → SpellsElement p (part_spelling p) → rest ≡ part_spelling p ++ next → ((i : ObjectId) → IsValueOf (object i) p → ⊥) → AreNoObjects run
none_at objects p run rest next left spelled is never = left.1 (none_first p rest next spelled is never)

-- ---- what is told by none

pub no_value : (o : Option Value) (p : Part) → o ≡ None → MatchOption o ((d : Datum) → IsValueOf d p → ⊥) (λ v. IsValueOf (value_view v) p)
    → (d : Datum) → IsValueOf d p → ⊥
no_value None p is none d value = none d value
no_value (Some v) p is none d value = absurd cc

pub no_object_none : (o : Option ObjectIdentifier) (p : Part) → o ≡ None
    → MatchOption o ((i : ObjectId) → IsValueOf (object i) p → ⊥) (λ i. IsValueOf (object (object_identifier_view i)) p)
    → (i : ObjectId) → IsValueOf (object i) p → ⊥
no_object_none None p is none i value = none i value
no_object_none (Some x) p is none i value = absurd cc
