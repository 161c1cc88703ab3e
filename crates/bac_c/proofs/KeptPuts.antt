-- A cell that is put among cells whose places rise.
use Rattle.std.proofs.Common.{◌≡◌, ◌≢◌, ◌==◌, ℕ, zero, suc, ◌<◌, ◌≤◌, Bool, true, false, List, [], ◌∷◌, length, map, get_or, Option, Some, None, refl, sym, ap, ◌∙◌, subst, arith, if◌then◌else◌}
use Rattle.std.specs.List.{AllByRecursion, insert}
use Rattle.std.specs.Prelude.{set}
use Rattle.std.proofs.lemmas.Bool.Decides.{nat_tests}
use Rattle.bac_keep.specs.declared.cell.Cell.{Cell}
use Rattle.bac_keep.specs.Cells.{Cells, with_cell}
use Rattle.bac_keep.specs.Held.{IsRising, held}
use Rattle.bac_c.specs.Kept.{AreBelow, IsNextFrom, cells_in, entry}

-- one more cell is below
pub one_more_below : (p at : ℕ) (cs : List Cell) (d : Cell) → at < length cs → (get_or cs at d).place < p → AreBelow p at cs → AreBelow p (suc at) cs
one_more_below p zero (c ∷ cs) d l less all = (less, tt)
one_more_below p (suc at) (c ∷ cs) d l less all = (all.0, one_more_below p at cs d (omega (arith, l)) less all.1)
one_more_below p at [] d l less all = absurd (omega (arith, l))

pub next_from : (p at : ℕ) (cs : List Cell) (d : Cell) → at < length cs → p ≤ (get_or cs at d).place → IsNextFrom p at cs
next_from p at [] d l le = absurd (omega (arith, l))
next_from p zero (c ∷ cs) d l le = le
next_from p (suc at) (c ∷ cs) d l le = next_from p at cs d (omega (arith, l)) le

pub none_next : (p at : ℕ) (cs : List Cell) → length cs ≤ at → IsNextFrom p at cs
none_next p at [] l = tt
none_next p zero (c ∷ cs) l = absurd (omega (arith, l))
none_next p (suc at) (c ∷ cs) l = none_next p at cs (omega (arith, l))

-- ---- a cell that has a place of its own

over_one : (p a q : ℕ) (x y : Option (List ℕ)) (rest : Option (List ℕ)) → a < p
    → (if q == a then y else (if q == p then x else rest)) ≡ (if q == p then x else (if q == a then y else rest))
over_one p a q x y rest less = go (q == p) refl
  where
    go : (b : Bool) → (q == p) ≡ b → (if q == a then y else (if q == p then x else rest)) ≡ (if q == p then x else (if q == a then y else rest))
    go true e = let apart : (q == a) ≡ false = grind (arith, nat_tests, e, less) in rw (apart, e) refl
    go false e = rw e refl

held_inserted : (cs : List Cell) (at : ℕ) (x : Cell) → AreBelow x.place at cs → (q : ℕ) → held (insert cs at x) q ≡ with_cell x.place x.octets.items (held cs) q
held_inserted cs zero x below q = refl
held_inserted [] (suc at) x below q = refl
held_inserted (c ∷ cs) (suc at) x below q =
    ap (λ (y : Option (List ℕ)). if q == c.place then Some c.octets.items else y) (held_inserted cs at x below.1 q)
    ∙ over_one x.place c.place q (Some x.octets.items) (Some c.octets.items) (held cs q) below.0

pub cells_inserted : (cs : List Cell) (at : ℕ) (x : Cell) → AreBelow x.place at cs → held (insert cs at x) ≡ with_cell x.place x.octets.items (held cs)
cells_inserted cs at x below = λ i q. held_inserted cs at x below q i

above_all : (p : ℕ) (c : Cell) (cs : List Cell) → p < c.place → AllByRecursion (λ (d : Cell). c.place < d.place) cs → AllByRecursion (λ (d : Cell). p < d.place) cs
above_all p c [] less all = tt
above_all p c (d ∷ cs) less all = (omega (arith, less, all.0), above_all p c cs less all.1)

all_inserted : (p at : ℕ) (x : Cell) (cs : List Cell) → p < x.place → AllByRecursion (λ (d : Cell). p < d.place) cs
    → AllByRecursion (λ (d : Cell). p < d.place) (insert cs at x)
all_inserted p zero x cs less all = (less, all)
all_inserted p (suc at) x [] less all = (less, tt)
all_inserted p (suc at) x (c ∷ cs) less all = (all.0, all_inserted p at x cs less all.1)

-- the next cell has another place
abbrev pub IsApartAt : (place index : ℕ) → List Cell → Type 0
IsApartAt p i [] = Unit {0}
IsApartAt p zero (c ∷ cs) = (c.place ≡ p) → ⊥
IsApartAt p (suc i) (c ∷ cs) = IsApartAt p i cs

pub apart_past : (p at : ℕ) (cs : List Cell) → length cs ≤ at → IsApartAt p at cs
apart_past p at [] l = tt
apart_past p zero (c ∷ cs) l = absurd (omega (arith, l))
apart_past p (suc at) (c ∷ cs) l = apart_past p at cs (omega (arith, l))

pub apart_at : (p at : ℕ) (cs : List Cell) (d : Cell) → ((get_or cs at d).place ≡ p → ⊥) → IsApartAt p at cs
apart_at p at [] d other = tt
apart_at p zero (c ∷ cs) d other = other
apart_at p (suc at) (c ∷ cs) d other = apart_at p at cs d other

pub less_of : (p c : ℕ) → p ≤ c → (c ≡ p → ⊥) → p < c
less_of p c le other = go (c == p) refl
  where
    go : (b : Bool) → (c == p) ≡ b → p < c
    go true e = let same : c ≡ p = grind (arith, nat_tests, e) in absurd (other same)
    go false e = grind (arith, nat_tests, e, le)

rises : (cs : List Cell) (at : ℕ) (x : Cell) → IsRising cs → AreBelow x.place at cs → IsNextFrom x.place at cs → IsApartAt x.place at cs → IsRising (insert cs at x)
rises [] zero x rise below next other = (tt, tt)
rises (c ∷ cs) zero x rise below next other = let less : x.place < c.place = less_of x.place c.place next other in ((less, above_all x.place c cs less rise.0), rise)
rises [] (suc at) x rise below next other = (tt, tt)
rises (c ∷ cs) (suc at) x rise below next other = (all_inserted c.place at x cs below.0 rise.0, rises cs at x rise.1 below.1 next other)

pub rises_where_apart : (cs : List Cell) (at : ℕ) (x d : Cell) → IsRising cs → AreBelow x.place at cs → IsNextFrom x.place at cs
    → ((get_or cs at d).place ≡ x.place → ⊥) → IsRising (insert cs at x)
rises_where_apart cs at x d rise below next other = rises cs at x rise below next (apart_at x.place at cs d other)

pub rises_at_end : (cs : List Cell) (at : ℕ) (x : Cell) → IsRising cs → AreBelow x.place at cs → IsNextFrom x.place at cs → length cs ≤ at → IsRising (insert cs at x)
rises_at_end cs at x rise below next past = rises cs at x rise below next (apart_past x.place at cs past)

-- ---- a cell instead of another one at its place

over_same : (p q : ℕ) (x y rest : Option (List ℕ)) → (if q == p then x else rest) ≡ (if q == p then x else (if q == p then y else rest))
over_same p q x y rest = go (q == p)
  where
    go : (b : Bool) → (if b then x else rest) ≡ (if b then x else (if b then y else rest))
    go true = refl
    go false = refl

held_set : (cs : List Cell) (at : ℕ) (x d : Cell) → at < length cs → (get_or cs at d).place ≡ x.place → AreBelow x.place at cs
    → (q : ℕ) → held (set cs at x) q ≡ with_cell x.place x.octets.items (held cs) q
held_set [] at x d l same below q = absurd (omega (arith, l))
held_set (c ∷ cs) zero x d l same below q =
    over_same x.place q (Some x.octets.items) (Some c.octets.items) (held cs q)
    ∙ ap (λ (p : ℕ). if q == x.place then Some x.octets.items else (if q == p then Some c.octets.items else held cs q)) (sym same)
held_set (c ∷ cs) (suc at) x d l same below q =
    ap (λ (y : Option (List ℕ)). if q == c.place then Some c.octets.items else y) (held_set cs at x d (omega (arith, l)) same below.1 q)
    ∙ over_one x.place c.place q (Some x.octets.items) (Some c.octets.items) (held cs q) below.0

pub cells_set : (cs : List Cell) (at : ℕ) (x d : Cell) → at < length cs → (get_or cs at d).place ≡ x.place → AreBelow x.place at cs
    → held (set cs at x) ≡ with_cell x.place x.octets.items (held cs)
cells_set cs at x d l same below = λ i q. held_set cs at x d l same below q i

all_set : (p at : ℕ) (x : Cell) (cs : List Cell) → p < x.place → AllByRecursion (λ (d : Cell). p < d.place) cs → AllByRecursion (λ (d : Cell). p < d.place) (set cs at x)
all_set p at x [] less all = all
all_set p zero x (c ∷ cs) less all = (less, all.1)
all_set p (suc at) x (c ∷ cs) less all = (all.0, all_set p at x cs less all.1)

same_above : (p r : ℕ) (cs : List Cell) → p ≡ r → AllByRecursion (λ (d : Cell). p < d.place) cs → AllByRecursion (λ (d : Cell). r < d.place) cs
same_above p r [] e all = tt
same_above p r (c ∷ cs) e all = (omega (arith, e, all.0), same_above p r cs e all.1)

pub rises_set : (cs : List Cell) (at : ℕ) (x d : Cell) → IsRising cs → at < length cs → (get_or cs at d).place ≡ x.place → AreBelow x.place at cs → IsRising (set cs at x)
rises_set [] at x d rise l same below = rise
rises_set (c ∷ cs) zero x d rise l same below = (same_above c.place x.place cs same rise.0, rise.1)
rises_set (c ∷ cs) (suc at) x d rise l same below = (all_set c.place at x cs below.0 rise.0, rises_set cs at x d rise.1 (omega (arith, l)) same below.1)

-- ---- a cell of a list is held

pub is_held : (cs : List Cell) (at : ℕ) (d : Cell) → at < length cs → held cs (get_or cs at d).place ≢ None
is_held [] at d l = absurd (omega (arith, l))
is_held (c ∷ cs) zero d l = λ none. go (c.place == c.place) refl none
  where
    go : (b : Bool) → (c.place == c.place) ≡ b → (if b then Some c.octets.items else held cs c.place) ≡ None → ⊥
    go true e none = cc
    go false e none = let same : (c.place == c.place) ≡ true = grind (arith, nat_tests) in cc
is_held (c ∷ cs) (suc at) d l = λ none. go ((get_or cs at d).place == c.place) (is_held cs at d (omega (arith, l))) none
  where
    go : (b : Bool) → held cs (get_or cs at d).place ≢ None → (if b then Some c.octets.items else held cs (get_or cs at d).place) ≡ None → ⊥
    go true there none = cc
    go false there none = there none

-- ---- what a C program sees of a list of cells

held_entries : (cs : List Cell) → cells_in (map entry cs) ≡ held cs
held_entries [] = refl
held_entries (c ∷ cs) = ap (λ (x : Cells). with_cell c.place c.octets.items x) (held_entries cs)

pub entries_inserted : (cs new : List Cell) (at : ℕ) (x : Cell) (octets : List ℕ) → new ≡ insert cs at x → AreBelow x.place at cs → x.octets.items ≡ octets
    → cells_in (map entry new) ≡ with_cell x.place octets (cells_in (map entry cs))
entries_inserted cs new at x octets is below same =
    held_entries new
    ∙ ap held is
    ∙ cells_inserted cs at x below
    ∙ ap (λ (o : List ℕ). with_cell x.place o (held cs)) same
    ∙ ap (λ (y : Cells). with_cell x.place octets y) (sym (held_entries cs))

pub entries_set : (cs new : List Cell) (at : ℕ) (x d : Cell) (octets : List ℕ) → new ≡ set cs at x → at < length cs → get_or cs at d ≡ d → d.place ≡ x.place
    → AreBelow x.place at cs → x.octets.items ≡ octets → cells_in (map entry new) ≡ with_cell x.place octets (cells_in (map entry cs))
entries_set cs new at x d octets is l there same below octets_same =
    held_entries new
    ∙ ap held is
    ∙ cells_set cs at x d l (ap (λ (c : Cell). c.place) there ∙ same) below
    ∙ ap (λ (o : List ℕ). with_cell x.place o (held cs)) octets_same
    ∙ ap (λ (y : Cells). with_cell x.place octets y) (sym (held_entries cs))

pub rising_set : (cs new : List Cell) (at : ℕ) (x d : Cell) → new ≡ set cs at x → IsRising cs → at < length cs → get_or cs at d ≡ d → d.place ≡ x.place
    → AreBelow x.place at cs → IsRising new
rising_set cs new at x d is rise l there same below =
    subst IsRising (sym is) (rises_set cs at x d rise l (ap (λ (c : Cell). c.place) there ∙ same) below)

pub rising_apart : (cs new : List Cell) (at : ℕ) (x d : Cell) → new ≡ insert cs at x → IsRising cs → AreBelow x.place at cs → IsNextFrom x.place at cs
    → get_or cs at d ≡ d → (d.place ≡ x.place → ⊥) → IsRising new
rising_apart cs new at x d is rise below next there other =
    subst IsRising (sym is) (rises_where_apart cs at x d rise below next (λ e. other (ap (λ (c : Cell). c.place) (sym there) ∙ e)))

pub rising_end : (cs new : List Cell) (at : ℕ) (x : Cell) → new ≡ insert cs at x → IsRising cs → AreBelow x.place at cs → IsNextFrom x.place at cs
    → length cs ≤ at → IsRising new
rising_end cs new at x is rise below next past = subst IsRising (sym is) (rises_at_end cs at x rise below next past)

-- what is said of a list whose places rise is so of its cells
pub of_entries : (P : Cells → Type 0) (cs shown : List Cell) (entries : List (ℕ × List ℕ)) → shown ≡ cs → entries ≡ map entry cs → IsRising cs
    → (IsRising shown → P (held shown)) → P (cells_in entries)
of_entries P cs shown entries same are rise is =
    let here : P (held cs) = subst (λ (x : List Cell). IsRising x → P (held x)) same is rise in
    subst (λ (x : List (ℕ × List ℕ)). P (cells_in x)) (sym are) (subst P (sym (held_entries cs)) here)
