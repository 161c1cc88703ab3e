-- Cells whose places rise.
use Rattle.std.proofs.Common.{◌≡◌, ◌==◌, ℕ, zero, suc, ◌<◌, ◌≤◌, true, false, List, [], ◌∷◌, length, drop, get_or, Some, None}
use Rattle.std.proofs.Common.{refl, arith}
use Rattle.std.specs.List.{AllByRecursion}
use Rattle.std.proofs.lemmas.Bool.Decides.{nat_tests}
use Rattle.bac_keep.specs.declared.cell.Cell.{Cell}
use Rattle.bac_keep.specs.Held.{IsRising, held}

-- no cell of them has a place that is below all of theirs
pub none_below : (q : ℕ) (cs : List Cell) → AllByRecursion (λ (d : Cell). q < d.place) cs → held cs q ≡ None
none_below q [] all = refl
none_below q (c ∷ cs) all = let apart : (q == c.place) ≡ false = (let l : q < c.place = all.0 in grind (arith, nat_tests)) in rw apart (none_below q cs all.1)

pub weaker : (q p : ℕ) → q ≤ p → (cs : List Cell) → AllByRecursion (λ (d : Cell). p < d.place) cs → AllByRecursion (λ (d : Cell). q < d.place) cs
weaker q p le [] all = tt
weaker q p le (c ∷ cs) all = (omega (arith, le, all.0), weaker q p le cs all.1)

pub nothing_after : (cs : List Cell) (at : ℕ) (d : Cell) → IsRising cs → at < length cs → (q : ℕ) → q ≤ (get_or cs at d).place
    → held (drop (suc at) cs) q ≡ None
nothing_after [] at d rise l q le = absurd (omega (arith, l))
nothing_after (c ∷ cs) zero d rise l q le = none_below q cs (weaker q c.place le cs rise.0)
nothing_after (c ∷ cs) (suc at) d rise l q le = nothing_after cs at d rise.1 (omega (arith, l)) q le

pub above_at : (p : ℕ) (cs : List Cell) (j : ℕ) (d : Cell) → AllByRecursion (λ (x : Cell). p < x.place) cs → j < length cs → p < (get_or cs j d).place
above_at p [] j d all l = absurd (omega (arith, l))
above_at p (c ∷ cs) zero d all l = all.0
above_at p (c ∷ cs) (suc j) d all l = above_at p cs j d all.1 (omega (arith, l))

-- each cell is found at its place
found_at : (cs : List Cell) (j : ℕ) (d : Cell) → IsRising cs → j < length cs → held cs (get_or cs j d).place ≡ Some (get_or cs j d).octets.items
found_at [] j d rise l = absurd (omega (arith, l))
found_at (c ∷ cs) zero d rise l = let same : (c.place == c.place) ≡ true = grind (arith, nat_tests) in rw same refl
found_at (c ∷ cs) (suc j) d rise l =
    let up : c.place < (get_or cs j d).place = above_at c.place cs j d rise.0 (omega (arith, l)) in
    let apart : ((get_or cs j d).place == c.place) ≡ false = grind (arith, nat_tests) in
    rw apart (found_at cs j d rise.1 (omega (arith, l)))

pub held_at : (cs : List Cell) (at j : ℕ) (d : Cell) → IsRising cs → at ≤ j → j < length cs
    → held (drop at cs) (get_or cs j d).place ≡ Some (get_or cs j d).octets.items
held_at [] at j d rise le l = absurd (omega (arith, l))
held_at (c ∷ cs) zero j d rise le l = found_at (c ∷ cs) j d rise l
held_at (c ∷ cs) (suc at) zero d rise le l = absurd (omega (arith, le))
held_at (c ∷ cs) (suc at) (suc j) d rise le l = held_at cs at j d rise.1 (omega (arith, le)) (omega (arith, l))

-- at the place of a cell, and above it, the cells from it on are all
pub held_above : (cs : List Cell) (at : ℕ) (d : Cell) → IsRising cs → at < length cs → (q : ℕ) → (get_or cs at d).place ≤ q
    → held (drop at cs) q ≡ held cs q
held_above [] at d rise l q le = absurd (omega (arith, l))
held_above (c ∷ cs) zero d rise l q le = refl
held_above (c ∷ cs) (suc at) d rise l q le =
    let up : c.place < (get_or cs at d).place = above_at c.place cs at d rise.0 (omega (arith, l)) in
    let apart : (q == c.place) ≡ false = grind (arith, nat_tests, le) in
    rw apart (held_above cs at d rise.1 (omega (arith, l)) q le)

-- the cell at a place in the list, on top of those after it
pub held_drop : (cs : List Cell) (at : ℕ) (d : Cell) → at < length cs → drop at cs ≡ get_or cs at d ∷ drop (suc at) cs
held_drop [] at d l = absurd (omega (arith, l))
held_drop (c ∷ cs) zero d l = refl
held_drop (c ∷ cs) (suc at) d l = held_drop cs at d (omega (arith, l))
