-- When a port comes again.
use Rattle.std.proofs.Common.{◌≡◌, ◌⊎◌, ℕ, ◌+◌, ◌/◌, ◌%◌, ◌<◌, ◌≤◌, Bool, true, false, List, if◌then◌else◌, nat_lt, refl, inl, inr, arith}
use Rattle.std.proofs.lemmas.Bool.Decides.{nat_tests}
use Rattle.std.proofs.Math.Nat.{div-add-mod}
use Rattle.bac_pairs.specs.Pairs.{port_by, port_at, share_at, share_end}
use Rattle.bac_pairs.specs.Clients.{AreApart, AreInTurn, Client}
use Rattle.bac_pairs.proofs.Places.{place_apart}

same_place : (n m : ℕ) → port_by n ≡ port_by m → n ≡ m
same_place n m e = go (nat_lt (32768 + n) 47808) (nat_lt (32768 + m) 47808) refl refl e
  where
    go : (b c : Bool) → nat_lt (32768 + n) 47808 ≡ b → nat_lt (32768 + m) 47808 ≡ c
        → (if b then 32768 + n else 32784 + n) ≡ (if c then 32768 + m else 32784 + m) → n ≡ m
    go true true f g e = omega (arith, e)
    go false false f g e = omega (arith, e)
    go true false f g e =
        let below : 32768 + n < 47808 = grind (arith, nat_tests) in
        let above : 47808 ≤ 32768 + m = grind (arith, nat_tests) in
        absurd (omega (arith, e, below, above))
    go false true f g e =
        let below : 32768 + m < 47808 = grind (arith, nat_tests) in
        let above : 47808 ≤ 32768 + n = grind (arith, nat_tests) in
        absurd (omega (arith, e, below, above))

far : (q r : ℕ) → q < r → q % 25921 ≡ r % 25921 → q + 25921 ≤ r
far q r l e =
    let one = div-add-mod q 25921 in
    let other = div-add-mod r 25921 in
    omega (arith, l, e, one, other)

later : (one other : ℕ) → one / 6400 + 25921 ≤ other / 6400 → share_end one + 165888000 ≤ other
later one other l = let second = div-add-mod other 6400 in omega (arith, l, second)

-- a later share's port is that of an earlier one only so much later
pub comes_late : (key : List ℕ) (one other : ℕ) → share_at one < share_at other → port_at key one ≡ port_at key other → share_end one + 165888000 ≤ other
comes_late key one other l e =
    later one other (far (share_at one) (share_at other) l (place_apart key (share_at one) (share_at other) (same_place _ _ e)))

pub come_late : (key : List ℕ) (one other : ℕ) → one ≤ other → port_at key one ≡ port_at key other
    → (share_at one ≡ share_at other) ⊎ (share_end one + 165888000 ≤ other)
come_late key one other l e = go (nat_lt (share_at one) (share_at other)) refl
  where
    go : (b : Bool) → nat_lt (share_at one) (share_at other) ≡ b → (share_at one ≡ share_at other) ⊎ (share_end one + 165888000 ≤ other)
    go true g = inr (comes_late key one other (grind (arith, nat_tests)) e)
    go false g =
        let back : share_at other ≤ share_at one = grind (arith, nat_tests) in
        let first = div-add-mod one 6400 in
        let second = div-add-mod other 6400 in
        inl (omega (arith, l, back))

pub apart : (key : List ℕ) (clients : List Client) → AreInTurn clients → AreApart key clients
apart key clients turn i j one other l at_i at_j e =
    let share = comes_late key one.took other.took (turn.shares i j one other l at_i at_j) e in
    record { share = share; asks = λ ask has. let late = turn.in_time i one at_i ask has in omega (arith, share, late) }
