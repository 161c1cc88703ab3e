-- Stretches of a server, one after the other.
use Rattle.std.proofs.Common.{◌≡◌, ℕ, ◌+◌, ◌≤◌, true, ◌∷◌, Option, Some, IfSome, MatchOption, refl, ap, subst, ◌∙◌, inl, inr, arith, min}
use Rattle.bac_driver.specs.Moments.{with_moment}
use Rattle.bac_driver.specs.Runs.{Timed, timed}
use Rattle.bac_driver.specs.Serving.{IsBefore, IsOver}
use Rattle.bac_driver.specs.Waits.{MOST}
use Rattle.bac_driver.specs.declared.wait_limit.WaitLimit.{WaitLimit}
use Rattle.bac_serving.specs.Stretches.{AreTaken, IsChanged, STRETCH, TakesStretch, TakesStretches, Way, stop_limit, stretch_limit}
use Rattle.bac_serving.specs.declared.looking.Stop.{Stop}
use Rattle.bac_serving.specs.declared.looking.Stretch.{Stretch}

-- a stretch whose limit is that of its beginning
pub one_taken : (By : Way) (stop : Option ℕ) (began longest most effects : ℕ) (limit : WaitLimit) (old looked middle new : Timed)
    → looked ≡ timed old.bound_node (with_moment old.told began) → IsBefore began stop → longest ≤ STRETCH → most ≡ MOST → limit ≡ stretch_limit began longest stop
    → By limit most effects looked middle → IsChanged middle.bound_node new.bound_node → TakesStretch By stop old effects new
one_taken By stop began longest most effects limit old looked middle new told early short all is serves changed =
    record {
      began = began;
      early = early;
      longest = longest;
      short = short;
      middle = middle;
      serves =
          subst (λ (t : Timed). By (stretch_limit began longest stop) MOST effects t middle) told
          (subst (λ (n : ℕ). By (stretch_limit began longest stop) n effects looked middle) all
          (subst (λ (p : WaitLimit). By p most effects looked middle) is serves));
      changed = changed;
    }

-- the clock gave a moment that is too late
pub over_so : (stop : Option ℕ) (now : ℕ) (old new : Timed) → new ≡ timed old.bound_node (with_moment old.told now)
    → MatchOption stop ⊥ (λ moment. moment ≤ now) → IsOver (stop_limit stop) old new
over_so stop now old new told late =
    record { now = now; told = ap (λ (t : Timed). t.told) told; late = late; same = ap (λ (t : Timed). t.bound_node) told }

-- one more, behind those so far
pub with_more : (By : Way) (stop : Option ℕ) (count effects sum : ℕ) (old middle new : Timed) (found : Option Stretch) (stretch : Stretch) → found ≡ Some stretch
    → MatchOption found (IsOver (stop_limit stop) middle new) (λ s. TakesStretch By stop middle s.effects new) → AreTaken By stop count effects old middle
    → sum ≡ min (effects + stretch.effects) MOST → AreTaken By stop (count + 1) sum old new
with_more By stop count effects sum old middle new found stretch is takes so_far added =
    let takes : TakesStretch By stop middle stretch.effects new =
    subst (λ (f : Option Stretch). MatchOption f (IsOver (stop_limit stop) middle new) (λ s. TakesStretch By stop middle s.effects new)) is takes in
    record {
      stretches = stretch.effects ∷ so_far.stretches;
      all = omega (arith, so_far.all);
      runs = record { middle = middle; so_far = so_far.runs; last = takes };
      counted = added ∙ ap (λ (n : ℕ). min (n + stretch.effects) MOST) so_far.counted;
    }

-- the last of them, with which a server stops that stops with standard input
pub until_input : (By : Way) (stop : Stop) (count effects : ℕ) (old new : Timed) (found : Option Stretch) (stretch : Stretch) → found ≡ Some stretch
    → stretch.is_last ≡ true → IfSome found (λ s. s.is_last ≡ true → stop.with_input ≡ true) → AreTaken By stop.at count effects old new
    → TakesStretches By stop effects old new
until_input By stop count effects old new found stretch is last input taken =
    let told = subst (λ (f : Option Stretch). IfSome f (λ s. s.is_last ≡ true → stop.with_input ≡ true)) is input in
    record { count = count; last = new; taken = taken; stopped = inr (refl, inl (told last)) }
