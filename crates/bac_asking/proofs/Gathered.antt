-- Asks of lines that ended one after the other.
use Rattle.std.proofs.Common.{◌≡◌, ℕ, ◌+◌, List, [], ◌∷◌, ◌++◌, length, refl, sym, subst, ap, arith, length-append}
use Rattle.bac_driver.specs.declared.question.AskEnd.{AskEnd}
use Rattle.bac_driver.specs.Runs.{Timed}
use Rattle.bac_environment.specs.declared.question_lines.LineQuestion.{LineQuestion}
use Rattle.bac_asking.specs.Fleets.{Fleet, NEW_FLEET}
use Rattle.bac_asking.specs.Gathering.{EndsAll, EndsFrom, Gathers}
use Rattle.bac_asking.specs.InFlight.{Aloft, EndsLine, Plan, Sky, aloft, new_sky}
use Rattle.bac_asking.specs.declared.asking.Asking.{Asking}
use Rattle.bac_environment.specs.Sockets.{Links}

-- none has ended
pub none_ended : (IsOn : Links) (plan : Plan) (place : ℕ) (ends : List AskEnd) (old : Aloft) → ends ≡ [] → EndsFrom IsOn plan place ends old old
none_ended IsOn plan place [] old none = refl
none_ended IsOn plan place (how ∷ ends) old none = absurd cc

-- so many ended, in order
pub record EndsSoFar (IsOn : Links) (plan : Plan) (count : ℕ) (ends : List AskEnd) (old new : Aloft) : Type 0 where
  pub run : EndsFrom IsOn plan 0 ends old new
  pub each : length ends ≡ count

pub none_so_far : (IsOn : Links) (plan : Plan) (ends : List AskEnd) (old : Aloft) → ends ≡ [] → EndsSoFar IsOn plan 0 ends old old
none_so_far IsOn plan ends old none = record { run = none_ended IsOn plan 0 ends old none; each = ap length none }

-- one more ended behind them
pub one_more_ended : (IsOn : Links) (plan : Plan) (place at : ℕ) (ends : List AskEnd) (how : AskEnd) (old middle new : Aloft) → at ≡ place + length ends
    → EndsFrom IsOn plan place ends old middle → EndsLine IsOn plan at how middle new → EndsFrom IsOn plan place (ends ++ how ∷ []) old new
one_more_ended IsOn plan place at [] how old middle new is so_far last =
    record {
      middle = new;
      first =
          subst (λ (p : ℕ). EndsLine IsOn plan p how old new) (omega (arith, is))
          (subst (λ (a : Aloft). EndsLine IsOn plan at how a new) so_far last);
      others = refl;
    }
one_more_ended IsOn plan place at (first ∷ ends) how old middle new is so_far last =
    record {
      middle = so_far.middle;
      first = so_far.first;
      others = one_more_ended IsOn plan (place + 1) at ends how so_far.middle middle new (omega (arith, is)) so_far.others last;
    }

pub one_more_so_far : (IsOn : Links) (plan : Plan) (count : ℕ) (ends more : List AskEnd) (how : AskEnd) (old middle new : Aloft)
    → EndsSoFar IsOn plan count ends old middle → EndsLine IsOn plan count how middle new → more ≡ ends ++ how ∷ []
    → EndsSoFar IsOn plan (count + 1) more old new
one_more_so_far IsOn plan count ends more how old middle new so_far last is =
    record {
      run =
          subst (λ (l : List AskEnd). EndsFrom IsOn plan 0 l old new) (sym is)
          (one_more_ended IsOn plan 0 count ends how old middle new (omega (arith, so_far.each)) so_far.run last);
      each = omega (arith, so_far.each, ap length is, length-append ends (how ∷ []));
    }

-- all ended, and nothing had been asked before
pub all_gathered : (IsOn : Links) (asking : Asking) (window share : ℕ) (lines : List LineQuestion) (ends : List AskEnd) (before after : Timed) (fleet : Fleet)
    (sky : Sky) (last : Aloft) → fleet ≡ NEW_FLEET → sky ≡ new_sky lines → after ≡ last.at
    → EndsAll IsOn (record { asking = asking; lines = lines; window = window; share = share }) ends (aloft before fleet sky) last
    → Gathers IsOn asking window lines ends before after
all_gathered IsOn asking window share lines ends before after fleet sky last first waits same all =
    let plan : Plan = record { asking = asking; lines = lines; window = window; share = share } in
    record {
      share = share;
      last = last;
      all =
          subst (λ (f : Fleet). EndsAll IsOn plan ends (aloft before f (new_sky lines)) last) first
          (subst (λ (s : Sky). EndsAll IsOn plan ends (aloft before fleet s) last) waits all);
      same = same;
    }
