-- What a server whose store is kept printed, and what is kept.
use Rattle.std.proofs.Common.{◌≡◌, ℕ, Bool, true, false, List, Option, None, Some, IfSome, MatchOption, subst}
use Rattle.bac_store.specs.Stores.{Store}
use Rattle.bac_text.specs.declared.status.Status.{Status}
use Rattle.bac_text.specs.declared.status.Status.TheVariants as status
use Rattle.bac_driver.specs.Kept.{keeper_of}
use Rattle.bac_driver.specs.Observed.{Observed}
use Rattle.bac_driver.specs.Rounds.{IsKept}
use Rattle.bac_driver.specs.Runs.{Timed}
use Rattle.bac_driver.specs.Seen.{Watcher}
use Rattle.bac_driver.specs.declared.round.Round.{Round}
use Rattle.bac_driver.specs.declared.wait_limit.WaitLimit.{WaitLimit}
use Rattle.bac_server.specs.Kept.{EndsKept, IsKeptByStatus, ReportsKept, RoundsText, Unseen, unwatched}
use Rattle.bac_commands.specs.Statuses.{ByStatus}
use Rattle.bac_server.proofs.Unwatched.{text_of}
use Rattle.bac_serving.specs.Keeping.{EndsWith, IsServedStore, Runs, RunsInRounds, RunsInStretches, RunsTo}
use Rattle.bac_environment.specs.Sockets.{Clocks, Links}
use Rattle.bac_serving.specs.Online.{IsServer}
use Rattle.bac_serving.specs.Serving.{patience_of}
use Rattle.bac_serving.specs.Stretches.{PrintsStretches, ServesInRounds}
use Rattle.bac_serving.specs.declared.looking.Stop.{Stop}
use Rattle.bac_environment.specs.Limits.{turns_of}
use Rattle.bac_serving.specs.declared.serving.Serving.{Serving}
use Rattle.bac_environment.proofs.Statuses.{lifted}

-- whoever saw it
pub printed_so : {S : Type 0} (Sees : Watcher S) (s : Status) (p q : WaitLimit) (m n : ℕ) (before after : Observed S) (old new : Option (List ℕ))
    → p ≡ q → m ≡ n → ReportsKept s Sees p m before after old new → ByStatus s (RoundsText q n before.timed after.timed old new) ⊥ ⊥
printed_so Sees s p q m n before after old new waits most reports =
    lifted s
    (λ t. subst (λ (k : ℕ). RoundsText q k before.timed after.timed old new) most
    (subst (λ (r : WaitLimit). RoundsText r m before.timed after.timed old new) waits (text_of Sees p m before after old new t)))
    (λ (no : ⊥). absurd no) (λ (no : ⊥). absurd no) reports

pub kept_so : {K : Type 0} (p q : WaitLimit) (m n : ℕ) (IsHonest IsOpen : K → Type 0) (kept noted : K → Store) (may_find : K → Store → Type 0) (keeper : K)
    (before after : Timed) → p ≡ q → m ≡ n
    → EndsKept Unseen p m IsHonest IsOpen kept noted may_find keeper (unwatched before) (unwatched after)
    → EndsKept Unseen q n IsHonest IsOpen kept noted may_find keeper (unwatched before) (unwatched after)
kept_so p q m n IsHonest IsOpen kept noted may_find keeper before after waits most ends =
    subst (λ (k : ℕ). EndsKept Unseen q k IsHonest IsOpen kept noted may_find keeper (unwatched before) (unwatched after)) most
    (subst (λ (r : WaitLimit). EndsKept Unseen r m IsHonest IsOpen kept noted may_find keeper (unwatched before) (unwatched after)) waits ends)

-- what a status says of two things, it says of both
both : {A B C : Type 0} (s : Status) → (A → B → C) → ByStatus s A ⊥ ⊥ → ByStatus s B ⊥ ⊥ → ByStatus s C ⊥ ⊥
both status.Done f a b = f a b
both status.Faulty f a b = a
both status.CommandLine f a b = a
both status.Output f a b = tt
both status.Memory f a b = tt

-- a keeper that served in rounds, over what it lay over at first
pub ran_in_rounds : {K B : Type 0} (IsHonest IsOpen : K → Type 0) (kept noted : K → Store) (base : K → B) (first last : K) (back : Option K) (serving : Serving)
    (start : ℕ) (before after : Timed) (old new : Option (List ℕ)) (s : Status)
    → ByStatus s (RoundsText (patience_of serving start) (turns_of serving.turns) before after old new) ⊥ ⊥
    → IsKeptByStatus s IsHonest IsOpen kept noted last after.bound_node.node.store → (IsHonest last → IsHonest first) → base last ≡ base first
    → IfSome back (λ k. k ≡ last)
    → ByStatus s (RunsTo (RunsInRounds serving start before old new) (EndsWith IsHonest IsOpen kept noted base false first back)) ⊥ ⊥
ran_in_rounds IsHonest IsOpen kept noted base first last back serving start before after old new s reports all honest same_base same =
    both s (λ text kept_all. record {
      after = after;
      text = text;
      ends = record { last = last; same = same; honest = honest; is_over = same_base; all = kept_all };
    }) reports all

-- a keeper that served in stretches, if it is still there
pub ran_in_stretches : {K B : Type 0} (IsHonest IsOpen : K → Type 0) (kept noted : K → Store) (base : K → B) (first : K) (round : Option (Round K)) (back : Option K)
    (stop : Stop) (before after : Timed) (old new : Option (List ℕ)) → PrintsStretches ServesInRounds stop before after old new
    → MatchOption round ⊥ (λ r. IsHonest (keeper_of r) → IsKept IsOpen kept noted (keeper_of r) after.bound_node.node.store)
    → (MatchOption round ⊥ (λ r. IsHonest (keeper_of r)) → IsHonest first) → IfSome back (λ k. MatchOption round ⊥ (λ r. k ≡ keeper_of r))
    → RunsTo (RunsInStretches stop before old new) (EndsWith IsHonest IsOpen kept noted base true first back)
ran_in_stretches IsHonest IsOpen kept noted base first None back stop before after old new text sound honest same = absurd sound
ran_in_stretches IsHonest IsOpen kept noted base first (Some r) back stop before after old new text sound honest same =
    record {
      after = after;
      text = text;
      ends = record { last = keeper_of r; same = same; honest = honest; is_over = tt; all = record { is_kept = sound } };
    }

-- a node that was made as is said served
pub served_so : (followed : Bool) (IsOn : Links) (IsClock : Clocks) (store : Store) (serving : Serving) (start : ℕ) (before : Timed) (Ends : Store → Type 0)
    (old new : Option (List ℕ)) (s : Status) → IsServer IsOn IsClock serving store start before
    → ByStatus s (RunsTo (Runs followed serving start before old new) Ends) ⊥ ⊥ → IsServedStore followed store IsOn IsClock s serving Ends old new
served_so followed IsOn IsClock store serving start before Ends old new s server ran =
    lifted s (λ run. record { start = start; before = before; server = server; run = run }) (λ (no : ⊥). absurd no) (λ (no : ⊥). absurd no) ran
