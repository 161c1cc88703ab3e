-- A node asks, and an observer sees each turn that it takes, and no other.
use Rattle.std.specs.Prelude.{◌≡◌, ◌⊎◌, ℕ, Option, Some, None}
use Rattle.bac_requester.specs.TransactionViews.{ending_view}
use Rattle.bac_requester.specs.declared.ending.Ending as how
use Rattle.bac_driver.specs.Runs.{Timed}
use Rattle.bac_driver.specs.Seen.{Seen, TakesSeenTurn, Watcher, turn_of}
use Rattle.bac_driver.specs.Serving.{IsOver}
use Rattle.bac_driver.specs.Asking.{Asks, Begins, EndsIn, NeverEnds, Question, Stops}
use Rattle.bac_driver.specs.declared.wait_limit.WaitLimit.{WaitLimit}
use Rattle.bac_driver.specs.declared.question.AskEnd.{AskEnd}
use Rattle.bac_driver.specs.declared.question.AskEnd.TheVariants as end

-- a node on its link with its clock, and what the observer and its output are like
pub record Observed (S : Type 0) : Type 0 where
  pub timed : Timed
  pub state : S

abbrev pub observed : {S : Type 0} → Timed → S → Observed S
observed timed state = record { timed = timed; state = state }

-- a turn that began in time, which the observer saw
pub record TakesObservedTurn {S : Type 0} (Sees : Watcher S) (p : WaitLimit) (old : Observed S) (s : Seen) (new : Observed S) : Type 0 where
  pub takes : TakesSeenTurn p old.timed s new.timed
  pub sees : Sees s old.state new.state

-- the time is over, and the observer saw nothing
pub record IsOverUnseen {S : Type 0} (p : WaitLimit) (old new : Observed S) : Type 0 where
  pub over : IsOver p old.timed new.timed
  pub unseen : new.state ≡ old.state

-- none of the turns ended the ticket: so many were taken, or the time was over before
abbrev pub ObservedStay : {S : Type 0} → Watcher S → WaitLimit → (turns ticket : ℕ) → (old new : Observed S) → Type 0
ObservedStay Sees p turns ticket old new =
    NeverEnds (TakesObservedTurn Sees p) turn_of turns ticket old new ⊎ Stops (TakesObservedTurn Sees p) turn_of turns (IsOverUnseen p) ticket old new

-- the ticket was waited for
abbrev pub ObservedWait : {S : Type 0} → Watcher S → WaitLimit → (turns ticket : ℕ) → (old new : Observed S) → Option how.Ending → Type 0
ObservedWait Sees p turns ticket old new None = ObservedStay Sees p turns ticket old new
ObservedWait Sees p turns ticket old new (Some how) = EndsIn (TakesObservedTurn Sees p) turn_of turns (ending_view how) ticket old new

-- the node asks, and the observer sees nothing of that
pub record AsksUnseen {S : Type 0} (q : Question) (old : Observed S) (ticket : ℕ) (new : Observed S) : Type 0 where
  pub asks : Asks q old.timed ticket new.timed
  pub unseen : new.state ≡ old.state

-- how asking ended, and what the observer saw of it
abbrev pub ObservedAsk : {S : Type 0} → Watcher S → Question → AskEnd → WaitLimit → (turns : ℕ) → (old new : Observed S) → Type 0
ObservedAsk Sees q (end.Ended how) p turns old new =
    Begins (AsksUnseen q) (EndsIn (TakesObservedTurn Sees p) turn_of turns (ending_view how)) old new
ObservedAsk Sees q (end.Refused why) p turns old new = new.state ≡ old.state
ObservedAsk Sees q end.NoEnding p turns old new = Begins (AsksUnseen q) (ObservedStay Sees p turns) old new
