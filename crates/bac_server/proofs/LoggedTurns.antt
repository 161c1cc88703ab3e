-- A log that is whole in the end was whole all the time.
use Rattle.std.proofs.Common.{◌≡◌, ℕ, true, List, [], ◌∷◌, refl, sym, subst, ◌∙◌, inl, inr}
use Rattle.bac_text.specs.declared.status.Status.{Status}
use Rattle.bac_text.specs.declared.status.Status.TheVariants as status
use Rattle.bac_driver.specs.Runs.{Run, Timed}
use Rattle.bac_driver.specs.Seen.{Seen, Watches, WatchesTurns, goes_on}
use Rattle.bac_driver.specs.declared.wait_limit.WaitLimit.{WaitLimit}
use Rattle.bac_commands.specs.Reports.{ServingIsWatched}
use Rattle.bac_server.specs.Logs.{Log, Logs, Prints, written_in}
use Rattle.bac_server.specs.declared.log_settings.LogSettings.{LogSettings}

-- what is known of a log that became whole out of another one: it has the same settings, and the lines of these turns were written
pub record IsWhole (taken : List Seen) (old new : Log) : Type 0 where
  pub same : new.settings ≡ old.settings
  pub told : Run (goes_on (Prints old.settings)) taken (written_in old) (written_in new)

whole_of : (taken : List Seen) (old new : Log) → Run (goes_on Logs) taken old new → new.whole ≡ true → IsWhole taken old new
whole_of [] old new run whole =
    subst (λ (l : Log). IsWhole [] old l) (sym run) (record { same = refl; told = refl })
whole_of (s ∷ before) old new run whole =
    let written = run.last.written whole in
    let front : IsWhole before old run.middle = whole_of before old run.middle run.so_far written.before in
    record {
      same = run.last.same ∙ front.same;
      told =
          record {
            middle = written_in run.middle;
            so_far = front.told;
            last = subst (λ (n : LogSettings). Prints n s (written_in run.middle) (written_in new)) front.same written.prints;
          };
    }

turns_of : (p : WaitLimit) (from to : Log) (turns effects : ℕ) (old new : Timed) → to.whole ≡ true → WatchesTurns Logs p from to turns effects old new
    → WatchesTurns (Prints from.settings) p (written_in from) (written_in to) turns effects old new
turns_of p from to turns effects old new whole w =
    record {
      taken = w.taken;
      all = w.all;
      run = w.run;
      told = (whole_of w.taken from to w.told whole).told;
      counted = w.counted;
    }

watches_of : (p : WaitLimit) (from to : Log) (turns effects : ℕ) (old new : Timed) → to.whole ≡ true → Watches Logs p from to turns effects old new
    → Watches (Prints from.settings) p (written_in from) (written_in to) turns effects old new
watches_of p from to turns effects old new whole (inl w) = inl (turns_of p from to turns effects old new whole w)
watches_of p from to turns effects old new whole (inr s) =
    inr (record {
      taken = s.taken;
      fewer = s.fewer;
      middle = s.middle;
      takes = turns_of p from to s.taken effects old s.middle whole s.takes;
      stopped = s.stopped;
    })

-- whatever the status
pub logged : (s : Status) (p : WaitLimit) (turns : ℕ) (from to : Log) (before after : Timed) → to.whole ≡ true
    → ServingIsWatched s Logs p turns before after from to → ServingIsWatched s (Prints from.settings) p turns before after (written_in from) (written_in to)
logged status.Done p turns from to before after whole w =
    record { effects = w.effects; watches = watches_of p from to turns w.effects before after whole w.watches }
logged status.Faulty p turns from to before after whole w = w
logged status.CommandLine p turns from to before after whole w = w
logged status.Output p turns from to before after whole w = tt
logged status.Memory p turns from to before after whole w = tt
