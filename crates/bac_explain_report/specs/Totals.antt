-- How the transactions of all servers, or of one, ended.
use Rattle.std.specs.Prelude.{ℕ, ◌+◌, ◌-◌, ◌^◌, min, max, Option, Some, None}
use Rattle.bac_explain_report.specs.declared.ending.Ending.{Ending}
use Rattle.bac_explain_report.specs.declared.ending.Ending.TheVariants.{Answered, Failed, Rejected, Aborted, Unanswered}
use Rattle.bac_explain_report.specs.declared.totals.Totals.{Totals}

abbrev pub none : Totals
none = record { transactions = 0; answered = 0; errors = 0; rejected = 0; aborted = 0; unanswered = 0; slowest = None }

-- counts saturate
abbrev pub one_more : ℕ → ℕ
one_more count = min (count + 1) (2 ^ 64 - 1)

abbrev pub with_ending : Ending → Totals → Totals
with_ending Answered t = record t { answered = one_more t.answered }
with_ending Failed t = record t { errors = one_more t.errors }
with_ending Rejected t = record t { rejected = one_more t.rejected }
with_ending Aborted t = record t { aborted = one_more t.aborted }
with_ending Unanswered t = record t { unanswered = one_more t.unanswered }

-- the slowest reply has the greatest delay after its request
abbrev pub later : Option ℕ → ℕ → Option ℕ
later None delay = Some delay
later (Some slowest) delay = Some (max slowest delay)

abbrev pub with_delay : Option ℕ → Totals → Totals
with_delay None t = t
with_delay (Some delay) t = record t { slowest = later t.slowest delay }

-- one more transaction, by its ending and the delay of its reply
abbrev pub with_one : Ending → (delay : Option ℕ) → Totals → Totals
with_one ending delay t = with_delay delay (with_ending ending (record t { transactions = one_more t.transactions }))
