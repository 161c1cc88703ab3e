-- What is printed of a line of the log, and of a line of what came of an event.
use Rattle.std.proofs.Common.{◌≡◌, ◌∙◌, ap, ℕ, List}
use Rattle.serde_json.specs.Data.{Data}
use Rattle.bac_json_report.specs.TimeForms.{IsTimeForm}
use Rattle.bac_log_json.specs.Logs.{AreEventMembers, EventMembers, IsLogForm, LogRecord, kind_word, log_form}

pub log_told : (r : LogRecord) (kind : List ℕ) (time d : Data) (m : EventMembers) → IsTimeForm r.time time → kind ≡ kind_word r.event
    → AreEventMembers r.event m → d ≡ log_form kind r.moment time m → IsLogForm r d
log_told r kind time d m of kind_is are is = record {
  time = time;
  time_of = of;
  members = m;
  are = are;
  is = is ∙ ap (λ (k : List ℕ). log_form k r.moment time m) kind_is;
}
