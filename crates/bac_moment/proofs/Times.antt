-- The text of an instant.
use Rattle.std.proofs.Common.{◌≡◌, ◌∙◌, ap, ℕ, Bool, false, List, ◌++◌, Option, Some, None}
use Rattle.jiff_core.specs.declared.timestamp.Timestamp.{Timestamp}
use Rattle.jiff_core.specs.declared.civil.datetime.DateTime.{DateTime}
use Rattle.jiff_fmt.specs.Printer.{IsTimestampText, options}
use Rattle.jiff_fmt.specs.Text.{datetime_text, zulu_text}
use Rattle.jiff_fmt.specs.declared.temporal.printer.DateTimePrinter.{DateTimePrinter}
use Rattle.bac_moment.specs.Times.{IsTimeText, nanoseconds}

abbrev printed_by : DateTime → Bool × ℕ × Option ℕ → List ℕ
printed_by at o = datetime_text o.0 o.1 o.2 at ++ zulu_text o.0

pub time_told : (milliseconds : ℕ) (first printer : DateTimePrinter) (t : Timestamp) (text : List ℕ) → options first ≡ (false, 84, None)
    → options printer ≡ (first.lowercase, first.separator, Some 3) → t.nanosecond ≡ nanoseconds milliseconds → IsTimestampText printer t text
    → IsTimeText milliseconds text
time_told milliseconds first printer t text new precise at h = record {
  at = h.0;
  at_is = h.1 ∙ at;
  is = h.2 ∙ ap (printed_by h.0) (precise ∙ ap (λ (o : Bool × ℕ × Option ℕ). (o.0, o.1, Some 3)) new);
}
