-- The plain values of the state of `explain`, and of the report on a frame.
use Rattle.std.specs.Prelude.{map}
use Rattle.std.specs.Option.{option_map}
use Rattle.bac_explain.specs.Closings.{closed_view}
use Rattle.bac_explain.specs.KeyViews.{key_view}
use Rattle.bac_explain_report.specs.DeviceViews.{device_view}
use Rattle.bac_explain_report.specs.Accounts as plain
use Rattle.bac_explain_report.specs.Accounts.{HearingView, FrameReportView}
use Rattle.bac_explain_report.specs.Accounts.FrameReportView.{NothingReported, UnreadReported, HeardReported}
use Rattle.bac_explain_report.specs.declared.account.Account.{Account}
use Rattle.bac_explain_report.specs.declared.frame_report.Hearing.{Hearing}
use Rattle.bac_explain_report.specs.declared.frame_report.FrameReport.{FrameReport}
use Rattle.bac_explain_report.specs.declared.frame_report.FrameReport.TheVariants as told

abbrev pub account_view : Account → plain.Account
account_view a = record {
  options = a.options;
  slots = a.explainer;
  sums = record { tally = a.tally; devices = map device_view a.devices.items };
}

abbrev pub hearing_view : Hearing → HearingView
hearing_view h = record {
  key = key_view h.key;
  over = option_map closed_view h.over;
  closed = option_map closed_view h.closed;
  finding = h.finding;
  again = h.again;
  answered = h.answered;
}

abbrev pub report_view : FrameReport → FrameReportView
report_view told.Nothing = NothingReported
report_view (told.Unread why) = UnreadReported why
report_view (told.Heard h) = HeardReported (hearing_view h)
