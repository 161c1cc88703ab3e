-- Counts of frames and transactions.
use Rattle.std.specs.Prelude.{ℕ, ◌==◌, ◌&&◌, Bool, Option, Some, None, if◌then◌else◌}
use Rattle.bac_explain.specs.Tables.{ClosedView}
use Rattle.bac_explain.specs.declared.finding.Finding.{Finding}
use Rattle.bac_text.specs.declared.status.Status.{Status}
use Rattle.bac_text.specs.declared.status.Status.TheVariants.{Done, Faulty}
use Rattle.bac_explain_report.specs.Endings.{delay_of, ending_of}
use Rattle.bac_explain_report.specs.Selections.{is_printed, is_wrong}
use Rattle.bac_explain_report.specs.Totals.{none, one_more, with_one}
use Rattle.bac_explain_report.specs.declared.selection.Selection.{Selection}
use Rattle.bac_explain_report.specs.declared.tally.Tally.{Tally}

abbrev pub no_frames : Tally
no_frames = record { frames = 0; unread = 0; findings = 0; totals = none; shown = 0; wrong = 0 }

abbrev pub with_frame : Tally → Tally
with_frame t = record t { frames = one_more t.frames }

abbrev pub with_unread : Tally → Tally
with_unread t = record t { unread = one_more t.unread }

abbrev pub with_finding : Option Finding → Tally → Tally
with_finding None t = t
with_finding (Some finding) t = record t { findings = one_more t.findings }

abbrev pub more_if : Bool → ℕ → ℕ
more_if b count = if b then one_more count else count

-- one more transaction that is printed or not, and wrong or not
abbrev pub with_shown : (shown wrong : Bool) → Tally → Tally
with_shown shown wrong t = record t { shown = more_if shown t.shown; wrong = more_if (shown && wrong) t.wrong }

-- one more closed transaction
abbrev pub with_block : Selection → ClosedView → Tally → Tally
with_block s c t =
    with_shown (is_printed s c.key c.transaction) (is_wrong c.transaction)
    (record t { totals = with_one (ending_of c.transaction) (delay_of c.transaction) t.totals })

abbrev pub with_blocks : Selection → Option ClosedView → Tally → Tally
with_blocks s None t = t
with_blocks s (Some c) t = with_block s c t

-- a finding that is printed is of no transaction, or of one that is counted when it is closed
abbrev pub with_alone : (is_alone : Bool) → Tally → Tally
with_alone is_alone t = record t { wrong = more_if is_alone t.wrong }

-- whether every frame could be read, and there is no finding; for a strict report, whether nothing that was printed is wrong
abbrev pub status_of : (strict : Bool) → Tally → Status
status_of strict t = if ((if strict then t.wrong else t.findings) == 0) && (t.unread == 0) then Done else Faulty
