-- What is printed below the frames of a file: the transactions that were open, and then what comes last.
use Rattle.std.proofs.Common.{◌≡◌, ℕ, List, ◌++◌, Option, refl}
use Rattle.std.proofs.KnownBytes.{Appends-trans}
use Rattle.bac_capture.specs.FileReports.{IsEnding}
use Rattle.bac_text.specs.Texts.{AppendsText}
use Rattle.bac_text.specs.declared.status.Status.{Status}
use Rattle.bac_explain_report.specs.Accounts.{Account}
use Rattle.bac_explain_report.specs.Reported.{Closing, EndsFile}
use Rattle.bac_explain_report.specs.Rest.{ArePrinted, Printing}
use Rattle.bac_explain_report.specs.Tallies.{status_of}
use Rattle.bac_explain_report.specs.Counting.{Sums}

pub ended : (IsOne : Printing) (AreLast : Closing) (a b c : Option (List ℕ)) (account : Account) (final : Sums) (s : Status)
    → ArePrinted IsOne account final a b → AppendsText b c (AreLast account.options.selection final.tally final.devices) → s ≡ status_of account.options.strict final.tally
    → IsEnding Account (EndsFile IsOne AreLast) account a c s
ended IsOne AreLast a b c account final s told last is = record {
  text = told.text ++ last.0;
  ends = record { rest = told.text; sums = final; are = told.are; last = last.0; are_last = last.1.0; told = refl; is = is };
  printed = Appends-trans a b c _ _ told.printed last.1.1;
}
