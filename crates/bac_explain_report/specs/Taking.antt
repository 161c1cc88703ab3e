-- An APDU was heard, and its frame is kept.
use Rattle.std.specs.Prelude.{◌≡◌, ℕ}
use Rattle.bac_explain.specs.Closings.{heard_view}
use Rattle.bac_explain.specs.Sightings.{SightingView}
use Rattle.bac_explain.specs.Tables as plain
use Rattle.bac_explain.specs.Tables.{heard}
use Rattle.bac_explain.specs.declared.explainer.Heard.{Heard}
use Rattle.bac_explain_report.specs.Accounts.{Account, kept}

abbrev pub taken : ℕ → SightingView → Account → plain.Heard
taken now s a = kept a.sums.tally.frames now s (heard a.options.strict_ids now s.key s.role s.octets a.slots)

pub record IsTaken (now : ℕ) (s : SightingView) (old new : Account) (h : Heard) : Type 0 where
  pub is_heard : heard_view new.slots h ≡ taken now s old
  pub next : new ≡ record old { slots = (taken now s old).slots }
