-- What is told of an ask that failed, beside why.
use Rattle.std.specs.Prelude.{ℕ, Bool, false, ◌==◌, ◌&&◌, List, [], ◌∷◌, ◌++◌, codes, if◌then◌else◌}
use Rattle.std.specs.List.{list_any}
use Rattle.bac_service.specs.Values.{Reference}
use Rattle.bac_value_text.specs.Texts.{object_text}
use Rattle.bac_ask_report.specs.Records.{Outcome, Answered, Rejected, Aborted, TimedOut, Expired, Refused, NoEnding, NoLink}
use Rattle.bac_point_report.specs.Points.{is_absent}

-- the types of objects that have no present-value (clause 12), from device and event-enrollment to audit-reporter
abbrev pub WITHOUT_VALUE : List ℕ
WITHOUT_VALUE =
    8 ∷ 9 ∷ 10 ∷ 15 ∷ 16 ∷ 18 ∷ 20 ∷ 25 ∷ 27 ∷ 29 ∷ 32 ∷ 33 ∷ 34 ∷ 35 ∷ 36 ∷ 38 ∷ 51 ∷ 56 ∷ 57 ∷ 58 ∷ 59 ∷ 61 ∷ 62 ∷ []

unfoldable pub is_without_value : (kind : ℕ) → Bool
is_without_value kind = list_any (λ other. other == kind) WITHOUT_VALUE

-- the present-value was asked for, which no object of the type has, nor this one
unfoldable pub has_no_value : Reference → Outcome → Bool
has_no_value r how = (r.property == 85) && (is_without_value r.object.kind && is_absent how)

-- what to read in its place
abbrev pub advice_line : Reference → Outcome → List ℕ
advice_line r how =
    if has_no_value r how then object_text r.object ++ codes " has no present-value; name another property, for example object-name\n" else []

-- an Abort for another reason than those that the standard names
abbrev pub is_refused : Outcome → Bool
is_refused (Aborted reason) = reason == 0
is_refused (Answered r) = false
is_refused (Rejected reason) = false
is_refused TimedOut = false
is_refused Expired = false
is_refused (Refused fault) = false
is_refused NoEnding = false
is_refused NoLink = false
