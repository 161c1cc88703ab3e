-- What was printed, and then flushed.
use Rattle.std.proofs.Common.{◌≡◌, ◌+◌, ◌&&◌, ◌∙◌, subst, ℕ, Bool, true, false, List, [], Option, Some, None, Result, Ok, Err, OnOk, refl}
use Rattle.std.specs.Io.KnownBytes.{Appends, Keeps}
use Rattle.std.proofs.KnownBytes.{Appends-kept, Appends-nil}
use Rattle.bac_json_report.specs.Datagrams.{IsDatagramLine, IsDatagramText, bad_line_form}
use Rattle.bac_json_report.specs.Decoded.{EndsLines, IsLineText, IsShown, Progress, SeesLine}
use Rattle.bac_json_report.specs.LineReports.{IsEnded, IsVisited}
use Rattle.bac_text.specs.DecodedLines.{datagram_line_at}
use Rattle.bac_text.specs.declared.status.Status.{Status}
use Rattle.bac_json_report.specs.Lines.{IsJsonLine, IsLineOf}
use Rattle.bac_text.specs.Layers.{IsAtFault, IsFine}
use Rattle.bac_text.specs.declared.fault.LayerFault.{LayerFault}
use Rattle.serde_json.specs.Data.{Data}
use Rattle.bac_text.specs.Outcome.{shown_status}
use Rattle.bac_text.specs.Texts.{AppendsText}

pub nothing : (a b : Option (List ℕ)) → Keeps a b → Appends a b []
nothing a b keeps = Appends-kept a a b [] (Appends-nil a) keeps

pub flushed : (fine : Bool) (datagram : List ℕ) (a b c : Option (List ℕ)) → AppendsText a b (IsDatagramText 1 fine datagram) → Keeps b c
    → IsShown datagram a c (shown_status fine)
flushed true datagram a b c told keeps = (told.0, (told.1.0, Appends-kept a b c told.0 told.1.1 keeps))
flushed false datagram a b c told keeps = (told.0, (told.1.0, Appends-kept a b c told.0 told.1.1 keeps))

-- ---- objects, each on its line

pub line_of : {T E : Type 0} (r : Result T E) (IsForm : Data → Type 0) (d : Data) (a b : Option (List ℕ)) → IsForm d
    → OnOk r (AppendsText a b (IsJsonLine d)) → OnOk r (AppendsText a b (IsLineOf IsForm))
line_of (Ok t) IsForm d a b is p = (p.0, (record { json = d; is_form = is; line = p.1.0 }, p.1.1))
line_of (Err e) IsForm d a b is p = tt

-- the same, and then flushed
pub flushed_line : {T E : Type 0} (r : Result T E) (IsForm : Data → Type 0) (d : Data) (a b c : Option (List ℕ)) → IsForm d
    → AppendsText a b (IsJsonLine d) → Keeps b c → OnOk r (AppendsText a c (IsLineOf IsForm))
flushed_line (Ok t) IsForm d a b c is p keeps = (p.0, (record { json = d; is_form = is; line = p.1.0 }, Appends-kept a b c p.0 p.1.1 keeps))
flushed_line (Err e) IsForm d a b c is p keeps = tt

pub shown_fine : (line : ℕ) (datagram : List ℕ) (a b : Option (List ℕ)) → IsFine datagram → AppendsText a b (IsDatagramLine line datagram None)
    → AppendsText a b (IsDatagramText line true datagram)
shown_fine line datagram a b fine p = (p.0, ((fine, p.1.0), p.1.1))

pub shown_faulty : (line : ℕ) (datagram : List ℕ) (fault : LayerFault) (a b : Option (List ℕ)) → IsAtFault datagram fault
    → AppendsText a b (IsDatagramLine line datagram (Some fault)) → AppendsText a b (IsDatagramText line false datagram)
shown_faulty line datagram fault a b at p = (p.0, (record { fault = fault; at_fault = at; line_of = p.1.0 }, p.1.1))

-- a line was seen
pub line_visited : (line : List ℕ) (number : ℕ) (fine : Bool) (a b : Option (List ℕ)) (before next : Progress) → number ≡ before.lines + 1
    → AppendsText a b (IsLineText number (datagram_line_at line) fine) → next.lines ≡ number → next.fine ≡ before.fine && fine
    → IsVisited SeesLine line a b before next
line_visited line number fine a b before next is p lines all = record {
  text = p.0;
  printed = p.1.1;
  told = record { fine = fine; text_of = subst (λ (n : ℕ). IsLineText n (datagram_line_at line) fine p.0) is p.1.0; lines = lines ∙ is; all = all };
}

pub lines_ended : (p : Progress) (s : Status) (a b : Option (List ℕ)) → s ≡ shown_status p.fine → Keeps a b → IsEnded EndsLines p a b s
lines_ended p s a b is keeps = record { text = []; ends = (refl, is); printed = nothing a b keeps }

-- a line that is no hexadecimal
pub bad_line : (number : ℕ) (a b : Option (List ℕ)) → AppendsText a b (IsLineOf (λ d. d ≡ bad_line_form number))
    → AppendsText a b (IsLineText number (Some None) false)
bad_line number a b p = (p.0, ((refl, p.1.0), p.1.1))
