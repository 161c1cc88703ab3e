-- What was printed of an ask as a record.
use Rattle.std.proofs.Common.{◌≡◌, ◌-◌, ◌++◌, [], ℕ, Bool, Option, Some, List, length, take, ap, sym, ◌∙◌, arith, length-append, subst}
use Rattle.std.proofs.KnownBytes.{Appends-kept}
use Rattle.std.proofs.Math.Seq.{take-append_seam}
use Rattle.std.specs.Io.KnownBytes.{Keeps}
use Rattle.bac_ask_report.specs.Records.{AskRecord, Outcome}
use Rattle.bac_commands.specs.AskEnds.{PrintsWords}
use Rattle.bac_commands.specs.Words.{AreEndWords}
use Rattle.bac_driver.specs.Asking.{Question}
use Rattle.bac_driver.specs.declared.question.AskEnd.{AskEnd}
use Rattle.bac_service.specs.Values.{Request}
use Rattle.bac_text.specs.Texts.{AppendsText, line_end}
use Rattle.bac_environment.specs.QuestionLines.{Asker}
use Rattle.bac_asking.specs.Recording.{AreWordsOf, IsRecordText, PrintsRecord, outcome_of, without_end}
use Rattle.bac_asking.specs.declared.recording.RecordForm.{RecordForm}

-- ---- the line of words, without its end

front_of : (words : List ℕ) → take (length (words ++ line_end) - 1) (words ++ line_end) ≡ words
front_of words =
    let len : length (words ++ line_end) - 1 ≡ length words = omega (arith, length-append words line_end) in
    ap (λ (n : ℕ). take n (words ++ line_end)) len ∙ take-append_seam words line_end

pub words_told : (strict : Bool) (request : Request) (end : AskEnd) (before line words : List ℕ) (succeeded : Bool) → before ≡ []
    → PrintsWords strict request end succeeded (Some before) (Some line) → words ≡ without_end line → AreWordsOf strict request end words succeeded
words_told strict request end before line words succeeded none told is =
    let same : line ≡ told.words ++ line_end = told.printed ∙ ap (λ (l : List ℕ). l ++ (told.words ++ line_end)) none in
    let front : words ≡ told.words = is ∙ ap without_end same ∙ front_of told.words in
    record {
      are = subst (λ (w : List ℕ). AreEndWords request end w) (sym front) told.are;
      is = told.is;
    }

-- ---- the record

abbrev pub told_of : (time : Option ℕ) → Asker → (round : Option ℕ) → Question → Request → Outcome → (words : List ℕ) → AskRecord
told_of time asker round q request how words =
    record { time = time; line = asker.line; name = asker.name; round = round; peer = q.peer; request = request; outcome = how; words = words }

pub record_printed : (form : RecordForm) (strict : Bool) (asker : Asker) (time round : Option ℕ) (q : Question) (end : AskEnd) (succeeded : Bool) (words : List ℕ)
    (request : Request) (how : Outcome) (shown : List ℕ) (a b c : Option (List ℕ)) → AreWordsOf strict q.request end words succeeded → request ≡ q.request
    → how ≡ outcome_of end → shown ≡ words → AppendsText a b (IsRecordText form (told_of time asker round q request how shown)) → Keeps b c
    → PrintsRecord form strict asker q end succeeded a c
record_printed form strict asker time round q end succeeded words request how shown a b c told request_is how_is shown_is p keeps =
    record {
      time = time;
      round = round;
      words = words;
      are = told.are;
      text = p.0;
      text_of =
          subst (λ (w : List ℕ). IsRecordText form (told_of time asker round q q.request (outcome_of end) w) p.0) shown_is
          (subst (λ (o : Outcome). IsRecordText form (told_of time asker round q q.request o shown) p.0) how_is
          (subst (λ (r : Request). IsRecordText form (told_of time asker round q r how shown) p.0) request_is p.1.0));
      printed = Appends-kept a b c p.0 p.1.1 keeps;
      is = told.is;
    }
