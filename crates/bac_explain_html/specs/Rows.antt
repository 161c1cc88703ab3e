-- The row of a transaction.
use Rattle.std.specs.Prelude.{◌≡◌, ℕ, List, [], ◌∷◌, ◌++◌, codes, decimal, Option, Some, None, if◌then◌else◌}
use Rattle.bac_explain.specs.Keys.{Key}
use Rattle.bac_explain.specs.Sent.{SentView}
use Rattle.bac_explain.specs.Tables.{ClosedView}
use Rattle.bac_explain.specs.Texts.{finding_text}
use Rattle.bac_explain.specs.Transactions.{TransactionView}
use Rattle.bac_explain.specs.declared.finding.Finding.{Finding}
use Rattle.bac_explain.specs.declared.step.Step.{Step}
use Rattle.bac_explain_report.specs.AnswerWords as answer
use Rattle.bac_explain_report.specs.Endings.{delay_of, ending_name, ending_of, is_unanswered}
use Rattle.bac_explain_report.specs.RequestWords as request
use Rattle.bac_text.specs.Peers.{peer_text}
use Rattle.bac_explain_html.specs.Escapes.{cell}
use Rattle.bac_explain_html.specs.Pictures.{IsPicture}

-- the client, the server and the invoke ID
abbrev pub key_cells : Key → List ℕ
key_cells k =
    codes "<td>" ++ (peer_text k.client ++ (codes "</td><td>" ++ (peer_text k.server
    ++ (codes "</td><td class=\"n\">" ++ (decimal k.invoke_id ++ codes "</td>")))))

-- the request in words, as the plain lines say it
pub record IsAskedCell (s : SentView) (text : List ℕ) : Type 0 where
  pub words : List ℕ
  pub are : request.AreOctetsWords s.octets words
  pub is : text ≡ cell words

-- so the answer
pub record IsToldCell (s : SentView) (text : List ℕ) : Type 0 where
  pub words : List ℕ
  pub are : answer.AreOctetsWords s.octets words
  pub is : text ≡ cell words

abbrev pub IsAnswerCell : Option SentView → List ℕ → Type 0
IsAnswerCell None text = text ≡ cell []
IsAnswerCell (Some s) text = IsToldCell s text

pub record AreWordCells (t : TransactionView) (text : List ℕ) : Type 0 where
  pub asked : List ℕ
  pub is_asked : IsAskedCell t.request asked
  pub told : List ℕ
  pub is_told : IsAnswerCell t.answer told
  pub is : text ≡ asked ++ told

abbrev pub after_text : Option ℕ → List ℕ
after_text None = []
after_text (Some delay) = decimal delay

-- how it ended, the delay of the answer, and how often the request was seen
abbrev pub end_cells : TransactionView → List ℕ
end_cells t =
    codes "<td class=\"" ++ (ending_name (ending_of t) ++ (codes "\">" ++ (ending_name (ending_of t) ++ (codes "</td><td class=\"n\">"
    ++ (after_text (delay_of t) ++ (codes "</td><td class=\"n\">" ++ (decimal t.request.times ++ codes "</td>")))))))

abbrev pub listed : Finding → List ℕ
listed finding = codes "<div>" ++ (finding_text finding ++ codes "</div>")

abbrev pub before : Option Finding → List ℕ → List ℕ
before None others = others
before (Some finding) others = listed finding ++ others

-- what is wrong with the frames
abbrev pub findings_lines : List Step → List ℕ
findings_lines [] = []
findings_lines (s ∷ steps) = before s.finding (findings_lines steps)

abbrev pub findings_cell : List Step → List ℕ
findings_cell steps = (codes "<td class=\"f\">" ++ findings_lines steps) ++ codes "</td>"

abbrev pub row_end : TransactionView → List ℕ
row_end t = end_cells t ++ findings_cell t.steps

-- one without an answer has a class of its own
abbrev pub entry_front : TransactionView → List ℕ
entry_front t = if is_unanswered t then codes "<tbody class=\"t u\"><tr>" else codes "<tbody class=\"t\"><tr>"

-- one row, and one picture below it
pub record IsEntry (c : ClosedView) (text : List ℕ) : Type 0 where
  pub words : List ℕ
  pub are : AreWordCells c.transaction words
  pub picture : List ℕ
  pub is_picture : IsPicture c.key c.transaction.request.moment c.transaction.steps picture
  pub is : text
      ≡ (((((entry_front c.transaction ++ key_cells c.key) ++ words) ++ row_end c.transaction) ++ codes "</tr><tr class=\"p\"><td colspan=\"9\">") ++ picture)
      ++ codes "</td></tr></tbody>\n"
