-- Rows of what is of no transaction.
use Rattle.std.specs.Prelude.{ℕ, List, [], ◌++◌, codes, decimal, Option, Some}
use Rattle.bac_explain.specs.Keys.{Key}
use Rattle.bac_explain.specs.Texts.{finding_text}
use Rattle.bac_explain.specs.declared.finding.Finding.{Finding}
use Rattle.bac_explain.specs.declared.finding.Finding.TheVariants.{AnswerToNoRequest}
use Rattle.bac_explain_report.specs.Unread.{unread_text}
use Rattle.bac_explain_report.specs.declared.unread.Unread.{Unread}
use Rattle.bac_text.specs.Peers.{peer_text}

-- a frame that cannot be read
abbrev pub unread_note : (frame : ℕ) → Unread → List ℕ
unread_note frame why =
    codes "<tbody class=\"o\"><tr><td colspan=\"9\">frame " ++ (decimal frame ++ (codes ": " ++ (unread_text why ++ codes "</td></tr></tbody>\n")))

abbrev pub stray_note : (frame : ℕ) → Key → Finding → List ℕ
stray_note frame k finding =
    codes "<tbody class=\"o\"><tr><td>" ++ (peer_text k.client ++ (codes "</td><td>" ++ (peer_text k.server
    ++ (codes "</td><td class=\"n\">" ++ (decimal k.invoke_id ++ (codes "</td><td colspan=\"5\">frame " ++ (decimal frame
    ++ (codes "</td><td class=\"f\">" ++ (finding_text finding ++ codes "</td></tr></tbody>\n")))))))))

-- an answer to no request; what else is wrong stands in the row of its transaction
abbrev pub finding_note : (frame : ℕ) → Key → Option Finding → List ℕ
finding_note frame k (Some AnswerToNoRequest) = stray_note frame k AnswerToNoRequest
finding_note frame k _ = []
