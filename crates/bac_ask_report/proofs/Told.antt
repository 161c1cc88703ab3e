-- What is printed of an ask.
use Rattle.std.proofs.Common.{◌≡◌, ◌∙◌, ap, subst, ℕ, List, [], Option, unwrap_or}
use Rattle.csv.specs.Writing.{default_writer, row_text}
use Rattle.serde_json.specs.Data.{Data, Items, string}
use Rattle.bac_json.specs.Forms.{object_form, optional_number}
use Rattle.bac_json.specs.Values.{AreElementForms}
use Rattle.bac_ask_report.specs.Answers.{Answer, answer_of}
use Rattle.bac_text.specs.Peers.{peer_text}
use Rattle.bac_ask_report.specs.Objects.{AnswerMembers, AreMembers, AskedMembers, IsObject, ask_object, asked_members, end_members, index_or_null, property_or_null}
use Rattle.bac_ask_report.specs.Questions.{object_asked, property_asked, verb_asked}
use Rattle.bac_ask_report.specs.Records.{AskRecord}
use Rattle.bac_ask_report.specs.declared.cell_text.CellText.{CellText}
use Rattle.bac_ask_report.specs.Rows.{AreCells, AreSoleCells, AreValueCells, Cells, IsRow, fields_of, sole_value}
use Rattle.bac_moment.specs.Times.{IsTextOf}

-- by the only value, or none
pub values_told : (run words : List ℕ) (values : Items) (sole : Option (Data × Data)) (c : Cells) → AreElementForms values run → sole ≡ sole_value values
    → AreSoleCells sole words c → AreValueCells run words c
values_told run words values sole c are is cells = record {
  values = values;
  are = are;
  cells = subst (λ (s : Option (Data × Data)). AreSoleCells s words c) is cells;
}

pub row_told : (t : CellText) (r : AskRecord) (time : Option (List ℕ)) (cell : List ℕ) (answer : Answer) (c : Cells) (text : List ℕ) → IsTextOf r.time time
    → cell ≡ unwrap_or time [] → answer ≡ answer_of r.request r.outcome → AreCells answer r.words c
    → text ≡ row_text default_writer (fields_of t r cell c) → IsRow t r text
row_told t r time cell answer c text of cell_is answer_is are is = record {
  time = time;
  time_of = of;
  cells = c;
  are = subst (λ (a : Answer). AreCells a r.words c) answer_is are;
  is = is ∙ ap (λ (time_cell : List ℕ). row_text default_writer (fields_of t r time_cell c)) cell_is;
}

pub object_told : (r : AskRecord) (time : Option (List ℕ)) (answer : Answer) (m : AnswerMembers) (d : Data) → IsTextOf r.time time
    → answer ≡ answer_of r.request r.outcome → AreMembers answer m → d ≡ ask_object r.name (asked_members r) (end_members r time) m → IsObject r d
object_told r time answer m d of answer_is are is = record {
  time = time;
  time_of = of;
  members = m;
  are = subst (λ (a : Answer). AreMembers a m) answer_is are;
  is = is;
}

abbrev pub asked_of : (index line named peer property request : Data) → AskedMembers
asked_of index line named peer property request =
    record { index = index; line = line; named = named; peer = peer; property = property; request = request }

-- what was asked of whom, member by member
pub asked_told : (r : AskRecord) (index line named peer property request : Data) → index ≡ index_or_null (property_asked r.request)
    → line ≡ optional_number r.line → named ≡ object_form (object_asked r.request) → peer ≡ string (peer_text r.peer)
    → property ≡ property_or_null (property_asked r.request) → request ≡ string (verb_asked r.request)
    → asked_of index line named peer property request ≡ asked_members r
asked_told r index line named peer property request a b c d e f =
    λ i. asked_of (a i) (b i) (c i) (d i) (e i) (f i)
