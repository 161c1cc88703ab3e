-- The state of a chart, and what is drawn for a frame.
use Rattle.std.specs.Prelude.{◌≡◌, ◌≤◌, ℕ, ◌+◌, ◌-◌, ◌^◌, min, Bool, true, false, not, if◌then◌else◌, List, [], ◌++◌, length, codes, decimal, Option, Some, None, Result, Ok, Err}
use Rattle.bac_capture.specs.Blocks.{FrameView}
use Rattle.bac_capture.specs.declared.fault.FileFault.{FileFault}
use Rattle.bac_chart.specs.Drawings.{line_text}
use Rattle.bac_chart.specs.Lines.{coming_line}
use Rattle.bac_chart.specs.Marks.{Arrow}
use Rattle.bac_chart.specs.declared.drawing.ChartFormat.{ChartFormat}
use Rattle.bac_chart.specs.declared.drawing.ChartFormat.TheVariants as form
use Rattle.bac_explain.specs.Sightings.{SightingView}
use Rattle.bac_explain.specs.declared.part.Role.{Role}
use Rattle.bac_explain.specs.declared.part.Role.TheVariants.{Request, Answer, Acknowledgement, GivesUp}
use Rattle.bac_explain_report.specs.Seen.{seen_of}
use Rattle.bac_explain_report.specs.Unread.{unread_text}
use Rattle.bac_explain_report.specs.declared.unread.Unread.{Unread}
use Rattle.bac_explain_report.specs.declared.unread.Unread.TheVariants.{File}
use Rattle.bac_npdu.specs.Peers.{PeerView}
use Rattle.bac_explain_report.specs.ArrowWords.{AreArrowWords}
use Rattle.bac_explain_report.specs.Columns.{Ends, ends_of, with_columns}
use Rattle.bac_explain_report.specs.Copies.{Drawn, is_again, with_drawn}
use Rattle.bac_explain_report.specs.declared.sketch.TheConstants.{MOST_PEERS}

-- the state of a chart: its format, whether answers have their values, the moment of its first datagram, the peers that have columns, the last datagrams that were drawn, the number of
-- frames, and whether each of them could be read
pub record Sketch : Type 0 where
  pub form : ChartFormat
  pub values : Bool
  pub start : Option ℕ
  pub peers : List PeerView
  pub drawn : List Drawn
  pub frames : ℕ
  pub is_whole : Bool

abbrev pub fresh : ChartFormat → (values : Bool) → Sketch
fresh f values = record { form = f; values = values; start = None; peers = []; drawn = []; frames = 0; is_whole = true }

-- the text above a chart
abbrev pub front_text : ChartFormat → List ℕ
front_text form.Chart = codes "      ms\n"
front_text form.Mermaid = codes "sequenceDiagram\n"

-- ---- a datagram

-- the client sends requests, SegmentACKs for the reply, and Aborts
abbrev pub is_by_client : Role → Bool
is_by_client (Request number) = true
is_by_client (Answer number) = false
is_by_client (Acknowledgement taken) = not taken.of_request
is_by_client GivesUp = true

abbrev pub sender_of : SightingView → PeerView
sender_of s = if is_by_client s.role then s.key.client else s.key.server

abbrev pub receiver_of : SightingView → PeerView
receiver_of s = if is_by_client s.role then s.key.server else s.key.client

-- moments are counted from the first datagram that is drawn
abbrev pub start_of : ℕ → Option ℕ → ℕ
start_of now None = now
start_of now (Some start) = start

abbrev pub moment_in : ℕ → Sketch → ℕ
moment_in now k = now - start_of now k.start

abbrev pub ends_in : ℕ → SightingView → Sketch → Ends
ends_in now s k = ends_of k.form (moment_in now k) (sender_of s) (receiver_of s) k.peers

abbrev pub peers_after : SightingView → Sketch → List PeerView
peers_after s k = with_columns (sender_of s) (receiver_of s) k.peers

abbrev pub drawn_at : ℕ → Ends → (octets : List ℕ) → Drawn
drawn_at now c octets = record { moment = now; from = c.from; to = c.to; octets = octets }

abbrev pub drawn_of : ℕ → SightingView → Ends → Drawn
drawn_of now s c = drawn_at now c s.octets

-- an arrow with the number of its frame, and what the APDU is
abbrev pub arrow_of : (number moment : ℕ) → Ends → (words : List ℕ) → Arrow
arrow_of number moment e words = record { number = number; sent = moment; from = e.from; to = e.to; words = words }

-- the row says whether the datagram repeats an earlier one
abbrev pub row_text : ChartFormat → (nodes : ℕ) → (again : Bool) → (moment : ℕ) → Arrow → List ℕ
row_text f nodes again moment a = line_text f nodes (coming_line again moment a)

-- the row of a datagram in a frame with that number, among so many columns
pub record IsRow (k : Sketch) (nodes : ℕ) (again : Bool) (moment : ℕ) (e : Ends) (octets row : List ℕ) : Type 0 where
  pub words : List ℕ
  pub are : AreArrowWords k.form k.values octets words
  pub is : row ≡ row_text k.form nodes again moment (arrow_of k.frames moment e words)

-- the lines of the columns that begin, and the row
pub record IsSightingText (now : ℕ) (s : SightingView) (k : Sketch) (text : List ℕ) : Type 0 where
  pub row : List ℕ
  pub is_row : IsRow k (length (peers_after s k)) (is_again (drawn_of now s (ends_in now s k)) k.drawn) (moment_in now k) (ends_in now s k) s.octets row
  pub is : text ≡ (ends_in now s k).text ++ row

abbrev pub sighting_kept : ℕ → SightingView → Sketch → Sketch
sighting_kept now s k = record {
  form = k.form;
  values = k.values;
  start = Some (start_of now k.start);
  peers = peers_after s k;
  drawn = with_drawn (drawn_of now s (ends_in now s k)) k.drawn;
  frames = k.frames;
  is_whole = k.is_whole;
}

-- ---- a frame

-- counts saturate
abbrev pub one_frame : Sketch → Sketch
one_frame k = record k { frames = min (k.frames + 1) (2 ^ 64 - 1) }

-- the beginning of a line that is not an arrow: for Mermaid that of a comment
abbrev pub remark_front : ChartFormat → List ℕ
remark_front form.Chart = []
remark_front form.Mermaid = codes "    %% "

abbrev pub unread_line : ChartFormat → (number : ℕ) → Unread → List ℕ
unread_line f number why = remark_front f ++ (codes "frame " ++ (decimal number ++ (codes ": " ++ (unread_text why ++ codes "\n"))))

-- a frame that cannot be read
pub record IsUnread (why : Unread) (k : Sketch) (text : List ℕ) (next : Sketch) : Type 0 where
  pub is_text : text ≡ unread_line k.form k.frames why
  pub is_next : next ≡ record k { is_whole = false }

-- a datagram of a transaction is drawn; there are at most 16 columns
pub record IsDrawn (now : ℕ) (s : SightingView) (k : Sketch) (text : List ℕ) (next : Sketch) : Type 0 where
  pub is_text : IsSightingText now s k text
  pub is_next : next ≡ sighting_kept now s k
  pub room : length next.peers ≤ MOST_PEERS

-- for what a frame carries
abbrev pub IsSeen : Result (Option (ℕ × SightingView)) Unread → Sketch → (text : List ℕ) → (next : Sketch) → Type 0
IsSeen (Err why) k text next = IsUnread why k text next
IsSeen (Ok None) k text next = (text ≡ []) × (next ≡ k)
IsSeen (Ok (Some s)) k text next = IsDrawn s.0 s.1 k text next

-- for a frame; `also` is a port in addition to the sixteen
abbrev pub SeesFrame : (also : Option ℕ) → FrameView → Sketch → (text : List ℕ) → (next : Sketch) → Type 0
SeesFrame also frame k text next = IsSeen (seen_of also frame) (one_frame k) text next

-- the file cannot be read further: this is printed for the frame that would follow
abbrev pub BreaksFile : FileFault → Sketch → (text : List ℕ) → (next : Sketch) → Type 0
BreaksFile fault k text next = IsUnread (File fault) (one_frame k) text next
