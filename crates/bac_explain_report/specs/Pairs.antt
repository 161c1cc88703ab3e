-- Charts of pairs of a client and a server, which are printed at the end.
use Rattle.std.specs.Prelude.{◌≡◌, ℕ, zero, suc, ◌&&◌, nat_eq, nat_lt, Bool, false, if◌then◌else◌, List, [], ◌∷◌, ◌++◌, length, slice_get, codes, Option, Some, None, Result, Ok, Err}
use Rattle.std.specs.Ordering.{eq_by_cmp}
use Rattle.bac_capture.specs.Blocks.{FrameView}
use Rattle.bac_capture.specs.declared.fault.FileFault.{FileFault}
use Rattle.bac_chart.specs.declared.drawing.ChartFormat.{ChartFormat}
use Rattle.bac_chart.specs.declared.drawing.ChartFormat.TheVariants as form
use Rattle.bac_explain.specs.Sightings.{SightingView}
use Rattle.bac_npdu.specs.Peers.{PeerView, peer_cmp}
use Rattle.bac_text.specs.Peers.{peer_text}
use Rattle.bac_explain_report.specs.Columns.{Ends}
use Rattle.bac_explain_report.specs.Copies.{is_again, with_drawn}
use Rattle.bac_explain_report.specs.Seen.{seen_of}
use Rattle.bac_explain_report.specs.Sketches.{Sketch, IsRow, drawn_at, fresh, is_by_client, moment_in, one_frame, start_of, unread_line}
use Rattle.bac_explain_report.specs.declared.unread.Unread.{Unread}
use Rattle.bac_explain_report.specs.declared.unread.Unread.TheVariants.{File}

pub record Pair : Type 0 where
  pub client : PeerView
  pub server : PeerView

-- a row of the chart of the pair with that number, counted from 0
pub record Row : Type 0 where
  pub place : ℕ
  pub text : List ℕ

-- the state: what is drawn, without columns of its own, the pairs in the order in which they are first seen, and the rows of all of them
pub record Pairs : Type 0 where
  pub sketch : Sketch
  pub pairs : List Pair
  pub rows : List Row

abbrev pub fresh_pairs : ChartFormat → (values : Bool) → Pairs
fresh_pairs f values = record { sketch = fresh f values; pairs = []; rows = [] }

-- ---- a datagram

abbrev pub pair_of : SightingView → Pair
pair_of s = record { client = s.key.client; server = s.key.server }

abbrev pub same_pair : Pair → Pair → Bool
same_pair p q = eq_by_cmp peer_cmp p.client q.client && eq_by_cmp peer_cmp p.server q.server

-- the number of a pair; that of the next one if it is new
abbrev pub place_of : Pair → List Pair → ℕ
place_of p [] = 0
place_of p (q ∷ pairs) = if same_pair q p then 0 else suc (place_of p pairs)

abbrev pub with_pair : Pair → List Pair → List Pair
with_pair p pairs = if nat_lt (place_of p pairs) (length pairs) then pairs else pairs ++ p ∷ []

-- the client has the first column, and the server the second
abbrev pub pair_ends : SightingView → Ends
pair_ends s = if is_by_client s.role then record { from = 0; to = 1; text = [] } else record { from = 1; to = 0; text = [] }

-- a repetition is of the same pair and goes the same way
abbrev pub kept_ends : (place : ℕ) → Ends → Ends
kept_ends place e = record { from = place; to = e.to; text = [] }

abbrev pub place_in : SightingView → Pairs → ℕ
place_in s k = place_of (pair_of s) k.pairs

abbrev pub is_again_in : ℕ → SightingView → Pairs → Bool
is_again_in now s k = is_again (drawn_at now (kept_ends (place_in s k) (pair_ends s)) s.octets) k.sketch.drawn

abbrev pub sketch_kept : ℕ → SightingView → Pairs → Sketch
sketch_kept now s k = record k.sketch {
  start = Some (start_of now k.sketch.start);
  drawn = with_drawn (drawn_at now (kept_ends (place_in s k) (pair_ends s)) s.octets) k.sketch.drawn;
}

-- a datagram of a transaction is drawn in the chart of its pair
pub record IsPairedOnly (now : ℕ) (s : SightingView) (k next : Pairs) : Type 0 where
  pub row : List ℕ
  pub is_row : IsRow k.sketch 2 (is_again_in now s k) (moment_in now k.sketch) (pair_ends s) s.octets row
  pub is : next ≡ record {
    sketch = sketch_kept now s k;
    pairs = with_pair (pair_of s) k.pairs;
    rows = k.rows ++ record { place = place_in s k; text = row } ∷ [];
  }

-- nothing is printed then
abbrev pub IsPaired : ℕ → SightingView → Pairs → (text : List ℕ) → (next : Pairs) → Type 0
IsPaired now s k text next = (text ≡ []) × IsPairedOnly now s k next

-- ---- a frame

abbrev pub unread_pairs : Pairs → Pairs
unread_pairs k = record k { sketch = record k.sketch { is_whole = false } }

-- a frame that cannot be read is printed at once
abbrev pub IsPairUnread : Unread → Pairs → (text : List ℕ) → (next : Pairs) → Type 0
IsPairUnread why k text next = (text ≡ unread_line form.Chart k.sketch.frames why) × (next ≡ unread_pairs k)

abbrev pub next_frame : Pairs → Pairs
next_frame k = record k { sketch = one_frame k.sketch }

abbrev pub IsPairSeen : Result (Option (ℕ × SightingView)) Unread → Pairs → (text : List ℕ) → (next : Pairs) → Type 0
IsPairSeen (Err why) k text next = IsPairUnread why k text next
IsPairSeen (Ok None) k text next = (text ≡ []) × (next ≡ k)
IsPairSeen (Ok (Some s)) k text next = IsPaired s.0 s.1 k text next

-- for a frame; `also` is a port in addition to the sixteen
abbrev pub SeesPair : (also : Option ℕ) → FrameView → Pairs → (text : List ℕ) → (next : Pairs) → Type 0
SeesPair also frame k text next = IsPairSeen (seen_of also frame) (next_frame k) text next

-- the file cannot be read further: this is printed for the frame that would follow
abbrev pub BreaksPairs : FileFault → Pairs → (text : List ℕ) → (next : Pairs) → Type 0
BreaksPairs fault k text next = IsPairUnread (File fault) (next_frame k) text next

-- ---- the charts

unfoldable pub names_text : Pair → List ℕ
names_text p = peer_text p.client ++ (codes " > " ++ peer_text p.server)

unfoldable pub participants_text : Pair → List ℕ
participants_text p =
    codes "    participant n0 as " ++ (peer_text p.client ++ (codes "\n    participant n1 as " ++ (peer_text p.server ++ codes "\n")))

abbrev pub head_text : Pair → List ℕ
head_text p = names_text p ++ codes "\n      ms\n"

-- a section of Markdown
abbrev pub section_text : Pair → List ℕ
section_text p = ((codes "## " ++ names_text p) ++ codes "\n\n```mermaid\nsequenceDiagram\n") ++ participants_text p

-- what stands above the rows of a chart
abbrev pub chart_head : ChartFormat → Pair → List ℕ
chart_head form.Chart p = head_text p
chart_head form.Mermaid p = section_text p

abbrev pub chart_end : ChartFormat → List ℕ
chart_end form.Chart = codes "\n"
chart_end form.Mermaid = codes "```\n\n"

abbrev pub chart_text : ChartFormat → Pair → (rows : List ℕ) → List ℕ
chart_text f p rows = (chart_head f p ++ rows) ++ chart_end f

-- the rows of the pair with that number
abbrev pub rows_at : (place : ℕ) → List Row → List ℕ
rows_at place [] = []
rows_at place (r ∷ rows) = if nat_eq r.place place then r.text ++ rows_at place rows else rows_at place rows

abbrev pub chart_at : ChartFormat → List Row → (place : ℕ) → Option Pair → List ℕ
chart_at f rows place None = []
chart_at f rows place (Some p) = chart_text f p (rows_at place rows)

-- of the first so many pairs
abbrev pub charts_text : Pairs → (count : ℕ) → List ℕ
charts_text k zero = []
charts_text k (suc place) = charts_text k place ++ chart_at k.sketch.form k.rows place (slice_get k.pairs place)
