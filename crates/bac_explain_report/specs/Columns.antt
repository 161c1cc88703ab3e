-- The columns of a chart: one for each peer, in the order in which they are first seen.
use Rattle.std.specs.Prelude.{ℕ, suc, ◌+◌, nat_lt, Bool, if◌then◌else◌, List, [], ◌∷◌, ◌++◌, length, codes, decimal}
use Rattle.std.specs.Ordering.{eq_by_cmp}
use Rattle.bac_chart.specs.Drawings.{line_text}
use Rattle.bac_chart.specs.Lines.{note_line}
use Rattle.bac_chart.specs.declared.drawing.ChartFormat.{ChartFormat}
use Rattle.bac_chart.specs.declared.drawing.ChartFormat.TheVariants as form
use Rattle.bac_text.specs.Peers.{peer_text}
use Rattle.bac_npdu.specs.Peers.{PeerView, peer_cmp}

-- the column of a peer, counted from 0; the number of columns if it has none
abbrev pub place_of : PeerView → List PeerView → ℕ
place_of p [] = 0
place_of p (q ∷ peers) = if eq_by_cmp peer_cmp q p then 0 else suc (place_of p peers)

abbrev pub has_column : PeerView → List PeerView → Bool
has_column p peers = nat_lt (place_of p peers) (length peers)

-- a peer without a column gets the next one
abbrev pub with_column : PeerView → List PeerView → List PeerView
with_column p peers = if has_column p peers then peers else peers ++ p ∷ []

-- the line of a column that begins: its peer
abbrev pub begun_text : ChartFormat → (place moment : ℕ) → (name : List ℕ) → List ℕ
begun_text form.Chart place moment name = line_text form.Chart (place + 1) (note_line moment place name)
begun_text form.Mermaid place moment name = codes "    participant n" ++ (decimal place ++ (codes " as " ++ (name ++ codes "\n")))

-- the line of the column of a peer; nothing if the column began before
abbrev pub column_text : ChartFormat → (moment : ℕ) → PeerView → List PeerView → List ℕ
column_text f moment p peers = if has_column p peers then [] else begun_text f (length peers) moment (peer_text p)

-- the columns of the sender and of the receiver of a datagram, and the lines of those that begin with it
pub record Ends : Type 0 where
  pub from : ℕ
  pub to : ℕ
  pub text : List ℕ

abbrev pub with_columns : (from to : PeerView) → List PeerView → List PeerView
with_columns from to peers = with_column to (with_column from peers)

abbrev pub ends_of : ChartFormat → (moment : ℕ) → (from to : PeerView) → List PeerView → Ends
ends_of f moment from to peers = record {
  from = place_of from peers;
  to = place_of to (with_column from peers);
  text = column_text f moment from peers ++ column_text f moment to (with_column from peers);
}
