-- The index of transactions and tickets is that of these copies and notes.
use Rattle.std.specs.Prelude.{◌≡◌, ℕ, ◌<◌, List, map, length, take, Some, slice_get}
use Rattle.bac_protocol.specs.Transaction.{Key}
use Rattle.bac_world.specs.World.{Note, newest, ask_of, count_of}
use Rattle.bac_journal.specs.declared.asks.Cell.{Cell}
use Rattle.bac_journal.specs.declared.asks.Row.{Row}
use Rattle.bac_journal.specs.declared.copies.Copy.{Copy}
use Rattle.bac_journal.specs.Entering.{tickets_of}
use Rattle.bac_journal.specs.Index.{cell_at, number_at, newest_at, places_of, ArePlaces}
use Rattle.bac_journal.specs.Views.{key_view, copy_view}

pub record IsKept (rows : List Row) (copies : List Copy) (notes : List Note) : Type 0 where
  -- the newest ask of each transaction, and that of each ticket
  pub newest_is : (k : Key) → k.invoke_id < 256 → newest_at rows k ≡ newest k notes
  pub number_is : (client ticket : ℕ) → number_at rows client ticket ≡ ask_of client ticket notes
  -- a client's tickets are counted, and it has cells for all transactions with a server, or for none
  pub counted : (client : ℕ) (r : Row) → slice_get rows client ≡ Some r → length r.numbers.items ≡ tickets_of client notes
  pub places : (client : ℕ) (r : Row) → slice_get rows client ≡ Some r → ArePlaces (length rows) (places_of r)
  -- how many copies each transaction has, and how many each copy found
  pub sent : (k : Key) (c : Cell) → k.invoke_id < 256 → cell_at rows k ≡ Some c → c.sent ≡ count_of k (map copy_view copies)
  pub before : (number : ℕ) (c : Copy) → slice_get copies number ≡ Some c
      → c.before ≡ count_of (key_view c.transaction) (take number (map copy_view copies))
  -- a copy's transaction has a cell
  pub placed : (number : ℕ) (c : Copy) → slice_get copies number ≡ Some c → (k : Cell) × (cell_at rows (key_view c.transaction) ≡ Some k)
