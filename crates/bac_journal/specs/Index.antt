-- What is kept of transactions and tickets beside the lists, so that nothing is looked for in them.
use Rattle.std.specs.Prelude.{◌≡◌, ℕ, ◌+◌, ◌≤◌, ◌⊎◌, List, length, map, Option, None, Some, option_and_then, slice_get, vec_capacity}
use Rattle.std.specs.Global.{Vec}
use Rattle.bac_protocol.specs.Transaction.{Key}
use Rattle.bac_journal.specs.Entering.{with_ticket}
use Rattle.bac_journal.specs.declared.asks.Cell.{Cell}
use Rattle.bac_journal.specs.declared.asks.Row.{Row}

-- what a client has for each transaction with a server: an invoke ID is less than 256 (clause 20.1.2.6)
abbrev pub cell_in : (server invoke_id : ℕ) → Row → Option Cell
cell_in server invoke_id r = option_and_then (λ (p : Vec Cell). slice_get p.items invoke_id) (slice_get r.pages.items server)

abbrev pub cell_at : List Row → Key → Option Cell
cell_at rows k = option_and_then (cell_in k.server k.invoke_id) (slice_get rows k.client)

abbrev pub cells_of : Vec Cell → ℕ
cells_of p = length p.items

-- a cell of which nothing is known
abbrev pub nothing : Cell
nothing = record { newest = None; sent = 0 }

-- how many cells it has for each server
abbrev pub places_of : Row → List ℕ
places_of r = map cells_of r.pages.items

abbrev pub number_at : List Row → (client ticket : ℕ) → Option ℕ
number_at rows client ticket = option_and_then (λ (r : Row). slice_get r.numbers.items ticket) (slice_get rows client)

abbrev pub newest_at : List Row → Key → Option ℕ
newest_at rows k = option_and_then (λ (c : Cell). c.newest) (cell_at rows k)

-- one client's row is another one now, and all others are as they were
pub record IsWithRow (old : List Row) (client : ℕ) (row : Row → Row → Type 0) (new : List Row) : Type 0 where
  pub before : Row
  pub after : Row
  pub was : slice_get old client ≡ Some before
  pub here : slice_get new client ≡ Some after
  pub goes : row before after
  pub others : (j : ℕ) → (j ≡ client → ⊥) → slice_get new j ≡ slice_get old j
  pub many : length new ≡ length old

-- its cell of that transaction is set
pub record IsWithCell (server invoke_id : ℕ) (cell : Cell) (old new : Row) : Type 0 where
  pub here : cell_in server invoke_id new ≡ Some cell
  pub others : (s i : ℕ) → ((s ≡ server) × (i ≡ invoke_id) → ⊥) → cell_in s i new ≡ cell_in s i old
  pub places : places_of new ≡ places_of old
  pub numbers : new.numbers ≡ old.numbers

-- the number of that ticket's ask is noted
pub record IsWithNumber (ticket number : ℕ) (old new : Row) : Type 0 where
  pub pages : new.pages ≡ old.pages
  pub here : slice_get new.numbers.items ticket ≡ Some number
  pub others : (t : ℕ) → (t ≡ ticket → ⊥) → slice_get new.numbers.items t ≡ slice_get old.numbers.items t
  pub many : length new.numbers.items ≡ with_ticket ticket (length old.numbers.items)

-- a client has that many cells for each server of so many: none, or one for each invoke ID
pub record ArePlaces (servers : ℕ) (places : List ℕ) : Type 0 where
  pub many : length places ≡ servers
  pub whole : (server n : ℕ) → slice_get places server ≡ Some n → (n ≡ 0) ⊎ (n ≡ 256)

-- what it says is as it was; it may have cells of which nothing is known where it had none
pub record IsReadied (old new : Row) : Type 0 where
  pub cells : (s i : ℕ) → (cell_in s i new ≡ cell_in s i old) ⊎ ((cell_in s i old ≡ None) × (cell_in s i new ≡ Some nothing))
  pub places : (servers : ℕ) → ArePlaces servers (places_of old) → ArePlaces servers (places_of new)
  pub numbers : new.numbers.items ≡ old.numbers.items

-- there is room for the ask of that client's next ticket, and it has cells for that server
pub record IsOpen (server : ℕ) (r : Row) : Type 0 where
  pub ticket : length r.numbers.items + 1 ≤ vec_capacity r.numbers
  pub place : slice_get (places_of r) server ≡ Some 256

abbrev pub IsOpenTo : List Row → (client server : ℕ) → Type 0
IsOpenTo rows client server = (r : Row) × (slice_get rows client ≡ Some r) × IsOpen server r
