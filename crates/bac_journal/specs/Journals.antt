-- What contracts see of a journal.
use Rattle.std.specs.Prelude.{◌≡◌, ℕ, ◌-◌, ◌≤◌, List, [], map, length, Option, Some, slice_get, vec_capacity}
use Rattle.std.specs.Global.{Vec}
use Rattle.bac_protocol.specs.Service.{Octets}
use Rattle.bac_world.specs.World as world
use Rattle.bac_journal.specs.declared.asks.Cell.{Cell}
use Rattle.bac_journal.specs.declared.asks.Row.{Row}
use Rattle.bac_journal.specs.declared.copies.Copy.{Copy}
use Rattle.bac_journal.specs.declared.lives.Life.{Life}
use Rattle.bac_journal.specs.declared.noting.Note.{Note}
use Rattle.bac_journal.specs.Clocks.{OwnClocks}
use Rattle.bac_journal.specs.Index.{places_of}
use Rattle.bac_journal.specs.Notes.{notes_view}
use Rattle.bac_journal.specs.Views.{copy_view}

-- for how many more tickets of a client there is room, and how many places it has for transactions with each server
pub record ClientRoom : Type 0 where
  pub tickets : ℕ
  pub places : List ℕ

-- for how many more notes there is room, and what each client has
pub record NoteRoom : Type 0 where
  pub notes : ℕ
  pub clients : List ClientRoom

-- the nodes' links, the moment, the nodes' own clocks if they have some, what they did so far, the copies and for how many more there is room, and the notes
-- and for how many more there is room
pub record JournalView : Type 0 where
  pub links : List Octets
  pub moment : ℕ
  pub own : Option OwnClocks
  pub lives : List Life
  pub copies : List world.Copy
  pub room : ℕ
  pub notes : List world.Note
  pub note_room : NoteRoom

-- there is room for a note of the next ask of that client to that server
pub record HasNoteRoom (j : JournalView) (client server : ℕ) : Type 0 where
  pub note : 1 ≤ j.note_room.notes
  pub room : ClientRoom
  pub at : slice_get j.note_room.clients client ≡ Some room
  pub ticket : 1 ≤ room.tickets
  pub place : slice_get room.places server ≡ Some 256

-- there is room for a note of the next ask of that client of a stranger
pub record HasStrangerRoom (j : JournalView) (client : ℕ) : Type 0 where
  pub note : 1 ≤ j.note_room.notes
  pub room : ClientRoom
  pub at : slice_get j.note_room.clients client ≡ Some room
  pub ticket : 1 ≤ room.tickets

-- both say the same, whatever there is room for
pub record AreSame (one other : JournalView) : Type 0 where
  pub links : one.links ≡ other.links
  pub moment : one.moment ≡ other.moment
  pub own : one.own ≡ other.own
  pub lives : one.lives ≡ other.lives
  pub copies : one.copies ≡ other.copies
  pub notes : one.notes ≡ other.notes

abbrev pub room_of : Row → ClientRoom
room_of r = record { tickets = vec_capacity r.numbers - length r.numbers.items; places = places_of r }

abbrev pub note_room_of : List Note → (capacity : ℕ) → List Row → NoteRoom
note_room_of notes capacity rows = record { notes = capacity - length notes; clients = map room_of rows }

abbrev pub view_of : List Octets → (now : ℕ) → Option OwnClocks → List Life → List Copy → (capacity : ℕ) → List Note → NoteRoom → JournalView
view_of links now own lives copies capacity notes note_room =
    record {
      links = links;
      moment = now;
      own = own;
      lives = lives;
      copies = map copy_view copies;
      room = capacity - length copies;
      notes = notes_view notes;
      note_room = note_room;
    }

abbrev pub AreEmpty : List (Vec Cell) → Type 0
AreEmpty pages = (server : ℕ) (p : Vec Cell) → slice_get pages server ≡ Some p → p.items ≡ []

-- a client that has asked nothing, beside so many nodes
pub record IsFreshRow (nodes : ℕ) (r : Row) : Type 0 where
  pub many : length r.pages.items ≡ nodes
  pub empty : AreEmpty r.pages.items
  pub numbers : r.numbers.items ≡ []

abbrev pub AreFresh : (nodes : ℕ) → List Row → Type 0
AreFresh nodes rows = (client : ℕ) (r : Row) → slice_get rows client ≡ Some r → IsFreshRow nodes r
