-- What contracts see of the notes: the newest first.
use Rattle.std.specs.Prelude.{List, map, reverse}
use Rattle.std.specs.Option.{option_map}
use Rattle.bac_npdu.specs.Views.{peer_view}
use Rattle.bac_world.specs.World as world
use Rattle.bac_journal.specs.Views.{key_view}
use Rattle.bac_journal.specs.declared.noting.Note.{Note}

abbrev pub note_view : Note → world.Note
note_view n = record { key = key_view n.transaction; ticket = n.ticket; away = option_map peer_view n.stranger }

abbrev pub notes_view : List Note → List world.Note
notes_view notes = reverse (map note_view notes)
