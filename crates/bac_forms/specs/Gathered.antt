-- The datagrams that were read so far.
use Rattle.std.specs.Prelude.{ℕ, List, [], ◌∷◌, ◌++◌, map}
use Rattle.bac_forms.specs.declared.gathered.Event.{Event}
use Rattle.bac_forms.specs.declared.gathered.Event.TheVariants as event
use Rattle.bac_forms.specs.declared.gathered.Gathered.{Gathered}

-- those that have ended, and the octets of the next one
pub record Datagrams : Type 0 where
  pub whole : List (List ℕ)
  pub begun : List ℕ

abbrev pub gathered_view : Gathered → Datagrams
gathered_view g = record { whole = map (λ d. d.items) g.whole.items; begun = g.begun.items }

abbrev pub none : Datagrams
none = record { whole = []; begun = [] }

abbrev pub after : Event → Datagrams → Datagrams
after event.Nothing d = d
after (event.Octet octet) d = record { whole = d.whole; begun = d.begun ++ octet ∷ [] }
after event.End d = record { whole = d.whole ++ d.begun ∷ []; begun = [] }
