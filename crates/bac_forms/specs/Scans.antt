-- Reading a text character by character.
use Rattle.std.specs.Prelude.{ℕ, ◌+◌, List, [], ◌∷◌, Option, Some, None, Result, Ok, Err}
use Rattle.bac_forms.specs.Array as array
use Rattle.bac_forms.specs.Dump as dump
use Rattle.bac_forms.specs.Escaped as escaped
use Rattle.bac_forms.specs.Gathered.{Datagrams, after, none}
use Rattle.bac_forms.specs.Stream as stream
use Rattle.bac_forms.specs.declared.gathered.Event.{Event}
use Rattle.bac_forms.specs.declared.scan.Scan.{Scan}
use Rattle.bac_forms.specs.declared.scan.Scan.TheVariants as scan

abbrev pub Step : Type 0
Step = Option (Scan × Event)

abbrev pub in_form : {A : Type 0} → (A → Scan) → Option (A × Event) → Step
in_form form None = None
in_form form (Some next) = Some (form next.0, next.1)

abbrev pub scan_step : Scan → (octet : ℕ) → Step
scan_step (scan.Stream place) octet = in_form scan.Stream (stream.stream_step place octet)
scan_step (scan.Dump place) octet = in_form scan.Dump (dump.dump_step place octet)
scan_step (scan.Escaped place) octet = in_form scan.Escaped (escaped.step place octet)
scan_step (scan.Array place) octet = in_form scan.Array (array.step place octet)

abbrev pub scan_end : Scan → Option Event
scan_end (scan.Stream place) = stream.stream_end place
scan_end (scan.Dump place) = dump.dump_end place
scan_end (scan.Escaped place) = escaped.end place
scan_end (scan.Array place) = array.end place

-- the datagrams of a text, or how many characters stand before the first that does not fit; so many if it is the end
abbrev pub Reading : Type 0
Reading = Result (List (List ℕ)) ℕ

abbrev pub ended : (place : ℕ) → Datagrams → Option Event → Reading
ended place d None = Err place
ended place d (Some event) = Ok (after event d).whole

abbrev pub stepped : (place : ℕ) → Step → (Scan → Event → Reading) → Reading
stepped place None go = Err place
stepped place (Some next) go = go next.0 next.1

-- the same from a place on, where these datagrams stand before it
abbrev pub scanned : (place : ℕ) → Scan → Datagrams → List ℕ → Reading
scanned place s d [] = ended place d (scan_end s)
scanned place s d (octet ∷ text) = stepped place (scan_step s octet) (λ next event. scanned (place + 1) next (after event d) text)

abbrev pub scanned_whole : Scan → List ℕ → Reading
scanned_whole s text = scanned 0 s none text
