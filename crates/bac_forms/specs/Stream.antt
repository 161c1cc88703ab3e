-- Lines of hexadecimal digits: what each character adds, and what stands before the one after it.
use Rattle.std.specs.Prelude.{ℕ, ◌==◌, ◌&&◌, ◌||◌, Bool, Option, Some, None, if◌then◌else◌}
use Rattle.bac_forms.specs.Digits.{is_digit, pair_of}
use Rattle.bac_forms.specs.declared.stream.Stream.{Stream}
use Rattle.bac_forms.specs.declared.stream.Stream.TheVariants as at
use Rattle.bac_forms.specs.declared.gathered.Event.{Event}
use Rattle.bac_forms.specs.declared.gathered.Event.TheVariants as event

abbrev pub Step : Type 0
Step = Option (Stream × Event)

abbrev pub goes_on : Stream → Step
goes_on place = Some (place, event.Nothing)

-- a space, a tab, a colon or a carriage return
abbrev pub is_gap : ℕ → Bool
is_gap octet = ((octet == 32 || octet == 9) || octet == 58) || octet == 13

abbrev pub digit_or : Stream → ℕ → Step
digit_or place octet = if is_digit octet then goes_on place else None

abbrev pub on_line : ℕ → Step
on_line octet =
    if octet == 10 then goes_on at.Line else (if is_gap octet then goes_on at.Blank else digit_or (at.First octet) octet)

abbrev pub on_note : ℕ → Step
on_note octet = if octet == 10 then goes_on at.Line else goes_on at.Note

-- the end of a line ends its datagram
abbrev pub on_gap : Stream → ℕ → Step
on_gap place octet =
    if octet == 10 then Some (at.Line, event.End) else (if is_gap octet then goes_on at.Gap else digit_or place octet)

abbrev pub adds : Option ℕ → Step
adds None = None
adds (Some octet) = Some (at.Group, event.Octet octet)

abbrev pub low : (digit octet : ℕ) → Step
low digit octet = adds (pair_of digit octet)

abbrev pub first : (digit octet : ℕ) → Step
first digit octet = if digit == 48 && octet == 120 then goes_on at.Prefix else low digit octet

abbrev pub stream_step : Stream → (octet : ℕ) → Step
stream_step at.Line octet = if octet == 35 then goes_on at.Note else on_line octet
stream_step at.Blank octet = on_line octet
stream_step at.Note octet = on_note octet
stream_step at.Gap octet = on_gap (at.First octet) octet
stream_step at.Group octet = on_gap (at.Low octet) octet
stream_step at.Prefix octet = digit_or (at.Low octet) octet
stream_step (at.First digit) octet = first digit octet
stream_step (at.Low digit) octet = low digit octet

-- what the end of the text adds
abbrev pub stream_end : Stream → Option Event
stream_end at.Line = Some event.Nothing
stream_end at.Blank = Some event.Nothing
stream_end at.Note = Some event.Nothing
stream_end at.Gap = Some event.End
stream_end at.Group = Some event.End
stream_end at.Prefix = None
stream_end (at.First digit) = None
stream_end (at.Low digit) = None
