-- Escaped strings: what each character adds, and what stands before the one after it.
use Rattle.std.specs.Prelude.{ℕ, ◌==◌, Option, Some, None, if◌then◌else◌}
use Rattle.bac_forms.specs.Blanks.{is_blank, is_space}
use Rattle.bac_forms.specs.Digits.{is_digit, pair_of}
use Rattle.bac_forms.specs.declared.escaped.Escaped.{Escaped}
use Rattle.bac_forms.specs.declared.escaped.Escaped.TheVariants as at
use Rattle.bac_forms.specs.declared.gathered.Event.{Event}
use Rattle.bac_forms.specs.declared.gathered.Event.TheVariants as event

abbrev pub Step : Type 0
Step = Option (Escaped × Event)

abbrev pub goes_on : Escaped → Step
goes_on place = Some (place, event.Nothing)

abbrev pub before : ℕ → Step
before octet = if is_space octet then goes_on at.Before else (if octet == 34 then goes_on at.Within else None)

abbrev pub within : ℕ → Step
within octet = if octet == 92 then goes_on at.Escape else (if octet == 34 then goes_on at.Behind else None)

abbrev pub escape : ℕ → Step
escape octet = if octet == 120 then goes_on at.High else None

abbrev pub high : ℕ → Step
high octet = if is_digit octet then goes_on (at.Low octet) else None

abbrev pub adds : Option ℕ → Step
adds None = None
adds (Some octet) = Some (at.Within, event.Octet octet)

abbrev pub low : (digit octet : ℕ) → Step
low digit octet = adds (pair_of digit octet)

-- the end of a line ends the datagram
abbrev pub behind : ℕ → Step
behind octet =
    if octet == 10 then Some (at.Before, event.End) else
    (if is_blank octet then goes_on at.Behind else
    (if octet == 92 then goes_on at.Joined else None))

abbrev pub joined : ℕ → Step
joined octet = if octet == 10 then goes_on at.Next else (if is_blank octet then goes_on at.Joined else None)

abbrev pub on_next_line : ℕ → Step
on_next_line octet = if octet == 34 then goes_on at.Within else (if is_blank octet then goes_on at.Next else None)

abbrev pub step : Escaped → (octet : ℕ) → Step
step at.Before octet = before octet
step at.Within octet = within octet
step at.Escape octet = escape octet
step at.High octet = high octet
step (at.Low digit) octet = low digit octet
step at.Behind octet = behind octet
step at.Joined octet = joined octet
step at.Next octet = on_next_line octet

-- what the end of the text adds
abbrev pub end : Escaped → Option Event
end at.Before = Some event.Nothing
end at.Within = None
end at.Escape = None
end at.High = None
end (at.Low digit) = None
end at.Behind = Some event.End
end at.Joined = None
end at.Next = None
