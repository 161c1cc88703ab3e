-- Hex dumps: what each character adds, and what stands before the one after it.
use Rattle.std.specs.Prelude.{ℕ, ◌+◌, ◌*◌, ◌==◌, nat_lt, ◌&&◌, ◌||◌, Bool, Option, Some, None, if◌then◌else◌}
use Rattle.bac_forms.specs.Blanks.{is_blank, is_space}
use Rattle.bac_forms.specs.Digits.{digit_of, is_digit, pair_of}
use Rattle.bac_forms.specs.declared.dump.Column.{Column}
use Rattle.bac_forms.specs.declared.dump.Column.TheVariants as column
use Rattle.bac_forms.specs.declared.dump.Dump.{Dump}
use Rattle.bac_forms.specs.declared.gathered.Event.{Event}
use Rattle.bac_forms.specs.declared.gathered.Event.TheVariants as event

abbrev pub Step : Type 0
Step = Option (Dump × Event)

abbrev pub begun : Dump
begun = record { octets = 0; column = column.Start }

abbrev pub stays : (octets : ℕ) → Column → Step
stays octets c = Some (record { octets = octets; column = c }, event.Nothing)

abbrev pub first_digit : (octets : ℕ) → Option ℕ → Step
first_digit octets None = None
first_digit octets (Some digit) = stays octets (column.Offset digit)

abbrev pub on_start : (octets octet : ℕ) → Step
on_start octets octet = if is_space octet then stays octets column.Start else first_digit octets (digit_of octet)

-- an offset is the number of octets that stand before the line, or 0, with which the next datagram begins
abbrev pub begin_line : (octets offset : ℕ) → Column → Step
begin_line octets offset c =
    if offset == octets then stays octets c else
    (if offset == 0 then Some (record { octets = 0; column = c }, event.End) else None)

abbrev pub ends_offset : ℕ → Bool
ends_offset octet = is_blank octet || octet == 58

abbrev pub end_offset : (octets offset octet : ℕ) → Step
end_offset octets offset octet =
    if octet == 10 then begin_line octets offset column.Start else
    (if ends_offset octet then begin_line octets offset (column.Gap 0 0) else None)

abbrev pub more_offset : (offset digit : ℕ) → Option ℕ
more_offset offset digit = if nat_lt offset 4096 then Some (offset * 16 + digit) else None

abbrev pub at_offset : (octets : ℕ) → Option ℕ → Step
at_offset octets None = None
at_offset octets (Some offset) = stays octets (column.Offset offset)

abbrev pub offset_with : (octets before octet : ℕ) → Option ℕ → Step
offset_with octets before octet None = end_offset octets before octet
offset_with octets before octet (Some digit) = at_offset octets (more_offset before digit)

abbrev pub offset : (octets before octet : ℕ) → Step
offset octets before octet = offset_with octets before octet (digit_of octet)

-- two blanks end the octets, three where eight stand before them
abbrev pub after_blank : (row blanks : ℕ) → Column
after_blank row blanks =
    if row == 0 then column.Gap row 0 else
    (if blanks == 0 then column.Gap row 1 else
    (if blanks == 1 && row == 8 then column.Gap row 2 else column.Characters))

abbrev pub gap : (octets row blanks octet : ℕ) → Step
gap octets row blanks octet =
    if octet == 10 then stays octets column.Start else
    (if is_blank octet then stays octets (after_blank row blanks) else
    (if is_digit octet && nat_lt row 16 then stays octets (column.Low (row + 1) octet) else None))

abbrev pub adds : (octets row : ℕ) → Option ℕ → Step
adds octets row None = None
adds octets row (Some octet) = Some (record { octets = octets + 1; column = column.Gap row 0 }, event.Octet octet)

-- a datagram has at most 65,535 octets
abbrev pub low : (octets row digit octet : ℕ) → Step
low octets row digit octet = if octets == 65535 then None else adds octets row (pair_of digit octet)

abbrev pub on_characters : (octets octet : ℕ) → Step
on_characters octets octet = if octet == 10 then stays octets column.Start else stays octets column.Characters

abbrev pub step_at : (octets : ℕ) → Column → (octet : ℕ) → Step
step_at octets column.Start octet = on_start octets octet
step_at octets (column.Offset before) octet = offset octets before octet
step_at octets (column.Gap row blanks) octet = gap octets row blanks octet
step_at octets (column.Low row digit) octet = low octets row digit octet
step_at octets column.Characters octet = on_characters octets octet

abbrev pub dump_step : Dump → (octet : ℕ) → Step
dump_step d octet = step_at d.octets d.column octet

abbrev pub last : (octets : ℕ) → Event
last octets = if octets == 0 then event.Nothing else event.End

abbrev pub end_at : (octets : ℕ) → Column → Option Event
end_at octets column.Start = Some (last octets)
end_at octets (column.Offset before) = None
end_at octets (column.Gap row blanks) = Some (last octets)
end_at octets (column.Low row digit) = None
end_at octets column.Characters = Some (last octets)

-- what the end of the text adds
abbrev pub dump_end : Dump → Option Event
dump_end d = end_at d.octets d.column
