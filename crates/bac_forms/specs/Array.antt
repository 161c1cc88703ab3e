-- Arrays of C: what each character adds, and what stands before the one after it.
use Rattle.std.specs.Prelude.{ℕ, ◌==◌, ◌||◌, Bool, Option, Some, None, if◌then◌else◌}
use Rattle.std.specs.Char.{is_ascii_alphanumeric}
use Rattle.bac_forms.specs.Blanks.{is_space}
use Rattle.bac_forms.specs.Digits.{is_digit, pair_of}
use Rattle.bac_forms.specs.declared.array.Around.{Around}
use Rattle.bac_forms.specs.declared.array.Around.TheVariants as around
use Rattle.bac_forms.specs.declared.array.Array.{Array}
use Rattle.bac_forms.specs.declared.array.Array.TheVariants as at
use Rattle.bac_forms.specs.declared.gathered.Event.{Event}
use Rattle.bac_forms.specs.declared.gathered.Event.TheVariants as event

abbrev pub Step : Type 0
Step = Option (Array × Event)

abbrev pub goes_on : Array → Step
goes_on place = Some (place, event.Nothing)

-- a letter, a digit, a blank, or one of _ [ ] = * ;
abbrev pub in_declaration : ℕ → Bool
in_declaration octet =
    is_ascii_alphanumeric octet || (is_space octet || (octet == 95 || (octet == 91 || (octet == 93 || (octet == 61 || (octet == 42 || octet == 59))))))

abbrev pub outside : ℕ → Step
outside octet =
    if octet == 123 then goes_on at.Between else
    (if octet == 47 then goes_on (at.Opens around.Outside) else
    (if in_declaration octet then goes_on at.Outside else None))

abbrev pub between : ℕ → Step
between octet =
    if octet == 48 then goes_on at.Zero else
    (if is_space octet then goes_on at.Between else
    (if octet == 125 then Some (at.Outside, event.End) else
    (if octet == 47 then goes_on (at.Opens around.Between) else None)))

abbrev pub zero : ℕ → Step
zero octet = if octet == 120 || octet == 88 then goes_on at.High else None

abbrev pub high : ℕ → Step
high octet = if is_digit octet then goes_on (at.Low octet) else None

abbrev pub adds : Option ℕ → Step
adds None = None
adds (Some octet) = Some (at.Behind, event.Octet octet)

abbrev pub low : (digit octet : ℕ) → Step
low digit octet = adds (pair_of digit octet)

abbrev pub behind : ℕ → Step
behind octet =
    if octet == 44 then goes_on at.Between else
    (if is_space octet then goes_on at.Behind else
    (if octet == 125 then Some (at.Outside, event.End) else
    (if octet == 47 then goes_on (at.Opens around.Behind) else None)))

abbrev pub opens : Around → ℕ → Step
opens a octet = if octet == 42 then goes_on (at.Comment a) else None

abbrev pub comment : Around → ℕ → Step
comment a octet = if octet == 42 then goes_on (at.Star a) else goes_on (at.Comment a)

abbrev pub returns : Around → Array
returns around.Outside = at.Outside
returns around.Between = at.Between
returns around.Behind = at.Behind

abbrev pub star : Around → ℕ → Step
star a octet = if octet == 47 then goes_on (returns a) else comment a octet

abbrev pub step : Array → (octet : ℕ) → Step
step at.Outside octet = outside octet
step at.Between octet = between octet
step at.Zero octet = zero octet
step at.High octet = high octet
step (at.Low digit) octet = low digit octet
step at.Behind octet = behind octet
step (at.Opens a) octet = opens a octet
step (at.Comment a) octet = comment a octet
step (at.Star a) octet = star a octet

-- what the end of the text adds
abbrev pub end : Array → Option Event
end at.Outside = Some event.Nothing
end at.Between = None
end at.Zero = None
end at.High = None
end (at.Low digit) = None
end at.Behind = None
end (at.Opens a) = None
end (at.Comment a) = None
end (at.Star a) = None
