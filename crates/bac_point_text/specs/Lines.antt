-- Tables as texts: a line for each row, whose parts stand behind spaces.
use Rattle.std.specs.Prelude.{ℕ, ◌-◌, ◌^◌, Bool, true, false, ◌==◌, List, Option, Some, None}
use Rattle.std.specs.List.{find, before_first, after_first}
use Rattle.std.specs.Option.{option_map}
use Rattle.std.specs.Str.{bytes_eq}
use Rattle.std.specs.Str.Lines.{lines}
use Rattle.bac_value_text.specs.Numbers.{◌>>=◌, number_up_to}

-- the part of a line before its first space, or all of it
abbrev pub front : List ℕ → List ℕ
front line = before_first (λ octet. octet == 32) line

-- the part of a line after its first space
abbrev pub behind : List ℕ → List ℕ
behind line = after_first (λ octet. octet == 32) line

-- the first line of a table
abbrev pub heading : List ℕ → List ℕ
heading table = before_first (λ octet. octet == 10) table

-- the number that a line begins with
abbrev pub number_part : List ℕ → Option ℕ
number_part line = number_up_to (2 ^ 32 - 1) (front line)

abbrev pub same_number : (x y : Option ℕ) → Bool
same_number None None = true
same_number None (Some y) = false
same_number (Some x) None = false
same_number (Some x) (Some y) = x == y

abbrev pub has_number : (wanted : ℕ) → List ℕ → Bool
has_number wanted line = same_number (number_part line) (Some wanted)

abbrev pub has_name : (wanted line : List ℕ) → Bool
has_name wanted line = bytes_eq (behind line) wanted

-- the name in the first line with this number
abbrev pub name_in : (table : List ℕ) → ℕ → Option (List ℕ)
name_in table number = option_map behind (find (has_number number) (lines table))

-- the number in the first line with this name
abbrev pub number_in : (table name : List ℕ) → Option ℕ
number_in table name = find (has_name name) (lines table) >>= number_part
