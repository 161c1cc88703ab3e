-- A look-up that passes from row to row.
use Rattle.std.proofs.Common.{◌≡◌, ℕ, ◌+◌, ◌<◌, ◌==◌, List, length, drop, get_or, Some, if◌then◌else◌}
use Rattle.bac_value_text.specs.Names.{name_in, plain}
use Rattle.bac_value_text.proofs.Looking as looking

pub name_next : (rows : List looking.CodeRow) (n : ℕ) (i : ℕ) (d : looking.CodeRow) → i < length rows
    → name_in (plain (drop i rows)) n
    ≡ (if (get_or rows i d).1 == n then Some (get_or rows i d).0.now else name_in (plain (drop (i + 1) rows)) n)
name_next = looking.name_next
