-- A look-up of a table that passes from table to table.
use Rattle.std.proofs.Common.{◌≡◌, ℕ, ◌+◌, ◌<◌, List, length, map, drop, get_or, Some, refl, Bor, if◌then◌else◌}
use Rattle.std.specs.List.{find}
use Rattle.std.proofs.lemmas.List.{drop_more}
use Rattle.bac_point_text.specs.Enumerations.{has_heading}

pub heading_next : (tables : List (Bor (List ℕ))) (word : List ℕ) (i : ℕ) (d : Bor (List ℕ)) → i < length tables
    → find (has_heading word) (map (λ t. t.now) (drop i tables))
    ≡ (if has_heading word (get_or tables i d).now then Some (get_or tables i d).now else find (has_heading word) (map (λ t. t.now) (drop (i + 1) tables)))
heading_next tables word i d l = rw (drop_more tables i d l) refl
