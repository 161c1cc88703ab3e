-- A table in code and its members.
use Rattle.std.proofs.Common.{◌≡◌, ℕ, ◌+◌, ◌<◌, List, [], ◌∷◌, length, drop, get_or, Bor, arith}
use Rattle.std.proofs.lemmas.List.{drop_more}
use Rattle.toml.specs.Data.{Members, get_member}
use Rattle.toml.specs.declared.value.Value.{Value}
use Rattle.toml.specs.View.{items_view, members_view}
use Rattle.toml.proofs.Views.{Entry}
use Rattle.bac_objects.specs.Held.{count, count_items, found_in, or_later, plain}
use Rattle.bac_objects.specs.declared.form.ValueForm.{ValueForm}

pub count_length : (es : List Entry) → count (members_view es) ≡ length es
count_length [] = omega arith
count_length (e ∷ es) = omega (arith, count_length es)

abbrev pub CodeRow : Type 0
CodeRow = Bor (List ℕ) × ValueForm

pub found_next : (rows : List CodeRow) (ms : Members) (i : ℕ) (d : CodeRow) → i < length rows
    → found_in (plain (drop i rows)) ms
    ≡ or_later (get_or rows i d).1 (get_member (get_or rows i d).0.now ms) (found_in (plain (drop (i + 1) rows)) ms)
found_next rows ms i d l = rw (drop_more rows i d l)

pub count_items_length : (vs : List Value) → count_items (items_view vs) ≡ length vs
count_items_length [] = omega arith
count_items_length (v ∷ vs) = omega (arith, count_items_length vs)
