-- One more bit of some bits.
use Rattle.std.proofs.Common.{◌≡◌, ℕ, ◌+◌, ◌<◌, List, ◌++◌, length, drop, get_or, sym, append_assoc}
use Rattle.std.proofs.lemmas.List.{drop_more}
use Rattle.bac_point_text.specs.Alone.{bit_text, next_place, set_from}
use Rattle.bac_point_text.specs.Enumerations.{Names}

pub set_step : (names : Names) (place : ℕ) (text digits : List ℕ) (i d : ℕ) → i < length digits
    → text ++ set_from names place (drop i digits)
    ≡ (text ++ bit_text names place (get_or digits i d)) ++ set_from names (next_place place) (drop (i + 1) digits)
set_step names place text digits i d l =
    rw (drop_more digits i d l) (sym (append_assoc text (bit_text names place (get_or digits i d)) (set_from names (next_place place) (drop (i + 1) digits))))
