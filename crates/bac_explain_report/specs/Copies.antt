-- The last datagrams that were drawn, to find repetitions.
use Rattle.std.specs.Prelude.{ℕ, ◌-◌, ◌&&◌, ◌==◌, nat_eq, nat_le, nat_lt, Bool, if◌then◌else◌, List, [], ◌∷◌, ◌++◌, length, drop}
use Rattle.std.specs.Cmp.Lexicographic.{pointwise}
use Rattle.std.specs.List.{list_any}
use Rattle.bac_protocol.specs.declared.times.TheConstants.{KEEP}
use Rattle.bac_explain_report.specs.declared.copies.TheConstants.{MOST_KEPT}

-- a datagram that was drawn: its moment, its columns, and the octets of its APDU
pub record Drawn : Type 0 where
  pub moment : ℕ
  pub from : ℕ
  pub to : ℕ
  pub octets : List ℕ

abbrev pub are_same : List ℕ → List ℕ → Bool
are_same = pointwise (λ a b. a == b)

-- the same octets in the same direction, at most 65,000 ms before
abbrev pub is_copy : Drawn → (earlier : Drawn) → Bool
is_copy d e = nat_eq e.from d.from && nat_eq e.to d.to && nat_le (d.moment - e.moment) KEEP && are_same e.octets d.octets

-- it repeats one of these
abbrev pub is_again : Drawn → List Drawn → Bool
is_again d drawn = list_any (is_copy d) drawn

-- the last 255 are kept: sequence numbers, which wrap at 256, do not repeat among so few
abbrev pub with_drawn : Drawn → List Drawn → List Drawn
with_drawn d drawn = (if nat_lt (length drawn) MOST_KEPT then drawn else drop 1 drawn) ++ d ∷ []
