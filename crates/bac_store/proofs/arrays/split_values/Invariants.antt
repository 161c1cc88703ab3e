-- The values before this place, and what the octets after them encode.
use Rattle.std.proofs.Common.{◌≡◌, ℕ, ◌-◌, List, ◌++◌, length}
use Rattle.std.specs.List.{slice_get}
use Rattle.std.specs.Option.{option_map}
use Rattle.bac_store.specs.Arrays.{values_from, values_in}
use Rattle.bac_store.proofs.arrays.split_values.Given as goal

abbrev pub invariant-loop : goal.invariant-loop
invariant-loop l = record {
  before : List (List ℕ);
  all : values_in l.octets ≡ option_map (λ vs. before ++ vs) (values_from l.rest (length l.octets - l.counter));
  count : l.values.count ≡ length before;
  chosen : option_map (λ d. d.octets.now) l.values.chosen ≡ slice_get before l.at;
  each : l.values.count ≡ l.counter;
}
