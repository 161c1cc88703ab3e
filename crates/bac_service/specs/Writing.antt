-- What a writer of members guarantees.
use Rattle.std.specs.Prelude.{ℕ, ◌≤◌, List, Result, vec_capacity}
use Rattle.std.specs.Global.{Vec}
use Rattle.bac_value.specs.Appending.{Appends, NeedsRoom}

-- if the call succeeds, the text follows the old octets; it fails only if there was too little room
pub record Writes {R E : Type 0} (result : Result R E) (old new : Vec ℕ) (text : List ℕ) : Type 0 where
  pub ok : Appends result old new text
  pub full : NeedsRoom result old text
  pub grows : vec_capacity old ≤ vec_capacity new
