-- The relation between the fields of both sides and their abstract values.
use Rattle.std.specs.Prelude.{◌≡◌, ℕ, ◌≤◌, List, length}
use Rattle.std.specs.List.{sum}
use Rattle.bac_segment.specs.Limits.{DATA}
use Rattle.bac_segment.specs.Pieces.{pieces_of}

-- the sender's count of pieces is that of its octets
pub record CountsPieces (size count first : ℕ) (octets : List ℕ) : Type 0 where
  pub some : 1 ≤ size
  pub counted : count ≡ length (pieces_of size octets)
  pub within : first ≤ count

-- the receiver's counts are those of the octets that it took, split by its lengths
pub record CountsOctets (total unacknowledged : ℕ) (lengths octets : List ℕ) : Type 0 where
  pub counted : total ≡ length octets
  pub whole : sum lengths ≡ length octets
  pub short : total ≤ DATA
  pub few : length lengths ≤ DATA
  pub fresh : unacknowledged ≤ length lengths
