-- What a file of a peer is, beside the octets that were put into it, by their digests.
use Rattle.std.specs.Prelude.{◌≡◌, ◌≢◌, ℕ, ◌<◌, List, length, take}
use Rattle.sha2.specs.Sha256.{sha256}
use Rattle.bac_files.specs.declared.comparing.Comparison.{Comparison}
use Rattle.bac_files.specs.declared.comparing.Comparison.TheVariants as comparison

-- the file is longer than so many octets, of which the first have that digest
pub record IsLonger (count : ℕ) (digest there : List ℕ) : Type 0 where
  pub longer : count < length there
  pub front : sha256 (take count there) ≡ digest

-- the octets that are there have that digest, or only so many at their front have it, or neither
abbrev pub Compares : (count : ℕ) → (digest there : List ℕ) → Comparison → Type 0
Compares count digest there comparison.Same = sha256 there ≡ digest
Compares count digest there comparison.Longer = (sha256 there ≢ digest) × IsLonger count digest there
Compares count digest there comparison.Differs = (sha256 there ≢ digest) × (IsLonger count digest there → ⊥)
