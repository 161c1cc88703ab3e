-- What is found from here on, behind what was found so far, is what all have.
use Rattle.std.proofs.Common.{◌≡◌, ◌<◌, drop, IfSome}
use Rattle.bac_files.specs.Manifests.{last_from, last_hyphen}
use Rattle.bac_files.proofs.manifest.last_hyphen.Given as goal

abbrev pub invariant-loop-place : goal.invariant-loop-place
invariant-loop-place l =
    record {
      so : last_from l.place l.last (drop l.place l.text) ≡ last_hyphen l.text;
      within : IfSome l.last (λ p. p < l.place);
    }
