use Rattle.std.proofs.Common.{◌≡◌, map, take}
use Rattle.bac_files.specs.Manifests.{name_octet}
use Rattle.bac_files.proofs.manifest.hyphened.Given as goal

abbrev pub invariant-loop-octet : goal.invariant-loop-octet
invariant-loop-octet l = l.name.items ≡ map name_octet (take l.octet-index l.text)
