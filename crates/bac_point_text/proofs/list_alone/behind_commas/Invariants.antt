use Rattle.std.proofs.Common.{◌≡◌, map, take}
use Rattle.std.specs.List.{flat_map}
use Rattle.bac_value_text.specs.DataTexts.{behind_comma}
use Rattle.bac_point_text.proofs.list_alone.behind_commas.Given as goal

abbrev pub invariant-loop-part : goal.invariant-loop-part
invariant-loop-part l = l.text.items ≡ flat_map behind_comma (map (λ u. u.items) (take l.part-index l.texts))
