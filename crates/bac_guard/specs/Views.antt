-- What contracts see of the sources that are heard.
use Rattle.std.specs.Prelude.{List, take}
use Rattle.bac_guard.specs.declared.block.Block.{Block}
use Rattle.bac_guard.specs.declared.sources.Sources.{Sources}

-- their blocks
abbrev pub blocks_of : Sources → List Block
blocks_of s = take s.len s.blocks
