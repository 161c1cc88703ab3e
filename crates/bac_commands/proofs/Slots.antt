-- Both ends of a node have the same slots.
use Rattle.std.proofs.Common.{◌≡◌, Bool, true, false, ◌&&◌}

pub both_alike : (fit : Bool) → fit && fit ≡ false → fit ≡ false
both_alike true is = is
both_alike false is = is
