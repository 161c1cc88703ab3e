use Rattle.std.proofs.Common.{◌≡◌, ◌-◌, ◌++◌, ℕ, min, length, take, ap, ◌∙◌, arith}
use Rattle.bac_capture.proofs.Runs.{part_kept}
use Rattle.bac_capture.proofs.run.keep.Goals as goal

pub returns : goal.returns
returns c =
    let old = c.args.kept.now.items in
    let octets = c.args.octets.now in
    let room = 65700 - length old in
    let len : c.min-len.result ≡ min (length octets) room = omega (arith, c.min-len.ensures, c.len-room.ensures, c.args.kept.now.ok.0) in
    c.in_ok-extend_from_slice.ensures.items ∙ ap (λ (n : ℕ). old ++ take n octets) len ∙ part_kept old octets room 65700 (omega (arith, c.requires))
