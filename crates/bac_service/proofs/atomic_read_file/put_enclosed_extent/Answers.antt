use Rattle.std.specs.Int.{w64}
use Rattle.std.proofs.lemmas.Int.{to_z-of_z}
use Rattle.bac_service.proofs.Written.{lacked, last, later, refused, sooner, wrote}
use Rattle.bac_service.proofs.atomic_read_file.put_enclosed_extent.Goals as goal

pub returns-in_err-put_opening : goal.returns-in_err-put_opening
returns-in_err-put_opening c = refused c.from_residual.ensures.0 (sooner _ (lacked c.in_err-put_opening.ensures))

pub returns-in_err-put_extent : goal.returns-in_err-put_extent
returns-in_err-put_extent c =
    let few = rw (to_z-of_z w64 c.args.start c.ranges.start) at c.in_err-put_extent.ensures in
    refused c.from_residual-in_err-put_extent.ensures.0 (later (wrote c.in_ok-put_opening.ensures) (sooner _ (lacked few)))

pub returns : goal.returns
returns c =
    let inside = rw (to_z-of_z w64 c.args.start c.ranges.start) at c.in_ok-put_extent.ensures in
    last (wrote c.in_ok-put_opening.ensures) (last (wrote inside) c.put_closing.ensures)
