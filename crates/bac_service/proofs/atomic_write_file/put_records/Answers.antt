use Rattle.std.proofs.Common.{◌≡◌, of_z, rules, to_z, w64}
use Rattle.bac_service.proofs.Written.{both, lacked, last, later, refused, sooner, wrote}
use Rattle.bac_service.proofs.atomic_write_file.put_records.Goals as goal

pub returns-in_err-put_opening : goal.returns-in_err-put_opening
returns-in_err-put_opening c = refused c.from_residual.ensures.0 (sooner _ (lacked c.in_err-put_opening.ensures))

pub returns-in_err-put_extent : goal.returns-in_err-put_extent
returns-in_err-put_extent c =
    let back : to_z w64 (of_z w64 c.args.write.start) ≡ c.args.write.start = search rules in
    let few = rw back at c.in_err-put_extent.ensures in
    refused c.from_residual-in_err-put_extent.ensures.0 (later (wrote c.in_ok-put_opening.ensures) (sooner _ (sooner _ (lacked few))))

pub returns-in_err-extend_from_slice : goal.returns-in_err-extend_from_slice
returns-in_err-extend_from_slice c =
    let back : to_z w64 (of_z w64 c.args.write.start) ≡ c.args.write.start = search rules in
    let extent = rw back at c.in_ok-put_extent.ensures in let e = c.in_err-extend_from_slice.ensures in
    refused c.from_residual-in_err-extend_from_slice.ensures.0
    (later (wrote c.in_ok-put_opening.ensures) (sooner _ (later (wrote extent) (record { few = e.full; grows = e.capacity }))))

pub returns : goal.returns
returns c =
    let back : to_z w64 (of_z w64 c.args.write.start) ≡ c.args.write.start = search rules in
    let extent = rw back at c.in_ok-put_extent.ensures in let e = c.in_ok-extend_from_slice.ensures in
    last (wrote c.in_ok-put_opening.ensures) (last (both (wrote extent) (record { is = e.items; grows = e.capacity })) c.put_closing.ensures)
