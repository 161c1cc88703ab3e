use Rattle.bac_service.proofs.Written.{lacked, last, later, refused, sooner, wrote}
use Rattle.bac_service.proofs.member_writing.put_values.Goals as goal

pub returns-in_err-put_opening : goal.returns-in_err-put_opening
returns-in_err-put_opening c = refused c.from_residual.ensures.0 (sooner _ (lacked c.in_err-put_opening.ensures))

pub returns-in_err-extend_from_slice : goal.returns-in_err-extend_from_slice
returns-in_err-extend_from_slice c =
    let e = c.in_err-extend_from_slice.ensures in
    refused c.from_residual-in_err-extend_from_slice.ensures.0 (later (wrote c.in_ok-put_opening.ensures) (sooner _ (record { few = e.full; grows = e.capacity })))

pub returns : goal.returns
returns c =
    let e = c.in_ok-extend_from_slice.ensures in
    last (wrote c.in_ok-put_opening.ensures) (last {mid = c.extend_from_slice.new.self} (record { is = e.items; grows = e.capacity }) c.put_closing.ensures)
