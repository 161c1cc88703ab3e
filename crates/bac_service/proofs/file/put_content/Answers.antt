use Rattle.std.specs.Int.{w64}
use Rattle.std.proofs.lemmas.Int.{to_z-of_z}
use Rattle.bac_service.proofs.Written.{both, lacked, last, later, refused, sooner, wrote}
use Rattle.bac_service.proofs.file.put_content.Goals as goal

pub returns-in_err-put_opening : goal.returns-in_err-put_opening
returns-in_err-put_opening c = refused c.from_residual.ensures.0 (sooner _ (lacked c.in_err-put_opening.ensures))

pub returns-in_err-write_signed : goal.returns-in_err-write_signed
returns-in_err-write_signed c =
    let e = c.in_err-write_signed.ensures in let few = rw (to_z-of_z w64 c.args.start c.ranges.start) at e.full in
    refused c.from_residual-in_err-write_signed.ensures.0
    (later (wrote c.in_ok-put_opening.ensures) (sooner _ (sooner _ (record { few = few; grows = e.grows }))))

pub returns-in_err-write_primitive : goal.returns-in_err-write_primitive
returns-in_err-write_primitive c =
    let s = c.in_ok-write_signed.ensures in let is = rw (to_z-of_z w64 c.args.start c.ranges.start) at s.ok in
    let e = c.in_err-write_primitive.ensures in
    refused c.from_residual-in_err-write_primitive.ensures.0
    (later (wrote c.in_ok-put_opening.ensures) (sooner _ (later {mid = c.write_signed.new.out} (record { is = is; grows = s.grows }) (record { few = e.full; grows = e.grows }))))

pub returns : goal.returns
returns c =
    let s = c.in_ok-write_signed.ensures in let is = rw (to_z-of_z w64 c.args.start c.ranges.start) at s.ok in
    let p = c.in_ok-write_primitive.ensures in
    last (wrote c.in_ok-put_opening.ensures) (last (both {mid = c.write_signed.new.out} (record { is = is; grows = s.grows }) (record { is = p.ok; grows = p.grows })) c.put_closing.ensures)
