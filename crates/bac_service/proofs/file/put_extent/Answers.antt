use Rattle.std.specs.Int.{w64}
use Rattle.std.proofs.lemmas.Int.{to_z-of_z}
use Rattle.bac_service.proofs.Written.{last, refused, sooner}
use Rattle.bac_service.proofs.file.put_extent.Goals as goal

pub returns-in_err-write_signed : goal.returns-in_err-write_signed
returns-in_err-write_signed c =
    let e = c.in_err-write_signed.ensures in let few = rw (to_z-of_z w64 c.args.start c.ranges.start) at e.full in
    refused c.from_residual.ensures.0 (sooner _ (record { few = few; grows = e.grows }))

pub returns : goal.returns
returns c =
    let e = c.in_ok-write_signed.ensures in let is = rw (to_z-of_z w64 c.args.start c.ranges.start) at e.ok in
    let f = c.write_unsigned.ensures in
    last {mid = c.write_signed.new.out} (record { is = is; grows = e.grows }) (record { ok = f.ok; full = f.full; grows = f.grows })
