use Rattle.std.proofs.Common.{◌≡◌, of_z, rules, to_z, w64}
use Rattle.bac_service.proofs.Written.{last, refused, sooner}
use Rattle.bac_service.proofs.atomic_read_file.put_file_read.Goals as goal

pub returns-in_err-write_boolean : goal.returns-in_err-write_boolean
returns-in_err-write_boolean c =
    let e = c.in_err-write_boolean.ensures in refused c.from_residual.ensures.0 (sooner _ (record { few = e.full; grows = e.grows }))

pub returns : goal.returns
returns c =
    let back : to_z w64 (of_z w64 c.args.read.start) ≡ c.args.read.start = search rules in
    let b = c.in_ok-write_boolean.ensures in
    last {mid = c.write_boolean.new.out} (record { is = b.ok; grows = b.grows }) (rw back at c.put_content.ensures)
