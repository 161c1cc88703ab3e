use Rattle.std.proofs.Common.{◌≡◌, of_z, rules, to_z, w64}
use Rattle.bac_service.proofs.Written.{last, refused, sooner}
use Rattle.bac_service.proofs.atomic_read_file.put_read_file.Goals as goal

pub returns-in_err-write_object_identifier : goal.returns-in_err-write_object_identifier
returns-in_err-write_object_identifier c =
    let e = c.in_err-write_object_identifier.ensures in refused c.from_residual.ensures.0 (sooner _ (record { few = e.full; grows = e.grows }))

pub returns-in-Stream : goal.returns-in-Stream
returns-in-Stream c =
    let back : to_z w64 (of_z w64 c.in-Stream.start) ≡ c.in-Stream.start = search rules in
    let o = c.in_ok-write_object_identifier.ensures in
    rw c.in-Stream.is (last {mid = c.write_object_identifier.new.out} (record { is = o.ok; grows = o.grows }) (rw back at c.put_enclosed_extent.ensures))

pub returns-in-Records : goal.returns-in-Records
returns-in-Records c =
    let back : to_z w64 (of_z w64 c.in-Records.start) ≡ c.in-Records.start = search rules in
    let o = c.in_ok-write_object_identifier.ensures in
    rw c.in-Records.is (last {mid = c.write_object_identifier.new.out} (record { is = o.ok; grows = o.grows }) (rw back at c.put_enclosed_extent-in-Records.ensures))
