use Rattle.bac_service.proofs.Written.{last, later, refused, sooner}
use Rattle.bac_service.proofs.property.put_reference.Goals as goal

pub returns-in_err-write_object_identifier : goal.returns-in_err-write_object_identifier
returns-in_err-write_object_identifier c =
    let e = c.in_err-write_object_identifier.ensures in refused c.from_residual.ensures.0 (sooner _ (record { few = e.full; grows = e.grows }))

pub returns-in_err-write_unsigned : goal.returns-in_err-write_unsigned
returns-in_err-write_unsigned c =
    let o = c.in_ok-write_object_identifier.ensures in let e = rw c.from.ensures at c.in_err-write_unsigned.ensures in
    refused c.from_residual-in_err-write_unsigned.ensures.0
    (later {mid = c.write_object_identifier.new.out} (record { is = o.ok; grows = o.grows }) (sooner _ (record { few = e.full; grows = e.grows })))

pub returns : goal.returns
returns c =
    let o = c.in_ok-write_object_identifier.ensures in let p = rw c.from.ensures at c.in_ok-write_unsigned.ensures in
    last {mid = c.write_object_identifier.new.out} (record { is = o.ok; grows = o.grows })
    (last {mid = c.write_unsigned.new.out} (record { is = p.ok; grows = p.grows }) c.put_optional.ensures)
