use Rattle.bac_service.proofs.Written.{lacked, last, later, refused, sooner, wrote}
use Rattle.bac_service.proofs.write_property.put_write_property.Goals as goal

pub returns-in_err-put_reference : goal.returns-in_err-put_reference
returns-in_err-put_reference c = refused c.from_residual.ensures.0 (sooner _ (lacked c.in_err-put_reference.ensures))

pub returns-in_err-put_values : goal.returns-in_err-put_values
returns-in_err-put_values c =
    refused c.from_residual-in_err-put_values.ensures.0 (later (wrote c.in_ok-put_reference.ensures) (sooner _ (lacked c.in_err-put_values.ensures)))

pub returns : goal.returns
returns c =
    last (wrote c.in_ok-put_reference.ensures) (last (wrote c.in_ok-put_values.ensures) (rw c.level.ensures at c.put_optional.ensures))
