use Rattle.bac_service.proofs.Written.{lacked, last, refused, sooner, wrote}
use Rattle.bac_service.proofs.read_property.put_property_read.Goals as goal

pub returns-in_err-put_reference : goal.returns-in_err-put_reference
returns-in_err-put_reference c = refused c.from_residual.ensures.0 (sooner _ (lacked c.in_err-put_reference.ensures))

pub returns : goal.returns
returns c = last (wrote c.in_ok-put_reference.ensures) c.put_values.ensures
