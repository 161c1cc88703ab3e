use Rattle.std.proofs.Common.{rules}
use Rattle.bac_npdu.specs.declared.fault.FrameFault.TheVariants.{Version, ReservedBits}
use Rattle.bac_npdu.specs.Views.{npdu_view}
use Rattle.bac_npdu.specs.Reading.{npdu_at, control_at}
use Rattle.bac_npdu.proofs.Frames.{npdu_refused, found_by, refused_by}
use Rattle.bac_npdu.proofs.npdu_reading.read_npdu.Goals as goal

pub returns-in_err-version-clause-refused : goal.returns-in_err-version-clause-refused
unfolding npdu_at control_at
returns-in_err-version-clause-refused c = refused_by npdu_view c.args.octets.now c.from_residual.result (search rules)

pub returns-then-version-ne-VERSION-clause-refused :
    goal.returns-then-version-ne-VERSION-clause-refused
unfolding npdu_at control_at
returns-then-version-ne-VERSION-clause-refused c = npdu_refused c.args.octets.now Version (search rules)

pub returns-in_err-bits-clause-refused : goal.returns-in_err-bits-clause-refused
unfolding npdu_at control_at
returns-in_err-bits-clause-refused c = refused_by npdu_view c.args.octets.now c.from_residual-in_err-bits.result (search rules)

pub returns-then-has-clause-refused : goal.returns-then-has-clause-refused
unfolding npdu_at control_at
returns-then-has-clause-refused c = npdu_refused c.args.octets.now ReservedBits (search rules)

pub returns-clause-found : goal.returns-clause-found
unfolding npdu_at control_at
returns-clause-found c = found_by npdu_view c.args.octets.now c.members.result (λ i. (c.type_inv.octets i).fits) (search rules)

pub returns-clause-refused : goal.returns-clause-refused
unfolding npdu_at control_at
returns-clause-refused c = refused_by npdu_view c.args.octets.now c.members.result (search rules)
