-- A reassembly that has grown too long.
use Rattle.std.proofs.Common.{◌∙◌, sym}
use Rattle.bac_segment.specs.Window.{takes}
use Rattle.bac_requester.proofs.Taking.{refused_is_too_long}
use Rattle.bac_requester.proofs.segmented_conf.takes_segment.Goals as goal

pub returns-in_default : goal.returns-in_default
returns-in_default c =
    rw (refused_is_too_long (takes c.args.incoming.now c.args.segment.number c.args.segment.more c.args.octets.now) c.in_default.field-0
    (sym c.in_default.is ∙ c.answer.ensures)) c.too_long.ensures
