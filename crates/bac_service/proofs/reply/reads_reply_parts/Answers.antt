use Rattle.bac_service.proofs.Wholes.{read_iff}
use Rattle.bac_service.proofs.reply.reads_reply_parts.Goals as goal

pub returns-clause-spelled : goal.returns-clause-spelled
returns-clause-spelled c = read_iff _ _ _ c.len-count.ensures.each c.is_read.ensures
