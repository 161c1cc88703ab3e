use Rattle.std.proofs.Common.{rules}
use Rattle.bac_service.specs.Replies.{complex_view}
use Rattle.bac_service.proofs.Wholes.{complex_spelled}
use Rattle.bac_service.proofs.reply.reply_len.Goals as goal

pub returns-in-FileRead-clause-spelled : goal.returns-in-FileRead-clause-spelled
returns-in-FileRead-clause-spelled c = complex_spelled (complex_view c.args.reply) (search rules)

pub returns-in-FileWritten-Stream-clause-spelled : goal.returns-in-FileWritten-Stream-clause-spelled
returns-in-FileWritten-Stream-clause-spelled c = complex_spelled (complex_view c.args.reply) (search rules)

pub returns-in-PropertyRead-clause-spelled : goal.returns-in-PropertyRead-clause-spelled
returns-in-PropertyRead-clause-spelled c = complex_spelled (complex_view c.args.reply) (search rules)
