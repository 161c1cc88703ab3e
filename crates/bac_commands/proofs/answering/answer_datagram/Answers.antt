use Rattle.std.specs.Global.{Vec}
use Rattle.bac_transaction.specs.Sends.{Datagram}
use Rattle.bac_commands.proofs.OneReply.{replied}
use Rattle.bac_commands.proofs.answering.answer_datagram.Goals as goal

pub returns-clause-reply : goal.returns-clause-reply
returns-clause-reply c = replied (λ (v : Vec Datagram). v.items) c.args.octets.now c.house_sends.result c.house_sends.ensures
