use Rattle.std.proofs.Common.{rules}
use Rattle.bac_npdu.specs.declared.fault.Dropped.TheVariants.{Npdu, Routed, NetworkMessage}
use Rattle.bac_npdu.proofs.Datagrams.{cause_none}
use Rattle.bac_npdu.proofs.datagram_reading.read_datagram.Goals as goal

pub returns-in-Err-read_npdu-clause-none : goal.returns-in-Err-read_npdu-clause-none
returns-in-Err-read_npdu-clause-none c = cause_none c.args.octets.now (Npdu c.in-Err-read_npdu.fault) (search rules) c.args.link

pub returns-then-is_some-clause-none : goal.returns-then-is_some-clause-none
returns-then-is_some-clause-none c = cause_none c.args.octets.now Routed (search rules) c.args.link

pub returns-then-is_some-2-clause-none : goal.returns-then-is_some-2-clause-none
returns-then-is_some-2-clause-none c = cause_none c.args.octets.now NetworkMessage (search rules) c.args.link
