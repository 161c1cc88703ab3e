use Rattle.std.proofs.Common.{rules, sym}
use Rattle.bac_commands.proofs.online.ask_end.print_numbers.Goals as goal

pub returns : goal.returns
returns g c = record { printed = search rules; is = sym c.is_success.ensures }
