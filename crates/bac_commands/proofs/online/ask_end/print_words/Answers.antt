use Rattle.std.proofs.Common.{rules, sym}
use Rattle.bac_commands.proofs.online.ask_end.print_words.Goals as goal

pub returns : goal.returns
returns g c =
    record { words = c.in-Ok.words.items; are = c.in-Ok.ensures; printed = search rules; is = sym c.is_success.ensures }
