use Rattle.bac_commands.proofs.online.asking.ask_and_print.Goals as goal

pub returns : goal.returns
returns g c = record { end = c.in_ok-end.end; ends = c.in_ok-end.ensures; told = c.in_ok-succeeded.ensures }
