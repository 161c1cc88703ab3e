use Rattle.bac_service_text.proofs.Listed.{line_of}
use Rattle.bac_service_text.proofs.members.print_line.Goals as goal

pub returns : goal.returns
returns g c =
    line_of _ _ _ _ _ _ _ (rw (← c.as_bytes.ensures.value) c.in_ok-write_all.ensures.bytes) c.in_ok-print_members.ensures c.write_all-2.ensures.bytes
