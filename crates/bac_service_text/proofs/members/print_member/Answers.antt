use Rattle.bac_service_text.proofs.members.print_member.Goals as goal

pub returns-in-Records : goal.returns-in-Records
returns-in-Records g c = rw c.in-Records.is c.print_records.ensures
