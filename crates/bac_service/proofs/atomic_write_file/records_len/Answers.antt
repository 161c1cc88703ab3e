use Rattle.bac_service.proofs.Strings.{whole_strings}
use Rattle.bac_service.proofs.atomic_write_file.records_len.Goals as goal

pub returns-clause-strings : goal.returns-clause-strings
returns-clause-strings c = whole_strings _ _ c.len-run.ensures.each c.args.write.records.counted
