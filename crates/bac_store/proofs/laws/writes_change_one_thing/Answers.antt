use Rattle.bac_store.proofs.WriteLaws.{error_changes_nothing, reads_change_nothing, write_octets, write_size, write_values}
use Rattle.bac_store.proofs.laws.writes_change_one_thing.Goals as goal

pub returns-clause-values : goal.returns-clause-values
returns-clause-values c = write_values

pub returns-clause-size : goal.returns-clause-size
returns-clause-size c = write_size

pub returns-clause-octets : goal.returns-clause-octets
returns-clause-octets c = write_octets

pub returns-clause-refused : goal.returns-clause-refused
returns-clause-refused c = error_changes_nothing

pub returns-clause-read : goal.returns-clause-read
returns-clause-read c = reads_change_nothing
