use Rattle.bac_store.proofs.GrantLaws.{granted_after, granted_change}
use Rattle.bac_store.proofs.WriteLaws.{change_octets, change_values}
use Rattle.bac_store.proofs.laws.changes_change_one_thing.Goals as goal

pub returns-clause-value : goal.returns-clause-value
returns-clause-value c = change_values

pub returns-clause-file : goal.returns-clause-file
returns-clause-file c = change_octets

pub returns-clause-granted : goal.returns-clause-granted
returns-clause-granted c = granted_change

pub returns-clause-same : goal.returns-clause-same
returns-clause-same c = granted_after
