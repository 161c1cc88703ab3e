-- The first free invoke ID is taken, and refusals have their reasons.
use Rattle.bac_transaction.proofs.ClientTables.{takes_least_free, takes_least_from_zero, refuses_asks}
use Rattle.bac_transaction.proofs.laws.asks_take_the_least_invoke_id.Goals as goal

pub returns-clause-least : goal.returns-clause-least
returns-clause-least c = takes_least_free

pub returns-clause-from_zero : goal.returns-clause-from_zero
returns-clause-from_zero c = takes_least_from_zero

pub returns-clause-refused : goal.returns-clause-refused
returns-clause-refused c = refuses_asks
