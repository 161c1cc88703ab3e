-- A server's end by its rules, computed: what it remembers. The type here is an equation that a law proves.
use Rattle.std.specs.Prelude.{◌≡◌, ℕ, [], ◌∷◌, Some, None, false}
use Rattle.bac_transaction.specs.Ends.{ServerTurn}
use Rattle.bac_transaction.specs.Examples.{REQUEST, SERVICE, SERVICE_DATA, SETTINGS}
use Rattle.bac_transaction.specs.Reuse.{is_read}
use Rattle.bac_transaction.specs.ReuseExamples.{act_of, answered, entry_at, with_slots}
use Rattle.bac_transaction.specs.Serving.{responder_by}
use Rattle.bac_transaction.specs.Sharing.{EndRules, fresh_rules}
use Rattle.bac_transaction.specs.Examples as examples

-- a request that is over is remembered for ten seconds
abbrev pub TEN_SECONDS : EndRules
TEN_SECONDS = fresh_rules is_read (Some 10000) false

-- the kept write comes again
abbrev pub comes_again : (now : ℕ) → ServerTurn
comes_again now = responder_by TEN_SECONDS SETTINGS now SERVICE (examples.peer 2) REQUEST examples.servers

pub record RemembersSoLong : Type 0 where
  -- for so long it gets the kept reply
  pub kept : comes_again 10000 ≡ record { end = examples.servers; sends = answered 2 15; act = None }
  -- and then it is performed once more
  pub forgotten : comes_again 10001 ≡ record { end = with_slots (entry_at 10001 SERVICE_DATA ∷ []); sends = answered 2 15; act = Some (act_of 2 15 SERVICE_DATA) }
