-- What `serve` prints, and its status: over a link that the machine bound to the address of the command, and beside a clock that it made, bac_commands' promise
-- holds.
use Rattle.std.specs.Prelude.{◌≡◌, ℕ, false, List, Option}
use Rattle.std.specs.Io.KnownBytes.{Keeps}
use Rattle.bac_driver.specs.Moments.{Told, with_moment}
use Rattle.bac_driver.specs.Runs.{Timed}
use Rattle.bac_node.specs.Fresh.{large_slots_fit}
use Rattle.bac_store.specs.Stores.{Store}
use Rattle.bac_text.specs.declared.status.Status.{Status}
use Rattle.bac_commands.specs.Houses.{server_node}
use Rattle.bac_commands.specs.Reports.{ServedText}
use Rattle.bac_commands.specs.Statuses.{ByStatus}
use Rattle.bac_environment.specs.Limits.{turns_of}
use Rattle.bac_environment.specs.Sockets.{Clocks, IsAt, Links}
use Rattle.bac_serving.specs.Serving.{patience_of, restart_of}
use Rattle.bac_serving.specs.declared.serving.Serving.{Serving}

-- a clock that was made printed that moment
pub record HasTold (IsClock : Clocks) (moment : ℕ) (told : Told) : Type 0 where
  pub before : Told
  pub made : IsClock before
  pub is : told ≡ with_moment before moment

-- a node with that store, on a link that was bound, beside a clock that was made and told that moment
pub record IsServer (IsOn : Links) (IsClock : Clocks) (serving : Serving) (store : Store) (start : ℕ) (server : Timed) : Type 0 where
  pub node :
      IsAt IsOn serving.host serving.port (λ address. server_node serving.slots (restart_of serving.restarted start) address store) serving.rules
      server.bound_node
  pub clock : HasTold IsClock start server.told

-- a node with a store served from a moment on, and how many requests it performed was printed
pub record Serves (store : Store) (IsOn : Links) (IsClock : Clocks) (serving : Serving) (old new : Option (List ℕ)) : Type 0 where
  pub start : ℕ
  pub before : Timed
  pub after : Timed
  pub node :
      IsAt IsOn serving.host serving.port (λ address. server_node serving.slots (restart_of serving.restarted start) address store) serving.rules
      before.bound_node
  pub clock : HasTold IsClock start before.told
  pub text : ServedText (patience_of serving start) (turns_of serving.turns) before after old new

-- there can't be so many slots, and nothing was printed
pub record IsRefused (serving : Serving) (old new : Option (List ℕ)) : Type 0 where
  pub slots : large_slots_fit serving.slots ≡ false
  pub keeps : Keeps old new

abbrev pub IsServedBy : Store → Links → Clocks → Status → Serving → (old new : Option (List ℕ)) → Type 0
IsServedBy store IsOn IsClock s serving old new = ByStatus s (Serves store IsOn IsClock serving old new) ⊥ (IsRefused serving old new)
