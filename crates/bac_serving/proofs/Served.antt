-- What a node that was made as is said printed.
use Rattle.std.proofs.Common.{◌≡◌, ℕ, false, List, Option, subst}
use Rattle.std.proofs.KnownBytes.{Keeps-refl}
use Rattle.bac_driver.specs.Nodes.{Octets}
use Rattle.bac_store.specs.Stores.{Store}
use Rattle.bac_text.specs.declared.status.Status.{Status}
use Rattle.bac_driver.specs.Runs.{Timed}
use Rattle.bac_node.specs.Fresh.{large_slots_fit}
use Rattle.bac_commands.specs.Houses.{server_node}
use Rattle.bac_commands.specs.Reports.{ReportsServing}
use Rattle.bac_commands.specs.Statuses.{ByStatus}
use Rattle.bac_environment.specs.Sockets.{Clocks, Links}
use Rattle.bac_serving.specs.Online.{HasTold, IsServedBy, IsServer}
use Rattle.bac_serving.specs.Serving.{patience_of, restart_of}
use Rattle.bac_environment.specs.Limits.{turns_of}
use Rattle.bac_serving.specs.declared.serving.Serving.{Serving}
use Rattle.bac_environment.proofs.Statuses.{lifted}

-- a node that was made as is said served
pub served_so : (IsOn : Links) (IsClock : Clocks) (store : Store) (serving : Serving) (start : ℕ) (before after : Timed) (old new : Option (List ℕ)) (s : Status)
    → IsServer IsOn IsClock serving store start before
    → ReportsServing s (patience_of serving start) (turns_of serving.turns) before after old new → IsServedBy store IsOn IsClock s serving old new
served_so IsOn IsClock store serving start before after old new s server reports =
    lifted s (λ text. record { start = start; before = before; after = after; node = server.node; clock = server.clock; text = text })
    (λ (no : ⊥). absurd no) (λ (no : ⊥). absurd no) reports

-- where none was made, nothing was printed
pub none_served : (IsOn : Links) (IsClock : Clocks) (store : Store) (serving : Serving) (s : Status) (old : Option (List ℕ))
    → ByStatus s ⊥ ⊥ (large_slots_fit serving.slots ≡ false) → IsServedBy store IsOn IsClock s serving old old
none_served IsOn IsClock store serving s old refused =
    lifted s (λ (no : ⊥). absurd no) (λ (no : ⊥). absurd no) (λ slots. record { slots = slots; keeps = Keeps-refl old }) refused

-- a node with a store on its link, beside a clock that told when it began
pub station_so : (IsOn : Links) (IsClock : Clocks) (store : Store) (serving : Serving) (start : ℕ) (restart : Option ℕ) (address : Octets) (server : Timed)
    → restart ≡ restart_of serving.restarted start → server.bound_node.node ≡ server_node serving.slots restart address store
    → IsOn serving.host serving.port address server.bound_node.failures server.bound_node.calls → HasTold IsClock start server.told
    → server.bound_node.rules ≡ serving.rules → IsServer IsOn IsClock serving store start server
station_so IsOn IsClock store serving start restart address server restarts node on clock rules =
    record {
      node =
          record {
            address = address;
            node = subst (λ (r : Option ℕ). server.bound_node.node ≡ server_node serving.slots r address store) restarts node;
            rules_are = rules;
            on = on;
          };
      clock = clock;
    }
