-- The stores of a world as the stores of the machines.
use Rattle.std.specs.Option.{option_map}
use Rattle.std.proofs.Common.{◌≡◌, ℕ, Bool, true, false, Option, Some, None, Result, Ok, Err, if◌then◌else◌, nat_eq, refl, sym, ap, ◌∙◌, List, slice_get, arith}
use Rattle.std.proofs.lemmas.Bool.Decides.{nat_tests}
use Rattle.bac_service.specs.Values.{Request}
use Rattle.bac_service.specs.Services.{request_at}
use Rattle.bac_service.proofs.Wholes.{request_again}
use Rattle.bac_store.specs.Stores.{Store}
use Rattle.bac_store.specs.Changes as change
use Rattle.bac_protocol.specs.Service as machine
use Rattle.bac_protocol.specs.Service.{Octets}
use Rattle.bac_protocol.specs.Service.Outcome.{Rejects}
use Rattle.bac_protocol.specs.Server.{Effect}
use Rattle.bac_protocol.specs.Log.{StoreModel}
use Rattle.bac_protocol.specs.World.{stored}
use Rattle.bac_protocol.specs.World as net
use Rattle.bac_transaction.specs.Keys.{PeerKey}
use Rattle.bac_transaction.specs.Ends.{act_at}
use Rattle.bac_transaction.specs.Services.{service_of}
use Rattle.bac_world.specs.Services.{Performed, ArePerformed, store_after}
use Rattle.bac_world.specs.Node.{Node}
use Rattle.bac_world.specs.World.{IsWithNode, stores_of}
use Rattle.bac_world.proofs.Steps.{stores_same}

abbrev pub outcome_at : Option Store → ℕ → Octets → machine.Outcome
outcome_at None choice octets = Rejects 0
outcome_at (Some s) choice octets = service_of s choice octets

abbrev pub after_read : Option Store → Result Request ℕ → Option Store
after_read None r = None
after_read (Some s) (Ok r) = Some (change.after s r)
after_read (Some s) (Err reason) = Some s

-- no node of a straight run changes its own store
abbrev pub model : StoreModel (Option Store)
model = record { outcome = outcome_at; after = λ s q. after_read s (request_at q.choice q.service); changed = λ s change. s; opened = λ store. None }

-- all transactions of the machines, with these stores
abbrev pub Machines : Type 0
Machines = net.World (Option Store)

-- the stores after what was performed at a node
pub stores_fit : (stores : ℕ → Option Store) (old new : List Node) → ((i : ℕ) → stores i ≡ stores_of old i) → (i : ℕ) (a b : Node)
    → slice_get old i ≡ Some a → IsWithNode old i b new → (q : PeerKey) (e : Option Effect) (d : Option Performed)
    → ArePerformed a.store (act_at q e) d → b.store ≡ store_after a.store d
    → (j : ℕ) → stored (Option Store) model i e stores j ≡ stores_of new j
stores_fit stores old new fit i a b at nodes q None None done store j = fit j ∙ sym (stores_same old new i a b nodes at store j)
stores_fit stores old new fit i a b at nodes q None (Some d) done store j = absurd done
stores_fit stores old new fit i a b at nodes q (Some e) None done store j = absurd done
stores_fit stores old new fit i a b at nodes q (Some e) (Some d) done store j = go (nat_eq j i) refl
  where
    go : (y : Bool) → nat_eq j i ≡ y → (if y then after_read (stores i) (request_at e.request.choice e.request.service) else stores j) ≡ stores_of new j
    go true is =
        let same : j ≡ i = grind (arith, nat_tests) in
        let here : stores_of new i ≡ Some b.store = ap (λ (o : Option Node). option_map (λ (m : Node). m.store) o) nodes.here in
        let before : stores i ≡ Some a.store = fit i ∙ ap (λ (o : Option Node). option_map (λ (m : Node). m.store) o) at in
        ap (λ o. after_read o (request_at e.request.choice e.request.service)) before
        ∙ ap (after_read (Some a.store)) (request_again e.request.choice e.request.service d.request done.what.request)
        ∙ ap Some (sym store) ∙ sym here ∙ ap (stores_of new) (sym same)
    go false is =
        let ne : j ≡ i → ⊥ = λ same. grind (arith, nat_tests) in
        fit j ∙ sym (ap (λ (o : Option Node). option_map (λ (m : Node). m.store) o) (nodes.others j ne))
