-- What a held turn makes of the store of its node.
use Rattle.std.proofs.Common.{◌≡◌, ℕ, Bool, true, false, inl, inr, Option, Some, None, take, ap, sym, subst, ◌∙◌}
use Rattle.std.specs.Prelude.{IfSome}
use Rattle.bac_protocol.specs.Service.{Octets}
use Rattle.bac_protocol.specs.Wire.{is_from_client}
use Rattle.bac_store.specs.Stores.{Store}
use Rattle.bac_transaction.specs.Ends.{Act}
use Rattle.bac_apdu.specs.Apdu.{Apdu}
use Rattle.bac_npdu.specs.Peers.{PeerView}
use Rattle.bac_world.specs.Node.{Node, Outcome}
use Rattle.bac_node.specs.Serving.{IsHeardSoBy, NodeHearsBy, NodeServes}
use Rattle.bac_transaction.specs.Views.{rules_view}
use Rattle.bac_transaction.specs.declared.rules.Rules.{Rules}
use Rattle.bac_world.specs.Services.{ArePerformed, Performed, store_after}
use Rattle.bac_driver.specs.Rounds.{HoldsTurnFrom, IsReplied}
use Rattle.bac_driver.specs.Runs.{Timed}
use Rattle.bac_driver.specs.Turns.{Hears, Ticks, Turn, performed_of}
use Rattle.bac_driver.specs.declared.wait_limit.WaitLimit.{WaitLimit}

none_replied : (s : Store) (p : Option Performed) → p ≡ None → IfSome p (IsReplied s)
none_replied s p is = subst (λ (q : Option Performed). IfSome q (IsReplied s)) (sym is) tt

are_replied : (s : Store) (act : Option Act) (p : Option Performed) → ArePerformed s act p → IfSome p (IsReplied s)
are_replied s None None performed = tt
are_replied s None (Some p) performed = absurd performed
are_replied s (Some a) None performed = absurd performed
are_replied s (Some a) (Some p) performed = record { reply = performed.what.reply }

-- ---- a datagram

store_hears : (rules : Rules) (now : ℕ) (from octets : Octets) (old new : Node) (o : Outcome) → NodeHearsBy (rules_view rules) now from octets old new o
    → new.store ≡ store_after old.store o.performed
store_hears rules now from octets old new o hears = go hears.serves
  where
    by : (away : Bool) (server : Bool) (peer : PeerView) (a : Apdu) → IsHeardSoBy (rules_view rules) away server peer a now old new o
        → new.store ≡ store_after old.store o.performed
    by away true peer a served = ap (λ (n : Node). n.store) served.turn.node
    by away false peer a turn = ap (λ (n : Node). n.store) turn.0.node ∙ sym (ap (store_after old.store) turn.0.performed)

    go : NodeServes (rules_view rules) hears.away now from octets old new o → new.store ≡ store_after old.store o.performed
    go (inl d) = ap (λ (n : Node). n.store) d.0.node ∙ sym (ap (λ (x : Outcome). store_after old.store x.performed) d.0.outcome)
    go (inr z) = by hears.away (is_from_client z.apdu) z.peer z.apdu z.heard

replied_hears : (rules : Rules) (now : ℕ) (from octets : Octets) (old new : Node) (o : Outcome) → NodeHearsBy (rules_view rules) now from octets old new o
    → IfSome o.performed (IsReplied old.store)
replied_hears rules now from octets old new o hears = go hears.serves
  where
    by : (away : Bool) (server : Bool) (peer : PeerView) (a : Apdu) → IsHeardSoBy (rules_view rules) away server peer a now old new o
        → IfSome o.performed (IsReplied old.store)
    by away true peer a served = are_replied old.store _ o.performed served.turn.performed
    by away false peer a turn = none_replied old.store o.performed turn.0.performed

    go : NodeServes (rules_view rules) hears.away now from octets old new o → IfSome o.performed (IsReplied old.store)
    go (inl d) = none_replied old.store o.performed (ap (λ (x : Outcome). x.performed) d.0.outcome)
    go (inr z) = by hears.away (is_from_client z.apdu) z.peer z.apdu z.heard

-- ---- both steps

store_heard : (rules : Rules) (now : ℕ) (buffer : Octets) (came : Option (Octets × ℕ)) (old new : Node) (heard : Option Outcome)
    → Hears rules now buffer came old new heard → new.store ≡ store_after old.store (performed_of heard)
store_heard rules now buffer None old new heard hears =
    ap (λ (n : Node). n.store) hears.1 ∙ sym (ap (λ (h : Option Outcome). store_after old.store (performed_of h)) hears.0)
store_heard rules now buffer (Some d) old new None hears = ap (λ (n : Node). n.store) hears.same
store_heard rules now buffer (Some d) old new (Some o) hears = store_hears rules now d.0 (take d.1 buffer) old new o hears

replied_heard : (rules : Rules) (now : ℕ) (buffer : Octets) (came : Option (Octets × ℕ)) (old new : Node) (heard : Option Outcome)
    → Hears rules now buffer came old new heard → IfSome (performed_of heard) (IsReplied old.store)
replied_heard rules now buffer None old new heard hears = none_replied old.store (performed_of heard) (ap performed_of hears.0)
replied_heard rules now buffer (Some d) old new None hears = tt
replied_heard rules now buffer (Some d) old new (Some o) hears = replied_hears rules now d.0 (take d.1 buffer) old new o hears

store_ticked : (now : ℕ) (old new : Node) (ticked : Option Outcome) → Ticks now old new ticked → new.store ≡ old.store
store_ticked now old new None ticks = ap (λ (n : Node). n.store) ticks.same
store_ticked now old new (Some o) ticks = ap (λ (n : Node). n.store) ticks.node

-- ---- a held turn

pub store_held : (began : ℕ) (p : WaitLimit) (turn : Turn) (old new : Timed) → HoldsTurnFrom began p old turn new
    → new.bound_node.node.store ≡ store_after old.bound_node.node.store (performed_of turn.heard)
store_held began p turn old new holds =
    store_ticked _ holds.takes.middle new.bound_node.node turn.ticked holds.takes.ticks
    ∙ store_heard holds.middle.rules _ _ turn.received holds.middle.node holds.takes.middle turn.heard holds.takes.hears
    ∙ ap (λ (n : Node). store_after n.store (performed_of turn.heard)) holds.receives.node

pub replied_held : (began : ℕ) (p : WaitLimit) (turn : Turn) (old new : Timed) → HoldsTurnFrom began p old turn new
    → IfSome (performed_of turn.heard) (IsReplied old.bound_node.node.store)
replied_held began p turn old new holds =
    subst (λ (n : Node). IfSome (performed_of turn.heard) (IsReplied n.store)) holds.receives.node
    (replied_heard holds.middle.rules _ _ turn.received holds.middle.node holds.takes.middle turn.heard holds.takes.hears)
