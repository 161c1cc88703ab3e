-- When a tick of a node does something.
use Rattle.std.proofs.Common.{◌≡◌, ◌≢◌, ℕ, ◌<◌, ◌≤◌, Bool, true, false, min, max, nat_le, refl, ap, sym, subst, ◌∙◌, arith}
use Rattle.std.proofs.lemmas.Bool.Decides.{nat_tests}
use Rattle.bac_protocol.specs.Context.{Settings}
use Rattle.bac_transaction.specs.Ends.{requester_tick, responder_tick}
use Rattle.bac_requester.specs.Timers.{LAST_MOMENT}
use Rattle.bac_world.specs.Node.{Node, NodeTick, Outcome}
use Rattle.bac_node.specs.Waiting.{MovesAt}

-- an end moves at the first moment of both, or at the latest that the node was told if that is later
pub moves_at : (n : Node) (a b due : ℕ)
    → ((c : Settings) (now : ℕ) → a ≤ now → a < LAST_MOMENT → (requester_tick c now n.clients).end ≢ n.clients)
    → ((c : Settings) → b < LAST_MOMENT → (responder_tick c (max n.latest b) n.servers).end ≢ n.servers)
    → min a b < LAST_MOMENT → due ≡ max (min a b) n.latest → MovesAt due n
moves_at n a b due client server within is = record { timely = omega (arith, is); moves = moves }
  where
    moves : (new : Node) (o : Outcome) → NodeTick due n new o → new ≢ record n { latest = due }
    moves new o tick same = go (nat_le a b) refl
      where
        go : (first : Bool) → nat_le a b ≡ first → ⊥
        go true le =
            let reached : a ≤ due = grind (arith, nat_tests, le, is) in
            let soon : a < LAST_MOMENT = grind (arith, nat_tests, le, within) in
            client n.settings due reached soon (ap (λ (m : Node). m.clients) (sym tick.node ∙ same))
        go false gt =
            let at : max n.latest b ≡ due = grind (arith, nat_tests, gt, is) in
            let soon : b < LAST_MOMENT = grind (arith, nat_tests, gt, within) in
            subst (λ m. (responder_tick n.settings m n.servers).end ≢ n.servers) at (server n.settings soon) (ap (λ (m : Node). m.servers) (sym tick.node ∙ same))
