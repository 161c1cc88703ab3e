-- A node restarts.
use Rattle.std.proofs.Common.{◌≡◌, ℕ, true, List, ◌∷◌, Option, sym, subst}
use Rattle.bac_protocol.specs.Pace.{clock_at}
use Rattle.bac_store.specs.Stores.{Store}
use Rattle.bac_world.specs.Node.{Node, begun_again, restarted, store_after_restart}
use Rattle.bac_world.specs.Once.Fact.{Restarted}
use Rattle.bac_world.specs.World.{IsBegunAgain, IsRestarted, IsWithNode, is_quiet, with_act, with_clock, with_restart}
use Rattle.bac_journal.specs.Lives.{lives_at}
use Rattle.bac_journal.specs.Clocks.{pace_of, restart_at}
use Rattle.bac_network.specs.Clocks.{instant, time_at}
use Rattle.bac_network.specs.Goings.{Goes}
use Rattle.bac_network.specs.Networks.{world_of}
use Rattle.bac_network.specs.Views.{log_view}
use Rattle.bac_network.specs.declared.network.Network.{Network}

-- what a node is told that restarts
abbrev pub told_then : Network → ℕ
told_then n = (clock_at (pace_of n.journal.own) (restart_at n.journal.moment n.journal.own)).shows

pub node_restarted : (n n' : Network) (node now : ℕ) (store : Option Store) (nodes : List Node) → nodes ≡ n.nodes.items → (new : List Node)
    → n'.nodes.items ≡ new → now ≡ told_then n
    → Goes nodes node (λ a b. b ≡ restarted now (store_after_restart a.store store) a) new
    → time_at (instant n'.journal) ≡ with_clock (time_at (instant n.journal)) node (restart_at n.journal.moment n.journal.own)
    → lives_at n'.journal.lives ≡ with_restart (time_at (instant n.journal)) (lives_at n.journal.lives) node
    → n'.journal.copies ≡ n.journal.copies → n'.journal.notes ≡ n.journal.notes
    → log_view n'.log.items ≡ Restarted node store ∷ log_view n.log.items
    → IsRestarted (world_of n) node (restart_at n.journal.moment n.journal.own) store (world_of n')
node_restarted n n' node now store nodes are new fits is went time lives copies notes log =
    let g : Goes n.nodes.items node (λ a b. b ≡ restarted (told_then n) (store_after_restart a.store store) a) n'.nodes.items =
    subst (λ l. Goes n.nodes.items node (λ a b. b ≡ restarted (told_then n) (store_after_restart a.store store) a) l) (sym fits)
    (subst (λ l. Goes l node (λ a b. b ≡ restarted (told_then n) (store_after_restart a.store store) a) new) are
    (subst (λ (t : ℕ). Goes nodes node (λ a b. b ≡ restarted t (store_after_restart a.store store) a) new) is went)) in
    record {
      before = g.before;
      at = g.at;
      nodes = subst (λ (b : Node). IsWithNode n.nodes.items node b n'.nodes.items) g.goes g.nodes;
      time = time;
      lives = lives;
      copies = copies;
      notes = notes;
      log = log;
    }

-- another program begins at its link
pub node_replaced : (n n' : Network) (node now first_id : ℕ) (store : Option Store) (nodes : List Node) → nodes ≡ n.nodes.items → (new : List Node)
    → n'.nodes.items ≡ new → now ≡ told_then n
    → Goes nodes node (λ a b. b ≡ begun_again now first_id (store_after_restart a.store store) a) new → is_quiet (world_of n) node ≡ true
    → time_at (instant n'.journal) ≡ with_clock (time_at (instant n.journal)) node (restart_at n.journal.moment n.journal.own)
    → lives_at n'.journal.lives ≡ with_act (lives_at n.journal.lives) node
    → n'.journal.copies ≡ n.journal.copies → n'.journal.notes ≡ n.journal.notes
    → log_view n'.log.items ≡ Restarted node store ∷ log_view n.log.items
    → IsBegunAgain (world_of n) node (restart_at n.journal.moment n.journal.own) first_id store (world_of n')
node_replaced n n' node now first_id store nodes are new fits is went quiet time lives copies notes log =
    let g : Goes n.nodes.items node (λ a b. b ≡ begun_again (told_then n) first_id (store_after_restart a.store store) a) n'.nodes.items =
    subst (λ l. Goes n.nodes.items node (λ a b. b ≡ begun_again (told_then n) first_id (store_after_restart a.store store) a) l) (sym fits)
    (subst (λ l. Goes l node (λ a b. b ≡ begun_again (told_then n) first_id (store_after_restart a.store store) a) new) are
    (subst (λ (t : ℕ). Goes nodes node (λ a b. b ≡ begun_again t first_id (store_after_restart a.store store) a) new) is went)) in
    record {
      before = g.before;
      at = g.at;
      quiet = quiet;
      nodes = subst (λ (b : Node). IsWithNode n.nodes.items node b n'.nodes.items) g.goes g.nodes;
      time = time;
      lives = lives;
      copies = copies;
      notes = notes;
      log = log;
    }
