-- A node changes its own store.
use Rattle.std.proofs.Common.{◌≡◌, ℕ, List, ◌∷◌, None, Some, slice_get, sym, ap, subst}
use Rattle.bac_store.specs.AtNode.{Change, change_fault}
use Rattle.bac_world.specs.Node.{Node, with_change}
use Rattle.bac_world.specs.Once.Fact.{Changed}
use Rattle.bac_world.specs.World.{IsChanged, IsWithNode}
use Rattle.bac_journal.specs.Journals.{JournalView}
use Rattle.bac_journal.specs.Lives.{lives_at}
use Rattle.bac_network.specs.Clocks.{instant, time_at}
use Rattle.bac_network.specs.Goings.{Goes}
use Rattle.bac_network.specs.Networks.{world_of}
use Rattle.bac_network.specs.Views.{log_view}
use Rattle.bac_network.specs.declared.network.Network.{Network}

-- the change may be made at each node of that number
abbrev pub MayChange : List Node → (node : ℕ) → Change → Type 0
MayChange nodes node c = (a : Node) → slice_get nodes node ≡ Some a → change_fault a.store c ≡ None

pub node_changed : (n n' : Network) (node : ℕ) (c : Change) (nodes : List Node) → nodes ≡ n.nodes.items → (new : List Node) → n'.nodes.items ≡ new
    → Goes nodes node (λ a b. b ≡ with_change c a) new → MayChange n.nodes.items node c → n'.journal ≡ n.journal
    → log_view n'.log.items ≡ Changed node c ∷ log_view n.log.items → IsChanged (world_of n) node c (world_of n')
node_changed n n' node c nodes are new fits went may journal log =
    let g : Goes n.nodes.items node (λ a b. b ≡ with_change c a) n'.nodes.items =
    subst (λ l. Goes n.nodes.items node (λ a b. b ≡ with_change c a) l) (sym fits)
    (subst (λ l. Goes l node (λ a b. b ≡ with_change c a) new) are went) in
    record {
      before = g.before;
      at = g.at;
      may = may g.before g.at;
      nodes = subst (λ (b : Node). IsWithNode n.nodes.items node b n'.nodes.items) g.goes g.nodes;
      time = ap (λ (j : JournalView). time_at (instant j)) journal;
      lives = ap (λ (j : JournalView). lives_at j.lives) journal;
      copies = ap (λ (j : JournalView). j.copies) journal;
      notes = ap (λ (j : JournalView). j.notes) journal;
      log = log;
    }
