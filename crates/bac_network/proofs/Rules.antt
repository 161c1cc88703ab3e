-- A node that is given the rules of its setting hears as such a node of a world.
use Rattle.std.proofs.Common.{ℕ, Bool, true, false, IfOk, None, Result, Ok, Err}
use Rattle.bac_protocol.specs.Service.{Octets}
use Rattle.bac_node.specs.Serving.{AreSetTo, GivenAreSet, HearsAsInWorlds, NodeServes}
use Rattle.bac_transaction.specs.Given.{rules_of}
use Rattle.bac_transaction.specs.Views.{rules_view}
use Rattle.bac_world.specs.Node.{Node, Outcome}
use Rattle.bac_world.specs.ReusingNodes.{NodeHears, NodeHearsSo}

given : GivenAreSet → (reuse : Bool) → AreSetTo reuse (rules_view (rules_of reuse))
given are true = are true None
given are false = are false None

named : (reuse share : Bool) (now : ℕ) (from octets : Octets) (old new : Node) (o : Outcome) → NodeHearsSo reuse share now from octets old new o
    → NodeHears reuse now from octets old new o
named true share now from octets old new o h = (share, h)
named false share now from octets old new o h = h

pub hears_so : HearsAsInWorlds → GivenAreSet → (reuse away : Bool) (now : ℕ) (from octets : Octets) (old new : Node) (o : Outcome)
    → NodeServes (rules_view (rules_of reuse)) away now from octets old new o → NodeHears reuse now from octets old new o
hears_so worlds are reuse away now from octets old new o h =
    named reuse (rules_view (rules_of reuse)).share now from octets old new o
    ((worlds reuse (rules_view (rules_of reuse)) (given are reuse) now from octets old new o).0 (record { away = away; serves = h }))

-- what holds where it is right
pub ok_as : {A E : Type 0} {P Q : A → Type 0} (r : Result A E) → ((x : A) → P x → Q x) → IfOk r P → IfOk r Q
ok_as (Ok x) f h = f x h
ok_as (Err e) f h = tt
