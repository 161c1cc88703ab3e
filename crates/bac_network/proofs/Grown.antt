-- Logs that grow.
use Rattle.std.proofs.Common.{◌≡◌, ℕ, suc, Bool, true, false, List, [], ◌∷◌, ◌++◌, length, drop, Option, Some, None, refl, sym, ap, inl, inr, ◌∙◌}
use Rattle.std.proofs.Common.{append_assoc, length-append, arith}
use Rattle.bac_transaction.specs.Meanings.{EndedView}
use Rattle.bac_world.specs.Node.{Node, Outcome}
use Rattle.bac_world.specs.Once.Fact.{Performed, Served}
use Rattle.bac_world.specs.ReusingLogs.{Reuses}
use Rattle.bac_world.specs.ReusingWorlds.{ActsSo, AreLoggedSo, DeliversIfSo, IsDeliveredSo}
use Rattle.bac_world.specs.Services as service
use Rattle.bac_world.specs.Once.{Fact}
use Rattle.bac_world.specs.World.{AreEnded, Note, World, IsDelivered, DeliversIf, ending_fact, is_away, is_deliverable}
use Rattle.bac_liveness.proofs.StraightRuns.Growing.{Grows, grows_not, grows_then, acts_grow}
use Rattle.bac_network.specs.Logs.{IsSince}

-- the log of an ask stays one as it grows
pub since_grows : (since ask : ℕ) (log new : List Fact) → Grows log new → IsSince since ask log → IsSince since ask new
since_grows since ask log new g h = record {
  newer = g.0 ++ h.newer;
  older = h.older;
  is = g.1 ∙ ap (λ l. g.0 ++ l) h.is ∙ sym (append_assoc g.0 h.newer h.older);
  many = h.many;
  none = h.none;
}

-- a delivery makes it grow
pub delivered_grows : (overtake number : ℕ) (u v : World) → IsDelivered overtake u number v → Grows u.log v.log
delivered_grows overtake number u v d = go (is_deliverable overtake u.time.pace.life u.time.now number u.copies d.copy) d.goes
  where
    go : (b : Bool) → DeliversIf b u d.copy v → Grows u.log v.log
    go true y = acts_grow u v d.copy.to y.hears.after y.hears.outcome y.hears.acts
    go false same = grows_not u.log v.log (ap (λ (y : World). y.log) same)

-- so it does where these nodes let invoke IDs be used again
ended_grow : (notes : List Note) (node : ℕ) (fs : List EndedView) (old new : List Fact) → AreEnded notes node fs old new → Grows old new
ended_grow notes node [] old new h = grows_not old new h
ended_grow notes node (f ∷ fs) old new h =
    let ended : Fact = ending_fact (is_away h.0 notes) h.0 f.how in
    grows_then old (ended ∷ old) new (ended ∷ [], refl) (ended_grow notes node fs (ended ∷ old) new h.2)

logged_grow : (reuse : Bool) (nodes : List Node) (notes : List Note) (node : ℕ) (after : Node) (p : Option service.Performed) (old new : List Fact)
    → AreLoggedSo reuse nodes notes node after p old new → Grows old new
logged_grow true nodes notes node after None old new h = grows_not old new h
logged_grow true nodes notes node after (Some p) old new (inl h) = (Performed h.number p.request p.reply ∷ [], h.log)
logged_grow true nodes notes node after (Some p) old new (inr h) = (Served p.key.peer node p.key.invoke_id h.begin p.request p.reply ∷ [], h.log)
logged_grow false nodes notes node after None old new h = grows_not old new h
logged_grow false nodes notes node after (Some p) old new (inl h) = (Performed h.number p.request p.reply ∷ [], h.log)
logged_grow false nodes notes node after (Some p) old new (inr h) = (Served p.key.peer node p.key.invoke_id h.entry.begin p.request p.reply ∷ [], h.log)

acts_grow_so : (reuse : Bool) (u v : World) (i : ℕ) (b : Node) (o : Outcome) → ActsSo reuse u i b o v → Grows u.log v.log
acts_grow_so reuse u v i b o acts = grows_then u.log acts.between v.log (ended_grow u.notes i o.ended u.log acts.between acts.ended)
    (logged_grow reuse u.nodes u.notes i b o.performed acts.between v.log acts.logged)

pub delivered_grows_so : (overtake : ℕ) (r : Reuses) (number : ℕ) (u v : World) → IsDeliveredSo overtake r u number v → Grows u.log v.log
delivered_grows_so overtake r number u v d = go (is_deliverable overtake u.time.pace.life u.time.now number u.copies d.copy) d.goes
  where
    go : (b : Bool) → DeliversIfSo b r u d.copy v → Grows u.log v.log
    go true y = acts_grow_so (r (d.copy).to) u v (d.copy).to y.hears.after y.hears.outcome y.hears.acts
    go false same = grows_not u.log v.log (ap (λ (y : World). y.log) same)

-- lists that are the same end alike
pub same_ends : {A : Type 0} (xs ys us vs : List A) → xs ++ ys ≡ us ++ vs → length ys ≡ length vs → ys ≡ vs
same_ends [] ys [] vs e many = e
same_ends [] ys (u ∷ us) vs e many =
    let a : length ys ≡ suc (length (us ++ vs)) = ap (λ l. length l) e in let b = length-append us vs in absurd (omega (arith, many))
same_ends (x ∷ xs) ys [] vs e many =
    let a : suc (length (xs ++ ys)) ≡ length vs = ap (λ l. length l) e in let b = length-append xs ys in absurd (omega (arith, many))
same_ends (x ∷ xs) ys (u ∷ us) vs e many = same_ends xs ys us vs (ap (λ l. drop 1 l) e) many
