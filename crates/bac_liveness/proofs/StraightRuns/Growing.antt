-- The log of a world only grows.
use Rattle.std.proofs.Common.{◌≡◌, ℕ, List, [], ◌∷◌, ◌++◌, Option, Some, None, refl, sym, ap, inl, inr, ◌∙◌, append_assoc}
use Rattle.bac_transaction.specs.Meanings.{EndedView}
use Rattle.bac_world.specs.Services as service
use Rattle.bac_world.specs.Node.{Node, Outcome}
use Rattle.bac_world.specs.Once.{Fact}
use Rattle.bac_world.specs.Once.Fact.{Performed, Served}
use Rattle.bac_world.specs.World.{World, Note, Acts, AreEnded, AreLogged, ending_fact, is_away}

abbrev pub Grows : List Fact → List Fact → Type 0
Grows old new = (more : List Fact) × (new ≡ more ++ old)

pub grows_not : (a b : List Fact) → b ≡ a → Grows a b
grows_not a b is = ([], is)

pub grows_then : (a b c : List Fact) → Grows a b → Grows b c → Grows a c
grows_then a b c g h = (h.0 ++ g.0, h.1 ∙ ap (λ l. h.0 ++ l) g.1 ∙ sym (append_assoc h.0 g.0 a))

ended_grows : (notes : List Note) (i : ℕ) (fs : List EndedView) (old new : List Fact) → AreEnded notes i fs old new → Grows old new
ended_grows notes i [] old new h = ([], h)
ended_grows notes i (f ∷ fs) old new h =
    let ended : Fact = ending_fact (is_away h.0 notes) h.0 f.how in
    grows_then old (ended ∷ old) new (ended ∷ [], refl) (ended_grows notes i fs (ended ∷ old) new h.2)

logged_grows : (nodes : List Node) (notes : List Note) (i : ℕ) (b : Node) (d : Option service.Performed) (old new : List Fact)
    → AreLogged nodes notes i b d old new → Grows old new
logged_grows nodes notes i b None old new h = ([], h)
logged_grows nodes notes i b (Some d) old new (inl h) = (Performed h.number d.request d.reply ∷ [], h.log)
logged_grows nodes notes i b (Some d) old new (inr h) = (Served d.key.peer i d.key.invoke_id h.entry.begin d.request d.reply ∷ [], h.log)

pub acts_grow : (w w' : World) (i : ℕ) (b : Node) (o : Outcome) → Acts w i b o w' → Grows w.log w'.log
acts_grow w w' i b o acts = grows_then w.log acts.between w'.log (ended_grows w.notes i o.ended w.log acts.between acts.ended)
    (logged_grows w.nodes w.notes i b o.performed acts.between w'.log acts.logged)
