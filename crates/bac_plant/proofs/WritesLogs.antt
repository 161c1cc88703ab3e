-- Logs to which nothing was added that a node performed for that stranger under that invoke ID.
use Rattle.std.proofs.Common.{◌≡◌, ℕ, Bool, true, false, List, [], ◌∷◌, ◌++◌, append_assoc, Option, Some, None, ◌⊎◌, refl, sym, ap, inl, inr, ◌∙◌}
use Rattle.bac_transaction.specs.Keys.{PeerKey}
use Rattle.bac_transaction.specs.Meanings.{EndedView, Ending}
use Rattle.bac_world.specs.Node.{Node}
use Rattle.bac_world.specs.Once.{Fact}
use Rattle.bac_world.specs.Once.Fact.{Asked, AskedAway, Changed, Ended, EndedAway, Performed, Restarted, Served}
use Rattle.bac_world.specs.ReusingWorlds.{AreLoggedSo, IsServedSo}
use Rattle.bac_world.specs.Services as service
use Rattle.bac_world.specs.World.{AreEnded, IsLogged, IsServedTo, Note, ending_fact, is_away}
use Rattle.bac_plant.specs.Writes.{AddsNothingFor, HasNothingFor}

module _ (node : ℕ) (key : PeerKey) where
  abbrev pub Adds : List Fact → List Fact → Type 0
  Adds old new = AddsNothingFor node key old new

  pub adds_none : (old new : List Fact) → new ≡ old → Adds old new
  adds_none old new is = record { more = []; is = is; nothing = tt }

  pub adds_one : (f : Fact) → HasNothingFor node key (f ∷ []) → (old new : List Fact) → new ≡ f ∷ old → Adds old new
  adds_one f none old new is = record { more = f ∷ []; is = is; nothing = none }

  joins : (xs ys : List Fact) → HasNothingFor node key xs → HasNothingFor node key ys → HasNothingFor node key (xs ++ ys)
  joins [] ys h k = k
  joins (Served q i d b r p ∷ xs) ys h k = (h.0, joins xs ys h.1 k)
  joins (Asked n c s r ∷ xs) ys h k = joins xs ys h k
  joins (Performed n r p ∷ xs) ys h k = joins xs ys h k
  joins (Ended n how ∷ xs) ys h k = joins xs ys h k
  joins (Changed i c ∷ xs) ys h k = joins xs ys h k
  joins (Restarted i s ∷ xs) ys h k = joins xs ys h k
  joins (AskedAway n c q r ∷ xs) ys h k = joins xs ys h k
  joins (EndedAway n how ∷ xs) ys h k = joins xs ys h k

  pub adds_then : (old between new : List Fact) → Adds old between → Adds between new → Adds old new
  adds_then old between new h k = record {
    more = k.more ++ h.more;
    is = k.is ∙ ap (λ l. k.more ++ l) h.is ∙ sym (append_assoc k.more h.more old);
    nothing = joins k.more h.more k.nothing h.nothing;
  }

  ends_nothing : (away : Bool) (n : ℕ) (how : Ending) → HasNothingFor node key (ending_fact away n how ∷ [])
  ends_nothing true n how = tt
  ends_nothing false n how = tt

  pub adds_ended : (notes : List Note) (i : ℕ) (fs : List EndedView) (old new : List Fact) → AreEnded notes i fs old new → Adds old new
  adds_ended notes i [] old new h = adds_none old new h
  adds_ended notes i (f ∷ fs) old new h =
      let fact : Fact = ending_fact (is_away h.0 notes) h.0 f.how in
      adds_then old (fact ∷ old) new (adds_one fact (ends_nothing (is_away h.0 notes) h.0 f.how) old (fact ∷ old) refl)
      (adds_ended notes i fs (fact ∷ old) new h.2)

  -- what was performed is of another key, or of another node
  abbrev pub IsOfOther : ℕ → Option service.Performed → Type 0
  IsOfOther i o = (d : service.Performed) → o ≡ Some d → i ≡ node → d.key ≡ key → ⊥

  pub adds_logged : (reuse : Bool) (nodes : List Node) (notes : List Note) (i : ℕ) (after : Node) (o : Option service.Performed) → IsOfOther i o
      → (old new : List Fact) → AreLoggedSo reuse nodes notes i after o old new → Adds old new
  adds_logged true nodes notes i after None other old new h = adds_none old new h
  adds_logged false nodes notes i after None other old new h = adds_none old new h
  adds_logged true nodes notes i after (Some d) other old new h = go h
    where
      go : IsLogged nodes notes i d old new ⊎ IsServedSo nodes i d old new → Adds old new
      go (inl k) = adds_one (Performed k.number d.request d.reply) tt old new k.log
      go (inr k) = adds_one (Served d.key.peer i d.key.invoke_id k.begin d.request d.reply) (λ at same. other d refl at same, tt) old new k.log
  adds_logged false nodes notes i after (Some d) other old new h = go h
    where
      go : IsLogged nodes notes i d old new ⊎ IsServedTo nodes i after d old new → Adds old new
      go (inl k) = adds_one (Performed k.number d.request d.reply) tt old new k.log
      go (inr k) = adds_one (Served d.key.peer i d.key.invoke_id k.entry.begin d.request d.reply) (λ at same. other d refl at same, tt) old new k.log
