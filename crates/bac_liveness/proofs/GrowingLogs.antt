-- The log of a world whose nodes let invoke IDs be used again, or not, only grows.
use Rattle.std.proofs.Common.{◌≡◌, ℕ, Bool, true, false, List, [], ◌∷◌, Option, Some, None, sym, subst, inl, inr}
use Rattle.bac_transaction.specs.Meanings.{EndedView}
use Rattle.bac_world.specs.Services as service
use Rattle.bac_world.specs.Node.{Node, Outcome}
use Rattle.bac_world.specs.Once.{Fact, Has}
use Rattle.bac_world.specs.ReusingLogs.{Reuses}
use Rattle.bac_world.specs.ReusingWorlds.{ActsSo, AreLoggedSo, DeliversIfSo, WorldRunSo, WorldStepSo}
use Rattle.bac_world.specs.World.{AreEnded, Copy, Event, Note, World, ending_fact, is_away, is_deliverable}
use Rattle.bac_world.specs.World.Event.{Ask, AskAway, Deliver, Noise, Stray, Tick, Advance, Change, Restart, Begin, BeginAgain}
use Rattle.bac_world.proofs.Steps.{acts_as}

abbrev pub Stay : (old new : List Fact) → Type 0
Stay old new = (f : Fact) → Has f old → Has f new

pub stay_same : (old new : List Fact) → new ≡ old → Stay old new
stay_same old new same f has = subst (Has f) (sym same) has

stay_more : (g : Fact) (old new : List Fact) → new ≡ g ∷ old → Stay old new
stay_more g old new more f has = subst (Has f) (sym more) (inr has)

pub ended_stay : (notes : List Note) (i : ℕ) (fs : List EndedView) (old new : List Fact) → AreEnded notes i fs old new → Stay old new
ended_stay notes i [] old new ended f has = stay_same old new ended f has
ended_stay notes i (g ∷ fs) old new ended f has =
    ended_stay notes i fs (ending_fact (is_away ended.0 notes) ended.0 g.how ∷ old) new ended.2 f (inr has)

pub logged_stay : (reuse : Bool) (nodes : List Node) (notes : List Note) (i : ℕ) (b : Node) (p : Option service.Performed) (old new : List Fact)
    → AreLoggedSo reuse nodes notes i b p old new → Stay old new
logged_stay true nodes notes i b None old new h = stay_same old new h
logged_stay true nodes notes i b (Some p) old new (inl h) = stay_more _ old new h.log
logged_stay true nodes notes i b (Some p) old new (inr h) = stay_more _ old new h.log
logged_stay false nodes notes i b None old new h = stay_same old new h
logged_stay false nodes notes i b (Some p) old new (inl h) = stay_more _ old new h.log
logged_stay false nodes notes i b (Some p) old new (inr h) = stay_more _ old new h.log

pub acts_stay : (reuse : Bool) (w w' : World) (i : ℕ) (b : Node) (o : Outcome) → ActsSo reuse w i b o w' → Stay w.log w'.log
acts_stay reuse w w' i b o acts f has = logged_stay reuse w.nodes w.notes i b o.performed acts.between w'.log acts.logged f
    (ended_stay w.notes i o.ended w.log acts.between acts.ended f has)

same_world : (w w' : World) → w' ≡ w → Stay w.log w'.log
same_world w w' same f has = subst (λ (v : World). Has f v.log) (sym same) has

module _ (overtake : ℕ) (u : Reuses) where
  delivers_stay : (b : Bool) (w : World) (c : Copy) (w' : World) → DeliversIfSo b u w c w' → Stay w.log w'.log
  delivers_stay true w c w' d = acts_stay (u c.to) w w' c.to d.hears.after d.hears.outcome d.hears.acts
  delivers_stay false w c w' same = same_world w w' same

  pub step_stay : (w w' : World) (e : Event) → WorldStepSo overtake u w e w' → Stay w.log w'.log
  step_stay w w' (Ask c s limits r) (inl a) = stay_more _ w.log w'.log a.log
  step_stay w w' (Ask c s limits r) (inr a) = same_world w w' a.same
  step_stay w w' (AskAway c peer limits r) (inl a) = stay_more _ w.log w'.log a.log
  step_stay w w' (AskAway c peer limits r) (inr a) = same_world w w' a.same
  step_stay w w' (Deliver number) d =
      delivers_stay (is_deliverable overtake w.time.pace.life w.time.now number w.copies d.copy) w d.copy w' d.goes
  step_stay w w' (Noise node from octets) (inl d) = acts_stay (u node) w w' node d.hears.after d.hears.outcome d.hears.acts
  step_stay w w' (Noise node from octets) (inr d) = same_world w w' d.same
  step_stay w w' (Stray node from octets) (inl d) = acts_stay (u node) w w' node d.hears.after d.hears.outcome d.hears.acts
  step_stay w w' (Stray node from octets) (inr d) = same_world w w' d.same
  step_stay w w' (Tick node) d = acts_stay false w w' node d.after d.outcome (acts_as w w' node d.after d.outcome d.acts)
  step_stay w w' (Advance by own) is = λ f has. subst (λ (v : World). Has f v.log) (sym is) has
  step_stay w w' (Change node change) d = stay_more _ w.log w'.log d.log
  step_stay w w' (Restart node exact store) d = stay_more _ w.log w'.log d.log
  step_stay w w' (Begin node exact) d = λ f has. subst (λ (v : World). Has f v.log) (sym d.is) has
  step_stay w w' (BeginAgain node exact first_id store) d = stay_more _ w.log w'.log d.log

  pub run_stay : (events : List Event) (w w' : World) → WorldRunSo overtake u w events w' → Stay w.log w'.log
  run_stay [] w w' run = same_world w w' run
  run_stay (e ∷ es) w w' run = λ f has. run_stay es run.0 w' run.2 f (step_stay w run.0 e run.1 f has)
