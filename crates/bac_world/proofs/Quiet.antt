-- What holds of a log and stays true with asks, performed requests and endings holds after events that are no changes and no restarts.
use Rattle.std.proofs.Common.{ℕ, Bool, true, false, List, [], ◌∷◌, Option, Some, None, sym, subst, inl, inr}
use Rattle.bac_npdu.specs.Peers.{PeerView}
use Rattle.bac_service.specs.Values.{Request}
use Rattle.bac_service.specs.Replies.{Reply}
use Rattle.bac_transaction.specs.Meanings.{Ending, EndedView}
use Rattle.bac_world.specs.Node.{Node, Outcome}
use Rattle.bac_world.specs.Once.{Fact, HasRequestsAlone}
use Rattle.bac_world.specs.Once.Fact.{Asked, Performed, Ended, Served, AskedAway, EndedAway}
use Rattle.bac_world.specs.Services as service
use Rattle.bac_world.specs.World.{World, Event, Copy, Note, Acts, AreEnded, ending_fact, is_away, AreLogged, DeliversIf, WorldStep, WorldRun, MakeRequestsAlone, is_deliverable}
use Rattle.bac_world.specs.World.Event.{Ask, AskAway, Deliver, Noise, Stray, Tick, Advance, Change, Restart, Begin, BeginAgain}

-- what stays true so
pub record IsKept (P : List Fact → Type 0) : Type 0 where
  pub asked : (n c s : ℕ) (r : Request) (log : List Fact) → P log → P (Asked n c s r ∷ log)
  pub performed : (n : ℕ) (r : Request) (p : Reply) (log : List Fact) → P log → P (Performed n r p ∷ log)
  pub ended : (n : ℕ) (how : Ending) (log : List Fact) → P log → P (Ended n how ∷ log)
  pub served : (q : PeerView) (i d b : ℕ) (r : Request) (p : Reply) (log : List Fact) → P log → P (Served q i d b r p ∷ log)
  pub asked_away : (n c : ℕ) (q : PeerView) (r : Request) (log : List Fact) → P log → P (AskedAway n c q r ∷ log)
  pub ended_away : (n : ℕ) (how : Ending) (log : List Fact) → P log → P (EndedAway n how ∷ log)

module _ (P : List Fact → Type 0) (kept : IsKept P) where
  after_ending : (away : Bool) (n : ℕ) (how : Ending) (log : List Fact) → P log → P (ending_fact away n how ∷ log)
  after_ending true n how log p = kept.ended_away n how log p
  after_ending false n how log p = kept.ended n how log p

  after_endings : (notes : List Note) (node : ℕ) (fs : List EndedView) (old new : List Fact) → AreEnded notes node fs old new → P old → P new
  after_endings notes node [] old new h p = subst P (sym h) p
  after_endings notes node (f ∷ fs) old new h p = after_endings notes node fs (ending_fact (is_away h.0 notes) h.0 f.how ∷ old) new h.2
      (after_ending (is_away h.0 notes) h.0 f.how old p)

  after_performed : (nodes : List Node) (notes : List Note) (node : ℕ) (after : Node) (o : Option service.Performed) (old new : List Fact)
      → AreLogged nodes notes node after o old new → P old → P new
  after_performed nodes notes node after None old new h p = subst P (sym h) p
  after_performed nodes notes node after (Some q) old new (inl h) p = subst P (sym h.log) (kept.performed h.number q.request q.reply old p)
  after_performed nodes notes node after (Some q) old new (inr h) p =
      subst P (sym h.log) (kept.served q.key.peer node q.key.invoke_id h.entry.begin q.request q.reply old p)

  after_acts : (w w' : World) (i : ℕ) (b : Node) (o : Outcome) → Acts w i b o w' → P w.log → P w'.log
  after_acts w w' i b o acts p = after_performed w.nodes w.notes i b o.performed acts.between w'.log acts.logged
      (after_endings w.notes i o.ended w.log acts.between acts.ended p)

  after_delivery : (b : Bool) (w : World) (c : Copy) (w' : World) → DeliversIf b w c w' → P w.log → P w'.log
  after_delivery true w c w' d p = after_acts w w' c.to d.hears.after d.hears.outcome d.hears.acts p
  after_delivery false w c w' same p = subst (λ (u : World). P u.log) (sym same) p

  pub after_step : (overtake : ℕ) (w w' : World) (e : Event) → MakeRequestsAlone (e ∷ []) → WorldStep overtake w e w' → P w.log → P w'.log
  after_step overtake w w' (Ask client server limits r) alone (inl s) p = subst P (sym s.log) (kept.asked _ client server r w.log p)
  after_step overtake w w' (Ask client server limits r) alone (inr s) p = subst (λ (u : World). P u.log) (sym s.same) p
  after_step overtake w w' (AskAway client peer limits r) alone (inl s) p = subst P (sym s.log) (kept.asked_away _ client peer r w.log p)
  after_step overtake w w' (AskAway client peer limits r) alone (inr s) p = subst (λ (u : World). P u.log) (sym s.same) p
  after_step overtake w w' (Deliver number) alone s p =
      after_delivery (is_deliverable overtake w.time.pace.life w.time.now number w.copies s.copy) w s.copy w' s.goes p
  after_step overtake w w' (Noise node from octets) alone (inl s) p = after_acts w w' node s.hears.after s.hears.outcome s.hears.acts p
  after_step overtake w w' (Noise node from octets) alone (inr s) p = subst (λ (u : World). P u.log) (sym s.same) p
  after_step overtake w w' (Stray node from octets) alone (inl s) p = after_acts w w' node s.hears.after s.hears.outcome s.hears.acts p
  after_step overtake w w' (Stray node from octets) alone (inr s) p = subst (λ (u : World). P u.log) (sym s.same) p
  after_step overtake w w' (Tick node) alone s p = after_acts w w' node s.after s.outcome s.acts p
  after_step overtake w w' (Advance by own) alone s p = subst (λ (u : World). P u.log) (sym s) p
  after_step overtake w w' (Change node c) alone s p = absurd alone
  after_step overtake w w' (Restart node exact store) alone s p = absurd alone
  after_step overtake w w' (Begin node exact) alone s p = subst (λ (u : World). P u.log) (sym s.is) p
  after_step overtake w w' (BeginAgain node exact first_id store) alone s p = absurd alone

-- The log of a run without changes and restarts.

pub alone_after_step : (overtake : ℕ) (w w' : World) (e : Event) → MakeRequestsAlone (e ∷ []) → WorldStep overtake w e w' → HasRequestsAlone w.log
    → HasRequestsAlone w'.log
alone_after_step = after_step HasRequestsAlone (record {
  asked = λ n c s r log p. p;
  performed = λ n r q log p. p;
  ended = λ n how log p. p;
  served = λ q i d b r y log p. p;
  asked_away = λ n c q r log p. p;
  ended_away = λ n how log p. p;
})

first_alone : (e : Event) (es : List Event) → MakeRequestsAlone (e ∷ es) → MakeRequestsAlone (e ∷ []) × MakeRequestsAlone es
first_alone (Ask client server limits r) es alone = (tt, alone)
first_alone (AskAway client peer limits r) es alone = (tt, alone)
first_alone (Deliver number) es alone = (tt, alone)
first_alone (Noise node from octets) es alone = (tt, alone)
first_alone (Stray node from octets) es alone = (tt, alone)
first_alone (Tick node) es alone = (tt, alone)
first_alone (Advance by own) es alone = (tt, alone)
first_alone (Change node c) es alone = absurd alone
first_alone (Restart node exact store) es alone = absurd alone
first_alone (Begin node exact) es alone = (tt, alone)
first_alone (BeginAgain node exact first_id store) es alone = absurd alone

pub alone_after_run : (overtake : ℕ) (events : List Event) (w w' : World) → MakeRequestsAlone events → WorldRun overtake w events w'
    → HasRequestsAlone w.log → HasRequestsAlone w'.log
alone_after_run overtake [] w w' alone run p = subst (λ (u : World). HasRequestsAlone u.log) (sym run) p
alone_after_run overtake (e ∷ es) w w' alone run p =
    let parts = first_alone e es alone in
    alone_after_run overtake es run.0 w' parts.1 run.2 (alone_after_step overtake w run.0 e parts.0 run.1 p)
