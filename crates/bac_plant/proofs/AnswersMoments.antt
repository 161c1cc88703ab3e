-- The moment of a run at which a request is performed.
use Rattle.std.proofs.Common.{◌≡◌, ℕ, ◌⊎◌, Bool, true, false, List, [], ◌∷◌, ◌++◌, Option, Some, None, slice_get, refl, sym, ap, subst, inl, inr, ◌∙◌}
use Rattle.std.proofs.lemmas.List.{append-nil}
use Rattle.std.specs.Option.{option_map}
use Rattle.bac_protocol.specs.Pace.{IsTimely}
use Rattle.bac_service.specs.Replies.{Reply}
use Rattle.bac_service.specs.Values.{Request}
use Rattle.bac_store.specs.Replies.{reply_to}
use Rattle.bac_store.specs.Stores.{Store}
use Rattle.bac_transaction.specs.Meanings.{EndedView, Ending}
use Rattle.bac_transaction.specs.Meanings.Ending.{Answered}
use Rattle.bac_world.specs.Claims.{stores_by}
use Rattle.bac_world.specs.LongApdus.{AllAskLong, RepliesFit, TakeLongApdus}
use Rattle.bac_world.specs.Node.{Node, Outcome}
use Rattle.bac_world.specs.Once.{Fact, Has, IsUnended, Stores}
use Rattle.bac_world.specs.Once.Fact.{Asked, AskedAway, Changed, Ended, EndedAway, Performed, Restarted, Served}
use Rattle.bac_world.specs.ReusingLogs.{IsOnceSo, Reuses}
use Rattle.bac_world.specs.ReusingWorlds.{ActsSo, AreLoggedSo, DeliversIfSo, IsServedSo, WorldRunSo, WorldStepSo}
use Rattle.bac_world.specs.Services as service
use Rattle.bac_world.specs.World.{AreEnded, Copy, Event, IsBounded, IsFresh, IsLogged, IsServedTo, Note, World, ending_fact, is_away, is_deliverable, stores_of}
use Rattle.bac_world.specs.World.Event.{Advance, Ask, AskAway, Begin, BeginAgain, Change, Deliver, Noise, Restart, Stray, Tick}
use Rattle.bac_world.proofs.Headline.{headline_long_so, headline_so}
use Rattle.bac_world.proofs.ReplyLengths.{run_fits}
use Rattle.bac_world.proofs.Steps.{acts_as}
use Rattle.bac_plant.specs.Answers.{WasReply}
use Rattle.bac_plant.specs.Moments.{AnswersAreOfMoments, WasReplyAtMoment}
use Rattle.bac_plant.proofs.Answers.{has_more, in_logs, place_of, right_at, whole_ask}
use Rattle.bac_world.proofs.Claims.{replayed_so}
use Rattle.bac_plant.proofs.AnswersLogs.{same_ask}

-- What endings leave as it was.

ending_is_no_performance : (away : Bool) (m : ℕ) (how : Ending) (n : ℕ) (r : Request) (p : Reply) → ending_fact away m how ≡ Performed n r p → ⊥
ending_is_no_performance true m how n r p e = absurd cc
ending_is_no_performance false m how n r p e = absurd cc

ending_is_no_ask : (away : Bool) (m : ℕ) (how : Ending) (n c s : ℕ) (r : Request) → ending_fact away m how ≡ Asked n c s r → ⊥
ending_is_no_ask true m how n c s r e = absurd cc
ending_is_no_ask false m how n c s r e = absurd cc

ending_keeps_stores : (away : Bool) (m : ℕ) (how : Ending) (opening : Stores) (log : List Fact) (node : ℕ)
    → stores_by opening (ending_fact away m how ∷ log) node ≡ stores_by opening log node
ending_keeps_stores true m how opening log node = refl
ending_keeps_stores false m how opening log node = refl

unended_before_one : (n : ℕ) (f : Fact) (log : List Fact) → IsUnended n (f ∷ log) → IsUnended n log
unended_before_one n (Asked m c s r) log h = h
unended_before_one n (Performed m r p) log h = h
unended_before_one n (Ended m how) log h = h.1
unended_before_one n (Changed i c) log h = h
unended_before_one n (Restarted i o) log h = h
unended_before_one n (Served q i d b r p) log h = h
unended_before_one n (AskedAway m c q r) log h = h
unended_before_one n (EndedAway m how) log h = h

unended_before : (n : ℕ) (newer log : List Fact) → IsUnended n (newer ++ log) → IsUnended n log
unended_before n [] log h = h
unended_before n (f ∷ newer) log h = unended_before n newer log (unended_before_one n f (newer ++ log) h)

module _ (notes : List Note) (i : ℕ) where
  abbrev fact_of : ℕ → EndedView → Fact
  fact_of m f = ending_fact (is_away m notes) m f.how

  unended_there : (n : ℕ) (fs : List EndedView) (old new : List Fact) → AreEnded notes i fs old new → IsUnended n new → IsUnended n old
  unended_there n [] old new h un = subst (λ (l : List Fact). IsUnended n l) h un
  unended_there n (f ∷ fs) old new h un = unended_before_one n (fact_of h.0 f) old (unended_there n fs (fact_of h.0 f ∷ old) new h.2 un)

  asked_there : (n c s : ℕ) (r : Request) (fs : List EndedView) (old new : List Fact) → AreEnded notes i fs old new → Has (Asked n c s r) new
      → Has (Asked n c s r) old
  asked_there n c s r [] old new h has = subst (λ (l : List Fact). Has (Asked n c s r) l) h has
  asked_there n c s r (f ∷ fs) old new h has = go (asked_there n c s r fs (fact_of h.0 f ∷ old) new h.2 has)
    where
      go : Has (Asked n c s r) (fact_of h.0 f ∷ old) → Has (Asked n c s r) old
      go (inl is) = absurd (ending_is_no_ask (is_away h.0 notes) h.0 f.how n c s r is)
      go (inr before) = before

  stores_there : (opening : Stores) (node : ℕ) (fs : List EndedView) (old new : List Fact) → AreEnded notes i fs old new
      → stores_by opening new node ≡ stores_by opening old node
  stores_there opening node [] old new h = ap (λ (l : List Fact). stores_by opening l node) h
  stores_there opening node (f ∷ fs) old new h =
      stores_there opening node fs (fact_of h.0 f ∷ old) new h.2 ∙ ending_keeps_stores (is_away h.0 notes) h.0 f.how opening old node

-- Where a request entered the log, after these facts.

first_is : (f g : Fact) (fs gs : List Fact) → f ∷ fs ≡ g ∷ gs → f ≡ g
first_is f g fs gs e = cc

rest_is : (f g : Fact) (fs gs : List Fact) → f ∷ fs ≡ g ∷ gs → fs ≡ gs
rest_is f g fs gs e = cc

module _ (n : ℕ) (r : Request) (p : Reply) (before : List Fact) where
  -- it stands in the log, with those facts before it
  abbrev StandsIn : List Fact → Type 0
  StandsIn [] = ⊥
  StandsIn (f ∷ log) = (f ∷ log ≡ Performed n r p ∷ before) ⊎ StandsIn log

  stands_after : (newer log : List Fact) → StandsIn log → StandsIn (newer ++ log)
  stands_after [] log h = h
  stands_after (f ∷ newer) log h = inr (stands_after newer log h)

  stands_before : (f : Fact) (log : List Fact) → (f ≡ Performed n r p → ⊥) → StandsIn (f ∷ log) → StandsIn log
  stands_before f log other (inl is) = absurd (other (first_is f (Performed n r p) log before is))
  stands_before f log other (inr h) = h

  stands_before_endings : (notes : List Note) (i : ℕ) (fs : List EndedView) (old new : List Fact) → AreEnded notes i fs old new → StandsIn new → StandsIn old
  stands_before_endings notes i [] old new h there = subst (λ (l : List Fact). StandsIn l) h there
  stands_before_endings notes i (f ∷ fs) old new h there =
      stands_before (fact_of notes i h.0 f) old (λ is. ending_is_no_performance (is_away h.0 notes) h.0 f.how n r p is)
      (stands_before_endings notes i fs (fact_of notes i h.0 f ∷ old) new h.2 there)

  -- it enters at the next event, after endings alone
  record EntersAfter (v : World) : Type 0 where
    notes : List Note
    node : ℕ
    ends : List EndedView
    ended : AreEnded notes node ends v.log before

  -- it stood in the log, or enters next
  abbrev StoodOrEnters : World → Type 0
  StoodOrEnters v = StandsIn v.log ⊎ EntersAfter v

  module _ (v : World) where
    by_fact : (f : Fact) (new : List Fact) → (f ≡ Performed n r p → ⊥) → new ≡ f ∷ v.log → StandsIn new → StoodOrEnters v
    by_fact f new other is there = inl (stands_before f v.log other (subst (λ (l : List Fact). StandsIn l) is there))

    module _ (notes : List Note) (i : ℕ) (ends : List EndedView) (between : List Fact) (ended : AreEnded notes i ends v.log between) where
      by_endings : (new : List Fact) → new ≡ between → StandsIn new → StoodOrEnters v
      by_endings new is there = inl (stands_before_endings notes i ends v.log between ended (subst (λ (l : List Fact). StandsIn l) is there))

      by_performed : (m : ℕ) (q : Request) (a : Reply) → StandsIn (Performed m q a ∷ between) → StoodOrEnters v
      by_performed m q a (inl is) = inr (record {
        notes = notes;
        node = i;
        ends = ends;
        ended = subst (λ (l : List Fact). AreEnded notes i ends v.log l) (rest_is (Performed m q a) (Performed n r p) between before is) ended;
      })
      by_performed m q a (inr there) = by_endings between refl there

      by_served : (f : Fact) → (f ≡ Performed n r p → ⊥) → StandsIn (f ∷ between) → StoodOrEnters v
      by_served f other there = by_endings between refl (stands_before f between other there)

      by_logged : (reuse : Bool) (nodes : List Node) (b : Node) (o : Option service.Performed) (new : List Fact) → AreLoggedSo reuse nodes notes i b o between new
          → StandsIn new → StoodOrEnters v
      by_logged true nodes b None new is there = by_endings new is there
      by_logged false nodes b None new is there = by_endings new is there
      by_logged true nodes b (Some d) new is there = go is
        where
          go : IsLogged nodes notes i d between new ⊎ IsServedSo nodes i d between new → StoodOrEnters v
          go (inl k) = by_performed k.number d.request d.reply (subst (λ (l : List Fact). StandsIn l) k.log there)
          go (inr k) = by_served (Served d.key.peer i d.key.invoke_id k.begin d.request d.reply) (λ e. absurd cc) (subst (λ (l : List Fact). StandsIn l) k.log there)
      by_logged false nodes b (Some d) new is there = go is
        where
          go : IsLogged nodes notes i d between new ⊎ IsServedTo nodes i b d between new → StoodOrEnters v
          go (inl k) = by_performed k.number d.request d.reply (subst (λ (l : List Fact). StandsIn l) k.log there)
          go (inr k) =
              by_served (Served d.key.peer i d.key.invoke_id k.entry.begin d.request d.reply) (λ e. absurd cc) (subst (λ (l : List Fact). StandsIn l) k.log there)

    by_acts : (reuse : Bool) (i : ℕ) (b : Node) (o : Outcome) (w : World) → ActsSo reuse v i b o w → StandsIn w.log → StoodOrEnters v
    by_acts reuse i b o w acts there = by_logged v.notes i o.ended acts.between acts.ended reuse v.nodes b o.performed w.log acts.logged there

    same_world : (w : World) → w ≡ v → StandsIn w.log → StoodOrEnters v
    same_world w is there = inl (subst (λ (y : World). StandsIn y.log) is there)

    by_delivery : (due : Bool) (u : Reuses) (c : Copy) (w : World) → DeliversIfSo due u v c w → StandsIn w.log → StoodOrEnters v
    by_delivery true u c w s there = by_acts (u c.to) c.to s.hears.after s.hears.outcome w s.hears.acts there
    by_delivery false u c w s there = same_world w s there

    by_step : (overtake : ℕ) (u : Reuses) (e : Event) (w : World) → WorldStepSo overtake u v e w → StandsIn w.log → StoodOrEnters v
    by_step overtake u (Ask client server limits q) w (inl s) there = by_fact _ w.log (λ e. absurd cc) s.log there
    by_step overtake u (Ask client server limits q) w (inr s) there = same_world w s.same there
    by_step overtake u (AskAway client peer limits q) w (inl s) there = by_fact _ w.log (λ e. absurd cc) s.log there
    by_step overtake u (AskAway client peer limits q) w (inr s) there = same_world w s.same there
    by_step overtake u (Deliver number) w s there =
        by_delivery (is_deliverable overtake v.time.pace.life v.time.now number v.copies s.copy) u s.copy w s.goes there
    by_step overtake u (Noise i from octets) w (inl s) there = by_acts (u i) i s.hears.after s.hears.outcome w s.hears.acts there
    by_step overtake u (Noise i from octets) w (inr s) there = same_world w s.same there
    by_step overtake u (Stray i from octets) w (inl s) there = by_acts (u i) i s.hears.after s.hears.outcome w s.hears.acts there
    by_step overtake u (Stray i from octets) w (inr s) there = same_world w s.same there
    by_step overtake u (Tick i) w s there = by_acts false i s.after s.outcome w (acts_as v w i s.after s.outcome s.acts) there
    by_step overtake u (Advance by own) w s there = inl (subst (λ (l : List Fact). StandsIn l) (ap (λ (y : World). y.log) s) there)
    by_step overtake u (Change i c) w s there = by_fact (Changed i c) w.log (λ e. absurd cc) s.log there
    by_step overtake u (Restart i exact store) w s there = by_fact (Restarted i store) w.log (λ e. absurd cc) s.log there
    by_step overtake u (Begin i exact) w s there = inl (subst (λ (y : World). StandsIn y.log) s.is there)
    by_step overtake u (BeginAgain i exact first_id store) w s there = by_fact (Restarted i store) w.log (λ e. absurd cc) s.log there

  -- so it was there at the beginning of a run, or entered at a moment of it
  record EntersIn (overtake : ℕ) (u : Reuses) (first : World) (events : List Event) (last : World) : Type 0 where
    earlier : List Event
    later : List Event
    are : events ≡ earlier ++ later
    moment : World
    led : WorldRunSo overtake u first earlier moment
    leads : WorldRunSo overtake u moment later last
    enters : EntersAfter moment

  by_run : (overtake : ℕ) (u : Reuses) (events : List Event) (v last : World) → WorldRunSo overtake u v events last → StandsIn last.log
      → StandsIn v.log ⊎ EntersIn overtake u v events last
  by_run overtake u [] v last run there = inl (subst (λ (y : World). StandsIn y.log) run there)
  by_run overtake u (e ∷ es) v last run there = rest (by_run overtake u es run.0 last run.2 there)
    where
      first : StandsIn v.log ⊎ EntersAfter v → StandsIn v.log ⊎ EntersIn overtake u v (e ∷ es) last
      first (inl h) = inl h
      first (inr k) = inr (record { earlier = []; later = e ∷ es; are = refl; moment = v; led = refl; leads = run; enters = k })

      rest : StandsIn run.0.log ⊎ EntersIn overtake u run.0 es last → StandsIn v.log ⊎ EntersIn overtake u v (e ∷ es) last
      rest (inl h) = first (by_step v overtake u e run.0 run.1 h)
      rest (inr k) = inr (record {
        earlier = e ∷ k.earlier;
        later = k.later;
        are = ap (λ (l : List Event). e ∷ l) k.are;
        moment = k.moment;
        led = (run.0, run.1, k.led);
        leads = k.leads;
        enters = k.enters;
      })

-- The answer.

node_of : (o : Option Node) (s : Store) → option_map (λ (a : Node). a.store) o ≡ Some s → (a : Node) × (o ≡ Some a) × (s ≡ a.store)
node_of None s e = absurd cc
node_of (Some a) s e = (a, refl, cc)

module _ (overtake : ℕ) (u : Reuses) (w w' : World) (fresh : IsFresh w) (events : List Event) (run : WorldRunSo overtake u w events w')
    (right : (es later : List Event) (v : World) → events ≡ es ++ later → WorldRunSo overtake u w es v → WorldRunSo overtake u v later w'
    → IsOnceSo u (stores_of w.nodes) v.log (stores_of v.nodes)) where
  abbrev opening : Stores
  opening = stores_of w.nodes

  once_at_end : IsOnceSo u opening w'.log (stores_of w'.nodes)
  once_at_end = right events [] w' (sym (append-nil events)) run refl

  module _ (n : ℕ) (p : Reply) (newer older : List Fact) (is : w'.log ≡ newer ++ Ended n (Answered p) ∷ older) where
    given : WasReply opening n p older
    given = in_logs u opening w'.log (stores_of w'.nodes) once_at_end newer older n p is

    -- the ask, before all of it
    asked : Has (Asked n given.client given.server given.request) w'.log
    asked = subst (λ (l : List Fact). Has (Asked n given.client given.server given.request) l) (sym is)
        (has_more (Asked n given.client given.server given.request) newer (Ended n (Answered p) ∷ older)
        (inr (subst (λ (l : List Fact). Has (Asked n given.client given.server given.request) l) (sym given.is)
        (has_more (Asked n given.client given.server given.request) given.later (Performed n given.request p ∷ given.earlier) (inr given.asked)))))

    abbrev Entered : Type 0
    Entered = EntersIn n given.request p given.earlier overtake u w events w'

    entered : Entered
    entered = go (by_run n given.request p given.earlier overtake u events w w' run there)
      where
        in_older : StandsIn n given.request p given.earlier older
        in_older = subst (λ (l : List Fact). StandsIn n given.request p given.earlier l) (sym given.is)
            (stands_after n given.request p given.earlier given.later (Performed n given.request p ∷ given.earlier) (inl refl))

        there : StandsIn n given.request p given.earlier w'.log
        there = subst (λ (l : List Fact). StandsIn n given.request p given.earlier l) (sym is)
            (stands_after n given.request p given.earlier newer (Ended n (Answered p) ∷ older) (inr in_older))

        go : StandsIn n given.request p given.earlier w.log ⊎ Entered → Entered
        go (inl h) = absurd (subst (λ (l : List Fact). StandsIn n given.request p given.earlier l) fresh.log h)
        go (inr k) = k

    abbrev before : EntersAfter n given.request p given.earlier entered.moment
    before = entered.enters

    unended : IsUnended n entered.moment.log
    unended = unended_there before.notes before.node n before.ends entered.moment.log given.earlier before.ended
        (unended_before_one n (Performed n given.request p) given.earlier
        (unended_before n given.later (Performed n given.request p ∷ given.earlier) (subst (λ (l : List Fact). IsUnended n l) given.is
        (right_at u opening w'.log newer older (Ended n (Answered p)) (stores_of w'.nodes) is once_at_end).1.1.1)))

    node_there : (a : Node) × (slice_get entered.moment.nodes given.server ≡ Some a) × (given.store ≡ a.store)
    node_there = node_of (slice_get entered.moment.nodes given.server) given.store
        (replayed_so u opening entered.moment.log (stores_of entered.moment.nodes)
        (right entered.earlier entered.later entered.moment entered.are entered.led entered.leads) given.server
        ∙ sym (stores_there before.notes before.node opening given.server before.ends entered.moment.log given.earlier before.ended)
        ∙ given.at)

    at_moment : WasReplyAtMoment overtake u w events w' n p
    at_moment = record {
      earlier = entered.earlier;
      later = entered.later;
      are = entered.are;
      moment = entered.moment;
      led = entered.led;
      leads = entered.leads;
      client = given.client;
      server = given.server;
      request = given.request;
      asked = asked_there before.notes before.node n given.client given.server given.request before.ends entered.moment.log given.earlier before.ended given.asked;
      only = λ c s q other. whole_ask n c s given.client given.server q given.request
          (same_ask u opening n c s given.client given.server q given.request w'.log (stores_of w'.nodes) once_at_end other asked);
      unended = unended;
      node = node_there.0;
      at = node_there.1;
      reply = given.reply ∙ ap (λ (s : Store). reply_to s given.request) node_there.2;
    }

  moments : AnswersAreOfMoments overtake u w events w'
  moments n p has = let k = place_of (Ended n (Answered p)) w'.log has in at_moment n p k.0 k.1 k.2

pub moments_in_runs : (W overtake : ℕ) (u : Reuses) (w w' : World) → IsFresh w → IsTimely w.time.pace → IsBounded W overtake w → (events : List Event)
    → WorldRunSo overtake u w events w' → AnswersAreOfMoments overtake u w events w'
moments_in_runs W overtake u w w' fresh timely bounded events run =
    moments overtake u w w' fresh events run (λ es later v are led leads. headline_so u W overtake w v fresh timely bounded es led)

-- The same where all nodes take APDUs of 480 octets or more.

first_long : (es later : List Event) → AllAskLong (es ++ later) → AllAskLong es
first_long [] later asks = tt
first_long (e ∷ es) later asks = (asks.0, first_long es later asks.1)

pub moments_in_long_runs : (W overtake : ℕ) (u : Reuses) (w w' : World) → IsFresh w → IsTimely w.time.pace → TakeLongApdus W w → (events : List Event)
    → AllAskLong events → WorldRunSo overtake u w events w' → RepliesFit w'.log → AnswersAreOfMoments overtake u w events w'
moments_in_long_runs W overtake u w w' fresh timely long events asks run fits =
    moments overtake u w w' fresh events run (λ es later v are led leads. headline_long_so u W overtake w v fresh timely long es
    (first_long es later (subst AllAskLong are asks)) led (run_fits overtake u later v w' leads fits))
