-- No reply in the log of a run is longer than can be sent, since none of a store is.
use Rattle.std.proofs.Common.{◌≡◌, ℕ, ◌≤◌, ◌⊎◌, Bool, true, false, List, [], ◌∷◌, ◌++◌, Option, Some, None, refl, sym, ap, subst, inl, inr}
use Rattle.bac_apdu.specs.Apdu.{Apdu}
use Rattle.bac_npdu.specs.Peers.{PeerView}
use Rattle.bac_service.specs.Replies.{Reply}
use Rattle.bac_store.specs.ReplyLengths.{DATA_LIMIT, reply_length}
use Rattle.bac_store.specs.Stores.{Store}
use Rattle.bac_protocol.specs.Service.{Octets}
use Rattle.bac_protocol.specs.Wire.{is_from_client}
use Rattle.bac_transaction.specs.Ends.{Act, key_of}
use Rattle.bac_transaction.specs.Meanings.{EndedView, Ending}
use Rattle.bac_transaction.specs.Services.{service_of}
use Rattle.bac_world.specs.LongApdus.{RepliesFit}
use Rattle.bac_world.specs.Node.{IsDropped, Node, Outcome}
use Rattle.bac_world.specs.Once.{Fact}
use Rattle.bac_world.specs.Once.Fact.{Performed, Served}
use Rattle.bac_world.specs.ReusingLogs.{Reuses}
use Rattle.bac_world.specs.ReusingNodes.{NodeHears}
use Rattle.bac_world.specs.ReusingWorlds.{ActsSo, AreLoggedSo, DeliversIfSo, HearsSo, WorldRunSo, WorldStepSo}
use Rattle.bac_world.specs.Services as service
use Rattle.bac_world.specs.Services.{ArePerformed}
use Rattle.bac_world.specs.World.{AreEnded, Copy, Event, Note, World, ending_fact, is_away, is_deliverable, told}
use Rattle.bac_world.specs.World.Event.{Advance, Ask, AskAway, Begin, BeginAgain, Change, Deliver, Noise, Restart, Stray, Tick}
use Rattle.bac_world.proofs.Heard.{IsHeardIn, IsHeardInBy, heard_in}
use Rattle.bac_world.proofs.ReplyLengths.{PerformedFits}
use Rattle.bac_world.proofs.Settings.{hears_at}
use Rattle.bac_world.proofs.Steps.{acts_as}
use Rattle.bac_plant.specs.Events.{events_in, heard_events, ticked_events}
use Rattle.bac_plant.specs.LongApdus.{AllCanReply, CanReply, CanReplyThroughout}
use Rattle.bac_plant.specs.Network as network
use Rattle.bac_plant.specs.Plants.{Plant, settings_of, world_of}
use Rattle.bac_plant.specs.Steps.{PlantRun, Step}
use Rattle.bac_plant.specs.Steps.Step.{Begins, BeginsAway, Changes, FailsToReceive, Holds, Passes, Restarts, SendsHeld, Starts, StartsAgain, Takes}
use Rattle.bac_plant.proofs.Runs.{step_events}

-- What is performed.

done_fits : (s : Store) (a : Option Act) (d : Option service.Performed) → CanReply s → ArePerformed s a d → PerformedFits d
done_fits s None None can done = tt
done_fits s None (Some d) can done = absurd done
done_fits s (Some a) None can done = absurd done
done_fits s (Some a) (Some d) can done = subst (λ (p : Reply). reply_length p ≤ DATA_LIMIT) (sym done.what.reply) (can d.request)

module _ (reuse : Bool) (now : ℕ) (a b : Node) (o : Outcome) (can : CanReply a.store) where
  turn_fits : (up : Bool) (peer : PeerView) (p : Apdu) → IsHeardInBy reuse up peer p now a b o → PerformedFits o.performed
  turn_fits true peer p h =
      done_fits a.store (hears_at h.0 reuse a.settings now (service_of a.store) (key_of peer p) p a.servers).act o.performed can h.1.performed
  turn_fits false peer p h = subst PerformedFits (sym h.performed) tt

  heard_fits : (link octets : Octets) → NodeHears reuse now link octets a b o → PerformedFits o.performed
  heard_fits link octets on = go (heard_in now link octets a b o reuse on)
    where
      go : IsDropped now link octets a b o ⊎ IsHeardIn reuse now link octets a b o → PerformedFits o.performed
      go (inl d) = subst PerformedFits (sym (ap (λ (y : Outcome). y.performed) d.outcome)) tt
      go (inr d) = turn_fits (is_from_client d.apdu) d.peer d.apdu d.heard

-- The log.

abbrev Keeps : (old new : List Fact) → Type 0
Keeps old new = RepliesFit old → RepliesFit new

after_ending : (away : Bool) (n : ℕ) (how : Ending) (log : List Fact) → Keeps log (ending_fact away n how ∷ log)
after_ending true n how log fits = fits
after_ending false n how log fits = fits

after_endings : (notes : List Note) (node : ℕ) (fs : List EndedView) (old new : List Fact) → AreEnded notes node fs old new → Keeps old new
after_endings notes node [] old new h fits = subst RepliesFit (sym h) fits
after_endings notes node (f ∷ fs) old new h fits =
    after_endings notes node fs (ending_fact (is_away h.0 notes) h.0 f.how ∷ old) new h.2 (after_ending (is_away h.0 notes) h.0 f.how old fits)

with_performed : (n : ℕ) (p : service.Performed) (old new : List Fact) → new ≡ Performed n p.request p.reply ∷ old → PerformedFits (Some p) → Keeps old new
with_performed n p old new is done fits = subst RepliesFit (sym is) (done, fits)

with_served : (node begin : ℕ) (p : service.Performed) (old new : List Fact) → new ≡ Served p.key.peer node p.key.invoke_id begin p.request p.reply ∷ old
    → PerformedFits (Some p) → Keeps old new
with_served node begin p old new is done fits = subst RepliesFit (sym is) (done, fits)

logged_keeps : (reuse : Bool) (nodes : List Node) (notes : List Note) (node : ℕ) (b : Node) (o : Option service.Performed) (old new : List Fact)
    → AreLoggedSo reuse nodes notes node b o old new → PerformedFits o → Keeps old new
logged_keeps false nodes notes node b None old new h done fits = subst RepliesFit (sym h) fits
logged_keeps false nodes notes node b (Some p) old new (inl h) done fits = with_performed h.number p old new h.log done fits
logged_keeps false nodes notes node b (Some p) old new (inr h) done fits = with_served node h.entry.begin p old new h.log done fits
logged_keeps true nodes notes node b None old new h done fits = subst RepliesFit (sym h) fits
logged_keeps true nodes notes node b (Some p) old new (inl h) done fits = with_performed h.number p old new h.log done fits
logged_keeps true nodes notes node b (Some p) old new (inr h) done fits = with_served node h.begin p old new h.log done fits

acts_keep : (reuse : Bool) (w w' : World) (i : ℕ) (b : Node) (o : Outcome) → ActsSo reuse w i b o w' → PerformedFits o.performed → Keeps w.log w'.log
acts_keep reuse w w' i b o acts done fits =
    logged_keeps reuse w.nodes w.notes i b o.performed acts.between w'.log acts.logged done (after_endings w.notes i o.ended w.log acts.between acts.ended fits)

same_keeps : (w w' : World) → w' ≡ w → Keeps w.log w'.log
same_keeps w w' is fits = subst (λ (u : World). RepliesFit u.log) (sym is) fits

hears_keep : (reuse : Bool) (w w' : World) (i : ℕ) (link octets : Octets) → AllCanReply w → HearsSo reuse w i link octets w' → Keeps w.log w'.log
hears_keep reuse w w' i link octets can h fits =
    acts_keep reuse w w' i h.after h.outcome h.acts (heard_fits reuse (told w i) h.before h.after h.outcome (can i h.before h.at) link octets h.on) fits

delivery_keeps : (b : Bool) (u : Reuses) (w : World) (c : Copy) (w' : World) → AllCanReply w → DeliversIfSo b u w c w' → Keeps w.log w'.log
delivery_keeps true u w c w' can d fits = hears_keep (u c.to) w w' c.to d.link c.octets can d.hears fits
delivery_keeps false u w c w' can same fits = same_keeps w w' same fits

-- Events.

-- a tick performs nothing
tick_keeps : (overtake : ℕ) (u : Reuses) (w w' : World) (i : ℕ) → WorldStepSo overtake u w (Tick i) w' → Keeps w.log w'.log
tick_keeps overtake u w w' i s fits =
    acts_keep false w w' i s.after s.outcome (acts_as w w' i s.after s.outcome s.acts) (subst PerformedFits (sym s.tick.performed) tt) fits

event_keeps : (overtake : ℕ) (u : Reuses) (w w' : World) (e : Event) → AllCanReply w → WorldStepSo overtake u w e w' → Keeps w.log w'.log
event_keeps overtake u w w' (Ask client server limits r) can (inl s) fits = subst RepliesFit (sym s.log) fits
event_keeps overtake u w w' (Ask client server limits r) can (inr s) fits = same_keeps w w' s.same fits
event_keeps overtake u w w' (AskAway client peer limits r) can (inl s) fits = subst RepliesFit (sym s.log) fits
event_keeps overtake u w w' (AskAway client peer limits r) can (inr s) fits = same_keeps w w' s.same fits
event_keeps overtake u w w' (Deliver number) can s fits =
    delivery_keeps (is_deliverable overtake w.time.pace.life w.time.now number w.copies s.copy) u w s.copy w' can s.goes fits
event_keeps overtake u w w' (Noise i link octets) can (inl s) fits = hears_keep (u i) w w' i link octets can s.hears fits
event_keeps overtake u w w' (Noise i link octets) can (inr s) fits = same_keeps w w' s.same fits
event_keeps overtake u w w' (Stray i link octets) can (inl s) fits = hears_keep (u i) w w' i link octets can s.hears fits
event_keeps overtake u w w' (Stray i link octets) can (inr s) fits = same_keeps w w' s.same fits
event_keeps overtake u w w' (Tick i) can s fits = tick_keeps overtake u w w' i s fits
event_keeps overtake u w w' (Advance by own) can s fits = subst RepliesFit (sym (ap (λ (v : World). v.log) s)) fits
event_keeps overtake u w w' (Change i c) can s fits = subst RepliesFit (sym s.log) fits
event_keeps overtake u w w' (Restart i exact store) can s fits = subst RepliesFit (sym s.log) fits
event_keeps overtake u w w' (Begin i exact) can s fits = subst RepliesFit (sym (ap (λ (v : World). v.log) s.is)) fits
event_keeps overtake u w w' (BeginAgain i exact first_id store) can s fits = subst RepliesFit (sym s.log) fits

-- Steps of a plant.

module _ (overtake : ℕ) (u : Reuses) (w w' : World) where
  ticked_keeps : (i : ℕ) (ticked : Option Outcome) → WorldRunSo overtake u w (ticked_events i ticked) w' → Keeps w.log w'.log
  ticked_keeps i None run fits = same_keeps w w' run fits
  ticked_keeps i (Some o) run fits = same_keeps run.0 w' run.2 (tick_keeps overtake u w run.0 i run.1 fits)

module _ (overtake : ℕ) (u : Reuses) (w w' : World) (can : AllCanReply w) where
  one_keeps : (e : Event) → WorldRunSo overtake u w (e ∷ []) w' → Keeps w.log w'.log
  one_keeps e run fits = same_keeps run.0 w' run.2 (event_keeps overtake u w run.0 e can run.1 fits)

  turn_keeps : (i : ℕ) (source : network.Source) (heard ticked : Option Outcome)
      → WorldRunSo overtake u w (heard_events i source heard ++ ticked_events i ticked) w' → Keeps w.log w'.log
  turn_keeps i network.Source.Nowhere heard ticked run fits = ticked_keeps overtake u w w' i ticked run fits
  turn_keeps i (network.Source.Station number) None ticked run fits = ticked_keeps overtake u w w' i ticked run fits
  turn_keeps i (network.Source.Station number) (Some o) ticked run fits =
      ticked_keeps overtake u run.0 w' i ticked run.2 (event_keeps overtake u w run.0 (Deliver number) can run.1 fits)
  turn_keeps i (network.Source.Stranger link octets) None ticked run fits = ticked_keeps overtake u w w' i ticked run fits
  turn_keeps i (network.Source.Stranger link octets) (Some o) ticked run fits =
      ticked_keeps overtake u run.0 w' i ticked run.2 (event_keeps overtake u w run.0 (Stray i link octets) can run.1 fits)
  turn_keeps i (network.Source.Noise link octets) None ticked run fits = ticked_keeps overtake u w w' i ticked run fits
  turn_keeps i (network.Source.Noise link octets) (Some o) ticked run fits =
      ticked_keeps overtake u run.0 w' i ticked run.2 (event_keeps overtake u w run.0 (Noise i link octets) can run.1 fits)

  step_keeps : (step : Step) → WorldRunSo overtake u w (events_in step) w' → Keeps w.log w'.log
  step_keeps (Passes by own) run fits = one_keeps (Advance by own) run fits
  step_keeps (Takes i source turn) run fits = turn_keeps i source turn.heard turn.ticked run fits
  step_keeps (FailsToReceive i) run fits = same_keeps w w' run fits
  step_keeps (Begins i server limits r) run fits = one_keeps (Ask i server limits r) run fits
  step_keeps (BeginsAway i peer limits r) run fits = one_keeps (AskAway i peer limits r) run fits
  step_keeps (Changes i c) run fits = one_keeps (Change i c) run fits
  step_keeps (Restarts i exact store) run fits = one_keeps (Restart i exact store) run fits
  step_keeps (Starts i exact) run fits = one_keeps (Begin i exact) run fits
  step_keeps (StartsAgain i exact first_id store) run fits = one_keeps (BeginAgain i exact first_id store) run fits
  step_keeps (Holds i source turn) run fits = turn_keeps i source turn.heard turn.ticked run fits
  step_keeps (SendsHeld i turns) run fits = same_keeps w w' run fits

pub replies_fit : (overtake : ℕ) (steps : List Step) (old new : Plant) (run : PlantRun overtake steps old new) → CanReplyThroughout overtake steps old new run
    → RepliesFit old.log → RepliesFit new.log
replies_fit overtake [] old new run can fits = subst (λ (p : Plant). RepliesFit p.log) (sym run) fits
replies_fit overtake (step ∷ before) old new run can fits =
    step_keeps overtake (settings_of run.middle) (world_of run.middle) (world_of new) can.1 step
    (step_events overtake (settings_of run.middle) run.middle step new (λ i. refl) run.last)
    (replies_fit overtake before old run.middle run.so_far can.0 fits)
