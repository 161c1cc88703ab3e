-- Where no node lets invoke IDs be used again, what happens is what happens in a world of strict nodes.
use Rattle.std.proofs.Common.{◌≡◌, ℕ, Bool, true, false, List, [], ◌∷◌, Option, Result, Ok, Err, inl, inr, sym, subst, ◌∙◌}
use Rattle.bac_protocol.specs.Service.{Octets}
use Rattle.bac_requester.specs.declared.ask_fault.AskFault.{AskFault}
use Rattle.bac_world.specs.ReusingLogs.{NoneReuses, Reuses}
use Rattle.bac_world.specs.ReusingWorlds.{DeliversIfSo, HearsSo, WorldRunSo, WorldStepSo}
use Rattle.bac_world.specs.World.{Copy, DeliversIf, Event, Hears, World, WorldRun, WorldStep, is_deliverable}
use Rattle.bac_world.specs.World.Event.{Ask, AskAway, Deliver, Noise, Stray, Tick, Advance, Change, Restart, Begin, BeginAgain}
use Rattle.bac_network.specs.Histories.{WorldView, HasNoReuse, HasRun, HasRunSo, reuses_of}
use Rattle.bac_network.specs.Rules.{reuses_by}
use Rattle.bac_network.specs.Runs.{KeepsSettings, StopsAt, StopsAtSo}
use Rattle.bac_network.specs.Steps.{HappensTelling, HappensTellingSo}
use Rattle.bac_network.specs.declared.fault.RunFault.{RunFault}
use Rattle.bac_network.specs.declared.fault.WorldFault.{WorldFault}

hears_strictly : (reuse : Bool) (w : World) (i : ℕ) (from octets : Octets) (v : World) → reuse ≡ false → HearsSo reuse w i from octets v
    → Hears w i from octets v
hears_strictly true w i from octets v off h = absurd (let no : true ≡ false = off in cc)
hears_strictly false w i from octets v off h = record {
  before = h.before;
  at = h.at;
  after = h.after;
  outcome = h.outcome;
  on = h.on;
  acts = record {
    nodes = h.acts.nodes;
    time = h.acts.time;
    lives = h.acts.lives;
    notes = h.acts.notes;
    sent = h.acts.sent;
    copies = h.acts.copies;
    copied = h.acts.copied;
    between = h.acts.between;
    ended = h.acts.ended;
    logged = h.acts.logged;
  };
}

module _ (overtake : ℕ) (u : Reuses) (none : NoneReuses u) where
  delivers_strictly : (b : Bool) (w : World) (c : Copy) (v : World) → DeliversIfSo b u w c v → DeliversIf b w c v
  delivers_strictly true w c v d =
      record { link = d.link; sender = d.sender; hears = hears_strictly (u c.to) w c.to d.link c.octets v (none c.to) d.hears }
  delivers_strictly false w c v d = d

  pub step_strictly : (w : World) (e : Event) (v : World) → WorldStepSo overtake u w e v → WorldStep overtake w e v
  step_strictly w (Ask client server limits r) v s = s
  step_strictly w (AskAway client peer limits r) v s = s
  step_strictly w (Deliver number) v s = record {
    copy = s.copy;
    there = s.there;
    goes = delivers_strictly (is_deliverable overtake w.time.pace.life w.time.now number w.copies s.copy) w s.copy v s.goes;
  }
  step_strictly w (Noise node from octets) v (inl s) =
      inl (record { meaningless = s.fit; hears = hears_strictly (u node) w node from octets v (none node) s.hears })
  step_strictly w (Noise node from octets) v (inr s) = inr s
  step_strictly w (Stray node from octets) v (inl s) =
      inl (record { stranger = s.fit; hears = hears_strictly (u node) w node from octets v (none node) s.hears })
  step_strictly w (Stray node from octets) v (inr s) = inr s
  step_strictly w (Tick node) v s = s
  step_strictly w (Advance by own) v s = s
  step_strictly w (Change node change) v s = s
  step_strictly w (Restart node exact store) v s = s
  step_strictly w (Begin node exact) v s = s
  step_strictly w (BeginAgain node exact first_id store) v s = s

  pub run_strictly : (events : List Event) (w v : World) → WorldRunSo overtake u w events v → WorldRun overtake w events v
  run_strictly [] w v run = run
  run_strictly (e ∷ es) w v run = (run.0, step_strictly w e run.0 run.1, run_strictly es run.0 v run.2)

  pub told_strictly : (w v : World) (e : Event) (r : Result (Option AskFault) WorldFault) → HappensTellingSo overtake u w e r v
      → HappensTelling overtake w e r v
  told_strictly w v e (Ok told) h = (step_strictly w e v h.0, h.1, h.2, h.3)
  told_strictly w v e (Err f) h = h

-- The run that led to a world is one of strict nodes.
pub history_strictly : (W : ℕ) (w : WorldView) → HasNoReuse w → HasRunSo W w → HasRun W w
history_strictly W w none h = record {
  first = h.first;
  events = h.events;
  fresh = h.fresh;
  timely = h.timely;
  bounded = h.bounded;
  opening = h.opening;
  run = run_strictly w.overtake (reuses_of w) none h.events h.first _ h.run;
}

pub stops_strictly : (f : RunFault) (old : WorldView) (events : List Event) (new : WorldView) → HasNoReuse old → StopsAtSo f old events new
    → StopsAt f old events new
stops_strictly f old events new none h = record {
  done = run_strictly old.overtake (reuses_of old) none _ _ _ h.done;
  event = h.event;
  at = h.at;
  fault = h.fault;
}

-- rules that are the same are strict where they were
pub still_strict : {a b : List Bool} → b ≡ a → NoneReuses (reuses_by a) → NoneReuses (reuses_by b)
still_strict same none = subst (λ (l : List Bool). NoneReuses (reuses_by l)) (sym same) none

-- the settings stay where they stayed twice
pub settings_on : (w u v : WorldView) → KeepsSettings u v → KeepsSettings w u → KeepsSettings w v
settings_on w u v more before = (more.0 ∙ before.0, more.1 ∙ before.1, more.2 ∙ before.2)
