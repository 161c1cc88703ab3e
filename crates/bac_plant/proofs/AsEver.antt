-- A run of a world in which no invoke ID is used again, said in the words of those in which some are, is a run as ever.
use Rattle.std.proofs.Common.{ℕ, Bool, true, false, List, [], ◌∷◌, inl, inr}
use Rattle.bac_protocol.specs.Service.{Octets}
use Rattle.bac_world.specs.Node.{Node, Outcome}
use Rattle.bac_world.specs.ReusingLogs.{Reuses}
use Rattle.bac_world.specs.ReusingWorlds.{ActsSo, DeliversIfSo, HearsSo, WorldRunSo, WorldStepSo}
use Rattle.bac_world.specs.World.{Acts, Copy, DeliversIf, Event, Hears, World, WorldRun, WorldStep, is_deliverable}
use Rattle.bac_world.specs.World.Event.{Ask, AskAway, Deliver, Noise, Stray, Tick, Advance, Change, Restart, Begin, BeginAgain}

-- no node lets them
abbrev pub NONE : Reuses
NONE node = false

acts_ever : (w w' : World) (i : ℕ) (b : Node) (o : Outcome) → ActsSo false w i b o w' → Acts w i b o w'
acts_ever w w' i b o acts = record {
  nodes = acts.nodes;
  time = acts.time;
  lives = acts.lives;
  notes = acts.notes;
  sent = acts.sent;
  copies = acts.copies;
  copied = acts.copied;
  between = acts.between;
  ended = acts.ended;
  logged = acts.logged;
}

hears_ever : (w : World) (i : ℕ) (from octets : Octets) (w' : World) → HearsSo false w i from octets w' → Hears w i from octets w'
hears_ever w i from octets w' h =
    record { before = h.before; at = h.at; after = h.after; outcome = h.outcome; on = h.on; acts = acts_ever w w' i h.after h.outcome h.acts }

delivers_ever : (b : Bool) (w : World) (c : Copy) (w' : World) → DeliversIfSo b NONE w c w' → DeliversIf b w c w'
delivers_ever true w c w' d = record { link = d.link; sender = d.sender; hears = hears_ever w c.to d.link c.octets w' d.hears }
delivers_ever false w c w' d = d

pub step_ever : (overtake : ℕ) (w : World) (e : Event) (w' : World) → WorldStepSo overtake NONE w e w' → WorldStep overtake w e w'
step_ever overtake w (Ask client server limits r) w' s = s
step_ever overtake w (AskAway client peer limits r) w' s = s
step_ever overtake w (Deliver number) w' s = record {
  copy = s.copy;
  there = s.there;
  goes = delivers_ever (is_deliverable overtake w.time.pace.life w.time.now number w.copies s.copy) w s.copy w' s.goes;
}
step_ever overtake w (Noise node from octets) w' (inl s) = inl (record { meaningless = s.fit; hears = hears_ever w node from octets w' s.hears })
step_ever overtake w (Noise node from octets) w' (inr s) = inr s
step_ever overtake w (Stray node from octets) w' (inl s) = inl (record { stranger = s.fit; hears = hears_ever w node from octets w' s.hears })
step_ever overtake w (Stray node from octets) w' (inr s) = inr s
step_ever overtake w (Tick node) w' s = s
step_ever overtake w (Advance by own) w' s = s
step_ever overtake w (Change node change) w' s = s
step_ever overtake w (Restart node exact store) w' s = s
step_ever overtake w (Begin node exact) w' s = s
step_ever overtake w (BeginAgain node exact first_id store) w' s = s

pub run_ever : (overtake : ℕ) (w : World) (events : List Event) (w' : World) → WorldRunSo overtake NONE w events w' → WorldRun overtake w events w'
run_ever overtake w [] w' run = run
run_ever overtake w (e ∷ es) w' run = (run.0, step_ever overtake w e run.0 run.1, run_ever overtake run.0 es w' run.2)
