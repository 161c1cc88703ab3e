-- Where there is nothing of strangers, and no node changes its own store or restarts, the log has asks, performed requests and endings alone.
use Rattle.std.proofs.Common.{ℕ, Bool, true, false, List, [], ◌∷◌, ◌++◌, length, None, refl, sym, subst, inl, inr}
use Rattle.bac_liveness.proofs.StraightRuns.Growing.{Grows, acts_grow}
use Rattle.bac_world.specs.Node.{Node, Outcome}
use Rattle.bac_world.specs.Once.{Fact, HasNoStranger, HasRequestsAlone, IsOnce, Stores}
use Rattle.bac_world.specs.Once.Fact.{Asked, Performed, Ended, Changed, Restarted, Served, AskedAway, EndedAway}
use Rattle.bac_world.specs.World.{Acts, Copy, DeliversIf, Event, IsFresh, MakeNoStray, World, WorldRun, WorldStep, is_deliverable}
use Rattle.bac_world.specs.World.Event.{Ask, AskAway, Deliver, Noise, Stray, Tick, Advance, Change, Restart, Begin, BeginAgain}
use Rattle.bac_world.proofs.WithoutStrangers.{AreNear, after_run, near_more}
use Rattle.bac_network.specs.AsksAlone.{HasAsksAlone, IsOnceOfAsks}

-- Logs.

pub of_asks : (opening : Stores) (log : List Fact) (stores : Stores) → HasAsksAlone log → IsOnce opening log stores → IsOnceOfAsks opening log stores
of_asks opening [] stores alone h = h
of_asks opening (Asked n c s r ∷ log) stores alone h = (h.0, h.1, of_asks opening log h.0 alone h.2)
of_asks opening (Performed n r p ∷ log) stores alone h = (h.0, h.1, of_asks opening log h.0 alone h.2)
of_asks opening (Ended n how ∷ log) stores alone h = (h.0, h.1, of_asks opening log h.0 alone h.2)
of_asks opening (Changed i c ∷ log) stores alone h = absurd alone
of_asks opening (Restarted i o ∷ log) stores alone h = absurd alone
of_asks opening (Served q i d b r p ∷ log) stores alone h = absurd alone
of_asks opening (AskedAway n c q r ∷ log) stores alone h = absurd alone
of_asks opening (EndedAway n how ∷ log) stores alone h = absurd alone

pub asks_alone : (log : List Fact) → HasRequestsAlone log → HasNoStranger log → HasAsksAlone log
asks_alone [] alone none = tt
asks_alone (Asked n c s r ∷ log) alone none = asks_alone log alone none
asks_alone (Performed n r p ∷ log) alone none = asks_alone log alone none
asks_alone (Ended n how ∷ log) alone none = asks_alone log alone none
asks_alone (Changed i c ∷ log) alone none = absurd alone
asks_alone (Restarted i o ∷ log) alone none = absurd alone
asks_alone (Served q i d b r p ∷ log) alone none = absurd none
asks_alone (AskedAway n c q r ∷ log) alone none = absurd none
asks_alone (EndedAway n how ∷ log) alone none = absurd none

pub requests_of : (log : List Fact) → HasAsksAlone log → HasRequestsAlone log × HasNoStranger log
requests_of [] alone = (tt, tt)
requests_of (Asked n c s r ∷ log) alone = requests_of log alone
requests_of (Performed n r p ∷ log) alone = requests_of log alone
requests_of (Ended n how ∷ log) alone = requests_of log alone
requests_of (Changed i c ∷ log) alone = absurd alone
requests_of (Restarted i o ∷ log) alone = absurd alone
requests_of (Served q i d b r p ∷ log) alone = absurd alone
requests_of (AskedAway n c q r ∷ log) alone = absurd alone
requests_of (EndedAway n how ∷ log) alone = absurd alone

older_near : (newer older : List Fact) → HasNoStranger (newer ++ older) → HasNoStranger older
older_near [] older none = none
older_near (Asked n c s r ∷ newer) older none = older_near newer older none
older_near (Performed n r p ∷ newer) older none = older_near newer older none
older_near (Ended n how ∷ newer) older none = older_near newer older none
older_near (Changed i c ∷ newer) older none = older_near newer older none
older_near (Restarted i o ∷ newer) older none = older_near newer older none
older_near (Served q i d b r p ∷ newer) older none = absurd none
older_near (AskedAway n c q r ∷ newer) older none = absurd none
older_near (EndedAway n how ∷ newer) older none = absurd none

-- Notes.

-- while the log has nothing of strangers, no ask of one is noted
abbrev TellsNear : World → Type 0
TellsNear w = HasNoStranger w.log → AreNear w.notes

acts_tell : (w v : World) (i : ℕ) (b : Node) (o : Outcome) → Acts w i b o v → TellsNear w → TellsNear v
acts_tell w v i b o acts h none =
    let g : Grows w.log v.log = acts_grow w v i b o acts in
    subst AreNear (sym acts.notes) (h (older_near g.0 w.log (subst HasNoStranger g.1 none)))

delivery_tells : (b : Bool) (w : World) (c : Copy) (v : World) → DeliversIf b w c v → TellsNear w → TellsNear v
delivery_tells true w c v d h = acts_tell w v c.to d.hears.after d.hears.outcome d.hears.acts h
delivery_tells false w c v same h = subst TellsNear (sym same) h

step_tells : (overtake : ℕ) (w v : World) (e : Event) → WorldStep overtake w e v → TellsNear w → TellsNear v
step_tells overtake w v (Ask client server limits r) (inl s) h none =
    subst AreNear (sym s.notes) (near_more
    (record { key = record { client = client; server = server; invoke_id = s.accepted.invoke_id }; ticket = s.accepted.ticket; away = None }) w.notes refl
    (h (subst HasNoStranger s.log none)))
step_tells overtake w v (Ask client server limits r) (inr s) h none = subst TellsNear (sym s.same) h none
step_tells overtake w v (AskAway client peer limits r) (inl s) h none =
    absurd (let away : HasNoStranger (AskedAway (length w.notes) client peer r ∷ w.log) = subst HasNoStranger s.log none in away)
step_tells overtake w v (AskAway client peer limits r) (inr s) h none = subst TellsNear (sym s.same) h none
step_tells overtake w v (Deliver number) s h none =
    delivery_tells (is_deliverable overtake w.time.pace.life w.time.now number w.copies s.copy) w s.copy v s.goes h none
step_tells overtake w v (Noise node from octets) (inl s) h none = acts_tell w v node s.hears.after s.hears.outcome s.hears.acts h none
step_tells overtake w v (Noise node from octets) (inr s) h none = subst TellsNear (sym s.same) h none
step_tells overtake w v (Stray node from octets) (inl s) h none = acts_tell w v node s.hears.after s.hears.outcome s.hears.acts h none
step_tells overtake w v (Stray node from octets) (inr s) h none = subst TellsNear (sym s.same) h none
step_tells overtake w v (Tick node) s h none = acts_tell w v node s.after s.outcome s.acts h none
step_tells overtake w v (Advance by own) s h none = subst TellsNear (sym s) h none
step_tells overtake w v (Change node c) s h none =
    subst AreNear (sym s.notes) (h (let more : HasNoStranger (Changed node c ∷ w.log) = subst HasNoStranger s.log none in more))
step_tells overtake w v (Restart node exact store) s h none =
    subst AreNear (sym s.notes) (h (let more : HasNoStranger (Restarted node store ∷ w.log) = subst HasNoStranger s.log none in more))
step_tells overtake w v (Begin node exact) s h none = subst TellsNear (sym s.is) h none
step_tells overtake w v (BeginAgain node exact first_id store) s h none =
    subst AreNear (sym s.notes) (h (let more : HasNoStranger (Restarted node store ∷ w.log) = subst HasNoStranger s.log none in more))

run_tells : (overtake : ℕ) (events : List Event) (w v : World) → WorldRun overtake w events v → TellsNear w → TellsNear v
run_tells overtake [] w v run h = subst TellsNear (sym run) h
run_tells overtake (e ∷ es) w v run h = run_tells overtake es run.0 v run.2 (step_tells overtake w run.0 e run.1 h)

-- after a run that a run of a fresh world led to
pub no_stranger_after : (overtake : ℕ) (first w v : World) → IsFresh first → (before : List Event) → WorldRun overtake first before w → (events : List Event)
    → MakeNoStray events → WorldRun overtake w events v → HasNoStranger w.log → HasNoStranger v.log
no_stranger_after overtake first w v fresh before led events calm run none = (after_run overtake events w v calm run (record {
  log = none;
  notes = run_tells overtake before first w led (λ clean. subst AreNear (sym fresh.notes) (λ n. refl)) none;
})).log
