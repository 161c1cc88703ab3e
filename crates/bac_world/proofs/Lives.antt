-- A node that does not restart asks and serves from the same moments on; where none restarts, the log has no restart, and none ever waits.
use Rattle.std.proofs.Common.{◌≡◌, ℕ, ◌+◌, min, ◌⊎◌, Bool, true, false, List, [], ◌∷◌, Option, Some, None, slice_get, refl, sym, ap, subst, inl, inr, ◌∙◌}
use Rattle.bac_apdu.specs.Apdu.{Apdu, Limits}
use Rattle.bac_npdu.specs.Peers.{PeerView}
use Rattle.bac_service.specs.Values.{Request, choice_of}
use Rattle.bac_service.specs.Services.{reads_reply}
use Rattle.bac_protocol.specs.Context.{Settings}
use Rattle.bac_protocol.specs.Service.{Octets, Readable}
use Rattle.bac_protocol.specs.Wire.{is_from_client}
use Rattle.bac_slots.specs.Slots.{value_at}
use Rattle.bac_transaction.specs.Keys.{PeerKey, same_key}
use Rattle.bac_transaction.specs.Sends.{Datagram}
use Rattle.bac_transaction.specs.Ends.{Client, ClientEnd, TransactionSlot, Accepted, requester_on_apdu_at, requester_on_apdu_in_slot, key_of}
use Rattle.bac_transaction.specs.Ends.TransactionSlot.{Open, Closed}
use Rattle.bac_world.specs.Node.{Node, Outcome, IsHeardBy, NodeOn, NodeTick, NodeAsks}
use Rattle.bac_world.specs.Once.{HasNoRestart}
use Rattle.bac_world.specs.World.{World, Event, Copy, IsWithNode, Hears, DeliversIf, is_deliverable, peer_at}
use Rattle.bac_world.specs.World.{WorldStep, WorldRun, RunsOn, MakeNoRestart, MakeRequestsAlone, NeverRestarted, IsFresh}
use Rattle.bac_world.specs.World.Event.{Ask, AskAway, Deliver, Noise, Stray, Tick, Advance, Change, Restart, Begin, BeginAgain}
use Rattle.bac_world.specs.World.{told}
use Rattle.bac_protocol.specs.Pace.{most}
use Rattle.bac_protocol.specs.declared.times.TheConstants.{DEADLINE}
use Rattle.bac_world.specs.Node.{with_change}
use Rattle.bac_world.specs.World.{IsFreshNode, Life, with_act}
use Rattle.bac_world.proofs.Bridge.{AreIdle, changed_fresh}
use Rattle.bac_world.proofs.Steps.{decide_number, each_with, idle_with}
use Rattle.bac_world.proofs.Asking.{accepted_is}
use Rattle.bac_world.proofs.Quiet.{after_step}

-- A call of a node.

record Stays (a b : Node) : Type 0 where
  asks : b.clients.asks_from ≡ a.clients.asks_from
  serves : b.servers.serves_from ≡ a.servers.serves_from

held_from : (c : Settings) (r : Readable) (now : ℕ) (p : Apdu) (e : ClientEnd) (q : PeerKey) (k : ℕ) (y : TransactionSlot)
    → (requester_on_apdu_in_slot c r now p e q k y).end.asks_from ≡ e.asks_from
held_from c r now p e q k (Closed first) = refl
held_from c r now p e q k (Open t) = refl

slot_from : (c : Settings) (r : Readable) (now : ℕ) (p : Apdu) (e : ClientEnd) (q : PeerKey) (s : Option Client)
    → (requester_on_apdu_at c r now p e q s).end.asks_from ≡ e.asks_from
slot_from c r now p e q None = refl
slot_from c r now p e q (Some s) = held_from c r now p e q s.number s.held

heard_stays : (up : Bool) (peer : PeerView) (p : Apdu) (now : ℕ) (a b : Node) (o : Outcome) → IsHeardBy up peer p now a b o → Stays a b
heard_stays true peer p now a b o t =
    record { asks = ap (λ (n : Node). n.clients.asks_from) t.node; serves = ap (λ (n : Node). n.servers.serves_from) t.node }
heard_stays false peer p now a b o t = record {
  asks = ap (λ (n : Node). n.clients.asks_from) t.node
      ∙ slot_from a.settings reads_reply now p a.clients (key_of peer p) (value_at same_key (key_of peer p) a.clients.slots);
  serves = ap (λ (n : Node). n.servers.serves_from) t.node;
}

on_stays : (now : ℕ) (from octets : Octets) (a b : Node) (o : Outcome) → NodeOn now from octets a b o → Stays a b
on_stays now from octets a b o (inl d) =
    record { asks = ap (λ (n : Node). n.clients.asks_from) d.node; serves = ap (λ (n : Node). n.servers.serves_from) d.node }
on_stays now from octets a b o (inr d) = heard_stays (is_from_client d.apdu) d.peer d.apdu now a b o d.heard

tick_stays : (now : ℕ) (a b : Node) (o : Outcome) → NodeTick now a b o → Stays a b
tick_stays now a b o t =
    record { asks = ap (λ (n : Node). n.clients.asks_from) t.node; serves = ap (λ (n : Node). n.servers.serves_from) t.node }

asks_stay : (now : ℕ) (peer : PeerView) (limits : Limits) (r : Request) (a b : Node) (accepted : Accepted) (ds : List Datagram)
    → NodeAsks now peer limits r a b accepted ds → Stays a b
asks_stay now peer limits r a b accepted ds k =
    let parts = accepted_is a.settings now peer (choice_of r) k.octets a.clients accepted limits k.accepted in
    record {
      asks = ap (λ (n : Node). n.clients.asks_from) k.node ∙ ap (λ (y : Accepted). y.end.asks_from) parts.is;
      serves = ap (λ (n : Node). n.servers.serves_from) k.node;
    }

-- A step.

-- that node was there before, and asks and serves from the same moments on
pub record Lived (old : List Node) (i : ℕ) (b : Node) : Type 0 where
  pub before : Node
  pub at : slice_get old i ≡ Some before
  pub asks : b.clients.asks_from ≡ before.clients.asks_from
  pub serves : b.servers.serves_from ≡ before.servers.serves_from

abbrev LiveOn : (old new : List Node) → (i : ℕ) → Type 0
LiveOn old new i = (b : Node) → slice_get new i ≡ Some b → Lived old i b

same_lived : (old : List Node) (i : ℕ) → LiveOn old old i
same_lived old i b at = record { before = b; at = at; asks = refl; serves = refl }

other_lived : (old new : List Node) (j : ℕ) (d : Node) → IsWithNode old j d new → (i : ℕ) → (i ≡ j → ⊥) → LiveOn old new i
other_lived old new j d s i ne b at = record { before = b; at = sym (s.others i ne) ∙ at; asks = refl; serves = refl }

with_lived : (old new : List Node) (j : ℕ) (a d : Node) → slice_get old j ≡ Some a → IsWithNode old j d new → Stays a d → (i : ℕ) → LiveOn old new i
with_lived old new j a d there s stays i b at = go (decide_number i j)
  where
    go : ((i ≡ j) ⊎ (i ≡ j → ⊥)) → Lived old i b
    go (inl is) =
        let here : slice_get new j ≡ Some b = subst (λ (k : ℕ). slice_get new k ≡ Some b) is at in
        let same : d ≡ b = let e : Some d ≡ Some b = sym s.here ∙ here in cc in
        record {
          before = a;
          at = subst (λ (k : ℕ). slice_get old k ≡ Some a) (sym is) there;
          asks = ap (λ (n : Node). n.clients.asks_from) (sym same) ∙ stays.asks;
          serves = ap (λ (n : Node). n.servers.serves_from) (sym same) ∙ stays.serves;
        }
    go (inr ne) = other_lived old new j d s i ne b at

hears_lived : (w w' : World) (j : ℕ) (from octets : Octets) → Hears w j from octets w' → (i : ℕ) → LiveOn w.nodes w'.nodes i
hears_lived w w' j from octets h =
    with_lived w.nodes w'.nodes j h.before h.after h.at h.acts.nodes (on_stays (told w j) from octets h.before h.after h.outcome h.on)

delivers_lived : (b : Bool) (w : World) (c : Copy) (w' : World) → DeliversIf b w c w' → (i : ℕ) → LiveOn w.nodes w'.nodes i
delivers_lived true w c w' d = hears_lived w w' c.to d.link c.octets d.hears
delivers_lived false w c w' same = λ i. subst (λ (u : World). LiveOn w.nodes u.nodes i) (sym same) (same_lived w.nodes i)

step_lived : (overtake : ℕ) (w w' : World) (e : Event) → WorldStep overtake w e w' → (i : ℕ) → RunsOn i (e ∷ []) → LiveOn w.nodes w'.nodes i
step_lived overtake w w' (Ask client server limits r) (inl s) i on = with_lived w.nodes w'.nodes client s.before s.after s.at s.nodes
    (asks_stay (told w client) (peer_at s.link) limits r s.before s.after s.accepted s.sends s.asks) i
step_lived overtake w w' (Ask client server limits r) (inr s) i on = subst (λ (u : World). LiveOn w.nodes u.nodes i) (sym s.same) (same_lived w.nodes i)
step_lived overtake w w' (AskAway client peer limits r) (inl s) i on = with_lived w.nodes w'.nodes client s.before s.after s.at s.nodes
    (asks_stay (told w client) peer limits r s.before s.after s.accepted s.sends s.asks) i
step_lived overtake w w' (AskAway client peer limits r) (inr s) i on = subst (λ (u : World). LiveOn w.nodes u.nodes i) (sym s.same) (same_lived w.nodes i)
step_lived overtake w w' (Deliver number) s i on = delivers_lived (is_deliverable overtake w.time.pace.life w.time.now number w.copies s.copy) w s.copy w' s.goes i
step_lived overtake w w' (Noise node from octets) (inl s) i on = hears_lived w w' node from octets s.hears i
step_lived overtake w w' (Noise node from octets) (inr s) i on = subst (λ (u : World). LiveOn w.nodes u.nodes i) (sym s.same) (same_lived w.nodes i)
step_lived overtake w w' (Stray node from octets) (inl s) i on = hears_lived w w' node from octets s.hears i
step_lived overtake w w' (Stray node from octets) (inr s) i on = subst (λ (u : World). LiveOn w.nodes u.nodes i) (sym s.same) (same_lived w.nodes i)
step_lived overtake w w' (Tick node) s i on =
    with_lived w.nodes w'.nodes node s.before s.after s.at s.acts.nodes (tick_stays (told w node) s.before s.after s.outcome s.tick) i
step_lived overtake w w' (Advance by own) s i on = subst (λ (u : World). LiveOn w.nodes u.nodes i) (sym s) (same_lived w.nodes i)
step_lived overtake w w' (Change node c) s i on =
    with_lived w.nodes w'.nodes node s.before _ s.at s.nodes (record { asks = refl; serves = refl }) i
step_lived overtake w w' (Restart node exact store) s i on = other_lived w.nodes w'.nodes node _ s.nodes i (λ is. on.0 (sym is))
step_lived overtake w w' (Begin node exact) s i on = subst (λ (u : World). LiveOn w.nodes u.nodes i) (sym s.is) (same_lived w.nodes i)
step_lived overtake w w' (BeginAgain node exact first_id store) s i on = other_lived w.nodes w'.nodes node _ s.nodes i (λ is. on.0 (sym is))

-- Runs.

first_on : (i : ℕ) (e : Event) (es : List Event) → RunsOn i (e ∷ es) → RunsOn i (e ∷ []) × RunsOn i es
first_on i (Ask client server limits r) es h = (tt, h)
first_on i (AskAway client peer limits r) es h = (tt, h)
first_on i (Deliver number) es h = (tt, h)
first_on i (Noise node from octets) es h = (tt, h)
first_on i (Stray node from octets) es h = (tt, h)
first_on i (Tick node) es h = (tt, h)
first_on i (Advance by own) es h = (tt, h)
first_on i (Change node c) es h = (tt, h)
first_on i (Restart node exact store) es h = ((h.0, tt), h.1)
first_on i (Begin node exact) es h = (tt, h)
first_on i (BeginAgain node exact first_id store) es h = ((h.0, tt), h.1)

-- where a node does not restart in a run
pub run_lived : (overtake : ℕ) (events : List Event) (w w' : World) → WorldRun overtake w events w' → (i : ℕ) → RunsOn i events
    → (b : Node) → slice_get w'.nodes i ≡ Some b → Lived w.nodes i b
run_lived overtake [] w w' run i on b at =
    subst (λ (u : World). LiveOn w.nodes u.nodes i) (sym run) (same_lived w.nodes i) b at
run_lived overtake (e ∷ es) w w' run i on b at =
    let parts = first_on i e es on in
    let last = run_lived overtake es run.0 w' run.2 i parts.1 b at in
    let first = step_lived overtake w run.0 e run.1 i parts.0 last.before last.at in
    record { before = first.before; at = first.at; asks = last.asks ∙ first.asks; serves = last.serves ∙ first.serves }

each_on : (i : ℕ) (es : List Event) → MakeNoRestart es → RunsOn i es
each_on i [] h = tt
each_on i (Ask client server limits r ∷ es) h = each_on i es h
each_on i (AskAway client peer limits r ∷ es) h = each_on i es h
each_on i (Deliver number ∷ es) h = each_on i es h
each_on i (Noise node from octets ∷ es) h = each_on i es h
each_on i (Stray node from octets ∷ es) h = each_on i es h
each_on i (Tick node ∷ es) h = each_on i es h
each_on i (Advance by own ∷ es) h = each_on i es h
each_on i (Change node c ∷ es) h = each_on i es h
each_on i (Restart node exact store ∷ es) h = absurd h
each_on i (Begin node exact ∷ es) h = each_on i es h
each_on i (BeginAgain node exact first_id store ∷ es) h = absurd h

-- The log of a run without restarts.

quiet_step : (overtake : ℕ) (w w' : World) (e : Event) → MakeRequestsAlone (e ∷ []) → WorldStep overtake w e w' → HasNoRestart w.log → HasNoRestart w'.log
quiet_step = after_step HasNoRestart (record {
  asked = λ n c s r log p. p;
  performed = λ n r q log p. p;
  ended = λ n how log p. p;
  served = λ q i d b r y log p. p;
  asked_away = λ n c q r log p. p;
  ended_away = λ n how log p. p;
})

quiet_run : (overtake : ℕ) (events : List Event) (w w' : World) → WorldRun overtake w events w' → MakeNoRestart events → HasNoRestart w.log
    → HasNoRestart w'.log
quiet_run overtake [] w w' run calm none = subst (λ (u : World). HasNoRestart u.log) (sym run) none
quiet_run overtake (Ask client server limits r ∷ es) w w' run calm none = quiet_run overtake es run.0 w' run.2 calm
    (quiet_step overtake w run.0 (Ask client server limits r) tt run.1 none)
quiet_run overtake (AskAway client peer limits r ∷ es) w w' run calm none = quiet_run overtake es run.0 w' run.2 calm
    (quiet_step overtake w run.0 (AskAway client peer limits r) tt run.1 none)
quiet_run overtake (Deliver number ∷ es) w w' run calm none = quiet_run overtake es run.0 w' run.2 calm
    (quiet_step overtake w run.0 (Deliver number) tt run.1 none)
quiet_run overtake (Noise node from octets ∷ es) w w' run calm none = quiet_run overtake es run.0 w' run.2 calm
    (quiet_step overtake w run.0 (Noise node from octets) tt run.1 none)
quiet_run overtake (Stray node from octets ∷ es) w w' run calm none = quiet_run overtake es run.0 w' run.2 calm
    (quiet_step overtake w run.0 (Stray node from octets) tt run.1 none)
quiet_run overtake (Tick node ∷ es) w w' run calm none = quiet_run overtake es run.0 w' run.2 calm
    (quiet_step overtake w run.0 (Tick node) tt run.1 none)
quiet_run overtake (Advance by own ∷ es) w w' run calm none = quiet_run overtake es run.0 w' run.2 calm
    (quiet_step overtake w run.0 (Advance by own) tt run.1 none)
quiet_run overtake (Change node c ∷ es) w w' run calm none = quiet_run overtake es run.0 w' run.2 calm (subst HasNoRestart (sym run.1.log) none)
quiet_run overtake (Restart node exact store ∷ es) w w' run calm none = absurd calm
quiet_run overtake (Begin node exact ∷ es) w w' run calm none = quiet_run overtake es run.0 w' run.2 calm
    (quiet_step overtake w run.0 (Begin node exact) tt run.1 none)
quiet_run overtake (BeginAgain node exact first_id store ∷ es) w w' run calm none = absurd calm

pub no_restart_in_run : (overtake : ℕ) (w w' : World) → IsFresh w → (events : List Event) → MakeNoRestart events → WorldRun overtake w events w'
    → HasNoRestart w'.log × NeverRestarted w'.nodes
no_restart_in_run overtake w w' fresh events calm run = (
  quiet_run overtake events w w' run calm (subst HasNoRestart (sym fresh.log) tt),
  λ i n at.
      let lived = run_lived overtake events w w' run i (each_on i events calm) n at in
      let first = fresh.nodes i lived.before lived.at in
      (lived.asks ∙ first.asks_from, lived.serves ∙ first.serves_from),
)

-- Nodes at which nothing happened.

acts_idle : (w w' : World) (i : ℕ) (b : Node) → IsWithNode w.nodes i b w'.nodes → w'.lives ≡ with_act w.lives i → AreIdle w.nodes w.lives
    → AreIdle w'.nodes w'.lives
acts_idle w w' i b nodes lives h =
    idle_with w.nodes w'.nodes w.lives w'.lives i b (record { active = true; sends_until = (w.lives i).sends_until }) nodes lives refl h

same_idle : (w w' : World) → w' ≡ w → AreIdle w.nodes w.lives → AreIdle w'.nodes w'.lives
same_idle w w' same h = subst (λ (u : World). AreIdle u.nodes u.lives) (sym same) h

delivers_idle : (b : Bool) (w : World) (c : Copy) (w' : World) → DeliversIf b w c w' → AreIdle w.nodes w.lives → AreIdle w'.nodes w'.lives
delivers_idle true w c w' d h = acts_idle w w' c.to d.hears.after d.hears.acts.nodes d.hears.acts.lives h
delivers_idle false w c w' same h = same_idle w w' same h

pub step_idle : (overtake : ℕ) (w w' : World) (e : Event) → WorldStep overtake w e w' → AreIdle w.nodes w.lives → AreIdle w'.nodes w'.lives
step_idle overtake w w' (Ask client server limits r) (inl s) h = idle_with w.nodes w'.nodes w.lives w'.lives client s.after
    (record { active = true; sends_until = w.time.now + most w.time.pace DEADLINE + 1 }) s.nodes s.lives refl h
step_idle overtake w w' (Ask client server limits r) (inr s) h = same_idle w w' s.same h
step_idle overtake w w' (AskAway client peer limits r) (inl s) h = acts_idle w w' client s.after s.nodes s.lives h
step_idle overtake w w' (AskAway client peer limits r) (inr s) h = same_idle w w' s.same h
step_idle overtake w w' (Deliver number) s h =
    delivers_idle (is_deliverable overtake w.time.pace.life w.time.now number w.copies s.copy) w s.copy w' s.goes h
step_idle overtake w w' (Noise node from octets) (inl s) h = acts_idle w w' node s.hears.after s.hears.acts.nodes s.hears.acts.lives h
step_idle overtake w w' (Noise node from octets) (inr s) h = same_idle w w' s.same h
step_idle overtake w w' (Stray node from octets) (inl s) h = acts_idle w w' node s.hears.after s.hears.acts.nodes s.hears.acts.lives h
step_idle overtake w w' (Stray node from octets) (inr s) h = same_idle w w' s.same h
step_idle overtake w w' (Tick node) s h = acts_idle w w' node s.after s.acts.nodes s.acts.lives h
step_idle overtake w w' (Advance by own) s h = subst (λ (u : World). AreIdle u.nodes u.lives) (sym s) h
step_idle overtake w w' (Change node c) s h = subst (λ (lives : ℕ → Life). AreIdle w'.nodes lives) (sym s.lives)
    (each_with (λ j b. (w.lives j).active ≡ false → IsFreshNode b) w.nodes w'.nodes node (with_change c s.before) s.nodes
    (λ off. changed_fresh c s.before (h node s.before s.at off)) h)
step_idle overtake w w' (Restart node exact store) s h = idle_with w.nodes w'.nodes w.lives w'.lives node _
    (record { active = true; sends_until = min (w.lives node).sends_until (w.time.now + 1) }) s.nodes s.lives refl h
step_idle overtake w w' (Begin node exact) s h = subst (λ (u : World). AreIdle u.nodes u.lives) (sym s.is) h
step_idle overtake w w' (BeginAgain node exact first_id store) s h = acts_idle w w' node _ s.nodes s.lives h
