-- Each ask ends, in every world.
use Rattle.std.proofs.Common.{◌≡◌, ℕ, suc, ◌-◌, ◌≤◌, Bool, true, false, List, [], ◌∷◌, ◌++◌, Option, Some, None, if◌then◌else◌, nat_eq, refl}
use Rattle.std.proofs.Common.{sym, ap, subst, ◌∙◌, arith}
use Rattle.std.proofs.lemmas.Bool.Decides.{nat_tests}
use Rattle.bac_service.specs.Services.{reads_reply}
use Rattle.bac_protocol.specs.declared.times.TheConstants.{DEADLINE}
use Rattle.bac_protocol.specs.Context.{Context}
use Rattle.bac_protocol.specs.Service.{Octets, Ending}
use Rattle.bac_protocol.specs.Client as client
use Rattle.bac_protocol.specs.Client.{Ask, ClientTransaction, Reaction, is_idle, is_expired}
use Rattle.bac_protocol.specs.Client.Reaction.{Stays, Ends}
use Rattle.bac_protocol.specs.Log as octets
use Rattle.bac_protocol.specs.Transaction.{Rules}
use Rattle.bac_protocol.specs.World.{Net, net_start}
use Rattle.bac_protocol.specs.Claims as claims
use Rattle.bac_protocol.proofs.SingleMoves.{in_order}
use Rattle.bac_slots.specs.Slots.{value_at}
use Rattle.bac_transaction.specs.Keys.{PeerKey, same_key}
use Rattle.bac_transaction.specs.Sends.{Pairwise}
use Rattle.bac_transaction.specs.Ends.{Client, TransactionSlot, context_of, kept, open_unless, held_ticked}
use Rattle.bac_transaction.specs.Ends.TransactionSlot.{Open, Closed}
use Rattle.bac_transaction.proofs.KeyedSlots.{changed, changed_value, value_changed}
use Rattle.bac_world.specs.Node.{Node, Outcome, NodeTick}
use Rattle.bac_world.specs.Once.{Fact}
use Rattle.bac_world.specs.ReusingLogs.{IsOnceSo, Reuses}
use Rattle.bac_world.specs.Once.Fact.{Asked, Performed, Ended, Changed, Restarted, Served, AskedAway, EndedAway}
use Rattle.bac_world.specs.World.{World, Event, WorldStep, WorldRun, IsFresh, RunsOn, stores_of}
use Rattle.bac_world.proofs.Logs.{FactMeans}
use Rattle.bac_world.proofs.Steps.{Over}
use Rattle.bac_world.proofs.ClientTick.{client_tick}
use Rattle.bac_liveness.specs.Runs as net
use Rattle.bac_liveness.specs.WorldRuns.{Throughout, endings_of}
use Rattle.bac_liveness.specs.WorldEnds.{IsOpen}
use Rattle.bac_liveness.proofs.Paths.{Any, Bounded, bounded_start}
use Rattle.bac_liveness.proofs.Changes.{HasEnded}
use Rattle.bac_liveness.proofs.Endings.{ended_once}
use Rattle.bac_liveness.proofs.Asked.{after_ask}
use Rattle.bac_liveness.proofs.Following.{Followed, Gives, step_followed, run_followed}

-- Runs one after the other.

pub run_join : (overtake : ℕ) (es fs : List Event) (u v w : World) → WorldRun overtake u es v → WorldRun overtake v fs w → WorldRun overtake u (es ++ fs) w
run_join overtake [] fs u v w h k = subst (λ (y : World). WorldRun overtake y fs w) h k
run_join overtake (e ∷ es) fs u v w h k = (h.0, h.1, run_join overtake es fs h.0 v w h.2 k)

pub on_then : (i : ℕ) (es fs : List Event) → RunsOn i es → RunsOn i fs → RunsOn i (es ++ fs)
on_then i [] fs h k = k
on_then i (Event.Ask c s limits r ∷ es) fs h k = on_then i es fs h k
on_then i (Event.AskAway c peer limits r ∷ es) fs h k = on_then i es fs h k
on_then i (Event.Deliver number ∷ es) fs h k = on_then i es fs h k
on_then i (Event.Noise node from octets ∷ es) fs h k = on_then i es fs h k
on_then i (Event.Stray node from octets ∷ es) fs h k = on_then i es fs h k
on_then i (Event.Tick node ∷ es) fs h k = on_then i es fs h k
on_then i (Event.Advance by own ∷ es) fs h k = on_then i es fs h k
on_then i (Event.Change node change ∷ es) fs h k = on_then i es fs h k
on_then i (Event.Restart node exact store ∷ es) fs h k = (h.0, on_then i es fs h.1 k)
on_then i (Event.Begin node exact ∷ es) fs h k = on_then i es fs h k
on_then i (Event.BeginAgain node exact first_id store ∷ es) fs h k = (h.0, on_then i es fs h.1 k)

-- Endings are counted alike in a log of octets and in the same log as values.

pub endings_alike : (n : ℕ) (log : List octets.Fact) (values : List Fact) → Pairwise (FactMeans None) log values → endings_of n values ≡ net.endings_of n log
endings_alike n [] [] h = refl
endings_alike n [] (v ∷ values) h = absurd h
endings_alike n (f ∷ log) [] h = absurd h
endings_alike n (f ∷ log) (v ∷ values) h = go f v h.0 (endings_alike n log values h.1)
  where
    go : (f : octets.Fact) (v : Fact) → FactMeans None f v → endings_of n values ≡ net.endings_of n log
        → endings_of n (v ∷ values) ≡ net.endings_of n (f ∷ log)
    go (octets.Fact.Asked m c s q) (Asked k d u r) h again = again
    go (octets.Fact.Performed m q p) (Performed k r v) h again = again
    go (octets.Fact.Changed i o) (Changed j c) h again = again
    go (octets.Fact.Restarted i o) (Restarted j s) h again = again
    go (octets.Fact.Served q s i b r p) (Served y j d b' r' p') h again = again
    go (octets.Fact.AskedAway m c q r) (AskedAway k d y r') h again = again
    go (octets.Fact.EndedAway m how) (EndedAway k v) h again = again
    go (octets.Fact.Ended m how) (Ended k v) h again =
        ap (λ (i : ℕ). if nat_eq i n then suc (endings_of n values) else endings_of n values) h.0
        ∙ ap (λ (i : ℕ). if nat_eq m n then suc i else i) again
    go _ _ h again = absurd h

-- A tick leaves no old ticket open.

-- what stays open went on
pub opened : (t u : ClientTransaction) → kept t ≡ Open u → (t ≡ u) × (is_idle t.phase ≡ false)
opened t u e = go (is_idle t.phase) refl e
  where
    go : (b : Bool) → is_idle t.phase ≡ b → open_unless b t ≡ Open u → (t ≡ u) × (is_idle t.phase ≡ false)
    go true is e = absurd cc
    go false is e = let same : t ≡ u = cc in (same, is)

ticked_in_time : (c : Context) (t u : ClientTransaction) → kept (client.after c.now t (client.client_ticks c t)) ≡ Open u → c.now - u.ask.first ≤ DEADLINE
ticked_in_time c t u e = go (is_idle t.phase) refl (is_expired c.now t.ask) refl
  where
    made : ClientTransaction
    made = client.after c.now t (client.client_ticks c t)

    same : made ≡ u
    same = (opened made u e).0

    first : t.ask.first ≡ u.ask.first
    first = ap (λ (a : Ask). a.first) (sym (after_ask c.now t (client.client_ticks c t))) ∙ ap (λ (y : ClientTransaction). y.ask.first) same

    by : Bool → Bool → Reaction
    by b d = if b then Stays else if d then Ends [] Ending.Expired else client.open_ticks c t t.phase

    going : (b d : Bool) → is_idle t.phase ≡ b → is_expired c.now t.ask ≡ d → is_idle (client.after c.now t (by b d)).phase ≡ false
    going b d is ex = subst (λ (y : Bool). is_idle (client.after c.now t (by y d)).phase ≡ false) is
        (subst (λ (y : Bool). is_idle (client.after c.now t (by (is_idle t.phase) y)).phase ≡ false) ex (opened made u e).1)

    go : (b : Bool) → is_idle t.phase ≡ b → (d : Bool) → is_expired c.now t.ask ≡ d → c.now - u.ask.first ≤ DEADLINE
    go true is d ex = absurd (let z = sym is ∙ going true d is ex in cc)
    go false is true ex = absurd (let z = going false true is ex in cc)
    go false is false ex = let f = first in grind (arith, nat_tests)

-- a slot that is open after a tick was open before it
held_in_time : (c : Context) (number : ℕ) (y : TransactionSlot) (u : ClientTransaction) → (held_ticked c number y).held ≡ Open u
    → c.now - u.ask.first ≤ DEADLINE
held_in_time c number (Closed first) u e = absurd cc
held_in_time c number (Open t) u e = ticked_in_time c t u e

pub tick_leaves : (now : ℕ) (old new : Node) (o : Outcome) → NodeTick now old new o → (key : PeerKey) (number : ℕ) (u : ClientTransaction)
    → IsOpen new key number u → now - u.ask.first ≤ DEADLINE
tick_leaves now old new o tick key number u is = go (value_at same_key key old.clients.slots) (sym looked ∙ opened')
  where
    opened' : value_at same_key key (changed Client (client_tick old.settings now) old.clients.slots) ≡ Some (record { number = number; held = Open u })
    opened' = subst (λ (n : Node). IsOpen n key number u) tick.node is

    looked : value_at same_key key (changed Client (client_tick old.settings now) old.clients.slots)
        ≡ changed_value Client (client_tick old.settings now) key (value_at same_key key old.clients.slots)
    looked = value_changed Client (client_tick old.settings now) key old.clients.slots

    go : (v : Option Client) → changed_value Client (client_tick old.settings now) key v ≡ Some (record { number = number; held = Open u })
        → now - u.ask.first ≤ DEADLINE
    go None e = absurd cc
    go (Some v) e =
        let same : client_tick old.settings now key v ≡ record { number = number; held = Open u } = cc in
        held_in_time (context_of old.settings now key) v.number v.held u (ap (λ (y : Client). y.held) same)

-- In every world.

module _ (links : ℕ → Option Octets) (apart : (i j : ℕ) (l : Octets) → links i ≡ Some l → links j ≡ Some l → i ≡ j) (W : ℕ) (x : Rules)
    (bound : claims.IsBounded W x) (readable : x.readable ≡ reads_reply) where
  pub each_any : (events : List Event) (w w' : World) (run : WorldRun x.overtake w events w')
      → Throughout x.overtake (λ (u : World) (e : Event). Unit {0}) w events w' run
  each_any [] w w' run = tt
  each_any (e ∷ es) w w' run = (tt, each_any es run.0 w' run.2)

  gives_any : (w : World) (n : Net) → (e : Event) → Gives links apart W x bound readable Any w n e
  gives_any w n (Event.Ask c s limits r) = tt
  gives_any w n (Event.AskAway c peer limits r) = tt
  gives_any w n (Event.Deliver number) = λ w' p c t up. tt
  gives_any w n (Event.Noise node from octets) = tt
  gives_any w n (Event.Stray node from octets) = tt
  gives_any w n (Event.Tick node) = tt
  gives_any w n (Event.Advance by own) = tt
  gives_any w n (Event.Change node change) = tt
  gives_any w n (Event.Restart node exact store) = tt
  gives_any w n (Event.Begin node exact) = tt
  gives_any w n (Event.BeginAgain node exact first_id store) = tt

  pub on_run : (events : List Event) (w w' : World) (n : Net) → Over links apart W x None w n → WorldRun x.overtake w events w'
      → Followed links apart W x bound readable Any events w' n
  on_run events w w' n h run = run_followed links apart W x bound readable Any (λ (u : World) (e : Event). Unit {0}) (λ u m over e y. gives_any u m e)
      events w w' n h run (each_any events w w' run)

  pub on_step : (w w' : World) (n : Net) → Over links apart W x None w n → (e : Event) → WorldStep x.overtake w e w'
      → Followed links apart W x bound readable Any (e ∷ []) w' n
  on_step w w' n h e did = step_followed links apart W x bound readable Any w w' n h e (gives_any w n e) did

  pub once_in : (w : World) (n : Net) → Over links apart W x None w n → (number : ℕ) → HasEnded number n.log → endings_of number w.log ≡ 1
  once_in w n h number ended =
      endings_alike number n.log w.log h.log ∙ ended_once number n.log (in_order W x bound h.sound.0 h.sound.2 h.sound.1 n h.sound.3).orderly ended

-- the net of a fresh world
abbrev pub opened_net : World → Net
opened_net w = net_start w.time.pace (λ i. (w.time.clocks i).exact)

pub opened_bounded : (w : World) → Bounded (opened_net w)
opened_bounded w = bounded_start w.time.pace (λ i. (w.time.clocks i).exact)

-- its log is right
pub opened_once : (u : Reuses) (w : World) → IsFresh w → IsOnceSo u (stores_of w.nodes) w.log (stores_of w.nodes)
opened_once u w fresh = subst (λ (l : List Fact). IsOnceSo u (stores_of w.nodes) l (stores_of w.nodes)) (sym fresh.log) (λ node. refl)
