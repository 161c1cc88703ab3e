-- Where no event is one of a stranger, the log has nothing of them.
use Rattle.std.proofs.Common.{◌≡◌, ℕ, Bool, true, false, List, [], ◌∷◌, length, Option, Some, None, if◌then◌else◌, nat_eq, refl, sym, ap, subst, inl, inr, ◌∙◌}
use Rattle.std.specs.Prelude.{is_some}
use Rattle.bac_protocol.specs.Service.{Octets}
use Rattle.bac_protocol.specs.Server.{Effect}
use Rattle.bac_protocol.specs.Wire.{is_from_client}
use Rattle.bac_store.specs.Stores.{Store}
use Rattle.bac_transaction.specs.Keys.{PeerKey}
use Rattle.bac_transaction.specs.Ends.{act_at, key_of as heard_key}
use Rattle.bac_transaction.specs.Meanings.{EndedView}
use Rattle.bac_world.specs.Services as service
use Rattle.bac_world.specs.Services.{ArePerformed}
use Rattle.bac_world.specs.Node.{Node, Outcome, NodeOn, IsHeardBy}
use Rattle.bac_world.specs.Once.{Fact, HasNoStranger}
use Rattle.bac_world.specs.World.{World, Event, Copy, Note, Acts, AreEnded, AreLogged, IsOfNone, IsFresh, DeliversIf, WorldStep, WorldRun, MakeNoStray}
use Rattle.bac_world.specs.World.{ending_fact, is_away, is_deliverable, told}
use Rattle.bac_world.specs.World.Event.{Ask, AskAway, Deliver, Noise, Stray, Tick, Advance, Change, Restart, Begin, BeginAgain}

-- no ask of a stranger is noted
abbrev pub AreNear : List Note → Type 0
AreNear notes = (n : ℕ) → is_away n notes ≡ false

pub near_more : (note : Note) (notes : List Note) → is_some note.away ≡ false → AreNear notes → AreNear (note ∷ notes)
near_more note notes near all n = go (nat_eq n (length notes))
  where
    go : (b : Bool) → (if b then is_some note.away else is_away n notes) ≡ false
    go true = near
    go false = all n

-- what a node performs as it hears a datagram is of a peer at the link from which that comes
performed_for : (store : Store) (p : PeerKey) (e : Option Effect) (d : Option service.Performed) → ArePerformed store (act_at p e) d → (q : service.Performed)
    → d ≡ Some q → q.key ≡ p
performed_for store p None None done q is = absurd cc
performed_for store p None (Some d) done q is = absurd done
performed_for store p (Some e) None done q is = absurd done
performed_for store p (Some e) (Some d) done q is = let same : d ≡ q = cc in ap (λ (y : service.Performed). y.key) (sym same) ∙ done.key

from_there : (now : ℕ) (from octets : Octets) (a b : Node) (o : Outcome) → NodeOn now from octets a b o → (q : service.Performed) → o.performed ≡ Some q
    → q.key.peer.link ≡ from
from_there now from octets a b o (inl d) q is = absurd (let none : o.performed ≡ None = ap (λ (y : Outcome). y.performed) d.outcome in cc)
from_there now from octets a b o (inr z) q is = go (is_from_client z.apdu) z.heard
  where
    go : (up : Bool) → IsHeardBy up z.peer z.apdu now a b o → q.key.peer.link ≡ from
    go true turn = ap (λ (y : PeerKey). y.peer.link) (performed_for a.store (heard_key z.peer z.apdu) _ o.performed turn.performed q is)
        ∙ ap (λ y. y.link) z.means.carries.sender
    go false turn = absurd (let none : o.performed ≡ None = turn.performed in cc)

after_endings : (notes : List Note) → AreNear notes → (node : ℕ) (fs : List EndedView) (old new : List Fact) → AreEnded notes node fs old new
    → HasNoStranger old → HasNoStranger new
after_endings notes near node [] old new h none = subst HasNoStranger (sym h) none
after_endings notes near node (f ∷ fs) old new h none = after_endings notes near node fs (ending_fact (is_away h.0 notes) h.0 f.how ∷ old) new h.2
    (subst (λ (b : Bool). HasNoStranger (ending_fact b h.0 f.how ∷ old)) (sym (near h.0)) none)

after_performed : (nodes : List Node) (notes : List Note) (node : ℕ) (after : Node) (o : Option service.Performed)
    → ((q : service.Performed) → o ≡ Some q → IsOfNone nodes q.key.peer.link → ⊥) → (old new : List Fact)
    → AreLogged nodes notes node after o old new → HasNoStranger old → HasNoStranger new
after_performed nodes notes node after None near old new h none = subst HasNoStranger (sym h) none
after_performed nodes notes node after (Some q) near old new (inl h) none = subst HasNoStranger (sym h.log) none
after_performed nodes notes node after (Some q) near old new (inr h) none = absurd (near q refl h.stranger)

-- no stranger has left anything
pub record IsAlone (w : World) : Type 0 where
  pub log : HasNoStranger w.log
  pub notes : AreNear w.notes

after_acts : (w w' : World) (i : ℕ) (b : Node) (o : Outcome) → Acts w i b o w'
    → ((q : service.Performed) → o.performed ≡ Some q → IsOfNone w.nodes q.key.peer.link → ⊥) → IsAlone w → IsAlone w'
after_acts w w' i b o acts near alone = record {
  log = after_performed w.nodes w.notes i b o.performed near acts.between w'.log acts.logged
      (after_endings w.notes alone.notes i o.ended w.log acts.between acts.ended alone.log);
  notes = subst AreNear (sym acts.notes) alone.notes;
}

after_delivery : (b : Bool) (w : World) (c : Copy) (w' : World) → DeliversIf b w c w' → IsAlone w → IsAlone w'
after_delivery true w c w' d alone = after_acts w w' c.to d.hears.after d.hears.outcome d.hears.acts
    (λ q is none. none c.from (d.sender ∙ ap Some (sym (from_there (told w c.to) d.link c.octets d.hears.before d.hears.after d.hears.outcome d.hears.on q is)))) alone
after_delivery false w c w' same alone = subst IsAlone (sym same) alone

after_step : (overtake : ℕ) (w w' : World) (e : Event) → MakeNoStray (e ∷ []) → WorldStep overtake w e w' → IsAlone w → IsAlone w'
after_step overtake w w' (Ask client server limits r) calm (inl s) alone = record {
  log = subst HasNoStranger (sym s.log) alone.log;
  notes = subst AreNear (sym s.notes) (near_more
      (record { key = record { client = client; server = server; invoke_id = s.accepted.invoke_id }; ticket = s.accepted.ticket; away = None }) w.notes refl alone.notes);
}
after_step overtake w w' (Ask client server limits r) calm (inr s) alone = subst IsAlone (sym s.same) alone
after_step overtake w w' (AskAway client peer limits r) calm s alone = absurd calm
after_step overtake w w' (Deliver number) calm s alone =
    after_delivery (is_deliverable overtake w.time.pace.life w.time.now number w.copies s.copy) w s.copy w' s.goes alone
after_step overtake w w' (Noise node from octets) calm (inl s) alone = after_acts w w' node s.hears.after s.hears.outcome s.hears.acts (go s.hears.on) alone
  where
    go : NodeOn (told w node) from octets s.hears.before s.hears.after s.hears.outcome → (q : service.Performed) → s.hears.outcome.performed ≡ Some q
        → IsOfNone w.nodes q.key.peer.link → ⊥
    go (inl d) q is none = let nothing : s.hears.outcome.performed ≡ None = ap (λ (y : Outcome). y.performed) d.outcome in absurd cc
    go (inr z) q is none = s.meaningless z.peer z.apdu z.means
after_step overtake w w' (Noise node from octets) calm (inr s) alone = subst IsAlone (sym s.same) alone
after_step overtake w w' (Stray node from octets) calm s alone = absurd calm
after_step overtake w w' (Tick node) calm s alone =
    after_acts w w' node s.after s.outcome s.acts (λ q is none. let nothing : s.outcome.performed ≡ None = s.tick.performed in absurd cc) alone
after_step overtake w w' (Advance by own) calm s alone = subst IsAlone (sym s) (record { log = alone.log; notes = alone.notes })
after_step overtake w w' (Change node c) calm s alone =
    record { log = subst HasNoStranger (sym s.log) alone.log; notes = subst AreNear (sym s.notes) alone.notes }
after_step overtake w w' (Restart node exact store) calm s alone =
    record { log = subst HasNoStranger (sym s.log) alone.log; notes = subst AreNear (sym s.notes) alone.notes }
after_step overtake w w' (Begin node exact) calm s alone = subst IsAlone (sym s.is) (record { log = alone.log; notes = alone.notes })
after_step overtake w w' (BeginAgain node exact first_id store) calm s alone =
    record { log = subst HasNoStranger (sym s.log) alone.log; notes = subst AreNear (sym s.notes) alone.notes }

first_calm : (e : Event) (es : List Event) → MakeNoStray (e ∷ es) → MakeNoStray (e ∷ []) × MakeNoStray es
first_calm (Ask client server limits r) es calm = (tt, calm)
first_calm (AskAway client peer limits r) es calm = absurd calm
first_calm (Deliver number) es calm = (tt, calm)
first_calm (Noise node from octets) es calm = (tt, calm)
first_calm (Stray node from octets) es calm = absurd calm
first_calm (Tick node) es calm = (tt, calm)
first_calm (Advance by own) es calm = (tt, calm)
first_calm (Change node c) es calm = (tt, calm)
first_calm (Restart node exact store) es calm = (tt, calm)
first_calm (Begin node exact) es calm = (tt, calm)
first_calm (BeginAgain node exact first_id store) es calm = (tt, calm)

pub after_run : (overtake : ℕ) (events : List Event) (w w' : World) → MakeNoStray events → WorldRun overtake w events w' → IsAlone w → IsAlone w'
after_run overtake [] w w' calm run alone = subst IsAlone (sym run) alone
after_run overtake (e ∷ es) w w' calm run alone =
    let parts = first_calm e es calm in
    after_run overtake es run.0 w' parts.1 run.2 (after_step overtake w run.0 e parts.0 run.1 alone)

pub no_stranger_in_run : (overtake : ℕ) (events : List Event) (w w' : World) → IsFresh w → MakeNoStray events → WorldRun overtake w events w'
    → HasNoStranger w'.log
no_stranger_in_run overtake events w w' fresh calm run = (after_run overtake events w w' calm run (record {
  log = subst HasNoStranger (sym fresh.log) tt;
  notes = subst AreNear (sym fresh.notes) (λ n. refl);
})).log
