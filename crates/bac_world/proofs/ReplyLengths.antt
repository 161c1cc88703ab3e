-- Replies that can be sent: what is performed, where those in the log can; and logs grow.
use Rattle.std.proofs.Common.{◌≡◌, ℕ, ◌≤◌, Bool, true, false, List, [], ◌∷◌, Option, Some, None, sym, ap, subst, inl, inr, ◌∙◌, arith}
use Rattle.bac_service.specs.Replies as plain
use Rattle.bac_service.specs.Spellings.{complex_spelling}
use Rattle.bac_service.proofs.LengthLaws.{length_complex}
use Rattle.bac_service.proofs.Wholes.{request_again}
use Rattle.bac_store.specs.ReplyLengths.{DATA_LIMIT, reply_length}
use Rattle.bac_store.specs.Replies.{reply_to}
use Rattle.bac_store.specs.Stores.{Store}
use Rattle.bac_protocol.specs.LongApdus.{ReplyFits}
use Rattle.bac_protocol.specs.Service as machine
use Rattle.bac_protocol.specs.Service.{Outcome}
use Rattle.bac_protocol.specs.Service.Outcome.{Replies}
use Rattle.bac_protocol.specs.Server.{Effect}
use Rattle.bac_protocol.proofs.ShortNets.{EffectFits}
use Rattle.bac_transaction.specs.Ends.{act_at}
use Rattle.bac_transaction.specs.Keys.{PeerKey}
use Rattle.bac_transaction.specs.Meanings.{EndedView, Ending}
use Rattle.bac_transaction.specs.Services.{outcome_by, outcome_of, service_of}
use Rattle.bac_world.specs.LongApdus.{RepliesFit}
use Rattle.bac_world.specs.Node.{Node, Outcome as outcome}
use Rattle.bac_world.specs.Once.{Fact}
use Rattle.bac_world.specs.Once.Fact.{Performed, Served}
use Rattle.bac_world.specs.ReusingLogs.{Reuses}
use Rattle.bac_world.specs.ReusingWorlds.{ActsSo, AreLoggedSo, DeliversIfSo, WorldRunSo, WorldStepSo}
use Rattle.bac_world.specs.Services as service
use Rattle.bac_world.specs.Services.{ArePerformed}
use Rattle.bac_world.specs.World.{AreEnded, AreLogged, Copy, Event, Note, World, ending_fact, is_away, is_deliverable}
use Rattle.bac_world.specs.World.Event.{Ask, AskAway, Deliver, Noise, Stray, Tick, Advance, Change, Restart, Begin, BeginAgain}
use Rattle.bac_world.proofs.Steps.{acts_as}

-- What is performed.

inside : (p q : machine.Reply) → Replies p ≡ Replies q → p ≡ q
inside p q e = cc

outcome_fits : (p : plain.Reply) (q : machine.Reply) → outcome_of p ≡ Replies q → reply_length p ≤ DATA_LIMIT → ReplyFits q
outcome_fits plain.Reply.Simple q is fits = subst ReplyFits (inside machine.Reply.Simple q is) tt
outcome_fits (plain.Reply.Complex c) q is fits =
    subst ReplyFits (inside (machine.Reply.Complex (complex_spelling c)) q is) (let same = length_complex c in omega arith)
outcome_fits (plain.Reply.Error class code) q is fits = subst ReplyFits (inside (machine.Reply.Error class code) q is) tt
outcome_fits (plain.Reply.Reject reason) q is fits = absurd cc

abbrev pub PerformedFits : Option service.Performed → Type 0
PerformedFits None = Unit {0}
PerformedFits (Some d) = reply_length d.reply ≤ DATA_LIMIT

pub effect_fits : (s : Store) (key : PeerKey) (e : Option Effect) (d : Option service.Performed) → ArePerformed s (act_at key e) d → PerformedFits d
    → EffectFits (service_of s) e
effect_fits s key None d done fits = tt
effect_fits s key (Some f) None done fits = absurd done
effect_fits s key (Some f) (Some d) done fits = λ is.
    outcome_fits (reply_to s d.request) f.reply
    (ap (outcome_by s) (sym (request_again f.request.choice f.request.service d.request done.what.request)) ∙ is)
    (subst (λ (p : plain.Reply). reply_length p ≤ DATA_LIMIT) done.what.reply fits)

-- The log.

abbrev Shrinks : (old new : List Fact) → Type 0
Shrinks old new = RepliesFit new → RepliesFit old

before_ending : (away : Bool) (n : ℕ) (how : Ending) (log : List Fact) → Shrinks log (ending_fact away n how ∷ log)
before_ending true n how log fits = fits
before_ending false n how log fits = fits

before_endings : (notes : List Note) (node : ℕ) (fs : List EndedView) (old new : List Fact) → AreEnded notes node fs old new → Shrinks old new
before_endings notes node [] old new h fits = subst RepliesFit h fits
before_endings notes node (f ∷ fs) old new h fits = before_ending (is_away h.0 notes) h.0 f.how old
    (before_endings notes node fs (ending_fact (is_away h.0 notes) h.0 f.how ∷ old) new h.2 fits)

logged_fits : (nodes : List Node) (notes : List Note) (node : ℕ) (after : Node) (o : Option service.Performed) (old new : List Fact)
    → AreLogged nodes notes node after o old new → RepliesFit new → PerformedFits o × RepliesFit old
logged_fits nodes notes node after None old new h fits = (tt, subst RepliesFit h fits)
logged_fits nodes notes node after (Some q) old new (inl h) fits =
    let both : RepliesFit (Performed h.number q.request q.reply ∷ old) = subst RepliesFit h.log fits in (both.0, both.1)
logged_fits nodes notes node after (Some q) old new (inr h) fits =
    let both : RepliesFit (Served q.key.peer node q.key.invoke_id h.entry.begin q.request q.reply ∷ old) = subst RepliesFit h.log fits in (both.0, both.1)

logged_fits_so : (reuse : Bool) (nodes : List Node) (notes : List Note) (node : ℕ) (after : Node) (o : Option service.Performed) (old new : List Fact)
    → AreLoggedSo reuse nodes notes node after o old new → RepliesFit new → PerformedFits o × RepliesFit old
logged_fits_so false nodes notes node after o old new h fits = logged_fits nodes notes node after o old new h fits
logged_fits_so true nodes notes node after None old new h fits = (tt, subst RepliesFit h fits)
logged_fits_so true nodes notes node after (Some q) old new (inl h) fits =
    let both : RepliesFit (Performed h.number q.request q.reply ∷ old) = subst RepliesFit h.log fits in (both.0, both.1)
logged_fits_so true nodes notes node after (Some q) old new (inr h) fits =
    let both : RepliesFit (Served q.key.peer node q.key.invoke_id h.begin q.request q.reply ∷ old) = subst RepliesFit h.log fits in (both.0, both.1)

-- what a node's call performed, and the log before it
pub acts_fit : (reuse : Bool) (w w' : World) (i : ℕ) (b : Node) (o : outcome) → ActsSo reuse w i b o w' → RepliesFit w'.log
    → PerformedFits o.performed × RepliesFit w.log
acts_fit reuse w w' i b o acts fits =
    let both = logged_fits_so reuse w.nodes w.notes i b o.performed acts.between w'.log acts.logged fits in
    (both.0, before_endings w.notes i o.ended w.log acts.between acts.ended both.1)

same_fits : (w w' : World) → w' ≡ w → Shrinks w.log w'.log
same_fits w w' is fits = subst (λ (u : World). RepliesFit u.log) is fits

delivery_fits : (b : Bool) (u : Reuses) (w : World) (c : Copy) (w' : World) → DeliversIfSo b u w c w' → Shrinks w.log w'.log
delivery_fits true u w c w' d fits = (acts_fit (u c.to) w w' c.to d.hears.after d.hears.outcome d.hears.acts fits).1
delivery_fits false u w c w' same fits = same_fits w w' same fits

step_fits : (overtake : ℕ) (u : Reuses) (w w' : World) (e : Event) → WorldStepSo overtake u w e w' → Shrinks w.log w'.log
step_fits overtake u w w' (Ask client server limits r) (inl s) fits = subst RepliesFit s.log fits
step_fits overtake u w w' (Ask client server limits r) (inr s) fits = same_fits w w' s.same fits
step_fits overtake u w w' (AskAway client peer limits r) (inl s) fits = subst RepliesFit s.log fits
step_fits overtake u w w' (AskAway client peer limits r) (inr s) fits = same_fits w w' s.same fits
step_fits overtake u w w' (Deliver number) s fits =
    delivery_fits (is_deliverable overtake w.time.pace.life w.time.now number w.copies s.copy) u w s.copy w' s.goes fits
step_fits overtake u w w' (Noise node from octets) (inl s) fits = (acts_fit (u node) w w' node s.hears.after s.hears.outcome s.hears.acts fits).1
step_fits overtake u w w' (Noise node from octets) (inr s) fits = same_fits w w' s.same fits
step_fits overtake u w w' (Stray node from octets) (inl s) fits = (acts_fit (u node) w w' node s.hears.after s.hears.outcome s.hears.acts fits).1
step_fits overtake u w w' (Stray node from octets) (inr s) fits = same_fits w w' s.same fits
step_fits overtake u w w' (Tick node) s fits = (acts_fit false w w' node s.after s.outcome (acts_as w w' node s.after s.outcome s.acts) fits).1
step_fits overtake u w w' (Advance by own) s fits = subst RepliesFit (ap (λ (v : World). v.log) s) fits
step_fits overtake u w w' (Change node c) s fits = subst RepliesFit s.log fits
step_fits overtake u w w' (Restart node exact store) s fits = subst RepliesFit s.log fits
step_fits overtake u w w' (Begin node exact) s fits = subst RepliesFit (ap (λ (v : World). v.log) s.is) fits
step_fits overtake u w w' (BeginAgain node exact first_id store) s fits = subst RepliesFit s.log fits

pub run_fits : (overtake : ℕ) (u : Reuses) (events : List Event) (w w' : World) → WorldRunSo overtake u w events w' → Shrinks w.log w'.log
run_fits overtake u [] w w' run fits = same_fits w w' run fits
run_fits overtake u (e ∷ es) w w' run fits = step_fits overtake u w run.0 e run.1 (run_fits overtake u es run.0 w' run.2 fits)
