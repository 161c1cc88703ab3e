-- A performance that was prepared and committed is what the machine says.
use Rattle.std.proofs.Common.{◌≡◌, ℕ, Bool, true, false, List, [], ◌∷◌, ◌++◌, Option, Some, None, Result, Ok, Err, refl, ap, sym, subst, ◌∙◌, if◌then◌else◌}
use Rattle.std.specs.Global.{Vec}
use Rattle.std.specs.Prelude.{IfOk}
use Rattle.bac_value.specs.declared.memory.NoMemory.{NoMemory}
use Rattle.bac_apdu.specs.Apdu.{Apdu, Limits}
use Rattle.bac_npdu.specs.Peers.{PeerView}
use Rattle.bac_service.specs.Replies as plain
use Rattle.bac_service.specs.Values.{Request, choice_of}
use Rattle.bac_service.specs.Requests.{SpellsRequest}
use Rattle.bac_service.specs.Replies.{SpellsComplex}
use Rattle.bac_service.specs.Spellings.{complex_spelling}
use Rattle.bac_store.specs.Stores.{Store}
use Rattle.bac_store.specs.Replies.{reply_to}
use Rattle.bac_store.specs.ReplyKinds.{FitsChoice}
use Rattle.bac_store.specs.Plans.{IsPlanFor}
use Rattle.bac_store.proofs.ReplyKinds.{replies_fit}
use Rattle.bac_protocol.specs.Context.{Context}
use Rattle.bac_protocol.specs.Sizes.{Way, reply_way_of}
use Rattle.bac_protocol.specs.Sizes.Way.{InOne, InSegments, Refused}
use Rattle.bac_protocol.specs.Service.{Octets, Reply}
use Rattle.bac_protocol.specs.Service.Outcome.{Replies, Rejects}
use Rattle.bac_protocol.specs.Server as server
use Rattle.bac_protocol.specs.Server.{ServerTransaction, Effect, State, sends_reply, performs, performs_so, effect_of}
use Rattle.bac_transaction.specs.Meanings.{MeansReply}
use Rattle.bac_transaction.specs.Sends.{Datagram, Pairwise, IsSent, to_all}
use Rattle.bac_transaction.specs.Services.{Performed, ArePerformed, outcome_of, outcome_by, service_of, store_after}
use Rattle.bac_responder.specs.Reactions.{IsReaction}
use Rattle.bac_responder.specs.Reading.{IsRead}
use Rattle.bac_responder.specs.TransactionViews.{IsSendable, state_view}
use Rattle.bac_responder.specs.Preparing.{sent_by, state_by, is_performed, Waits, IsReplyPrepared, IsPrepared, IsCommitted, CanCommit}
use Rattle.bac_responder.specs.Preparing.{IsKeptApdu, IsNoReject, IsPending, IsSentByWay, IsReady, IsRejected, IsSpelledReply}
use Rattle.bac_responder.specs.declared.replying.Commit.{Commit}
use Rattle.bac_responder.specs.declared.replying.PreparedReply.{PreparedReply}
use Rattle.bac_transaction.proofs.Pieces.{one_more_sent}

sends_reply_is : (c : Context) (e : ServerTransaction) (before : List Apdu) (octets : Octets) (reply : Reply) (way : Way ℕ) → sends_reply c e before octets reply way
    ≡ record {
      entry = Some (record e { state = state_by c e.choice reply way });
      sends = before ++ sent_by c e.choice reply way ∷ [];
      effect = if is_performed way then effect_of e octets reply else None;
    }
sends_reply_is c e before octets reply InOne = refl
sends_reply_is c e before octets reply (InSegments pieces) = refl
sends_reply_is c e before octets reply (Refused reason) = refl

-- A store's reply is no Reject, and means what its octets spell.

no_reject : (choice : ℕ) (p : plain.Reply) → FitsChoice choice p → IsNoReject p
no_reject choice plain.Reply.Simple f = tt
no_reject choice (plain.Reply.Complex c) f = tt
no_reject choice (plain.Reply.Error class code) f = tt
no_reject choice (plain.Reply.Reject reason) f = absurd f

pub store_no_reject : (s : Store) (r : Request) → IsNoReject (reply_to s r)
store_no_reject s r = no_reject (choice_of r) (reply_to s r) (replies_fit s r)

reply_inside : {a b : Reply} → Replies a ≡ Replies b → a ≡ b
reply_inside e = cc

means : (choice : ℕ) (p : plain.Reply) (reply : Reply) → FitsChoice choice p → IsSpelledReply p → outcome_of p ≡ Replies reply → MeansReply choice reply p
means choice plain.Reply.Simple reply f s e = subst (λ (a : Reply). MeansReply choice a plain.Reply.Simple) (reply_inside e) tt
means choice (plain.Reply.Complex c) reply f s e =
    subst (λ (a : Reply). MeansReply choice a (plain.Reply.Complex c)) (reply_inside e) (subst (λ (k : ℕ). SpellsComplex k c (complex_spelling c)) (sym f) s)
means choice (plain.Reply.Error class code) reply f s e =
    subst (λ (a : Reply). MeansReply choice a (plain.Reply.Error class code)) (reply_inside e) (refl, refl)
means choice (plain.Reply.Reject reason) reply f s e = absurd f

pub store_means : (s : Store) (r : Request) (reply : Reply) → IsSpelledReply (reply_to s r) → outcome_of (reply_to s r) ≡ Replies reply
    → MeansReply (choice_of r) reply (reply_to s r)
store_means s r reply = means (choice_of r) (reply_to s r) reply (replies_fit s r)

-- What waits can be committed.

waits_commits : (performed : Bool) (s : Store) (r : Request) (reply : Reply) (p : Option Commit) → Waits performed s r reply p → CanCommit s p
waits_commits true s r reply (Some p) w = subst (λ (q : Request). IsPlanFor s q p.plan) (sym w.request) w.plan
waits_commits true s r reply None w = tt
waits_commits false s r reply (Some p) w = absurd w
waits_commits false s r reply None w = tt

pub prepared_commits : (c : Context) (peer : PeerView) (choice : ℕ) (limits : Limits) (s : Store) (found : Result Request ℕ) (before : List Apdu)
    (x : PreparedReply) → IsPrepared c peer choice limits s found before x → CanCommit s x.commit
prepared_commits c peer choice limits s (Ok r) before x p = waits_commits _ s r p.reply x.commit p.pending
prepared_commits c peer choice limits s (Err reason) before x p = rw p.pending tt

effect_is : (performed : Bool) (s : Store) (r : Request) (e : ServerTransaction) (octets : Octets) (reply : Reply) (p : Option Commit) (q : Option Performed)
    → SpellsRequest e.choice r octets → Waits performed s r reply p → IsCommitted s p q
    → ArePerformed s (if performed then effect_of e octets reply else None) q
effect_is true s r e octets reply (Some p) q spells w k =
    let x : Effect = record { request = record { choice = e.choice; service = octets }; reply = reply } in
    let right : MeansReply e.choice reply (reply_to s r) = subst (λ (n : ℕ). MeansReply n reply (reply_to s r)) (sym spells.choice_is) w.means in
    subst (λ (o : Option Performed). ArePerformed s (Some x) o) (sym k) (record {
      request = subst (λ (a : Request). SpellsRequest e.choice a octets) (sym w.request) spells;
      reply = refl;
      means = subst (λ (a : Request). MeansReply e.choice reply (reply_to s a)) (sym w.request) right;
    })
effect_is true s r e octets reply None q spells w k = absurd w
effect_is false s r e octets reply (Some p) q spells w k = absurd w
effect_is false s r e octets reply None q spells w k = rw k tt

pub performed : (c : Context) (peer : PeerView) (e : ServerTransaction) (before : List Apdu) (octets : Octets) (s : Store) (found : Result Request ℕ)
    (x : PreparedReply) (entry : ServerTransaction) (q : Option Performed) (t : Store)
    → IsRead e.choice octets found → IsPrepared c peer e.choice e.limits s found before x
    → entry ≡ record e { state = state_view e.choice x.state } → IsCommitted s x.commit q → t ≡ store_after s q
    → IsReaction (performs c (service_of s) e before octets) peer s entry x.sends.items q t
performed c peer e before octets s (Ok r) x entry q t read ready same committed after =
    let way : Way ℕ = reply_way_of c.settings e.limits ready.reply in
    let outcome : service_of s e.choice octets ≡ Replies ready.reply = ap (outcome_by s) read.read ∙ ready.outcome in
    let all = ap (performs_so c e before octets) outcome ∙ sends_reply_is c e before octets ready.reply way in
    subst (λ (v : server.Reaction). IsReaction v peer s entry x.sends.items q t) (sym all) (record {
      entry_is = ap (λ (z : State). Some (record e { state = z })) (sym ready.prepared.viewed) ∙ ap (λ (z : ServerTransaction). Some z) (sym same);
      sends = ready.prepared.sent;
      effect = effect_is (is_performed way) s r e octets ready.reply x.commit q read.spelled ready.pending committed;
      store = after;
    })
performed c peer e before octets s (Err reason) x entry q t read ready same committed after =
    let outcome : service_of s e.choice octets ≡ Rejects reason = ap (outcome_by s) read.read in
    let all = ap (performs_so c e before octets) outcome in
    subst (λ (v : server.Reaction). IsReaction v peer s entry x.sends.items q t) (sym all) (record {
      entry_is = ap (λ (z : State). Some (record e { state = z })) (sym ready.prepared.viewed) ∙ ap (λ (z : ServerTransaction). Some z) (sym same);
      sends = ready.prepared.sent;
      effect =
          (let none : q ≡ None = subst (λ (o : Option Commit). IsCommitted s o q) ready.pending committed in
          subst (λ (o : Option Performed). ArePerformed s None o) (sym none) tt);
      store = after;
    })

-- After the SegmentACK of the last segment.

sent_after : (peer : PeerView) (before : List Apdu) (a : Apdu) (front last all : List Datagram) → Pairwise IsSent (to_all peer before) front
    → Pairwise IsSent (to_all peer (a ∷ [])) last → all ≡ front ++ last → Pairwise IsSent (to_all peer (before ++ a ∷ [])) all
sent_after peer before a front [] all p r is = absurd r
sent_after peer before a front (d ∷ []) all p r is =
    subst (λ (l : List Datagram). Pairwise IsSent (to_all peer (before ++ a ∷ [])) l) (sym is) (one_more_sent peer before front a d p r.0)
sent_after peer before a front (d ∷ d' ∷ last) all p r is = absurd r.1

reply_after : (peer : PeerView) (choice : ℕ) (before : List Apdu) (a : Apdu) (z : State) (x : PreparedReply) (front : List Datagram) (all : Vec Datagram)
    → Pairwise IsSent (to_all peer before) front → all.items ≡ front ++ x.sends.items → IsReplyPrepared peer choice (a ∷ []) z x
    → IsReplyPrepared peer choice (before ++ a ∷ []) z (record { state = x.state; sends = all; commit = x.commit })
reply_after peer choice before a z x front all p is prepared =
    record {
      viewed = prepared.viewed;
      sendable = prepared.sendable;
      sent = sent_after peer before a front x.sends.items all.items p prepared.sent is;
    }

pub prepared_after : (c : Context) (peer : PeerView) (choice : ℕ) (limits : Limits) (s : Store) (found : Result Request ℕ) (before : List Apdu)
    (x : PreparedReply) (front : List Datagram) (all : Vec Datagram) → Pairwise IsSent (to_all peer before) front → all.items ≡ front ++ x.sends.items
    → IsPrepared c peer choice limits s found [] x → IsPrepared c peer choice limits s found before (record { state = x.state; sends = all; commit = x.commit })
prepared_after c peer choice limits s (Ok r) before x front all p is ready =
    record {
      reply = ready.reply;
      outcome = ready.outcome;
      prepared = reply_after peer choice before _ _ x front all p is ready.prepared;
      pending = ready.pending;
    }
prepared_after c peer choice limits s (Err reason) before x front all p is ready =
    record { prepared = reply_after peer choice before _ _ x front all p is ready.prepared; pending = ready.pending }

-- What is prepared of a request that was read, and of a Reject.

waits : (performs : Bool) (s : Store) (r : Request) (reply : Reply) (p : Commit) (o : Option Commit) → o ≡ (if performs then Some p else None)
    → IsPending s r reply p → Waits performs s r reply o
waits true s r reply p o is pending = subst (λ (x : Option Commit). Waits true s r reply x) (sym is) pending
waits false s r reply p o is pending = subst (λ (x : Option Commit). Waits false s r reply x) (sym is) tt

pub reply_ready : (c : Context) (peer : PeerView) (choice : ℕ) (limits : Limits) (s : Store) (r : Request) (reply : Reply) (p : Commit)
    → outcome_of (reply_to s r) ≡ Replies reply → IsPending s r reply p → (x : Result PreparedReply NoMemory)
    → IfOk x (IsSentByWay c peer choice reply (reply_way_of c.settings limits reply) p) → IfOk x (IsReady c peer choice limits s r [])
reply_ready c peer choice limits s r reply p outcome pending (Ok x) h =
    record {
      reply = reply;
      outcome = outcome;
      prepared = h.prepared;
      pending = waits (is_performed (reply_way_of c.settings limits reply)) s r reply p x.commit h.commit pending;
    }
reply_ready c peer choice limits s r reply p outcome pending (Err e) h = tt

pub reject_ready : (c : Context) (peer : PeerView) (choice reason : ℕ) (x : Result PreparedReply NoMemory)
    → IfOk x (IsKeptApdu peer choice (Apdu.Reject c.invoke_id reason) None) → IfOk x (IsRejected c peer choice reason [])
reject_ready c peer choice reason (Ok x) h = record { prepared = h.prepared; pending = h.commit }
reject_ready c peer choice reason (Err e) h = tt

pub prepared_sendable : (c : Context) (peer : PeerView) (choice : ℕ) (limits : Limits) (s : Store) (found : Result Request ℕ) (before : List Apdu) (x : PreparedReply)
    → IsPrepared c peer choice limits s found before x → IsSendable choice x.state
prepared_sendable c peer choice limits s (Ok r) before x p = p.prepared.sendable
prepared_sendable c peer choice limits s (Err reason) before x p = p.prepared.sendable
