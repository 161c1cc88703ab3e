-- What begins where no entry is live, by the rules of an end.
use Rattle.std.proofs.Common.{◌≡◌, ℕ, Bool, true, false, ◌&&◌, not, List, [], ◌∷◌, Option, Some, None, Result, Ok, Err, if◌then◌else◌, refl, ap, sym, subst, ◌∙◌}
use Rattle.bac_apdu.specs.Apdu.{Apdu, Limits}
use Rattle.bac_apdu.specs.Apdu.Apdu.{ConfirmedRequest}
use Rattle.bac_npdu.specs.Peers.{PeerView}
use Rattle.bac_value.specs.declared.memory.NoMemory.{NoMemory}
use Rattle.bac_store.specs.Stores.{Store}
use Rattle.bac_store.specs.Replies.{reply_to}
use Rattle.bac_service.specs.Values.{Request}
use Rattle.bac_service.specs.Views.{owned_request_view}
use Rattle.bac_protocol.specs.Context.{Context}
use Rattle.bac_protocol.specs.Reuse.{goes_in_segments, has_transfer, idle_on_read, reads_so}
use Rattle.bac_protocol.specs.Server.{Reaction, ServerTransaction, Service, begins, idle_on_apdu, idle_on_request, performs, rests, server_abort}
use Rattle.bac_protocol.specs.Service.{OTHER, Octets}
use Rattle.bac_protocol.specs.Serving.{ReadRule, begins_request, idle_by, needs_no_slot, needs_slot}
use Rattle.bac_transaction.specs.Sends.{Datagram, IsSent, Pairwise, to_all}
use Rattle.bac_transaction.specs.Services.{ArePerformed, Performed as Done, service_of, store_after}
use Rattle.bac_responder.specs.Hearing.{BeginsSo, HeedsRoom, IsPassed, PassesOrBegins, Read, TellsAway, whole_read}
use Rattle.bac_responder.specs.Preparing.{IsCommitted, IsPrepared}
use Rattle.bac_responder.specs.Reactions.{BeginsWith, IsReaction, IsStill}
use Rattle.bac_responder.specs.Reading.{IsRead}
use Rattle.bac_responder.specs.TransactionViews.{performed_view, state_view}
use Rattle.bac_responder.specs.declared.beginning.Begun.{Begun}
use Rattle.bac_responder.specs.declared.effect.Effect.{Effect}
use Rattle.bac_responder.specs.declared.performed.Performed.{Performed}
use Rattle.bac_responder.specs.declared.replying.Commit.{Commit}
use Rattle.bac_responder.specs.declared.replying.PreparedReply.{PreparedReply}
use Rattle.bac_responder.proofs.Performances.{performed}

still_passes : (r : Reaction) (dead : Option ServerTransaction) (peer : PeerView) (s t : Store) (sent : List Datagram) (x : Option Effect)
    → IsStill r dead peer s sent t → x ≡ None → IsPassed r dead peer s sent (performed_view x) t
still_passes r dead peer s t sent x h none =
    record {
      entry = h.entry;
      sends = h.sends;
      effect = subst (λ o. ArePerformed s o (performed_view x)) (sym h.effect) (subst (λ (y : Option Effect). ArePerformed s None (performed_view y)) (sym none) tt);
      store = h.store ∙ ap (λ (y : Option Effect). store_after s (performed_view y)) (sym none);
    }

-- what begins as ever
pub begins_with : (r : Option ServerTransaction → Reaction) (peer : PeerView) (s t : Store) (p : Performed) (o : Option ServerTransaction)
    → BeginsWith r peer s p o t → PassesOrBegins r peer s p o t
begins_with r peer s t p None h = λ dead. still_passes (r dead) dead peer s t p.sends.items p.effect (h.0 dead) h.1
begins_with r peer s t p (Some e) h = h

-- what a commit would perform
pub commits : (s : Store) (p : Option Commit) → (q : Option Done) × IsCommitted s p q
commits s None = (None, refl)
commits s (Some x) = (Some (record { request = owned_request_view x.request; reply = reply_to s (owned_request_view x.request) }), refl)

-- A read.

module _ (c : Context) (dead : Option ServerTransaction) (r : Reaction) (peer : PeerView) (s t : Store) (e : ServerTransaction) (sent : List Datagram)
    (q : Option Done) (h : IsReaction r peer s e sent q t) where
  so : (free b : Bool) → has_transfer r.entry ≡ b
      → reads_so c dead free r ≡ (if b then (if free then r else rests dead (server_abort c OTHER ∷ [])) else record { entry = dead; sends = r.sends; effect = r.effect })
  so free b is = ap (λ x. if x then (if free then r else rests dead (server_abort c OTHER ∷ [])) else record { entry = dead; sends = r.sends; effect = r.effect }) is

  pub transfers : (b : Bool) → goes_in_segments e.state ≡ b → has_transfer r.entry ≡ b
  transfers b is = ap has_transfer h.entry_is ∙ is

  pub read_passes : (free : Bool) → goes_in_segments e.state ≡ false → IsPassed (reads_so c dead free r) dead peer s sent q t
  read_passes free one = subst (λ (v : Reaction). IsPassed v dead peer s sent q t) (sym (so free false (transfers false one)))
      (record { entry = refl; sends = h.sends; effect = h.effect; store = h.store })

  pub read_begins : (free : Bool) → free ≡ true → goes_in_segments e.state ≡ true → IsReaction (reads_so c dead free r) peer s e sent q t
  read_begins free is segments = subst (λ (v : Reaction). IsReaction v peer s e sent q t)
      (sym (so free true (transfers true segments) ∙ ap (λ (b : Bool). if b then r else rests dead (server_abort c OTHER ∷ [])) is)) h

  pub read_turned : (free : Bool) → free ≡ false → goes_in_segments e.state ≡ true → reads_so c dead free r ≡ rests dead (server_abort c OTHER ∷ [])
  read_turned free is segments = so free true (transfers true segments) ∙ ap (λ (b : Bool). if b then r else rests dead (server_abort c OTHER ∷ [])) is

-- one that finds no slot gets an Abort
pub read_rests : (v : Reaction) (dead : Option ServerTransaction) (peer : PeerView) (s : Store) (apdus : List Apdu) (sent all : List Datagram) (x : Option Effect)
    → v ≡ rests dead apdus → Pairwise IsSent (to_all peer apdus) sent → all ≡ sent → x ≡ None → IsPassed v dead peer s all (performed_view x) s
read_rests v dead peer s apdus sent all x same pairs is none =
    subst (λ (w : Reaction). IsPassed w dead peer s all (performed_view x) s) (sym same) (record {
      entry = refl;
      sends = subst (λ (l : List Datagram). Pairwise IsSent (to_all peer apdus) l) (sym is) pairs;
      effect = subst (λ (o : Option Effect). ArePerformed s None (performed_view o)) (sym none) tt;
      store = subst (λ (o : Option Effect). s ≡ store_after s (performed_view o)) (sym none) refl;
    })

-- whether the reply to a read goes in segments, as it was prepared
pub prepared_transfers : (c : Context) (peer : PeerView) (b : ServerTransaction) (octets : Octets) (s : Store) (found : Result Request ℕ) (x : PreparedReply)
    → IsRead b.choice octets found → IsPrepared c peer b.choice b.limits s found [] x → (segments : Bool) → goes_in_segments (state_view b.choice x.state) ≡ segments
    → has_transfer (performs c (service_of s) b [] octets).entry ≡ segments
prepared_transfers c peer b octets s found x read ready segments is =
    let k = commits s x.commit in
    let e : ServerTransaction = record b { state = state_view b.choice x.state } in
    transfers c None (performs c (service_of s) b [] octets) peer s (store_after s k.0) e x.sends.items k.0
    (performed c peer b [] octets s found x e k.0 (store_after s k.0) read ready refl k.1 refl) segments is

-- it finds no slot for its transfer
pub prepared_turned : (c : Context) (dead : Option ServerTransaction) (peer : PeerView) (b : ServerTransaction) (octets : Octets) (s : Store)
    (found : Result Request ℕ) (x : PreparedReply) → IsRead b.choice octets found → IsPrepared c peer b.choice b.limits s found [] x → (free : Bool) → free ≡ false
    → goes_in_segments (state_view b.choice x.state) ≡ true
    → reads_so c dead free (performs c (service_of s) b [] octets) ≡ rests dead (server_abort c OTHER ∷ [])
prepared_turned c dead peer b octets s found x read ready free none segments =
    let k = commits s x.commit in
    let e : ServerTransaction = record b { state = state_view b.choice x.state } in
    read_turned c dead (performs c (service_of s) b [] octets) peer s (store_after s k.0) e x.sends.items k.0
    (performed c peer b [] octets s found x e k.0 (store_after s k.0) read ready refl k.1 refl) free none segments

-- Whether an APDU is a read.

abbrev read_of : Limits → (choice : ℕ) → Octets → Read
read_of limits choice octets = record { choice = choice; limits = limits; octets = octets }

-- what is made of a read
abbrev pub read_reaction : Context → Service → Read → Reaction
read_reaction c service w = performs c service (begins c w.choice w.limits (Some w.octets)) [] w.octets

pub no_read : (c : Context) (service : Service) (reads : ReadRule) (dead : Option ServerTransaction) (free : Bool) (a : Apdu) → whole_read reads a ≡ None
    → idle_by c service reads dead free a ≡ idle_on_apdu c service dead free a
no_read c service ReadRule.Kept dead free a none = refl
no_read c service (ReadRule.Fresh reads) dead free (ConfirmedRequest limits id None choice octets) none = go (reads choice) none
  where
    go : (b : Bool) → (if b then Some (read_of limits choice octets) else None) ≡ None
        → (if b then idle_on_read c service dead free choice limits octets else idle_on_request c service dead free choice limits octets)
        ≡ idle_on_request c service dead free choice limits octets
    go true e = absurd cc
    go false e = refl
no_read c service (ReadRule.Fresh reads) dead free (ConfirmedRequest limits id (Some segment) choice octets) none = refl
no_read c service (ReadRule.Fresh reads) dead free _ none = refl

pub no_read_needs : (c : Context) (service : Service) (reads : ReadRule) (a : Apdu) → whole_read reads a ≡ None → needs_no_slot c service reads a ≡ false
no_read_needs c service ReadRule.Kept a none = refl
no_read_needs c service (ReadRule.Fresh reads) (ConfirmedRequest limits id None choice octets) none = go (reads choice) none
  where
    go : (b : Bool) → (if b then Some (read_of limits choice octets) else None) ≡ None
        → b && not (has_transfer (read_reaction c service (read_of limits choice octets)).entry) ≡ false
    go true e = absurd cc
    go false e = refl
no_read_needs c service (ReadRule.Fresh reads) (ConfirmedRequest limits id (Some segment) choice octets) none = refl
no_read_needs c service (ReadRule.Fresh reads) _ none = refl

pub some_read : (c : Context) (service : Service) (reads : ReadRule) (dead : Option ServerTransaction) (free : Bool) (a : Apdu) (w : Read)
    → whole_read reads a ≡ Some w → idle_by c service reads dead free a ≡ idle_on_read c service dead free w.choice w.limits w.octets
some_read c service ReadRule.Kept dead free a w some = absurd cc
some_read c service (ReadRule.Fresh reads) dead free (ConfirmedRequest limits id None choice octets) w some = go (reads choice) some
  where
    go : (b : Bool) → (if b then Some (read_of limits choice octets) else None) ≡ Some w
        → (if b then idle_on_read c service dead free choice limits octets else idle_on_request c service dead free choice limits octets)
        ≡ idle_on_read c service dead free w.choice w.limits w.octets
    go true e =
        let same : read_of limits choice octets ≡ w = cc in
        ap (λ (x : Read). idle_on_read c service dead free x.choice x.limits x.octets) same
    go false e = absurd cc
some_read c service (ReadRule.Fresh reads) dead free (ConfirmedRequest limits id (Some segment) choice octets) w some = absurd cc
some_read c service (ReadRule.Fresh reads) dead free _ w some = absurd cc

pub some_read_needs : (c : Context) (service : Service) (reads : ReadRule) (a : Apdu) (w : Read) → whole_read reads a ≡ Some w
    → needs_no_slot c service reads a ≡ not (has_transfer (read_reaction c service w).entry)
some_read_needs c service ReadRule.Kept a w some = absurd cc
some_read_needs c service (ReadRule.Fresh reads) (ConfirmedRequest limits id None choice octets) w some = go (reads choice) some
  where
    go : (b : Bool) → (if b then Some (read_of limits choice octets) else None) ≡ Some w
        → b && not (has_transfer (read_reaction c service (read_of limits choice octets)).entry) ≡ not (has_transfer (read_reaction c service w).entry)
    go true e =
        let same : read_of limits choice octets ≡ w = cc in
        ap (λ (x : Read). not (has_transfer (read_reaction c service x).entry)) same
    go false e = absurd cc
some_read_needs c service (ReadRule.Fresh reads) (ConfirmedRequest limits id (Some segment) choice octets) w some = absurd cc
some_read_needs c service (ReadRule.Fresh reads) _ w some = absurd cc

some_read_begins : (reads : ReadRule) (a : Apdu) (w : Read) → whole_read reads a ≡ Some w → begins_request a ≡ true
some_read_begins ReadRule.Kept a w some = absurd cc
some_read_begins (ReadRule.Fresh reads) (ConfirmedRequest limits id None choice octets) w some = refl
some_read_begins (ReadRule.Fresh reads) (ConfirmedRequest limits id (Some segment) choice octets) w some = absurd cc
some_read_begins (ReadRule.Fresh reads) _ w some = absurd cc

-- which of both needs a slot

pub some_needs_slot : (c : Context) (service : Service) (reads : ReadRule) (a : Apdu) (w : Read) → whole_read reads a ≡ Some w
    → needs_slot c service reads a ≡ has_transfer (read_reaction c service w).entry
some_needs_slot c service reads a w some =
    ap (λ (b : Bool). b && not (needs_no_slot c service reads a)) (some_read_begins reads a w some)
    ∙ ap not (some_read_needs c service reads a w some) ∙ twice (has_transfer (read_reaction c service w).entry)
  where
    twice : (b : Bool) → not (not b) ≡ b
    twice true = refl
    twice false = refl

pub no_needs_slot : (c : Context) (service : Service) (reads : ReadRule) (a : Apdu) → whole_read reads a ≡ None → needs_slot c service reads a ≡ begins_request a
no_needs_slot c service reads a none =
    ap (λ (b : Bool). begins_request a && not b) (no_read_needs c service reads a none) ∙ all (begins_request a)
  where
    all : (b : Bool) → b && true ≡ b
    all true = refl
    all false = refl

-- what is made of equal ones

pub begins_as : (r r' : Option ServerTransaction → Reaction) → ((dead : Option ServerTransaction) → r' dead ≡ r dead) → (peer : PeerView) (s : Store)
    (x : Result (Option Begun) NoMemory) (t : Store) → BeginsSo r peer s x t → BeginsSo r' peer s x t
begins_as r r' same peer s (Ok (Some x)) t h = go x.performed x.entry h
  where
    go : (p : Performed) (o : Option ServerTransaction) → PassesOrBegins r peer s p o t → PassesOrBegins r' peer s p o t
    go p None h = λ dead. subst (λ (v : Reaction). IsPassed v dead peer s p.sends.items (performed_view p.effect) t) (sym (same dead)) (h dead)
    go p (Some e) h = λ dead. subst (λ (v : Reaction). IsReaction v peer s e p.sends.items (performed_view p.effect) t) (sym (same dead)) (h dead)
begins_as r r' same peer s (Ok None) t h = h
begins_as r r' same peer s (Err e) t h = h

pub tells_as : (away other : Bool) → other ≡ away → (x : Result (Option Begun) NoMemory) → TellsAway away x → TellsAway other x
tells_as away other same x h = subst (λ (b : Bool). TellsAway b x) (sym same) h

pub heeds_as : {T : Type 0} (room nothing other : Bool) → other ≡ nothing → (x : Result (Option T) NoMemory) → HeedsRoom room nothing x → HeedsRoom room other x
heeds_as room nothing other same x h = subst (λ (b : Bool). HeedsRoom room b x) (sym same) h
