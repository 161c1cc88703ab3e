-- What comes of an APDU of the newest ask at both servers.
use Rattle.std.proofs.Common.{◌≡◌, ℕ, ◌+◌, ◌-◌, ◌<◌, ◌⊎◌, Bool, true, false, [], ◌∷◌, Option, Some, None}
use Rattle.std.proofs.Common.{nat_le, refl, ap, sym, subst, inl, inr, ◌∙◌, arith}
use Rattle.std.proofs.lemmas.Bool.Decides.{nat_tests}
use Rattle.bac_apdu.specs.Apdu.{Apdu, Limits}
use Rattle.bac_apdu.specs.Apdu.Apdu.{ConfirmedRequest, UnconfirmedRequest, SimpleAck, ComplexAck, SegmentAck, Error, Reject, Abort}
use Rattle.bac_protocol.specs.declared.times.TheConstants.{KEEP}
use Rattle.bac_protocol.specs.Context.{Context}
use Rattle.bac_protocol.specs.Service.{OTHER, Octets}
use Rattle.bac_protocol.specs.Client.{Ask}
use Rattle.bac_protocol.specs.Server as server
use Rattle.bac_protocol.specs.Server.{Reaction, ServerTransaction, Service, State, Transfer, is_live, server_on_apdu}
use Rattle.bac_protocol.specs.Server.Transfer.{Running}
use Rattle.bac_protocol.specs.Reuse.{ends_with_reply, idle_on_read, is_ended_by, is_over, is_transfer_over, reusing_on_apdu, server_hears}
use Rattle.bac_protocol.specs.Transaction.{Key}
use Rattle.bac_protocol.proofs.Reused.{ends_with_its_reply, goes_on_where}
use Rattle.bac_protocol.proofs.Sound.{FirstFits}
use Rattle.bac_reuse.specs.Runs.{Reusing}
use Rattle.bac_reuse.proofs.Beside.{AreGone, FitOf, Holds, IsFresh, IsLeftOf, fresh_is, is_fresh, not_fresh}
use Rattle.bac_reuse.proofs.FreshReads.{BeginsNow, BeginsRead, GoesAlone, IsFreshRead, alone_none, alone_some, going_read, idle_reads, read_goes}
use Rattle.bac_reuse.proofs.Machine.{AreOne, BothRest, EntryIs, GoesOnFrom, IsFor, IsGiving, IsGone, IsRequestOf, OverBy, OverIf}
use Rattle.bac_reuse.proofs.Machine.{gets_gives, gets_over, gone_gets, gone_reuses, idle_pair, idle_same, live_for, live_same}

-- an entry gives its reply in segments, is live, and where its transfer is over now, that has a cause
pub record GivesOn (c : Context) (service : Service) (idle : Bool) (a : Apdu) (d : ServerTransaction) : Type 0 where
  pub gives : IsGiving d.state
  pub live : is_live c.now d ≡ true
  pub before : Transfer
  pub over : OverBy c service a before d.state
  pub was : is_transfer_over before ≡ true → idle ≡ true

-- an entry that both have, after the step
abbrev pub HoldsOn : Context → Service → (fresh idle : Bool) → Ask → Apdu → ServerTransaction → Type 0
HoldsOn c service true idle ask a d = GivesOn c service idle a d
HoldsOn c service false idle ask a d = IsFor ask d

-- both do the same
abbrev pub DoSame : Context → Service → (fresh idle : Bool) → Ask → Apdu → (v w : Reaction) → Type 0
DoSame c service fresh idle ask a v w = (v ≡ w) × EntryIs (HoldsOn c service fresh idle ask a) w.entry

-- neither has an entry that counts, and each keeps what it has
abbrev pub DoRest : (now : ℕ) → (ours theirs : Option ServerTransaction) → (v w : Reaction) → Type 0
DoRest now ours theirs v w = AreGone now ours theirs × BothRest ours theirs v w

-- neither has an entry that counts, and a read is answered in one APDU
abbrev pub ReadsFresh : Context → Service → (fresh : Bool) → Ask → (ours theirs : Option ServerTransaction) → (v : Reaction) → Type 0
ReadsFresh c service fresh ask ours theirs v = (fresh ≡ true) × AreGone c.now ours theirs × IsFreshRead c service ask ours v

-- the ticket has ended, and the other's entry does not count any more
pub record GoesApart (c : Context) (service : Service) (fresh idle : Bool) (ask : Ask) (room : Bool) (theirs : Option ServerTransaction) (v : Reaction) : Type 0 where
  pub is_fresh : fresh ≡ true
  pub is_idle : idle ≡ true
  pub entry : ServerTransaction
  pub is : theirs ≡ Some entry
  pub live : is_live c.now entry ≡ true
  pub goes : GoesAlone c service ask room entry.begin v

-- the entry of a fresh read ends with its reply, and the other's is over from then on
pub record ReadEnds (c : Context) (service : Service) (fresh idle : Bool) (a : Apdu) (theirs : Option ServerTransaction) (v w : Reaction) : Type 0 where
  pub is_fresh : fresh ≡ true
  pub entry : ServerTransaction
  pub is : theirs ≡ Some entry
  pub live : is_live c.now entry ≡ true
  pub ours : v ≡ server.rests None []
  pub next : EntryIs (GivesOn c service idle a) w.entry
  pub over : EntryIs (λ d. is_over d.state ≡ true) w.entry

abbrev pub Outcome : Context → Service → (fresh idle : Bool) → Ask → (room : Bool) → Apdu → (ours theirs : Option ServerTransaction) → (v w : Reaction) → Type 0
Outcome c service fresh idle ask room a ours theirs v w = DoSame c service fresh idle ask a v w
    ⊎ (DoRest c.now ours theirs v w ⊎ (ReadsFresh c service fresh ask ours theirs v
    ⊎ (GoesApart c service fresh idle ask room theirs v ⊎ ReadEnds c service fresh idle a theirs v w)))

over_of_none : (c : Context) (service : Service) (a : Apdu) (st : State) → OverIf ⊥ st → OverBy c service a Running st
over_of_none c service a (State.SegmentedRequest inc since) h = tt
over_of_none c service a (State.Done kept) h = tt
over_of_none c service a (State.SegmentedResponse out transfer since) h = λ is. absurd (h is)
over_of_none c service a State.Dropped h = tt

pub over_idle : (idle : Bool) (st : State) → IsGiving st → OverIf (idle ≡ true) st → is_over st ≡ true → idle ≡ true
over_idle idle (State.SegmentedRequest inc since) gives h is = absurd gives
over_idle idle (State.Done kept) gives h is = absurd gives
over_idle idle (State.SegmentedResponse out transfer since) gives h is = h is
over_idle idle State.Dropped gives h is = absurd gives

module _ (c : Context) (service : Service) (u : Reusing) (key : Key) (ask : Ask) (idle room : Bool) where
  abbrev ours_does : Apdu → Option ServerTransaction → Reaction
  ours_does a o = server_hears (u.reuses key.server) c service u.reads o room a

  abbrev theirs_does : Apdu → Option ServerTransaction → Reaction
  theirs_does a o = server_on_apdu c service o room a

  abbrev OutcomeOf : Bool → Apdu → (o p : Option ServerTransaction) → Type 0
  OutcomeOf fresh a o p = Outcome c service fresh idle ask room a o p (ours_does a o) (theirs_does a p)

  -- No entry counts, and the ask is no fresh read.
  ours_idle : (a : Apdu) → IsRequestOf ask a → (o : Option ServerTransaction) → IsGone c.now o
      → (u.reuses key.server ≡ false) ⊎ ((u.reads ask.choice ≡ false) ⊎ (ask.whole ≡ false)) → ours_does a o ≡ server.idle_on_apdu c service o room a
  ours_idle a is o gone (inl off) = ap (λ b. server_hears b c service u.reads o room a) off ∙ gone_gets c service o gone room a
  ours_idle a is o gone (inr old) = by (u.reuses key.server)
    where
      by : (b : Bool) → server_hears b c service u.reads o room a ≡ server.idle_on_apdu c service o room a
      by true = gone_reuses c service u.reads o gone room a ∙ idle_same c service ask u.reads old o room a is
      by false = gone_gets c service o gone room a

  gone_old : is_fresh u key ask ≡ false → (a : Apdu) → IsRequestOf ask a → (o p : Option ServerTransaction) → AreGone c.now o p → OutcomeOf false a o p
  gone_old old a is o p gone = go (idle_pair c service ask o p room a is)
    where
      ours : ours_does a o ≡ server.idle_on_apdu c service o room a
      ours = ours_idle a is o gone.0 (not_fresh u key ask old)

      theirs : theirs_does a p ≡ server.idle_on_apdu c service p room a
      theirs = gone_gets c service p gone.1 room a

      go : AreOne (IsFor ask) (server.idle_on_apdu c service o room a) (server.idle_on_apdu c service p room a)
          ⊎ BothRest o p (server.idle_on_apdu c service o room a) (server.idle_on_apdu c service p room a)
          → OutcomeOf false a o p
      go (inl h) = inl (ours ∙ h.0 ∙ sym theirs, subst (λ (v : Reaction). EntryIs (IsFor ask) v.entry) (sym theirs) h.1)
      go (inr h) = inr (inl (gone, (h.0, ours ∙ h.1, theirs ∙ h.2)))

  -- An entry counts, and the ask is no fresh read.
  live_old : is_fresh u key ask ≡ false → (a : Apdu) → IsRequestOf ask a → (e : ServerTransaction) → is_live c.now e ≡ true → FirstFits ask e.first → IsFor ask e
      → OutcomeOf false a (Some e) (Some e)
  live_old old a is e live first for = inl (by (not_fresh u key ask old), live_for c service ask e room live for a)
    where
      by : (u.reuses key.server ≡ false) ⊎ ((u.reads ask.choice ≡ false) ⊎ (ask.whole ≡ false)) → ours_does a (Some e) ≡ theirs_does a (Some e)
      by (inl off) = ap (λ b. server_hears b c service u.reads (Some e) room a) off
      by (inr old) = so (u.reuses key.server)
        where
          so : (b : Bool) → server_hears b c service u.reads (Some e) room a ≡ theirs_does a (Some e)
          so true = live_same c service ask u.reads old e room live first for a is
          so false = refl

  -- A fresh read.
  module _ (fresh : IsFresh u key ask) where
    ours_reuses : (a : Apdu) (o : Option ServerTransaction) → ours_does a o ≡ reusing_on_apdu c service u.reads o room a
    ours_reuses a o = ap (λ b. server_hears b c service u.reads o room a) fresh.reuses

    now_lives : (d : ServerTransaction) → d.begin ≡ c.now → is_live c.now d ≡ true
    now_lives d begun = grind (arith, nat_tests)

    begins_on : (a : Apdu) (o : Option ServerTransaction) → EntryIs (BeginsNow c) o → EntryIs (GivesOn c service idle a) o
    begins_on a None h = absurd h
    begins_on a (Some d) h = record {
      gives = h.1;
      live = now_lives d h.0;
      before = Running;
      over = over_of_none c service a d.state h.2;
      was = λ over. absurd (let no : false ≡ true = over in cc);
    }

    -- where no entry counts
    module _ (o p : Option ServerTransaction) (gone : AreGone c.now o p) where
      gone_request : (limits : Limits) (id choice : ℕ) (octets : Octets) → IsRequestOf ask (ConfirmedRequest limits id None choice octets)
          → OutcomeOf true (ConfirmedRequest limits id None choice octets) o p
      gone_request limits id choice octets is = go (idle_on_read c service o room choice limits octets) ours (read_goes c service ask choice limits octets is.1 is.2 o room)
        where
          ours : ours_does (ConfirmedRequest limits id None choice octets) o ≡ idle_on_read c service o room choice limits octets
          ours = ours_reuses (ConfirmedRequest limits id None choice octets) o
              ∙ gone_reuses c service u.reads o gone.0 room (ConfirmedRequest limits id None choice octets)
              ∙ idle_reads c service ask u.reads fresh.read fresh.whole o room limits id choice octets is.1

          theirs : theirs_does (ConfirmedRequest limits id None choice octets) p ≡ server.idle_on_request c service p room choice limits octets
          theirs = gone_gets c service p gone.1 room (ConfirmedRequest limits id None choice octets)

          go : (v : Reaction) → ours_does (ConfirmedRequest limits id None choice octets) o ≡ v
              → (BeginsRead c service ask room v × ((q : Option ServerTransaction) → server.idle_on_request c service q room choice limits octets ≡ v))
              ⊎ (((v ≡ server.rests o (server.server_abort c OTHER ∷ [])) × (room ≡ false)) ⊎ IsFreshRead c service ask o v)
              → OutcomeOf true (ConfirmedRequest limits id None choice octets) o p
          go v is (inl h) = inl (
            is ∙ sym (h.1 p) ∙ sym theirs,
            subst (λ (w : Reaction). EntryIs (GivesOn c service idle (ConfirmedRequest limits id None choice octets)) w.entry) (sym (h.1 p) ∙ sym theirs)
                (begins_on (ConfirmedRequest limits id None choice octets) v.entry h.0.entry),
          )
          go v is (inr (inl h)) = inr (inl (
            gone,
            (
              server.server_abort c OTHER ∷ [],
              is ∙ h.0,
              theirs ∙ ap (λ b. server.idle_on_request c service p b choice limits octets) h.1,
            ),
          ))
          go v is (inr (inr h)) = inr (inr (inl (refl, gone, subst (IsFreshRead c service ask o) (sym is) h)))

      -- what is no request
      gone_other : (a : Apdu) → ((q : Option ServerTransaction) → IsGone c.now q → reusing_on_apdu c service u.reads q room a ≡ server.rests q [])
          → ((q : Option ServerTransaction) → IsGone c.now q → server_on_apdu c service q room a ≡ server.rests q []) → OutcomeOf true a o p
      gone_other a f g = inr (inl (gone, ([], ours_reuses a o ∙ f o gone.0, g p gone.1)))

      pub gone_fresh : (a : Apdu) → IsRequestOf ask a → OutcomeOf true a o p
      gone_fresh (ConfirmedRequest limits id None choice octets) is = gone_request limits id choice octets is
      gone_fresh (ConfirmedRequest limits id (Some g) choice octets) is = absurd (let no : true ≡ false = sym fresh.whole ∙ is.0 in cc)
      gone_fresh (UnconfirmedRequest choice octets) is = gone_other (UnconfirmedRequest choice octets)
          (λ q out. gone_reuses c service u.reads q out room (UnconfirmedRequest choice octets)) (λ q out. gone_gets c service q out room (UnconfirmedRequest choice octets))
      gone_fresh (SimpleAck id choice) is = gone_other (SimpleAck id choice)
          (λ q out. gone_reuses c service u.reads q out room (SimpleAck id choice)) (λ q out. gone_gets c service q out room (SimpleAck id choice))
      gone_fresh (ComplexAck id g choice octets) is = gone_other (ComplexAck id g choice octets)
          (λ q out. gone_reuses c service u.reads q out room (ComplexAck id g choice octets)) (λ q out. gone_gets c service q out room (ComplexAck id g choice octets))
      gone_fresh (SegmentAck up id ack) is = gone_other (SegmentAck up id ack)
          (λ q out. gone_reuses c service u.reads q out room (SegmentAck up id ack)) (λ q out. gone_gets c service q out room (SegmentAck up id ack))
      gone_fresh (Error id choice class code) is = gone_other (Error id choice class code)
          (λ q out. gone_reuses c service u.reads q out room (Error id choice class code)) (λ q out. gone_gets c service q out room (Error id choice class code))
      gone_fresh (Reject id reason) is = gone_other (Reject id reason)
          (λ q out. gone_reuses c service u.reads q out room (Reject id reason)) (λ q out. gone_gets c service q out room (Reject id reason))
      gone_fresh (Abort up id reason) is = gone_other (Abort up id reason)
          (λ q out. gone_reuses c service u.reads q out room (Abort up id reason)) (λ q out. gone_gets c service q out room (Abort up id reason))

    -- where both have one that counts
    module _ (e : ServerTransaction) (live : is_live c.now e ≡ true) (gives : IsGiving e.state) (over : OverIf (idle ≡ true) e.state) where
      goes_on : (a : Apdu) → (st : State) → e.state ≡ st → IsGiving st → OverIf (idle ≡ true) st
          → EntryIs (GivesOn c service idle a) (server_on_apdu c service (Some e) room a).entry
      goes_on a (State.SegmentedRequest inc since) at h k = absurd h
      goes_on a (State.Done kept) at h k = absurd h
      goes_on a (State.SegmentedResponse out transfer since) at h k = join (server_on_apdu c service (Some e) room a).entry
          (gets_gives c service e room a live gives) (gets_over c service e out transfer since at live room a)
        where
          join : (o : Option ServerTransaction) → EntryIs (GoesOnFrom c service e) o → EntryIs (λ d. OverBy c service a transfer d.state) o
              → EntryIs (GivesOn c service idle a) o
          join None f g = absurd f
          join (Some d) f g = record {
            gives = f.1;
            live = subst (λ n. nat_le (c.now - n) KEEP ≡ true) (sym f.0) live;
            before = transfer;
            over = g;
            was = k;
          }
      goes_on a State.Dropped at h k = absurd h

      both_go : (a : Apdu) → reusing_on_apdu c service u.reads (Some e) room a ≡ server_on_apdu c service (Some e) room a → OutcomeOf true a (Some e) (Some e)
      both_go a same = inl (ours_reuses a (Some e) ∙ same, goes_on a e.state refl gives over)

      ended_request : (limits : Limits) (id choice : ℕ) (octets : Octets) → IsRequestOf ask (ConfirmedRequest limits id None choice octets)
          → (b : Bool) → is_over e.state ≡ b → OutcomeOf true (ConfirmedRequest limits id None choice octets) (Some e) (Some e)
      ended_request limits id choice octets is true ends = inr (inr (inr (inl (record {
        is_fresh = refl;
        is_idle = over_idle idle e.state gives over ends;
        entry = e;
        is = refl;
        live = live;
        goes = subst (GoesAlone c service ask room e.begin) (sym (ours_reuses (ConfirmedRequest limits id None choice octets) (Some e)))
            (alone_some c service ask u.reads fresh.read fresh.whole e room live gives (ConfirmedRequest limits id None choice octets) is);
      }))))
      ended_request limits id choice octets is false goes = both_go (ConfirmedRequest limits id None choice octets)
          (going_read c service ask u.reads fresh.read fresh.whole e room live goes limits id choice octets)

      -- it ends with its reply, or goes on
      with_reply : (a : Apdu) → is_ended_by u.reads e a ≡ ends_with_reply u.reads e a → OutcomeOf true a (Some e) (Some e)
      with_reply a same = go (ends_with_reply u.reads e a) refl
        where
          go : (b : Bool) → ends_with_reply u.reads e a ≡ b → OutcomeOf true a (Some e) (Some e)
          go false stays = both_go a (goes_on_where c service u.reads e room live a (same ∙ stays))
          go true ends =
              let after = ends_with_its_reply.else_over c service u.reads e room a live ends in
              inr (inr (inr (inr (record {
                is_fresh = refl;
                entry = e;
                is = refl;
                live = live;
                ours = ours_reuses a (Some e) ∙ ends_with_its_reply.ends c service u.reads e room a live ends;
                next = goes_on a e.state refl gives over;
                over = subst (λ (w : Reaction). EntryIs (λ d. is_over d.state ≡ true) w.entry) (sym after.1) after.2;
              }))))

      pub live_fresh : (a : Apdu) → IsRequestOf ask a → OutcomeOf true a (Some e) (Some e)
      live_fresh (ConfirmedRequest limits id None choice octets) is = ended_request limits id choice octets is (is_over e.state) refl
      live_fresh (ConfirmedRequest limits id (Some g) choice octets) is = absurd (let no : true ≡ false = sym fresh.whole ∙ is.0 in cc)
      live_fresh (UnconfirmedRequest choice octets) is =
          both_go (UnconfirmedRequest choice octets) (goes_on_where c service u.reads e room live (UnconfirmedRequest choice octets) refl)
      live_fresh (SimpleAck id choice) is = both_go (SimpleAck id choice) (goes_on_where c service u.reads e room live (SimpleAck id choice) refl)
      live_fresh (ComplexAck id g choice octets) is =
          both_go (ComplexAck id g choice octets) (goes_on_where c service u.reads e room live (ComplexAck id g choice octets) refl)
      live_fresh (SegmentAck up id ack) is = with_reply (SegmentAck up id ack) refl
      live_fresh (Error id choice class code) is =
          both_go (Error id choice class code) (goes_on_where c service u.reads e room live (Error id choice class code) refl)
      live_fresh (Reject id reason) is = both_go (Reject id reason) (goes_on_where c service u.reads e room live (Reject id reason) refl)
      live_fresh (Abort up id reason) is = with_reply (Abort up id reason) refl

    -- where the other's does not count any more
    pub apart_fresh : idle ≡ true → (e : ServerTransaction) → is_live c.now e ≡ true → (o : Option ServerTransaction) → IsLeftOf e o → (a : Apdu) → IsRequestOf ask a
        → OutcomeOf true a o (Some e)
    apart_fresh over e live None left a is = inr (inr (inr (inl (record {
      is_fresh = refl;
      is_idle = over;
      entry = e;
      is = refl;
      live = live;
      goes = subst (GoesAlone c service ask room e.begin) (sym (ours_reuses a None)) (alone_none c service ask u.reads fresh.read fresh.whole room e.begin a is);
    }))))
    apart_fresh over e live (Some d) left a is = inr (inr (inr (inl (record {
      is_fresh = refl;
      is_idle = over;
      entry = e;
      is = refl;
      live = live;
      goes = subst (λ n. GoesAlone c service ask room n (ours_does a (Some d))) left.0
          (subst (GoesAlone c service ask room d.begin) (sym (ours_reuses a (Some d)))
          (alone_some c service ask u.reads fresh.read fresh.whole d room (subst (λ n. nat_le (c.now - n) KEEP ≡ true) (sym left.0) live) left.1 a is));
    }))))

  -- All of it.

  dead_now : (e : ServerTransaction) → is_live c.now e ≡ false → e.begin + KEEP < c.now
  dead_now e dead = grind (arith, nat_tests)

  gone_goes : (b : Bool) → is_fresh u key ask ≡ b → (a : Apdu) → IsRequestOf ask a → (o p : Option ServerTransaction) → AreGone c.now o p → OutcomeOf b a o p
  gone_goes true fresh a is o p gone = gone_fresh (fresh_is u key ask fresh) o p gone a is
  gone_goes false old a is o p gone = gone_old old a is o p gone

  live_goes : (b : Bool) → is_fresh u key ask ≡ b → (a : Apdu) → IsRequestOf ask a → (e : ServerTransaction) → is_live c.now e ≡ true → FirstFits ask e.first
      → Holds b idle ask e → OutcomeOf b a (Some e) (Some e)
  live_goes true fresh a is e live first h = live_fresh (fresh_is u key ask fresh) e live h.0 h.1 a is
  live_goes false old a is e live first h = live_old old a is e live first h

  -- an entry that counts keeps no piece, or the first one of the ask's request
  abbrev FirstsFit : Option ServerTransaction → Type 0
  FirstsFit p = (e : ServerTransaction) → p ≡ Some e → is_live c.now e ≡ true → FirstFits ask e.first

  same_goes : (b : Bool) → is_fresh u key ask ≡ b → (a : Apdu) → IsRequestOf ask a → (p : Option ServerTransaction) → FirstsFit p → EntryIs (Holds b idle ask) p
      → OutcomeOf b a p p
  same_goes b fresh a is None firsts h = absurd h
  same_goes b fresh a is (Some e) firsts h = go (is_live c.now e) refl
    where
      go : (z : Bool) → is_live c.now e ≡ z → OutcomeOf b a (Some e) (Some e)
      go true live = live_goes b fresh a is e live (firsts e refl live) h
      go false dead = gone_goes b fresh a is (Some e) (Some e) (dead_now e dead, dead_now e dead)

  left_gone : (e : ServerTransaction) → e.begin + KEEP < c.now → (o : Option ServerTransaction) → IsLeftOf e o → IsGone c.now o
  left_gone e dead None left = tt
  left_gone e dead (Some d) left = let same = left.0 in omega (arith, dead)

  apart_goes : (b : Bool) → is_fresh u key ask ≡ b → b ≡ true → idle ≡ true → (a : Apdu) → IsRequestOf ask a → (o p : Option ServerTransaction)
      → EntryIs (λ e. IsLeftOf e o) p → OutcomeOf b a o p
  apart_goes b fresh is_true over a is o None left = absurd left
  apart_goes b fresh is_true over a is o (Some e) left = go (is_live c.now e) refl
    where
      go : (z : Bool) → is_live c.now e ≡ z → OutcomeOf b a o (Some e)
      go true live = subst (λ y. OutcomeOf y a o (Some e)) (sym is_true) (apart_fresh (fresh_is u key ask (fresh ∙ is_true)) over e live o left a is)
      go false dead = gone_goes b fresh a is o (Some e) (left_gone e (dead_now e dead) o left, dead_now e dead)

  pub outcome : (b : Bool) → is_fresh u key ask ≡ b → (a : Apdu) → IsRequestOf ask a → (o p : Option ServerTransaction) → FirstsFit p → FitOf c.now b idle ask o p
      → OutcomeOf b a o p
  outcome b fresh a is o p firsts (inl gone) = gone_goes b fresh a is o p gone
  outcome b fresh a is o p firsts (inr (inl h)) = subst (λ (q : Option ServerTransaction). OutcomeOf b a q p) (sym h.0) (same_goes b fresh a is p firsts h.1)
  outcome b fresh a is o p firsts (inr (inr h)) = apart_goes b fresh h.0 h.1 a is o p h.2
