-- Laws of the machine that lets invoke IDs be used again.
use Rattle.std.proofs.Common.{◌≡◌, ℕ, ◌+◌, ◌⊎◌, Bool, true, false, ◌&&◌, ◌||◌, not, [], Option, Some, None, if◌then◌else◌, refl, ap, sym, subst, inl, inr, ◌∙◌}
use Rattle.std.proofs.Common.{min, nat_eq, nat_lt, arith}
use Rattle.std.proofs.lemmas.Bool.Decides.{nat_tests}
use Rattle.bac_apdu.specs.Apdu.{Acknowledgement, Apdu, Limits, Segment}
use Rattle.bac_apdu.specs.Apdu.Apdu.{Abort, ComplexAck, ConfirmedRequest, Error, Reject, SegmentAck, SimpleAck, UnconfirmedRequest}
use Rattle.bac_segment.specs.Numbers.{ahead}
use Rattle.bac_segment.specs.Limits.{N_RETRY}
use Rattle.bac_segment.specs.Window.{Outgoing, in_window, is_finished}
use Rattle.bac_protocol.specs.Context.{Context}
use Rattle.bac_protocol.specs.Reuse.{Reads, ends_entry, ends_with_reply, goes_in_segments, idle_on_read, idle_reusing, is_acknowledged_by, is_all_acknowledged}
use Rattle.bac_protocol.specs.Reuse.{is_ended_by, is_of_whole_read, is_other_first, is_over, left_on_apdu, reads_so, reusing_on_apdu}
use Rattle.bac_protocol.specs.ReuseLaws.{EndsWithReply, GoesOnAsEver, PerformsWhereEnded, ReadsAreFresh, fresh_read}
use Rattle.bac_protocol.specs.Server as server
use Rattle.bac_protocol.specs.Server.{Effect, Reaction, ServerTransaction, Service, State, Transfer, begins, idle_on_request, is_kept, is_live, is_none_live, performs_so, sends_reply}
use Rattle.bac_protocol.specs.Server.{server_on_apdu}
use Rattle.bac_protocol.specs.Service.{Octets, Outcome, Reply}
use Rattle.bac_protocol.specs.Service.Outcome.{Replies}
use Rattle.bac_protocol.specs.Sizes.{Way, reply_way_of}
use Rattle.bac_protocol.specs.Sizes.Way.{InOne}
use Rattle.bac_protocol.specs.Steps.{MayPerform}
use Rattle.bac_protocol.proofs.Served.{effects_are_kept}

module _ (c : Context) (service : Service) (reads : Reads) (e : ServerTransaction) (free : Bool) (live : is_live c.now e ≡ true) where
  ended_as : (a : Apdu) (b : Bool) → is_ended_by reads e a ≡ b → ends_entry reads c.now (Some e) a ≡ b
  ended_as a b is = ap (λ x. x && is_ended_by reads e a) live ∙ is

  pub goes_on_where : (a : Apdu) → is_ended_by reads e a ≡ false → reusing_on_apdu c service reads (Some e) free a ≡ server_on_apdu c service (Some e) free a
  goes_on_where a stays =
      ap (λ x. left_on_apdu c service reads (if x then None else Some e) free a) (ended_as a false stays)
      ∙ ap (λ x. if (if x then false else true) then idle_reusing c service reads (Some e) free a else server_on_apdu c service (Some e) free a) live

  -- an entry that ends leaves none
  pub ends_where : (a : Apdu) → is_ended_by reads e a ≡ true → reusing_on_apdu c service reads (Some e) free a ≡ idle_reusing c service reads None free a
  ends_where a ends = ap (λ x. left_on_apdu c service reads (if x then None else Some e) free a) (ended_as a true ends)

pub not_over : (reads : Reads) (e : ServerTransaction) (a : Apdu) → is_over e.state ≡ false → ends_with_reply reads e a ≡ false → is_ended_by reads e a ≡ false
not_over reads e (ConfirmedRequest limits id None choice octets) over stays = ap (λ x. x && (reads choice || not (is_kept e e.request choice octets))) over
not_over reads e (ConfirmedRequest limits id (Some segment) choice octets) over stays =
    ap (λ x. x && (nat_eq segment.number 0 && is_other_first e e.first choice octets)) over
not_over reads e (UnconfirmedRequest choice octets) over stays = refl
not_over reads e (SimpleAck id choice) over stays = refl
not_over reads e (ComplexAck id segment choice octets) over stays = refl
not_over reads e (SegmentAck up id ack) over stays = stays
not_over reads e (Error id choice class code) over stays = refl
not_over reads e (Reject id reason) over stays = refl
not_over reads e (Abort up id reason) over stays = stays

and_false : (b : Bool) → b && false ≡ false
and_false true = refl
and_false false = refl

pub kept_stays : (reads : Reads) (e : ServerTransaction) (limits : Limits) (id choice : ℕ) (octets : Octets) → reads choice ≡ false
    → is_kept e e.request choice octets ≡ true → is_ended_by reads e (ConfirmedRequest limits id None choice octets) ≡ false
kept_stays reads e limits id choice octets no_read kept =
    ap (λ x. is_over e.state && (x || not (is_kept e e.request choice octets))) no_read ∙ ap (λ x. is_over e.state && not x) kept ∙ and_false (is_over e.state)

pub segment_stays : (reads : Reads) (e : ServerTransaction) (limits : Limits) (id choice : ℕ) (segment : Segment) (octets : Octets)
    → (segment.number ≡ 0 → is_other_first e e.first choice octets ≡ false)
    → is_ended_by reads e (ConfirmedRequest limits id (Some segment) choice octets) ≡ false
segment_stays reads e limits id choice segment octets same = go (nat_eq segment.number 0) refl
  where
    go : (b : Bool) → nat_eq segment.number 0 ≡ b → is_over e.state && (b && is_other_first e e.first choice octets) ≡ false
    go false is = and_false (is_over e.state)
    go true is = ap (λ x. is_over e.state && x) (same (grind (arith, nat_tests))) ∙ and_false (is_over e.state)

pub goes_on_as_ever : GoesOnAsEver
goes_on_as_ever = record {
  off = λ c service reads entry free a. refl;
  going = λ c service reads e free a live over stays. goes_on_where c service reads e free live a (not_over reads e a over stays);
  kept = λ c service reads e free limits id choice octets live no_read kept.
      goes_on_where c service reads e free live (ConfirmedRequest limits id None choice octets) (kept_stays reads e limits id choice octets no_read kept);
  segments = λ c service reads e free limits id choice segment octets live same.
      goes_on_where c service reads e free live (ConfirmedRequest limits id (Some segment) choice octets)
      (segment_stays reads e limits id choice segment octets same);
}

-- Where an entry ends with its reply.

and_right : (a b : Bool) → a && b ≡ true → b ≡ true
and_right true b both = both
and_right false b both = absurd cc

-- the entry that it would leave else
abbrev pub IsOverAfter : Reaction → Type 0
IsOverAfter v = (d : ServerTransaction) × (v ≡ server.rests (Some d) []) × (is_over d.state ≡ true)

module _ (c : Context) (e : ServerTransaction) where
  moves_over : (b : Bool) (next near : Outgoing) → is_finished near ≡ is_finished next → is_all_acknowledged (if b then Some near else None) ≡ true
      → IsOverAfter (server.moves_reply_window c e (if b then Some next else None))
  moves_over false next near same all = absurd cc
  moves_over true next near same all = (
    record e { state = State.SegmentedResponse next Transfer.Finished c.now },
    ap (λ b. if b then server.becomes e (State.SegmentedResponse next Transfer.Finished c.now) [] else server.sends_reply_window c e next) (sym same ∙ all),
    refl,
  )

  ack_over : (out : Outgoing) (transfer : Transfer) (since number window : ℕ) → is_acknowledged_by (State.SegmentedResponse out transfer since) number ≡ true
      → IsOverAfter (server.segmented_response_on_ack c e out transfer number window)
  ack_over out Transfer.Running since number window all = moves_over (nat_lt (ahead number out.first) (in_window out))
      (record out { first = out.first + ahead number out.first + 1; window = min window c.settings.window; retries = N_RETRY })
      (record out { first = out.first + ahead number out.first + 1; window = min 1 1; retries = N_RETRY }) refl all
  ack_over out Transfer.Stopped since number window all = absurd cc
  ack_over out Transfer.Finished since number window all = absurd cc

  acked_in : (service : Service) (st : State) (id : ℕ) (ack : Acknowledgement) → is_acknowledged_by st ack.number ≡ true
      → IsOverAfter (server.live_on_apdu c service e st (SegmentAck false id ack))
  acked_in service (State.SegmentedRequest inc since) id ack all = absurd cc
  acked_in service (State.Done kept) id ack all = absurd cc
  acked_in service (State.SegmentedResponse out transfer since) id ack all = ack_over out transfer since ack.number ack.window all
  acked_in service State.Dropped id ack all = absurd cc

  aborted_in : (service : Service) (st : State) (id reason : ℕ) → goes_in_segments st ≡ true
      → IsOverAfter (server.live_on_apdu c service e st (Abort false id reason))
  aborted_in service (State.SegmentedRequest inc since) id reason gives = absurd cc
  aborted_in service (State.Done kept) id reason gives = absurd cc
  aborted_in service (State.SegmentedResponse out transfer since) id reason gives =
      (record e { state = State.SegmentedResponse out Transfer.Finished since }, refl, refl)
  aborted_in service State.Dropped id reason gives = absurd cc

  live_over : (service : Service) (reads : Reads) (a : Apdu) → ends_with_reply reads e a ≡ true → IsOverAfter (server.live_on_apdu c service e e.state a)
  live_over service reads (SegmentAck false id ack) ends =
      acked_in service e.state id ack (and_right (is_of_whole_read reads e) (is_acknowledged_by e.state ack.number) ends)
  live_over service reads (SegmentAck true id ack) ends = absurd cc
  live_over service reads (Abort false id reason) ends =
      aborted_in service e.state id reason (and_right (is_of_whole_read reads e) (goes_in_segments e.state) ends)
  live_over service reads (Abort true id reason) ends = absurd cc
  live_over service reads _ ends = absurd cc

none_left : (c : Context) (service : Service) (reads : Reads) (e : ServerTransaction) (free : Bool) (a : Apdu) → is_live c.now e ≡ true
    → ends_with_reply reads e a ≡ true → reusing_on_apdu c service reads (Some e) free a ≡ server.rests None []
none_left c service reads e free (SegmentAck false id ack) live ends = ends_where c service reads e free live (SegmentAck false id ack) ends
none_left c service reads e free (SegmentAck true id ack) live ends = absurd cc
none_left c service reads e free (Abort false id reason) live ends = ends_where c service reads e free live (Abort false id reason) ends
none_left c service reads e free (Abort true id reason) live ends = absurd cc
none_left c service reads e free _ live ends = absurd cc

pub ends_with_its_reply : EndsWithReply
ends_with_its_reply = record {
  ends = none_left;
  else_over = λ c service reads e free a live ends.
      subst IsOverAfter (sym (ap (λ b. if b then server.live_on_apdu c service e e.state a else server.idle_on_apdu c service (Some e) free a) live))
      (live_over c e service reads a ends);
}

-- Where a request is performed.

performs_at : (c : Context) (service : Service) (reads : Reads) (o : Option ServerTransaction) (free : Bool) (a : Apdu) (x : Effect)
    → (left_on_apdu c service reads o free a).effect ≡ Some x → MayPerform c.now o
performs_at c service reads None free a x is = tt
performs_at c service reads (Some e) free a x is = go (is_live c.now e) refl
  where
    go : (b : Bool) → is_live c.now e ≡ b → MayPerform c.now (Some e)
    go false dead = inl dead
    go true live =
        let same = ap (λ y. (if (if y then false else true) then idle_reusing c service reads (Some e) free a else server_on_apdu c service (Some e) free a).effect) live in
        (effects_are_kept.gets c service (Some e) free a x (sym same ∙ is)).before

pub performs_where_ended : PerformsWhereEnded
performs_where_ended c service reads o free a x is = go (ends_entry reads c.now o a) refl
  where
    go : (b : Bool) → ends_entry reads c.now o a ≡ b → MayPerform c.now o ⊎ (ends_entry reads c.now o a ≡ true)
    go true ends = inr ends
    go false stays =
        let same = ap (λ y. (left_on_apdu c service reads (if y then None else o) free a).effect) stays in
        inl (performs_at c service reads o free a x (sym same ∙ is))

-- Reads.

module _ (c : Context) (service : Service) (reads : Reads) (free : Bool) (limits : Limits) (id choice : ℕ) (octets : Octets) (reply : Reply)
    (read : reads choice ≡ true) (outcome : service choice octets ≡ Replies reply) (way : reply_way_of c.settings limits reply ≡ InOne) where
  abbrev begun : ServerTransaction
  begun = begins c choice limits (Some octets)

  passes : (o : Option ServerTransaction) → idle_on_read c service o free choice limits octets ≡ fresh_read c o choice octets reply
  passes o =
      ap (λ (y : Outcome). reads_so c o free (performs_so c begun [] octets y)) outcome
      ∙ ap (λ (y : Way ℕ). reads_so c o free (sends_reply c begun [] octets reply y)) way

  read_at : (o : Option ServerTransaction) → is_none_live c.now o ≡ true
      → left_on_apdu c service reads o free (ConfirmedRequest limits id None choice octets) ≡ fresh_read c o choice octets reply
  read_at o none =
      let a : Apdu = ConfirmedRequest limits id None choice octets in
      ap (λ y. if y then idle_reusing c service reads o free a else server_on_apdu c service o free a) none
      ∙ ap (λ y. if y then idle_on_read c service o free choice limits octets else idle_on_request c service o free choice limits octets) read ∙ passes o

  fresh_none : (o : Option ServerTransaction) → is_none_live c.now o ≡ true
      → reusing_on_apdu c service reads o free (ConfirmedRequest limits id None choice octets) ≡ fresh_read c o choice octets reply
  fresh_none None none = read_at None none
  fresh_none (Some e) none = go (is_live c.now e) refl
    where
      a : Apdu
      a = ConfirmedRequest limits id None choice octets

      go : (b : Bool) → is_live c.now e ≡ b → reusing_on_apdu c service reads (Some e) free a ≡ fresh_read c (Some e) choice octets reply
      go false dead = ap (λ y. left_on_apdu c service reads (if y && is_ended_by reads e a then None else Some e) free a) dead ∙ read_at (Some e) none
      go true live = absurd (let no : false ≡ true = sym (ap (λ y. if y then false else true) live) ∙ none in cc)

  fresh_over : (e : ServerTransaction) → is_live c.now e ≡ true → is_over e.state ≡ true
      → reusing_on_apdu c service reads (Some e) free (ConfirmedRequest limits id None choice octets) ≡ fresh_read c None choice octets reply
  fresh_over e live over =
      let a : Apdu = ConfirmedRequest limits id None choice octets in
      let ends : is_ended_by reads e a ≡ true =
      ap (λ y. y && (reads choice || not (is_kept e e.request choice octets))) over ∙ ap (λ y. y || not (is_kept e e.request choice octets)) read in
      ap (λ y. left_on_apdu c service reads (if y then None else Some e) free a) (ended_as c service reads e free live a true ends) ∙ read_at None refl

pub reads_are_fresh : ReadsAreFresh
reads_are_fresh = record {
  none = λ c service reads entry free limits id choice octets reply dead read outcome way.
      fresh_none c service reads free limits id choice octets reply read outcome way entry dead;
  over = λ c service reads e free limits id choice octets reply live over read outcome way.
      fresh_over c service reads free limits id choice octets reply read outcome way e live over;
}
