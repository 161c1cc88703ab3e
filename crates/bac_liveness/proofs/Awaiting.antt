-- Once an entry keeps the answer to an ask, in one APDU, its ticket takes that answer whenever it comes in time, also where its server restarts: no segment
-- of a reply can come, and a request that was sent whole stays so.
use Rattle.std.specs.Prelude.{is_some}
use Rattle.std.proofs.Common.{◌≡◌, ℕ, ◌+◌, ◌-◌, ◌≤◌, ◌⊎◌, Bool, true, false, ◌&&◌, ◌||◌, not, List, [], ◌∷◌, ◌++◌, Option, Some, None, slice_get, if◌then◌else◌}
use Rattle.std.proofs.Common.{nat_eq, nat_le, nat_lt, refl, sym, ap, subst, inl, inr, ◌∙◌, arith}
use Rattle.std.proofs.lemmas.Bool.Decides.{nat_tests}
use Rattle.bac_apdu.specs.Apdu.{Apdu}
use Rattle.bac_apdu.specs.Apdu.Apdu.{ConfirmedRequest, SimpleAck, ComplexAck, SegmentAck, Error, Reject, Abort}
use Rattle.bac_service.specs.Choices.{has_simple_ack, has_complex_ack}
use Rattle.bac_segment.specs.Window.{Outgoing, outgoing, is_finished, acknowledged, again}
use Rattle.bac_protocol.specs.declared.times.TheConstants.{T_OUT, T_SEG, DEADLINE, KEEP}
use Rattle.bac_protocol.specs.Context.{Context}
use Rattle.bac_protocol.specs.Service.{Octets, OTHER, Readable, Reply as reply}
use Rattle.bac_protocol.specs.Service.Ending.{Answered, Aborted, TimedOut, Expired}
use Rattle.bac_protocol.specs.Wire.{is_from_client, is_from_server, Each}
use Rattle.bac_protocol.specs.Client as client
use Rattle.bac_protocol.specs.Client.{Ask, Phase, ClientTransaction, Reaction, is_idle}
use Rattle.bac_protocol.specs.Client.Phase.{SegmentedRequest, AwaitConfirmation, SegmentedConf, Idle}
use Rattle.bac_protocol.specs.Client.Reaction.{Stays, GoesOn, Repeats, Ends}
use Rattle.bac_protocol.specs.Server as server
use Rattle.bac_protocol.specs.Server.{State, ServerTransaction, Service, is_live}
use Rattle.bac_protocol.specs.Server.State.{Done}
use Rattle.bac_protocol.specs.Transaction.{Key, Rules, Copy, client_context, server_context}
use Rattle.bac_protocol.specs.World.{Net, Post, later, is_room, is_short, lost, set_at, copies_of, client_acts, server_acts, asked_at, is_id_held}
use Rattle.bac_protocol.specs.World.{server_restarted, server_begun, client_now, server_now, passes}
use Rattle.bac_protocol.specs.Claims.{EachCopy}
use Rattle.bac_protocol.specs.Own.{IsOfClient}
use Rattle.bac_protocol.specs.Pace.{clock_at, Pace, Clock}
use Rattle.bac_protocol.proofs.Alone.{sent}
use Rattle.bac_protocol.proofs.Facts.{all_map, each_sent}
use Rattle.bac_protocol.proofs.Keys.{decide_key, set_same, set_other, copies_posted, copies_other, copy_at}
use Rattle.bac_protocol.proofs.Own.{client_sends_own}
use Rattle.bac_protocol.proofs.Paces.{shown_at, since_now}
use Rattle.bac_protocol.proofs.Resting.{IsUnserved}
use Rattle.bac_liveness.specs.Runs.{StaysSince}
use Rattle.bac_liveness.proofs.Paths.{Bounded, some_is, ask_of, Comes, Step, Path}
use Rattle.bac_liveness.proofs.Paths.Step.{Asks, Serves, Hears, TicksTicket, TicksEntry, Passes, Changes, RestartsClient, RestartsServer, BeginsClient, BeginsServer, BeginsNext, Strange}
use Rattle.bac_liveness.proofs.Paths.Path.{Here, Then}
use Rattle.bac_liveness.proofs.Changes.{IsThere, there_step}
use Rattle.bac_liveness.proofs.Clocks.{IsBegunAfter, IsLostAfter, MadeIn, BegunIn, LostIn, alive, closed, made_step, begun_passes, lost_passes, here_step}
use Rattle.bac_liveness.proofs.Clocks.{made_path, stays_at}
use Rattle.bac_liveness.proofs.Kept.{held_in_time}

-- an APDU is no segment of a reply
abbrev pub IsWhole : Apdu → Type 0
IsWhole (ComplexAck id (Some g) choice octets) = ⊥
IsWhole _ = Unit {0}

-- a ticket waits for an answer of one APDU, or is over
abbrev pub Awaits : Phase → Type 0
Awaits (SegmentedRequest out all_sent) = all_sent ≡ true
Awaits AwaitConfirmation = Unit {0}
Awaits (SegmentedConf inc) = ⊥
Awaits Idle = Unit {0}

from_client_whole : (a : Apdu) → is_from_client a ≡ true → IsWhole a
from_client_whole (ComplexAck id (Some g) choice octets) h = absurd cc
from_client_whole _ h = tt

-- What its client does.

abbrev AwaitsAfter : Reaction → Type 0
AwaitsAfter Stays = Unit {0}
AwaitsAfter (GoesOn phase sends) = Awaits phase
AwaitsAfter (Repeats phase sends) = Awaits phase
AwaitsAfter (Ends sends how) = Unit {0}

either_awaits : (b : Bool) (r s : Reaction) → AwaitsAfter r → AwaitsAfter s → AwaitsAfter (if b then r else s)
either_awaits true r s h k = h
either_awaits false r s h k = k

after_awaits : (now : ℕ) (t : ClientTransaction) (r : Reaction) → Awaits t.phase → AwaitsAfter r → Awaits (client.after now t r).phase
after_awaits now t Stays h k = h
after_awaits now t (GoesOn phase sends) h k = k
after_awaits now t (Repeats phase sends) h k = k
after_awaits now t (Ends sends how) h k = tt

module _ (c : Context) (readable : Readable) where
  refusal_awaits : (a : Apdu) → AwaitsAfter (client.on_refusal a)
  refusal_awaits (Reject i r) = tt
  refusal_awaits (Abort true i r) = tt
  refusal_awaits _ = tt

  answered_awaits : (choice : ℕ) (acks : List Apdu) (octets : Octets) → AwaitsAfter (client.answered_with c readable choice acks octets)
  answered_awaits choice acks octets = either_awaits (readable choice octets) (Ends acks (Answered (reply.Complex octets)))
      (Ends (acks ++ client.client_abort c OTHER ∷ []) (Aborted OTHER)) tt tt

  await_awaits : (ask : Ask) (a : Apdu) → IsWhole a → AwaitsAfter (client.await_confirmation_on_apdu c readable ask a)
  await_awaits ask (SimpleAck i choice) w =
      either_awaits (nat_eq choice ask.choice && has_simple_ack ask.choice) (Ends [] (Answered reply.Simple)) Stays tt tt
  await_awaits ask (ComplexAck i None choice o) w = either_awaits (nat_eq choice ask.choice && has_complex_ack ask.choice)
      (client.answered_with c readable ask.choice [] o) Stays (answered_awaits ask.choice [] o) tt
  await_awaits ask (ComplexAck i (Some g) choice o) w = absurd w
  await_awaits ask (Error i choice class code) w =
      either_awaits (nat_eq choice ask.choice) (Ends [] (Answered (reply.Error class code))) Stays tt tt
  await_awaits ask a w = refusal_awaits a

  moves_awaits : (choice : ℕ) (o : Option Outgoing) → AwaitsAfter (client.moves_request_window c choice true o)
  moves_awaits choice None = tt
  moves_awaits choice (Some out) =
      either_awaits (is_finished out) (GoesOn AwaitConfirmation []) (client.sends_request_window c choice out true) tt refl

  request_awaits : (ask : Ask) (out : Outgoing) (all_sent : Bool) → all_sent ≡ true → (a : Apdu) → IsWhole a
      → AwaitsAfter (client.segmented_request_on_apdu c readable ask out all_sent a)
  request_awaits ask out false e a w = absurd cc
  request_awaits ask out true e (SegmentAck true i ack) w = moves_awaits ask.choice (acknowledged c.settings.window out ack.number ack.window)
  request_awaits ask out true e a w = await_awaits ask a w

  open_awaits : (ask : Ask) (phase : Phase) → Awaits phase → (a : Apdu) → IsWhole a → AwaitsAfter (client.open_on_apdu c readable ask phase a)
  open_awaits ask (SegmentedRequest out all_sent) h a w = request_awaits ask out all_sent h a w
  open_awaits ask AwaitConfirmation h a w = await_awaits ask a w
  open_awaits ask (SegmentedConf inc) h a w = absurd h
  open_awaits ask Idle h a w = tt

  gets_awaits : (t : ClientTransaction) → Awaits t.phase → (a : Apdu) → IsWhole a → AwaitsAfter (client.client_on_apdu c readable t a)
  gets_awaits t h a w = either_awaits (is_idle t.phase || not (is_from_server a)) Stays
      (if client.is_expired c.now t.ask then Ends [] Expired else client.open_on_apdu c readable t.ask t.phase a) tt
      (either_awaits (client.is_expired c.now t.ask) (Ends [] Expired) (client.open_on_apdu c readable t.ask t.phase a) tt (open_awaits t.ask t.phase h a w))

module _ (c : Context) where
  again_awaits : (choice : ℕ) (o : Option Outgoing) → AwaitsAfter (client.sends_request_again c choice true o)
  again_awaits choice None = tt
  again_awaits choice (Some out) = refl

  sending_awaits : (t : ClientTransaction) (out : Outgoing) (all_sent : Bool) → all_sent ≡ true → AwaitsAfter (client.segmented_request_ticks c t out all_sent)
  sending_awaits t out false e = absurd cc
  sending_awaits t out true e = either_awaits (nat_le T_SEG (c.now - t.since)) (client.sends_request_again c t.ask.choice true (again out)) Stays
      (again_awaits t.ask.choice (again out)) tt

  open_ticks_awaits : (t : ClientTransaction) → Awaits t.phase → (phase : Phase) → Awaits phase → AwaitsAfter (client.open_ticks c t phase)
  open_ticks_awaits t h (SegmentedRequest out all_sent) k = sending_awaits t out all_sent k
  open_ticks_awaits t h AwaitConfirmation k = either_awaits (nat_le T_OUT (c.now - t.since)) (client.repeats c t) Stays
      (either_awaits t.ask.whole (client.repeats_whole c t) (client.repeats_pieces c t)
      (either_awaits (nat_eq t.repeats 0) (Ends [] TimedOut) (Repeats t.phase (client.request_apdu c t.ask ∷ [])) tt h)
      (either_awaits (nat_eq t.repeats 0) (Ends [] TimedOut)
      (Repeats (SegmentedRequest (outgoing t.ask.pieces) true) (client.request_window c t.ask.choice (outgoing t.ask.pieces))) tt refl)) tt
  open_ticks_awaits t h (SegmentedConf inc) k = absurd k
  open_ticks_awaits t h Idle k = tt

  ticks_awaits : (t : ClientTransaction) → Awaits t.phase → AwaitsAfter (client.client_ticks c t)
  ticks_awaits t h = either_awaits (is_idle t.phase) Stays
      (if client.is_expired c.now t.ask then Ends [] Expired else client.open_ticks c t t.phase) tt
      (either_awaits (client.is_expired c.now t.ask) (Ends [] Expired) (client.open_ticks c t t.phase) tt (open_ticks_awaits t h t.phase h))

-- What its server does.

module _ (c : Context) (service : Service) where
  either_sends : (b : Bool) (o : Option ServerTransaction) (x y : Apdu) → IsWhole x → IsWhole y
      → Each IsWhole (server.rests o ((if b then x else y) ∷ [])).sends
  either_sends true o x y h k = (h, tt)
  either_sends false o x y h k = (k, tt)

  done_sends : (e : ServerTransaction) (kept : Apdu) → IsWhole kept → (a : Apdu) → Each IsWhole (server.done_on_apdu c e kept a).sends
  done_sends e kept w (ConfirmedRequest limits i None choice o) =
      either_sends (server.is_kept e e.request choice o) (Some e) kept (server.server_abort c OTHER) w tt
  done_sends e kept w (ConfirmedRequest limits i (Some g) choice o) =
      either_sends (is_some e.request) (Some e) (server.server_abort c OTHER) kept tt w
  done_sends e kept w _ = tt

  done_entry : (e : ServerTransaction) (kept a : Apdu) → (server.done_on_apdu c e kept a).entry ≡ Some e
  done_entry e kept (ConfirmedRequest limits i None choice o) = refl
  done_entry e kept (ConfirmedRequest limits i (Some g) choice o) = refl
  done_entry e kept _ = refl

  -- a live entry that keeps it, and none where none may begin
  kept_gets : (e : ServerTransaction) (kept : Apdu) → is_live c.now e ≡ true → e.state ≡ Done kept → (free : Bool) (a : Apdu)
      → server.server_on_apdu c service (Some e) free a ≡ server.done_on_apdu c e kept a
  kept_gets e kept live state free a =
      ap (λ b. if b then server.live_on_apdu c service e e.state a else server.idle_on_apdu c service (Some e) free a) live
      ∙ ap (λ (st : State). server.live_on_apdu c service e st a) state

  closed_sends : (a : Apdu) → Each IsWhole (server.idle_on_apdu c service None false a).sends × ((server.idle_on_apdu c service None false a).entry ≡ None)
  closed_sends (ConfirmedRequest limits i None choice o) = ((tt, tt), refl)
  closed_sends (ConfirmedRequest limits i (Some g) choice o) = go (nat_eq g.number 0)
    where
      go : (b : Bool) → Each IsWhole (if not b then server.rests None [] else server.rests None (server.server_abort c OTHER ∷ [])).sends
          × ((if not b then server.rests None [] else server.rests None (server.server_abort c OTHER ∷ [])).entry ≡ None)
      go true = ((tt, tt), refl)
      go false = (tt, refl)
  closed_sends _ = (tt, refl)

module _ (x : Rules) (Q : Net → ℕ → Bool → Service → Type 0) (key : Key) (number : ℕ) (ask : Ask) (made : ℕ) (kept : Apdu) (whole : IsWhole kept) where
  -- the entry that was begun for it keeps the answer
  pub record IsDone (p : Pace) (now : ℕ) (server : Clock) (o : Option ServerTransaction) : Type 0 where
    pub entry : ServerTransaction
    pub at : o ≡ Some entry
    pub since : IsBegunAfter p now server made entry.begin
    pub state : entry.state ≡ Done kept

  -- or its server restarted since
  abbrev IsDoneOrLost : (p : Pace) (now : ℕ) (server : Clock) (from : ℕ) → Option ServerTransaction → Type 0
  IsDoneOrLost p now server from o = IsDone p now server o ⊎ ((o ≡ None) × IsLostAfter p now server made from)

  abbrev DoneIn : (n : Net) → (from : ℕ) → Option ServerTransaction → Type 0
  DoneIn n from o = IsDoneOrLost n.pace n.now (n.server_clocks key.server) from o

  abbrev AreWhole : (life now : ℕ) → List Copy → Type 0
  AreWhole life now copies = EachCopy (λ k c. now - c.moment ≤ life → IsWhole c.apdu) copies

  pub record IsAwaited (n : Net) : Type 0 where
    pub there : IsThere x Q key number ask made n
    pub phase : Awaits there.ticket.phase
    pub copies : AreWhole n.pace.life n.now (copies_of key n.posts)
    pub entry : DoneIn n (n.serves_from key.server) (n.entries key)
    pub runs : MadeIn n key ask.first made

  abbrev InTime : Net → Type 0
  InTime n = client_now n key - ask.first ≤ DEADLINE

  whole_sent : (life now : ℕ) (sends : List Apdu) (copies : List Copy) → Each IsWhole sends → AreWhole life now copies
      → AreWhole life now (sent now sends copies)
  whole_sent life now sends copies h old = each_sent (λ k c. now - c.moment ≤ life → IsWhole c.apdu) now sends copies
      (all_map IsWhole (λ a. (k : ℕ) → now - now ≤ life → IsWhole a) (λ a w k young. w) sends h)
      old

  copies_own : (n : Net) (sends : List Apdu) → Each IsWhole sends → AreWhole n.pace.life n.now (copies_of key n.posts) → (more : List Post)
      → copies_of key more ≡ sent n.now sends (copies_of key n.posts) → AreWhole n.pace.life n.now (copies_of key more)
  copies_own n sends h old more is = subst (AreWhole n.pace.life n.now) (sym is) (whole_sent n.pace.life n.now sends (copies_of key n.posts) h old)

  client_whole : (id : ℕ) (sends : List Apdu) → Each (IsOfClient id) sends → Each IsWhole sends
  client_whole id sends h = all_map (IsOfClient id) IsWhole (λ a of. from_client_whole a of.0) sends h

  -- a step at a moment at which the ask is in time
  module _ (n : Net) (h : IsAwaited n) (young : InTime n) (stays : StaysSince n key made) where
    live : (e : ServerTransaction) → BegunIn n key made e.begin → is_live (server_now n key) e ≡ true
    live e since = alive n.pace n.now (n.client_clocks key.client) (n.server_clocks key.server) (n.restarted key.client) ask.first made h.runs
        (omega arith) e since

    -- a server that restarted since begins nothing
    shut : LostIn n key made (n.serves_from key.server) → (free : Bool) → is_room n key free ≡ false
    shut lost free =
        let lt = closed n.pace n.now (n.client_clocks key.client) (n.server_clocks key.server) (n.restarted key.client) ask.first made h.runs (omega arith)
        (n.serves_from key.server) lost in
        let waits : nat_lt (server_now n key) (n.serves_from key.server) ≡ true = grind (arith, nat_tests) in
        ap (λ (b : Bool). free && not b) waits ∙ go free
      where
        go : (b : Bool) → (b && false) ≡ false
        go true = refl
        go false = refl

    abbrev context : Context
    context = server_context x key (server_now n key)

    abbrev gets : Service → Bool → Apdu → server.Reaction
    gets service free a = server.server_on_apdu (server_context x key (server_now n key)) service (n.entries key) (is_room n key free) a

    abbrev Goes : server.Reaction → Type 0
    Goes v = Each IsWhole v.sends × DoneIn n (n.serves_from key.server) v.entry

    served : (service : Service) (free : Bool) (a : Apdu) → Goes (gets service free a)
    served service free a = go h.entry
      where
        c : Context
        c = server_context x key (server_now n key)

        go : DoneIn n (n.serves_from key.server) (n.entries key) → Goes (gets service free a)
        go (inl d) = subst Goes (sym (ap (λ (o : Option ServerTransaction). server.server_on_apdu (server_context x key (server_now n key)) service o
            (is_room n key free) a) d.at
            ∙ kept_gets (server_context x key (server_now n key)) service d.entry kept (live d.entry d.since) d.state (is_room n key free) a)) (
              done_sends (server_context x key (server_now n key)) service d.entry kept whole a,
              inl (record {
                entry = d.entry;
                at = done_entry (server_context x key (server_now n key)) service d.entry kept a;
                since = d.since;
                state = d.state;
              }),
            )
        go (inr lost) =
            let none = closed_sends (server_context x key (server_now n key)) service a in
            subst Goes (λ i. server.server_on_apdu (server_context x key (server_now n key)) service (sym lost.0 i) (sym (shut lost.1 free) i) a)
            (none.0, inr (none.1, lost.1))

    ticked : Goes (server.server_ticks (server_context x key (server_now n key)) (n.entries key))
    ticked = go h.entry
      where
        go : DoneIn n (n.serves_from key.server) (n.entries key) → Goes (server.server_ticks (server_context x key (server_now n key)) (n.entries key))
        go (inl d) = subst Goes (sym (ap (server.server_ticks (server_context x key (server_now n key))) d.at
            ∙ ap (λ b. if b then server.live_ticks (server_context x key (server_now n key)) d.entry d.entry.state else server.rests (Some d.entry) [])
            (live d.entry d.since)
            ∙ ap (λ (st : State). server.live_ticks (server_context x key (server_now n key)) d.entry st) d.state))
            (tt, inl (record { entry = d.entry; at = refl; since = d.since; state = d.state }))
        go (inr lost) = subst Goes (ap (server.server_ticks (server_context x key (server_now n key))) (sym lost.0)) (tt, inr (refl, lost.1))

    awaiting : (t : ClientTransaction) → n.tickets key ≡ Some t → Awaits t.phase
    awaiting t at = subst (λ (y : ClientTransaction). Awaits y.phase) (some_is h.there.ticket t (sym h.there.at ∙ at)) h.phase

    held : is_id_held n key ≡ true
    held = held_in_time x Q key number ask made n h.there stays (omega arith)

    -- another's ask, an ending or a repeat of its own: what stays to be said of the ticket, the copies and the entry
    record Next (m : Net) : Type 0 where
      ticket : (u : ClientTransaction) → m.tickets key ≡ Some u → Awaits u.phase
      copies : AreWhole m.pace.life m.now (copies_of key m.posts)
      entry : DoneIn m (m.serves_from key.server) (m.entries key)

    client_next : (k : Key) (t : ClientTransaction) (r : Reaction) → (k ≡ key → AwaitsAfter r × Each IsWhole (client.sends_of r)) → n.tickets k ≡ Some t
        → Next (client_acts n k t r)
    client_next k t r own at = go (decide_key k key)
      where
        next_ticket : Option ClientTransaction
        next_ticket = Some (client.after (client_now n k) t r)

        go : ((k ≡ key) ⊎ (k ≡ key → ⊥)) → Next (client_acts n k t r)
        go (inl is) = record {
          ticket = λ u there.
              let same : client.after (client_now n k) t r ≡ u = some_is (client.after (client_now n k) t r) u
              (sym (subst (λ (j : Key). set_at n.tickets k next_ticket j ≡ next_ticket) is (set_same n.tickets k next_ticket)) ∙ there) in
              subst (λ (y : ClientTransaction). Awaits y.phase) same
              (after_awaits (client_now n k) t r (awaiting t (ap n.tickets (sym is) ∙ at)) (own is).0);
          copies = copies_own n (client.sends_of r) (own is).1 h.copies (client_acts n k t r).posts
              (subst (λ (j : Key). copies_of key (client_acts n j t r).posts ≡ sent n.now (client.sends_of r) (copies_of key n.posts)) (sym is)
              (copies_posted key n.now (client.sends_of r) n.posts));
          entry = h.entry;
        }
        go (inr ne) = record {
          ticket = λ u there. awaiting u (sym (set_other n.tickets k next_ticket key ne) ∙ there);
          copies = subst (AreWhole n.pace.life n.now) (sym (copies_other k key ne n.now (client.sends_of r) n.posts)) h.copies;
          entry = h.entry;
        }

    server_next : (k : Key) (v : server.Reaction) → (k ≡ key → Goes v) → Next (server_acts n k v)
    server_next k v own = go (decide_key k key)
      where
        go : ((k ≡ key) ⊎ (k ≡ key → ⊥)) → Next (server_acts n k v)
        go (inl is) = record {
          ticket = awaiting;
          copies = copies_own n v.sends (own is).0 h.copies (server_acts n k v).posts
              (subst (λ (j : Key). copies_of key (server_acts n j v).posts ≡ sent n.now v.sends (copies_of key n.posts)) (sym is)
              (copies_posted key n.now v.sends n.posts));
          entry = subst (DoneIn n (n.serves_from key.server))
              (sym (subst (λ (j : Key). set_at n.entries k v.entry j ≡ v.entry) is (set_same n.entries k v.entry))) (own is).1;
        }
        go (inr ne) = record {
          ticket = awaiting;
          copies = subst (AreWhole n.pace.life n.now) (sym (copies_other k key ne n.now v.sends n.posts)) h.copies;
          entry = subst (DoneIn n (n.serves_from key.server)) (sym (set_other n.entries k v.entry key ne)) h.entry;
        }

    -- a copy of the transaction that comes is no segment of a reply
    whole_comes : (i : ℕ) (p : Post) → Comes x n i p → p.key ≡ key → IsWhole p.copy.apdu
    whole_comes i p comes is =
        h.copies (later key i n.posts) p.copy
        (subst (λ (j : Key). slice_get (copies_of j n.posts) (later j i n.posts) ≡ Some p.copy) is (copy_at i n.posts p comes.at))
        (by_tests (nat_le (n.now - p.copy.moment) n.pace.life) (nat_le (later p.key i n.posts) x.overtake || is_short n p.key) refl comes.arrives)
      where
        by_tests : (a b : Bool) → nat_le (n.now - p.copy.moment) n.pace.life ≡ a → (a && b) ≡ true → n.now - p.copy.moment ≤ n.pace.life
        by_tests true b e f = grind (arith, nat_tests)
        by_tests false b e f = absurd cc

    ask_next : (k : Key) (other : Ask) → is_id_held n k ≡ false → Next (asked_at x n k other)
    ask_next k other free = go (decide_key k key)
      where
        go : ((k ≡ key) ⊎ (k ≡ key → ⊥)) → Next (asked_at x n k other)
        go (inl is) = absurd (let z = sym held ∙ ap (is_id_held n) (sym is) ∙ free in cc)
        go (inr ne) = record {
          ticket = λ u there. awaiting u (sym (set_other n.tickets k (Some (client.asked_ticket (client_context x k (client_now n k)) other)) key ne) ∙ there);
          copies = subst (AreWhole n.pace.life n.now)
              (sym (copies_other k key ne n.now (client.sends_of (client.asks (client_context x k (client_now n k)) other)) n.posts)) h.copies;
          entry = h.entry;
        }

    -- a client's tickets are lost
    tickets_lost : (node : ℕ) (u : ClientTransaction) → (if nat_eq key.client node then lost (n.tickets key) else n.tickets key) ≡ Some u → Awaits u.phase
    tickets_lost node = go (nat_eq key.client node)
      where
        over : (o : Option ClientTransaction) (u : ClientTransaction) → lost o ≡ Some u → Awaits u.phase
        over None u e = absurd cc
        over (Some t) u e = subst (λ (y : ClientTransaction). Awaits y.phase) (some_is (record t { phase = Idle }) u e) tt

        go : (b : Bool) (u : ClientTransaction) → (if b then lost (n.tickets key) else n.tickets key) ≡ Some u → Awaits u.phase
        go true u e = over (n.tickets key) u e
        go false u e = awaiting u e

    -- a server that begins is not that of the ask
    server_begins : (node exact : ℕ) → IsUnserved n.entries n.far.entries n.serves_from node → Next (server_begun n node exact)
    server_begins node exact off = record { ticket = awaiting; copies = h.copies; entry = go (nat_eq key.server node) refl }
      where
        none : key.server ≡ node → DoneIn n (n.serves_from key.server) (n.entries key) → ⊥
        none at (inl d) = let nil = off.entries key at in let some = d.at in absurd cc
        none at (inr lost) =
            let nil : n.serves_from key.server ≡ 0 = ap n.serves_from at ∙ off.opens in let is = lost.1.from_is in omega arith

        go : (b : Bool) → nat_eq key.server node ≡ b
            → IsDoneOrLost n.pace n.now (if b then clock_at n.pace exact else n.server_clocks key.server) (n.serves_from key.server) (n.entries key)
        go true is = absurd (none (grind (arith, nat_tests)) h.entry)
        go false is = h.entry

    server_lost : (node exact : ℕ) (store : Option Octets) → Next (server_restarted n node exact store)
    server_lost node exact store = record { ticket = awaiting; copies = h.copies; entry = go (nat_eq key.server node) }
      where
        go : (b : Bool) → IsDoneOrLost n.pace n.now (if b then clock_at n.pace exact else n.server_clocks key.server)
            (if b then (clock_at n.pace exact).shows + KEEP + 1 else n.serves_from key.server) (if b then None else n.entries key)
        go true = inr (
          refl,
          record {
            restarted = n.now;
            shown = (clock_at n.pace exact).shows;
            after = h.runs.since.on;
            since = since_now n.pace n.now (clock_at n.pace exact) (shown_at n.pace h.runs.timely.some exact);
            from_is = refl;
          },
        )
        go false = h.entry

    own_hears : (k : Key) → k ≡ key → (t : ClientTransaction) → n.tickets k ≡ Some t → (a : Apdu) → IsWhole a
        → (let r = client.client_on_apdu (client_context x k (client_now n k)) x.readable t a in AwaitsAfter r × Each IsWhole (client.sends_of r))
    own_hears k is t at a w =
        let c = client_context x k (client_now n k) in (
          gets_awaits c x.readable t (awaiting t (ap n.tickets (sym is) ∙ at)) a w,
          client_whole c.invoke_id (client.sends_of (client.client_on_apdu c x.readable t a)) (client_sends_own.gets c x.readable t a),
        )

    own_ticks : (k : Key) → k ≡ key → (t : ClientTransaction) → n.tickets k ≡ Some t
        → (let r = client.client_ticks (client_context x k (client_now n k)) t in AwaitsAfter r × Each IsWhole (client.sends_of r))
    own_ticks k is t at =
        let c = client_context x k (client_now n k) in (
          ticks_awaits c t (awaiting t (ap n.tickets (sym is) ∙ at)),
          client_whole c.invoke_id (client.sends_of (client.client_ticks c t)) (client_sends_own.ticks c t),
        )

    next : (m : Net) → Step x Q n m → Next m
    next _ (Asks k choice w front rest free) = ask_next k (ask_of (client_now n k) choice w front rest) free
    next _ (Serves i p free service comes up q) =
        server_next p.key (server.server_on_apdu (server_context x p.key (server_now n p.key)) service (n.entries p.key) (is_room n p.key free) p.copy.apdu)
        (λ is.
        subst (λ (j : Key). Goes (server.server_on_apdu (server_context x j (server_now n j)) service (n.entries j) (is_room n j free) p.copy.apdu)) (sym is)
        (served service free p.copy.apdu))
    next _ (Hears i p t comes down at) =
        client_next p.key t (client.client_on_apdu (client_context x p.key (client_now n p.key)) x.readable t p.copy.apdu)
        (λ is. own_hears p.key is t at p.copy.apdu (whole_comes i p comes is)) at
    next _ (TicksTicket k t at) = client_next k t (client.client_ticks (client_context x k (client_now n k)) t) (λ is. own_ticks k is t at) at
    next _ (TicksEntry k) =
        server_next k (server.server_ticks (server_context x k (server_now n k)) (n.entries k)) (λ is.
        subst (λ (j : Key). Goes (server.server_ticks (server_context x j (server_now n j)) (n.entries j))) (sym is) ticked)
    next _ (Passes by clients servers) = record { ticket = awaiting; copies = λ k c at young'. h.copies k c at (omega arith); entry = entry_later h.entry }
      where
        entry_later : DoneIn n (n.serves_from key.server) (n.entries key) → DoneIn (passes n by clients servers) (n.serves_from key.server) (n.entries key)
        entry_later (inl d) = inl (record {
          entry = d.entry;
          at = d.at;
          since = begun_passes x Q key ask.first made n by clients servers d.entry.begin d.since;
          state = d.state;
        })
        entry_later (inr lost) = inr (lost.0, lost_passes x Q key ask.first made n by servers (n.serves_from key.server) lost.1)
    next _ (Changes node change) = record { ticket = awaiting; copies = h.copies; entry = h.entry }
    next _ (Strange m aside) = record { ticket = awaiting; copies = h.copies; entry = h.entry }
    next _ (BeginsClient node exact off) = record { ticket = awaiting; copies = h.copies; entry = h.entry }
    next _ (BeginsServer node exact off) = server_begins node exact off
    next _ (BeginsNext node exact quiet earlier) = record { ticket = tickets_lost node; copies = h.copies; entry = h.entry }
    next _ (RestartsClient node exact) = record { ticket = tickets_lost node; copies = h.copies; entry = h.entry }
    next _ (RestartsServer node exact store) = server_lost node exact store

  awaited_step : (n m : Net) → Step x Q n m → IsAwaited n → InTime n → StaysSince n key made → StaysSince m key made → IsAwaited m
  awaited_step n m st h young stays after = go (there_step x Q key number ask made n m st h.there)
    where
      s : Next n h young stays m
      s = next n h young stays m st

      go : (IsThere x Q key number ask made m ⊎ (is_id_held n key ≡ false)) → IsAwaited m
      go (inl t) = record {
        there = t;
        phase = s.ticket t.ticket t.at;
        copies = s.copies;
        entry = s.entry;
        runs = made_step x Q key ask.first made n m st after h.runs;
      }
      go (inr free) = absurd (let z = sym (held n h young stays) ∙ free in cc)

  pub awaited_path : (n m : Net) → Path x Q n m → Bounded n → IsAwaited n → StaysSince m key made → InTime m → IsAwaited m
  awaited_path n _ Here b h stays young = h
  awaited_path n _ (Then l m p s) b h stays young =
      let before = stays_at x Q key ask.first made n l m p s b stays h.runs in
      let on = here_step x Q key ask.first made l m s stays (made_path x Q key ask.first made n l p b before h.runs) in
      let earlier : InTime l = omega arith in awaited_step l m s (awaited_path n l p b h before earlier) earlier before stays
