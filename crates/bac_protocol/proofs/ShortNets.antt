-- Nets whose nodes all take APDUs of 480 octets or more: no transfer of theirs has more than 139 pieces.
use Rattle.std.proofs.Common.{◌≡◌, ℕ, zero, suc, ◌-◌, ◌≤◌, ◌⊎◌, ◌+◌, min, Bool, true, false, not, List, [], ◌∷◌, ◌++◌, map, length, Option, Some}
use Rattle.std.proofs.Common.{None, slice_get, if◌then◌else◌, nat_le, nat_lt, nat_eq, refl, sym, subst, inl, inr, arith}
use Rattle.std.specs.Prelude.{is_some}
use Rattle.std.proofs.lemmas.Bool.Decides.{nat_tests}
use Rattle.bac_apdu.specs.Apdu.{Apdu, Limits, Segment}
use Rattle.bac_apdu.specs.Apdu.Apdu.{ConfirmedRequest, SegmentAck, Reject, Abort}
use Rattle.bac_segment.specs.Pieces.{join}
use Rattle.bac_segment.specs.Limits.{N_RETRY}
use Rattle.bac_segment.specs.Numbers.{ahead}
use Rattle.bac_segment.specs.Window.{Outgoing, in_window, is_finished, acknowledged, again, resume, Incoming, incoming, Taking, takes}
use Rattle.bac_segment.specs.Window.Taking.{Taken, Whole, Nak, TooLong}
use Rattle.bac_protocol.specs.Times.{T_SEG, T_WAIT_FOR_SEG}
use Rattle.bac_protocol.specs.Context.{Context}
use Rattle.bac_protocol.specs.Service.{Octets, OTHER, Reply as reply, Outcome}
use Rattle.bac_protocol.specs.Service.Outcome.{Replies, Rejects}
use Rattle.bac_protocol.specs.Wire.{is_from_client, Each}
use Rattle.bac_protocol.specs.Client as client
use Rattle.bac_protocol.specs.Client.{Ask, Phase, ClientTransaction}
use Rattle.bac_protocol.specs.Client.Phase.{AwaitConfirmation, SegmentedConf, Idle}
use Rattle.bac_protocol.specs.Server as server
use Rattle.bac_protocol.specs.Server.{Effect, Transfer, State, ServerTransaction, Service, is_live, is_none_live}
use Rattle.bac_protocol.specs.Server.Transfer.{Running, Stopped, Finished}
use Rattle.bac_protocol.specs.Server.State.{Done, SegmentedResponse, Dropped}
use Rattle.bac_protocol.specs.Sizes.{Way, reply_way_of}
use Rattle.bac_protocol.specs.Sizes.Way.{InOne, InSegments, Refused}
use Rattle.bac_protocol.specs.Reuse.{Reads, ends_entry, has_transfer, idle_on_read, idle_reusing, left_on_apdu, reads_so, server_hears}
use Rattle.bac_protocol.specs.Own.{IsOfServer, StateHas, EntryHas, PhaseHas}
use Rattle.bac_protocol.specs.Transaction.{Key, Rules, client_context, server_context}
use Rattle.bac_protocol.specs.World.{Net, Post, asked_at, asked_away_at, begun, begun_again, client_acts, client_now, client_restarted, is_active, is_deliverable}
use Rattle.bac_protocol.specs.World.{is_id_held, is_id_held_away, is_quiet, is_room, is_short, net_start, notes_change, passes, pieces_of_state, post_of}
use Rattle.bac_protocol.specs.World.{server_acts, server_acts_away, server_now, server_restarted, set_at, with_reply}
use Rattle.bac_protocol.specs.Moves.{Move, arrived, moved, strayed_to_client, strayed_to_server, taken_by_client, taken_by_server, ticket_ticked, ticket_ticked_away}
use Rattle.bac_protocol.specs.Moves.Move.{Asks, Arrives, TicksTicket, TicksEntry, Passes, Changes, RestartsClient, RestartsServer, Begins, BeginsAgain, Strays}
use Rattle.bac_protocol.specs.Moves.Move.{AsksAway, TicksTicketAway, TicksEntryAway}
use Rattle.bac_protocol.specs.Pace.{Pace}
use Rattle.bac_protocol.specs.LongApdus.{AllTakeLong, IsFew, IsReachedByFew, ReplyFits, ServiceFits, TakesLong}
use Rattle.bac_protocol.specs.LongApdus.IsReachedByFew.{Still, Moved}
use Rattle.bac_protocol.proofs.Keys.{decide_key, set_same, set_other}
use Rattle.bac_protocol.proofs.LongApdus.{replies_are_cut}
use Rattle.bac_protocol.proofs.Own.{ClientSends, BeginsAnswer, own_sends, gets_own, ticks_own, asks_own}
use Rattle.bac_protocol.proofs.Own.{ServerSends, BeginsRequest, IsOwnAs, server_gets_own, server_ticks_own}

-- What is said of APDUs and entries.

-- a request says that its client takes so much
abbrev pub SaysLong : Apdu → Type 0
SaysLong (ConfirmedRequest limits i g choice octets) = TakesLong limits
SaysLong _ = Unit {0}

abbrev pub AnyWindow : ℕ → Type 0
AnyWindow window = Unit {0}

any_phase : (phase : Phase) → PhaseHas AnyWindow phase
any_phase (Phase.SegmentedRequest out all_sent) = tt
any_phase AwaitConfirmation = tt
any_phase (SegmentedConf inc) = tt
any_phase Idle = tt

any_request : (own : ℕ) (a : Apdu) → BeginsRequest own AnyWindow a
any_request own (ConfirmedRequest limits i (Some g) choice o) = tt
any_request own _ = tt

any_answer : (own : ℕ) (a : Apdu) → BeginsAnswer own AnyWindow a
any_answer own (Apdu.ComplexAck i (Some g) choice o) = tt
any_answer own _ = tt

-- an entry knows its client for one that takes so much, and its reply has few pieces
abbrev pub IsSmall : Option ServerTransaction → Type 0
IsSmall None = Unit {0}
IsSmall (Some e) = TakesLong e.limits × (pieces_of_state e.state ≤ 139)

-- it keeps no request
abbrev pub KeepsReplies : Option ServerTransaction → Type 0
KeepsReplies o = EntryHas SaysLong AnyWindow o

-- what was performed, if its reply is what that service gives, has a reply that can be sent
abbrev pub EffectFits : Service → Option Effect → Type 0
EffectFits service None = Unit {0}
EffectFits service (Some f) = service f.request.choice f.request.service ≡ Replies f.reply → ReplyFits f.reply

effects_fit : (service : Service) → ServiceFits service → (o : Option Effect) → EffectFits service o
effects_fit service fits None = tt
effects_fit service fits (Some f) = λ is. fits f.request.choice f.request.service f.reply is

-- What each end sends.

client_says : (c : Context) → TakesLong c.settings.limits → ClientSends c SaysLong AnyWindow
client_says c own = record {
  whole = λ ask. own;
  piece = λ choice ps n. own;
  ack = λ nak number window h. tt;
  abort = λ reason. tt;
}

server_says : (c : Context) → ServerSends c SaysLong AnyWindow
server_says c = record {
  whole = whole;
  piece = λ choice ps n. tt;
  ack = λ nak number window h. tt;
  reject = λ reason. tt;
  abort = λ reason. tt;
}
  where
    whole : (choice : ℕ) (p : reply) → SaysLong (server.reply_apdu c choice p)
    whole choice reply.Simple = tt
    whole choice (reply.Complex o) = tt
    whole choice (reply.Error class code) = tt

-- what a server sends is no request
says_reply : (id : ℕ) (a : Apdu) → IsOfServer id a → SaysLong a
says_reply id (ConfirmedRequest limits i g choice octets) h = let up = h.0 in absurd cc
says_reply id (Apdu.UnconfirmedRequest choice octets) h = tt
says_reply id (Apdu.SimpleAck i choice) h = tt
says_reply id (Apdu.ComplexAck i g choice octets) h = tt
says_reply id (SegmentAck up i ack) h = tt
says_reply id (Apdu.Error i choice class code) h = tt
says_reply id (Reject i reason) h = tt
says_reply id (Abort up i reason) h = tt

pub all_replies : (id : ℕ) (sends : List Apdu) → Each (IsOfServer id) sends → Each SaysLong sends
all_replies id [] h = tt
all_replies id (a ∷ sends) h = (says_reply id a h.0, all_replies id sends h.1)

pub keeps_replies : (id : ℕ) (o : Option ServerTransaction) → EntryHas (IsOfServer id) AnyWindow o → KeepsReplies o
keeps_replies id None h = tt
keeps_replies id (Some e) h = go e.state h
  where
    go : (st : State) → StateHas (IsOfServer id) AnyWindow st → StateHas SaysLong AnyWindow st
    go (State.SegmentedRequest inc since) h = tt
    go (Done kept) h = says_reply id kept h
    go (SegmentedResponse out transfer since) h = tt
    go Dropped h = tt

-- What an APDU makes of an entry, where what is performed has a reply that can be sent.

module _ (c : Context) (service : Service) (own : TakesLong c.settings.limits) where
  abbrev Goes : server.Reaction → Type 0
  Goes v = EffectFits service v.effect → IsSmall v.entry

  rests_small : (o : Option ServerTransaction) (sends : List Apdu) → IsSmall o → Goes (server.rests o sends)
  rests_small o sends h fits = h

  drops_small : (e : ServerTransaction) (sends : List Apdu) → TakesLong e.limits → Goes (server.becomes e Dropped sends)
  drops_small e sends h fits = (h, omega arith)

  cut_small : (limits : Limits) → TakesLong limits → (p : reply) (ps : List Octets) → reply_way_of c.settings limits p ≡ InSegments ps → ReplyFits p
      → length ps ≤ 139
  cut_small limits h reply.Simple ps is fits = absurd cc
  cut_small limits h (reply.Complex octets) ps is fits = let few = replies_are_cut.long c.settings limits octets ps is fits own h in omega arith
  cut_small limits h (reply.Error class code) ps is fits = absurd cc

  sends_reply_small : (e : ServerTransaction) (acks : List Apdu) (octets : Octets) (p : reply) (way : Way ℕ) → TakesLong e.limits
      → service e.choice octets ≡ Replies p → reply_way_of c.settings e.limits p ≡ way → Goes (server.sends_reply c e acks octets p way)
  sends_reply_small e acks octets p InOne h given is fits = (h, omega arith)
  sends_reply_small e acks octets p (InSegments ps) h given is fits = (h, cut_small e.limits h p ps is (fits given))
  sends_reply_small e acks octets p (Refused reason) h given is fits = (h, omega arith)

  so_small : (e : ServerTransaction) (acks : List Apdu) (octets : Octets) (o : Outcome) → TakesLong e.limits → service e.choice octets ≡ o
      → Goes (server.performs_so c e acks octets o)
  so_small e acks octets (Replies p) h is = sends_reply_small e acks octets p (reply_way_of c.settings e.limits p) h is refl
  so_small e acks octets (Rejects reason) h is = λ fits. (h, omega arith)

  request_segment_small : (e : ServerTransaction) (number window : ℕ) (y : Taking) → TakesLong e.limits
      → Goes (server.request_segment_taken c service e number window y)
  request_segment_small e number window (Taken true inc) h = λ fits. (h, omega arith)
  request_segment_small e number window (Taken false inc) h = λ fits. (h, omega arith)
  request_segment_small e number window (Whole parts) h = so_small (server.keeps_first parts e) (server.server_ack c false number window ∷ []) (join parts)
      (service e.choice (join parts)) h refl
  request_segment_small e number window (Nak inc) h = λ fits. (h, omega arith)
  request_segment_small e number window TooLong h = drops_small e (server.server_abort c 1 ∷ []) h

  request_small : (o : Option ServerTransaction) → IsSmall o → (free : Bool) (choice : ℕ) (limits : Limits) → TakesLong limits → (octets : Octets)
      → Goes (server.idle_on_request c service o free choice limits octets)
  request_small o h true choice limits says octets = so_small (server.begins c choice limits (Some octets)) [] octets (service choice octets) says refl
  request_small o h false choice limits says octets = rests_small o (server.server_abort c OTHER ∷ []) h

  segment_small : (o : Option ServerTransaction) → IsSmall o → (free : Bool) (choice : ℕ) (limits : Limits) → TakesLong limits → (g : Segment)
      → (octets : Octets) → Goes (server.idle_on_segment c service o free choice limits g octets)
  segment_small o h free choice limits says g octets = go (nat_eq g.number 0) free
    where
      go : (b d : Bool) → Goes (if not b then server.rests o [] else if d then server.request_segment_taken c service
          (server.begins c choice limits None) g.number (incoming c.settings.window g.window).window
          (takes (incoming c.settings.window g.window) g.number g.more octets) else server.rests o (server.server_abort c OTHER ∷ []))
      go true true = request_segment_small (server.begins c choice limits None) g.number (incoming c.settings.window g.window).window
          (takes (incoming c.settings.window g.window) g.number g.more octets) says
      go true false = rests_small o (server.server_abort c OTHER ∷ []) h
      go false d = rests_small o [] h

  idle_small : (o : Option ServerTransaction) → IsSmall o → (free : Bool) (a : Apdu) → SaysLong a → Goes (server.idle_on_apdu c service o free a)
  idle_small o h free (ConfirmedRequest limits i None choice octets) says = request_small o h free choice limits says octets
  idle_small o h free (ConfirmedRequest limits i (Some g) choice octets) says = segment_small o h free choice limits says g octets
  idle_small o h free _ says = rests_small o [] h

  request_in_segments_small : (e : ServerTransaction) → IsSmall (Some e) → (inc : Incoming) (since : ℕ) (a : Apdu)
      → Goes (server.segmented_request_on_apdu c service e inc since a)
  request_in_segments_small e h inc since (ConfirmedRequest limits i (Some g) choice octets) = go (nat_le T_WAIT_FOR_SEG (c.now - since))
    where
      go : (b : Bool) → Goes (if b then server.becomes e Dropped (server.server_abort c OTHER ∷ []) else server.request_segment_taken c service e
          g.number inc.window (takes inc g.number g.more octets))
      go true = drops_small e (server.server_abort c OTHER ∷ []) h.0
      go false = request_segment_small e g.number inc.window (takes inc g.number g.more octets) h.0
  request_in_segments_small e h inc since (Abort false i reason) = drops_small e [] h.0
  request_in_segments_small e h inc since _ = rests_small (Some e) [] h

  done_small : (e : ServerTransaction) → IsSmall (Some e) → (kept : Apdu) (a : Apdu) → Goes (server.done_on_apdu c e kept a)
  done_small e h kept (ConfirmedRequest limits i None choice octets) =
      rests_small (Some e) ((if server.is_kept e e.request choice octets then kept else server.server_abort c OTHER) ∷ []) h
  done_small e h kept (ConfirmedRequest limits i (Some g) choice octets) =
      rests_small (Some e) ((if is_some e.request then server.server_abort c OTHER else kept) ∷ []) h
  done_small e h kept _ = rests_small (Some e) [] h

  -- an entry goes on with a reply of so many pieces
  abbrev OutSmall : Option Outgoing → Type 0
  OutSmall None = Unit {0}
  OutSmall (Some out) = length out.pieces ≤ 139

  window_small : (e : ServerTransaction) → TakesLong e.limits → (out : Outgoing) → length out.pieces ≤ 139 → Goes (server.sends_reply_window c e out)
  window_small e h out few fits = (h, few)

  resumes_small : (e : ServerTransaction) → IsSmall (Some e) → (out : Outgoing) → length out.pieces ≤ 139 → (transfer : Transfer)
      → Goes (server.resumes c e out transfer)
  resumes_small e h out few Stopped = window_small e h.0 (resume out) few
  resumes_small e h out few Running = rests_small (Some e) [] h
  resumes_small e h out few Finished = rests_small (Some e) [] h

  moves_small : (e : ServerTransaction) → IsSmall (Some e) → (o : Option Outgoing) → OutSmall o → Goes (server.moves_reply_window c e o)
  moves_small e h None few = rests_small (Some e) [] h
  moves_small e h (Some out) few = go (is_finished out)
    where
      go : (b : Bool) → Goes (if b then server.becomes e (SegmentedResponse out Finished c.now) [] else server.sends_reply_window c e out)
      go true = λ fits. (h.0, few)
      go false = window_small e h.0 out few

  acknowledged_small : (window : ℕ) (out : Outgoing) (number most : ℕ) → length out.pieces ≤ 139 → OutSmall (acknowledged most out number window)
  acknowledged_small window out number most few = go (nat_lt (ahead number out.first) (in_window out))
    where
      go : (b : Bool) → OutSmall (if b
          then Some (record out { first = out.first + ahead number out.first + 1; window = min window most; retries = N_RETRY })
          else None)
      go true = few
      go false = tt

  ack_small : (e : ServerTransaction) → IsSmall (Some e) → (out : Outgoing) → length out.pieces ≤ 139 → (transfer : Transfer) (number window : ℕ)
      → Goes (server.segmented_response_on_ack c e out transfer number window)
  ack_small e h out few Running number window = moves_small e h (acknowledged c.settings.window out number window)
      (acknowledged_small window out number c.settings.window few)
  ack_small e h out few Stopped number window = rests_small (Some e) [] h
  ack_small e h out few Finished number window = rests_small (Some e) [] h

  response_small : (e : ServerTransaction) → IsSmall (Some e) → (out : Outgoing) → length out.pieces ≤ 139 → (transfer : Transfer) (since : ℕ) (a : Apdu)
      → Goes (server.segmented_response_on_apdu c e out transfer since a)
  response_small e h out few transfer since (ConfirmedRequest limits i None choice octets) = go (server.is_kept e e.request choice octets)
    where
      go : (b : Bool) → Goes (if b then server.resumes c e out transfer else server.rests (Some e) (server.server_abort c OTHER ∷ []))
      go true = resumes_small e h out few transfer
      go false = rests_small (Some e) (server.server_abort c OTHER ∷ []) h
  response_small e h out few transfer since (ConfirmedRequest limits i (Some g) choice octets) = go (is_some e.request)
    where
      go : (b : Bool) → Goes (if b then server.rests (Some e) (server.server_abort c OTHER ∷ []) else server.resumes c e out transfer)
      go true = rests_small (Some e) (server.server_abort c OTHER ∷ []) h
      go false = resumes_small e h out few transfer
  response_small e h out few transfer since (SegmentAck false i ack) = ack_small e h out few transfer ack.number ack.window
  response_small e h out few transfer since (Abort false i reason) = λ fits. (h.0, few)
  response_small e h out few transfer since _ = rests_small (Some e) [] h

  dropped_small : (e : ServerTransaction) → IsSmall (Some e) → (a : Apdu) → Goes (server.dropped_on_apdu c e a)
  dropped_small e h (ConfirmedRequest limits i g choice octets) = rests_small (Some e) (server.server_abort c OTHER ∷ []) h
  dropped_small e h _ = rests_small (Some e) [] h

  live_small : (e : ServerTransaction) → IsSmall (Some e) → (st : State) → pieces_of_state st ≤ 139 → (a : Apdu)
      → Goes (server.live_on_apdu c service e st a)
  live_small e h (State.SegmentedRequest inc since) few a = request_in_segments_small e h inc since a
  live_small e h (Done kept) few a = done_small e h kept a
  live_small e h (SegmentedResponse out transfer since) few a = response_small e h out few transfer since a
  live_small e h Dropped few a = dropped_small e h a

  gets_small : (o : Option ServerTransaction) (free : Bool) (a : Apdu) → SaysLong a → IsSmall o → Goes (server.server_on_apdu c service o free a)
  gets_small None free a says h = idle_small None h free a says
  gets_small (Some e) free a says h = go (is_live c.now e)
    where
      go : (b : Bool) → Goes (if b then server.live_on_apdu c service e e.state a else server.idle_on_apdu c service (Some e) free a)
      go true = live_small e h e.state h.1 a
      go false = idle_small (Some e) h free a says

  -- the machine of either setting
  module _ (reads : Reads) where
    read_small : (dead : Option ServerTransaction) → IsSmall dead → (free : Bool) (r : server.Reaction) → Goes r → Goes (reads_so c dead free r)
    read_small dead h free r k = go (has_transfer r.entry) free
      where
        go : (b d : Bool) → Goes (if b then (if d then r else server.rests dead (server.server_abort c OTHER ∷ []))
            else record { entry = dead; sends = r.sends; effect = r.effect })
        go true true = k
        go true false = rests_small dead (server.server_abort c OTHER ∷ []) h
        go false d = λ fits. h

    idle_reusing_small : (o : Option ServerTransaction) → IsSmall o → (free : Bool) (a : Apdu) → SaysLong a → Goes (idle_reusing c service reads o free a)
    idle_reusing_small o h free (ConfirmedRequest limits i None choice octets) says = go (reads choice)
      where
        go : (b : Bool) → Goes
            (if b then idle_on_read c service o free choice limits octets else server.idle_on_request c service o free choice limits octets)
        go true = read_small o h free (server.performs c service (server.begins c choice limits (Some octets)) [] octets)
            (so_small (server.begins c choice limits (Some octets)) [] octets (service choice octets) says refl)
        go false = request_small o h free choice limits says octets
    idle_reusing_small o h free (ConfirmedRequest limits i (Some g) choice octets) says = segment_small o h free choice limits says g octets
    idle_reusing_small o h free _ says = rests_small o [] h

    left_small : (o : Option ServerTransaction) → IsSmall o → (free : Bool) (a : Apdu) → SaysLong a → Goes (left_on_apdu c service reads o free a)
    left_small o h free a says = go (is_none_live c.now o)
      where
        go : (b : Bool) → Goes (if b then idle_reusing c service reads o free a else server.server_on_apdu c service o free a)
        go true = idle_reusing_small o h free a says
        go false = gets_small o free a says h

    hears_small : (reuse : Bool) (o : Option ServerTransaction) (free : Bool) (a : Apdu) → SaysLong a → IsSmall o
        → Goes (server_hears reuse c service reads o free a)
    hears_small false o free a says h = gets_small o free a says h
    hears_small true o free a says h = go (ends_entry reads c.now o a)
      where
        go : (b : Bool) → Goes (left_on_apdu c service reads (if b then None else o) free a)
        go true = left_small None tt free a says
        go false = left_small o h free a says

nothing : Service
nothing choice octets = Rejects 0

module _ (c : Context) (own : TakesLong c.settings.limits) where
  again_small : (out : Outgoing) → length out.pieces ≤ 139 → OutSmall c nothing own (again out)
  again_small out few = go (nat_eq out.retries 0)
    where
      go : (b : Bool) → OutSmall c nothing own (if b then None else Some (record out { retries = out.retries - 1 }))
      go true = tt
      go false = few

  sends_again_small : (e : ServerTransaction) → TakesLong e.limits → (out : Outgoing) → length out.pieces ≤ 139 → (since : ℕ) (o : Option Outgoing)
      → OutSmall c nothing own o → IsSmall (server.sends_reply_again c e out since o).entry
  sends_again_small e h out few since None k = (h, few)
  sends_again_small e h out few since (Some next) k = (h, k)

  live_ticks_small : (e : ServerTransaction) → IsSmall (Some e) → (st : State) → pieces_of_state st ≤ 139 → IsSmall (server.live_ticks c e st).entry
  live_ticks_small e h (State.SegmentedRequest inc since) few = go (nat_le T_WAIT_FOR_SEG (c.now - since))
    where
      go : (b : Bool) → IsSmall (if b then server.becomes e Dropped [] else server.rests (Some e) []).entry
      go true = (h.0, omega arith)
      go false = h
  live_ticks_small e h (SegmentedResponse out Running since) few = go (nat_le T_SEG (c.now - since))
    where
      go : (b : Bool) → IsSmall (if b then server.sends_reply_again c e out since (again out) else server.rests (Some e) []).entry
      go true = sends_again_small e h.0 out few since (again out) (again_small out few)
      go false = h
  live_ticks_small e h (SegmentedResponse out Stopped since) few = h
  live_ticks_small e h (SegmentedResponse out Finished since) few = h
  live_ticks_small e h (Done kept) few = h
  live_ticks_small e h Dropped few = h

  ticks_small : (o : Option ServerTransaction) → IsSmall o → IsSmall (server.server_ticks c o).entry
  ticks_small None h = tt
  ticks_small (Some e) h = go (is_live c.now e)
    where
      go : (b : Bool) → IsSmall (if b then server.live_ticks c e e.state else server.rests (Some e) []).entry
      go true = live_ticks_small e h e.state h.1
      go false = h

-- Nets.

abbrev pub AllSay : List Post → Type 0
AllSay [] = Unit {0}
AllSay (p ∷ posts) = SaysLong p.copy.apdu × AllSay posts

say_at : (posts : List Post) → AllSay posts → (number : ℕ) (p : Post) → slice_get posts number ≡ Some p → SaysLong p.copy.apdu
say_at [] h number p e = absurd cc
say_at (q ∷ posts) h zero p e = let same : q ≡ p = cc in subst (λ (y : Post). SaysLong y.copy.apdu) same h.0
say_at (q ∷ posts) h (suc number) p e = say_at posts h.1 number p e

say_join : (xs : List Post) (key : Key) (now : ℕ) (sends : List Apdu) → AllSay xs → Each SaysLong sends → AllSay (xs ++ map (post_of key now) sends)
say_join [] key now [] h k = tt
say_join [] key now (a ∷ sends) h k = (k.0, say_join [] key now sends tt k.1)
say_join (p ∷ xs) key now sends h k = (h.0, say_join xs key now sends h.1 k)

-- each request says so, each entry has few pieces, and so had each transaction
pub record IsShortNet (n : Net) : Type 0 where
  pub posts : AllSay n.posts
  pub entries : (key : Key) → IsSmall (n.entries key)
  pub kept : (key : Key) → KeepsReplies (n.entries key)
  pub pieces : (key : Key) → n.pieces key ≤ 139

-- then each transaction is short
pub all_short : (n : Net) → IsShortNet n → (key : Key) → is_short n key ≡ true
all_short n s key = let few = s.pieces key in go (nat_le (n.pieces key) 256) refl few
  where
    go : (b : Bool) → nat_le (n.pieces key) 256 ≡ b → n.pieces key ≤ 139 → b ≡ true
    go true e few = refl
    go false e few = absurd (grind (arith, nat_tests))

holds_set : {A : Type 0} (P : A → Type 0) (f : Key → A) → ((k : Key) → P (f k)) → (key : Key) (a : A) → P a → (k : Key) → P (set_at f key a k)
holds_set P f h key a here k = go (decide_key key k)
  where
    go : ((key ≡ k) ⊎ (key ≡ k → ⊥)) → P (set_at f key a k)
    go (inl is) = subst (λ (j : Key). P (set_at f key a j)) is (subst P (sym (set_same f key a)) here)
    go (inr ne) = subst P (sym (set_other f key a k ne)) (h k)

reply_few : (pieces : ℕ) (f : Option Effect) (o : Option ServerTransaction) → pieces ≤ 139 → IsSmall o → with_reply pieces f o ≤ 139
reply_few pieces None o few h = few
reply_few pieces (Some effect) None few h = omega arith
reply_few pieces (Some effect) (Some e) few h = let more = h.1 in omega arith

-- where posts, entries and pieces are the same
pub same_short : (n m : Net) → m.posts ≡ n.posts → m.entries ≡ n.entries → m.pieces ≡ n.pieces → IsShortNet n → IsShortNet m
same_short n m posts entries pieces s = record {
  posts = subst AllSay (sym posts) s.posts;
  entries = λ key. subst (λ (f : Key → Option ServerTransaction). IsSmall (f key)) (sym entries) (s.entries key);
  kept = λ key. subst (λ (f : Key → Option ServerTransaction). KeepsReplies (f key)) (sym entries) (s.kept key);
  pieces = λ key. subst (λ (f : Key → ℕ). f key ≤ 139) (sym pieces) (s.pieces key);
}

-- entries are lost at a restart
pub restarted_short : (n : Net) → IsShortNet n → (node exact : ℕ) (store : Option Octets) → IsShortNet (server_restarted n node exact store)
restarted_short n s node exact store = record {
  posts = s.posts;
  entries = λ key. go IsSmall tt (n.entries key) (s.entries key) (nat_eq key.server node);
  kept = λ key. go KeepsReplies tt (n.entries key) (s.kept key) (nat_eq key.server node);
  pieces = s.pieces;
}
  where
    go : (P : Option ServerTransaction → Type 0) → P None → (o : Option ServerTransaction) → P o → (b : Bool) → P (if b then None else o)
    go P none o h true = none
    go P none o h false = h

module _ (x : Rules) (long : AllTakeLong x) where
  -- a client acts
  acts_short : (n : Net) → IsShortNet n → (key : Key) (t : ClientTransaction) (r : client.Reaction) → Each SaysLong (client.sends_of r)
      → IsShortNet (client_acts n key t r)
  acts_short n s key t r says = record {
    posts = say_join n.posts key n.now (client.sends_of r) s.posts says;
    entries = s.entries;
    kept = s.kept;
    pieces = s.pieces;
  }

  pub client_gets_short : (n : Net) → IsShortNet n → (key : Key) (t : ClientTransaction) (a : Apdu)
      → IsShortNet (client_acts n key t (client.client_on_apdu (client_context x key (client_now n key)) x.readable t a))
  client_gets_short n s key t a =
      let c : Context = client_context x key (client_now n key) in
      let says = client_says c (long key.client) in
      acts_short n s key t (client.client_on_apdu c x.readable t a) (own_sends c x.readable SaysLong AnyWindow says (client.client_on_apdu c x.readable t a)
      (gets_own c x.readable SaysLong AnyWindow says t (any_phase t.phase) a (any_answer c.settings.window a)))

  pub client_ticks_short : (n : Net) → IsShortNet n → (key : Key) (t : ClientTransaction)
      → IsShortNet (client_acts n key t (client.client_ticks (client_context x key (client_now n key)) t))
  client_ticks_short n s key t =
      let c : Context = client_context x key (client_now n key) in
      let says = client_says c (long key.client) in
      acts_short n s key t (client.client_ticks c t) (own_sends c x.readable SaysLong AnyWindow says (client.client_ticks c t)
      (ticks_own c x.readable SaysLong AnyWindow says t (any_phase t.phase)))

  -- an ask in few pieces
  pub asked_short : (n : Net) → IsShortNet n → (key : Key) (ask : Ask) → length ask.pieces ≤ 139 → IsShortNet (asked_at x n key ask)
  asked_short n s key ask few =
      let c : Context = client_context x key (client_now n key) in
      let says = client_says c (long key.client) in
      record {
        posts = say_join n.posts key n.now (client.sends_of (client.asks c ask)) s.posts
            (own_sends c x.readable SaysLong AnyWindow says (client.asks c ask) (asks_own c x.readable SaysLong AnyWindow says ask));
        entries = s.entries;
        kept = s.kept;
        pieces = holds_set (λ (k : ℕ). k ≤ 139) n.pieces s.pieces key (length ask.pieces) few;
      }

  -- a server acts
  serves_short : (n : Net) → IsShortNet n → (key : Key) (v : server.Reaction) → IsSmall v.entry → KeepsReplies v.entry → Each SaysLong v.sends
      → IsShortNet (server_acts n key v)
  serves_short n s key v small keeps says = record {
    posts = say_join n.posts key n.now v.sends s.posts says;
    entries = holds_set IsSmall n.entries s.entries key v.entry small;
    kept = holds_set KeepsReplies n.entries s.kept key v.entry keeps;
    pieces = holds_set (λ (k : ℕ). k ≤ 139) n.pieces s.pieces key (with_reply (n.pieces key) v.effect v.entry)
        (reply_few (n.pieces key) v.effect v.entry (s.pieces key) small);
  }

  pub server_gets_short : (n : Net) → IsShortNet n → (number : ℕ) (p : Post) → slice_get n.posts number ≡ Some p → (service : Service) (reads : Reads)
      → (reuse free : Bool)
      → (let v = server_hears reuse (server_context x p.key (server_now n p.key)) service reads (n.entries p.key) free p.copy.apdu in
      EffectFits service v.effect → KeepsReplies v.entry → Each SaysLong v.sends → IsShortNet (server_acts n p.key v))
  server_gets_short n s number p at service reads reuse free fits keeps says =
      let c : Context = server_context x p.key (server_now n p.key) in
      serves_short n s p.key (server_hears reuse c service reads (n.entries p.key) free p.copy.apdu)
      (hears_small c service (long p.key.server) reads reuse (n.entries p.key) free p.copy.apdu (say_at n.posts s.posts number p at) (s.entries p.key) fits)
      keeps says

  pub server_ticks_short : (n : Net) → IsShortNet n → (key : Key)
      → IsShortNet (server_acts n key (server.server_ticks (server_context x key (server_now n key)) (n.entries key)))
  server_ticks_short n s key =
      let c : Context = server_context x key (server_now n key) in
      let v : server.Reaction = server.server_ticks c (n.entries key) in
      let own : IsOwnAs SaysLong AnyWindow v = server_ticks_own c SaysLong AnyWindow (server_says c) (n.entries key) (s.kept key) in
      serves_short n s key v (ticks_small c (long key.server) (n.entries key) (s.entries key)) own.1 own.0

  pub client_takes_short : (n : Net) → IsShortNet n → (p : Post) (o : Option ClientTransaction) → IsShortNet (taken_by_client x n p o)
  client_takes_short n s p None = s
  client_takes_short n s p (Some t) = client_gets_short n s p.key t p.copy.apdu

  -- Moves.

  arrived_short : (n : Net) → IsShortNet n → (number : ℕ) (free : Bool) (service : Service) → ServiceFits service → (o : Option Post)
      → slice_get n.posts number ≡ o → IsShortNet (arrived x n number free service o)
  arrived_short n s number free service fits None at = s
  arrived_short n s number free service fits (Some p) at = go (is_deliverable x n number p) (is_from_client p.copy.apdu)
    where
      c : Context
      c = server_context x p.key (server_now n p.key)

      own : IsOwnAs SaysLong AnyWindow (server.server_on_apdu c service (n.entries p.key) (is_room n p.key free) p.copy.apdu)
      own = server_gets_own c service SaysLong AnyWindow (server_says c) (n.entries p.key) (is_room n p.key free) p.copy.apdu
          (any_request c.settings.window p.copy.apdu) (s.kept p.key)

      go : (a b : Bool) → IsShortNet (if a then (if b then taken_by_server x n p free service else taken_by_client x n p (n.tickets p.key)) else n)
      go true true = server_gets_short n s number p at service (λ choice. false) false (is_room n p.key free)
          (effects_fit service fits (server.server_on_apdu c service (n.entries p.key) (is_room n p.key free) p.copy.apdu).effect) own.1 own.0
      go true false = client_takes_short n s p (n.tickets p.key)
      go false b = s

  ticked_short : (n : Net) → IsShortNet n → (key : Key) (o : Option ClientTransaction) → IsShortNet (ticket_ticked x n key o)
  ticked_short n s key None = s
  ticked_short n s key (Some t) = client_ticks_short n s key t

  moved_short : (n : Net) → IsShortNet n → (m : Move) → IsFew m → IsShortNet (moved x n m)
  moved_short n s (Asks key choice whole front rest) few = go (is_id_held n key)
    where
      ask : Ask
      ask = record { first = client_now n key; choice = choice; whole = whole; pieces = front ∷ rest }

      go : (b : Bool) → IsShortNet (if b then n else asked_at x n key ask)
      go true = s
      go false = asked_short n s key ask few
  moved_short n s (Arrives number free service) few = arrived_short n s number free service few (slice_get n.posts number) refl
  moved_short n s (TicksTicket key) few = ticked_short n s key (n.tickets key)
  moved_short n s (TicksEntry key) few = server_ticks_short n s key
  moved_short n s (Passes by clients servers) few = same_short n (passes n by clients servers) refl refl refl s
  moved_short n s (Changes node change) few = same_short n (notes_change n node change) refl refl refl s
  moved_short n s (RestartsClient node exact) few = same_short n (client_restarted n node exact) refl refl refl s
  moved_short n s (RestartsServer node exact store) few = restarted_short n s node exact store
  moved_short n s (Begins node exact) few = go (is_active n node)
    where
      go : (b : Bool) → IsShortNet (if b then n else begun n node exact)
      go true = s
      go false = same_short n (begun n node exact) refl refl refl s
  moved_short n s (BeginsAgain node exact) few = go (is_quiet n node)
    where
      go : (b : Bool) → IsShortNet (if b then begun_again n node exact else n)
      go true = same_short n (begun_again n node exact) refl refl refl s
      go false = s
  moved_short n s (Strays key free service a) few = go (is_from_client a) (n.far.tickets key)
    where
      go : (up : Bool) (o : Option ClientTransaction)
          → IsShortNet (if up then strayed_to_server x n key free service a else strayed_to_client x n key a o)
      go true o = same_short n (strayed_to_server x n key free service a) refl refl refl s
      go false None = s
      go false (Some t) = same_short n (strayed_to_client x n key a (Some t)) refl refl refl s
  moved_short n s (AsksAway key choice whole front rest) few = go (is_id_held_away n key)
    where
      ask : Ask
      ask = record { first = client_now n key; choice = choice; whole = whole; pieces = front ∷ rest }

      go : (b : Bool) → IsShortNet (if b then n else asked_away_at x n key ask)
      go true = s
      go false = same_short n (asked_away_at x n key ask) refl refl refl s
  moved_short n s (TicksTicketAway key) few = go (n.far.tickets key)
    where
      go : (o : Option ClientTransaction) → IsShortNet (ticket_ticked_away x n key o)
      go None = s
      go (Some t) = same_short n (ticket_ticked_away x n key (Some t)) refl refl refl s
  moved_short n s (TicksEntryAway key) few =
      same_short n (server_acts_away n key (server.server_ticks (server_context x key (server_now n key)) (n.far.entries key))) refl refl refl s

pub start_short : (pace : Pace) (clocks : ℕ → ℕ) → IsShortNet (net_start pace clocks)
start_short pace clocks = record { posts = tt; entries = λ key. tt; kept = λ key. tt; pieces = λ key. omega arith }

reached_short : (x : Rules) → AllTakeLong x → (pace : Pace) (clocks : ℕ → ℕ) (n : Net) → IsReachedByFew x (net_start pace clocks) n → IsShortNet n
reached_short x long pace clocks _ Still = start_short pace clocks
reached_short x long pace clocks _ (Moved n m few h) = moved_short x long n (reached_short x long pace clocks n h) m few

pub few_pieces_reached : (x : Rules) → AllTakeLong x → (pace : Pace) (clocks : ℕ → ℕ) (n : Net) → IsReachedByFew x (net_start pace clocks) n
    → (key : Key) → n.pieces key ≤ 139
few_pieces_reached x long pace clocks n h = (reached_short x long pace clocks n h).pieces
