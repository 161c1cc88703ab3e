-- A reply in segments reaches its client whole, wherever its two ends stood, and ends its ticket; so does one of one APDU.
use Rattle.std.proofs.Common.{◌≡◌, ℕ, zero, suc, ◌+◌, ◌-◌, ◌*◌, ◌%◌, ◌<◌, ◌≤◌, min, Bool, true, false, ◌&&◌, List, [], ◌∷◌, ◌++◌, length, get_or, Option, Some}
use Rattle.std.proofs.Common.{None, is_some, if◌then◌else◌, nat_lt, nat_le, nat_eq, append-nil, refl, sym, ap, subst, inl, ◌∙◌, arith}
use Rattle.std.proofs.lemmas.Bool.Decides.{nat_tests}
use Rattle.bac_apdu.specs.Apdu.{Apdu}
use Rattle.bac_apdu.specs.Apdu.Apdu.{SimpleAck, ComplexAck, Error, Abort}
use Rattle.bac_service.specs.Choices.{has_simple_ack, has_complex_ack}
use Rattle.bac_segment.specs.Pieces.{join}
use Rattle.bac_segment.specs.Window.{Outgoing, outgoing, in_window, is_finished, acknowledged, Incoming, incoming, Taking, takes}
use Rattle.bac_segment.specs.Window.Taking.{Taken, Whole, Nak}
use Rattle.bac_protocol.specs.declared.times.TheConstants.{KEEP}
use Rattle.bac_protocol.specs.Context.{Context}
use Rattle.bac_protocol.specs.Sizes.{Way, reply_way_of}
use Rattle.bac_protocol.specs.Sizes.Way.{InOne, InSegments, Refused}
use Rattle.bac_protocol.specs.Straight.{KindFits, WayFits, way_count}
use Rattle.bac_protocol.specs.Service.{Octets, OTHER, Reply as reply, Readable}
use Rattle.bac_protocol.specs.Service.Reply.{Simple, Complex}
use Rattle.bac_protocol.specs.Service.Ending.{Answered, Aborted}
use Rattle.bac_protocol.specs.Wire.{pieces_from}
use Rattle.bac_protocol.specs.Client as client
use Rattle.bac_protocol.specs.Client.{Ask, Phase, ClientTransaction, is_idle}
use Rattle.bac_protocol.specs.Client.Phase.{AwaitConfirmation, SegmentedConf, Idle}
use Rattle.bac_protocol.specs.Client.Reaction.{Stays, Ends}
use Rattle.bac_protocol.specs.Server as server
use Rattle.bac_protocol.specs.Server.{State, ServerTransaction, Service, is_none_live}
use Rattle.bac_protocol.specs.Server.Transfer.{Running, Finished}
use Rattle.bac_protocol.specs.Server.State.{SegmentedResponse}
use Rattle.bac_protocol.specs.Log.{Fact, StoreModel}
use Rattle.bac_protocol.specs.Log.Fact.{Ended}
use Rattle.bac_protocol.specs.Transaction.{Key, Rules, client_context, server_context}
use Rattle.bac_protocol.proofs.Facts.{pieces_length}
use Rattle.bac_protocol.proofs.Queue.{Nows, TransactionPair, served, reacted, client_reaction, server_reaction}
use Rattle.bac_protocol.proofs.Ways.{way_cut}
use Rattle.bac_protocol.proofs.Replied.{way_taken}
use Rattle.bac_protocol.proofs.Requested.{kept_state, first_sent}
use Rattle.bac_protocol.proofs.Windows.{takes_one, takes_last, after_piece, taken_next, parts_next, next_window}
use Rattle.bac_protocol.proofs.Carries.{Sender, moved, Fitting}
use Rattle.bac_liveness.proofs.Deliveries.{Within, within_then, within_more, one_step, idle_step, no_step}
use Rattle.bac_liveness.proofs.Windows.{repeated, length_repeated, quiet, Channel}
use Rattle.bac_liveness.proofs.Acks.{acks_read, moving}
use Rattle.bac_liveness.proofs.Rounds.{IsRound, all_rounds}
use Rattle.bac_liveness.proofs.Serving.{answer_not_from_client}
use Rattle.bac_liveness.proofs.Gets.{client_opens, server_lives, lives}
use Rattle.bac_liveness.proofs.Remembered.{Remembered}

same_number : (n : ℕ) → nat_eq n n ≡ true
same_number n = grind (arith, nat_tests)

-- an answer, or a segment of one
abbrev pub is_answer : Apdu → Bool
is_answer (SimpleAck id choice) = true
is_answer (ComplexAck id segment choice service) = true
is_answer (Error id choice class code) = true
is_answer _ = false

-- a ticket in that state takes answers as in AWAIT_CONFIRMATION
abbrev pub Waits : client.Phase → Type 0
Waits phase = (c : Context) (readable : Readable) (ask : Ask) (a : Apdu) → is_answer a ≡ true
    → client.open_on_apdu c readable ask phase a ≡ client.await_confirmation_on_apdu c readable ask a

pub await_waits : Waits AwaitConfirmation
await_waits c readable ask a e = refl

pub sending_waits : (out : Outgoing) → Waits (Phase.SegmentedRequest out true)
sending_waits out c readable ask (SimpleAck id choice) e = refl
sending_waits out c readable ask (ComplexAck id segment choice service) e = refl
sending_waits out c readable ask (Error id choice class code) e = refl
sending_waits out c readable ask (Apdu.ConfirmedRequest limits id segment choice service) e = absurd cc
sending_waits out c readable ask (Apdu.UnconfirmedRequest choice service) e = absurd cc
sending_waits out c readable ask (Apdu.SegmentAck server id ack) e = absurd cc
sending_waits out c readable ask (Apdu.Reject id reason) e = absurd cc
sending_waits out c readable ask (Abort server id reason) e = absurd cc

module _ (S : Type 0) (model : StoreModel S) (x : Rules) (now : Nows) (number : ℕ) (key : Key) (ask : Ask) (young : client.is_expired now.here ask ≡ false)
    (repeats begin : ℕ) (alive : nat_le (now.there - begin) KEEP ≡ true) (kept : Remembered) (stores : ℕ → S) (log : List Fact) where
  abbrev c : Context
  c = client_context x key now.here

  abbrev d : Context
  d = server_context x key now.there

  abbrev service : Service
  service = model.outcome (stores key.server)

  -- the actual window of the reply's transfer
  abbrev pub actual : ℕ
  actual = min d.settings.window c.settings.window

  abbrev pub in_phase : Phase → ℕ → ClientTransaction
  in_phase phase since = record { ask = ask; phase = phase; repeats = repeats; since = since }

  abbrev pub in_state : State → ServerTransaction
  in_state state = record { begin = begin; choice = ask.choice; limits = c.settings.limits; request = kept.request; first = kept.first; state = state }

  abbrev giving : Outgoing → ServerTransaction
  giving out = in_state (SegmentedResponse out Running now.there)

  abbrev ack : Bool → ℕ → Apdu
  ack nak i = client.client_ack c nak i actual

  -- the reply is under way
  abbrev pub replying : Sender → Incoming → ℕ → List Apdu → TransactionPair S
  replying s inc m pending = record {
    ticket = in_phase (SegmentedConf inc) m;
    entry = Some (giving s.out);
    pending = pending;
    stores = stores;
    log = log;
  }

  abbrev Goes : ℕ → TransactionPair S → TransactionPair S → Type 0
  Goes most p q = Within S model x now number key most p q

  -- so many deliveries end the ticket with that reply
  pub record EndsWith (most : ℕ) (from : TransactionPair S) (p : reply) : Type 0 where
    pub end : TransactionPair S
    pub idle : is_idle end.ticket.phase ≡ true
    pub stores_are : end.stores ≡ stores
    pub log_is : end.log ≡ Ended number (Answered p) ∷ log
    pub reaches : Goes most from end

  pub ends_then : (a b most : ℕ) (from mid : TransactionPair S) (p : reply) → a + b ≤ most → Goes a from mid → EndsWith b mid p → EndsWith most from p
  ends_then a b most from mid p le h z = record {
    end = z.end;
    idle = z.idle;
    stores_are = z.stores_are;
    log_is = z.log_is;
    reaches = within_then S model x now number key a b most from mid z.end le h z.reaches;
  }

  -- the ticket has ended with that reply
  abbrev pub over : Option ServerTransaction → ℕ → List Apdu → reply → TransactionPair S
  over e m pending p = record { ticket = in_phase Idle m; entry = e; pending = pending; stores = stores; log = Ended number (Answered p) ∷ log }

  server_moves : (out : Outgoing) (nak : Bool) (i : ℕ) (y : Option Outgoing) → acknowledged d.settings.window out i actual ≡ y
      → server.server_on_apdu d service (Some (giving out)) true (ack nak i) ≡ server.moves_reply_window d (giving out) y
  server_moves out nak i y is =
      server_lives d service (giving out) (ack nak i) alive
      ∙ ap (λ (z : Option Outgoing). server.moves_reply_window d (giving out) z) is

  -- segments of the request change nothing while the reply is under way
  abbrev pub segments : (first extra : ℕ) → List Apdu
  segments first extra = pieces_from (client.request_piece c ask.choice ask.pieces) first extra

  pub skips : (extra first : ℕ) (t : ClientTransaction) (out : Outgoing) (xs : List Apdu) → (0 < extra → kept.request ≡ None) → is_idle t.phase ≡ false
      → Goes extra (record { ticket = t; entry = Some (giving out); pending = segments first extra ++ xs; stores = stores; log = log })
      (record { ticket = t; entry = Some (giving out); pending = xs; stores = stores; log = log })
  skips zero first t out xs none going =
      let p : TransactionPair S = record { ticket = t; entry = Some (giving out); pending = xs; stores = stores; log = log } in
      no_step S model x now number key p p refl
  skips (suc extra) first t out xs none going =
      let a = client.request_piece c ask.choice ask.pieces first in
      let rest = segments (first + 1) extra ++ xs in
      let with : List Apdu → TransactionPair S = λ ys. record { ticket = t; entry = Some (giving out); pending = ys; stores = stores; log = log } in
      let e = none (omega arith) in
      let goes : server.server_on_apdu d service (Some (giving out)) true a ≡ server.rests (Some (giving out)) [] =
      server_lives d service (giving out) a alive
      ∙ ap (λ (k : Option Octets). if is_some k then server.rests (Some (giving out)) (server.server_abort d OTHER ∷ []) else server.rests
      (Some (giving out)) []) e in
      within_then S model x now number key 1 extra (suc extra) (with (a ∷ rest)) (with rest) (with xs) (omega arith)
      (idle_step S model x now number key (with (a ∷ rest)) rest a refl going (lives now.there (giving out) alive)
      (ap (λ (v : server.Reaction). served S model x now number key (with (a ∷ rest)) rest v) goes ∙ ap with (append-nil rest)))
      (skips extra (first + 1) t out xs (λ h. e) going)

  module _ (ps : List Octets) where
    abbrev pub piece : ℕ → Apdu
    piece = server.reply_piece d ask.choice ps

    abbrev n : ℕ
    n = length ps

    client_takes : (inc : Incoming) (m t : ℕ) (y : Taking) → takes inc (t % 256) (nat_lt (t + 1) n) (get_or ps t []) ≡ y
        → client.client_on_apdu c x.readable (in_phase (SegmentedConf inc) m) (piece t) ≡ client.conf_segment_taken c x.readable ask.choice
        (t % 256) inc.window y
    client_takes inc m t y is =
        client_opens c x.readable (in_phase (SegmentedConf inc) m) (piece t) young refl refl
        ∙ ap (λ b. if b then client.conf_segment_taken c x.readable ask.choice (t % 256) inc.window (takes inc (t % 256) (nat_lt (t + 1) n) (get_or ps t []))
        else Stays) (same_number ask.choice)
        ∙ ap (λ (z : Taking). client.conf_segment_taken c x.readable ask.choice (t % 256) inc.window z) is

    abbrev never : ℕ → Bool
    never m = false

    pub acks_one : (s : Sender) (inc inc' : Incoming) (m t : ℕ) (xs : List Apdu) → never m ≡ false → inc.window ≡ actual → length xs ≤ x.overtake
        → takes inc (t % 256) (nat_lt (t + 1) n) (get_or ps t []) ≡ Taken true inc'
        → Goes 1 (replying s inc m (piece t ∷ xs)) (replying s inc' now.here (xs ++ ack false (t % 256) ∷ []))
    acks_one s inc inc' m t xs timely is few e =
        let from = replying s inc m (piece t ∷ xs) in
        one_step S model x now number key from (replying s inc' now.here (xs ++ ack false (t % 256) ∷ [])) xs (piece t) refl few refl
        (lives now.there (giving s.out) alive)
        (ap (λ (r : client.Reaction). reacted S model x now number key from xs r) (client_takes inc m t (Taken true inc') e)
        ∙ ap (λ (i : ℕ). replying s inc' now.here (xs ++ client.client_ack c false (t % 256) i ∷ [])) is)

    pub keeps_one : (s : Sender) (inc inc' : Incoming) (m t : ℕ) (xs : List Apdu) → never m ≡ false → length xs ≤ x.overtake
        → takes inc (t % 256) (nat_lt (t + 1) n) (get_or ps t []) ≡ Taken false inc'
        → Goes 1 (replying s inc m (piece t ∷ xs)) (replying s inc' now.here xs)
    keeps_one s inc inc' m t xs timely few e =
        let from = replying s inc m (piece t ∷ xs) in
        one_step S model x now number key from (replying s inc' now.here xs) xs (piece t) refl few refl (lives now.there (giving s.out) alive)
        (ap (λ (r : client.Reaction). reacted S model x now number key from xs r) (client_takes inc m t (Taken false inc') e)
        ∙ ap (λ (ys : List Apdu). replying s inc' now.here ys) (append-nil xs))

    pub naks_one : (s : Sender) (inc : Incoming) (m p q : ℕ) (xs : List Apdu) → never m ≡ false → inc.window ≡ actual → q + 1 ≡ length inc.parts
        → length xs ≤ x.overtake → takes inc (p % 256) (nat_lt (p + 1) n) (get_or ps p []) ≡ Nak (quiet inc)
        → Goes 1 (replying s inc m (piece p ∷ xs)) (replying s (quiet inc) now.here (xs ++ ack true (q % 256) ∷ []))
    naks_one s inc m p q xs timely is taken few e =
        let from = replying s inc m (piece p ∷ xs) in
        let q_is : length inc.parts - 1 ≡ q = omega arith in
        one_step S model x now number key from (replying s (quiet inc) now.here (xs ++ ack true (q % 256) ∷ [])) xs (piece p) refl few refl
        (lives now.there (giving s.out) alive)
        (ap (λ (r : client.Reaction). reacted S model x now number key from xs r) (client_takes inc m p (Nak (quiet inc)) e)
        ∙ (λ i. replying s (quiet inc) now.here (xs ++ client.client_ack c true (q_is i % 256) (is i) ∷ [])))

    pub moves_one : (s : Sender) (inc : Incoming) (m : ℕ) (nak : Bool) (i : ℕ) (out : Outgoing) (xs : List Apdu) → out.pieces ≡ ps → length xs ≤ x.overtake
        → acknowledged d.settings.window s.out i actual ≡ Some out → is_finished out ≡ false
        → Goes 1 (replying s inc m (ack nak i ∷ xs)) (replying (moved s out) inc m (xs ++ pieces_from piece out.first (in_window out)))
    moves_one s inc m nak i out xs same few is going =
        let from = replying s inc m (ack nak i ∷ xs) in
        let e = giving s.out in
        one_step S model x now number key from (replying (moved s out) inc m (xs ++ pieces_from piece out.first (in_window out))) xs (ack nak i) refl few refl
        (lives now.there e alive)
        (ap (λ (v : server.Reaction). served S model x now number key from xs v)
        (server_moves s.out nak i (Some out) is ∙ ap (λ b. if b then server.becomes e (SegmentedResponse out Finished now.there) []
        else server.sends_reply_window d e out) going)
        ∙ ap (λ (qs : List Octets). replying (moved s out) inc m (xs ++ pieces_from (server.reply_piece d ask.choice qs) out.first (in_window out))) same)

    pub ignores_one : (s : Sender) (inc : Incoming) (m : ℕ) (nak : Bool) (i : ℕ) (xs : List Apdu) → acknowledged d.settings.window s.out i actual ≡ None
        → Goes 1 (replying s inc m (ack nak i ∷ xs)) (replying s inc m xs)
    ignores_one s inc m nak i xs is =
        let from = replying s inc m (ack nak i ∷ xs) in
        idle_step S model x now number key from xs (ack nak i) refl refl (lives now.there (giving s.out) alive)
        (ap (λ (v : server.Reaction). served S model x now number key from xs v) (server_moves s.out nak i None is)
        ∙ ap (λ (ys : List Apdu). replying s inc m ys) (append-nil xs))

    unfoldable pub carries : Channel S model x now number key actual d.settings.window ps
    carries = record {
      ends = replying;
      piece = piece;
      ack = ack;
      is_late = never;
      moment = now.here;
      in_time = refl;
      acks = acks_one;
      keeps = keeps_one;
      naks = naks_one;
      moves = moves_one;
      ignores = ignores_one;
    }

    -- The client takes replies of that kind, in segments, and can read this one.
    module _ (takes_segments : c.settings.limits.takes_segments ≡ true) (kind : has_complex_ack ask.choice ≡ true)
        (readable : x.readable ask.choice (join ps) ≡ true) (sizes : Fitting x.overtake actual d.settings.window ps) (near : actual < 256) where
      abbrev p : reply
      p = Complex (join ps)

      -- the whole reply was taken
      answered_is : (i window : ℕ) → client.conf_segment_taken c x.readable ask.choice i window (Whole ps)
          ≡ Ends (client.client_ack c false i window ∷ []) (Answered p)
      answered_is i window = ap (λ b. if b then Ends (client.client_ack c false i window ∷ []) (Answered p) else Ends
          (client.client_ack c false i window ∷ Abort false key.invoke_id 0 ∷ []) (Aborted 0)) readable

      -- wherever its two ends stand, the reply comes whole
      pub download : (s : Sender) (inc : Incoming) (m t most : ℕ)
          → IsRound S model x now number key actual d.settings.window ps sizes near carries s inc t → 3 * n ≤ most + s.out.first + s.out.first + t
          → EndsWith most (replying s inc m (pieces_from piece s.out.first (in_window s.out))) p
      unfolding carries
      download s inc m t most h enough =
          let z = all_rounds S model x now number key actual d.settings.window ps sizes near carries n s inc m t most h refl (omega arith) enough in
          let xs = repeated z.acks (ack z.nak (z.q % 256)) in
          let len = length_repeated z.acks (ack z.nak (z.q % 256)) in
          let few = z.few in
          let old = z.old in
          let last = z.last in
          let full = z.full in
          let window = z.window in
          let room = sizes.room in
          let cheap = z.cheap in
          let f = client_takes z.inc z.m z.p (Whole ps) (takes_last ps z.inc z.p z.last sizes.few sizes.short z.taken z.parts)
          ∙ answered_is (z.p % 256) z.inc.window in
          let before = replying z.s z.inc z.m (piece z.p ∷ xs) in
          let end = over (Some (giving z.s.out)) z.m (xs ++ client.client_ack c false (z.p % 256) z.inc.window ∷ []) p in
          record {
            end = end;
            idle = refl;
            stores_are = refl;
            log_is = refl;
            reaches = within_then S model x now number key z.spent 1 most (replying s inc m (pieces_from piece s.out.first (in_window s.out))) before end
                (omega arith) z.reaches
                (one_step S model x now number key before end xs (piece z.p) refl (omega arith) refl (lives now.there (giving z.s.out) alive)
                (ap (λ (r : client.Reaction). reacted S model x now number key before xs r) f));
          }

      -- The server has sent the first segment of its reply, after which some segments of the request may come.

      abbrev empty : Incoming
      empty = incoming c.settings.window d.settings.window

      abbrev pub begun : Phase → ℕ → Outgoing → List Apdu → TransactionPair S
      begun phase m out pending = record {
        ticket = in_phase phase m;
        entry = Some (giving out);
        pending = pending;
        stores = stores;
        log = log;
      }

      first_is : (phase : Phase) (m : ℕ) (y : Taking) → Waits phase → is_idle phase ≡ false
          → takes empty (0 % 256) (nat_lt (0 + 1) n) (get_or ps 0 []) ≡ y
          → client.client_on_apdu c x.readable (in_phase phase m) (piece 0) ≡ client.conf_segment_taken c x.readable ask.choice 0 actual y
      first_is phase m y waits going is =
          let by : Taking → client.Reaction = λ z. client.conf_segment_taken c x.readable ask.choice 0 actual z in
          let then_by = by (takes empty (0 % 256) (nat_lt (0 + 1) n) (get_or ps 0 [])) in
          client_opens c x.readable (in_phase phase m) (piece 0) young going refl
          ∙ waits c x.readable ask (piece 0) refl
          ∙ ap (λ b. if b && (has_complex_ack ask.choice && (c.settings.limits.takes_segments && true)) then then_by else Stays) (same_number ask.choice)
          ∙ ap (λ b. if b && (c.settings.limits.takes_segments && true) then then_by else Stays) kind
          ∙ ap (λ b. if b && true then then_by else Stays) takes_segments
          ∙ ap by is

      module _ (phase : Phase) (m : ℕ) (waits : Waits phase) (going : is_idle phase ≡ false) (out : Outgoing) (same : out.pieces ≡ ps)
          (at_start : out.first ≡ 0) (one_piece : out.window ≡ 1) (first extra : ℕ) (plain : 0 < extra → kept.request ≡ None) (few : extra ≤ x.overtake) where
        abbrev from : TransactionPair S
        from = begun phase m out (piece 0 ∷ segments first extra)

        extra_length : length (segments first extra) ≤ x.overtake
        extra_length = let e = pieces_length (client.request_piece c ask.choice ask.pieces) first extra in omega arith

        ends_at_once : 0 + 1 ≡ n → EndsWith (3 * n + extra) from p
        ends_at_once one =
            let e = takes_last ps empty 0 one sizes.few sizes.short refl refl in
            let end = over (Some (giving out)) m (segments first extra ++ client.client_ack c false 0 actual ∷ []) p in
            record {
              end = end;
              idle = refl;
              stores_are = refl;
              log_is = refl;
              reaches = within_more S model x now number key 1 (3 * n + extra) from end (omega arith)
                  (one_step S model x now number key from end (segments first extra) (piece 0) refl extra_length going (lives now.there (giving out) alive)
                  (ap (λ (r : client.Reaction). reacted S model x now number key from (segments first extra) r)
                  (first_is phase m (Whole ps) waits going e ∙ answered_is 0 actual)));
            }

        goes_on : 0 + 1 < n → EndsWith (3 * n + extra) from p
        unfolding carries
        goes_on more =
            let some = sizes.some in
            let room = sizes.room in
            let within = sizes.within in
            let inc = after_piece ps empty 0 0 in
            let s : Sender = record { out = out; all_sent = false } in
            let s' = moved s (next_window actual d.settings.window out 0) in
            let len : length out.pieces ≡ n = ap length same in
            let e = takes_one ps empty 0 more sizes.few sizes.short refl refl true refl in
            let acks = ack false 0 ∷ [] in
            let one = one_step S model x now number key from (replying s inc now.here (segments first extra ++ acks)) (segments first extra) (piece 0) refl
            extra_length going (lives now.there (giving out) alive)
            (ap (λ (r : client.Reaction). reacted S model x now number key from (segments first extra) r) (first_is phase m (Taken true inc) waits going e)) in
            let two = skips extra first (in_phase (SegmentedConf inc) now.here) out acks plain refl in
            let three : Goes 1 (replying s inc now.here acks) (replying s' inc now.here (pieces_from piece 1 (in_window s'.out))) =
            acks_read S model x now number key actual d.settings.window ps sizes near
            (moving S model x now number key actual d.settings.window ps carries inc now.here) 0 s false 0 [] same (omega arith) (omega arith) (omega arith)
            (omega arith) (omega arith) in
            let z = download s' inc now.here 1 (3 * n - 3) (record {
              pieces = same;
              shape = inl (omega arith);
              most = omega arith;
              some = omega arith;
              actual_is = refl;
              taken = taken_next ps empty 0 0 refl;
              parts = parts_next ps empty 0 0 (omega arith) refl;
              behind = omega arith;
              within = omega arith;
              left = omega arith;
            }) (omega arith) in
            ends_then 1 (3 * n - 1 + extra) (3 * n + extra) from (replying s inc now.here (segments first extra ++ acks)) p (omega arith) one
            (ends_then extra (3 * n - 1) (3 * n - 1 + extra) (replying s inc now.here (segments first extra ++ acks)) (replying s inc now.here acks) p
            (omega arith) two
            (ends_then 1 (3 * n - 3) (3 * n - 1) (replying s inc now.here acks) (replying s' inc now.here (pieces_from piece 1 (in_window s'.out))) p
            (omega arith)
            three z))

        pub first_given : 0 < n → EndsWith (3 * n + extra) from p
        first_given any = go (nat_lt 1 n) refl
          where
            go : (b : Bool) → nat_lt 1 n ≡ b → EndsWith (3 * n + extra) from p
            go false is = ends_at_once (grind (arith, nat_tests))
            go true is = goes_on (grind (arith, nat_tests))

  -- A reply of one APDU.

  answer_read : (phase : Phase) (m : ℕ) → Waits phase → is_idle phase ≡ false → (p : reply) → KindFits x.readable ask.choice p
      → client.client_on_apdu c x.readable (in_phase phase m) (server.reply_apdu d ask.choice p) ≡ Ends [] (Answered p)
  answer_read phase m waits going Simple h =
      client_opens c x.readable (in_phase phase m) (server.reply_apdu d ask.choice Simple) young going refl
      ∙ waits c x.readable ask (server.reply_apdu d ask.choice Simple) refl
      ∙ ap (λ b. if b && has_simple_ack ask.choice then Ends [] (Answered Simple) else Stays) (same_number ask.choice)
      ∙ ap (λ b. if b then Ends [] (Answered Simple) else Stays) h
  answer_read phase m waits going (Complex octets) h =
      let by = client.answered_with c x.readable ask.choice [] octets in
      client_opens c x.readable (in_phase phase m) (server.reply_apdu d ask.choice (Complex octets)) young going refl
      ∙ waits c x.readable ask (server.reply_apdu d ask.choice (Complex octets)) refl
      ∙ ap (λ b. if b && has_complex_ack ask.choice then by else Stays) (same_number ask.choice)
      ∙ ap (λ b. if b then by else Stays) h.0
      ∙ ap (λ b. if b then Ends [] (Answered (Complex octets)) else Ends (Abort false key.invoke_id 0 ∷ []) (Aborted 0)) h.1
  answer_read phase m waits going (reply.Error class code) h =
      client_opens c x.readable (in_phase phase m) (server.reply_apdu d ask.choice (reply.Error class code)) young going refl
      ∙ waits c x.readable ask (server.reply_apdu d ask.choice (reply.Error class code)) refl
      ∙ ap (λ b. if b then Ends [] (Answered (reply.Error class code)) else Stays) (same_number ask.choice)

  module _ (phase : Phase) (m : ℕ) (waits : Waits phase) (going : is_idle phase ≡ false) where
    -- the answer is the oldest copy
    pub at_once : (p : reply) (e : ServerTransaction) (xs : List Apdu) → KindFits x.readable ask.choice p → is_none_live now.there (Some e) ≡ false
        → length xs ≤ x.overtake
        → EndsWith 1 (record {
          ticket = in_phase phase m;
          entry = Some e;
          pending = server.reply_apdu d ask.choice p ∷ xs;
          stores = stores;
          log = log;
        }) p
    at_once p e xs kind live few =
        let a = server.reply_apdu d ask.choice p in
        let from : TransactionPair S = record { ticket = in_phase phase m; entry = Some e; pending = a ∷ xs; stores = stores; log = log } in
        let end = over (Some e) m xs p in
        record {
          end = end;
          idle = refl;
          stores_are = refl;
          log_is = refl;
          reaches = one_step S model x now number key from end xs a refl few going live
              (ap (λ b. if b then served S model x now number key from xs (server_reaction S model x now number key from.stores from.entry a)
              else reacted S model x now number key from xs (client_reaction S model x now number key from.ticket a)) (answer_not_from_client d ask.choice p)
              ∙ ap (λ (r : client.Reaction). reacted S model x now number key from xs r) (answer_read phase m waits going p kind)
              ∙ ap (λ (ys : List Apdu). over (Some e) m ys p) (append-nil xs));
        }

    -- the server has performed the request, and its reply begins
    abbrev pub given : reply → Way ℕ → List Apdu → TransactionPair S
    given p way pending = record {
      ticket = in_phase phase m;
      entry = Some (in_state (kept_state d ask.choice p way));
      pending = first_sent d ask.choice p way ∷ pending;
      stores = stores;
      log = log;
    }

    pub reply_read : (p : reply) (way : Way ℕ) (first extra : ℕ) → reply_way_of d.settings c.settings.limits p ≡ way → WayFits way
        → KindFits x.readable ask.choice p → 0 < actual → actual < 256 → actual ≤ x.overtake → (0 < extra → kept.request ≡ None) → extra ≤ x.overtake
        → EndsWith (3 * way_count way + extra) (given p way (segments first extra)) p
    reply_read p InOne first extra is fits kind some small room plain few =
        let e = pieces_length (client.request_piece c ask.choice ask.pieces) first extra in
        let z = at_once p (in_state (kept_state d ask.choice p InOne)) (segments first extra) kind
        (lives now.there (in_state (kept_state d ask.choice p InOne)) alive) (omega arith) in
        record {
          end = z.end;
          idle = z.idle;
          stores_are = z.stores_are;
          log_is = z.log_is;
          reaches = within_more S model x now number key 1 (3 * 1 + extra) (given p InOne (segments first extra)) z.end (omega arith) z.reaches;
        }
    reply_read p (InSegments ps) first extra is fits kind some small room plain few =
        let cut = way_cut d.settings c.settings.limits p ps is in
        let k : KindFits x.readable ask.choice (Complex (join ps)) = subst (λ (q : reply). KindFits x.readable ask.choice q) cut.is kind in
        let e = first_given ps (way_taken d.settings c.settings.limits p ps is) k.0 k.1
        (record { some = some; small = omega arith; within = omega arith; room = room; few = fits.0; short = fits.1 }) small
        phase m waits going (outgoing ps) refl refl refl first extra plain few cut.some in
        subst (λ (q : reply). EndsWith (3 * length ps + extra) (given p (InSegments ps) (segments first extra)) q) (sym cut.is) e
    reply_read p (Refused reason) first extra is fits kind some small room plain few = absurd fits
