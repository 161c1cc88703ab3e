-- A request in segments reaches its server whole, wherever its two ends stood, and is performed.
use Rattle.std.proofs.Common.{◌≡◌, ℕ, zero, suc, ◌+◌, ◌-◌, ◌*◌, ◌%◌, ◌<◌, ◌≤◌, min, Bool, true, false, List, [], ◌∷◌, ◌++◌, length, get_or, Option, Some, None}
use Rattle.std.proofs.Common.{if◌then◌else◌, nat_lt, nat_le, append-nil, refl, ap, subst, ◌∙◌, arith}
use Rattle.std.proofs.lemmas.Bool.Decides.{nat_tests}
use Rattle.bac_apdu.specs.Apdu.{Apdu}
use Rattle.bac_segment.specs.Pieces.{join}
use Rattle.bac_segment.specs.Window.{Outgoing, in_window, is_finished, acknowledged, Incoming, Taking, takes}
use Rattle.bac_segment.specs.Window.Taking.{Taken, Whole, Nak}
use Rattle.bac_protocol.specs.declared.times.TheConstants.{KEEP, T_WAIT_FOR_SEG}
use Rattle.bac_protocol.specs.Context.{Context}
use Rattle.bac_protocol.specs.Sizes.{Way, reply_way_of}
use Rattle.bac_protocol.specs.Service.{Octets, Reply, OTHER}
use Rattle.bac_protocol.specs.Service.Outcome.{Replies}
use Rattle.bac_protocol.specs.Wire.{is_from_client, pieces_from}
use Rattle.bac_protocol.specs.Client as client
use Rattle.bac_protocol.specs.Client.{Ask, request_of, Phase, ClientTransaction}
use Rattle.bac_protocol.specs.Client.Phase.{AwaitConfirmation}
use Rattle.bac_protocol.specs.Client.Reaction.{GoesOn}
use Rattle.bac_protocol.specs.Server as server
use Rattle.bac_protocol.specs.Server.{State, ServerTransaction, Effect, Service, is_none_live}
use Rattle.bac_protocol.specs.Server.State.{Dropped}
use Rattle.bac_protocol.specs.Log.{Fact, StoreModel}
use Rattle.bac_protocol.specs.Log.Fact.{Performed}
use Rattle.bac_protocol.specs.Transaction.{Key, Rules, client_context, server_context}
use Rattle.bac_protocol.specs.World.{stored}
use Rattle.bac_protocol.specs.Straight.{WayFits}
use Rattle.bac_protocol.proofs.Facts.{pieces_length}
use Rattle.bac_protocol.proofs.Queue.{Nows, TransactionPair, step, served, reacted}
use Rattle.bac_protocol.proofs.Windows.{takes_last, next_window, finished}
use Rattle.bac_protocol.proofs.Carries.{Sender, moved, Fitting}
use Rattle.bac_protocol.proofs.Requested.{kept_state, first_sent}
use Rattle.bac_liveness.proofs.Deliveries.{Within, within_then, one_step, idle_step}
use Rattle.bac_liveness.proofs.Windows.{repeated, length_repeated, quiet, Channel, Moving}
use Rattle.bac_liveness.proofs.Acks.{acknowledged_some, acks_read}
use Rattle.bac_liveness.proofs.Rounds.{IsRound, LastLeft, all_rounds}
use Rattle.bac_liveness.proofs.Gets.{client_opens, server_lives, lives, performs_is}
use Rattle.bac_liveness.proofs.Remembered.{Remembered, of_pieces}

module _ (S : Type 0) (model : StoreModel S) (x : Rules) (now : Nows) (number : ℕ) (key : Key) (ask : Ask) (young : client.is_expired now.here ask ≡ false)
    (repeats begin : ℕ) (alive : nat_le (now.there - begin) KEEP ≡ true) (piece_kept : Option Octets) (stores : ℕ → S) (log : List Fact) where
  abbrev c : Context
  c = client_context x key now.here

  abbrev d : Context
  d = server_context x key now.there

  abbrev service : Service
  service = model.outcome (stores key.server)

  -- the actual window of the request's transfer
  abbrev pub actual : ℕ
  actual = min c.settings.window d.settings.window

  abbrev n : ℕ
  n = length ask.pieces

  abbrev pub piece : ℕ → Apdu
  piece = client.request_piece c ask.choice ask.pieces

  abbrev ack : Bool → ℕ → Apdu
  ack nak i = server.server_ack d nak i actual

  abbrev pub in_phase : Phase → ClientTransaction
  in_phase phase = record { ask = ask; phase = phase; repeats = repeats; since = now.here }

  abbrev sending : Sender → ClientTransaction
  sending s = in_phase (Phase.SegmentedRequest s.out s.all_sent)

  abbrev pub begun : Remembered → State → ServerTransaction
  begun kept state =
      record { begin = begin; choice = ask.choice; limits = c.settings.limits; request = kept.request; first = kept.first; state = state }

  abbrev taking : Incoming → ℕ → ServerTransaction
  taking inc m = begun (record { request = None; first = piece_kept }) (State.SegmentedRequest inc m)

  -- the request is under way
  abbrev pub requesting : Sender → Incoming → ℕ → List Apdu → TransactionPair S
  requesting s inc m pending = record { ticket = sending s; entry = Some (taking inc m); pending = pending; stores = stores; log = log }

  abbrev Goes : ℕ → TransactionPair S → TransactionPair S → Type 0
  Goes most p q = Within S model x now number key most p q

  abbrev pub is_late : ℕ → Bool
  is_late m = nat_le T_WAIT_FOR_SEG (now.there - m)

  pub not_late : is_late now.there ≡ false
  not_late = grind (arith, nat_tests)

  server_takes : (inc : Incoming) (m t : ℕ) (y : Taking) → is_late m ≡ false → takes inc (t % 256) (nat_lt (t + 1) n) (get_or ask.pieces t []) ≡ y
      → server.server_on_apdu d service (Some (taking inc m)) true (piece t) ≡ server.request_segment_taken d service (taking inc m) (t % 256) inc.window y
  server_takes inc m t y timely is =
      let e = taking inc m in
      server_lives d service e (piece t) alive
      ∙ ap (λ b. if b then server.becomes e Dropped (server.server_abort d OTHER ∷ []) else server.request_segment_taken d service e (t % 256) inc.window
      (takes inc (t % 256) (nat_lt (t + 1) n) (get_or ask.pieces t []))) timely
      ∙ ap (λ (z : Taking). server.request_segment_taken d service e (t % 256) inc.window z) is

  pub acks_one : (s : Sender) (inc inc' : Incoming) (m t : ℕ) (xs : List Apdu) → is_late m ≡ false → inc.window ≡ actual → length xs ≤ x.overtake
      → takes inc (t % 256) (nat_lt (t + 1) n) (get_or ask.pieces t []) ≡ Taken true inc'
      → Goes 1 (requesting s inc m (piece t ∷ xs)) (requesting s inc' now.there (xs ++ ack false (t % 256) ∷ []))
  acks_one s inc inc' m t xs timely is few e =
      let from = requesting s inc m (piece t ∷ xs) in
      one_step S model x now number key from (requesting s inc' now.there (xs ++ ack false (t % 256) ∷ [])) xs (piece t) refl few refl
      (lives now.there (taking inc m) alive)
      (ap (λ (v : server.Reaction). served S model x now number key from xs v) (server_takes inc m t (Taken true inc') timely e)
      ∙ ap (λ (i : ℕ). requesting s inc' now.there (xs ++ server.server_ack d false (t % 256) i ∷ [])) is)

  pub keeps_one : (s : Sender) (inc inc' : Incoming) (m t : ℕ) (xs : List Apdu) → is_late m ≡ false → length xs ≤ x.overtake
      → takes inc (t % 256) (nat_lt (t + 1) n) (get_or ask.pieces t []) ≡ Taken false inc'
      → Goes 1 (requesting s inc m (piece t ∷ xs)) (requesting s inc' now.there xs)
  keeps_one s inc inc' m t xs timely few e =
      let from = requesting s inc m (piece t ∷ xs) in
      one_step S model x now number key from (requesting s inc' now.there xs) xs (piece t) refl few refl (lives now.there (taking inc m) alive)
      (ap (λ (v : server.Reaction). served S model x now number key from xs v) (server_takes inc m t (Taken false inc') timely e)
      ∙ ap (λ (ys : List Apdu). requesting s inc' now.there ys) (append-nil xs))

  pub naks_one : (s : Sender) (inc : Incoming) (m p q : ℕ) (xs : List Apdu) → is_late m ≡ false → inc.window ≡ actual → q + 1 ≡ length inc.parts
      → length xs ≤ x.overtake → takes inc (p % 256) (nat_lt (p + 1) n) (get_or ask.pieces p []) ≡ Nak (quiet inc)
      → Goes 1 (requesting s inc m (piece p ∷ xs)) (requesting s (quiet inc) now.there (xs ++ ack true (q % 256) ∷ []))
  naks_one s inc m p q xs timely is taken few e =
      let from = requesting s inc m (piece p ∷ xs) in
      let q_is : length inc.parts - 1 ≡ q = omega arith in
      one_step S model x now number key from (requesting s (quiet inc) now.there (xs ++ ack true (q % 256) ∷ [])) xs (piece p) refl few refl
      (lives now.there (taking inc m) alive)
      (ap (λ (v : server.Reaction). served S model x now number key from xs v) (server_takes inc m p (Nak (quiet inc)) timely e)
      ∙ (λ i. requesting s (quiet inc) now.there (xs ++ server.server_ack d true (q_is i % 256) (is i) ∷ [])))

  client_moves : (s : Sender) (nak : Bool) (i : ℕ) (y : Option Outgoing) → acknowledged c.settings.window s.out i actual ≡ y
      → client.client_on_apdu c x.readable (sending s) (ack nak i) ≡ client.moves_request_window c ask.choice s.all_sent y
  client_moves s nak i y is = client_opens c x.readable (sending s) (ack nak i) young refl refl
      ∙ ap (λ (z : Option Outgoing). client.moves_request_window c ask.choice s.all_sent z) is

  -- the client sends, whatever its server does
  module _ (o : Option ServerTransaction) (live : is_none_live now.there o ≡ false) (stores' : ℕ → S) (log' : List Fact) where
    abbrev pub with_server : ClientTransaction → List Apdu → TransactionPair S
    with_server t pending = record { ticket = t; entry = o; pending = pending; stores = stores'; log = log' }

    pub moves_one : (s : Sender) (nak : Bool) (i : ℕ) (out : Outgoing) (xs : List Apdu) → out.pieces ≡ ask.pieces → length xs ≤ x.overtake
        → acknowledged c.settings.window s.out i actual ≡ Some out → is_finished out ≡ false
        → Goes 1 (with_server (sending s) (ack nak i ∷ xs)) (with_server (sending (moved s out)) (xs ++ pieces_from piece out.first (in_window out)))
    moves_one s nak i out xs same few is going =
        let from = with_server (sending s) (ack nak i ∷ xs) in
        one_step S model x now number key from (with_server (sending (moved s out)) (xs ++ pieces_from piece out.first (in_window out))) xs (ack nak i)
        refl few refl live
        (ap (λ (r : client.Reaction). reacted S model x now number key from xs r)
        (client_moves s nak i (Some out) is
        ∙ ap (λ b. if b then GoesOn AwaitConfirmation [] else client.sends_request_window c ask.choice out s.all_sent) going)
        ∙ ap (λ (ps : List Octets). with_server (sending (moved s out)) (xs ++ pieces_from (client.request_piece c ask.choice ps) out.first
        (in_window out))) same)

    pub ignores_one : (s : Sender) (nak : Bool) (i : ℕ) (xs : List Apdu) → acknowledged c.settings.window s.out i actual ≡ None
        → Goes 1 (with_server (sending s) (ack nak i ∷ xs)) (with_server (sending s) xs)
    ignores_one s nak i xs is =
        let from = with_server (sending s) (ack nak i ∷ xs) in
        idle_step S model x now number key from xs (ack nak i) refl refl live
        (ap (λ (r : client.Reaction). reacted S model x now number key from xs r) (client_moves s nak i None is)
        ∙ ap (λ (ys : List Apdu). with_server (sending s) ys) (append-nil xs))

    pub sends_on : Moving S model x now number key actual c.settings.window ask.pieces
    sends_on = record {
      sending = λ s xs. with_server (sending s) xs;
      piece = piece;
      ack = ack;
      moves = moves_one;
      ignores = ignores_one;
    }

    -- the SegmentACK of the last piece is delivered
    pub last_acked : (s : Sender) (i : ℕ) (ys : List Apdu) → length ys ≤ x.overtake → in_window s.out ≤ 256 → s.out.pieces ≡ ask.pieces → s.out.first ≤ i
        → i + 1 ≡ s.out.first + in_window s.out → i + 1 ≡ n
        → Goes 1 (with_server (sending s) (ack false (i % 256) ∷ ys)) (with_server (in_phase AwaitConfirmation) ys)
    last_acked s i ys few small same le full last =
        let from = with_server (sending s) (ack false (i % 256) ∷ ys) in
        let e = acknowledged_some actual c.settings.window s.out i small le (omega arith) in
        let len : length s.out.pieces ≡ n = ap length same in
        let f = finished (next_window actual c.settings.window s.out i) (omega arith) in
        one_step S model x now number key from (with_server (in_phase AwaitConfirmation) ys) ys (ack false (i % 256)) refl few refl live
        (ap (λ (r : client.Reaction). reacted S model x now number key from ys r)
        (client_moves s false (i % 256) (Some (next_window actual c.settings.window s.out i)) e
        ∙ ap (λ b. if b then GoesOn AwaitConfirmation [] else client.sends_request_window c ask.choice (next_window actual c.settings.window s.out i)
        s.all_sent) f)
        ∙ ap (λ (zs : List Apdu). with_server (in_phase AwaitConfirmation) zs) (append-nil ys))

  unfoldable pub carries : Channel S model x now number key actual c.settings.window ask.pieces
  carries = record {
    ends = requesting;
    piece = piece;
    ack = ack;
    is_late = is_late;
    moment = now.there;
    in_time = not_late;
    acks = acks_one;
    keeps = keeps_one;
    naks = naks_one;
    moves = λ s inc m. moves_one (Some (taking inc m)) (lives now.there (taking inc m) alive) stores log s;
    ignores = λ s inc m. ignores_one (Some (taking inc m)) (lives now.there (taking inc m) alive) stores log s;
  }

  -- The server's store gives the reply p, which can reach the client.
  module _ (p : Reply) (outcome_is : service ask.choice (join ask.pieces) ≡ Replies p) (fits : WayFits (reply_way_of d.settings c.settings.limits p)) where
    abbrev way : Way ℕ
    way = reply_way_of d.settings c.settings.limits p

    abbrev pub sent_first : Apdu
    sent_first = first_sent d ask.choice p way

    abbrev effect : Effect
    effect = record { request = request_of ask; reply = p }

    abbrev pub stores_after : ℕ → S
    stores_after = stored S model key.server (Some effect) stores

    abbrev pub log_after : List Fact
    log_after = Performed number (request_of ask) p ∷ log

    abbrev pub performed_entry : Remembered → ServerTransaction
    performed_entry kept = begun kept (kept_state d ask.choice p way)

    -- the request was performed, and these copies are left
    abbrev pub performed : ClientTransaction → Remembered → List Apdu → TransactionPair S
    performed t kept pending = record {
      ticket = t;
      entry = Some (performed_entry kept);
      pending = pending;
      stores = stores_after;
      log = log_after;
    }

    abbrev pub asking : ClientTransaction → Option ServerTransaction → List Apdu → TransactionPair S
    asking t o pending = record { ticket = t; entry = o; pending = pending; stores = stores; log = log }

    -- the whole request was taken, and is performed
    pub performs_now : (t : ClientTransaction) (o : Option ServerTransaction) (kept : Remembered) (state : State) (a : Apdu) (acks xs : List Apdu)
        → is_from_client a ≡ true
        → server.server_on_apdu d service o true a ≡ server.performs d service (begun kept state) acks (join ask.pieces)
        → step S model x now number key (asking t o (a ∷ xs)) xs a ≡ performed t kept (xs ++ (acks ++ sent_first ∷ []))
    performs_now t o kept state a acks xs up is =
        let from : TransactionPair S = asking t o (a ∷ xs) in
        ap (λ b. if b then served S model x now number key from xs (server.server_on_apdu d service o true a)
        else reacted S model x now number key from xs (client.client_on_apdu c x.readable t a)) up
        ∙ ap (λ (v : server.Reaction). served S model x now number key from xs v)
        (is ∙ performs_is d service p (begun kept state) acks (join ask.pieces) outcome_is fits)

    abbrev waiting : ClientTransaction
    waiting = in_phase AwaitConfirmation

    -- the client waits for the reply, whose first APDU is the oldest copy; after it come some segments of the request that nobody waits for
    pub record IsRead (from : TransactionPair S) (most : ℕ) : Type 0 where
      pub spent : ℕ
      pub first : ℕ
      pub extra : ℕ
      pub cheap : spent + extra ≤ most
      pub few : extra ≤ x.overtake
      pub reaches : Goes spent from (performed waiting (of_pieces ask) (sent_first ∷ pieces_from piece first extra))

    module _ (sizes : Fitting x.overtake actual c.settings.window ask.pieces) (near : actual < 256) where
      abbrev RoundOf : Sender → Incoming → ℕ → Type 0
      RoundOf s inc t = IsRound S model x now number key actual c.settings.window ask.pieces sizes near carries s inc t

      abbrev LastOf : TransactionPair S → ℕ → Type 0
      LastOf from most = LastLeft S model x now number key actual c.settings.window ask.pieces sizes near carries from most

      abbrev live_after : is_none_live now.there (Some (performed_entry (of_pieces ask))) ≡ false
      live_after = lives now.there (performed_entry (of_pieces ask)) alive

      abbrev acked_next : Sender → ℕ → Sender
      acked_next s q = moved s (next_window actual c.settings.window s.out q)

      abbrev acks_of : (nak : Bool) (q j : ℕ) → List Apdu
      acks_of nak q j = repeated j (ack nak (q % 256))

      -- the last piece is delivered
      last_taken : (from : TransactionPair S) (most : ℕ) (z : LastOf from most)
          → Goes 1 (requesting z.s z.inc z.m (piece z.p ∷ acks_of z.nak z.q z.acks))
          (performed (sending z.s) (of_pieces ask) (acks_of z.nak z.q z.acks ++ (ack false (z.p % 256) ∷ sent_first ∷ [])))
      unfolding carries
      last_taken from most z =
          let xs = acks_of z.nak z.q z.acks in
          let before = requesting z.s z.inc z.m (piece z.p ∷ xs) in
          let len = length_repeated z.acks (ack z.nak (z.q % 256)) in
          let few = z.few in
          let old = z.old in
          let last = z.last in
          let full = z.full in
          let window = z.window in
          let room = sizes.room in
          let f = server_takes z.inc z.m z.p (Whole ask.pieces) z.timely
          (takes_last ask.pieces z.inc z.p z.last sizes.few sizes.short z.taken z.parts)
          ∙ ap (λ (i : ℕ). server.request_segment_taken d service (taking z.inc z.m) (z.p % 256) i (Whole ask.pieces)) z.actual_is in
          one_step S model x now number key before (performed (sending z.s) (of_pieces ask) (xs ++ (ack false (z.p % 256) ∷ sent_first ∷ []))) xs (piece z.p) refl
          (omega arith) refl (lives now.there (taking z.inc z.m) alive)
          (performs_now (sending z.s) (Some (taking z.inc z.m)) (of_pieces ask) (State.SegmentedRequest z.inc z.m) (piece z.p) (ack false (z.p % 256) ∷ []) xs refl f)

      -- and what the client then hears
      all_acked : (from : TransactionPair S) (most : ℕ) (z : LastOf from most)
          → Goes z.spent from (requesting z.s z.inc z.m (piece z.p ∷ acks_of z.nak z.q z.acks))
          → (j : ℕ) → z.acks ≡ j → IsRead from most
      unfolding carries sends_on
      all_acked from most z reaches zero e =
          let cheap = z.cheap in
          let old = z.old in
          let last = z.last in
          let full = z.full in
          let room = sizes.room in
          let positive = sizes.some in
          let window = z.window in
          let mid = performed (sending z.s) (of_pieces ask) (ack false (z.p % 256) ∷ sent_first ∷ []) in
          let end = performed waiting (of_pieces ask) (sent_first ∷ []) in
          let one : Goes 1 (requesting z.s z.inc z.m (piece z.p ∷ acks_of z.nak z.q z.acks)) mid =
          subst (λ (i : ℕ). Goes 1 (requesting z.s z.inc z.m (piece z.p ∷ acks_of z.nak z.q z.acks))
          (performed (sending z.s) (of_pieces ask) (acks_of z.nak z.q i ++ (ack false (z.p % 256) ∷ sent_first ∷ [])))) e (last_taken from most z) in
          let two = last_acked (Some (performed_entry (of_pieces ask))) live_after stores_after log_after z.s z.p (sent_first ∷ []) (omega arith) (omega arith)
          z.pieces z.behind (omega arith) z.last in
          record {
            spent = z.spent + 2;
            first = 0;
            extra = 0;
            cheap = omega arith;
            few = omega arith;
            reaches = within_then S model x now number key (z.spent + 1) 1 (z.spent + 2) from mid end (omega arith)
                (within_then S model x now number key z.spent 1 (z.spent + 1) from
                (requesting z.s z.inc z.m (piece z.p ∷ acks_of z.nak z.q z.acks)) mid (omega arith) reaches one) two;
          }
      all_acked from most z reaches (suc j) e =
          let cheap = z.cheap in
          let few = z.few in
          let old = z.old in
          let next_is = z.next_is (omega arith) in
          let last = z.last in
          let full = z.full in
          let window = z.window in
          let room = sizes.room in
          let within = sizes.within in
          let q = z.q in
          let len : length z.s.out.pieces ≡ n = ap length z.pieces in
          let ys = ack false (z.p % 256) ∷ sent_first ∷ [] in
          let s' = acked_next z.s q in
          let extra = in_window s'.out in
          let rest = sent_first ∷ pieces_from piece (q + 1) extra in
          let rest_len = pieces_length piece (q + 1) extra in
          let before = requesting z.s z.inc z.m (piece z.p ∷ acks_of z.nak q z.acks) in
          let mid = performed (sending z.s) (of_pieces ask) (acks_of z.nak q (suc j) ++ ys) in
          let one : Goes 1 before mid = subst (λ (i : ℕ). Goes 1 before (performed (sending z.s) (of_pieces ask) (acks_of z.nak q i ++ ys))) e
          (last_taken from most z) in
          let two : Goes (suc j) mid (performed (sending s') (of_pieces ask) (ack false (z.p % 256) ∷ rest)) = acks_read S model x now number key actual
          c.settings.window ask.pieces sizes near (sends_on (Some (performed_entry (of_pieces ask))) live_after stores_after log_after) j z.s z.nak q ys z.pieces
          z.window (omega arith) (omega arith) (omega arith) (omega arith) in
          let three = last_acked (Some (performed_entry (of_pieces ask))) live_after stores_after log_after s' z.p rest (omega arith) (omega arith) z.pieces
          (omega arith) (omega arith) z.last in
          let end = performed waiting (of_pieces ask) rest in
          record {
            spent = z.spent + (j + 3);
            first = q + 1;
            extra = extra;
            cheap = omega arith;
            few = omega arith;
            reaches = within_then S model x now number key (z.spent + 1) (j + 2) (z.spent + (j + 3)) from mid end (omega arith)
                (within_then S model x now number key z.spent 1 (z.spent + 1) from before mid (omega arith) reaches one)
                (within_then S model x now number key (suc j) 1 (j + 2) mid (performed (sending s') (of_pieces ask) (ack false (z.p % 256) ∷ rest)) end
                (omega arith) two three);
          }

      pub upload : (s : Sender) (inc : Incoming) (m t most : ℕ) → RoundOf s inc t → is_late m ≡ false
          → 3 * n ≤ most + s.out.first + s.out.first + t → IsRead (requesting s inc m (pieces_from piece s.out.first (in_window s.out))) most
      unfolding carries
      upload s inc m t most h timely enough =
          let z = all_rounds S model x now number key actual c.settings.window ask.pieces sizes near carries n s inc m t most h timely (omega arith) enough in
          all_acked (requesting s inc m (pieces_from piece s.out.first (in_window s.out))) most z z.reaches z.acks refl
