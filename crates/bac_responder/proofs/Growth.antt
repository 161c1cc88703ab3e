-- By how many octets an APDU makes one entry keep more.
use Rattle.std.proofs.Common.{◌≡◌, ℕ, ◌+◌, ◌*◌, ◌-◌, ◌≤◌, Bool, true, false, not, ◌&&◌, List, [], ◌∷◌, ◌++◌, length, min, Option, Some, None}
use Rattle.std.proofs.Common.{if◌then◌else◌, nat_eq, nat_lt, nat_le, refl, ap, sym, subst, ◌∙◌, arith, length-append}
use Rattle.std.specs.Prelude.{is_some}
use Rattle.std.proofs.lemmas.List.{length-take}
use Rattle.bac_apdu.specs.Apdu.{Apdu, Limits, Segment}
use Rattle.bac_apdu.specs.Apdu.Apdu.{ConfirmedRequest, SegmentAck, Abort}
use Rattle.bac_segment.specs.Numbers.{ahead}
use Rattle.bac_segment.specs.Pieces.{count_of, join, piece_at, pieces_of}
use Rattle.bac_segment.specs.Limits.{N_RETRY}
use Rattle.bac_segment.specs.Window.{Incoming, Outgoing, Taking, again, in_window, incoming, is_acknowledged, is_expected, is_finished, is_too_long, takes}
use Rattle.bac_segment.specs.Window.{takes_expected}
use Rattle.bac_segment.proofs.Cut.{join-cut}
use Rattle.bac_store.specs.ReplyLengths.{DATA_LIMIT}
use Rattle.bac_protocol.specs.declared.times.TheConstants.{T_SEG, T_WAIT_FOR_SEG}
use Rattle.bac_protocol.specs.Context.{Context, Settings}
use Rattle.bac_protocol.specs.Reuse.{Reads, has_transfer, idle_reusing, reads_so}
use Rattle.bac_protocol.specs.Serving.{ReadRule, ServerRules, entry_left, idle_by, is_read_in_one, needs_no_slot, server_hears}
use Rattle.bac_protocol.specs.Server.{Reaction, ServerTransaction, Service, State, Transfer, is_live, is_none_live, live_entry}
use Rattle.bac_protocol.specs.Server as server
use Rattle.bac_protocol.specs.Service.{BUFFER_OVERFLOW, OTHER, Octets, Outcome, Reply, SEGMENTATION_NOT_SUPPORTED}
use Rattle.bac_protocol.specs.Service.Outcome.{Rejects, Replies}
use Rattle.bac_protocol.specs.Sizes.{Way, allows_segments, reply_way_in_segments, reply_way_of, reply_way_of_size, transfer_size}
use Rattle.bac_protocol.specs.Sizes.Way.{InOne, InSegments, Refused}
use Rattle.bac_protocol.proofs.ByRules.{idle_left, on_left}
use Rattle.bac_responder.specs.Kept.{adds_nothing, entry_octets, grows_none, grows_none_at, growth, kept_length, octets_of, parts_octets, reply_octets, request_octets, state_octets}

-- Segments and pieces.

join_more : (parts : List Octets) (octets : Octets) → length (join (parts ++ octets ∷ [])) ≡ length (join parts) + length octets
join_more [] octets = let e = length-append octets [] in omega (arith, e)
join_more (p ∷ parts) octets =
    let again = join_more parts octets in
    let long = length-append p (join (parts ++ octets ∷ [])) in
    let short = length-append p (join parts) in
    omega (arith, again, long, short)

part_more : (parts : List Octets) (octets : Octets) → parts_octets (parts ++ octets ∷ []) ≡ parts_octets parts + (length octets + 4)
part_more parts octets =
    let whole = join_more parts octets in
    let places = length-append parts (octets ∷ []) in
    omega (arith, whole, places)

-- the first of some parts has no more octets than all
first_within : (parts : List Octets) → kept_length (server.first_of parts) ≤ length (join parts)
first_within parts = go (nat_le (length parts) 256) parts
  where
    go : (b : Bool) (ps : List Octets) → kept_length (if b then Some (piece_at ps 0) else None) ≤ length (join ps)
    go false ps = omega arith
    go true [] = omega arith
    go true (p ∷ ps) = let long = length-append p (join ps) in omega (arith, long)

pieces_within : (size : ℕ) (octets : Octets) → length (join (pieces_of size octets)) ≤ length octets
pieces_within size octets =
    let same = ap length (join-cut (count_of size octets) size octets) in
    let some = length-take (count_of size octets * size) octets in
    omega (arith, same, some)

abbrev taking_octets : Taking → ℕ
taking_octets (Taking.Taken ack next) = parts_octets next.parts
taking_octets (Taking.Whole parts) = parts_octets parts
taking_octets (Taking.Nak next) = parts_octets next.parts
taking_octets Taking.TooLong = 0

takes_octets : (inc : Incoming) (number : ℕ) (more : Bool) (octets : Octets)
    → taking_octets (takes inc number more octets) ≤ parts_octets inc.parts + (length octets + 4)
takes_octets inc number more octets = go (is_expected inc number) (is_too_long inc octets)
  where
    taken : (b : Bool) → taking_octets (if b then Taking.Taken true (record inc { parts = inc.parts ++ octets ∷ []; unacknowledged = 0 })
        else Taking.Taken false (record inc { parts = inc.parts ++ octets ∷ []; unacknowledged = inc.unacknowledged + 1 }))
        ≤ parts_octets inc.parts + (length octets + 4)
    taken true = let e = part_more inc.parts octets in omega (arith, e)
    taken false = let e = part_more inc.parts octets in omega (arith, e)

    expected : (m : Bool) → taking_octets (takes_expected inc m octets) ≤ parts_octets inc.parts + (length octets + 4)
    expected false = let e = part_more inc.parts octets in omega (arith, e)
    expected true = taken (is_acknowledged inc)

    go : (x y : Bool) → taking_octets (if x then (if y then Taking.TooLong else takes_expected inc more octets) else Taking.Nak (record inc { unacknowledged = 0 }))
        ≤ parts_octets inc.parts + (length octets + 4)
    go true true = omega arith
    go true false = expected more
    go false y = omega arith

-- Replies.

abbrev data_octets : Reply → ℕ
data_octets Reply.Simple = 0
data_octets (Reply.Complex octets) = length octets
data_octets (Reply.Error class code) = 0

abbrev pub outcome_octets : Outcome → ℕ
outcome_octets (Replies reply) = data_octets reply
outcome_octets (Rejects reason) = 0

abbrev way_octets : Way ℕ → ℕ
way_octets InOne = 0
way_octets (InSegments pieces) = length (join pieces)
way_octets (Refused reason) = 0

segments_within : (peer : Limits) (pieces : List Octets) (n : ℕ) → length (join pieces) ≤ n → way_octets (reply_way_in_segments peer pieces) ≤ n
segments_within peer pieces n h = go peer.takes_segments (allows_segments peer.max_segments (length pieces))
  where
    go : (t a : Bool) → way_octets (if not t then Refused SEGMENTATION_NOT_SUPPORTED else if a then InSegments pieces else Refused BUFFER_OVERFLOW) ≤ n
    go true true = h
    go true false = omega arith
    go false a = omega arith

size_within : (size : ℕ) (peer : Limits) (octets : Octets) → way_octets (reply_way_of_size size peer octets) ≤ length octets
size_within size peer octets = go (nat_le (length octets + 3) size)
  where
    go : (b : Bool) → way_octets (if b then InOne else reply_way_in_segments peer (pieces_of (size - 5) octets)) ≤ length octets
    go true = omega arith
    go false = segments_within peer (pieces_of (size - 5) octets) (length octets) (pieces_within (size - 5) octets)

way_within : (s : Settings) (peer : Limits) (reply : Reply) → way_octets (reply_way_of s peer reply) ≤ data_octets reply
way_within s peer Reply.Simple = omega arith
way_within s peer (Reply.Complex octets) = size_within (transfer_size s.limits.max_apdu peer.max_apdu) peer octets
way_within s peer (Reply.Error class code) = omega arith

-- A bound for an entry, where it is live.

abbrev pub Fits : (now bound : ℕ) → Option ServerTransaction → Type 0
Fits now bound None = Unit {0}
Fits now bound (Some e) = is_live now e ≡ true → entry_octets e ≤ bound

pub fits_more : (now less more : ℕ) (o : Option ServerTransaction) → less ≤ more → Fits now less o → Fits now more o
fits_more now less more None le h = tt
fits_more now less more (Some e) le h = λ live. let small = h live in omega (arith, small, le)

fits_all : (now bound : ℕ) (o : Option ServerTransaction) → octets_of o ≤ bound → Fits now bound o
fits_all now bound None h = tt
fits_all now bound (Some e) h = λ live. h

dead_fits : (now bound : ℕ) (o : Option ServerTransaction) → is_none_live now o ≡ true → Fits now bound o
dead_fits now bound None dead = tt
dead_fits now bound (Some e) dead = go (is_live now e) dead
  where
    go : (b : Bool) → (if b then false else true) ≡ true → b ≡ true → entry_octets e ≤ bound
    go true dead live = absurd cc
    go false dead live = absurd cc

pub none_kept : (now : ℕ) (o : Option ServerTransaction) → is_none_live now o ≡ true → octets_of (live_entry now o) ≡ 0
none_kept now None dead = refl
none_kept now (Some e) dead = go (is_live now e) dead
  where
    go : (b : Bool) → (if b then false else true) ≡ true → octets_of (if b then Some e else None) ≡ 0
    go true dead = absurd cc
    go false dead = refl

pub live_within : (now : ℕ) (o : Option ServerTransaction) → octets_of (live_entry now o) ≤ octets_of o
live_within now None = omega arith
live_within now (Some e) = go (is_live now e)
  where
    go : (b : Bool) → octets_of (if b then Some e else None) ≤ entry_octets e
    go true = omega arith
    go false = omega arith

abbrev HasShort : Service → Type 0
HasShort service = (choice : ℕ) (octets : Octets) → outcome_octets (service choice octets) ≤ DATA_LIMIT

module _ (c : Context) (service : Service) (short : HasShort service) where
  in_one : (e : ServerTransaction) (reply : Reply) → reply_octets (server.reply_apdu c e.choice reply) ≡ data_octets reply
  in_one e Reply.Simple = refl
  in_one e (Reply.Complex octets) = refl
  in_one e (Reply.Error class code) = refl

  sends_octets : (e : ServerTransaction) (before : List Apdu) (octets : Octets) (reply : Reply) (way : Way ℕ) (n : ℕ) → data_octets reply ≤ n
      → way_octets way ≤ n → octets_of (server.sends_reply c e before octets reply way).entry ≤ request_octets e + n
  sends_octets e before octets reply InOne n small sent = let same = in_one e reply in omega (arith, same, small)
  sends_octets e before octets reply (InSegments pieces) n small sent = omega (arith, sent)
  sends_octets e before octets reply (Refused reason) n small sent = omega arith

  so_octets : (e : ServerTransaction) (before : List Apdu) (octets : Octets) (o : Outcome) (n : ℕ) → outcome_octets o ≤ n
      → octets_of (server.performs_so c e before octets o).entry ≤ request_octets e + n
  so_octets e before octets (Replies reply) n h =
      let way = way_within c.settings e.limits reply in
      sends_octets e before octets reply (reply_way_of c.settings e.limits reply) n h (omega (arith, way, h))
  so_octets e before octets (Rejects reason) n h = omega arith

  performs_octets : (e : ServerTransaction) (before : List Apdu) (octets : Octets)
      → octets_of (server.performs c service e before octets).entry ≤ request_octets e + DATA_LIMIT
  performs_octets e before octets = so_octets e before octets (service e.choice octets) DATA_LIMIT (short e.choice octets)

  taken_octets : (e : ServerTransaction) (number window : ℕ) (t : Taking)
      → octets_of (server.request_segment_taken c service e number window t).entry ≤ request_octets e + (taking_octets t + DATA_LIMIT)
  taken_octets e number window (Taking.Taken true inc) = omega arith
  taken_octets e number window (Taking.Taken false inc) = omega arith
  taken_octets e number window (Taking.Whole parts) =
      let all = performs_octets (server.keeps_first parts e) (server.server_ack c false number window ∷ []) (join parts) in
      let one = first_within parts in
      omega (arith, all, one)
  taken_octets e number window (Taking.Nak inc) = omega arith
  taken_octets e number window Taking.TooLong = omega arith

  -- No entry is live.

  module _ (dead : Option ServerTransaction) (none : is_none_live c.now dead ≡ true) where
    request_fits : (free : Bool) (choice : ℕ) (limits : Limits) (octets : Octets)
        → Fits c.now (length octets + (DATA_LIMIT + 4)) (server.idle_on_request c service dead free choice limits octets).entry
    request_fits true choice limits octets =
        let all = performs_octets (server.begins c choice limits (Some octets)) [] octets in fits_all c.now _ _ (omega (arith, all))
    request_fits false choice limits octets = dead_fits c.now _ dead none

    segment_fits : (free : Bool) (choice : ℕ) (limits : Limits) (g : Segment) (octets : Octets)
        → Fits c.now (length octets + (DATA_LIMIT + 4)) (server.idle_on_segment c service dead free choice limits g octets).entry
    segment_fits free choice limits g octets = go (nat_eq g.number 0) free
      where
        inc : Incoming
        inc = incoming c.settings.window g.window

        go : (b d : Bool) → Fits c.now (length octets + (DATA_LIMIT + 4)) (if not b then server.rests dead [] else if d then server.request_segment_taken c service
            (server.begins c choice limits None) g.number (incoming c.settings.window g.window).window
            (takes (incoming c.settings.window g.window) g.number g.more octets)
            else server.rests dead (server.server_abort c OTHER ∷ [])).entry
        go true true =
            let all = taken_octets (server.begins c choice limits None) g.number (incoming c.settings.window g.window).window
            (takes (incoming c.settings.window g.window) g.number g.more octets) in
            let more = takes_octets (incoming c.settings.window g.window) g.number g.more octets in
            fits_all c.now _ _ (omega (arith, all, more))
        go true false = dead_fits c.now _ dead none
        go false d = dead_fits c.now _ dead none

    idle_fits : (free : Bool) (a : Apdu) → Fits c.now (growth a) (server.idle_on_apdu c service dead free a).entry
    idle_fits free (ConfirmedRequest limits i None choice octets) = request_fits free choice limits octets
    idle_fits free (ConfirmedRequest limits i (Some g) choice octets) = segment_fits free choice limits g octets
    idle_fits free _ = dead_fits c.now _ dead none

    read_fits : (free : Bool) (bound : ℕ) (r : Reaction) → octets_of r.entry ≤ bound → Fits c.now bound (reads_so c dead free r).entry
    read_fits free bound r h = go (has_transfer r.entry) free
      where
        go : (b d : Bool) → Fits c.now bound (if b then (if d then r else server.rests dead (server.server_abort c OTHER ∷ []))
            else record { entry = dead; sends = r.sends; effect = r.effect }).entry
        go true true = fits_all c.now bound r.entry h
        go true false = dead_fits c.now bound dead none
        go false d = dead_fits c.now bound dead none

    reusing_fits : (reads : Reads) (free : Bool) (a : Apdu) → Fits c.now (growth a) (idle_reusing c service reads dead free a).entry
    reusing_fits reads free (ConfirmedRequest limits i None choice octets) = go (reads choice)
      where
        go : (b : Bool) → Fits c.now (length octets + (DATA_LIMIT + 4)) (if b then reads_so c dead free (server.performs c service
            (server.begins c choice limits (Some octets)) [] octets) else server.idle_on_request c service dead free choice limits octets).entry
        go true =
            let all = performs_octets (server.begins c choice limits (Some octets)) [] octets in
            read_fits free _ (server.performs c service (server.begins c choice limits (Some octets)) [] octets) (omega (arith, all))
        go false = request_fits free choice limits octets
    reusing_fits reads free (ConfirmedRequest limits i (Some g) choice octets) = segment_fits free choice limits g octets
    reusing_fits reads free _ = dead_fits c.now _ dead none

    -- what begins by the rules of an end
    begun_fits : (reads : ReadRule) (free : Bool) (a : Apdu) → Fits c.now (growth a) (idle_by c service reads dead free a).entry
    begun_fits ReadRule.Kept free a = idle_fits free a
    begun_fits (ReadRule.Fresh reads) free a = reusing_fits reads free a

  -- An entry is live.

  module _ (e : ServerTransaction) where
    rests_octets : (a : Apdu) (z : State) → e.state ≡ z → entry_octets e ≤ request_octets e + state_octets z + growth a
    rests_octets a z is = let same = ap state_octets is in omega (arith, same)

    on_segment_octets : (inc : Incoming) (since : ℕ) (g : Segment) (octets : Octets)
        → octets_of (server.segmented_request_on_segment c service e inc since g octets).entry
        ≤ request_octets e + parts_octets inc.parts + (length octets + (DATA_LIMIT + 4))
    on_segment_octets inc since g octets = go (nat_le T_WAIT_FOR_SEG (c.now - since))
      where
        go : (b : Bool) → octets_of (if b then server.becomes e State.Dropped (server.server_abort c OTHER ∷ [])
            else server.request_segment_taken c service e g.number inc.window (takes inc g.number g.more octets)).entry
            ≤ request_octets e + parts_octets inc.parts + (length octets + (DATA_LIMIT + 4))
        go true = omega arith
        go false =
            let all = taken_octets e g.number inc.window (takes inc g.number g.more octets) in
            let more = takes_octets inc g.number g.more octets in
            omega (arith, all, more)

    receiving : (inc : Incoming) (since : ℕ) (a : Apdu) → e.state ≡ State.SegmentedRequest inc since
        → octets_of (server.segmented_request_on_apdu c service e inc since a).entry ≤ request_octets e + parts_octets inc.parts + growth a
    receiving inc since (ConfirmedRequest limits i (Some g) choice octets) is = on_segment_octets inc since g octets
    receiving inc since (Abort false i reason) is = omega arith
    receiving inc since a is = rests_octets a (State.SegmentedRequest inc since) is

    done : (kept a : Apdu) → e.state ≡ State.Done kept
        → octets_of (server.done_on_apdu c e kept a).entry ≤ request_octets e + reply_octets kept + growth a
    done kept (ConfirmedRequest limits i None choice octets) is = rests_octets (ConfirmedRequest limits i None choice octets) (State.Done kept) is
    done kept (ConfirmedRequest limits i (Some g) choice octets) is = rests_octets (ConfirmedRequest limits i (Some g) choice octets) (State.Done kept) is
    done kept a is = rests_octets a (State.Done kept) is

    module _ (out : Outgoing) (transfer : Transfer) (since : ℕ) (is : e.state ≡ State.SegmentedResponse out transfer since) where
      abbrev all : ℕ
      all = request_octets e + length (join out.pieces)

      same_all : entry_octets e ≡ all
      same_all = ap (λ (z : State). request_octets e + state_octets z) is

      stays_octets : entry_octets e ≤ all
      stays_octets = let same = same_all in omega (arith, same)

      resumed : (t : Transfer) → octets_of (server.resumes c e out t).entry ≤ all
      resumed Transfer.Running = stays_octets
      resumed Transfer.Stopped = omega arith
      resumed Transfer.Finished = stays_octets

      moved : (b : Bool) (next : Outgoing) → next.pieces ≡ out.pieces
          → octets_of (server.moves_reply_window c e (if b then Some next else None)).entry ≤ all
      moved true next same = go (is_finished next)
        where
          go : (f : Bool) → octets_of (if f then server.becomes e (State.SegmentedResponse next Transfer.Finished c.now) [] else server.sends_reply_window c e next).entry ≤ all
          go true = let long = ap (λ (l : List Octets). length (join l)) same in omega (arith, long)
          go false = let long = ap (λ (l : List Octets). length (join l)) same in omega (arith, long)
      moved false next same = stays_octets

      acked : (t : Transfer) (number window : ℕ) → octets_of (server.segmented_response_on_ack c e out t number window).entry ≤ all
      acked Transfer.Running number window = moved (nat_lt (ahead number out.first) (in_window out))
          (record out { first = out.first + ahead number out.first + 1; window = min window c.settings.window; retries = N_RETRY }) refl
      acked Transfer.Stopped number window = stays_octets
      acked Transfer.Finished number window = stays_octets

      replying : (a : Apdu) → octets_of (server.segmented_response_on_apdu c e out transfer since a).entry ≤ all
      replying (ConfirmedRequest limits i None choice octets) = go (server.is_kept e e.request choice octets)
        where
          go : (b : Bool) → octets_of (if b then server.resumes c e out transfer else server.rests (Some e) (server.server_abort c OTHER ∷ [])).entry ≤ all
          go true = resumed transfer
          go false = stays_octets
      replying (ConfirmedRequest limits i (Some g) choice octets) = go (is_some e.request)
        where
          go : (b : Bool) → octets_of (if b then server.rests (Some e) (server.server_abort c OTHER ∷ []) else server.resumes c e out transfer).entry ≤ all
          go true = stays_octets
          go false = resumed transfer
      replying (SegmentAck false i ack) = acked transfer ack.number ack.window
      replying (Abort false i reason) = omega arith
      replying _ = stays_octets

    dropped : (a : Apdu) → e.state ≡ State.Dropped → octets_of (server.dropped_on_apdu c e a).entry ≤ request_octets e + growth a
    dropped (ConfirmedRequest limits i g choice octets) is = let same = ap state_octets is in omega (arith, same)
    dropped a is = let same = ap state_octets is in omega (arith, same)

    live_octets : (z : State) (a : Apdu) → e.state ≡ z → octets_of (server.live_on_apdu c service e z a).entry ≤ entry_octets e + growth a
    live_octets (State.SegmentedRequest inc since) a is =
        let all = receiving inc since a is in let same = ap state_octets is in omega (arith, all, same)
    live_octets (State.Done kept) a is = let all = done kept a is in let same = ap state_octets is in omega (arith, all, same)
    live_octets (State.SegmentedResponse out transfer since) a is =
        let all = replying out transfer since is a in let same = ap state_octets is in omega (arith, all, same)
    live_octets State.Dropped a is = let all = dropped a is in let same = ap state_octets is in omega (arith, all, same)

  pub server_fits : (o : Option ServerTransaction) (free : Bool) (a : Apdu)
      → Fits c.now (octets_of (live_entry c.now o) + growth a) (server.server_on_apdu c service o free a).entry
  server_fits None free a = fits_more c.now (growth a) _ _ (omega arith) (idle_fits None refl free a)
  server_fits (Some e) free a = go (is_live c.now e) refl
    where
      go : (b : Bool) → is_live c.now e ≡ b → Fits c.now (octets_of (if b then Some e else None) + growth a)
          (if b then server.live_on_apdu c service e e.state a else server.idle_on_apdu c service (Some e) free a).entry
      go true live = fits_all c.now _ _ (live_octets e e.state a refl)
      go false gone = fits_more c.now (growth a) _ _ (omega arith) (idle_fits (Some e) (ap (λ (b : Bool). if b then false else true) gone) free a)

  pub hears_fits : (rules : ServerRules) (o : Option ServerTransaction) (free : Bool) (a : Apdu)
      → Fits c.now (octets_of (live_entry c.now (entry_left rules c.now o a)) + growth a) (server_hears c service rules o free a).entry
  hears_fits rules o free a = go (is_none_live c.now left) refl
    where
      left : Option ServerTransaction
      left = entry_left rules c.now o a

      go : (b : Bool) → is_none_live c.now left ≡ b → Fits c.now (octets_of (live_entry c.now left) + growth a) (server_hears c service rules o free a).entry
      go true none =
          let no = none_kept c.now left none in
          subst (λ (r : Reaction). Fits c.now (octets_of (live_entry c.now left) + growth a) r.entry) (sym (idle_left c service rules o free a none))
          (fits_more c.now (growth a) _ _ (omega (arith, no)) (begun_fits left none rules.reads free a))
      go false some =
          subst (λ (r : Reaction). Fits c.now (octets_of (live_entry c.now left) + growth a) r.entry) (sym (on_left c service rules o free a some))
          (server_fits left free a)

  -- It makes no entry keep more.

  receiving_whole : (e : ServerTransaction) (inc : Incoming) (since : ℕ) (a : Apdu) → grows_none (State.SegmentedRequest inc since) a ≡ true
      → octets_of (server.segmented_request_on_apdu c service e inc since a).entry ≤ entry_octets e
  receiving_whole e inc since (ConfirmedRequest limits i None choice octets) none = omega arith
  receiving_whole e inc since (ConfirmedRequest limits i (Some g) choice octets) none = absurd cc
  receiving_whole e inc since _ none = absurd cc

  done_request : (e : ServerTransaction) (kept a : Apdu) → grows_none (State.Done kept) a ≡ true
      → octets_of (server.done_on_apdu c e kept a).entry ≤ entry_octets e
  done_request e kept (ConfirmedRequest limits i None choice octets) none = omega arith
  done_request e kept (ConfirmedRequest limits i (Some g) choice octets) none = omega arith
  done_request e kept _ none = absurd cc

  dropped_request : (e : ServerTransaction) (a : Apdu) → grows_none State.Dropped a ≡ true → octets_of (server.dropped_on_apdu c e a).entry ≤ entry_octets e
  dropped_request e (ConfirmedRequest limits i g choice octets) none = omega arith
  dropped_request e _ none = absurd cc

  none_octets : (e : ServerTransaction) (z : State) (a : Apdu) → e.state ≡ z → grows_none z a ≡ true
      → octets_of (server.live_on_apdu c service e z a).entry ≤ entry_octets e
  none_octets e (State.SegmentedRequest inc since) a is none = receiving_whole e inc since a none
  none_octets e (State.Done kept) a is none = done_request e kept a none
  none_octets e (State.SegmentedResponse out transfer since) a is none =
      let all = replying e out transfer since is a in
      let same = ap state_octets is in
      omega (arith, all, same)
  none_octets e State.Dropped a is none = dropped_request e a none

  none_fits : (o : Option ServerTransaction) (free : Bool) (a : Apdu) → is_none_live c.now o ≡ false → grows_none_at o a ≡ true
      → Fits c.now (octets_of (live_entry c.now o) + 0) (server.server_on_apdu c service o free a).entry
  none_fits None free a some none = absurd cc
  none_fits (Some e) free a some none = go (is_live c.now e) some
    where
      go : (b : Bool) → (if b then false else true) ≡ false → Fits c.now (octets_of (if b then Some e else None) + 0)
          (if b then server.live_on_apdu c service e e.state a else server.idle_on_apdu c service (Some e) free a).entry
      go true live = let same = none_octets e e.state a refl none in fits_all c.now _ _ (omega (arith, same))
      go false dead = absurd cc

  read_in_one_fits : (reads : Reads) (o : Option ServerTransaction) → is_none_live c.now o ≡ true → (free : Bool) (a : Apdu)
      → is_read_in_one c service reads a ≡ true → Fits c.now (octets_of (live_entry c.now o) + 0) (idle_reusing c service reads o free a).entry
  read_in_one_fits reads o none free (ConfirmedRequest limits i None choice octets) one = go (reads choice) (has_transfer r.entry) one
    where
      r : Reaction
      r = server.performs c service (server.begins c choice limits (Some octets)) [] octets

      go : (x y : Bool) → x && not y ≡ true → Fits c.now (octets_of (live_entry c.now o) + 0)
          (if x then (if y then (if free then server.performs c service (server.begins c choice limits (Some octets)) [] octets
          else server.rests o (server.server_abort c OTHER ∷ []))
          else record {
            entry = o;
            sends = (server.performs c service (server.begins c choice limits (Some octets)) [] octets).sends;
            effect = (server.performs c service (server.begins c choice limits (Some octets)) [] octets).effect;
          })
          else server.idle_on_request c service o free choice limits octets).entry
      go true false one = dead_fits c.now _ o none
      go true true one = absurd cc
      go false y one = absurd cc
  read_in_one_fits reads o none free (ConfirmedRequest limits i (Some g) choice octets) one = absurd cc
  read_in_one_fits reads o none free _ one = absurd cc

  begins_none_fits : (reads : ReadRule) (o : Option ServerTransaction) → is_none_live c.now o ≡ true → (free : Bool) (a : Apdu)
      → needs_no_slot c service reads a ≡ true → Fits c.now (octets_of (live_entry c.now o) + 0) (idle_by c service reads o free a).entry
  begins_none_fits ReadRule.Kept o none free a one = absurd cc
  begins_none_fits (ReadRule.Fresh reads) o none free a one = read_in_one_fits reads o none free a one

  pub nothing_fits : (rules : ServerRules) (o : Option ServerTransaction) (free : Bool) (a : Apdu)
      → adds_nothing c service rules.reads (entry_left rules c.now o a) a ≡ true
      → Fits c.now (octets_of (live_entry c.now (entry_left rules c.now o a)) + 0) (server_hears c service rules o free a).entry
  nothing_fits rules o free a is = go (is_none_live c.now left) refl is
    where
      left : Option ServerTransaction
      left = entry_left rules c.now o a

      go : (b : Bool) → is_none_live c.now left ≡ b → (if b then needs_no_slot c service rules.reads a else grows_none_at left a) ≡ true
          → Fits c.now (octets_of (live_entry c.now left) + 0) (server_hears c service rules o free a).entry
      go true none one =
          subst (λ (r : Reaction). Fits c.now (octets_of (live_entry c.now left) + 0) r.entry) (sym (idle_left c service rules o free a none))
          (begins_none_fits rules.reads left none free a one)
      go false some small =
          subst (λ (r : Reaction). Fits c.now (octets_of (live_entry c.now left) + 0) r.entry) (sym (on_left c service rules o free a some))
          (none_fits left free a some small)

-- A tick.

module _ (c : Context) (e : ServerTransaction) where
  ticks_receiving : (inc : Incoming) (since : ℕ) → octets_of (server.segmented_request_ticks c e since).entry ≤ entry_octets e
  ticks_receiving inc since = go (nat_le T_WAIT_FOR_SEG (c.now - since))
    where
      go : (b : Bool) → octets_of (if b then server.becomes e State.Dropped [] else server.rests (Some e) []).entry ≤ entry_octets e
      go true = omega arith
      go false = omega arith

  module _ (out : Outgoing) (transfer : Transfer) (since : ℕ) (is : e.state ≡ State.SegmentedResponse out transfer since) where
    sends_again : (b : Bool) → octets_of (server.sends_reply_again c e out since (if b then None else Some (record out { retries = out.retries - 1 }))).entry ≤ entry_octets e
    sends_again true = let same = ap state_octets is in omega (arith, same)
    sends_again false = let same = ap state_octets is in omega (arith, same)

    ticks_replying : (t : Transfer) → octets_of (server.segmented_response_ticks c e out t since).entry ≤ entry_octets e
    ticks_replying Transfer.Running = go (nat_le T_SEG (c.now - since))
      where
        go : (b : Bool) → octets_of (if b then server.sends_reply_again c e out since (again out) else server.rests (Some e) []).entry ≤ entry_octets e
        go true = sends_again (nat_eq out.retries 0)
        go false = omega arith
    ticks_replying Transfer.Stopped = omega arith
    ticks_replying Transfer.Finished = omega arith

  ticks_in : (z : State) → e.state ≡ z → octets_of (server.live_ticks c e z).entry ≤ entry_octets e
  ticks_in (State.SegmentedRequest inc since) is = ticks_receiving inc since
  ticks_in (State.Done kept) is = omega arith
  ticks_in (State.SegmentedResponse out transfer since) is = ticks_replying out transfer since is transfer
  ticks_in State.Dropped is = omega arith

  pub tick_octets : octets_of (server.server_ticks c (Some e)).entry ≤ entry_octets e
  tick_octets = go (is_live c.now e)
    where
      go : (b : Bool) → octets_of (if b then server.live_ticks c e e.state else server.rests (Some e) []).entry ≤ entry_octets e
      go true = ticks_in e.state refl
      go false = omega arith
