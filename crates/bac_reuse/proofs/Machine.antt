-- What a server that lets invoke IDs be used again makes of an APDU of the newest ask, beside what one makes that does not.
use Rattle.std.proofs.Common.{◌≡◌, ℕ, ◌+◌, ◌-◌, ◌<◌, ◌≤◌, ◌⊎◌, Bool, true, false, ◌&&◌, not, List, [], ◌∷◌, length, Option, Some, None, if◌then◌else◌}
use Rattle.std.proofs.Common.{nat_eq, nat_le, refl, ap, sym, subst, inl, inr, ◌∙◌, arith}
use Rattle.std.specs.Prelude.{is_some}
use Rattle.std.specs.Str.{bytes_eq}
use Rattle.std.proofs.lemmas.Bool.Decides.{nat_tests}
use Rattle.std.proofs.lemmas.Slice.Eq.{bytes_eq-Decides}
use Rattle.bac_apdu.specs.Apdu.{Apdu, Segment}
use Rattle.bac_apdu.specs.Apdu.Apdu.{ConfirmedRequest, UnconfirmedRequest, SimpleAck, ComplexAck, SegmentAck, Error, Reject, Abort}
use Rattle.bac_segment.specs.Pieces.{join, piece_at}
use Rattle.bac_segment.specs.Window.{Outgoing, Taking, acknowledged, again, incoming, is_finished, resume, takes}
use Rattle.bac_protocol.specs.declared.times.TheConstants.{KEEP, T_SEG}
use Rattle.bac_protocol.specs.Context.{Context}
use Rattle.bac_protocol.specs.Service.{OTHER, Octets, Outcome, Reply as reply}
use Rattle.bac_protocol.specs.Service.Outcome.{Replies, Rejects}
use Rattle.bac_protocol.specs.Sizes.{Way, reply_way_of}
use Rattle.bac_protocol.specs.Sizes.Way.{InOne, InSegments, Refused}
use Rattle.bac_protocol.specs.Claims.{IsPieceOf}
use Rattle.bac_protocol.specs.Client.{Ask}
use Rattle.bac_protocol.specs.Server as server
use Rattle.bac_protocol.specs.Server.{Effect, Reaction, ServerTransaction, Service, State, Transfer, is_kept, is_live, server_on_apdu, server_ticks}
use Rattle.bac_protocol.specs.Server.State.{Done, SegmentedResponse, Dropped}
use Rattle.bac_protocol.specs.Server.Transfer.{Running, Stopped, Finished}
use Rattle.bac_protocol.specs.Reuse.{Reads, goes_in_segments, idle_on_read, idle_reusing, is_acknowledged_by, is_ended_by, is_of_whole_read, is_other_first}
use Rattle.bac_protocol.specs.Reuse.{is_transfer_over, left_on_apdu, reusing_on_apdu}
use Rattle.bac_protocol.specs.Steps.{IsSegmentedRequest, MayPerform, StateStays, StaysIn}
use Rattle.bac_protocol.proofs.Reused.{goes_on_as_ever, goes_on_where}
use Rattle.bac_protocol.proofs.Sound.{FirstFits}
use Rattle.bac_protocol.proofs.Served.{effects_are_kept, live_stays_law}

-- What an APDU of an ask is.

-- a request is of that ask
abbrev pub IsRequestOf : Ask → Apdu → Type 0
IsRequestOf ask (ConfirmedRequest limits id None choice octets) = (ask.whole ≡ true) × (choice ≡ ask.choice) × (octets ≡ join ask.pieces)
IsRequestOf ask (ConfirmedRequest limits id (Some segment) choice octets) = (ask.whole ≡ false) × (choice ≡ ask.choice) × IsPieceOf ask.pieces segment octets
IsRequestOf ask _ = Unit {0}

-- an Abort of a client
abbrev pub IsClientAbort : Apdu → Type 0
IsClientAbort (Abort false id reason) = Unit {0}
IsClientAbort _ = ⊥

-- Entries.

-- no entry is live
abbrev pub IsGone : (now : ℕ) → Option ServerTransaction → Type 0
IsGone now None = Unit {0}
IsGone now (Some e) = e.begin + KEEP < now

-- an entry is there, and that holds of it
abbrev pub EntryIs : (ServerTransaction → Type 0) → Option ServerTransaction → Type 0
EntryIs P None = ⊥
EntryIs P (Some e) = P e

-- what an entry for an ask keeps of its service data
abbrev pub kept_of : Ask → Option Octets
kept_of ask = if ask.whole then Some (join ask.pieces) else None

-- an entry is for that ask
pub record IsFor (ask : Ask) (e : ServerTransaction) : Type 0 where
  pub request : e.request ≡ kept_of ask
  pub choice : e.choice ≡ ask.choice

-- an entry gives its reply in segments
abbrev pub IsGiving : State → Type 0
IsGiving (SegmentedResponse out transfer since) = Unit {0}
IsGiving _ = ⊥

-- where its transfer is over, that holds
abbrev pub OverIf : Type 0 → State → Type 0
OverIf P (SegmentedResponse out transfer since) = is_transfer_over transfer ≡ true → P
OverIf P _ = Unit {0}

-- Two reactions.

-- both are one, and that holds of the entry
abbrev pub AreOne : (ServerTransaction → Type 0) → (v u : Reaction) → Type 0
AreOne P v u = (v ≡ u) × EntryIs P u.entry

-- both keep their entries, and send the same
abbrev pub BothRest : (o p : Option ServerTransaction) (v u : Reaction) → Type 0
BothRest o p v u = (sends : List Apdu) × (v ≡ server.rests o sends) × (u ≡ server.rests p sends)

module _ (c : Context) (service : Service) where
  idle_at : (e : ServerTransaction) → e.begin + KEEP < c.now → is_live c.now e ≡ false
  idle_at e gone = grind (arith, nat_tests)

  -- where no entry is live, an APDU comes as to none
  pub gone_gets : (o : Option ServerTransaction) → IsGone c.now o → (free : Bool) (a : Apdu)
      → server_on_apdu c service o free a ≡ server.idle_on_apdu c service o free a
  gone_gets None gone free a = refl
  gone_gets (Some e) gone free a =
      ap (λ b. if b then server.live_on_apdu c service e e.state a else server.idle_on_apdu c service (Some e) free a) (idle_at e gone)

  pub gone_reuses : (reads : Reads) (o : Option ServerTransaction) → IsGone c.now o → (free : Bool) (a : Apdu)
      → reusing_on_apdu c service reads o free a ≡ idle_reusing c service reads o free a
  gone_reuses reads None gone free a = refl
  gone_reuses reads (Some e) gone free a =
      ap (λ b. left_on_apdu c service reads (if b && is_ended_by reads e a then None else Some e) free a) (idle_at e gone)
      ∙ ap (λ b. if (if b then false else true) then idle_reusing c service reads (Some e) free a else server_on_apdu c service (Some e) free a) (idle_at e gone)

  pub gone_ticks : (o : Option ServerTransaction) → IsGone c.now o → server_ticks c o ≡ server.rests o []
  gone_ticks None gone = refl
  gone_ticks (Some e) gone = ap (λ b. if b then server.live_ticks c e e.state else server.rests (Some e) []) (idle_at e gone)

  -- An entry that begins for an ask is for it.
  module _ (ask : Ask) where
    sends_for : (e : ServerTransaction) → IsFor ask e → (before : List Apdu) (octets : Octets) (p : reply) (way : Way ℕ)
        → EntryIs (IsFor ask) (server.sends_reply c e before octets p way).entry
    sends_for e h before octets p InOne = record { request = h.request; choice = h.choice }
    sends_for e h before octets p (InSegments pieces) = record { request = h.request; choice = h.choice }
    sends_for e h before octets p (Refused reason) = record { request = h.request; choice = h.choice }

    performs_for : (e : ServerTransaction) → IsFor ask e → (before : List Apdu) (octets : Octets) (o : Outcome)
        → EntryIs (IsFor ask) (server.performs_so c e before octets o).entry
    performs_for e h before octets (Replies p) = sends_for e h before octets p (reply_way_of c.settings e.limits p)
    performs_for e h before octets (Rejects reason) = record { request = h.request; choice = h.choice }

    taken_for : (e : ServerTransaction) → IsFor ask e → (number window : ℕ) (t : Taking)
        → EntryIs (IsFor ask) (server.request_segment_taken c service e number window t).entry
    taken_for e h number window (Taking.Taken true inc) = record { request = h.request; choice = h.choice }
    taken_for e h number window (Taking.Taken false inc) = record { request = h.request; choice = h.choice }
    taken_for e h number window (Taking.Whole parts) =
        performs_for (server.keeps_first parts e) (record { request = h.request; choice = h.choice }) (server.server_ack c false number window ∷ []) (join parts) (service e.choice (join parts))
    taken_for e h number window (Taking.Nak inc) = record { request = h.request; choice = h.choice }
    taken_for e h number window Taking.TooLong = record { request = h.request; choice = h.choice }

    kept_whole : (octets : Octets) → ask.whole ≡ true → octets ≡ join ask.pieces → Some octets ≡ kept_of ask
    kept_whole octets whole same = ap (λ (y : Octets). Some y) same ∙ sym (ap (λ b. if b then Some (join ask.pieces) else None) whole)

    kept_none : ask.whole ≡ false → None ≡ kept_of ask
    kept_none whole = sym (ap (λ b. if b then Some (join ask.pieces) else None) whole)

    -- where none is live, two servers that differ in a dead entry do the same
    pub idle_pair : (o p : Option ServerTransaction) (free : Bool) (a : Apdu) → IsRequestOf ask a
        → AreOne (IsFor ask) (server.idle_on_apdu c service o free a) (server.idle_on_apdu c service p free a)
        ⊎ BothRest o p (server.idle_on_apdu c service o free a) (server.idle_on_apdu c service p free a)
    idle_pair o p true (ConfirmedRequest limits id None choice octets) is =
        let d : ServerTransaction = server.begins c choice limits (Some octets) in
        inl (refl, performs_for d (record { request = kept_whole octets is.0 is.2; choice = is.1 }) [] octets (service choice octets))
    idle_pair o p false (ConfirmedRequest limits id None choice octets) is = inr (server.server_abort c OTHER ∷ [], refl, refl)
    idle_pair o p free (ConfirmedRequest limits id (Some g) choice octets) is = go (nat_eq g.number 0) free
      where
        d : ServerTransaction
        d = server.begins c choice limits None

        t : Taking
        t = takes (incoming c.settings.window g.window) g.number g.more octets

        at : Option ServerTransaction → (b f : Bool) → Reaction
        at q b f = if not b then server.rests q [] else if f then server.request_segment_taken c service d g.number (incoming c.settings.window g.window).window t
            else server.rests q (server.server_abort c OTHER ∷ [])

        go : (b f : Bool) → AreOne (IsFor ask) (at o b f) (at p b f) ⊎ BothRest o p (at o b f) (at p b f)
        go true true = inl (refl, taken_for d (record { request = kept_none is.0; choice = is.1 }) g.number (incoming c.settings.window g.window).window t)
        go true false = inr (server.server_abort c OTHER ∷ [], refl, refl)
        go false f = inr ([], refl, refl)
    idle_pair o p free _ is = inr ([], refl, refl)

    stays_for : (e : ServerTransaction) (o : Option ServerTransaction) → IsFor ask e → StaysIn e o → EntryIs (IsFor ask) o
    stays_for e None h s = absurd s
    stays_for e (Some d) h s = record { request = s.0.request ∙ h.request; choice = s.0.choice ∙ h.choice }

    -- What comes for an ask that is no read in one APDU makes the same of it with and without reuse.
    module _ (reads : Reads) (old : (reads ask.choice ≡ false) ⊎ (ask.whole ≡ false)) where
      not_read : ask.whole ≡ true → reads ask.choice ≡ false
      not_read whole = go old
        where
          go : (reads ask.choice ≡ false) ⊎ (ask.whole ≡ false) → reads ask.choice ≡ false
          go (inl never) = never
          go (inr parts) = absurd (let no : true ≡ false = sym whole ∙ parts in cc)

      pub idle_same : (o : Option ServerTransaction) (free : Bool) (a : Apdu) → IsRequestOf ask a
          → idle_reusing c service reads o free a ≡ server.idle_on_apdu c service o free a
      idle_same o free (ConfirmedRequest limits id None choice octets) is =
          ap (λ b. if b then idle_on_read c service o free choice limits octets
          else server.idle_on_request c service o free choice limits octets) (ap reads is.1 ∙ not_read is.0)
      idle_same o free (ConfirmedRequest limits id (Some segment) choice octets) is = refl
      idle_same o free _ is = refl

      kept_is : (e : ServerTransaction) → IsFor ask e → (choice : ℕ) (octets : Octets) → ask.whole ≡ true → choice ≡ ask.choice → octets ≡ join ask.pieces
          → is_kept e e.request choice octets ≡ true
      kept_is e is choice octets whole same contents =
          let request : e.request ≡ Some octets =
          is.request ∙ ap (λ b. if b then Some (join ask.pieces) else None) whole ∙ ap (λ (y : Octets). Some y) (sym contents) in
          let equal : choice ≡ e.choice = same ∙ sym is.choice in
          let test : nat_eq choice e.choice ≡ true = grind (arith, nat_tests) in
          ap (λ y. is_kept e y choice octets) request ∙ ap (λ b. b && bytes_eq octets octets) test ∙ (bytes_eq-Decides octets octets).1 refl

      -- a segment 0 is the first piece of the ask's request, where the entry keeps that
      first_is : (e : ServerTransaction) → FirstFits ask e.first → IsFor ask e → (choice : ℕ) (segment : Segment) (octets : Octets) → ask.whole ≡ false
          → choice ≡ ask.choice → IsPieceOf ask.pieces segment octets → segment.number ≡ 0 → is_other_first e e.first choice octets ≡ false
      first_is e (inl none) is choice segment octets whole chosen piece zero =
          ap (λ (y : Option Octets). is_other_first e y choice octets) none
          ∙ ap is_some (is.request ∙ ap (λ b. if b then Some (join ask.pieces) else None) whole)
      first_is e (inr first) is choice segment octets whole chosen piece zero =
          ap (λ (y : Option Octets). is_other_first e y choice octets) first ∙ go (nat_le (length ask.pieces) 256) refl
        where
          go : (b : Bool) → nat_le (length ask.pieces) 256 ≡ b → is_other_first e (if b then Some (piece_at ask.pieces 0) else None) choice octets ≡ false
          go false many = ap is_some (is.request ∙ ap (λ b. if b then Some (join ask.pieces) else None) whole)
          go true few =
              let small : length ask.pieces ≤ 256 = grind (arith, nat_tests) in
              let within = piece.1.within in
              let number = piece.1.number_is in
              let start : piece.0 ≡ 0 = omega (arith, within, number, zero, small) in
              let same : octets ≡ piece_at ask.pieces 0 = piece.1.octets_is ∙ ap (λ (n : ℕ). piece_at ask.pieces n) start in
              let equal : choice ≡ e.choice = chosen ∙ sym is.choice in
              let test : nat_eq choice e.choice ≡ true = grind (arith, nat_tests) in
              ap (λ b. not (b && bytes_eq octets (piece_at ask.pieces 0))) test ∙ ap not ((bytes_eq-Decides octets (piece_at ask.pieces 0)).1 same)

      none_and : (a b : Bool) → (a && false) && b ≡ false
      none_and true b = refl
      none_and false b = refl

      -- the entry is of no read in one APDU
      no_whole_read : (e : ServerTransaction) → IsFor ask e → (b : Bool) → is_of_whole_read reads e && b ≡ false
      no_whole_read e is b = go old
        where
          go : (reads ask.choice ≡ false) ⊎ (ask.whole ≡ false) → is_of_whole_read reads e && b ≡ false
          go (inl never) = ap (λ x. (x && is_some e.request) && b) (ap reads is.choice ∙ never)
          go (inr parts) =
              ap (λ x. (reads e.choice && x) && b) (ap is_some (is.request ∙ ap (λ w. if w then Some (join ask.pieces) else None) parts))
              ∙ none_and (reads e.choice) b

      pub live_same : (e : ServerTransaction) (free : Bool) → is_live c.now e ≡ true → FirstFits ask e.first → IsFor ask e → (a : Apdu) → IsRequestOf ask a
          → reusing_on_apdu c service reads (Some e) free a ≡ server_on_apdu c service (Some e) free a
      live_same e free live first is (ConfirmedRequest limits id None choice octets) of =
          goes_on_as_ever.kept c service reads e free limits id choice octets live (ap reads of.1 ∙ not_read of.0) (kept_is e is choice octets of.0 of.1 of.2)
      live_same e free live first is (ConfirmedRequest limits id (Some segment) choice octets) of =
          goes_on_as_ever.segments c service reads e free limits id choice segment octets live (first_is e first is choice segment octets of.0 of.1 of.2)
      live_same e free live first is (UnconfirmedRequest choice octets) of = goes_on_where c service reads e free live (UnconfirmedRequest choice octets) refl
      live_same e free live first is (SimpleAck id choice) of = goes_on_where c service reads e free live (SimpleAck id choice) refl
      live_same e free live first is (ComplexAck id segment choice octets) of =
          goes_on_where c service reads e free live (ComplexAck id segment choice octets) refl
      live_same e free live first is (SegmentAck true id ack) of = goes_on_where c service reads e free live (SegmentAck true id ack) refl
      live_same e free live first is (SegmentAck false id ack) of =
          goes_on_where c service reads e free live (SegmentAck false id ack) (no_whole_read e is (is_acknowledged_by e.state ack.number))
      live_same e free live first is (Error id choice class code) of = goes_on_where c service reads e free live (Error id choice class code) refl
      live_same e free live first is (Reject id reason) of = goes_on_where c service reads e free live (Reject id reason) refl
      live_same e free live first is (Abort true id reason) of = goes_on_where c service reads e free live (Abort true id reason) refl
      live_same e free live first is (Abort false id reason) of =
          goes_on_where c service reads e free live (Abort false id reason) (no_whole_read e is (goes_in_segments e.state))

    pub live_for : (e : ServerTransaction) (free : Bool) → is_live c.now e ≡ true → IsFor ask e → (a : Apdu)
        → EntryIs (IsFor ask) (server_on_apdu c service (Some e) free a).entry
    live_for e free live is a = stays_for e (server_on_apdu c service (Some e) free a).entry is (live_stays_law.gets c service e free a live)

    pub ticks_for : (e : ServerTransaction) → is_live c.now e ≡ true → IsFor ask e → EntryIs (IsFor ask) (server_ticks c (Some e)).entry
    ticks_for e live is = stays_for e (server_ticks c (Some e)).entry is (live_stays_law.ticks c e live)

  -- A reply in segments.

  still_gives : (out : Outgoing) (transfer : Transfer) (since : ℕ) (new : State) → StateStays (SegmentedResponse out transfer since) new → IsGiving new
  still_gives out transfer since (State.SegmentedRequest inc at) t = t
  still_gives out transfer since (Done kept) t = t
  still_gives out transfer since (SegmentedResponse next other at) t = tt
  still_gives out transfer since Dropped t = t

  -- it stays, and began when it did
  abbrev pub GoesOnFrom : ServerTransaction → ServerTransaction → Type 0
  GoesOnFrom e d = (d.begin ≡ e.begin) × IsGiving d.state

  giving_stays : (e : ServerTransaction) (st : State) → e.state ≡ st → IsGiving st → (o : Option ServerTransaction) → StaysIn e o → EntryIs (GoesOnFrom e) o
  giving_stays e st is h None s = absurd s
  giving_stays e (State.SegmentedRequest inc at) is h (Some d) s = absurd h
  giving_stays e (Done kept) is h (Some d) s = absurd h
  giving_stays e (SegmentedResponse out transfer since) is h (Some d) s =
      (s.0.begin, still_gives out transfer since d.state (subst (λ (x : State). StateStays x d.state) is s.1))
  giving_stays e Dropped is h (Some d) s = absurd h

  pub gets_gives : (e : ServerTransaction) (free : Bool) (a : Apdu) → is_live c.now e ≡ true → IsGiving e.state
      → EntryIs (GoesOnFrom e) (server_on_apdu c service (Some e) free a).entry
  gets_gives e free a live h = giving_stays e e.state refl h (server_on_apdu c service (Some e) free a).entry (live_stays_law.gets c service e free a live)

  pub ticks_gives : (e : ServerTransaction) → is_live c.now e ≡ true → IsGiving e.state → EntryIs (GoesOnFrom e) (server_ticks c (Some e)).entry
  ticks_gives e live h = giving_stays e e.state refl h (server_ticks c (Some e)).entry (live_stays_law.ticks c e live)

  not_receiving : (st : State) → IsGiving st → IsSegmentedRequest st → ⊥
  not_receiving (State.SegmentedRequest inc at) h r = h
  not_receiving (Done kept) h r = r
  not_receiving (SegmentedResponse out transfer since) h r = r
  not_receiving Dropped h r = r

  -- it performs nothing
  pub gives_quiet : (e : ServerTransaction) (free : Bool) (a : Apdu) → is_live c.now e ≡ true → IsGiving e.state
      → (server_on_apdu c service (Some e) free a).effect ≡ None
  gives_quiet e free a live h = go (server_on_apdu c service (Some e) free a).effect refl
    where
      none : MayPerform c.now (Some e) → ⊥
      none (inl dead) = let no : true ≡ false = sym live ∙ dead in cc
      none (inr receiving) = not_receiving e.state h receiving

      go : (o : Option Effect) → (server_on_apdu c service (Some e) free a).effect ≡ o → o ≡ None
      go None is = refl
      go (Some x) is = absurd (none (effects_are_kept.gets c service (Some e) free a x is).before)

  -- how its transfer comes to be over: the last of its pieces was acknowledged, or its client gave up
  abbrev pub EndsBy : Apdu → (before : Transfer) → Outgoing → Type 0
  EndsBy a before out = (is_finished out ≡ true) ⊎ (IsClientAbort a ⊎ (is_transfer_over before ≡ true))

  abbrev pub OverBy : Apdu → (before : Transfer) → State → Type 0
  OverBy a before (SegmentedResponse out transfer since) = is_transfer_over transfer ≡ true → EndsBy a before out
  OverBy a before _ = Unit {0}

  module _ (e : ServerTransaction) (out : Outgoing) (transfer : Transfer) (since : ℕ) (at : e.state ≡ SegmentedResponse out transfer since) (a : Apdu) where
    rests_over : EntryIs (λ d. OverBy a transfer d.state) (Some e)
    rests_over = subst (λ (st : State). OverBy a transfer st) (sym at) (λ over. inr (inr over))

    window_over : (next : Outgoing) → EntryIs (λ d. OverBy a transfer d.state) (server.sends_reply_window c e next).entry
    window_over next = λ over. absurd (let no : false ≡ true = over in cc)

    resumes_over : (other : Transfer) → EntryIs (λ d. OverBy a transfer d.state) (server.resumes c e out other).entry
    resumes_over Running = rests_over
    resumes_over Stopped = window_over (resume out)
    resumes_over Finished = rests_over

    moves_over : (o : Option Outgoing) → EntryIs (λ d. OverBy a transfer d.state) (server.moves_reply_window c e o).entry
    moves_over None = rests_over
    moves_over (Some next) = go (is_finished next) refl
      where
        go : (b : Bool) → is_finished next ≡ b → EntryIs (λ d. OverBy a transfer d.state)
            (if b then server.becomes e (SegmentedResponse next Finished c.now) [] else server.sends_reply_window c e next).entry
        go true is = λ over. inl is
        go false is = window_over next

    ack_over : (other : Transfer) (number window : ℕ) → EntryIs (λ d. OverBy a transfer d.state) (server.segmented_response_on_ack c e out other number window).entry
    ack_over Running number window = moves_over (acknowledged c.settings.window out number window)
    ack_over Stopped number window = rests_over
    ack_over Finished number window = rests_over

  response_over : (e : ServerTransaction) (out : Outgoing) (transfer : Transfer) (since : ℕ) → e.state ≡ SegmentedResponse out transfer since → (a : Apdu)
      → EntryIs (λ d. OverBy a transfer d.state) (server.segmented_response_on_apdu c e out transfer since a).entry
  response_over e out transfer since at (ConfirmedRequest limits id None choice octets) = go (is_kept e e.request choice octets)
    where
      go : (b : Bool) → EntryIs (λ d. OverBy (ConfirmedRequest limits id None choice octets) transfer d.state)
          (if b then server.resumes c e out transfer else server.rests (Some e) (server.server_abort c OTHER ∷ [])).entry
      go true = resumes_over e out transfer since at (ConfirmedRequest limits id None choice octets) transfer
      go false = rests_over e out transfer since at (ConfirmedRequest limits id None choice octets)
  response_over e out transfer since at (ConfirmedRequest limits id (Some segment) choice octets) = go (is_some e.request)
    where
      go : (b : Bool) → EntryIs (λ d. OverBy (ConfirmedRequest limits id (Some segment) choice octets) transfer d.state)
          (if b then server.rests (Some e) (server.server_abort c OTHER ∷ []) else server.resumes c e out transfer).entry
      go true = rests_over e out transfer since at (ConfirmedRequest limits id (Some segment) choice octets)
      go false = resumes_over e out transfer since at (ConfirmedRequest limits id (Some segment) choice octets) transfer
  response_over e out transfer since at (UnconfirmedRequest choice octets) = rests_over e out transfer since at (UnconfirmedRequest choice octets)
  response_over e out transfer since at (SimpleAck id choice) = rests_over e out transfer since at (SimpleAck id choice)
  response_over e out transfer since at (ComplexAck id segment choice octets) = rests_over e out transfer since at (ComplexAck id segment choice octets)
  response_over e out transfer since at (SegmentAck true id ack) = rests_over e out transfer since at (SegmentAck true id ack)
  response_over e out transfer since at (SegmentAck false id ack) = ack_over e out transfer since at (SegmentAck false id ack) transfer ack.number ack.window
  response_over e out transfer since at (Error id choice class code) = rests_over e out transfer since at (Error id choice class code)
  response_over e out transfer since at (Reject id reason) = rests_over e out transfer since at (Reject id reason)
  response_over e out transfer since at (Abort true id reason) = rests_over e out transfer since at (Abort true id reason)
  response_over e out transfer since at (Abort false id reason) = λ over. inr (inl tt)

  pub gets_over : (e : ServerTransaction) (out : Outgoing) (transfer : Transfer) (since : ℕ) → e.state ≡ SegmentedResponse out transfer since
      → is_live c.now e ≡ true → (free : Bool) (a : Apdu) → EntryIs (λ d. OverBy a transfer d.state) (server_on_apdu c service (Some e) free a).entry
  gets_over e out transfer since at live free a = subst (λ (v : Reaction). EntryIs (λ d. OverBy a transfer d.state) v.entry) (sym same)
      (response_over e out transfer since at a)
    where
      same : server_on_apdu c service (Some e) free a ≡ server.segmented_response_on_apdu c e out transfer since a
      same = ap (λ b. if b then server.live_on_apdu c service e e.state a else server.idle_on_apdu c service (Some e) free a) live
          ∙ ap (λ (st : State). server.live_on_apdu c service e st a) at

  -- a tick ends none
  pub ticks_over : (e : ServerTransaction) (out : Outgoing) (transfer : Transfer) (since : ℕ) → e.state ≡ SegmentedResponse out transfer since
      → is_live c.now e ≡ true → (a : Apdu) → EntryIs (λ d. OverBy a transfer d.state) (server_ticks c (Some e)).entry
  ticks_over e out transfer since at live a = subst (λ (v : Reaction). EntryIs (λ d. OverBy a transfer d.state) v.entry) (sym same) (go transfer at)
    where
      same : server_ticks c (Some e) ≡ server.live_ticks c e (SegmentedResponse out transfer since)
      same = ap (λ b. if b then server.live_ticks c e e.state else server.rests (Some e) []) live ∙ ap (λ (st : State). server.live_ticks c e st) at

      go : (t : Transfer) → e.state ≡ SegmentedResponse out t since → EntryIs (λ d. OverBy a t d.state) (server.live_ticks c e (SegmentedResponse out t since)).entry
      go Running at = due (nat_le T_SEG (c.now - since))
        where
          sent : (b : Bool) → EntryIs (λ d. OverBy a Running d.state)
              (server.sends_reply_again c e out since (if b then None else Some (record out { retries = out.retries - 1 }))).entry
          sent true = λ over. absurd (let no : false ≡ true = over in cc)
          sent false = window_over e out Running since at a (record out { retries = out.retries - 1 })

          due : (b : Bool) → EntryIs (λ d. OverBy a Running d.state) (if b then server.sends_reply_again c e out since (again out) else server.rests (Some e) []).entry
          due true = sent (nat_eq out.retries 0)
          due false = rests_over e out Running since at a
      go Stopped at = rests_over e out Stopped since at a
      go Finished at = rests_over e out Finished since at a
