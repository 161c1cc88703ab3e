-- What comes of a read in one APDU at a server that lets invoke IDs be used again.
use Rattle.std.proofs.Common.{◌≡◌, ℕ, ◌⊎◌, Bool, true, false, ◌&&◌, ◌||◌, not, List, [], ◌∷◌, Option, Some, None, if◌then◌else◌, nat_eq, refl, ap, sym, subst, inl, inr, ◌∙◌}
use Rattle.bac_apdu.specs.Apdu.{Apdu, Limits, Segment}
use Rattle.bac_apdu.specs.Apdu.Apdu.{ConfirmedRequest, UnconfirmedRequest, SimpleAck, ComplexAck, SegmentAck, Error, Reject, Abort}
use Rattle.bac_segment.specs.Pieces.{join}
use Rattle.bac_segment.specs.Window.{incoming, takes}
use Rattle.bac_protocol.specs.Context.{Context}
use Rattle.bac_protocol.specs.Service.{OTHER, Octets, Outcome, Reply as reply}
use Rattle.bac_protocol.specs.Service.Outcome.{Replies, Rejects}
use Rattle.bac_protocol.specs.Sizes.{Way, reply_way_of}
use Rattle.bac_protocol.specs.Sizes.Way.{InOne, InSegments, Refused}
use Rattle.bac_protocol.specs.Wire.{Each, is_from_client, is_from_server}
use Rattle.bac_protocol.specs.Client.{Ask, request_of}
use Rattle.bac_protocol.specs.Own.{IsOfServer, IsOwnEntry, StateHas}
use Rattle.bac_protocol.specs.Server as server
use Rattle.bac_protocol.specs.Server.{Effect, Reaction, ServerTransaction, Service, State, begins, is_kept, is_live, is_none_live, performs_so, server_on_apdu}
use Rattle.bac_protocol.specs.Server.State.{Done, SegmentedResponse, Dropped}
use Rattle.bac_protocol.specs.Reuse.{Reads, ends_entry, entry_left, has_transfer, idle_on_read, idle_reusing, is_ended_by, is_over, left_on_apdu, reads_so}
use Rattle.bac_protocol.specs.Reuse.{reusing_on_apdu, server_hears}
use Rattle.bac_protocol.proofs.Facts.{all_map}
use Rattle.bac_protocol.proofs.Own.{server_sends_own}
use Rattle.bac_protocol.proofs.Reused.{ends_where, goes_on_where}
use Rattle.bac_protocol.proofs.Served.{IsServed, gets_served}
use Rattle.bac_reuse.proofs.Machine.{EntryIs, GoesOnFrom, IsGiving, IsRequestOf, OverIf, gets_gives, gives_quiet}

-- an APDU that no client sends
abbrev pub IsFromServer : Apdu → Type 0
IsFromServer a = is_from_client a ≡ false

pub not_both : (a : Apdu) → is_from_server a ≡ true → is_from_client a ≡ false
not_both (ConfirmedRequest limits i g choice o) h = absurd cc
not_both (UnconfirmedRequest choice o) h = absurd cc
not_both (SimpleAck i choice) h = refl
not_both (ComplexAck i g choice o) h = refl
not_both (SegmentAck true i ack) h = refl
not_both (SegmentAck false i ack) h = absurd cc
not_both (Error i choice class code) h = refl
not_both (Reject i reason) h = refl
not_both (Abort true i reason) h = refl
not_both (Abort false i reason) h = absurd cc

pub all_from_server : (id : ℕ) (sends : List Apdu) → Each (IsOfServer id) sends → Each IsFromServer sends
all_from_server id sends h = all_map (IsOfServer id) IsFromServer (λ a is. not_both a is.0) sends h

-- an effect is of that ask's request, with the reply that the service gives
abbrev pub IsOfRead : Service → Ask → Option Effect → Type 0
IsOfRead service ask None = Unit {0}
IsOfRead service ask (Some y) = (y.request ≡ request_of ask) × (service y.request.choice y.request.service ≡ Replies y.reply)

-- an answer of one APDU is the reply of that effect, or without one a refusal
abbrev pub IsGivenBy : Context → Ask → Option Effect → Apdu → Type 0
IsGivenBy c ask None (Reject id reason) = Unit {0}
IsGivenBy c ask None (Abort true id reason) = Unit {0}
IsGivenBy c ask None _ = ⊥
IsGivenBy c ask (Some y) a = a ≡ server.reply_apdu c ask.choice y.reply

-- a read that is answered with one APDU leaves the entry that was
pub record IsFreshRead (c : Context) (service : Service) (ask : Ask) (o : Option ServerTransaction) (v : Reaction) : Type 0 where
  pub answer : Apdu
  pub effect : Option Effect
  pub is : v ≡ record { entry = o; sends = answer ∷ []; effect = effect }
  pub of : IsOfRead service ask effect
  pub given : IsGivenBy c ask effect answer

-- one whose reply goes in segments begins an entry
abbrev pub BeginsNow : Context → ServerTransaction → Type 0
BeginsNow c d = (d.begin ≡ c.now) × IsGiving d.state × OverIf ⊥ d.state

pub record BeginsRead (c : Context) (service : Service) (ask : Ask) (free : Bool) (v : Reaction) : Type 0 where
  pub is_free : free ≡ true
  pub entry : EntryIs (BeginsNow c) v.entry
  pub sends : Each IsFromServer v.sends
  pub of : IsOfRead service ask v.effect

-- where no entry counts any more
pub record GoesAlone (c : Context) (service : Service) (ask : Ask) (free : Bool) (begin : ℕ) (v : Reaction) : Type 0 where
  pub sends : Each IsFromServer v.sends
  pub of : IsOfRead service ask v.effect
  pub entry : (v.entry ≡ None) ⊎ EntryIs (λ d. IsGiving d.state × ((d.begin ≡ begin) ⊎ ((d.begin ≡ c.now) × (free ≡ true)))) v.entry

reply_from_server : (c : Context) (choice : ℕ) (p : reply) → IsFromServer (server.reply_apdu c choice p)
reply_from_server c choice reply.Simple = refl
reply_from_server c choice (reply.Complex octets) = refl
reply_from_server c choice (reply.Error class code) = refl

pub given_from_server : (c : Context) (ask : Ask) (o : Option Effect) (a : Apdu) → IsGivenBy c ask o a → IsFromServer a
given_from_server c ask None (Reject id reason) h = refl
given_from_server c ask None (Abort true id reason) h = refl
given_from_server c ask None _ h = absurd h
given_from_server c ask (Some y) a h = subst IsFromServer (sym h) (reply_from_server c ask.choice y.reply)

module _ (c : Context) (service : Service) (ask : Ask) where
  module _ (choice : ℕ) (limits : Limits) (octets : Octets) (chosen : choice ≡ ask.choice) (same : octets ≡ join ask.pieces) (o : Option ServerTransaction) where
    abbrev Goes : (free : Bool) → Reaction → Type 0
    Goes free v = (BeginsRead c service ask free v × ((p : Option ServerTransaction) → server.idle_on_request c service p free choice limits octets ≡ v))
        ⊎ (((v ≡ server.rests o (server.server_abort c OTHER ∷ [])) × (free ≡ false)) ⊎ IsFreshRead c service ask o v)

    of_read : (p : reply) → service choice octets ≡ Replies p → IsOfRead service ask (Some (record { request = record { choice = choice; service = octets }; reply = p }))
    of_read p is = (λ i. record { choice = chosen i; service = same i }, is)

    goes_by_way : (p : reply) → service choice octets ≡ Replies p → (way : Way ℕ) → reply_way_of c.settings limits p ≡ way → (free : Bool)
        → Goes free (reads_so c o free (server.sends_reply c (begins c choice limits (Some octets)) [] octets p way))
    goes_by_way p is InOne by free = inr (inr (record {
      answer = server.reply_apdu c choice p;
      effect = Some (record { request = record { choice = choice; service = octets }; reply = p });
      is = refl;
      of = of_read p is;
      given = ap (λ n. server.reply_apdu c n p) chosen;
    }))
    goes_by_way p is (InSegments pieces) by true = inl (
      record { is_free = refl; entry = (refl, tt, λ over. let no : false ≡ true = over in cc); sends = (refl, tt); of = of_read p is },
      λ q. ap (λ (y : Outcome). performs_so c (begins c choice limits (Some octets)) [] octets y) is
          ∙ ap (λ (y : Way ℕ). server.sends_reply c (begins c choice limits (Some octets)) [] octets p y) by,
    )
    goes_by_way p is (InSegments pieces) by false = inr (inl (refl, refl))
    goes_by_way p is (Refused reason) by free =
        inr (inr (record { answer = server.server_abort c reason; effect = None; is = refl; of = tt; given = tt }))

    goes_by : (y : Outcome) → service choice octets ≡ y → (free : Bool) → Goes free (reads_so c o free (performs_so c (begins c choice limits (Some octets)) [] octets y))
    goes_by (Replies p) is free = goes_by_way p is (reply_way_of c.settings limits p) refl free
    goes_by (Rejects reason) is free =
        inr (inr (record { answer = Reject c.invoke_id reason; effect = None; is = refl; of = tt; given = tt }))

    pub read_goes : (free : Bool) → Goes free (idle_on_read c service o free choice limits octets)
    read_goes free = goes_by (service choice octets) refl free

  module _ (reads : Reads) (read : reads ask.choice ≡ true) (whole : ask.whole ≡ true) where
    -- a request comes where no entry is live
    pub idle_reads : (o : Option ServerTransaction) (free : Bool) (limits : Limits) (id choice : ℕ) (octets : Octets) → choice ≡ ask.choice
        → idle_reusing c service reads o free (ConfirmedRequest limits id None choice octets) ≡ idle_on_read c service o free choice limits octets
    idle_reads o free limits id choice octets chosen =
        ap (λ b. if b then idle_on_read c service o free choice limits octets else server.idle_on_request c service o free choice limits octets)
        (ap reads chosen ∙ read)

    alone_of : (free : Bool) (begin choice : ℕ) (limits : Limits) (octets : Octets) → choice ≡ ask.choice → octets ≡ join ask.pieces
        → GoesAlone c service ask free begin (idle_on_read c service None free choice limits octets)
    alone_of free begin choice limits octets chosen same = go (idle_on_read c service None free choice limits octets) (read_goes choice limits octets chosen same None free)
      where
        there : (o : Option ServerTransaction) → free ≡ true → EntryIs (BeginsNow c) o
            → EntryIs (λ d. IsGiving d.state × ((d.begin ≡ begin) ⊎ ((d.begin ≡ c.now) × (free ≡ true)))) o
        there None is h = absurd h
        there (Some d) is h = (h.1, inr (h.0, is))

        go : (v : Reaction) → (BeginsRead c service ask free v × ((p : Option ServerTransaction) → server.idle_on_request c service p free choice limits octets ≡ v))
            ⊎ (((v ≡ server.rests None (server.server_abort c OTHER ∷ [])) × (free ≡ false)) ⊎ IsFreshRead c service ask None v)
            → GoesAlone c service ask free begin v
        go v (inl h) = record { sends = h.0.sends; of = h.0.of; entry = inr (there v.entry h.0.is_free h.0.entry) }
        go v (inr (inl h)) = subst (GoesAlone c service ask free begin) (sym h.0) (record { sends = (refl, tt); of = tt; entry = inl refl })
        go v (inr (inr h)) = subst (GoesAlone c service ask free begin) (sym h.is)
            (record { sends = (given_from_server c ask h.effect h.answer h.given, tt); of = h.of; entry = inl refl })

    nothing_alone : (free : Bool) (begin : ℕ) → GoesAlone c service ask free begin (server.rests None [])
    nothing_alone free begin = record { sends = tt; of = tt; entry = inl refl }

    -- without an entry
    pub alone_none : (free : Bool) (begin : ℕ) (a : Apdu) → IsRequestOf ask a → GoesAlone c service ask free begin (reusing_on_apdu c service reads None free a)
    alone_none free begin (ConfirmedRequest limits id None choice octets) is =
        subst (GoesAlone c service ask free begin) (sym (idle_reads None free limits id choice octets is.1)) (alone_of free begin choice limits octets is.1 is.2)
    alone_none free begin (ConfirmedRequest limits id (Some segment) choice octets) is = absurd (let no : true ≡ false = sym whole ∙ is.0 in cc)
    alone_none free begin (UnconfirmedRequest choice octets) is = nothing_alone free begin
    alone_none free begin (SimpleAck id choice) is = nothing_alone free begin
    alone_none free begin (ComplexAck id segment choice octets) is = nothing_alone free begin
    alone_none free begin (SegmentAck up id ack) is = nothing_alone free begin
    alone_none free begin (Error id choice class code) is = nothing_alone free begin
    alone_none free begin (Reject id reason) is = nothing_alone free begin
    alone_none free begin (Abort up id reason) is = nothing_alone free begin

    pub giving_own : (id : ℕ) (st : State) → IsGiving st → StateHas (IsOfServer id) (λ window. Unit {0}) st
    giving_own id (State.SegmentedRequest inc since) h = absurd h
    giving_own id (Done kept) h = absurd h
    giving_own id (SegmentedResponse out transfer since) h = tt
    giving_own id Dropped h = absurd h

    -- with an entry that goes on
    going_alone : (e : ServerTransaction) (free : Bool) → is_live c.now e ≡ true → IsGiving e.state → (a : Apdu)
        → GoesAlone c service ask free e.begin (server_on_apdu c service (Some e) free a)
    going_alone e free live gives a = record {
      sends = all_from_server c.invoke_id (server_on_apdu c service (Some e) free a).sends
          (server_sends_own.gets c service (Some e) free a (giving_own c.invoke_id e.state gives)).0;
      of = subst (IsOfRead service ask) (sym (gives_quiet c service e free a live gives)) tt;
      entry = inr (there (server_on_apdu c service (Some e) free a).entry (gets_gives c service e free a live gives));
    }
      where
        there : (o : Option ServerTransaction) → EntryIs (GoesOnFrom c service e) o
            → EntryIs (λ d. IsGiving d.state × ((d.begin ≡ e.begin) ⊎ ((d.begin ≡ c.now) × (free ≡ true)))) o
        there None h = absurd h
        there (Some d) h = (h.1, inl h.0)

    -- with one that is over, which a read ends
    pub ended_read : (e : ServerTransaction) (free : Bool) → is_live c.now e ≡ true → is_over e.state ≡ true → (limits : Limits) (id choice : ℕ) (octets : Octets)
        → choice ≡ ask.choice
        → reusing_on_apdu c service reads (Some e) free (ConfirmedRequest limits id None choice octets) ≡ idle_on_read c service None free choice limits octets
    ended_read e free live over limits id choice octets chosen =
        let a : Apdu = ConfirmedRequest limits id None choice octets in
        ap (λ y. left_on_apdu c service reads (if y && is_ended_by reads e a then None else Some e) free a) live
        ∙ ap (λ y. left_on_apdu c service reads (if y && (reads choice || not (is_kept e e.request choice octets)) then None else Some e) free a) over
        ∙ ap (λ y. left_on_apdu c service reads (if y || not (is_kept e e.request choice octets) then None else Some e) free a) (ap reads chosen ∙ read)
        ∙ idle_reads None free limits id choice octets chosen

    -- with one that is not over
    pub going_read : (e : ServerTransaction) (free : Bool) → is_live c.now e ≡ true → is_over e.state ≡ false → (limits : Limits) (id choice : ℕ) (octets : Octets)
        → reusing_on_apdu c service reads (Some e) free (ConfirmedRequest limits id None choice octets)
        ≡ server_on_apdu c service (Some e) free (ConfirmedRequest limits id None choice octets)
    going_read e free live over limits id choice octets = goes_on_where c service reads e free live (ConfirmedRequest limits id None choice octets)
        (ap (λ y. y && (reads choice || not (is_kept e e.request choice octets))) over)

    -- with one that may end with its reply
    ending_alone : (e : ServerTransaction) (free : Bool) → is_live c.now e ≡ true → IsGiving e.state → (a : Apdu)
        → idle_reusing c service reads None free a ≡ server.rests None [] → GoesAlone c service ask free e.begin (reusing_on_apdu c service reads (Some e) free a)
    ending_alone e free live gives a nothing = go (is_ended_by reads e a) refl
      where
        go : (b : Bool) → is_ended_by reads e a ≡ b → GoesAlone c service ask free e.begin (reusing_on_apdu c service reads (Some e) free a)
        go true ends = subst (GoesAlone c service ask free e.begin) (sym (ends_where c service reads e free live a ends ∙ nothing)) (nothing_alone free e.begin)
        go false stays = subst (GoesAlone c service ask free e.begin) (sym (goes_on_where c service reads e free live a stays)) (going_alone e free live gives a)

    pub alone_some : (e : ServerTransaction) (free : Bool) → is_live c.now e ≡ true → IsGiving e.state → (a : Apdu) → IsRequestOf ask a
        → GoesAlone c service ask free e.begin (reusing_on_apdu c service reads (Some e) free a)
    alone_some e free live gives (ConfirmedRequest limits id None choice octets) is = go (is_over e.state) refl
      where
        go : (b : Bool) → is_over e.state ≡ b → GoesAlone c service ask free e.begin (reusing_on_apdu c service reads (Some e) free (ConfirmedRequest limits id None choice octets))
        go true over = subst (GoesAlone c service ask free e.begin) (sym (ended_read e free live over limits id choice octets is.1))
            (alone_of free e.begin choice limits octets is.1 is.2)
        go false over = subst (GoesAlone c service ask free e.begin) (sym (going_read e free live over limits id choice octets))
            (going_alone e free live gives (ConfirmedRequest limits id None choice octets))
    alone_some e free live gives (ConfirmedRequest limits id (Some segment) choice octets) is = absurd (let no : true ≡ false = sym whole ∙ is.0 in cc)
    alone_some e free live gives (UnconfirmedRequest choice octets) is = subst (GoesAlone c service ask free e.begin)
        (sym (goes_on_where c service reads e free live (UnconfirmedRequest choice octets) refl)) (going_alone e free live gives (UnconfirmedRequest choice octets))
    alone_some e free live gives (SimpleAck id choice) is = subst (GoesAlone c service ask free e.begin)
        (sym (goes_on_where c service reads e free live (SimpleAck id choice) refl)) (going_alone e free live gives (SimpleAck id choice))
    alone_some e free live gives (ComplexAck id segment choice octets) is = subst (GoesAlone c service ask free e.begin)
        (sym (goes_on_where c service reads e free live (ComplexAck id segment choice octets) refl)) (going_alone e free live gives (ComplexAck id segment choice octets))
    alone_some e free live gives (SegmentAck up id ack) is = ending_alone e free live gives (SegmentAck up id ack) refl
    alone_some e free live gives (Error id choice class code) is = subst (GoesAlone c service ask free e.begin)
        (sym (goes_on_where c service reads e free live (Error id choice class code) refl)) (going_alone e free live gives (Error id choice class code))
    alone_some e free live gives (Reject id reason) is = subst (GoesAlone c service ask free e.begin)
        (sym (goes_on_where c service reads e free live (Reject id reason) refl)) (going_alone e free live gives (Reject id reason))
    alone_some e free live gives (Abort up id reason) is = ending_alone e free live gives (Abort up id reason) refl

-- What holds of all that comes of an APDU without reuse, of Aborts, and of a read that leaves the entry that was, holds of all that comes of one with reuse.
pub record IsOfMachine (c : Context) (service : Service) (Has : Option ServerTransaction → Type 0) (Is : Reaction → Type 0) : Type 0 where
  pub none : Has None
  pub gets : (o : Option ServerTransaction) → Has o → (free : Bool) (a : Apdu) → Is (server_on_apdu c service o free a)
  pub rests : (o : Option ServerTransaction) → Has o → (sends : List Apdu) → Is (server.rests o sends)
  pub reads : (o : Option ServerTransaction) → Has o → (v : Reaction) → Is v → Is (record { entry = o; sends = v.sends; effect = v.effect })

module _ (c : Context) (service : Service) (Has : Option ServerTransaction → Type 0) (Is : Reaction → Type 0) (m : IsOfMachine c service Has Is) where
  request_comes : (o : Option ServerTransaction) → Has o → (free : Bool) (choice : ℕ) (limits : Limits) (octets : Octets)
      → Is (server.idle_on_request c service o free choice limits octets)
  request_comes o h true choice limits octets = m.gets None m.none true (ConfirmedRequest limits 0 None choice octets)
  request_comes o h false choice limits octets = m.rests o h (server.server_abort c OTHER ∷ [])

  read_comes : (o : Option ServerTransaction) → Has o → (free : Bool) (choice : ℕ) (limits : Limits) (octets : Octets)
      → Is (idle_on_read c service o free choice limits octets)
  read_comes o h free choice limits octets = go (has_transfer (server.performs c service (begins c choice limits (Some octets)) [] octets).entry) free
    where
      performed : Is (server.performs c service (begins c choice limits (Some octets)) [] octets)
      performed = m.gets None m.none true (ConfirmedRequest limits 0 None choice octets)

      go : (b f : Bool) → Is (if b then (if f then server.performs c service (begins c choice limits (Some octets)) [] octets
          else server.rests o (server.server_abort c OTHER ∷ []))
          else record {
            entry = o;
            sends = (server.performs c service (begins c choice limits (Some octets)) [] octets).sends;
            effect = (server.performs c service (begins c choice limits (Some octets)) [] octets).effect;
          })
      go true true = performed
      go true false = m.rests o h (server.server_abort c OTHER ∷ [])
      go false f = m.reads o h (server.performs c service (begins c choice limits (Some octets)) [] octets) performed

  segment_comes : (o : Option ServerTransaction) → Has o → (free : Bool) (choice : ℕ) (limits : Limits) (g : Segment) (octets : Octets)
      → Is (server.idle_on_segment c service o free choice limits g octets)
  segment_comes o h free choice limits g octets = go (nat_eq g.number 0) refl free
    where
      at : Option ServerTransaction → (b f : Bool) → Reaction
      at q b f = if not b then server.rests q [] else if f then server.request_segment_taken c service (begins c choice limits None) g.number
          (incoming c.settings.window g.window).window (takes (incoming c.settings.window g.window) g.number g.more octets)
          else server.rests q (server.server_abort c OTHER ∷ [])

      go : (b : Bool) → nat_eq g.number 0 ≡ b → (f : Bool) → Is (at o b f)
      go true is true = subst (λ b. Is (at None b true)) is (m.gets None m.none true (ConfirmedRequest limits 0 (Some g) choice octets))
      go true is false = m.rests o h (server.server_abort c OTHER ∷ [])
      go false is f = m.rests o h []

  idle_comes : (reads : Reads) (o : Option ServerTransaction) → Has o → (free : Bool) (a : Apdu) → Is (idle_reusing c service reads o free a)
  idle_comes reads o h free (ConfirmedRequest limits id None choice octets) = go (reads choice)
    where
      go : (b : Bool) → Is (if b then idle_on_read c service o free choice limits octets else server.idle_on_request c service o free choice limits octets)
      go true = read_comes o h free choice limits octets
      go false = request_comes o h free choice limits octets
  idle_comes reads o h free (ConfirmedRequest limits id (Some g) choice octets) = segment_comes o h free choice limits g octets
  idle_comes reads o h free (UnconfirmedRequest choice octets) = m.rests o h []
  idle_comes reads o h free (SimpleAck id choice) = m.rests o h []
  idle_comes reads o h free (ComplexAck id g choice octets) = m.rests o h []
  idle_comes reads o h free (SegmentAck up id ack) = m.rests o h []
  idle_comes reads o h free (Error id choice class code) = m.rests o h []
  idle_comes reads o h free (Reject id reason) = m.rests o h []
  idle_comes reads o h free (Abort up id reason) = m.rests o h []

  left_comes : (reads : Reads) (o : Option ServerTransaction) → Has o → (free : Bool) (a : Apdu) → Is (left_on_apdu c service reads o free a)
  left_comes reads o h free a = go (is_none_live c.now o)
    where
      go : (b : Bool) → Is (if b then idle_reusing c service reads o free a else server_on_apdu c service o free a)
      go true = idle_comes reads o h free a
      go false = m.gets o h free a

  left_has : (o : Option ServerTransaction) → Has o → (b : Bool) → Has (if b then None else o)
  left_has o h true = m.none
  left_has o h false = h

  pub hears_comes : (reuse : Bool) (reads : Reads) (o : Option ServerTransaction) → Has o → (free : Bool) (a : Apdu)
      → Is (server_hears reuse c service reads o free a)
  hears_comes true reads o h free a = left_comes reads (entry_left reads c.now o a) (left_has o h (ends_entry reads c.now o a)) free a
  hears_comes false reads o h free a = m.gets o h free a

-- what is performed has the reply that the service gives
pub hears_served : (c : Context) (service : Service) (reuse : Bool) (reads : Reads) (o : Option ServerTransaction) (free : Bool) (a : Apdu)
    → IsServed service (server_hears reuse c service reads o free a).effect
hears_served c service reuse reads o free a = hears_comes c service (λ q. Unit {0}) (λ v. IsServed service v.effect)
    (record { none = tt; gets = λ q h free a. gets_served c service q free a; rests = λ q h sends. tt; reads = λ q h v is. is }) reuse reads o tt free a

-- what an entry keeps is its own
pub hears_own : (c : Context) (service : Service) (reuse : Bool) (reads : Reads) (o : Option ServerTransaction) → IsOwnEntry c.invoke_id o
    → (free : Bool) (a : Apdu) → IsOwnEntry c.invoke_id (server_hears reuse c service reads o free a).entry
hears_own c service reuse reads o own free a = hears_comes c service (IsOwnEntry c.invoke_id) (λ v. IsOwnEntry c.invoke_id v.entry)
    (record { none = tt; gets = λ q h free a. (server_sends_own.gets c service q free a h).1; rests = λ q h sends. h; reads = λ q h v is. h })
    reuse reads o own free a
