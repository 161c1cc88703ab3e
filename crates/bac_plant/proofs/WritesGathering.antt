-- An entry that gathers the segments of a request keeps no request that came without SEG: the server's machine of either setting leaves none other.
use Rattle.std.proofs.Common.{◌≡◌, ℕ, ◌⊎◌, Bool, true, false, not, List, [], ◌∷◌, Option, Some, None, if◌then◌else◌, nat_eq}
use Rattle.std.proofs.Common.{refl, sym, ap, subst, inl, inr, ◌∙◌}
use Rattle.bac_apdu.specs.Apdu.{Apdu, Limits, Segment}
use Rattle.bac_apdu.specs.Apdu.Apdu.{ConfirmedRequest}
use Rattle.bac_segment.specs.Pieces.{join}
use Rattle.bac_segment.specs.Window.{Incoming, Taking, incoming, takes}
use Rattle.bac_segment.specs.Window.Taking.{Nak, Taken, TooLong, Whole}
use Rattle.bac_protocol.specs.Context.{Context}
use Rattle.bac_protocol.specs.Reuse.{ends_entry, has_transfer, idle_on_read, idle_reusing, left_on_apdu, reads_so, server_hears}
use Rattle.bac_protocol.specs.Server as server
use Rattle.bac_protocol.specs.Server.{Reaction, ServerTransaction, Service, State, is_live, is_none_live, server_on_apdu, server_ticks}
use Rattle.bac_protocol.specs.Server.State.{Done, Dropped, SegmentedResponse}
use Rattle.bac_protocol.specs.Service.{OTHER, Octets, Outcome, Reply}
use Rattle.bac_protocol.specs.Service.Outcome.{Rejects, Replies}
use Rattle.bac_protocol.specs.Sizes.{Way, reply_way_of}
use Rattle.bac_protocol.specs.Sizes.Way.{InOne, InSegments, Refused}
use Rattle.bac_protocol.specs.Steps.{IsSegmentedRequest, StateStays, StaysIn}
use Rattle.bac_protocol.proofs.Served.{live_stays_law}
use Rattle.bac_transaction.specs.Ends.{entry_or}
use Rattle.bac_transaction.specs.Reuse.{is_read}

abbrev pub GathersNoWhole : ServerTransaction → Type 0
GathersNoWhole e = IsSegmentedRequest e.state → e.request ≡ None

-- the same of an entry, if any
abbrev pub NoneWholeIn : Option ServerTransaction → Type 0
NoneWholeIn None = Unit {0}
NoneWholeIn (Some e) = GathersNoWhole e

-- A live entry stays, with its request, and begins to gather nothing.

decide_gathers : (s : State) → IsSegmentedRequest s ⊎ (IsSegmentedRequest s → ⊥)
decide_gathers (State.SegmentedRequest inc since) = inl tt
decide_gathers (Done kept) = inr (λ more. more)
decide_gathers (SegmentedResponse out transfer since) = inr (λ more. more)
decide_gathers Dropped = inr (λ more. more)

pub gathers_none : (old new : State) → (IsSegmentedRequest old → ⊥) → StateStays old new → IsSegmentedRequest new → ⊥
gathers_none (State.SegmentedRequest inc since) new none stays more = none tt
gathers_none (Done kept) new none stays more = subst IsSegmentedRequest stays more
gathers_none (SegmentedResponse out transfer since) (State.SegmentedRequest inc t) none stays more = stays
gathers_none (SegmentedResponse out transfer since) (Done kept) none stays more = more
gathers_none (SegmentedResponse out transfer since) (SegmentedResponse next going t) none stays more = more
gathers_none (SegmentedResponse out transfer since) Dropped none stays more = more
gathers_none Dropped new none stays more = subst IsSegmentedRequest stays more

stays_so : (e : ServerTransaction) (o : Option ServerTransaction) → GathersNoWhole e → StaysIn e o → NoneWholeIn o
stays_so e None was stays = tt
stays_so e (Some d) was stays = go (decide_gathers e.state)
  where
    go : IsSegmentedRequest e.state ⊎ (IsSegmentedRequest e.state → ⊥) → GathersNoWhole d
    go (inl gathers) = λ more. stays.0.request ∙ was gathers
    go (inr none) = λ more. absurd (gathers_none e.state d.state none stays.1 more)

-- An APDU comes.

-- it may end the entry
pub ended_so : (o : Option ServerTransaction) → NoneWholeIn o → (b : Bool) → NoneWholeIn (if b then None else o)
ended_so o was true = tt
ended_so o was false = was

module _ (c : Context) (service : Service) where
  reply_so : (e : ServerTransaction) (sends : List Apdu) (octets : Octets) (reply : Reply) (way : Way ℕ)
      → NoneWholeIn (server.sends_reply c e sends octets reply way).entry
  reply_so e sends octets reply InOne = λ more. absurd more
  reply_so e sends octets reply (InSegments pieces) = λ more. absurd more
  reply_so e sends octets reply (Refused reason) = λ more. absurd more

  outcome_so : (e : ServerTransaction) (sends : List Apdu) (octets : Octets) (o : Outcome) → NoneWholeIn (server.performs_so c e sends octets o).entry
  outcome_so e sends octets (Replies reply) = reply_so e sends octets reply (reply_way_of c.settings e.limits reply)
  outcome_so e sends octets (Rejects reason) = λ more. absurd more

  performed_so : (e : ServerTransaction) (sends : List Apdu) (octets : Octets) → NoneWholeIn (server.performs c service e sends octets).entry
  performed_so e sends octets = outcome_so e sends octets (service e.choice octets)

  taken_so : (e : ServerTransaction) → e.request ≡ None → (number window : ℕ) (taking : Taking)
      → NoneWholeIn (server.request_segment_taken c service e number window taking).entry
  taken_so e none number window (Taken true inc) = λ more. none
  taken_so e none number window (Taken false inc) = λ more. none
  taken_so e none number window (Whole parts) =
      performed_so (server.keeps_first parts e) (server.server_ack c false number window ∷ []) (join parts)
  taken_so e none number window (Nak inc) = λ more. none
  taken_so e none number window TooLong = λ more. absurd more

  module _ (dead : Option ServerTransaction) (was : NoneWholeIn dead) (free : Bool) where
    request_so : (choice : ℕ) (limits : Limits) (octets : Octets) → NoneWholeIn (server.idle_on_request c service dead free choice limits octets).entry
    request_so choice limits octets = go free
      where
        go : (b : Bool) → NoneWholeIn (if b then server.performs c service (server.begins c choice limits (Some octets)) [] octets
            else server.rests dead (server.server_abort c OTHER ∷ [])).entry
        go true = performed_so (server.begins c choice limits (Some octets)) [] octets
        go false = was

    segment_so : (choice : ℕ) (limits : Limits) (g : Segment) (octets : Octets)
        → NoneWholeIn (server.idle_on_segment c service dead free choice limits g octets).entry
    segment_so choice limits g octets = go (not (nat_eq g.number 0)) free
      where
        inc : Incoming
        inc = incoming c.settings.window g.window

        taken : Reaction
        taken = server.request_segment_taken c service (server.begins c choice limits None) g.number inc.window (takes inc g.number g.more octets)

        go : (b d : Bool)
            → NoneWholeIn (if b then server.rests dead [] else if d then taken else server.rests dead (server.server_abort c OTHER ∷ [])).entry
        go true d = was
        go false true = taken_so (server.begins c choice limits None) refl g.number inc.window (takes inc g.number g.more octets)
        go false false = was

    idle_so : (a : Apdu) → NoneWholeIn (server.idle_on_apdu c service dead free a).entry
    idle_so (ConfirmedRequest limits id None choice octets) = request_so choice limits octets
    idle_so (ConfirmedRequest limits id (Some g) choice octets) = segment_so choice limits g octets
    idle_so _ = was

    read_so : (r : Reaction) → NoneWholeIn r.entry → NoneWholeIn (reads_so c dead free r).entry
    read_so r so = go (has_transfer r.entry) free
      where
        go : (b d : Bool) → NoneWholeIn (if b then (if d then r else server.rests dead (server.server_abort c OTHER ∷ []))
            else record { entry = dead; sends = r.sends; effect = r.effect }).entry
        go true true = so
        go true false = was
        go false d = was

    reusing_so : (a : Apdu) → NoneWholeIn (idle_reusing c service is_read dead free a).entry
    reusing_so (ConfirmedRequest limits id None choice octets) = go (is_read choice)
      where
        go : (b : Bool) → NoneWholeIn (if b then idle_on_read c service dead free choice limits octets
            else server.idle_on_request c service dead free choice limits octets).entry
        go true = read_so (server.performs c service (server.begins c choice limits (Some octets)) [] octets)
            (performed_so (server.begins c choice limits (Some octets)) [] octets)
        go false = request_so choice limits octets
    reusing_so (ConfirmedRequest limits id (Some g) choice octets) = segment_so choice limits g octets
    reusing_so _ = was

  gets_so : (o : Option ServerTransaction) → NoneWholeIn o → (free : Bool) (a : Apdu) → NoneWholeIn (server_on_apdu c service o free a).entry
  gets_so None was free a = idle_so None tt free a
  gets_so (Some e) was free a = go (is_live c.now e) refl
    where
      go : (b : Bool) → is_live c.now e ≡ b → NoneWholeIn (server_on_apdu c service (Some e) free a).entry
      go true live = stays_so e (server_on_apdu c service (Some e) free a).entry was (live_stays_law.gets c service e free a live)
      go false dead = subst (λ (v : Reaction). NoneWholeIn v.entry)
          (sym (ap (λ b. if b then server.live_on_apdu c service e e.state a else server.idle_on_apdu c service (Some e) free a) dead))
          (idle_so (Some e) was free a)

  left_so : (o : Option ServerTransaction) → NoneWholeIn o → (free : Bool) (a : Apdu) → NoneWholeIn (left_on_apdu c service is_read o free a).entry
  left_so o was free a = go (is_none_live c.now o)
    where
      go : (b : Bool) → NoneWholeIn (if b then idle_reusing c service is_read o free a else server_on_apdu c service o free a).entry
      go true = reusing_so o was free a
      go false = gets_so o was free a

  pub hears_none_whole : (reuse : Bool) (o : Option ServerTransaction) → NoneWholeIn o → (free : Bool) (a : Apdu)
      → NoneWholeIn (server_hears reuse c service is_read o free a).entry
  hears_none_whole true o was free a =
      left_so (if ends_entry is_read c.now o a then None else o) (ended_so o was (ends_entry is_read c.now o a)) free a
  hears_none_whole false o was free a = gets_so o was free a

-- A tick.
module _ (c : Context) (e : ServerTransaction) (was : GathersNoWhole e) where
  or_so : (o : Option ServerTransaction) → NoneWholeIn o → GathersNoWhole (entry_or e o)
  or_so None so = was
  or_so (Some d) so = so

  pub ticks_none_whole : GathersNoWhole (entry_or e (server_ticks c (Some e)).entry)
  ticks_none_whole = or_so (server_ticks c (Some e)).entry (go (is_live c.now e) refl)
    where
      go : (b : Bool) → is_live c.now e ≡ b → NoneWholeIn (server_ticks c (Some e)).entry
      go true live = stays_so e (server_ticks c (Some e)).entry was (live_stays_law.ticks c e live)
      go false dead = subst (λ (v : Reaction). NoneWholeIn v.entry)
          (sym (ap (λ b. if b then server.live_ticks c e e.state else server.rests (Some e) []) dead)) was
