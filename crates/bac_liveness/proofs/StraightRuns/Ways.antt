-- How an accepted ask and a store's reply go.
use Rattle.std.proofs.Common.{◌≡◌, ◌+◌, ◌-◌, ◌≤◌, ℕ, Bool, true, false, List, [], ◌∷◌, length, Option, Some, None, if◌then◌else◌, nat_lt, nat_le, refl, sym, ap}
use Rattle.std.proofs.Common.{subst, ◌∙◌, arith}
use Rattle.std.proofs.lemmas.Bool.Decides.{nat_tests}
use Rattle.bac_apdu.specs.Apdu.{Limits}
use Rattle.bac_npdu.specs.Peers.{PeerView}
use Rattle.bac_service.specs.Choices.{has_simple_ack, has_complex_ack}
use Rattle.bac_service.specs.Values.{Complex, complex_choice_of}
use Rattle.bac_service.specs.Values.Complex.{FileRead, StreamWritten, RecordsWritten, PropertyRead}
use Rattle.bac_service.specs.Replies as plain
use Rattle.bac_service.specs.Spellings.{complex_spelling}
use Rattle.bac_service.proofs.LengthLaws.{length_complex}
use Rattle.bac_segment.specs.Limits.{DATA}
use Rattle.bac_segment.specs.Pieces.{pieces_of}
use Rattle.bac_store.specs.ReplyKinds.{FitsChoice}
use Rattle.bac_store.specs.ReplyLengths.{DATA_LIMIT, reply_length}
use Rattle.bac_protocol.specs.Context.{Settings, Context}
use Rattle.bac_protocol.specs.Sizes.{Way, RequestFault, request_way_of, request_way_of_size, request_way_in_segments, reply_way_of, transfer_size}
use Rattle.bac_protocol.specs.Sizes.Way.{InOne, InSegments, Refused}
use Rattle.bac_protocol.specs.Service as machine
use Rattle.bac_protocol.specs.Service.{Octets, Readable}
use Rattle.bac_protocol.specs.Service.Outcome.{Replies}
use Rattle.bac_protocol.specs.Client.{Ask}
use Rattle.bac_protocol.specs.Short.{IsCutInto}
use Rattle.bac_protocol.specs.Straight.{FitsData, RequestFits, KindFits, WayFits, request_count, way_count}
use Rattle.bac_protocol.proofs.Short.{requests_are_short, replies_are_short}
use Rattle.bac_transaction.specs.Ends.{ClientEnd, Accepted, AskOutcome, AskRefusal, accepts, asks_with_id, asks_for, asks_by_way, requester_ask, free_id}
use Rattle.bac_transaction.specs.Ends.{has_no_slot}
use Rattle.bac_transaction.specs.Ends.AskOutcome.{Asked}
use Rattle.bac_transaction.specs.Services.{outcome_of}
use Rattle.bac_liveness.specs.StraightAnswers.{datagrams, CanGo, way_between}

cut_fits : (service : Octets) (pieces : List Octets) → IsCutInto service pieces → length service ≤ DATA → FitsData pieces
cut_fits service pieces cut short =
    let few = cut.few in
    (omega arith, subst (λ (l : Octets). length l ≤ DATA) (sym cut.are.joined) short)

-- An accepted ask.

not_too_long : (size : ℕ) (peer : Limits) (service : Octets) (pieces : List Octets) → request_way_of_size size peer service ≡ InSegments pieces
    → length service ≤ DATA
not_too_long size peer service pieces is = go (nat_lt DATA (length service)) refl is
  where
    go : (b : Bool) → nat_lt DATA (length service) ≡ b
        → (if b then Refused RequestFault.TooLong
        else if nat_le (length service + 4) size then InOne
        else request_way_in_segments peer (pieces_of (size - 6) service)) ≡ InSegments pieces
        → length service ≤ DATA
    go true long is = absurd cc
    go false short is = grind (arith, nat_tests)

module _ (c : Settings) (now : ℕ) (peer : PeerView) (e : ClientEnd) (a : Accepted) where
  ask_is : (ask : Ask) → asks_for c now peer ask e ≡ Asked a → a.ask ≡ ask
  ask_is ask is = go (free_id now e peer) is
    where
      go : (o : Option ℕ) → asks_with_id c now peer ask e o ≡ Asked a → a.ask ≡ ask
      go None is = absurd cc
      go (Some id) is = slot (has_no_slot now e) is
        where
          slot : (b : Bool)
              → (if b then AskOutcome.Refused AskRefusal.NoSlot else Asked (accepts c now (record { peer = peer; invoke_id = id }) ask e)) ≡ Asked a
              → a.ask ≡ ask
          slot true is = absurd cc
          slot false is = let same : accepts c now (record { peer = peer; invoke_id = id }) ask e ≡ a = cc in sym (ap (λ (y : Accepted). y.ask) same)

  -- what goes of it, and that a receiver can put it together
  pub record Goes (way : Way RequestFault) : Type 0 where
    pub counted : request_count a.ask.whole a.ask.pieces ≡ datagrams way
    pub fits : RequestFits a.ask.whole a.ask.pieces

  goes_so : (way : Way RequestFault) (ask : Ask) → a.ask ≡ ask → request_count ask.whole ask.pieces ≡ datagrams way → RequestFits ask.whole ask.pieces
      → Goes way
  goes_so way ask is counted fits = record {
    counted = ap (λ (y : Ask). request_count y.whole y.pieces) is ∙ counted;
    fits = subst (λ (y : Ask). RequestFits y.whole y.pieces) (sym is) fits;
  }

  by_way : (choice : ℕ) (octets : Octets) (way : Way RequestFault) → ((pieces : List Octets) → way ≡ InSegments pieces → FitsData pieces)
      → asks_by_way c now peer choice octets e way ≡ Asked a → Goes way
  by_way choice octets InOne fits is =
      let ask : Ask = record { first = now; choice = choice; whole = true; pieces = octets ∷ [] } in
      goes_so InOne ask (ask_is ask is) refl tt
  by_way choice octets (InSegments pieces) fits is =
      let ask : Ask = record { first = now; choice = choice; whole = false; pieces = pieces } in
      goes_so (InSegments pieces) ask (ask_is ask is) refl (fits pieces refl)
  by_way choice octets (Refused why) fits is = absurd cc

  pub asked_goes : (limits : Limits) (choice : ℕ) (octets : Octets) → requester_ask c now peer limits choice octets e ≡ Asked a
      → Goes (request_way_of c limits octets)
  asked_goes limits choice octets is =
      let context : Context = record { settings = c; invoke_id = 0; now = now } in
      by_way choice octets (request_way_of c limits octets)
      (λ pieces way. cut_fits octets pieces (requests_are_short.cut context limits octets pieces way)
      (not_too_long (transfer_size c.limits.max_apdu limits.max_apdu) limits octets pieces way)) is

-- A reply.

module _ (client server : Settings) where
  pub way_is : (p : plain.Reply) (m : machine.Reply) → outcome_of p ≡ Replies m → reply_way_of server client.limits m ≡ way_between client server p
  way_is plain.Reply.Simple m is = let same : machine.Reply.Simple ≡ m = cc in ap (reply_way_of server client.limits) (sym same)
  way_is (plain.Reply.Complex c) m is =
      let same : machine.Reply.Complex (complex_spelling c) ≡ m = cc in ap (reply_way_of server client.limits) (sym same)
  way_is (plain.Reply.Error class code) m is = let same : machine.Reply.Error class code ≡ m = cc in ap (reply_way_of server client.limits) (sym same)
  way_is (plain.Reply.Reject reason) m is = absurd cc

  cut_way : (octets : Octets) (way : Way ℕ) → way ≡ reply_way_of server client.limits (machine.Reply.Complex octets) → CanGo way → length octets ≤ DATA
      → WayFits way
  cut_way octets InOne is can short = tt
  cut_way octets (InSegments pieces) is can short =
      let context : Context = record { settings = server; invoke_id = 0; now = 0 } in
      cut_fits octets pieces (replies_are_short.cut context client.limits octets pieces (sym is)) short
  cut_way octets (Refused why) is can short = absurd can

  pub way_fits : (p : plain.Reply) → CanGo (way_between client server p) → reply_length p ≤ DATA_LIMIT → WayFits (way_between client server p)
  way_fits plain.Reply.Simple can short = tt
  way_fits (plain.Reply.Complex c) can short = cut_way (complex_spelling c) (way_between client server (plain.Reply.Complex c)) refl can
      (subst (λ (k : ℕ). k ≤ DATA) (sym (length_complex c)) short)
  way_fits (plain.Reply.Error class code) can short = tt
  way_fits (plain.Reply.Reject reason) can short = tt

pub counted_so : (way : Way ℕ) → CanGo way → way_count way ≡ datagrams way
counted_so InOne can = refl
counted_so (InSegments pieces) can = refl
counted_so (Refused why) can = absurd can

-- Its kind is that of its request.

complex_kind : (c : Complex) → has_complex_ack (complex_choice_of c) ≡ true
complex_kind (FileRead e start octets) = refl
complex_kind (StreamWritten start) = refl
complex_kind (RecordsWritten start) = refl
complex_kind (PropertyRead r values) = refl

pub kind_fits : (readable : Readable) (choice : ℕ) (p : plain.Reply) (m : machine.Reply) → outcome_of p ≡ Replies m → FitsChoice choice p
    → ((c : Complex) → m ≡ machine.Reply.Complex (complex_spelling c) → readable choice (complex_spelling c) ≡ true) → KindFits readable choice m
kind_fits readable choice plain.Reply.Simple m is fits reads =
    let same : machine.Reply.Simple ≡ m = cc in
    subst (KindFits readable choice) same (ap has_simple_ack fits)
kind_fits readable choice (plain.Reply.Complex c) m is fits reads =
    let same : machine.Reply.Complex (complex_spelling c) ≡ m = cc in
    subst (KindFits readable choice) same (ap has_complex_ack fits ∙ complex_kind c, reads c (sym same))
kind_fits readable choice (plain.Reply.Error class code) m is fits reads =
    let same : machine.Reply.Error class code ≡ m = cc in
    subst (KindFits readable choice) same tt
kind_fits readable choice (plain.Reply.Reject reason) m is fits reads = absurd fits
