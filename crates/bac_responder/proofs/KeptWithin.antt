-- What the server's end keeps after a call, in its own terms and in those of its table.
use Rattle.std.proofs.Common.{◌≡◌, ℕ, zero, suc, ◌+◌, ◌≤◌, Bool, true, false, ◌&&◌, List, [], ◌∷◌, filter, length, max, map, take, Option, Some, None}
use Rattle.std.proofs.Common.{Result, Ok, Err, if◌then◌else◌, refl, ap, sym, subst, ◌∙◌, arith}
use Rattle.std.specs.Prelude.{IfSome, MatchOption, is_some}
use Rattle.bac_apdu.specs.Apdu.{Apdu}
use Rattle.bac_apdu.specs.Apdu.Apdu.{ConfirmedRequest}
use Rattle.bac_npdu.specs.Peers.{PeerView}
use Rattle.bac_service.specs.Replies as plain
use Rattle.bac_service.specs.Services.{request_at}
use Rattle.bac_service.specs.Values.{Request}
use Rattle.bac_service.proofs.Wholes.{length_complex}
use Rattle.bac_slots.specs.declared.slot.Slot.{Slot}
use Rattle.bac_slots.specs.Ages.{changed, ticked_in}
use Rattle.bac_slots.specs.Slots.{IsDistinct, value_at}
use Rattle.bac_slots.proofs.Slots.{IsDistinct-without}
use Rattle.bac_slots.proofs.Values.{removed_none}
use Rattle.bac_store.specs.ReplyLengths.{DATA_LIMIT, reply_length}
use Rattle.bac_store.specs.Replies.{reply_to}
use Rattle.bac_store.specs.Stores.{Store}
use Rattle.bac_protocol.specs.Context.{Settings}
use Rattle.bac_protocol.specs.Server.{ServerTransaction, is_live, is_none_live, live_entry}
use Rattle.bac_protocol.specs.Serving.{ends_entry, entry_left, is_ended, server_hears}
use Rattle.bac_protocol.specs.Service.{Octets}
use Rattle.bac_transaction.specs.Ends.{ServerEnd, ServerSlot, context_of, key_of, put_entry}
use Rattle.bac_transaction.specs.Keys as keys
use Rattle.bac_transaction.specs.Keys.{same_key}
use Rattle.bac_transaction.specs.Reuse.{slots_left}
use Rattle.bac_transaction.specs.Serving.{has_place, responder_by, turn_at}
use Rattle.bac_transaction.specs.Sharing.{EndRules}
use Rattle.bac_transaction.specs.Services.{outcome_by, outcome_of, service_of}
use Rattle.bac_transaction.specs.Views.{code_same_key, peer_key_view, settings_view, slot_view, slots_view}
use Rattle.bac_transaction.specs.declared.settings.Settings.{Settings as CodeSettings}
use Rattle.bac_transaction.specs.declared.peer_key.PeerKey.{PeerKey}
use Rattle.bac_transaction.proofs.Keyed.{value_viewed}
use Rattle.bac_transaction.proofs.KeyedSlots.{keys_equivalent}
use Rattle.bac_transaction.proofs.Viewed.{orderly_viewed}
use Rattle.bac_responder.specs.Aging.{entry_ticked}
use Rattle.bac_responder.specs.Hearing.{HeedsRoomAt, Hears}
use Rattle.bac_responder.specs.Kept.{HasShortReplies, IsWithin, NeedsRoom, StaysWithin, adds_nothing, adds_nothing_at, counted, entry_octets, given_back, growth, is_request, keeps_no_more, kept_octets, octets_of, sum_of}
use Rattle.bac_responder.specs.Views.{end_of}
use Rattle.bac_responder.specs.declared.served.Served.{Served}
use Rattle.bac_responder.proofs.Growth.{Fits, hears_fits, nothing_fits, outcome_octets}
use Rattle.bac_responder.proofs.KeptTables.{live_slots, put_begins, put_grows, put_moves, ticked_octets, without_octets}
use Rattle.bac_responder.proofs.Ticks.{left_viewed, ticked_viewed}

-- The replies of a store are short.

outcome_short : (p : plain.Reply) → reply_length p ≤ DATA_LIMIT → outcome_octets (outcome_of p) ≤ DATA_LIMIT
outcome_short plain.Reply.Simple h = omega arith
outcome_short (plain.Reply.Complex c) h = let same = length_complex c in omega (arith, same, h)
outcome_short (plain.Reply.Error class code) h = omega arith
outcome_short (plain.Reply.Reject reason) h = omega arith

short_service : (s : Store) → HasShortReplies s → (choice : ℕ) (octets : Octets) → outcome_octets (service_of s choice octets) ≤ DATA_LIMIT
short_service s short choice octets = go (request_at choice octets)
  where
    go : (r : Result Request ℕ) → outcome_octets (outcome_by s r) ≤ DATA_LIMIT
    go (Ok r) = outcome_short (reply_to s r) (short r)
    go (Err reason) = omega arith

-- An APDU comes for a key.

module _ (rules : EndRules) (now : ℕ) (key : keys.PeerKey) (a : Apdu) (e : ServerEnd) where
  abbrev pub present : Option ServerTransaction
  present = value_at same_key key e.slots

  -- the slots without the entry that the APDU ends, if it ends one
  abbrev pub remaining : List ServerSlot
  remaining = slots_left (ends_entry rules.machine now present a) key e.slots

  rest_within : kept_octets remaining ≤ kept_octets e.slots
  rest_within = go (ends_entry rules.machine now present a)
    where
      go : (b : Bool) → kept_octets (slots_left b key e.slots) ≤ kept_octets e.slots
      go true = let sum = without_octets key e.slots in omega (arith, sum)
      go false = omega arith

  rest_distinct : IsDistinct same_key e.slots → IsDistinct same_key remaining
  rest_distinct distinct = go (ends_entry rules.machine now present a)
    where
      go : (b : Bool) → IsDistinct same_key (slots_left b key e.slots)
      go true = IsDistinct-without same_key key e.slots distinct
      go false = distinct

  rest_moves : kept_octets remaining + octets_of present ≤ kept_octets e.slots + octets_of (value_at same_key key remaining)
  rest_moves = go (ends_entry rules.machine now present a)
    where
      go : (b : Bool) → kept_octets (slots_left b key e.slots) + octets_of present ≤ kept_octets e.slots + octets_of (value_at same_key key (slots_left b key e.slots))
      go true = let sum = without_octets key e.slots in omega (arith, sum)
      go false = omega arith

  left_there : IsDistinct same_key e.slots → value_at same_key key remaining ≡ entry_left rules.machine now present a
  left_there distinct = go (ends_entry rules.machine now present a)
    where
      go : (b : Bool) → value_at same_key key (slots_left b key e.slots) ≡ (if b then None else present)
      go true = removed_none keys.PeerKey ServerTransaction same_key keys_equivalent key e.slots distinct
      go false = refl

  -- where none is live, none ends
  none_ends : is_none_live now present ≡ true → ends_entry rules.machine now present a ≡ false
  none_ends none = go present none
    where
      dead : (b d : Bool) → (if b then false else true) ≡ true → b && d ≡ false
      dead true d none = absurd cc
      dead false d none = refl

      go : (o : Option ServerTransaction) → is_none_live now o ≡ true → ends_entry rules.machine now o a ≡ false
      go None none = refl
      go (Some d) none = dead (is_live now d) (is_ended rules.machine now d a) none

  -- what the entry of the key keeps more or less, all keep
  pub left_moves : IsDistinct same_key e.slots → (o : Option ServerTransaction)
      → kept_octets (put_entry now key o remaining) + octets_of present ≤ kept_octets e.slots + octets_of (value_at same_key key (put_entry now key o remaining))
  left_moves distinct o =
      let less = rest_moves in
      let sum = put_moves now key remaining (rest_distinct distinct) o in
      omega (arith, less, sum)

  module _ (c : Settings) (s : Store) (short : HasShortReplies s) (distinct : IsDistinct same_key e.slots) where
    abbrev left_after : Option ServerTransaction
    left_after = (server_hears (context_of c now key) (service_of s) rules.machine present (has_place rules now key a e) a).entry

    left_fit : Fits now (octets_of (live_entry now (value_at same_key key remaining)) + growth a) left_after
    left_fit = subst (λ (o : Option ServerTransaction). Fits now (octets_of (live_entry now o) + growth a) left_after) (sym (left_there distinct))
        (hears_fits (context_of c now key) (service_of s) (short_service s short) rules.machine present (has_place rules now key a e) a)

    pub turn_grows : kept_octets (put_entry now key left_after remaining) ≤ kept_octets e.slots + growth a
    turn_grows =
        let less = rest_within in
        let sum = put_grows now key remaining (growth a) left_after left_fit in
        omega (arith, less, sum)

    pub turn_begins : is_none_live now present ≡ true
        → kept_octets (put_entry now key left_after remaining) ≤ max (kept_octets e.slots) (kept_octets (live_slots now e.slots) + growth a)
    turn_begins none =
        let same : remaining ≡ e.slots = ap (λ (b : Bool). slots_left b key e.slots) (none_ends none) in
        let all = ap kept_octets same in
        let live = ap (λ (l : List ServerSlot). kept_octets (live_slots now l)) same in
        let there : is_none_live now (value_at same_key key remaining) ≡ true = ap (λ (l : List ServerSlot). is_none_live now (value_at same_key key l)) same ∙ none in
        let sum = put_begins now key remaining (growth a) left_after there left_fit in
        omega (arith, all, live, sum)

    -- it makes no entry keep more

    pub turn_adds_nothing : adds_nothing (context_of c now key) (service_of s) rules.machine.reads (entry_left rules.machine now present a) a ≡ true
        → kept_octets (put_entry now key left_after remaining) ≤ kept_octets e.slots
    turn_adds_nothing is =
        let fit : Fits now (octets_of (live_entry now (value_at same_key key remaining)) + 0) left_after =
        subst (λ (o : Option ServerTransaction). Fits now (octets_of (live_entry now o) + 0) left_after) (sym (left_there distinct))
        (nothing_fits (context_of c now key) (service_of s) (short_service s short) rules.machine present (has_place rules now key a e) a is) in
        let less = rest_within in
        let sum = put_grows now key remaining 0 left_after fit in
        omega (arith, less, sum)

-- only a request can make it keep more
pub needs_request : (a : Apdu) → (growth a ≡ 0 → ⊥) → is_request a ≡ true
needs_request (ConfirmedRequest limits id segment choice octets) grows = refl
needs_request _ grows = absurd (grows refl)

-- Whether there is room for it.

module _ (now : ℕ) (peer : PeerView) (a : Apdu) (memory : ℕ) (e : ServerEnd) (distinct : IsDistinct same_key e.slots) where
  -- it grows by no more, and there is room for that
  grown_within : kept_octets e.slots + growth a ≤ memory → StaysWithin (Some memory) now peer a e
  grown_within there = λ rules c s short. let sum = turn_grows rules now (key_of peer a) a e c s short distinct in omega (arith, sum, there)

  -- it does not grow
  same_within : growth a ≡ 0 → StaysWithin (Some memory) now peer a e
  same_within none = λ rules c s short. let sum = turn_grows rules now (key_of peer a) a e c s short distinct in omega (arith, sum, none)

  -- no entry of its key is live, and beside the live ones there is room
  begun_within : is_none_live now (value_at same_key (key_of peer a) e.slots) ≡ true → kept_octets (live_slots now e.slots) + growth a ≤ memory
      → StaysWithin (Some memory) now peer a e
  begun_within none there = λ rules c s short.
      let sum = turn_begins rules now (key_of peer a) a e c s short distinct none in omega (arith, sum, there)

-- within less
pub within_less : (now : ℕ) (peer : PeerView) (a : Apdu) (less memory : ℕ) (e : ServerEnd) → less ≤ memory → StaysWithin (Some less) now peer a e
    → StaysWithin (Some memory) now peer a e
within_less now peer a less memory e smaller stays = λ rules c s short. let within = stays rules c s short in omega (arith, within, smaller)

-- The table.

abbrev Slots : Type 0
Slots = List (Slot PeerKey ServerTransaction)

counted_all : (now : ℕ) (slots : Slots) → sum_of (counted false now) slots ≡ kept_octets (slots_view slots)
counted_all now [] = refl
counted_all now (s ∷ slots) = ap (λ n. entry_octets s.value + n) (counted_all now slots)

counted_live : (now : ℕ) (slots : Slots) → sum_of (counted true now) slots ≡ kept_octets (live_slots now (slots_view slots))
counted_live now [] = refl
counted_live now (s ∷ slots) = go (is_live now s.value) (counted_live now slots)
  where
    go : (b : Bool) → sum_of (counted true now) slots ≡ kept_octets (live_slots now (slots_view slots))
        → (if b then entry_octets s.value else 0) + sum_of (counted true now) slots
        ≡ kept_octets (if b then slot_view s ∷ live_slots now (slots_view slots) else live_slots now (slots_view slots))
    go true again = ap (λ n. entry_octets s.value + n) again
    go false again = omega (arith, again)

pub counted_within : (now : ℕ) (slots : Slots) (kept : Option ℕ) → IfSome kept (λ k. k ≡ sum_of (counted false now) slots)
    → IfSome kept (λ k. kept_octets (slots_view slots) ≤ k)
counted_within now slots None is = tt
counted_within now slots (Some k) is = let same = counted_all now slots in omega (arith, same, is)

pub apart : (slots : Slots) → IsDistinct code_same_key slots → IsDistinct same_key (slots_view slots)
apart slots distinct = (orderly_viewed ServerTransaction slots (length slots) (length slots) distinct refl (omega arith)).distinct

module _ (now : ℕ) (peer : PeerView) (a : Apdu) (memory : ℕ) (slots : Slots) (capacity : ℕ) (restart : Option ℕ) (distinct : IsDistinct code_same_key slots) where
  pub no_more : growth a ≡ 0 → StaysWithin (Some memory) now peer a (end_of slots capacity restart)
  no_more none = same_within now peer a memory (end_of slots capacity restart) (apart slots distinct) none

  pub room_for : (kept : Option ℕ) (len : ℕ) → IfSome kept (λ k. kept_octets (slots_view slots) ≤ k) → growth a ≡ len + 65539
      → MatchOption kept ⊥ (λ k. k + (len + 65539) ≤ memory) → StaysWithin (Some memory) now peer a (end_of slots capacity restart)
  room_for None len within grows there = absurd there
  room_for (Some k) len within grows there =
      grown_within now peer a memory (end_of slots capacity restart) (apart slots distinct) (omega (arith, within, grows, there))

  -- where it takes the place of the dead ones
  pub room_instead : (key : PeerKey) → peer_key_view key ≡ key_of peer a → is_none_live now (value_at code_same_key key slots) ≡ true → (kept : Option ℕ) (len : ℕ)
      → IfSome kept (λ k. k ≡ sum_of (counted true now) slots) → growth a ≡ len + 65539 → MatchOption kept ⊥ (λ k. k + (len + 65539) ≤ memory)
      → StaysWithin (Some memory) now peer a (end_of slots capacity restart)
  room_instead key is none None len within grows there = absurd there
  room_instead key is none (Some k) len within grows there =
      let seen : is_none_live now (value_at same_key (key_of peer a) (slots_view slots)) ≡ true =
      ap (λ (q : keys.PeerKey). is_none_live now (value_at same_key q (slots_view slots))) (sym is)
      ∙ ap (is_none_live now) (sym (value_viewed ServerTransaction key slots)) ∙ none in
      let same = counted_live now slots in
      begun_within now peer a memory (end_of slots capacity restart) (apart slots distinct) seen (omega (arith, within, grows, there, same))

-- It makes no entry of the table keep more.

pub nothing_within : (rules : EndRules) (now : ℕ) (peer : PeerView) (a : Apdu) (slots : Slots) (capacity : ℕ) (restart : Option ℕ)
    → IsDistinct code_same_key slots → (c : Settings) (s : Store) → keeps_no_more rules c now (service_of s) peer a (end_of slots capacity restart) ≡ true
    → HasShortReplies s
    → kept_octets (responder_by rules c now (service_of s) peer a (end_of slots capacity restart)).end.slots ≤ kept_octets (slots_view slots)
nothing_within rules now peer a slots capacity restart distinct c s is short =
    turn_adds_nothing rules now (key_of peer a) a (end_of slots capacity restart) c s short (apart slots distinct) is

-- There was room, or it makes none keep more.

pub heard_within : (memory : Option ℕ) (rules : EndRules) (now : ℕ) (peer : PeerView) (a : Apdu) (slots : Slots) (capacity : ℕ) (restart : Option ℕ)
    → IsDistinct code_same_key slots → (c : Settings) (s : Store) (old : ServerEnd) → end_of slots capacity restart ≡ old → (room : Bool)
    → (room ≡ true → StaysWithin memory now peer a old)
    → (room ≡ false → keeps_no_more rules c now (service_of s) peer a (end_of slots capacity restart) ≡ true) → (new : ServerEnd)
    → new ≡ (responder_by rules c now (service_of s) peer a (end_of slots capacity restart)).end → IsWithin memory s old new
heard_within memory rules now peer a slots capacity restart distinct c s old same room stays nothing new is = go memory room stays nothing
  where
    go : (m : Option ℕ) (b : Bool) → (b ≡ true → StaysWithin m now peer a old)
        → (b ≡ false → keeps_no_more rules c now (service_of s) peer a (end_of slots capacity restart) ≡ true) → IsWithin m s old new
    go None b stays nothing = tt
    go (Some m) true stays nothing = λ short.
        let within = stays refl rules c s short in
        let all = ap (λ (e : ServerEnd). kept_octets e.slots) (is ∙ ap (λ (e : ServerEnd). (responder_by rules c now (service_of s) peer a e).end) same) in
        omega (arith, within, all)
    go (Some m) false stays nothing = λ short.
        let within = nothing_within rules now peer a slots capacity restart distinct c s (nothing refl) short in
        let all = ap (λ (e : ServerEnd). kept_octets e.slots) is in
        let before = ap (λ (e : ServerEnd). kept_octets e.slots) same in
        omega (arith, within, all, before)

-- what comes of an APDU, by what was asked before

pub on_within : (memory : Option ℕ) (rules : EndRules) (now : ℕ) (peer : PeerView) (a : Apdu) (slots : Slots) (capacity : ℕ) (restart : Option ℕ)
    → IsDistinct code_same_key slots → (c : Settings) (s : Store) (old : ServerEnd) → end_of slots capacity restart ≡ old → (room : Bool)
    → (room ≡ true → StaysWithin memory now peer a old) → (k : keys.PeerKey) → k ≡ key_of peer a → (x : Option Served) (new : ServerEnd) (t : Store)
    → Hears rules c now k a (end_of slots capacity restart) s (Ok x) new t → HeedsRoomAt room rules c now k a (end_of slots capacity restart) s (Ok x)
    → IsWithin memory s old new
on_within memory rules now peer a slots capacity restart distinct c s old same room stays k is None new t hears heeds = go memory
  where
    all : kept_octets new.slots ≡ kept_octets old.slots
    all = ap (λ (e : ServerEnd). kept_octets e.slots) (hears.0 ∙ same)

    go : (m : Option ℕ) → IsWithin m s old new
    go None = tt
    go (Some m) = λ short. omega (arith, all)
on_within memory rules now peer a slots capacity restart distinct c s old same room stays k is (Some x) new t hears heeds =
    heard_within memory rules now peer a slots capacity restart distinct c s old same room stays
    (λ none. ap (λ (q : keys.PeerKey). adds_nothing_at rules.machine c now (service_of s) q a (end_of slots capacity restart)) (sym is) ∙ heeds none) new
    (hears.turn.end ∙ ap (λ (q : keys.PeerKey). (turn_at rules c now (service_of s) q a (end_of slots capacity restart)).end) is)

pub on_needs : (memory : Option ℕ) (rules : EndRules) (now : ℕ) (peer : PeerView) (a : Apdu) (e old : ServerEnd) → e ≡ old → (c : Settings) (s : Store)
    (room : Bool) → (growth a ≡ 0 → room ≡ true) → (memory ≡ None → room ≡ true) → (k : keys.PeerKey) → k ≡ key_of peer a → (x : Option Served)
    → HeedsRoomAt room rules c now k a e s (Ok x) → x ≡ None → NeedsRoom rules memory c now (service_of s) peer a old
on_needs memory rules now peer a e old same c s room needless bound k is (Some x) heeds none = absurd cc
on_needs memory rules now peer a e old same c s room needless bound k is None heeds none = record {
  request = needs_request a (λ grows. full (needless grows));
  more = ap (λ (d : ServerEnd). keeps_no_more rules c now (service_of s) peer a d) (sym same)
      ∙ ap (λ (q : keys.PeerKey). adds_nothing_at rules.machine c now (service_of s) q a e) (sym is) ∙ heeds.1;
  bound = there memory bound;
}
  where
    full : room ≡ true → ⊥
    full granted = let no : false ≡ true = sym heeds.0 ∙ granted in cc

    there : (m : Option ℕ) → (m ≡ None → room ≡ true) → is_some m ≡ true
    there None bound = absurd (full (bound refl))
    there (Some m) bound = refl

-- An APDU was taken: what the table keeps more or less, the entry of its key does.

seen_moves : (key : PeerKey) (old new : Slots) (put : List ServerSlot) → slots_view new ≡ put
    → kept_octets put + octets_of (value_at same_key (peer_key_view key) (slots_view old))
    ≤ kept_octets (slots_view old) + octets_of (value_at same_key (peer_key_view key) put)
    → kept_octets (slots_view new) + octets_of (value_at code_same_key key old) ≤ kept_octets (slots_view old) + octets_of (value_at code_same_key key new)
seen_moves key old new put is moves =
    let all = ap kept_octets is in
    let before = ap octets_of (value_viewed ServerTransaction key old) in
    let after = ap octets_of (value_viewed ServerTransaction key new ∙ ap (value_at same_key (peer_key_view key)) is) in
    omega (arith, moves, all, before, after)

pub turn_moved : (rules : EndRules) (c : Settings) (now : ℕ) (s : Store) (key : PeerKey) (a : Apdu) (old new : Slots) (capacity room : ℕ) (restart : Option ℕ)
    → IsDistinct code_same_key old → end_of new room restart ≡ (turn_at rules c now (service_of s) (peer_key_view key) a (end_of old capacity restart)).end
    → kept_octets (slots_view new) + octets_of (value_at code_same_key key old) ≤ kept_octets (slots_view old) + octets_of (value_at code_same_key key new)
turn_moved rules c now s key a old new capacity room restart distinct is =
    let e : ServerEnd = end_of old capacity restart in
    let k : keys.PeerKey = peer_key_view key in
    seen_moves key old new _ (ap (λ (x : ServerEnd). x.slots) is)
    (left_moves rules now k a e (apart old distinct)
    (server_hears (context_of c now k) (service_of s) rules.machine (value_at same_key k (slots_view old)) (has_place rules now k a e) a).entry)

pub on_moved : (rules : EndRules) (c : Settings) (now : ℕ) (s : Store) (key : PeerKey) (a : Apdu) (old new : Slots) (capacity room : ℕ) (restart : Option ℕ)
    → IsDistinct code_same_key old → (x : Option Served) (t : Store)
    → Hears rules c now (peer_key_view key) a (end_of old capacity restart) s (Ok x) (end_of new room restart) t
    → kept_octets (slots_view new) + octets_of (value_at code_same_key key old) ≤ kept_octets (slots_view old) + octets_of (value_at code_same_key key new)
on_moved rules c now s key a old new capacity room restart distinct (Some x) t hears =
    turn_moved rules c now s key a old new capacity room restart distinct hears.turn.end
on_moved rules c now s key a old new capacity room restart distinct None t hears =
    let is = ap (λ (e : ServerEnd). e.slots) hears.0 in
    let all = ap kept_octets is in
    let before = ap octets_of (value_viewed ServerTransaction key old) in
    let after = ap octets_of (value_viewed ServerTransaction key new ∙ ap (value_at same_key (peer_key_view key)) is) in
    omega (arith, all, before, after)

-- A tick.

-- what is live, and what is given back of the first slots
pub live_and_back : (now n : ℕ) (slots : Slots)
    → sum_of (counted true now) slots + sum_of (given_back now) (take n slots) ≤ sum_of (counted false now) slots
live_and_back now zero [] = omega arith
live_and_back now (suc n) [] = omega arith
live_and_back now zero (s ∷ slots) = go (is_live now s.value) (live_and_back now zero slots)
  where
    go : (b : Bool) → sum_of (counted true now) slots + sum_of (given_back now) (take zero slots) ≤ sum_of (counted false now) slots
        → (if b then entry_octets s.value else 0) + sum_of (counted true now) slots + 0 ≤ entry_octets s.value + sum_of (counted false now) slots
    go true again = omega (arith, again)
    go false again = omega (arith, again)
live_and_back now (suc n) (s ∷ slots) = go (is_live now s.value) (live_and_back now n slots)
  where
    go : (b : Bool) → sum_of (counted true now) slots + sum_of (given_back now) (take n slots) ≤ sum_of (counted false now) slots
        → (if b then entry_octets s.value else 0) + sum_of (counted true now) slots + ((if b then 0 else entry_octets s.value) + sum_of (given_back now) (take n slots))
        ≤ entry_octets s.value + sum_of (counted false now) slots
    go true again = omega (arith, again)
    go false again = omega (arith, again)

pub ticked_within : (c : CodeSettings) (now : ℕ) (old ticked new : Slots) (back : ℕ) → ticked ≡ map (changed (ticked_in entry_ticked c now)) old
    → new ≡ filter (λ s. is_live now s.value) ticked → sum_of (counted true now) ticked + back ≤ sum_of (counted false now) ticked
    → kept_octets (slots_view new) + back ≤ kept_octets (slots_view old)
ticked_within c now old ticked new back all left given =
    let whole = counted_all now ticked in
    let live = counted_live now ticked in
    let seen = ap slots_view all ∙ ticked_viewed c now old in
    let some = ap (λ (l : List ServerSlot). kept_octets (live_slots now l)) seen in
    let same = ap kept_octets (left_viewed c now old ticked new all left) in
    let before = ap kept_octets seen in
    let less = ticked_octets (settings_view c) now (slots_view old) in
    omega (arith, given, whole, live, some, same, before, less)
