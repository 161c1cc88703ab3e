-- A turn of the table is a turn of the server's end, by its rules.
use Rattle.std.proofs.Common.{◌≡◌, ℕ, ◌+◌, ◌<◌, ◌≤◌, Bool, true, false, ◌&&◌, not, List, length, count_by, nat_lt, Option, Some, None, Result}
use Rattle.std.proofs.Common.{if◌then◌else◌, refl, ap, sym, subst, ◌∙◌, arith}
use Rattle.std.proofs.lemmas.Bool.Decides.{nat_tests}
use Rattle.std.proofs.lemmas.List.Sums.{count_by-le-length}
use Rattle.bac_apdu.specs.Apdu.{Apdu}
use Rattle.bac_slots.specs.declared.slot.Slot.{Slot}
use Rattle.bac_slots.specs.Slots.{value_at, without}
use Rattle.bac_store.specs.Stores.{Store}
use Rattle.bac_value.specs.declared.memory.NoMemory.{NoMemory}
use Rattle.bac_protocol.specs.Context.{Context, Settings}
use Rattle.bac_protocol.specs.Server.{Reaction, ServerTransaction, Service, is_live, is_none_live, live_on_apdu}
use Rattle.bac_protocol.specs.Serving.{ReadRule, ServerRules, begins_request, ends_entry, entry_left, idle_by, is_ended, is_turned_away, needs_no_slot, needs_slot}
use Rattle.bac_protocol.specs.Serving.{server_hears}
use Rattle.bac_protocol.specs.declared.times.TheConstants.{KEEP}
use Rattle.bac_protocol.proofs.ByRules.{anyway_at, at_live, idle_left}
use Rattle.bac_transaction.specs.Ends.{ServerEnd, context_of, first_after, is_free, is_slot_live, server_goes}
use Rattle.bac_transaction.specs.Keys as keys
use Rattle.bac_transaction.specs.Keys.{same_key}
use Rattle.bac_transaction.specs.Reuse.{slots_left}
use Rattle.bac_transaction.specs.Sends.{Datagram}
use Rattle.bac_transaction.specs.Services.{Performed as Done, service_of, store_after}
use Rattle.bac_transaction.specs.Serving.{end_left, has_place}
use Rattle.bac_transaction.specs.Sharing.{EndRules, may_begin}
use Rattle.bac_transaction.specs.Views.{code_same_key, peer_key_view, slots_view}
use Rattle.bac_transaction.specs.declared.peer_key.PeerKey.{PeerKey}
use Rattle.bac_transaction.proofs.Keyed.{value_viewed, without_viewed}
use Rattle.bac_transaction.proofs.Viewed.{count_viewed}
use Rattle.bac_responder.specs.Hearing.{HeedsRoomAt, Hears, IsHeard, IsPassed, code_slots_left}
use Rattle.bac_responder.specs.Kept.{adds_nothing, adds_nothing_at, grows_none, grows_none_at}
use Rattle.bac_responder.specs.Turns.{Acted, IsServed, acted_of}
use Rattle.bac_responder.specs.Views.{end_of}
use Rattle.bac_responder.specs.declared.served.Served.{Served}
use Rattle.bac_responder.proofs.Turned.{acted, after_acted, goes_still}

abbrev Slots : Type 0
Slots = List (Slot PeerKey ServerTransaction)

pub both_true : (b d : Bool) → b && d ≡ true → d ≡ true
both_true true d is = is
both_true false d is = absurd cc

-- Whether a slot is free is asked only where a request begins.

module _ (c : Context) (service : Service) (reads : ReadRule) (left : Option ServerTransaction) (a : Apdu) where
  pub begins_same : (free : Bool) → idle_by c service reads left free a ≡ idle_by c service reads left (begins_request a && free) a
  begins_same free = go (begins_request a) free refl
    where
      go : (b f : Bool) → begins_request a ≡ b → idle_by c service reads left f a ≡ idle_by c service reads left (b && f) a
      go true f begins = refl
      go false false begins = refl
      go false true begins = sym (anyway_at c service left reads a (ap (λ (x : Bool). x && not (needs_no_slot c service reads a)) begins))

  pub away_same : (free : Bool) → needs_slot c service reads a && not (begins_request a && free) ≡ needs_slot c service reads a && not free
  away_same free = go (begins_request a) (not (needs_no_slot c service reads a))
    where
      go : (b d : Bool) → (b && d) && not (b && free) ≡ (b && d) && not free
      go true d = refl
      go false d = refl

-- The end that is left.

left_viewed : (b : Bool) (key : PeerKey) (slots : Slots) → slots_view (code_slots_left b key slots) ≡ slots_left b (peer_key_view key) (slots_view slots)
left_viewed true key slots = without_viewed ServerTransaction key slots
left_viewed false key slots = refl

pub end_left_is : (rules : ServerRules) (now : ℕ) (key : PeerKey) (a : Apdu) (slots : Slots) (capacity : ℕ) (restart : Option ℕ) (ends : Bool)
    → ends ≡ ends_entry rules now (value_at code_same_key key slots) a
    → end_of (code_slots_left ends key slots) capacity restart ≡ end_left rules now (peer_key_view key) a (end_of slots capacity restart)
end_left_is rules now key a slots capacity restart ends is =
    let e : ServerEnd = end_of slots capacity restart in
    let same : ends ≡ ends_entry rules now (value_at same_key (peer_key_view key) (slots_view slots)) a =
    is ∙ ap (λ o. ends_entry rules now o a) (value_viewed ServerTransaction key slots) in
    ap (λ l. record e { slots = l }) (left_viewed ends key slots) ∙ ap (λ (b : Bool). record e { slots = slots_left b (peer_key_view key) (slots_view slots) }) same

pub none_left : (rules : ServerRules) (now : ℕ) (key : PeerKey) (a : Apdu) (slots after : Slots) (ends : Bool)
    → ends ≡ ends_entry rules now (value_at code_same_key key slots) a → after ≡ code_slots_left ends key slots
    → (ends ≡ true → value_at code_same_key key after ≡ None) → is_none_live now (entry_left rules now (value_at code_same_key key slots) a) ≡ true
    → is_none_live now (value_at code_same_key key after) ≡ true
none_left rules now key a slots after true is left absent none = ap (is_none_live now) (absent refl)
none_left rules now key a slots after false is left absent none =
    let o : Option ServerTransaction = value_at code_same_key key slots in
    ap (λ (l : Slots). is_none_live now (value_at code_same_key key l)) left
    ∙ ap (λ (b : Bool). is_none_live now (if b then None else o)) is ∙ none

-- Whether an entry may begin, where one ended.

some_ended : (rules : ServerRules) (now : ℕ) (a : Apdu) (o : Option ServerTransaction) → ends_entry rules now o a ≡ true → (v : ServerTransaction) × (o ≡ Some v)
some_ended rules now a None h = absurd cc
some_ended rules now a (Some v) h = (v, refl)

pub place_left_is : (rules : ServerRules) (now : ℕ) (key : PeerKey) (a : Apdu) (slots : Slots) (capacity : ℕ) (restart : Option ℕ)
    → ends_entry rules now (value_at code_same_key key slots) a ≡ true → length slots ≤ capacity
    → ((v : ServerTransaction) → value_at code_same_key key slots ≡ Some v → length (without code_same_key key slots) + 1 ≡ length slots)
    → is_free now (end_of (without code_same_key key slots) capacity restart) ≡ not (nat_lt now (first_after KEEP restart))
place_left_is rules now key a slots capacity restart ends within less =
    let v = some_ended rules now a (value_at code_same_key key slots) ends in
    let rest : Slots = without code_same_key key slots in
    let one : length rest + 1 ≡ length slots = less v.0 v.1 in
    let count : count_by (λ s. is_live now s.value) rest ≤ length rest = count_by-le-length (λ s. is_live now s.value) rest in
    let seen : count_by (is_slot_live now) (slots_view rest) ≡ count_by (λ s. is_live now s.value) rest = count_viewed ServerTransaction (is_live now) rest in
    let below : count_by (is_slot_live now) (slots_view rest) < capacity = omega (arith, one, count, seen, within) in
    let space : nat_lt (count_by (is_slot_live now) (slots_view rest)) capacity ≡ true = grind (arith, nat_tests, below) in
    ap (λ (b : Bool). b && not (nat_lt now (first_after KEEP restart))) space

-- The turn, where none is live.

served_passed : (now : ℕ) (e : ServerEnd) (key : keys.PeerKey) (v w : Reaction) (s t : Store) (o : Option ServerTransaction) (sent : List Datagram)
    (q : Option Done) → v ≡ w → IsPassed w o key.peer s sent q t → is_none_live now o ≡ true → IsServed (server_goes now e key v) s sent (acted_of key q) e t
served_passed now e key v w s t o sent q same r dead =
    let did : IsPassed v o key.peer s sent q t = subst (λ (z : Reaction). IsPassed z o key.peer s sent q t) (sym same) r in
    record {
      end = sym (goes_still now e key v o did.entry dead);
      sends = did.sends;
      act = acted s key v.effect q did.effect;
      store = did.store ∙ ap (store_after s) (sym (after_acted key q));
    }

module _ (rules : EndRules) (c : Settings) (now : ℕ) (key : PeerKey) (a : Apdu) (slots : Slots) (capacity : ℕ) (restart : Option ℕ) (ends : Bool) (s : Store)
    (ends_is : ends ≡ ends_entry rules.machine now (value_at code_same_key key slots) a)
    (none : is_none_live now (entry_left rules.machine now (value_at code_same_key key slots) a) ≡ true) where
  abbrev k : keys.PeerKey
  k = peer_key_view key

  abbrev e : ServerEnd
  e = end_of slots capacity restart

  abbrev pub rest : ServerEnd
  rest = end_of (code_slots_left ends key slots) capacity restart

  -- whether an entry may begin
  abbrev pub place : Bool
  place = may_begin rules.share ends now k rest

  abbrev at : Context
  at = context_of c now k

  abbrev o : Option ServerTransaction
  o = value_at same_key k (slots_view slots)

  abbrev pub left : Option ServerTransaction
  left = entry_left rules.machine now o a

  pub none_there : is_none_live now left ≡ true
  none_there = ap (λ (x : Option ServerTransaction). is_none_live now (entry_left rules.machine now x a)) (sym (value_viewed ServerTransaction key slots)) ∙ none

  -- what begins, in a slot that was asked for
  pub hears_as : (free : Bool) → free ≡ (begins_request a && place)
      → server_hears at (service_of s) rules.machine o place a ≡ idle_by at (service_of s) rules.machine.reads left free a
  hears_as free asked =
      idle_left at (service_of s) rules.machine o place a none_there
      ∙ begins_same at (service_of s) rules.machine.reads left a place
      ∙ ap (λ (b : Bool). idle_by at (service_of s) rules.machine.reads left b a) (sym asked)

  away_there : (free away : Bool) → free ≡ (begins_request a && place) → away ≡ (needs_slot at (service_of s) rules.machine.reads a && not free)
      → away ≡ is_turned_away at (service_of s) rules.machine o place a
  away_there free away asked told =
      told ∙ ap (λ (b : Bool). needs_slot at (service_of s) rules.machine.reads a && not b) asked
      ∙ away_same at (service_of s) rules.machine.reads left a place
      ∙ sym (ap (λ (b : Bool). b && (needs_slot at (service_of s) rules.machine.reads a && not place)) none_there)

  -- as the end is left, so it was
  pub heard : (free away : Bool) → free ≡ (begins_request a && place) → away ≡ (needs_slot at (service_of s) rules.machine.reads a && not free)
      → (sent : List Datagram) (x : Option Acted) (new : ServerEnd) (t : Store)
      → IsServed (server_goes now rest k (server_hears at (service_of s) rules.machine o place a)) s sent x new t → IsHeard rules c now k a e s sent x away new t
  heard free away asked told sent x new t did =
      let same : rest ≡ end_left rules.machine now k a e = end_left_is rules.machine now key a slots capacity restart ends ends_is in
      let there : ends ≡ ends_entry rules.machine now o a =
      ends_is ∙ ap (λ (x : Option ServerTransaction). ends_entry rules.machine now x a) (value_viewed ServerTransaction key slots) in
      let so : place ≡ has_place rules now k a e =
      ap (λ (b : Bool). may_begin rules.share b now k rest) there
      ∙ ap (λ (d : ServerEnd). may_begin rules.share (ends_entry rules.machine now o a) now k d) same in
      record {
        turn = subst (λ (d : ServerEnd). IsServed (server_goes now d k (server_hears at (service_of s) rules.machine o (has_place rules now k a e) a)) s sent x new t) same
            (subst (λ (b : Bool). IsServed (server_goes now rest k (server_hears at (service_of s) rules.machine o b a)) s sent x new t) so did);
        told = away_there free away asked told ∙ ap (λ (b : Bool). is_turned_away at (service_of s) rules.machine o b a) so;
      }

  pub passed : (free : Bool) → free ≡ (begins_request a && place) → (sent : List Datagram) (q : Option Done) (t : Store)
      → IsPassed (idle_by at (service_of s) rules.machine.reads left free a) left k.peer s sent q t
      → IsServed (server_goes now rest k (server_hears at (service_of s) rules.machine o place a)) s sent (acted_of k q) rest t
  passed free asked sent q t did = served_passed now rest k _ _ s t left sent q (hears_as free asked) did none_there

  -- what memory has room for
  pub adds_as : adds_nothing_at rules.machine c now (service_of s) k a e ≡ needs_no_slot at (service_of s) rules.machine.reads a
  adds_as = ap (λ (b : Bool). if b then needs_no_slot at (service_of s) rules.machine.reads a else grows_none_at left a) none_there

-- The entry of the key is not live, or ends.

pub dead_ends : (rules : ServerRules) (now : ℕ) (d : ServerTransaction) (a : Apdu) → is_live now d ≡ false → false ≡ ends_entry rules now (Some d) a
dead_ends rules now d a dead = sym (ap (λ (b : Bool). b && is_ended rules now d a) dead)

pub dead_left : (rules : ServerRules) (now : ℕ) (d : ServerTransaction) (a : Apdu) → is_live now d ≡ false
    → is_none_live now (entry_left rules now (Some d) a) ≡ true
dead_left rules now d a dead =
    ap (λ (b : Bool). is_none_live now (if b then None else Some d)) (sym (dead_ends rules now d a dead))
    ∙ ap (λ (b : Bool). if b then false else true) dead

pub ended_ends : (rules : ServerRules) (now : ℕ) (d : ServerTransaction) (a : Apdu) → is_live now d ≡ true → is_ended rules now d a ≡ true
    → true ≡ ends_entry rules now (Some d) a
ended_ends rules now d a live ended = sym (ap (λ (b : Bool). b && is_ended rules now d a) live ∙ ended)

pub ended_left : (rules : ServerRules) (now : ℕ) (d : ServerTransaction) (a : Apdu) → is_live now d ≡ true → is_ended rules now d a ≡ true
    → is_none_live now (entry_left rules now (Some d) a) ≡ true
ended_left rules now d a live ended = ap (λ (b : Bool). is_none_live now (if b then None else Some d)) (sym (ended_ends rules now d a live ended))

-- An end that is the same hears as well.

pub hears_still : (rules : EndRules) (c : Settings) (now : ℕ) (key : keys.PeerKey) (a : Apdu) (e old : ServerEnd) (s : Store) (x : Result (Option Served) NoMemory)
    (new : ServerEnd) (t : Store) → e ≡ old → Hears rules c now key a e s x new t → Hears rules c now key a old s x new t
hears_still rules c now key a e old s x new t same h = subst (λ (d : ServerEnd). Hears rules c now key a d s x new t) same h

pub heeds_still : (room : Bool) (rules : EndRules) (c : Settings) (now : ℕ) (key : keys.PeerKey) (a : Apdu) (e old : ServerEnd) (s : Store)
    (x : Result (Option Served) NoMemory) → e ≡ old → HeedsRoomAt room rules c now key a e s x → HeedsRoomAt room rules c now key a old s x
heeds_still room rules c now key a e old s x same h = subst (λ (d : ServerEnd). HeedsRoomAt room rules c now key a d s x) same h

-- A live entry goes on.

module _ (rules : EndRules) (c : Settings) (now : ℕ) (key : PeerKey) (a : Apdu) (slots : Slots) (capacity : ℕ) (restart : Option ℕ) (s : Store)
    (d : ServerTransaction) (there : value_at same_key (peer_key_view key) (slots_view slots) ≡ Some d) (live : is_live now d ≡ true)
    (stays : is_ended rules.machine now d a ≡ false) where
  abbrev live_key : keys.PeerKey
  live_key = peer_key_view key

  abbrev live_end : ServerEnd
  live_end = end_of slots capacity restart

  abbrev live_at : Context
  live_at = context_of c now live_key

  abbrev present : Option ServerTransaction
  present = value_at same_key live_key (slots_view slots)

  ends_not : ends_entry rules.machine now present a ≡ false
  ends_not = ap (λ (x : Option ServerTransaction). ends_entry rules.machine now x a) there ∙ ap (λ (b : Bool). b && is_ended rules.machine now d a) live ∙ stays

  stays_there : entry_left rules.machine now present a ≡ Some d
  stays_there = ap (λ (b : Bool). if b then None else present) ends_not ∙ there

  one_there : is_none_live now (entry_left rules.machine now present a) ≡ false
  one_there = ap (is_none_live now) stays_there ∙ ap (λ (b : Bool). if b then false else true) live

  all_left : live_end ≡ end_left rules.machine now live_key a live_end
  all_left = sym (ap (λ (b : Bool). record live_end { slots = slots_left b live_key (slots_view slots) }) ends_not)

  goes_on : (free : Bool) → server_hears live_at (service_of s) rules.machine present free a ≡ live_on_apdu live_at (service_of s) d d.state a
  goes_on free =
      ap (λ (x : Option ServerTransaction). server_hears live_at (service_of s) rules.machine x free a) there ∙ at_live live_at (service_of s) rules.machine d free a false live stays

  pub heard_live : (sent : List Datagram) (x : Option Acted) (away : Bool) (new : ServerEnd) (t : Store) → away ≡ false
      → IsServed (server_goes now live_end live_key (live_on_apdu live_at (service_of s) d d.state a)) s sent x new t
      → IsHeard rules c now live_key a live_end s sent x away new t
  heard_live sent x away new t none did =
      let free : Bool = has_place rules now live_key a live_end in
      record {
        turn = subst (λ (l : ServerEnd). IsServed (server_goes now l live_key (server_hears live_at (service_of s) rules.machine present free a)) s sent x new t) all_left
            (subst (λ (r : Reaction). IsServed (server_goes now live_end live_key r) s sent x new t) (sym (goes_on free)) did);
        told = none ∙ sym (ap (λ (b : Bool). b && (needs_slot live_at (service_of s) rules.machine.reads a && not free)) one_there);
      }

  pub adds_live_as : adds_nothing_at rules.machine c now (service_of s) live_key a live_end ≡ grows_none d.state a
  adds_live_as =
      ap (λ (x : Option ServerTransaction). adds_nothing live_at (service_of s) rules.machine.reads x a) stays_there
      ∙ ap (λ (b : Bool). if (if b then false else true) then needs_no_slot live_at (service_of s) rules.machine.reads a else grows_none d.state a) live
