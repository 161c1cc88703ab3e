-- What a server's end does under its rules. Each type here is proved as a law.
use Rattle.std.specs.Prelude.{◌≡◌, ◌≤◌, ℕ, ◌+◌, ◌*◌, Bool, true, false, List, Some, None, count_by}
use Rattle.bac_apdu.specs.Apdu.{Apdu}
use Rattle.bac_npdu.specs.Peers.{PeerView}
use Rattle.bac_protocol.specs.Context.{Settings}
use Rattle.bac_protocol.specs.Server.{Service}
use Rattle.bac_protocol.specs.declared.times.TheConstants.{KEEP}
use Rattle.bac_transaction.specs.Ends.{ServerEnd, is_free, is_slot_live, key_of, responder_on_apdu, waits_to_serve}
use Rattle.bac_transaction.specs.Reuse.{is_read, responder_reusing}
use Rattle.bac_transaction.specs.Serving.{end_left, has_place, is_turned_away_by, responder_by}
use Rattle.bac_transaction.specs.Sharing.{EndRules, STRICT, address_of, fresh_rules, free_slots, has_share, held_at}
use Rattle.bac_transaction.specs.Tables.{IsOrderlyServer, IsTurnedAway}

-- under the strict rules an end does what Ends says, word for word
abbrev pub StrictIsResponder : Type 0
StrictIsResponder =
    (c : Settings) (now : ℕ) (service : Service) (peer : PeerView) (a : Apdu) (e : ServerEnd)
    → responder_by STRICT c now service peer a e ≡ responder_on_apdu c now service peer a e

-- where a request is remembered as long as its entry lives, the rules of fresh reads are those of Reuse
abbrev pub FreshIsReusing : Type 0
FreshIsReusing =
    (share : Bool) (c : Settings) (now : ℕ) (service : Service) (peer : PeerView) (a : Apdu) (e : ServerEnd)
    → responder_by (fresh_rules is_read None share) c now service peer a e ≡ responder_reusing share c now service peer a e

-- remembering a request for as long as an entry can live, or longer, forgets none
abbrev pub RemembersAll : Type 0
RemembersAll =
    (rules : EndRules) (limit : ℕ) (c : Settings) (now : ℕ) (service : Service) (peer : PeerView) (a : Apdu) (e : ServerEnd) → KEEP ≤ limit
    → responder_by (record rules { machine = record rules.machine { remember = Some limit } }) c now service peer a e
    ≡ responder_by (record rules { machine = record rules.machine { remember = None } }) c now service peer a e

-- A request that is turned away gets an Abort with the reason 'other', nothing is performed, and no entry begins: all stay, but one that it ends. None may begin
-- then, so it ends none, unless the end waits after a restart. Where slots are not shared, none may begin exactly where no slot is free or the end waits.
pub record TurnsAwayBy : Type 0 where
  pub away : (rules : EndRules) (c : Settings) (now : ℕ) (service : Service) (peer : PeerView) (a : Apdu) (e : ServerEnd)
      → is_turned_away_by rules c now service peer a e ≡ true
      → IsTurnedAway peer a (end_left rules.machine now (key_of peer a) a e) (responder_by rules c now service peer a e)
  pub full : (rules : EndRules) (c : Settings) (now : ℕ) (service : Service) (peer : PeerView) (a : Apdu) (e : ServerEnd)
      → is_turned_away_by rules c now service peer a e ≡ true → has_place rules now (key_of peer a) a e ≡ false
  pub strict : (rules : EndRules) (now : ℕ) (peer : PeerView) (a : Apdu) (e : ServerEnd) → rules.share ≡ false
      → has_place rules now (key_of peer a) a e ≡ is_free now (end_left rules.machine now (key_of peer a) a e)
  pub stays : (rules : EndRules) (c : Settings) (now : ℕ) (service : Service) (peer : PeerView) (a : Apdu) (e : ServerEnd) → IsOrderlyServer e
      → waits_to_serve now e ≡ false → is_turned_away_by rules c now service peer a e ≡ true → end_left rules.machine now (key_of peer a) a e ≡ e

-- Slots that are shared.
pub record SharesSlots : Type 0 where
  -- a request of an address that has a share is served while a slot is free and the end does not wait
  pub served : (rules : EndRules) (c : Settings) (now : ℕ) (service : Service) (peer : PeerView) (a : Apdu) (e : ServerEnd)
      → has_share now (address_of peer.link) (end_left rules.machine now (key_of peer a) a e) ≡ true
      → is_free now (end_left rules.machine now (key_of peer a) a e) ≡ true → is_turned_away_by rules c now service peer a e ≡ false
  -- one that holds none has a share
  pub first : (now : ℕ) (address : List ℕ) (e : ServerEnd) → held_at now address e ≡ 0 → has_share now address e ≡ true
  -- one that holds some has none in the last free slot,
  pub last : (now : ℕ) (address : List ℕ) (e : ServerEnd) → has_share now address e ≡ true → 1 ≤ held_at now address e → 2 ≤ free_slots now e
  -- and one that holds all that are live never fills more than (15 n + 1)/16 of n slots
  pub alone : (now : ℕ) (address : List ℕ) (e : ServerEnd) → has_share now address e ≡ true → is_free now e ≡ true
      → held_at now address e ≡ count_by (is_slot_live now) e.slots → 16 * (held_at now address e + 1) ≤ 15 * e.capacity + 1
