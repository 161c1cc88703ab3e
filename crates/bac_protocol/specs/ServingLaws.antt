-- What a server does and doesn't under its rules, whatever comes: laws of its machine.
use Rattle.std.specs.Prelude.{◌≡◌, ◌≤◌, ℕ, ◌⊎◌, Bool, true, false, [], ◌∷◌, Option, Some, None}
use Rattle.bac_apdu.specs.Apdu.{Apdu, Limits, Segment}
use Rattle.bac_apdu.specs.Apdu.Apdu.{ConfirmedRequest}
use Rattle.bac_protocol.specs.Context.{Context}
use Rattle.bac_protocol.specs.Reuse.{Reads, ends_with_reply, is_other_first, is_over, reusing_on_apdu}
use Rattle.bac_protocol.specs.ReuseLaws.{fresh_read}
use Rattle.bac_protocol.specs.Server.{Effect, ServerTransaction, Service, is_kept, is_live, is_none_live, live_on_apdu, rests, server_abort, server_on_apdu}
use Rattle.bac_protocol.specs.Service.{OTHER, Octets, Reply}
use Rattle.bac_protocol.specs.Service.Outcome.{Replies}
use Rattle.bac_protocol.specs.Serving.{STRICT, ServerRules, ends_entry, entry_left, fresh_rules, is_forgotten, is_turned_away, server_hears}
use Rattle.bac_protocol.specs.Sizes.{reply_way_of}
use Rattle.bac_protocol.specs.Sizes.Way.{InOne}
use Rattle.bac_protocol.specs.Steps.{MayPerform}
use Rattle.bac_protocol.specs.Times.{KEEP}

-- The strict rules are the machine of Server, whatever comes and whether a slot is free or not.
abbrev pub StrictIsServer : Type 0
StrictIsServer =
    (c : Context) (service : Service) (entry : Option ServerTransaction) (free : Bool) (a : Apdu)
    → server_hears c service STRICT entry free a ≡ server_on_apdu c service entry free a

-- Where a request is remembered as long as its entry lives, the rules of fresh reads are the machine of Reuse.
abbrev pub FreshIsReuse : Type 0
FreshIsReuse =
    (c : Context) (service : Service) (reads : Reads) (entry : Option ServerTransaction) (free : Bool) (a : Apdu)
    → server_hears c service (fresh_rules reads None) entry free a ≡ reusing_on_apdu c service reads entry free a

-- Remembering a request for as long as an entry can live, or longer, forgets none.
abbrev pub RemembersAll : Type 0
RemembersAll =
    (c : Context) (service : Service) (rules : ServerRules) (limit : ℕ) (entry : Option ServerTransaction) (free : Bool) (a : Apdu) → KEEP ≤ limit
    → server_hears c service (record rules { remember = Some limit }) entry free a ≡ server_hears c service (record rules { remember = None }) entry free a

-- Where a live entry is not over and does not end with its reply, or its own request comes again, is no read and is remembered, it goes on as in Server.
pub record GoesOnAsEver : Type 0 where
  pub going : (c : Context) (service : Service) (reads : Reads) (remember : Option ℕ) (e : ServerTransaction) (free : Bool) (a : Apdu)
      → is_live c.now e ≡ true → is_over e.state ≡ false → ends_with_reply reads e a ≡ false
      → server_hears c service (fresh_rules reads remember) (Some e) free a ≡ live_on_apdu c service e e.state a
  pub kept : (c : Context) (service : Service) (reads : Reads) (remember : Option ℕ) (e : ServerTransaction) (free : Bool) (limits : Limits)
      (id choice : ℕ) (octets : Octets) → is_live c.now e ≡ true → reads choice ≡ false → is_kept e e.request choice octets ≡ true
      → is_forgotten remember c.now e (ConfirmedRequest limits id None choice octets) ≡ false
      → server_hears c service (fresh_rules reads remember) (Some e) free (ConfirmedRequest limits id None choice octets)
      ≡ live_on_apdu c service e e.state (ConfirmedRequest limits id None choice octets)
  pub segments : (c : Context) (service : Service) (reads : Reads) (remember : Option ℕ) (e : ServerTransaction) (free : Bool)
      (limits : Limits) (id choice : ℕ) (segment : Segment) (octets : Octets) → is_live c.now e ≡ true
      → (segment.number ≡ 0 → is_other_first e e.first choice octets ≡ false)
      → is_forgotten remember c.now e (ConfirmedRequest limits id (Some segment) choice octets) ≡ false
      → server_hears c service (fresh_rules reads remember) (Some e) free (ConfirmedRequest limits id (Some segment) choice octets)
      ≡ live_on_apdu c service e e.state (ConfirmedRequest limits id (Some segment) choice octets)

-- A request is performed only where no entry is live, or one is in SEGMENTED_REQUEST, or the APDU ends the one that is.
abbrev pub PerformsWhereEnded : Type 0
PerformsWhereEnded =
    (c : Context) (service : Service) (rules : ServerRules) (entry : Option ServerTransaction) (free : Bool) (a : Apdu) (x : Effect)
    → (server_hears c service rules entry free a).effect ≡ Some x → MayPerform c.now entry ⊎ (ends_entry rules c.now entry a ≡ true)

-- Where a live entry ends with its reply, none is left, and nothing is sent.
abbrev pub EndsWithReply : Type 0
EndsWithReply =
    (c : Context) (service : Service) (reads : Reads) (remember : Option ℕ) (e : ServerTransaction) (free : Bool) (a : Apdu)
    → is_live c.now e ≡ true → ends_with_reply reads e a ≡ true
    → server_hears c service (fresh_rules reads remember) (Some e) free a ≡ rests None []

-- A read without SEG whose reply is one APDU is performed, whether it may begin an entry or not, where no entry of its key is live or that is over, and leaves
-- none.
pub record ReadsAreFresh : Type 0 where
  pub none : (c : Context) (service : Service) (reads : Reads) (remember : Option ℕ) (entry : Option ServerTransaction) (free : Bool)
      (limits : Limits) (id choice : ℕ) (octets : Octets) (reply : Reply) → is_none_live c.now entry ≡ true → reads choice ≡ true
      → service choice octets ≡ Replies reply → reply_way_of c.settings limits reply ≡ InOne
      → server_hears c service (fresh_rules reads remember) entry free (ConfirmedRequest limits id None choice octets)
      ≡ fresh_read c entry choice octets reply
  pub over : (c : Context) (service : Service) (reads : Reads) (remember : Option ℕ) (e : ServerTransaction) (free : Bool)
      (limits : Limits) (id choice : ℕ) (octets : Octets) (reply : Reply) → is_live c.now e ≡ true → is_over e.state ≡ true → reads choice ≡ true
      → service choice octets ≡ Replies reply → reply_way_of c.settings limits reply ≡ InOne
      → server_hears c service (fresh_rules reads remember) (Some e) free (ConfirmedRequest limits id None choice octets)
      ≡ fresh_read c None choice octets reply

-- An APDU that is turned away gets an Abort with the reason 'other', and nothing else is done: the entry of its key stays, unless it ends that.
abbrev pub TurnsAway : Type 0
TurnsAway =
    (c : Context) (service : Service) (rules : ServerRules) (entry : Option ServerTransaction) (free : Bool) (a : Apdu)
    → is_turned_away c service rules entry free a ≡ true
    → server_hears c service rules entry free a ≡ rests (entry_left rules c.now entry a) (server_abort c OTHER ∷ [])

-- Whether an entry may begin makes a difference only to what is turned away where none may.
abbrev pub ServesAnyway : Type 0
ServesAnyway =
    (c : Context) (service : Service) (rules : ServerRules) (entry : Option ServerTransaction) (free : Bool) (a : Apdu)
    → is_turned_away c service rules entry free a ≡ false
    → server_hears c service rules entry free a ≡ server_hears c service rules entry true a
