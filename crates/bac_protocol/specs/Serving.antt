-- The server's machine by its rules: whether reads are performed anew and invoke IDs may be used again, and for how long a request that is over is remembered.
-- All that is not said here is as in Server and Reuse; under the strict rules everything is as in Server.
use Rattle.std.specs.Prelude.{ℕ, Bool, true, false, ◌&&◌, ◌||◌, not, ◌-◌, [], Option, Some, None, if◌then◌else◌, nat_eq, nat_lt}
use Rattle.bac_apdu.specs.Apdu.{Apdu}
use Rattle.bac_apdu.specs.Apdu.Apdu.{ConfirmedRequest}
use Rattle.bac_protocol.specs.Context.{Context}
use Rattle.bac_protocol.specs.Server.{Reaction, ServerTransaction, Service, begins, idle_on_apdu, is_live, is_none_live, live_on_apdu, performs}
use Rattle.bac_protocol.specs.Reuse.{Reads, has_transfer, idle_reusing, is_ended_by, is_over}

-- how reads are served
pub data ReadRule : Type 0 where
  -- as each request: its reply is kept, and while its entry lives, its invoke ID is that of no other request
  Kept : ReadRule
  -- a read is performed each time that it comes, and an invoke ID may be used again as soon as its transaction is over (clause 5.4)
  Fresh : (reads : Reads) → ReadRule

-- the rules of a server
pub record ServerRules : Type 0 where
  pub reads : ReadRule
  pub remember : Option ℕ  -- for how many milliseconds, from its beginning on, a request that is over is remembered; None: as long as its entry lives

-- the rules that each server has where none are named
abbrev pub STRICT : ServerRules
STRICT = record { reads = Kept; remember = None }

-- reads are performed anew, and a request that is over is remembered so long
abbrev pub fresh_rules : Reads → (remember : Option ℕ) → ServerRules
fresh_rules reads remember = record { reads = Fresh reads; remember = remember }

-- an APDU that begins a request: one without SEG, or its segment 0
abbrev pub begins_request : Apdu → Bool
begins_request (ConfirmedRequest limits invoke_id None choice octets) = true
begins_request (ConfirmedRequest limits invoke_id (Some segment) choice octets) = nat_eq segment.number 0
begins_request _ = false

-- an APDU comes where no entry is live; free says whether an entry may begin
abbrev pub idle_by : Context → Service → ReadRule → (dead : Option ServerTransaction) → (free : Bool) → Apdu → Reaction
idle_by c service Kept dead free a = idle_on_apdu c service dead free a
idle_by c service (Fresh reads) dead free a = idle_reusing c service reads dead free a

-- Where an entry is live.

-- the APDU uses the entry's invoke ID again, or is the last one of its transaction, as Reuse has it
abbrev pub is_used_again : ReadRule → ServerTransaction → Apdu → Bool
is_used_again Kept e a = false
is_used_again (Fresh reads) e a = is_ended_by reads e a

-- an entry that is over and began more than so many milliseconds ago is forgotten when an APDU comes that begins a request
abbrev pub is_forgotten : (remember : Option ℕ) → (now : ℕ) → ServerTransaction → Apdu → Bool
is_forgotten None now e a = false
is_forgotten (Some limit) now e a = begins_request a && (is_over e.state && nat_lt limit (now - e.begin))

-- the APDU ends the entry, which then counts as none
abbrev pub is_ended : ServerRules → (now : ℕ) → ServerTransaction → Apdu → Bool
is_ended rules now e a = is_used_again rules.reads e a || is_forgotten rules.remember now e a

-- the same of the entry of its key, if that is live
abbrev pub ends_entry : ServerRules → (now : ℕ) → Option ServerTransaction → Apdu → Bool
ends_entry rules now None a = false
ends_entry rules now (Some e) a = is_live now e && is_ended rules now e a

-- the entry, unless the APDU ends it
abbrev pub entry_left : ServerRules → (now : ℕ) → Option ServerTransaction → Apdu → Option ServerTransaction
entry_left rules now entry a = if ends_entry rules now entry a then None else entry

-- an APDU comes for a live entry, which it ends or not
abbrev pub live_by : Context → Service → ReadRule → ServerTransaction → (ends : Bool) → (free : Bool) → Apdu → Reaction
live_by c service reads e true free a = idle_by c service reads None free a
live_by c service reads e false free a = live_on_apdu c service e e.state a

-- an APDU comes for the entry's peer and invoke ID; free says whether, without an entry that it ends, a slot of the reply table has no live one
abbrev pub server_hears : Context → Service → ServerRules → Option ServerTransaction → (free : Bool) → Apdu → Reaction
server_hears c service rules None free a = idle_by c service rules.reads None free a
server_hears c service rules (Some e) free a =
    if is_live c.now e then live_by c service rules.reads e (is_ended rules c.now e a) free a else idle_by c service rules.reads (Some e) free a

-- Which requests are turned away.

-- a read without SEG that begins no entry: its reply is one APDU, or it gets a Reject or an Abort
abbrev pub is_read_in_one : Context → Service → Reads → Apdu → Bool
is_read_in_one c service reads (ConfirmedRequest limits invoke_id None choice octets) =
    reads choice && not (has_transfer (performs c service (begins c choice limits (Some octets)) [] octets).entry)
is_read_in_one c service reads (ConfirmedRequest limits invoke_id (Some segment) choice octets) = false
is_read_in_one c service reads _ = false

-- where no entry is live, the APDU is served though none may begin
abbrev pub needs_no_slot : Context → Service → ReadRule → Apdu → Bool
needs_no_slot c service Kept a = false
needs_no_slot c service (Fresh reads) a = is_read_in_one c service reads a

-- where no entry is live, the APDU is a request for which one has to begin
abbrev pub needs_slot : Context → Service → ReadRule → Apdu → Bool
needs_slot c service reads a = begins_request a && not (needs_no_slot c service reads a)

-- an APDU for the entry is turned away: no entry is live, or it ends the one that is, and one has to begin, but none may
abbrev pub is_turned_away : Context → Service → ServerRules → Option ServerTransaction → (free : Bool) → Apdu → Bool
is_turned_away c service rules entry free a =
    is_none_live c.now (entry_left rules c.now entry a) && (needs_slot c service rules.reads a && not free)
