-- What a server that lets invoke IDs be used again does and doesn't, whatever comes: laws of its machine.
use Rattle.std.specs.Prelude.{◌≡◌, ℕ, ◌⊎◌, Bool, true, false, [], ◌∷◌, Option, Some, None}
use Rattle.bac_apdu.specs.Apdu.{Apdu, Limits, Segment}
use Rattle.bac_apdu.specs.Apdu.Apdu.{ConfirmedRequest}
use Rattle.bac_protocol.specs.Context.{Context}
use Rattle.bac_protocol.specs.Reuse.{Reads, ends_entry, ends_with_reply, is_other_first, is_over, reusing_on_apdu, server_hears}
use Rattle.bac_protocol.specs.Server.{Effect, Reaction, ServerTransaction, Service, is_kept, is_live, is_none_live, reply_apdu, rests, server_on_apdu}
use Rattle.bac_protocol.specs.Service.{Octets, Reply}
use Rattle.bac_protocol.specs.Service.Outcome.{Replies}
use Rattle.bac_protocol.specs.Sizes.{reply_way_of}
use Rattle.bac_protocol.specs.Sizes.Way.{InOne}
use Rattle.bac_protocol.specs.Steps.{MayPerform}

-- Where a live entry is not over and does not end with its reply, or its own request comes again and is no read, the machine does what it does without reuse.
pub record GoesOnAsEver : Type 0 where
  pub off : (c : Context) (service : Service) (reads : Reads) (entry : Option ServerTransaction) (free : Bool) (a : Apdu)
      → server_hears false c service reads entry free a ≡ server_on_apdu c service entry free a
  pub going : (c : Context) (service : Service) (reads : Reads) (e : ServerTransaction) (free : Bool) (a : Apdu) → is_live c.now e ≡ true
      → is_over e.state ≡ false → ends_with_reply reads e a ≡ false
      → reusing_on_apdu c service reads (Some e) free a ≡ server_on_apdu c service (Some e) free a
  pub kept : (c : Context) (service : Service) (reads : Reads) (e : ServerTransaction) (free : Bool) (limits : Limits) (id choice : ℕ) (octets : Octets)
      → is_live c.now e ≡ true → reads choice ≡ false → is_kept e e.request choice octets ≡ true
      → reusing_on_apdu c service reads (Some e) free (ConfirmedRequest limits id None choice octets)
      ≡ server_on_apdu c service (Some e) free (ConfirmedRequest limits id None choice octets)
  pub segments : (c : Context) (service : Service) (reads : Reads) (e : ServerTransaction) (free : Bool) (limits : Limits) (id choice : ℕ) (segment : Segment)
      (octets : Octets) → is_live c.now e ≡ true → (segment.number ≡ 0 → is_other_first e e.first choice octets ≡ false)
      → reusing_on_apdu c service reads (Some e) free (ConfirmedRequest limits id (Some segment) choice octets)
      ≡ server_on_apdu c service (Some e) free (ConfirmedRequest limits id (Some segment) choice octets)

-- A request is performed only where no entry is live, or one is in SEGMENTED_REQUEST, or the APDU ends the one that is: so an equal request that is no read
-- is performed once while its entry lives.
abbrev pub PerformsWhereEnded : Type 0
PerformsWhereEnded =
    (c : Context) (service : Service) (reads : Reads) (entry : Option ServerTransaction) (free : Bool) (a : Apdu) (x : Effect)
    → (reusing_on_apdu c service reads entry free a).effect ≡ Some x → MayPerform c.now entry ⊎ (ends_entry reads c.now entry a ≡ true)

-- Where a live entry ends with its reply, none is left, and nothing is sent; without reuse nothing is sent either, and the entry is over then.
pub record EndsWithReply : Type 0 where
  pub ends : (c : Context) (service : Service) (reads : Reads) (e : ServerTransaction) (free : Bool) (a : Apdu) → is_live c.now e ≡ true
      → ends_with_reply reads e a ≡ true → reusing_on_apdu c service reads (Some e) free a ≡ rests None []
  pub else_over : (c : Context) (service : Service) (reads : Reads) (e : ServerTransaction) (free : Bool) (a : Apdu) → is_live c.now e ≡ true
      → ends_with_reply reads e a ≡ true
      → (d : ServerTransaction) × (server_on_apdu c service (Some e) free a ≡ rests (Some d) []) × (is_over d.state ≡ true)

-- what comes of a read whose reply is one APDU
abbrev pub fresh_read : Context → Option ServerTransaction → (choice : ℕ) → Octets → Reply → Reaction
fresh_read c entry choice octets reply =
    record {
      entry = entry;
      sends = reply_apdu c choice reply ∷ [];
      effect = Some (record { request = record { choice = choice; service = octets }; reply = reply });
    }

-- A read without SEG whose reply is one APDU is performed, whether a slot is free or not, where no entry of its key is live or that is over, and leaves none.
pub record ReadsAreFresh : Type 0 where
  pub none : (c : Context) (service : Service) (reads : Reads) (entry : Option ServerTransaction) (free : Bool) (limits : Limits) (id choice : ℕ) (octets : Octets)
      (reply : Reply) → is_none_live c.now entry ≡ true → reads choice ≡ true → service choice octets ≡ Replies reply
      → reply_way_of c.settings limits reply ≡ InOne
      → reusing_on_apdu c service reads entry free (ConfirmedRequest limits id None choice octets) ≡ fresh_read c entry choice octets reply
  pub over : (c : Context) (service : Service) (reads : Reads) (e : ServerTransaction) (free : Bool) (limits : Limits) (id choice : ℕ) (octets : Octets)
      (reply : Reply) → is_live c.now e ≡ true → is_over e.state ≡ true → reads choice ≡ true → service choice octets ≡ Replies reply
      → reply_way_of c.settings limits reply ≡ InOne
      → reusing_on_apdu c service reads (Some e) free (ConfirmedRequest limits id None choice octets) ≡ fresh_read c None choice octets reply
