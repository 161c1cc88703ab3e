-- Slots that are shared among addresses (own rule of this profile): no address shuts out the others.
use Rattle.std.specs.Prelude.{ℕ, ◌-◌, ◌*◌, Bool, false, ◌&&◌, ◌||◌, not, List, take, Option, bytes_eq, count_by, nat_le}
use Rattle.bac_protocol.specs.Reuse.{Reads}
use Rattle.bac_protocol.specs.Serving as machine
use Rattle.bac_protocol.specs.Serving.{ServerRules}
use Rattle.bac_transaction.specs.Ends.{ServerEnd, ServerSlot, is_free, is_slot_live}
use Rattle.bac_transaction.specs.Keys.{PeerKey}

-- the rules of a server's end: those of its machine, and whether its slots are shared among addresses
pub record EndRules : Type 0 where
  pub machine : ServerRules
  pub share : Bool

-- the rules that each server has where none are named
abbrev pub STRICT : EndRules
STRICT = record { machine = machine.STRICT; share = false }

-- reads are performed anew, a request that is over is remembered so long, and slots are shared or not
abbrev pub fresh_rules : Reads → (remember : Option ℕ) → (share : Bool) → EndRules
fresh_rules reads remember share = record { machine = machine.fresh_rules reads remember; share = share }

-- the IP address of a link, without its UDP port (clause J.1.2)
abbrev pub address_of : (link : List ℕ) → List ℕ
address_of link = take 4 link

-- a live entry of a peer at that IP address
abbrev pub is_held_at : ℕ → (address : List ℕ) → ServerSlot → Bool
is_held_at now address s = bytes_eq (address_of s.key.peer.link) address && is_slot_live now s

-- how many slots have one
abbrev pub held_at : ℕ → (address : List ℕ) → ServerEnd → ℕ
held_at now address e = count_by (is_held_at now address) e.slots

-- how many slots have no live entry
abbrev pub free_slots : ℕ → ServerEnd → ℕ
free_slots now e = e.capacity - count_by (is_slot_live now) e.slots

-- an address holds at most 15 live entries for each slot that stays free once one more begins
abbrev pub has_share : ℕ → (address : List ℕ) → ServerEnd → Bool
has_share now address e = nat_le (held_at now address e) (15 * (free_slots now e - 1))

-- an entry of that key may begin: a slot is free, and where slots are shared, it takes that of the entry that its request ends, or its address has a share
abbrev pub may_begin : (share ends : Bool) → (now : ℕ) → PeerKey → ServerEnd → Bool
may_begin share ends now key e = (not share || (ends || has_share now (address_of key.peer.link) e)) && is_free now e
