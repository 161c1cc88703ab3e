-- The entry of a write in the reply table of a node.
use Rattle.std.proofs.Common.{◌≡◌, ℕ, ◌+◌, ◌≤◌, Bool, true, List, Option, Some, None, sym, ap, subst, ◌∙◌, arith}
use Rattle.bac_apdu.specs.Apdu.{Apdu, Segment}
use Rattle.bac_protocol.specs.declared.times.TheConstants.{KEEP}
use Rattle.bac_protocol.specs.Context.{Context, Settings}
use Rattle.bac_protocol.specs.Reuse.{server_hears}
use Rattle.bac_protocol.specs.Server.{Reaction, ServerTransaction, Service, is_live, live_entry, server_ticks}
use Rattle.bac_protocol.specs.Service.{Octets}
use Rattle.bac_slots.specs.Slots.{IsDistinct, value_at}
use Rattle.bac_transaction.specs.Ends.{ServerSlot, context_of, entry_or, put_entry}
use Rattle.bac_transaction.specs.Keys.{PeerKey, same_key}
use Rattle.bac_transaction.specs.Reuse.{is_read}
use Rattle.bac_transaction.proofs.Entries.{entry_here, entry_there}
use Rattle.bac_world.proofs.Reused.{heard_left, heard_none}
use Rattle.bac_world.proofs.Settings.{slots_heard}
use Rattle.bac_plant.specs.Writes.{IsNoOther, KeptOctets}
use Rattle.bac_plant.proofs.WritesMachine.{IsKeptEntry, Performs, Rests, from_live, hears_rests, live_is, live_until, ticks_kept}

-- the table has it at that key
pub record HasKept (begin choice : ℕ) (request : KeptOctets) (key : PeerKey) (slots : List ServerSlot) : Type 0 where
  pub entry : ServerTransaction
  pub there : value_at same_key key slots ≡ Some entry
  pub kept : IsKeptEntry begin choice request entry

-- An APDU of that key is heard.
module _ (now : ℕ) (reuse : Bool) (c : Settings) (service : Service) (q : PeerKey) (apdu : Apdu) (slots : List ServerSlot)
    (distinct : IsDistinct same_key slots) (free : Bool) where
  abbrev pub hearing : Option ServerTransaction → Reaction
  hearing o = server_hears reuse (context_of c now q) service is_read o free apdu

  abbrev pub heard : Reaction
  heard = hearing (value_at same_key q slots)

  abbrev left : List ServerSlot
  left = slots_heard reuse now q apdu slots

  abbrev pub table : List ServerSlot
  table = put_entry now q heard.entry left

  distinct_left : IsDistinct same_key left
  distinct_left = (heard_left q reuse now apdu slots).distinct distinct

  others : (p : PeerKey) → (q ≡ p → ⊥) → live_entry now (value_at same_key p table) ≡ live_entry now (value_at same_key p slots)
  others p ne = entry_there now q left distinct_left heard.entry p ne ∙ ap (live_entry now) ((heard_left q reuse now apdu slots).others p ne)

  here : live_entry now (value_at same_key q table) ≡ live_entry now heard.entry
  here = entry_here now q left distinct_left heard.entry (heard_none q reuse (context_of c now q) service free apdu slots distinct)

  -- where it performs a write, the entry of that is there
  pub performs_there : (segment : Option Segment) (choice : ℕ) (octets : Octets) (p : Performs now segment choice octets heard)
      → value_at same_key q table ≡ Some p.entry
  performs_there segment choice octets p = from_live now (value_at same_key q table) p.entry
      (here ∙ ap (live_entry now) p.entry_is ∙ live_is now p.entry p.live)

  module _ (begin choice : ℕ) (request : KeptOctets) (young : now ≤ begin + KEEP) where
    alive : (e : ServerTransaction) → IsKeptEntry begin choice request e → is_live now e ≡ true
    alive e k = live_until now e (let b = k.begin_is in omega arith)

    -- the entry of another key stays
    pub other_kept : (key : PeerKey) → (q ≡ key → ⊥) → HasKept begin choice request key slots → HasKept begin choice request key table
    other_kept key ne h = record {
      entry = h.entry;
      there = from_live now (value_at same_key key table) h.entry
          (others key ne ∙ ap (live_entry now) h.there ∙ live_is now h.entry (alive h.entry h.kept));
      kept = h.kept;
    }

    -- its own stays too, and nothing is performed
    module _ (h : HasKept begin choice request q slots) (same_as : IsNoOther choice request apdu) where
      rests : Rests choice begin request heard
      rests = subst (λ o. Rests choice begin request (hearing o)) (sym h.there)
          (hears_rests choice (context_of c now q) service free begin request h.entry (alive h.entry h.kept) h.kept apdu reuse same_as)

      pub none_performed : heard.effect ≡ None
      none_performed = rests.effect

      pub own_kept : HasKept begin choice request q table
      own_kept = record {
        entry = rests.entry;
        there = from_live now (value_at same_key q table) rests.entry
            (here ∙ ap (live_entry now) rests.entry_is ∙ live_is now rests.entry (alive rests.entry rests.kept));
        kept = rests.kept;
      }

-- A tick.
pub tick_kept : (begin choice : ℕ) (request : KeptOctets) (c : Context) (e : ServerTransaction) → c.now ≤ begin + KEEP → IsKeptEntry begin choice request e
    → IsKeptEntry begin choice request (entry_or e (server_ticks c (Some e)).entry)
tick_kept begin choice request c e young k =
    let d = ticks_kept begin choice request c e (live_until c.now e (let b = k.begin_is in omega arith)) k in
    subst (λ o. IsKeptEntry begin choice request (entry_or e o)) (sym d.1) d.2
