-- Whether nodes let invoke IDs be used again: what both laws of worlds are proved by.
use Rattle.std.proofs.Common.{◌≡◌, ℕ, Bool, true, false, ◌&&◌, List, Option, Some, None, refl, sym, ◌∙◌}
use Rattle.bac_apdu.specs.Apdu.{Apdu}
use Rattle.bac_protocol.specs.Context.{Settings}
use Rattle.bac_protocol.specs.Reuse.{ends_entry, server_hears}
use Rattle.bac_protocol.specs.Server.{Service}
use Rattle.bac_slots.specs.Slots.{value_at}
use Rattle.bac_transaction.specs.Ends.{ServerEnd, ServerSlot, ServerTurn, context_of, is_free, server_goes}
use Rattle.bac_transaction.specs.Keys.{PeerKey, same_key}
use Rattle.bac_transaction.specs.Reuse.{is_read, slots_left}
use Rattle.bac_reuse.specs.Runs.{Reusing}
use Rattle.bac_world.specs.ReusingLogs.{Reuses}

-- those do now, of those that ever do
pub record Mode : Type 0 where
  pub ever : Reuses
  pub now : Reuses
  pub among : (node : ℕ) → now node ≡ true → ever node ≡ true

-- those do, and it stays so
abbrev pub always : Reuses → Mode
always u = record { ever = u; now = u; among = λ node is. is }

-- no node does, or those do
abbrev pub Setting : Type 0
Setting = Option Mode

abbrev pub reuses_in : Setting → Reuses
reuses_in None = λ node. false
reuses_in (Some m) = m.now

abbrev pub ever_in : Setting → Reuses
ever_in None = λ node. false
ever_in (Some m) = m.ever

-- who never does does not now
pub not_now : (set : Setting) (node : ℕ) → ever_in set node ≡ false → reuses_in set node ≡ false
not_now None node off = refl
not_now (Some m) node off = go (m.now node) refl
  where
    go : (b : Bool) → m.now node ≡ b → m.now node ≡ false
    go true is = absurd (let no : true ≡ false = sym (m.among node is) ∙ off in cc)
    go false is = is

abbrev pub reusing_in : Setting → Reusing
reusing_in set = record { reuses = ever_in set; reads = is_read }

-- the reply table, and the server's end, before an APDU of that key is heard: without the entry that it ends, if any
abbrev pub slots_heard : (reuse : Bool) → (now : ℕ) → PeerKey → Apdu → List ServerSlot → List ServerSlot
slots_heard true now key a slots = slots_left (ends_entry is_read now (value_at same_key key slots) a) key slots
slots_heard false now key a slots = slots

abbrev pub end_heard : (reuse : Bool) → (now : ℕ) → PeerKey → Apdu → ServerEnd → ServerEnd
end_heard reuse now key a e = record e { slots = slots_heard reuse now key a e.slots }

-- whether an entry may begin then: a slot is free, and the end allows it, which one that shares its slots may not
abbrev pub free_for : (allowed reuse : Bool) → (now : ℕ) → PeerKey → Apdu → ServerEnd → Bool
free_for allowed reuse now key a e = allowed && is_free now (end_heard reuse now key a e)

-- the turn that such an APDU makes of the end
abbrev pub hears_at : (allowed reuse : Bool) → Settings → (now : ℕ) → Service → PeerKey → Apdu → ServerEnd → ServerTurn
hears_at allowed reuse c now service key a e =
    server_goes now (end_heard reuse now key a e) key
    (server_hears reuse (context_of c now key) service is_read (value_at same_key key e.slots) (free_for allowed reuse now key a e) a)
