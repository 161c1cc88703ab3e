-- Invoke IDs that are free, whatever the rule of the servers.
use Rattle.std.proofs.Common.{◌≡◌, ℕ, Bool, true, false, ◌&&◌, not, Option, Some, None, slice_get, if◌then◌else◌, refl, sym, ap, ◌∙◌}
use Rattle.bac_protocol.specs.Service.{Octets}
use Rattle.bac_protocol.specs.Server.{ServerTransaction, live_entry, is_live, is_none_live}
use Rattle.bac_protocol.specs.Transaction.{Key, Rules}
use Rattle.bac_protocol.specs.Pace.{Clock}
use Rattle.bac_protocol.specs.World.{Net, server_now, is_id_held, is_lost, is_key_held}
use Rattle.bac_protocol.specs.Claims as claims
use Rattle.bac_protocol.proofs.SingleMoves.{in_order}
use Rattle.bac_slots.specs.Slots.{value_at}
use Rattle.bac_transaction.specs.Keys.{same_key}
use Rattle.bac_transaction.specs.Ends as ends
use Rattle.bac_transaction.specs.Ends.{waits_to_ask}
use Rattle.bac_reuse.proofs.ReusingMoves.{in_order_so_in}
use Rattle.bac_world.specs.Node.{Node}
use Rattle.bac_world.specs.World.{World, told, peer_at}
use Rattle.bac_world.proofs.Asking.{free_ticket, key_free}
use Rattle.bac_world.proofs.Bridge.{here_at, key_of, slot_key}
use Rattle.bac_world.proofs.Machines.{Sound}
use Rattle.bac_world.proofs.Settings.{Setting, reusing_in}
use Rattle.bac_world.proofs.Steps.{Over}
use Rattle.bac_liveness.specs.FreeIds.{HasNoneLive}

none_live : (now : ℕ) (o : Option ServerTransaction) → is_none_live now o ≡ true → live_entry now o ≡ None
none_live now None e = refl
none_live now (Some e) dead = go (is_live now e) dead
  where
    go : (b : Bool) → (if b then false else true) ≡ true → (if b then Some e else None) ≡ None
    go true e = absurd cc
    go false e = refl

-- no entry is live for an invoke ID that is free
dead_in : (W : ℕ) (x : Rules) (set : Setting) → claims.IsBounded W x → (n : Net) → Sound W x set n → (key : Key) → is_id_held n key ≡ false
    → is_none_live (server_now n key) (n.entries key) ≡ true
dead_in W x None bound n s key free = (in_order W x bound s.0 s.2 s.1 n s.3).dead key free
dead_in W x (Some m) bound n s key free = (in_order_so_in W (reusing_in (Some m)) s.0 s.2 s.1 m.now n s.3).dead key free

module _ (links : ℕ → Option Octets) (apart : (i j : ℕ) (l : Octets) → links i ≡ Some l → links j ≡ Some l → i ≡ j) (W : ℕ) (x : Rules) (set : Setting)
    (bound : claims.IsBounded W x) (w : World) (n : Net) (h : Over links apart W x set w n) (i j : ℕ) (a b : Node) (at : slice_get w.nodes i ≡ Some a)
    (there : slice_get w.nodes j ≡ Some b) (id : ℕ) (free : ends.is_id_held (told w i) a.clients.slots (peer_at b.link) id ≡ false)
    (awake : waits_to_ask (told w i) a.clients ≡ false) where
  abbrev key : Key
  key = key_of i j id

  here_is : here_at n i ≡ told w i
  here_is = ap (λ (y : Clock). y.shows) (h.here i)

  unheld : (not (is_lost n key) && is_key_held (here_at n i) (n.tickets key)) ≡ false
  unheld = free_ticket (is_lost n key) (here_at n i) w.notes i (n.numbers key) (value_at same_key (slot_key b.link id) a.clients.slots) (n.tickets key)
      ((h.nodes i a at).clients.found j b.link id (h.nodes j b there).link)
      (ap (λ (now : ℕ). ends.is_id_held now a.clients.slots (peer_at b.link) id) here_is ∙ free)

  dead : live_entry (server_now n key) (n.entries key) ≡ None
  dead = none_live (server_now n key) (n.entries key) (dead_in W x set bound n h.sound key
      (key_free n key a.clients (h.nodes i a at).asks (ap (λ (now : ℕ). waits_to_ask now a.clients) here_is ∙ awake) unheld))

  pub unused : HasNoneLive (told w j) b a id
  unused = ap (λ (c : Clock). live_entry c.shows (value_at same_key (slot_key a.link id) b.servers.slots)) (sym (h.there j))
      ∙ (h.nodes j b there).servers.found i a.link id (h.nodes i a at).link ∙ dead
