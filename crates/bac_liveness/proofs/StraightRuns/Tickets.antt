-- Whether a ticket is open, in the world and in its net.
use Rattle.std.specs.Option.{option_map}
use Rattle.std.proofs.Common.{◌≡◌, ℕ, Bool, true, false, List, Option, Some, None, slice_get, refl, sym, ap, ◌∙◌}
use Rattle.bac_protocol.specs.Service.{Octets}
use Rattle.bac_protocol.specs.Client.{ClientTransaction, is_idle}
use Rattle.bac_protocol.specs.Transaction.{Key, Rules}
use Rattle.bac_protocol.specs.World.{Net, is_lost}
use Rattle.bac_protocol.specs.Straight.{is_ended}
use Rattle.bac_slots.specs.Slots.{value_at}
use Rattle.bac_transaction.specs.Keys.{same_key}
use Rattle.bac_transaction.specs.Ends.{Client, TransactionSlot, kept, open_unless}
use Rattle.bac_transaction.specs.Ends.TransactionSlot.{Open, Closed}
use Rattle.bac_world.specs.Node.{Node}
use Rattle.bac_world.specs.World.{World, Note, link_at}
use Rattle.bac_world.proofs.Bridge.{here_at, TicketFits, slot_key}
use Rattle.bac_world.proofs.Steps.{Over}
use Rattle.bac_world.proofs.Hearing.{closed_idle}
use Rattle.bac_liveness.specs.StraightRuns.{is_open, is_open_at, is_open_slot}

-- One slot and its ticket.
module _ (gone : Bool) (now : ℕ) (notes : List Note) (client number k : ℕ) where
  abbrev Fits : TransactionSlot → Option ClientTransaction → Type 0
  Fits y o = TicketFits gone now notes client number (Some (record { number = k; held = y })) o

  not_idle : (t u : ClientTransaction) → Open t ≡ kept u → is_idle u.phase ≡ false
  not_idle t u is = go (is_idle u.phase) is
    where
      go : (b : Bool) → Open t ≡ open_unless b u → b ≡ false
      go true is = absurd cc
      go false is = refl

  open_held : (y : TransactionSlot) (o : Option ClientTransaction) → Fits y o → is_open_slot (Some (record { number = k; held = y })) ≡ true
      → is_ended o ≡ false
  open_held (Closed first) o fit e = absurd cc
  open_held (Open t) None fit e = absurd fit
  open_held (Open t) (Some u) fit e = not_idle t u fit.held

  closed_held : (y : TransactionSlot) (o : Option ClientTransaction) → Fits y o → is_open_slot (Some (record { number = k; held = y })) ≡ false
      → is_ended o ≡ true
  closed_held (Open t) o fit e = absurd cc
  closed_held (Closed first) None fit e = absurd fit
  closed_held (Closed first) (Some u) fit e = closed_idle gone now notes client number k first u fit

module _ (gone : Bool) (now : ℕ) (notes : List Note) (client number : ℕ) where
  open_slot : (s : Option Client) (o : Option ClientTransaction) → TicketFits gone now notes client number s o → is_open_slot s ≡ true → is_ended o ≡ false
  open_slot None o fit e = absurd cc
  open_slot (Some s) o fit e = open_held gone now notes client number s.number s.held o fit e

  closed_slot : (s : Option Client) (o : Option ClientTransaction) → TicketFits gone now notes client number s o → is_open_slot s ≡ false → is_ended o ≡ true
  closed_slot None o fit e = fit.over
  closed_slot (Some s) o fit e = closed_held gone now notes client number s.number s.held o fit e

module _ (links : ℕ → Option Octets) (apart : (i j : ℕ) (l : Octets) → links i ≡ Some l → links j ≡ Some l → i ≡ j) (W : ℕ) (x : Rules) (w : World) (n : Net)
    (h : Over links apart W x None w n) (key : Key) (l : Octets) (at : links key.server ≡ Some l) where
  fit_of : (a : Node) → slice_get w.nodes key.client ≡ Some a
      → TicketFits (is_lost n key) (here_at n key.client) w.notes key.client (n.numbers key) (value_at same_key (slot_key l key.invoke_id) a.clients.slots)
      (n.tickets key)
  fit_of a is = (h.nodes key.client a is).clients.found key.server l key.invoke_id at

  pub open_there : is_open w key.client (slot_key l key.invoke_id) ≡ true → is_ended (n.tickets key) ≡ false
  open_there e = go (slice_get w.nodes key.client) refl e
    where
      go : (o : Option Node) → slice_get w.nodes key.client ≡ o → is_open_at (slot_key l key.invoke_id) o ≡ true → is_ended (n.tickets key) ≡ false
      go None is e = absurd cc
      go (Some a) is e = open_slot (is_lost n key) (here_at n key.client) w.notes key.client (n.numbers key)
          (value_at same_key (slot_key l key.invoke_id) a.clients.slots) (n.tickets key)
          (fit_of a is) e

  pub closed_there : (li : Octets) → links key.client ≡ Some li → is_open w key.client (slot_key l key.invoke_id) ≡ false → is_ended (n.tickets key) ≡ true
  closed_there li from e = go (slice_get w.nodes key.client) refl e
    where
      go : (o : Option Node) → slice_get w.nodes key.client ≡ o → is_open_at (slot_key l key.invoke_id) o ≡ false → is_ended (n.tickets key) ≡ true
      go None is e =
          let nowhere : link_at w.nodes key.client ≡ None = ap (λ (y : Option Node). option_map (λ (m : Node). m.link) y) is in
          let some : None ≡ Some li = sym nowhere ∙ h.linked key.client ∙ from in
          absurd cc
      go (Some a) is e = closed_slot (is_lost n key) (here_at n key.client) w.notes key.client (n.numbers key)
          (value_at same_key (slot_key l key.invoke_id) a.clients.slots) (n.tickets key)
          (fit_of a is) e
