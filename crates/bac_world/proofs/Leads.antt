-- From one net to another by what clients hear and by ticks alone: nobody asks, and no server hears anything.
use Rattle.std.specs.Prelude.{◌≡◌, ℕ, true, false, Some, slice_get}
use Rattle.bac_protocol.specs.Wire.{is_from_client}
use Rattle.bac_protocol.specs.Client as client
use Rattle.bac_protocol.specs.Client.{ClientTransaction}
use Rattle.bac_protocol.specs.Server as server
use Rattle.bac_protocol.specs.Transaction.{Rules, Key, client_context, server_context}
use Rattle.bac_protocol.specs.World.{Net, Post, client_now, server_now, client_acts, server_acts, server_acts_away, client_acts_away, is_deliverable}
use Rattle.bac_apdu.specs.Apdu.{Apdu}
use Rattle.bac_protocol.specs.LongApdus.{AllTakeLong}
use Rattle.bac_protocol.proofs.Aside.{IsAside}
use Rattle.bac_protocol.proofs.ShortNets.{IsShortNet, client_gets_short, client_ticks_short, same_short, server_ticks_short}
use Rattle.std.proofs.Common.{refl, subst, sym}

pub data Leads (x : Rules) (from : Net) : Net → Type 0 where
  Here : Leads x from from
  Hears : (n : Net) (number : ℕ) (p : Post) (t : ClientTransaction) → Leads x from n → slice_get n.posts number ≡ Some p
      → is_deliverable x n number p ≡ true → is_from_client p.copy.apdu ≡ false → n.tickets p.key ≡ Some t
      → Leads x from (client_acts n p.key t (client.client_on_apdu (client_context x p.key (client_now n p.key)) x.readable t p.copy.apdu))
  TicksTicket : (n : Net) (key : Key) (t : ClientTransaction) → Leads x from n → n.tickets key ≡ Some t
      → Leads x from (client_acts n key t (client.client_ticks (client_context x key (client_now n key)) t))
  TicksEntry : (n : Net) (key : Key) → Leads x from n
      → Leads x from (server_acts n key (server.server_ticks (server_context x key (server_now n key)) (n.entries key)))
  TicksEntryAway : (n : Net) (key : Key) → Leads x from n
      → Leads x from (server_acts_away n key (server.server_ticks (server_context x key (server_now n key)) (n.far.entries key)))
  StraysToClient : (n : Net) (key : Key) (t : ClientTransaction) (a : Apdu) → Leads x from n → is_from_client a ≡ false → n.far.tickets key ≡ Some t
      → Leads x from (client_acts_away n key t (client.client_on_apdu (client_context x key (client_now n key)) x.readable t a))
  TicksTicketAway : (n : Net) (key : Key) (t : ClientTransaction) → Leads x from n → n.far.tickets key ≡ Some t
      → Leads x from (client_acts_away n key t (client.client_ticks (client_context x key (client_now n key)) t))

-- Transfers stay short, where all nodes take APDUs of 480 octets or more.

pub aside_short : (n m : Net) → IsAside n m → IsShortNet n → IsShortNet m
aside_short n m aside short = subst IsShortNet (sym aside.is)
    (same_short n (record n { asks = aside.asks; asked = aside.asked; served = aside.served; far = aside.far; log = aside.log }) refl refl refl short)

pub leads_short : (x : Rules) → AllTakeLong x → (n m : Net) → IsShortNet n → Leads x n m → IsShortNet m
leads_short x long n _ short Leads.Here = short
leads_short x long n _ short (Leads.Hears m number p t h at may down is) = client_gets_short x long m (leads_short x long n m short h) p.key t p.copy.apdu
leads_short x long n _ short (Leads.TicksTicket m key t h is) = client_ticks_short x long m (leads_short x long n m short h) key t
leads_short x long n _ short (Leads.TicksEntry m key h) = server_ticks_short x long m (leads_short x long n m short h) key
leads_short x long n _ short (Leads.TicksEntryAway m key h) =
    same_short m (server_acts_away m key (server.server_ticks (server_context x key (server_now m key)) (m.far.entries key))) refl refl refl
    (leads_short x long n m short h)
leads_short x long n _ short (Leads.StraysToClient m key t a h down is) =
    same_short m (client_acts_away m key t (client.client_on_apdu (client_context x key (client_now m key)) x.readable t a)) refl refl refl
    (leads_short x long n m short h)
leads_short x long n _ short (Leads.TicksTicketAway m key t h is) =
    same_short m (client_acts_away m key t (client.client_ticks (client_context x key (client_now m key)) t)) refl refl refl
    (leads_short x long n m short h)
