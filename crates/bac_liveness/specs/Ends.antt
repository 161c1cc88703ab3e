-- Each ask ends (own rule of this profile: nothing is waited for longer than DEADLINE).
use Rattle.std.specs.Prelude.{◌≡◌, ℕ, ◌-◌, ◌<◌, Bool, true, List, Some, if◌then◌else◌}
use Rattle.std.specs.List.{Contains}
use Rattle.bac_apdu.specs.Apdu.{Apdu}
use Rattle.bac_protocol.specs.declared.times.TheConstants.{DEADLINE}
use Rattle.bac_protocol.specs.Wire.{is_from_server}
use Rattle.bac_protocol.specs.Client.{ClientTransaction, is_idle}
use Rattle.bac_protocol.specs.Log.{StoreModel}
use Rattle.bac_protocol.specs.Transaction.{Key, Rules}
use Rattle.bac_protocol.specs.World.{Net, World, Event, client_now, happens, run}
use Rattle.bac_protocol.specs.World.Event.{Tick, Deliver}
use Rattle.bac_protocol.specs.Claims.{ClientStays}
use Rattle.bac_liveness.specs.Runs.{endings_of, IsOnItsWay, StaysSince}

-- more than DEADLINE after the first sending of a ticket's ask, whatever happened in between, but for a restart of its client
pub record EndsInTime (S : Type 0) (model : StoreModel S) (x : Rules) (w : World S) : Type 0 where
  -- a tick of its client leaves the ask ended, once
  pub ticks : (key : Key) (t : ClientTransaction) → w.net.tickets key ≡ Some t → (events : List Event) (as_client as_server : List Key)
      → (let v = run S model x events w in StaysSince v.net key (w.net.made key) → DEADLINE < client_now v.net key - t.ask.first → Contains as_client key
      → endings_of (w.net.numbers key) (happens S model x v (Tick as_client as_server)).net.log ≡ 1)
  -- and so does each APDU of a server that comes for it
  pub answers : (key : Key) (t : ClientTransaction) → w.net.tickets key ≡ Some t → (events : List Event) (number : ℕ) (free : Bool) (a : Apdu)
      → (let v = run S model x events w in StaysSince v.net key (w.net.made key) → DEADLINE < client_now v.net key - t.ask.first → is_from_server a ≡ true
      → IsOnItsWay x v.net key a number
      → endings_of (w.net.numbers key) (happens S model x v (Deliver number free)).net.log ≡ 1)

-- the log has one ending of an ask whose ticket is idle, and none of one whose ticket is open; a client's restart ends no ask
abbrev pub EndingsAreLogged : Net → Type 0
EndingsAreLogged n = (key : Key) (t : ClientTransaction) → n.tickets key ≡ Some t → ClientStays n key
    → endings_of (n.numbers key) n.log ≡ (if is_idle t.phase then 1 else 0)
