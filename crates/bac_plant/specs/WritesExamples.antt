-- Runs that are computed: stranger 9 writes at node 1, each time under one invoke ID. A store counts its writes, and a reply tells how many there were before.
use Rattle.std.specs.Prelude.{◌≡◌, Bool, true, false, List, [], ◌∷◌, None, nat_eq}
use Rattle.bac_service.specs.declared.service.TheConstants.{WRITE_PROPERTY}
use Rattle.bac_store.specs.Replies.{UNKNOWN_OBJECT}
use Rattle.bac_protocol.specs.Log.Fact.{Served}
use Rattle.bac_protocol.specs.Pace.{IsTimely, one_clock}
use Rattle.bac_protocol.specs.Service.{Octets}
use Rattle.bac_protocol.specs.World.{Event, start}
use Rattle.bac_protocol.specs.World.Event.{Stray}
use Rattle.bac_protocol.specs.Examples.{Seen, elapse, rules, seen}
use Rattle.bac_transaction.specs.Keys.{PeerKey}
use Rattle.bac_world.specs.AnsweredRun.{OPENING, link}
use Rattle.bac_world.specs.Once.{Fact as fact}
use Rattle.bac_world.specs.ReusingExamples.{WRITE}
use Rattle.bac_world.specs.ReusingLogs.{Reuses}
use Rattle.bac_world.specs.World.{IsBounded, IsFresh, World, peer_at}
use Rattle.bac_reuse.specs.Examples.{counting, from, off, on, tells, write, write_apdu}
use Rattle.bac_reuse.specs.Runs.{Reusing, run_so}
use Rattle.bac_plant.specs.Writes.{PerformsWrite}

-- all nodes let clients use an invoke ID again, or none does; choice 12 is a read
abbrev pub setting : Bool → Reusing
setting reuses = record { reuses = λ node. reuses; reads = λ choice. nat_eq choice 12 }

abbrev pub shows : (reuses : Bool) → List Event → Seen
shows reuses events = seen (run_so _ counting (rules 32) (setting reuses) events (start _ one_clock (λ node. 0) (λ node. 0)))

abbrev pub writes : Octets → Event
writes octets = Stray (from 9) true (write_apdu octets)

-- on, off and on again, a second apart, and a copy of the last
abbrev pub on_off_on : List Event
on_off_on = writes on ∷ elapse 1000 ∷ writes off ∷ elapse 1000 ∷ writes on ∷ elapse 1000 ∷ writes on ∷ []

-- Where the server lets clients use an invoke ID again, each of the three is performed: another request came between. The copy is not.
abbrev pub ActsThreeTimes : Type 0
ActsThreeTimes =
    shows true on_off_on
    ≡ record {
      sent = [];
      log = Served 9 1 0 2000 (write on) (tells 2) ∷ Served 9 1 0 1000 (write off) (tells 1) ∷ Served 9 1 0 0 (write on) (tells 0) ∷ [];
      effects = 3;
    }

-- Where it lets no client do so, only the first is: its entry is live all the time.
abbrev pub ActsFirstAlone : Type 0
ActsFirstAlone = shows false on_off_on ≡ record { sent = []; log = Served 9 1 0 0 (write on) (tells 0) ∷ []; effects = 1 }

-- An equal write is not performed again at 65,000 ms, at a server of either setting; at 65,001 it is.
abbrev pub WritesTwice : (reuses : Bool) → Type 0
WritesTwice reuses =
    shows reuses (writes on ∷ elapse 65000 ∷ writes on ∷ elapse 1 ∷ writes on ∷ [])
    ≡ record { sent = []; log = Served 9 1 0 65001 (write on) (tells 1) ∷ Served 9 1 0 0 (write on) (tells 0) ∷ []; effects = 2 }

-- ---- a world

abbrev pub EVERY : Reuses
EVERY node = true

abbrev pub STRANGER : PeerKey
STRANGER = record { peer = peer_at (link 2); invoke_id = 0 }

-- no value for the present value of analog-input 5, an object that node 1 does not have
abbrev pub SERVICE_DATA : Octets
SERVICE_DATA = 12 ∷ 0 ∷ 0 ∷ 0 ∷ 5 ∷ 25 ∷ 85 ∷ 62 ∷ 63 ∷ []

-- Node 1 of a fresh world hears that write of the stranger at link 2, and performs it, with an Error: what the law supposes is met.
pub record WriteOfStranger : Type 0 where
  pub fresh : IsFresh OPENING
  pub timely : IsTimely OPENING.time.pace
  pub bounded : IsBounded 1 253 OPENING
  pub last : World
  pub performs : PerformsWrite EVERY OPENING 1 STRANGER None WRITE_PROPERTY SERVICE_DATA last
  pub log : last.log ≡ fact.Served (peer_at (link 2)) 1 0 0 WRITE UNKNOWN_OBJECT ∷ []
