-- Clients of hosts, as `bac` is one: programs that start one after another, each at the port that the time of day gives it, and ask from there for a while.
use Rattle.std.specs.Prelude.{◌≡◌, ◌⊎◌, ℕ, ◌+◌, ◌-◌, ◌*◌, ◌<◌, ◌≤◌, true, List, [], ◌∷◌, map, Option, Some, IfSome, if◌then◌else◌, nat_eq}
use Rattle.bac_pairs.specs.Pairs.{port_at, share_at, share_end}
use Rattle.bac_store.specs.Stores.{Store}
use Rattle.bac_protocol.specs.Pace.{IsTimely, Pace, most}
use Rattle.bac_protocol.specs.declared.times.TheConstants.{DEADLINE, KEEP}
use Rattle.bac_world.specs.Once.{IsOnce}
use Rattle.bac_world.specs.ReusingLogs.{IsOnceSo, NoneReuses, Reuses}
use Rattle.bac_world.specs.World.{is_quiet}
use Rattle.bac_plant.specs.Composed.{AreCalled, AreKept, IsStarted, StandsAt, again}
use Rattle.bac_plant.specs.Moves.{AreCalledIn, IsAsCalledIn, IsCalledIn, IsReachedIn, MayStart, Move, MoveRun, Moves}
use Rattle.bac_plant.specs.Moves.Move.{Goes}
use Rattle.bac_plant.specs.Pauses.{pause}
use Rattle.bac_plant.specs.Plants.{Plant, world_of}
use Rattle.bac_plant.specs.Runs.{stores_in}
use Rattle.bac_plant.specs.Steps.{Step}
use Rattle.bac_plant.specs.Steps.Step.{Begins, StartsAgain}

-- ---- hosts

-- The time of day, in microseconds, at the moments of real time, of which so many are a millisecond. It is not set back. In 166 seconds it gains at most 0.8
-- seconds on real time, whether it runs fast or is set forward.
pub record KeepsTime (grain : ℕ) (day : (moment : ℕ) → ℕ) : Type 0 where
  pub on : (one other : ℕ) → one ≤ other → day one ≤ day other
  pub gains : (one other : ℕ) → one ≤ other → other ≤ one + 166000 * grain → grain * (day other - day one) ≤ 1000 * (other - one) + 800000 * grain

-- what the programs of a host share: a key, and the time of day
pub record Host : Type 0 where
  pub key : List ℕ
  pub day : (moment : ℕ) → ℕ

-- a port of a host
pub record Port : Type 0 where
  pub host : ℕ
  pub number : ℕ

-- Hosts, numbered from 0, each with one address: a machine with two addresses is two of them. They say which stations are at ports of theirs from which clients
-- ask. No law compares that with a station's link: who applies these laws gives each such station the port to which its link is bound.
pub record Hosts : Type 0 where
  pub host : ℕ → Host
  pub port_of : (station : ℕ) → Option Port

abbrev pub day_in : Hosts → (host : ℕ) → Plant → ℕ
day_in hosts host p = (hosts.host host).day p.time.now

-- each of them keeps time, and clocks of stations show each millisecond
pub record KeepTime (hosts : Hosts) (p : Pace) : Type 0 where
  pub ticks : p.tick ≡ 1
  pub days : (host : ℕ) → KeepsTime p.grain (hosts.host host).day

-- ---- clients

-- a client that started: on which host, and at which time of day it took its port
pub record Client : Type 0 where
  pub host : ℕ
  pub took : ℕ

abbrev pub port_taken : Hosts → Client → Port
port_taken hosts c = record { host = c.host; number = port_at (hosts.host c.host).key c.took }

abbrev pub IsOneOf : Client → List Client → Type 0
IsOneOf c [] = ⊥
IsOneOf c (first ∷ others) = (c ≡ first) ⊎ IsOneOf c others

-- its clock has gone on by no more than 30,000 ms since a moment at which the share was not over in which it took its port
pub record IsEarly (hosts : Hosts) (c : Client) (p : Plant) : Type 0 where
  pub moment : ℕ
  pub in_share : (hosts.host c.host).day moment ≤ share_end c.took
  pub soon : p.time.now ≤ moment + most p.time.pace 30000

-- A client starts at a station, after these ones. Those of these that had its port took it in earlier shares of time.
pub record StartsThere (hosts : Hosts) (clients : List Client) (p : Plant) (station : ℕ) (c : Client) : Type 0 where
  pub port : hosts.port_of station ≡ Some (port_taken hosts c)
  pub past : c.took ≤ day_in hosts c.host p
  pub in_turn : (other : Client) → IsOneOf other clients → port_taken hosts other ≡ port_taken hosts c → share_at other.took < share_at c.took

-- one of these clients has that port, and is early
pub record IsAskedEarly (hosts : Hosts) (clients : List Client) (p : Plant) (at : Port) : Type 0 where
  pub client : Client
  pub one_of : IsOneOf client clients
  pub port : at ≡ port_taken hosts client
  pub early : IsEarly hosts client p

-- so it is where a station at such a port asks another one
abbrev pub MayAsk : Hosts → List Client → Plant → Move → Type 0
MayAsk hosts clients p (Goes (Begins station server limits request)) = IfSome (hosts.port_of station) (λ at. IsAskedEarly hosts clients p at)
MayAsk hosts clients p move = Unit {0}

-- ---- what is done, one after another

-- a move, or a client that starts at a station, with a new clock, that first invoke ID and that store
pub data Deed : Type 0 where
  Does : (move : Move) → Deed
  StartsClient : (station exact first_id : ℕ) (store : Option Store) (client : Client) → Deed

-- the move that it is: another program starts there
abbrev pub move_of : Deed → Move
move_of (Does move) = move
move_of (StartsClient station exact first_id store client) = Goes (StartsAgain station exact first_id store)

-- the clients so far, the latest first
abbrev pub with_client : Deed → List Client → List Client
with_client (Does move) clients = clients
with_client (StartsClient station exact first_id store client) clients = client ∷ clients

-- all of them, after these deeds
abbrev pub with_clients : List Deed → List Client → List Client
with_clients [] clients = clients
with_clients (deed ∷ later) clients = with_clients later (with_client deed clients)

-- the call that a deed stands for was made in that plant; a client takes its port as it should, and nobody has to know that all is over there
abbrev pub IsDone : Hosts → (overtake : ℕ) → List Client → Plant → Deed → Type 0
IsDone hosts overtake clients p (Does move) = IsCalledIn overtake p move × MayAsk hosts clients p move
IsDone hosts overtake clients p (StartsClient station exact first_id store client) =
    IsStarted p station (again p exact first_id store) AreKept × StartsThere hosts clients p station client

-- in the next plant its station is as the call left it
abbrev pub IsAsDone : (hosts : Hosts) (overtake : ℕ) (clients : List Client) (p : Plant) (deed : Deed) → IsDone hosts overtake clients p deed → (next : Plant) → Type 0
IsAsDone hosts overtake clients p (Does move) done next = IsAsCalledIn overtake p move done.0 next
IsAsDone hosts overtake clients p (StartsClient station exact first_id store client) done next = StandsAt next station done.0.after

-- These deeds were done one after the other. Each was done in whatever plant the ones before it led to, whose stations are as these left them.
abbrev pub AreDone : Hosts → (overtake : ℕ) → List Client → List Deed → Plant → Type 0
AreDone hosts overtake clients [] p = Unit {0}
AreDone hosts overtake clients (deed ∷ later) p =
    (done : IsDone hosts overtake clients p deed)
    × ((next : Plant) → Moves overtake p (move_of deed) next → IsAsDone hosts overtake clients p deed done next
    → AreDone hosts overtake (with_client deed clients) later next)

-- ---- what is known of the ports

-- at all of them all is over that was sent before, as where nothing was asked for the time of `pause`
abbrev pub AreQuiet : Hosts → Plant → Type 0
AreQuiet hosts p = (station : ℕ) (at : Port) → hosts.port_of station ≡ Some at → is_quiet (world_of p) station ≡ true

-- one of these clients began the latest ask from there, early, and sends for it no longer than a deadline lasts
pub record IsAsked (hosts : Hosts) (pace : Pace) (clients : List Client) (p : Plant) (station : ℕ) (at : Port) : Type 0 where
  pub client : Client
  pub one_of : IsOneOf client clients
  pub port : at ≡ port_taken hosts client
  pub moment : ℕ
  pub in_share : (hosts.host client.host).day moment ≤ share_end client.took
  pub until : (p.lives station).sends_until ≤ moment + most pace 30000 + most pace DEADLINE + 1

-- or all is over there
abbrev pub AsksSo : Hosts → Pace → List Client → Plant → (station : ℕ) → Port → Type 0
AsksSo hosts pace clients p station at =
    ((p.lives station).sends_until + pace.life + most pace KEEP + pace.life ≤ p.time.now) ⊎ IsAsked hosts pace clients p station at

-- so it is of each port
pub record IsKnown (hosts : Hosts) (pace : Pace) (clients : List Client) (p : Plant) : Type 0 where
  pub paced : p.time.pace ≡ pace
  pub asked : (station : ℕ) (at : Port) → hosts.port_of station ≡ Some at → AsksSo hosts pace clients p station at

-- ---- laws

-- 165.888 seconds by the time of day are 165.088 seconds at the least
abbrev pub DaysAreLong : Type 0
DaysAreLong =
    (grain : ℕ) (day : (moment : ℕ) → ℕ) → KeepsTime grain day → (one other : ℕ) → day one + 165888000 ≤ day other → one + 165088 * grain ≤ other

-- and what a client asks in the 30 seconds after its share is over 165.08 seconds after that at the latest
abbrev pub PausesAreShort : Type 0
PausesAreShort = (p : Pace) → p.tick ≡ 1 → IsTimely p → most p 30000 + pause p ≤ 165080 * p.grain

-- where all ports are quiet, they are known without any client
abbrev pub QuietIsKnown : Type 0
QuietIsKnown = (hosts : Hosts) (p : Plant) → AreQuiet hosts p → IsKnown hosts p.time.pace [] p

-- each client finds that all is over that was sent from its port before; so such deeds are calls as `calls_compose_with_other_settings` takes them
abbrev pub DeedsAreCalls : Type 0
DeedsAreCalls =
    (hosts : Hosts) (overtake : ℕ) (clients : List Client) (p : Plant) → IsTimely p.time.pace → KeepTime hosts p.time.pace → IsKnown hosts p.time.pace clients p
    → (deeds : List Deed) → AreDone hosts overtake clients deeds p → AreCalledIn overtake (map move_of deeds) p

-- and where no station starts with other settings, as `calls_compose` takes them
abbrev pub DeedsAreSteps : Type 0
DeedsAreSteps =
    (hosts : Hosts) (overtake : ℕ) (clients : List Client) (p : Plant) → IsTimely p.time.pace → KeepTime hosts p.time.pace → IsKnown hosts p.time.pace clients p
    → (deeds : List Deed) → AreDone hosts overtake clients deeds p → (steps : List Step) → map move_of deeds ≡ map Goes steps → AreCalled overtake steps p

-- a plant to which they lead from p, whose log is right, and whose ports are known, so that more clients may start
pub record IsRightAfter (W overtake : ℕ) (ever : Reuses) (hosts : Hosts) (clients : List Client) (first p : Plant) (deeds : List Deed) : Type 0 where
  pub last : Plant
  pub run : MoveRun overtake p (map move_of deeds) last
  pub reached : IsReachedIn W overtake ever first last
  pub known : IsKnown hosts last.time.pace (with_clients deeds clients) last
  pub once : IsOnceSo ever (stores_in first) last.log (stores_in last)
  pub once_without_reuse : NoneReuses ever → IsOnce (stores_in first) last.log (stores_in last)

-- so they are moves, one after the other, and the headline holds after them
abbrev pub DeedsAreRight : Type 0
DeedsAreRight =
    (hosts : Hosts) (W overtake : ℕ) (ever : Reuses) (clients : List Client) (first p : Plant) → IsReachedIn W overtake ever first p
    → KeepTime hosts p.time.pace → IsKnown hosts p.time.pace clients p → (deeds : List Deed) → MayStart W ever (map move_of deeds)
    → AreDone hosts overtake clients deeds p → IsRightAfter W overtake ever hosts clients first p deeds

-- ---- a boot

-- that one has another key and time of day from now on
abbrev pub with_host : Hosts → (number : ℕ) → Host → Hosts
with_host hosts number host = record hosts { host = λ h. if nat_eq h number then host else hosts.host h }

-- those of other hosts
abbrev pub elsewhere : (number : ℕ) → List Client → List Client
elsewhere number [] = []
elsewhere number (c ∷ clients) = if nat_eq c.host number then elsewhere number clients else c ∷ elsewhere number clients

-- a host boots once its own ports are quiet, and those of the others are known as before, so clients go on there
abbrev pub BootsGoOn : Type 0
BootsGoOn =
    (hosts : Hosts) (number : ℕ) (host : Host) (clients : List Client) (p : Plant) → IsKnown hosts p.time.pace clients p
    → ((station : ℕ) (at : Port) → hosts.port_of station ≡ Some at → at.host ≡ number → is_quiet (world_of p) station ≡ true)
    → IsKnown (with_host hosts number host) p.time.pace (elsewhere number clients) p
