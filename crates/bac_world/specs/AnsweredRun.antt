-- A run of two nodes in which an ask is answered: nothing that the theorem supposes is empty.
use Rattle.std.specs.Prelude.{◌≡◌, ℕ, true, List, [], ◌∷◌}
use Rattle.bac_apdu.specs.Apdu.{Limits}
use Rattle.bac_protocol.specs.Context.{Settings}
use Rattle.bac_protocol.specs.Service.{Octets}
use Rattle.bac_transaction.specs.Meanings.Ending.{Answered}
use Rattle.bac_protocol.specs.Pace.{one_clock, clock_at}
use Rattle.bac_world.specs.Node.{Node}
use Rattle.bac_world.specs.Once.{Fact}
use Rattle.bac_world.specs.Once.Fact.{Performed, Ended, Served}
use Rattle.bac_world.specs.World.{World, Time, Event, WorldRun, IsFresh, IsBounded, peer_at, untouched}
use Rattle.bac_world.specs.World.Event.{Ask, Deliver, Stray}
use Rattle.bac_world.specs.Examples.{REQUEST, REPLY, STORE, ASKED}

abbrev pub LIMITS : Limits
LIMITS = record { takes_segments = true; max_segments = 0; max_apdu = 0 }

abbrev pub SETTINGS : Settings
SETTINGS = record { limits = LIMITS; window = 1 }

abbrev pub link : ℕ → Octets
link n = 10 ∷ 0 ∷ 0 ∷ n ∷ 186 ∷ 192 ∷ []

-- a node with one slot in each table, and no objects
abbrev pub node : ℕ → Node
node n =
    record {
      link = link n;
      settings = SETTINGS;
      latest = 0;
      clients = record { slots = []; capacity = 1; asked = 0; asks_from = 0; first_id = 0 };
      servers = record { slots = []; capacity = 1; serves_from = 0 };
      store = STORE;
    }

abbrev pub TIME : Time
TIME = record { pace = one_clock; now = 0; clocks = λ i. clock_at one_clock 0 }

abbrev pub OPENING : World
OPENING = record { nodes = node 0 ∷ node 1 ∷ []; time = TIME; lives = λ i. untouched; copies = []; log = []; notes = [] }

-- node 0 asks node 1; the request is delivered, and then the answer
abbrev pub EVENTS : List Event
EVENTS = Ask 0 1 LIMITS REQUEST ∷ Deliver 0 ∷ Deliver 1 ∷ []

abbrev pub LOG : List Fact
LOG = Ended 0 (Answered REPLY) ∷ Performed 0 REQUEST REPLY ∷ ASKED

-- with windows of 1, and 253 later copies that may overtake one
pub record AnsweredRun : Type 0 where
  pub fresh : IsFresh OPENING
  pub bounded : IsBounded 1 253 OPENING
  pub last : World
  pub run : WorldRun 253 OPENING EVENTS last
  pub log : last.log ≡ LOG

-- a datagram of a stranger, at link 2, is heard by node 1, which performs its request: the log tells it, and no copy is made
pub record StrangerRun : Type 0 where
  pub octets : Octets
  pub last : World
  pub run : WorldRun 253 OPENING (Stray 1 (link 2) octets ∷ []) last
  pub log : last.log ≡ Served (peer_at (link 2)) 1 0 0 REQUEST REPLY ∷ []
  pub copies : last.copies ≡ []
