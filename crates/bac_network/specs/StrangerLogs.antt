-- Logs that are computed, of two nodes at links 0 and 1: each is right with the stores, and whether its strangers are none of the nodes is another matter.
use Rattle.std.specs.Prelude.{List, [], ◌∷◌}
use Rattle.bac_world.specs.AnsweredRun.{OPENING, link}
use Rattle.bac_world.specs.Examples.{ASKED, REPLY, REQUEST, STORES}
use Rattle.bac_world.specs.Once.{Fact, IsOnce}
use Rattle.bac_world.specs.Once.Fact.{Performed, Served, AskedAway}
use Rattle.bac_world.specs.World.{peer_at}
use Rattle.bac_network.specs.OfNone.{HasStrangersOfNone}

-- the request of node 0 was performed twice, the second time as that of a stranger at its link
abbrev pub TWICE : List Fact
TWICE = Served (peer_at (link 0)) 1 0 5 REQUEST REPLY ∷ Performed 0 REQUEST REPLY ∷ ASKED

-- node 0 asked node 1 as a stranger
abbrev pub AWAY : List Fact
AWAY = AskedAway 0 0 (peer_at (link 1)) REQUEST ∷ []

-- node 1 performed a request of a stranger at link 2, which node 0 had asked
abbrev pub FAR : List Fact
FAR = Served (peer_at (link 2)) 1 0 5 REQUEST REPLY ∷ AskedAway 0 0 (peer_at (link 2)) REQUEST ∷ []

-- that the log is right with the stores leaves these two open, and that strangers are at links of no node refuses them
pub record WrongStrangers : Type 0 where
  pub twice_once : IsOnce STORES TWICE STORES
  pub away_once : IsOnce STORES AWAY STORES
  pub twice : HasStrangersOfNone OPENING.nodes TWICE → ⊥
  pub away : HasStrangersOfNone OPENING.nodes AWAY → ⊥

-- a stranger at another link is one
pub record RightStrangers : Type 0 where
  pub far_once : IsOnce STORES FAR STORES
  pub far : HasStrangersOfNone OPENING.nodes FAR
