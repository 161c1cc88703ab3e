-- Logs that are computed, where nodes let invoke IDs be used again: those of Examples, in which a request is performed twice.
use Rattle.std.specs.Prelude.{true, List, [], ◌∷◌, None, nat_eq}
use Rattle.bac_service.specs.Values.{Request}
use Rattle.bac_service.specs.Replies.{Reply}
use Rattle.bac_world.specs.Once.{Fact, Stores}
use Rattle.bac_world.specs.Once.Fact.{Asked, Performed}
use Rattle.bac_world.specs.ReusingLogs.{IsOnceSo}
use Rattle.bac_world.specs.Examples.{ASKED, REPLY, REQUEST, STORES}

-- a read, performed twice
abbrev pub READ_TWICE : List Fact
READ_TWICE = Performed 0 REQUEST REPLY ∷ Performed 0 REQUEST REPLY ∷ ASKED

-- a write, likewise
abbrev pub WRITE : Request
WRITE = Request.WriteProperty (record { object = record { kind = 0; instance = 5 }; property = 85; index = None }) [] None

abbrev pub WRITTEN_TWICE : Reply → List Fact
WRITTEN_TWICE reply = Performed 0 WRITE reply ∷ Performed 0 WRITE reply ∷ Asked 0 0 1 WRITE ∷ []

-- where node 1 lets invoke IDs be used again, it may perform a read again; where node 0 alone does, node 1 may not; and no node may perform a write again
pub record ReusingLogs : Type 0 where
  pub read : IsOnceSo (λ node. nat_eq node 1) STORES READ_TWICE STORES
  pub elsewhere : (stores : Stores) → IsOnceSo (λ node. nat_eq node 0) STORES READ_TWICE stores → ⊥
  pub written : (stores : Stores) (reply : Reply) → IsOnceSo (λ node. true) STORES (WRITTEN_TWICE reply) stores → ⊥
