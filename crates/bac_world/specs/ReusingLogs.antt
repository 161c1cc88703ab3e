-- Which logs are right where some nodes let invoke IDs be used again: as in Once, but such a node may perform a read more than once.
use Rattle.std.specs.Prelude.{◌≡◌, ◌⊎◌, ℕ, Bool, true, false, List, [], ◌∷◌, Some, if◌then◌else◌, nat_eq}
use Rattle.bac_service.specs.Values.{Request, choice_of}
use Rattle.bac_service.specs.Replies.{Reply}
use Rattle.bac_store.specs.Changes.{after}
use Rattle.bac_store.specs.Replies.{reply_to}
use Rattle.bac_store.specs.Stores.{Store}
use Rattle.bac_transaction.specs.Reuse.{is_read}
use Rattle.bac_world.specs.Once.{AreSame, Fact, Has, IsUnperformed, MayEnter, Stores}
use Rattle.bac_world.specs.Once.Fact.{Asked, Performed}

-- which nodes do so
abbrev pub Reuses : Type 0
Reuses = (node : ℕ) → Bool

-- The request is the one asked. It was not performed before, or it is a read, and its server lets invoke IDs be used again. The reply is that of its server's
-- store as it then is, which alone changes, as the request says
pub record MayPerformSo (u : Reuses) (n : ℕ) (r : Request) (p : Reply) (log : List Fact) (old new : Stores) : Type 0 where
  pub client : ℕ
  pub server : ℕ
  pub store : Store
  pub asked : Has (Asked n client server r) log
  pub first : IsUnperformed n log ⊎ ((u server ≡ true) × (is_read (choice_of r) ≡ true))
  pub at : old server ≡ Some store
  pub reply : p ≡ reply_to store r
  pub stores : (node : ℕ) → new node ≡ (if nat_eq node server then Some (after store r) else old node)

-- what a fact requires of those before it, and how the stores change with it
abbrev pub MayEnterSo : Reuses → Fact → List Fact → (old new : Stores) → Type 0
MayEnterSo u (Performed n r p) log old new = MayPerformSo u n r p log old new
MayEnterSo u f log old new = MayEnter f log old new

-- The log is right, and leads from the opening stores to these. An accepted ask is performed at most once, but for a read at such a node, which is performed
-- each time that its server takes it: as it was asked, with the reply of its server's store as it then was. Every ask ends at most once, and is answered with a
-- reply with which it was performed before. Stores change as in Once.
abbrev pub IsOnceSo : Reuses → (opening : Stores) → List Fact → (stores : Stores) → Type 0
IsOnceSo u opening [] stores = AreSame opening stores
IsOnceSo u opening (f ∷ log) stores = (old : Stores) × MayEnterSo u f log old stores × IsOnceSo u opening log old

-- no node does so
abbrev pub NoneReuses : Reuses → Type 0
NoneReuses u = (node : ℕ) → u node ≡ false
