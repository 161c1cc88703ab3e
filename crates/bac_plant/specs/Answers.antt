-- What a log says of the answers that end asks: each is the reply of its server's store, as that was at a moment between the ask and its end.
use Rattle.std.specs.Prelude.{◌≡◌, ℕ, List, ◌∷◌, ◌++◌, Some}
use Rattle.bac_service.specs.Values.{Request}
use Rattle.bac_service.specs.Replies.{Reply}
use Rattle.bac_store.specs.Stores.{Store}
use Rattle.bac_store.specs.Replies.{reply_to}
use Rattle.bac_transaction.specs.Meanings.Ending.{Answered}
use Rattle.bac_world.specs.Claims.{stores_by}
use Rattle.bac_world.specs.Once.{Fact, Has, Stores}
use Rattle.bac_world.specs.Once.Fact.{Asked, Performed, Ended}

-- At a place of these facts, after the ask, it is performed with this reply: the store that its server then has gives it to the request. That store is the one
-- of the server's last start, after what was performed and changed since.
pub record WasReply (opening : Stores) (n : ℕ) (p : Reply) (log : List Fact) : Type 0 where
  -- who asked whom for what
  pub client : ℕ
  pub server : ℕ
  pub request : Request
  -- the facts after that place, and those before it
  pub later : List Fact
  pub earlier : List Fact
  pub is : log ≡ later ++ Performed n request p ∷ earlier
  -- the ask is before it, and is the only one with its number
  pub asked : Has (Asked n client server request) earlier
  pub only : (c s : ℕ) (r : Request) → Has (Asked n c s r) log → (c ≡ client) × (s ≡ server) × (r ≡ request)
  -- the reply is that of its server's store, as this then is
  pub store : Store
  pub at : stores_by opening earlier server ≡ Some store
  pub reply : p ≡ reply_to store request

-- so it is, before it, of every answer that ends an ask
abbrev pub AnswersAreReplies : (opening : Stores) → List Fact → Type 0
AnswersAreReplies opening log =
    (newer older : List Fact) (n : ℕ) (p : Reply) → log ≡ newer ++ Ended n (Answered p) ∷ older → WasReply opening n p older
