-- What a right log says of writes and of answers.
use Rattle.std.specs.Prelude.{◌≡◌, ℕ, false, List, ◌∷◌, ◌++◌}
use Rattle.bac_service.specs.Choices.{is_read_choice}
use Rattle.bac_protocol.specs.Service.{Reply, Request}
use Rattle.bac_protocol.specs.Service.Ending.{Answered}
use Rattle.bac_protocol.specs.Service.Outcome.{Replies}
use Rattle.bac_protocol.specs.Log.{Fact, Has, StoreModel, IsUnperformed}
use Rattle.bac_protocol.specs.Log.Fact.{Asked, Performed, Ended}
use Rattle.bac_protocol.specs.Reuse.{Reads}
use Rattle.bac_reuse.specs.Once.{IsOnceSo}
use Rattle.bac_reuse.specs.Runs.{Reusing}

-- where ask n is performed, and is no read, it was not performed before
abbrev pub WritesAreOnce : Reads → List Fact → Type 0
WritesAreOnce reads log =
    (newer older : List Fact) (n : ℕ) (r : Request) (p : Reply) → log ≡ newer ++ Performed n r p ∷ older → reads r.choice ≡ false → IsUnperformed n older

-- Before these facts ask n was performed with that reply, and asked before that: it is the reply that its server's store, as it was in between, gives to its
-- request, and the log up to there leads to that store.
pub record WasGiven (S : Type 0) (model : StoreModel S) (u : Reusing) (opening : ℕ → S) (n : ℕ) (p : Reply) (log : List Fact) : Type 0 where
  pub newer : List Fact
  pub older : List Fact
  pub request : Request
  pub client : ℕ
  pub server : ℕ
  pub stores : ℕ → S
  pub is : log ≡ newer ++ Performed n request p ∷ older
  pub asked : Has (Asked n client server request) older
  pub reply : model.outcome (stores server) request.choice request.service ≡ Replies p
  pub leads : IsOnceSo S model u opening older stores

-- so it is of every answer that ends an ask
abbrev pub AnswersAreOfTheirTime : (S : Type 0) → StoreModel S → Reusing → (opening : ℕ → S) → List Fact → Type 0
AnswersAreOfTheirTime S model u opening log =
    (newer older : List Fact) (n : ℕ) (p : Reply) → log ≡ newer ++ Ended n (Answered p) ∷ older → WasGiven S model u opening n p older

-- the reads of the stack's own services
abbrev pub is_stack_read : Reads
is_stack_read choice = is_read_choice choice
