-- A log that is right with the stores, of servers of either setting: it was right before each of its facts, and its asks have their own numbers.
use Rattle.std.proofs.Common.{◌≡◌, ℕ, ◌<◌, List, [], ◌∷◌, ◌++◌, sym, subst, inl, inr, ◌∙◌, arith}
use Rattle.bac_service.specs.Values.{Request}
use Rattle.bac_world.specs.Once.{Fact, Has, Stores, asks_in}
use Rattle.bac_world.specs.Once.Fact.{Asked}
use Rattle.bac_world.specs.ReusingLogs.{IsOnceSo, MayEnterSo, Reuses}
use Rattle.bac_world.proofs.Claims.{below, ended_so}

module _ (u : Reuses) (opening : Stores) where
  -- where the log is right, it was so before
  pub right_before : (newer older : List Fact) (f : Fact) (stores : Stores) → IsOnceSo u opening (newer ++ f ∷ older) stores
      → (new : Stores) × IsOnceSo u opening (f ∷ older) new
  right_before [] older f stores h = (stores, h)
  right_before (g ∷ newer) older f stores h = right_before newer older f h.0 h.2

  -- an ask has the next number
  numbered : (n client server : ℕ) (r : Request) (f : Fact) (log : List Fact) (old new : Stores) → f ≡ Asked n client server r → MayEnterSo u f log old new
      → n ≡ asks_in log
  numbered n client server r f log old new is may = (subst (λ (g : Fact). MayEnterSo u g log old new) is may).0

  -- no two asks have one number
  pub same_ask : (n c s d t : ℕ) (r q : Request) (log : List Fact) (stores : Stores) → IsOnceSo u opening log stores → Has (Asked n c s r) log
      → Has (Asked n d t q) log → Asked n c s r ≡ Asked n d t q
  same_ask n c s d t r q [] stores h a b = absurd a
  same_ask n c s d t r q (f ∷ log) stores h (inl a) (inl b) = sym a ∙ b
  same_ask n c s d t r q (f ∷ log) stores h (inl a) (inr b) =
      absurd (let next : n ≡ asks_in log = numbered n c s r f log h.0 stores a h.1 in
      let less : n < asks_in log = below log (ended_so u opening log h.0 h.2) n d t q b in omega (arith, next, less))
  same_ask n c s d t r q (f ∷ log) stores h (inr a) (inl b) =
      absurd (let next : n ≡ asks_in log = numbered n d t q f log h.0 stores b h.1 in
      let less : n < asks_in log = below log (ended_so u opening log h.0 h.2) n c s r a in omega (arith, next, less))
  same_ask n c s d t r q (f ∷ log) stores h (inr a) (inr b) = same_ask n c s d t r q log h.0 h.2 a b
