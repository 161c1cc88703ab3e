-- A log that is right tells the stores, so a performed request's reply is that of its server's store.
use Rattle.std.specs.Option.{option_map}
use Rattle.std.proofs.Common.{◌≡◌, ◌<◌, ℕ, List, [], ◌∷◌, Some, refl, sym, ap, inl, inr, ◌∙◌, if◌then◌else◌, nat_eq, arith}
use Rattle.bac_service.specs.Values.{Request}
use Rattle.bac_service.specs.Replies.{Reply}
use Rattle.bac_store.specs.Stores.{Store}
use Rattle.bac_store.specs.Replies.{reply_to}
use Rattle.bac_store.specs.Changes.{after}
use Rattle.bac_store.specs.AtNode.{changed}
use Rattle.bac_world.specs.Once.{Fact, Has, Stores, IsOnce, MayPerform, MayServe, asks_in}
use Rattle.bac_world.specs.Once.Fact.{Asked, Performed, Ended, Changed, Restarted, Served, AskedAway, EndedAway}
use Rattle.bac_world.specs.Node.{store_after_restart}

module _ (opening : Stores) where
  -- asks are numbered from 0
  asked_below : (n c s : ℕ) (r : Request) (log : List Fact) (stores : Stores) → IsOnce opening log stores → Has (Asked n c s r) log → n < asks_in log
  asked_below n c s r [] stores once h = absurd h
  asked_below n c s r (Asked m d u q ∷ log) stores once (inl e) =
      let same : m ≡ n = cc in let number = once.1.0 in omega arith
  asked_below n c s r (Asked m d u q ∷ log) stores once (inr h) = let again = asked_below n c s r log once.0 once.2 h in omega arith
  asked_below n c s r (Performed m q p ∷ log) stores once (inl e) = absurd cc
  asked_below n c s r (Performed m q p ∷ log) stores once (inr h) = asked_below n c s r log once.0 once.2 h
  asked_below n c s r (Ended m how ∷ log) stores once (inl e) = absurd cc
  asked_below n c s r (Ended m how ∷ log) stores once (inr h) = asked_below n c s r log once.0 once.2 h
  asked_below n c s r (Changed i d ∷ log) stores once (inl e) = absurd cc
  asked_below n c s r (Changed i d ∷ log) stores once (inr h) = asked_below n c s r log once.0 once.2 h
  asked_below n c s r (Restarted i d ∷ log) stores once (inl e) = absurd cc
  asked_below n c s r (Restarted i d ∷ log) stores once (inr h) = asked_below n c s r log once.0 once.2 h
  asked_below n c s r (Served q i d b y p ∷ log) stores once (inl e) = absurd cc
  asked_below n c s r (Served q i d b y p ∷ log) stores once (inr h) = asked_below n c s r log once.0 once.2 h
  asked_below n c s r (AskedAway m a q y ∷ log) stores once (inl e) = absurd cc
  asked_below n c s r (AskedAway m a q y ∷ log) stores once (inr h) = let again = asked_below n c s r log once.0 once.2 h in omega arith
  asked_below n c s r (EndedAway m how ∷ log) stores once (inl e) = absurd cc
  asked_below n c s r (EndedAway m how ∷ log) stores once (inr h) = asked_below n c s r log once.0 once.2 h

  -- so an ask has one server
  one_server : (n c s d u : ℕ) (q r : Request) (log : List Fact) (stores : Stores) → IsOnce opening log stores → Has (Asked n c s q) log
      → Has (Asked n d u r) log → s ≡ u
  one_server n c s d u q r [] stores once h k = absurd h
  one_server n c s d u q r (Asked m a b y ∷ log) stores once (inl e) (inl f) = let x : b ≡ s = cc in let z : b ≡ u = cc in sym x ∙ z
  one_server n c s d u q r (Asked m a b y ∷ log) stores once (inl e) (inr k) =
      let same : m ≡ n = cc in let number = once.1.0 in let below = asked_below n d u r log once.0 once.2 k in absurd (omega arith)
  one_server n c s d u q r (Asked m a b y ∷ log) stores once (inr h) (inl f) =
      let same : m ≡ n = cc in let number = once.1.0 in let below = asked_below n c s q log once.0 once.2 h in absurd (omega arith)
  one_server n c s d u q r (Asked m a b y ∷ log) stores once (inr h) (inr k) = one_server n c s d u q r log once.0 once.2 h k
  one_server n c s d u q r (Performed m y p ∷ log) stores once (inl e) k = absurd cc
  one_server n c s d u q r (Performed m y p ∷ log) stores once (inr h) (inl f) = absurd cc
  one_server n c s d u q r (Performed m y p ∷ log) stores once (inr h) (inr k) = one_server n c s d u q r log once.0 once.2 h k
  one_server n c s d u q r (Ended m how ∷ log) stores once (inl e) k = absurd cc
  one_server n c s d u q r (Ended m how ∷ log) stores once (inr h) (inl f) = absurd cc
  one_server n c s d u q r (Ended m how ∷ log) stores once (inr h) (inr k) = one_server n c s d u q r log once.0 once.2 h k
  one_server n c s d u q r (Changed i z ∷ log) stores once (inl e) k = absurd cc
  one_server n c s d u q r (Changed i z ∷ log) stores once (inr h) (inl f) = absurd cc
  one_server n c s d u q r (Changed i z ∷ log) stores once (inr h) (inr k) = one_server n c s d u q r log once.0 once.2 h k
  one_server n c s d u q r (Restarted i z ∷ log) stores once (inl e) k = absurd cc
  one_server n c s d u q r (Restarted i z ∷ log) stores once (inr h) (inl f) = absurd cc
  one_server n c s d u q r (Restarted i z ∷ log) stores once (inr h) (inr k) = one_server n c s d u q r log once.0 once.2 h k
  one_server n c s d u q r (Served z i w b y p ∷ log) stores once (inl e) k = absurd cc
  one_server n c s d u q r (Served z i w b y p ∷ log) stores once (inr h) (inl f) = absurd cc
  one_server n c s d u q r (Served z i w b y p ∷ log) stores once (inr h) (inr k) = one_server n c s d u q r log once.0 once.2 h k
  one_server n c s d u q r (AskedAway m a z y ∷ log) stores once (inl e) k = absurd cc
  one_server n c s d u q r (AskedAway m a z y ∷ log) stores once (inr h) (inl f) = absurd cc
  one_server n c s d u q r (AskedAway m a z y ∷ log) stores once (inr h) (inr k) = one_server n c s d u q r log once.0 once.2 h k
  one_server n c s d u q r (EndedAway m how ∷ log) stores once (inl e) k = absurd cc
  one_server n c s d u q r (EndedAway m how ∷ log) stores once (inr h) (inl f) = absurd cc
  one_server n c s d u q r (EndedAway m how ∷ log) stores once (inr h) (inr k) = one_server n c s d u q r log once.0 once.2 h k

  one_performed : (n : ℕ) (r : Request) (p : Reply) (log : List Fact) (a b stores other : Stores) → IsOnce opening log a
      → MayPerform n r p log a stores → MayPerform n r p log b other → ((node : ℕ) → a node ≡ b node) → (node : ℕ) → stores node ≡ other node
  one_performed n r p log a b stores other once h k same node =
      let server : h.server ≡ k.server = one_server n h.client h.server k.client k.server r r log a once h.asked k.asked in
      let store : h.store ≡ k.store =
      let e : Some h.store ≡ Some k.store = sym h.at ∙ same h.server ∙ ap b server ∙ k.at in cc in
      h.stores node
      ∙ (λ i. if nat_eq node (server i) then Some (after (store i) r) else same node i)
      ∙ sym (k.stores node)

  -- the same of a stranger's
  one_served : (i : ℕ) (r : Request) (p : Reply) (a b stores other : Stores) → MayServe i r p a stores → MayServe i r p b other
      → ((node : ℕ) → a node ≡ b node) → (node : ℕ) → stores node ≡ other node
  one_served i r p a b stores other h k same node =
      let store : h.store ≡ k.store = let e : Some h.store ≡ Some k.store = sym h.at ∙ same i ∙ k.at in cc in
      h.stores node
      ∙ (λ d. if nat_eq node i then Some (after (store d) r) else same node d)
      ∙ sym (k.stores node)

  pub one_stores : (log : List Fact) (stores other : Stores) → IsOnce opening log stores → IsOnce opening log other → (node : ℕ) → stores node ≡ other node
  one_stores [] stores other h k node = h node ∙ sym (k node)
  one_stores (Asked n c s r ∷ log) stores other h k node = h.1.1 node ∙ one_stores log h.0 k.0 h.2 k.2 node ∙ sym (k.1.1 node)
  one_stores (Performed n r p ∷ log) stores other h k node =
      one_performed n r p log h.0 k.0 stores other h.2 h.1 k.1 (one_stores log h.0 k.0 h.2 k.2) node
  one_stores (Ended n how ∷ log) stores other h k node = h.1.2 node ∙ one_stores log h.0 k.0 h.2 k.2 node ∙ sym (k.1.2 node)
  one_stores (Changed i c ∷ log) stores other h k node =
      let again = one_stores log h.0 k.0 h.2 k.2 in
      h.1.stores node ∙ (λ d. if nat_eq node i then option_map (changed c) (again i d) else again node d) ∙ sym (k.1.stores node)
  one_stores (Restarted i o ∷ log) stores other h k node =
      let again = one_stores log h.0 k.0 h.2 k.2 in
      h.1 node ∙ (λ d. if nat_eq node i then option_map (λ (y : Store). store_after_restart y o) (again i d) else again node d) ∙ sym (k.1 node)
  one_stores (Served q i d b r p ∷ log) stores other h k node = one_served i r p h.0 k.0 stores other h.1 k.1 (one_stores log h.0 k.0 h.2 k.2) node
  one_stores (AskedAway n c q r ∷ log) stores other h k node = h.1.1 node ∙ one_stores log h.0 k.0 h.2 k.2 node ∙ sym (k.1.1 node)
  one_stores (EndedAway n how ∷ log) stores other h k node = h.1.2 node ∙ one_stores log h.0 k.0 h.2 k.2 node ∙ sym (k.1.2 node)

  -- the reply of a request that was performed just after its ask
  pub reply_is : (n c s : ℕ) (r : Request) (p : Reply) (log : List Fact) (stores before : Stores) (store : Store)
      → IsOnce opening (Performed n r p ∷ Asked n c s r ∷ log) stores → IsOnce opening log before → before s ≡ Some store → p ≡ reply_to store r
  reply_is n c s r p log stores before store once right at =
      let perform = once.1 in
      let server : s ≡ perform.server =
      one_server n c s perform.client perform.server r r (Asked n c s r ∷ log) once.0 once.2 (inl refl) perform.asked in
      let same : perform.store ≡ store =
      let e : Some perform.store ≡ Some store =
      sym perform.at ∙ once.2.1.1 perform.server ∙ one_stores log once.2.0 before once.2.2 right perform.server ∙ ap before (sym server) ∙ at in cc in
      perform.reply ∙ ap (λ (y : Store). reply_to y r) same
