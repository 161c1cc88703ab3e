-- What is said of a run: of each of its events, of the endings in its log, and of a copy that is on its way.
use Rattle.std.specs.Prelude.{◌≡◌, ℕ, suc, ◌<◌, ◌≤◌, true, List, [], ◌∷◌, Some, slice_get, if◌then◌else◌, nat_eq}
use Rattle.bac_apdu.specs.Apdu.{Apdu}
use Rattle.bac_protocol.specs.Log.{Fact, StoreModel}
use Rattle.bac_protocol.specs.Log.Fact.{Asked, Performed, Ended, Changed, Restarted, Served, AskedAway, EndedAway}
use Rattle.bac_protocol.specs.Transaction.{Key, Rules}
use Rattle.bac_protocol.specs.World.{Net, World, Post, Event, is_deliverable, happens}

-- each event of a run has that, in the world in which it happens
abbrev pub Throughout : (S : Type 0) → StoreModel S → Rules → (World S → Event → Type 0) → List Event → World S → Type 0
Throughout S model x P [] w = Unit {0}
Throughout S model x P (e ∷ es) w = P w e × Throughout S model x P es (happens S model x w e)

-- how many endings of ask n a log has
abbrev pub endings_of : ℕ → List Fact → ℕ
endings_of n [] = 0
endings_of n (Asked m c s r ∷ log) = endings_of n log
endings_of n (Performed m r p ∷ log) = endings_of n log
endings_of n (Ended m how ∷ log) = if nat_eq m n then suc (endings_of n log) else endings_of n log
endings_of n (Changed s c ∷ log) = endings_of n log
endings_of n (Restarted s o ∷ log) = endings_of n log
endings_of n (Served q s i b r p ∷ log) = endings_of n log
endings_of n (AskedAway m c q r ∷ log) = endings_of n log
endings_of n (EndedAway m how ∷ log) = endings_of n log

-- the copy of that number carries that APDU of the transaction, and is deliverable
pub record IsOnItsWay (x : Rules) (n : Net) (key : Key) (a : Apdu) (number : ℕ) : Type 0 where
  pub post : Post
  pub at : slice_get n.posts number ≡ Some post
  pub key_is : post.key ≡ key
  pub apdu_is : post.copy.apdu ≡ a
  pub arrives : is_deliverable x n number post ≡ true

-- both ends of a transaction propose windows of at least 1
pub record HasWindows (x : Rules) (key : Key) : Type 0 where
  pub client : 0 < (x.settings key.client).window
  pub server : 0 < (x.settings key.server).window

-- the client has not restarted since that real moment
abbrev pub StaysSince : Net → Key → ℕ → Type 0
StaysSince n key made = n.restarted key.client ≤ made
