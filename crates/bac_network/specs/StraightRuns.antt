-- What a straight run makes of a world.
use Rattle.std.specs.Prelude.{◌≡◌, ◌⊎◌, ℕ, ◌≤◌, Bool, true, false, ◌∷◌, length, Option, Some, None, slice_get}
use Rattle.bac_apdu.specs.Apdu.{Limits}
use Rattle.bac_service.specs.Requests.{SpellsRequest}
use Rattle.bac_service.specs.Values.{Request, choice_of}
use Rattle.bac_store.specs.Replies.{reply_to}
use Rattle.bac_store.specs.ReplyLengths.{DATA_LIMIT, reply_length}
use Rattle.bac_protocol.specs.Service.{Octets}
use Rattle.bac_protocol.specs.Sizes.{request_way_of}
use Rattle.bac_transaction.specs.Ends.{is_free}
use Rattle.bac_transaction.specs.Meanings.{Ending}
use Rattle.bac_world.specs.Node.{Node, Refusal, NodeRefuses}
use Rattle.bac_world.specs.World.{World, WorldRun, IsAsked, IsRefused, peer_at, told}
use Rattle.bac_world.specs.World.Event.{Ask}
use Rattle.bac_liveness.specs.StraightRuns.{IsStraight, deliveries}
use Rattle.bac_liveness.specs.StraightAnswers.{CanGo, IsAnswered, datagrams, way_between}

-- what a client is told that a server takes of APDUs: what that node takes as a client, and requests in segments, whatever its SA bit says
abbrev pub limits_of_server : Node → Limits
limits_of_server server = record (server.settings.limits) { takes_segments = true }

-- an ask is accepted, or refused
abbrev pub AsksIf : Bool → (old : World) → (client server : ℕ) → Limits → Request → (new : World) → Type 0
AsksIf true old client server limits r new = IsAsked old client server limits r new
AsksIf false old client server limits r new = IsRefused old client server limits r new

-- nothing happened, or an ask, and then so many deliveries of the copies that arose from it, each once, in order of sending
abbrev pub WentBy : (overtake : ℕ) → (old : World) → (client server : ℕ) → Limits → Request → (new : World) → Type 0
WentBy overtake old client server limits r new =
    (new ≡ old) ⊎ ((count : ℕ) × WorldRun overtake old (Ask client server limits r ∷ deliveries count (length old.copies)) new)

-- where there is such a server, with what it takes of APDUs as a server
pub record WentAt (overtake : ℕ) (old : World) (client server : ℕ) (r : Request) (new : World) : Type 0 where
  pub node : Node
  pub at : slice_get old.nodes server ≡ Some node
  pub went : WentBy overtake old client server (limits_of_server node) r new

abbrev pub WentSoFar : (overtake : ℕ) → (old : World) → (client server : ℕ) → Request → (new : World) → Type 0
WentSoFar overtake old client server r new = (new ≡ old) ⊎ WentAt overtake old client server r new

-- the ask was refused, and nothing changed
pub record IsNoRun (old : World) (client server : ℕ) (limits : Limits) (r : Request) (ending : Option Ending) (count : ℕ) (new : World) : Type 0 where
  pub refused : IsRefused old client server limits r new
  pub ending_is : ending ≡ None
  pub count_is : count ≡ 0

-- a straight run, unless the ask was refused
abbrev pub Goes : (overtake : ℕ) → (old : World) → (client server : ℕ) → Limits → Request → Option Ending → (count : ℕ) → (new : World) → Type 0
Goes overtake old client server limits r ending count new =
    IsStraight overtake old client server limits r ending count new ⊎ IsNoRun old client server limits r ending count new

-- there is such a server, which is said to take what it takes
pub record GoesAt (overtake : ℕ) (old : World) (client server : ℕ) (r : Request) (ending : Option Ending) (count : ℕ) (new : World) : Type 0 where
  pub node : Node
  pub at : slice_get old.nodes server ≡ Some node
  pub goes : Goes overtake old client server (limits_of_server node) r ending count new

-- the server has a slot without a live entry; its store's reply goes in one APDU or in segments that the client takes; and the client's window is no greater
-- than the number of copies that may overtake one
pub record CanReply (overtake now : ℕ) (client server : Node) (r : Request) : Type 0 where
  pub slot : is_free now server.servers ≡ true
  pub goes : CanGo (way_between client.settings server.settings (reply_to server.store r))
  pub room : client.settings.window ≤ overtake

-- both nodes are there, nothing speaks against the ask, and it can be answered
pub record CanBeAnswered (overtake : ℕ) (old : World) (client server : ℕ) (a b : Node) (r : Request) : Type 0 where
  pub client_at : slice_get old.nodes client ≡ Some a
  pub server_at : slice_get old.nodes server ≡ Some b
  pub may_ask : (why : Refusal) → NodeRefuses (told old client) (peer_at b.link) (limits_of_server b) r a why → ⊥
  pub can : CanReply overtake (told old server) a b r

-- what holds of each node in code: a window of 1 at least, and replies that can be sent
pub record IsWellMade (n : Node) : Type 0 where
  pub window : 1 ≤ n.settings.window
  pub replies : (r : Request) → reply_length (reply_to n.store r) ≤ DATA_LIMIT

-- it holds of the node of that number
abbrev pub IsWellMadeAt : World → ℕ → Type 0
IsWellMadeAt w i = (n : Node) → slice_get w.nodes i ≡ Some n → IsWellMade n

-- it was answered, with few deliveries for the datagrams of the request, which those octets spell, and of the reply
pub record IsAnsweredSoon (old : World) (client server : ℕ) (a b : Node) (r : Request) (ending : Option Ending) (count : ℕ) (new : World) : Type 0 where
  pub octets : Octets
  pub spelled : SpellsRequest (choice_of r) r octets
  pub answered : IsAnswered old client server r b.store (datagrams (request_way_of a.settings (limits_of_server b) octets))
      (datagrams (way_between a.settings b.settings (reply_to b.store r))) ending count new
