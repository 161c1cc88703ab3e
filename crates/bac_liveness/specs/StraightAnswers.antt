-- Where a straight run answers its ask, and with what.
use Rattle.std.specs.Prelude.{◌≡◌, ℕ, ◌≤◌, true, ◌∷◌, length, Option, Some, slice_get, if◌then◌else◌, nat_eq}
use Rattle.bac_apdu.specs.Apdu.{Limits}
use Rattle.bac_service.specs.Values.{Request}
use Rattle.bac_service.specs.Replies as plain
use Rattle.bac_service.specs.Spellings.{complex_spelling}
use Rattle.bac_store.specs.Stores.{Store}
use Rattle.bac_store.specs.Replies.{reply_to}
use Rattle.bac_store.specs.Changes.{after}
use Rattle.bac_store.specs.ReplyLengths.{DATA_LIMIT, reply_length}
use Rattle.bac_protocol.specs.Context.{Settings}
use Rattle.bac_protocol.specs.Sizes.{Way, request_way_of, reply_way_of}
use Rattle.bac_protocol.specs.Sizes.Way.{InOne, InSegments, Refused}
use Rattle.bac_protocol.specs.Service as machine
use Rattle.bac_protocol.specs.Straight.{cost}
use Rattle.bac_transaction.specs.Meanings.{Ending}
use Rattle.bac_transaction.specs.Meanings.Ending.{Answered}
use Rattle.bac_transaction.specs.Ends.{is_free}
use Rattle.bac_world.specs.Node.{Node}
use Rattle.bac_world.specs.Once.Fact.{Asked, Performed, Ended}
use Rattle.bac_world.specs.World.{World, stores_of, told}
use Rattle.bac_liveness.specs.StraightRuns.{IsStraight}

-- in how many datagrams data go that way
abbrev pub datagrams : {R : Type 0} → Way R → ℕ
datagrams InOne = 1
datagrams (InSegments pieces) = length pieces
datagrams (Refused why) = 0

-- it goes in one APDU, or in segments that the other end takes
abbrev pub CanGo : {R : Type 0} → Way R → Type 0
CanGo InOne = Unit {0}
CanGo (InSegments pieces) = Unit {0}
CanGo (Refused why) = ⊥

-- how a reply goes from a server to a client: all but the service data of a ComplexACK in one APDU (clauses 20.1.4 to 20.1.8)
abbrev pub way_between : (client server : Settings) → plain.Reply → Way ℕ
way_between client server plain.Reply.Simple = InOne
way_between client server (plain.Reply.Complex c) = reply_way_of server client.limits (machine.Reply.Complex (complex_spelling c))
way_between client server (plain.Reply.Error class code) = InOne
way_between client server (plain.Reply.Reject reason) = InOne

-- the server has a slot without a live entry; its store's reply, which has no more octets than a transfer may have, goes in one APDU or in segments that
-- the client takes; and both have windows, of which the client's is no greater than the number of copies that may overtake one
pub record CanAnswer (overtake now : ℕ) (client server : Node) (r : Request) : Type 0 where
  pub slot : is_free now server.servers ≡ true
  pub short : reply_length (reply_to server.store r) ≤ DATA_LIMIT
  pub goes : CanGo (way_between client.settings server.settings (reply_to server.store r))
  pub client_window : 1 ≤ client.settings.window
  pub server_window : 1 ≤ server.settings.window
  pub room : client.settings.window ≤ overtake

-- the next ask is performed once, as it was asked, on that store of its server, and ends with that store's reply; the store becomes the one after the
-- request, and all others are as they were; no time has passed; and for n datagrams of the request and m of the reply there were few deliveries
pub record IsAnswered (old : World) (client server : ℕ) (r : Request) (store : Store) (n m : ℕ) (ending : Option Ending) (count : ℕ)
    (new : World) : Type 0 where
  pub ending_is : ending ≡ Some (Answered (reply_to store r))
  pub log : new.log
      ≡ Ended (length old.notes) (Answered (reply_to store r))
      ∷ Performed (length old.notes) r (reply_to store r)
      ∷ Asked (length old.notes) client server r
      ∷ old.log
  pub stores : (node : ℕ) → stores_of new.nodes node ≡ (if nat_eq node server then Some (after store r) else stores_of old.nodes node)
  pub time : new.time ≡ old.time
  pub cheap : count ≤ cost n m

-- each straight run of that world, whatever the server is said to take, answers where it can be answered
abbrev pub StraightAnswers : (overtake : ℕ) → World → Type 0
StraightAnswers overtake old =
    (client server : ℕ) (limits : Limits) (r : Request) (ending : Option Ending) (count : ℕ) (new : World)
    → (run : IsStraight overtake old client server limits r ending count new)
    → (b : Node) → slice_get old.nodes server ≡ Some b → CanAnswer overtake (told old server) run.asks.before b r
    → IsAnswered old client server r b.store (datagrams (request_way_of run.asks.before.settings limits run.asks.asks.octets))
    (datagrams (way_between run.asks.before.settings b.settings (reply_to b.store r))) ending count new
