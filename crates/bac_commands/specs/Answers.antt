-- Which datagrams answer a datagram.
use Rattle.std.specs.Prelude.{◌≡◌, ℕ, List, [], ◌∷◌, None}
use Rattle.bac_apdu.specs.Apdu.{Limits, ConfirmedRequest}
use Rattle.bac_apdu.specs.Spelling.{SpellsApdu}
use Rattle.bac_npdu.specs.Peers.{PeerView}
use Rattle.bac_npdu.specs.Datagram.{Means}
use Rattle.bac_service.specs.Values.{Request}
use Rattle.bac_service.specs.Requests.{SpellsRequest}
use Rattle.bac_transaction.specs.Sends.{Datagram, Pairwise, IsSent, to_peer}
use Rattle.bac_store.specs.House.{house}
use Rattle.bac_store.specs.Replies.{reply_to}
use Rattle.bac_store.specs.Stores.{Store}
use Rattle.bac_driver.specs.Nodes.{Node, Outcome, NodeOn}
use Rattle.bac_commands.specs.Houses.{node_with}
use Rattle.bac_commands.specs.ReplyApdus.{reply_apdu}
use Rattle.bac_commands.specs.declared.answering.TheConstants.{CLIENT, SERVER}

-- those that a node with a store sends at moment 0, to which nothing has happened, where the datagram comes from the client's link
pub record AreAnswersOf (store : Store) (octets : List ℕ) (sent : List Datagram) : Type 0 where
  pub after : Node
  pub outcome : Outcome
  pub on : NodeOn 0 CLIENT octets (node_with SERVER store) after outcome
  pub sends : sent ≡ outcome.sends

-- the same of the house store
abbrev pub AreAnswers : (octets : List ℕ) → (sent : List Datagram) → Type 0
AreAnswers octets sent = AreAnswersOf house octets sent

-- the datagram means a Confirmed-Request in one APDU, from a peer at the client's link, whose service data spell a request
pub record Asks (octets : List ℕ) (peer : PeerView) (invoke_id choice : ℕ) (r : Request) : Type 0 where
  pub limits : Limits
  pub service : List ℕ
  pub means : Means SpellsApdu CLIENT octets peer (ConfirmedRequest limits invoke_id None choice service)
  pub spelled : SpellsRequest choice r service

-- the house store's reply alone goes out to that peer
abbrev pub IsReplied : (peer : PeerView) → (invoke_id choice : ℕ) → Request → List Datagram → Type 0
IsReplied peer invoke_id choice r sent = Pairwise IsSent (to_peer peer (reply_apdu invoke_id choice (reply_to house r)) ∷ []) sent
