-- A store as the service of a server, and what was performed on it, as values.
use Rattle.std.specs.Prelude.{◌≡◌, ℕ, Option, Some, None, Result, Ok, Err}
use Rattle.bac_service.specs.Replies as plain
use Rattle.bac_service.specs.Values.{Request}
use Rattle.bac_service.specs.Requests.{SpellsRequest}
use Rattle.bac_service.specs.Services.{request_at}
use Rattle.bac_service.specs.Spellings.{complex_spelling}
use Rattle.bac_store.specs.Stores.{Store}
use Rattle.bac_store.specs.Replies.{reply_to}
use Rattle.bac_store.specs.Changes.{after}
use Rattle.bac_protocol.specs.Service as machine
use Rattle.bac_protocol.specs.Service.{Outcome}
use Rattle.bac_protocol.specs.Service.Outcome.{Replies, Rejects}
use Rattle.bac_protocol.specs.Server.{Effect, Service}
use Rattle.bac_transaction.specs.Meanings.{MeansReply}

-- a reply with its service data in octets (clause 21); a store never replies with a Reject
abbrev pub outcome_of : plain.Reply → Outcome
outcome_of plain.Reply.Simple = Replies machine.Reply.Simple
outcome_of (plain.Reply.Complex c) = Replies (machine.Reply.Complex (complex_spelling c))
outcome_of (plain.Reply.Error class code) = Replies (machine.Reply.Error class code)
outcome_of (plain.Reply.Reject reason) = Rejects reason

-- a request gets the store's reply, and octets that are none are rejected for the reason that reading them gives (clause 18.9)
abbrev pub outcome_by : Store → Result Request ℕ → Outcome
outcome_by s (Ok r) = outcome_of (reply_to s r)
outcome_by s (Err reason) = Rejects reason

-- what a store makes of a choice and service data
abbrev pub service_of : Store → Service
service_of s choice octets = outcome_by s (request_at choice octets)

-- a request was performed, with that reply
pub record Performed : Type 0 where
  pub request : Request
  pub reply : plain.Reply

-- the machine's effect as values: the request that its octets spell, with the store's reply, which its octets mean
pub record IsPerformed (s : Store) (x : Effect) (p : Performed) : Type 0 where
  pub request : SpellsRequest x.request.choice p.request x.request.service
  pub reply : p.reply ≡ reply_to s p.request
  pub means : MeansReply x.request.choice x.reply p.reply

-- the effect, if any
abbrev pub ArePerformed : Store → Option Effect → Option Performed → Type 0
ArePerformed s None None = Unit {0}
ArePerformed s None (Some p) = ⊥
ArePerformed s (Some x) None = ⊥
ArePerformed s (Some x) (Some p) = IsPerformed s x p

-- the store after what was performed
abbrev pub store_after : Store → Option Performed → Store
store_after s None = s
store_after s (Some p) = after s p.request
