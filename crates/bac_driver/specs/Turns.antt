-- One turn of a node on a link: it takes the datagram that has come, does all that is due, and sends what both return.
use Rattle.std.specs.Prelude.{◌≡◌, ℕ, zero, suc, ◌+◌, ◌≤◌, ◌<◌, List, [], ◌++◌, map, length, take, Option, Some, None, Ok, IfSome}
use Rattle.std.specs.Option.{option_map}
use Rattle.bac_protocol.specs.Service.{Octets}
use Rattle.bac_transaction.specs.Sends.{Datagram}
use Rattle.bac_transaction.specs.Meanings.{EndedView}
use Rattle.bac_driver.specs.Calls.{Call, Calls, one_more, received, with_call}
use Rattle.bac_driver.specs.Calls.Call.{Send}
use Rattle.bac_world.specs.Node.{Cause, Node, Outcome, NodeTick}
use Rattle.bac_world.specs.Services.{Performed}
use Rattle.bac_node.specs.Calls.{IsForNoneOpen, IsNotHeard}
use Rattle.bac_node.specs.Memory.{IsWithin}
use Rattle.bac_node.specs.Serving.{NodeHearsBy}
use Rattle.bac_transaction.specs.Views.{rules_view}
use Rattle.bac_transaction.specs.declared.rules.Rules.{Rules}
use Rattle.bac_node.specs.Waiting.{IsDueBy}
use Rattle.bac_requester.specs.Timers.{LAST_MOMENT}
use Rattle.bac_driver.specs.BoundNodes.{BoundNode}
use Rattle.bac_driver.specs.Waits.{IsWait}
use Rattle.bac_driver.specs.declared.wait_limit.WaitLimit.{WaitLimit}

-- what a turn returns: when the node acted; who sent the datagram that came, and how many octets it has; what the node returned for it, and what the tick
-- returned, where they did not fail to allocate; and how many sends failed
pub record Turn : Type 0 where
  pub at : ℕ
  pub received : Option (Octets × ℕ)
  pub heard : Option Outcome
  pub ticked : Option Outcome
  pub lost : ℕ

-- ---- what a step of the node returned

abbrev pub sends_of : Option Outcome → List Datagram
sends_of None = []
sends_of (Some o) = o.sends

abbrev pub performed_of : Option Outcome → Option Performed
performed_of None = None
performed_of (Some o) = o.performed

abbrev pub ended_of : Option Outcome → List EndedView
ended_of None = []
ended_of (Some o) = o.ended

abbrev pub dropped_of : Option Outcome → Option Cause
dropped_of None = None
dropped_of (Some o) = o.dropped

-- how often it failed to allocate: once or not
abbrev pub skipped_of : Option Outcome → ℕ
skipped_of None = 1
skipped_of (Some o) = 0

-- it is done only where a datagram came
abbrev pub unheard : Option (Octets × ℕ) → Option Outcome → ℕ
unheard None heard = 0
unheard (Some d) heard = skipped_of heard

-- how many of both steps failed to allocate
abbrev pub skipped_in : Turn → ℕ
skipped_in turn = unheard turn.received turn.heard + skipped_of turn.ticked

-- ---- the steps of the node

-- taking a datagram failed to allocate, and nothing has changed: so it may be with one that the node does not drop, and that is not for a transaction of the
-- client which has ended
pub record IsUnheard (from octets : Octets) (old new : Node) : Type 0 where
  pub kept : IsNotHeard old.link from octets → ⊥
  pub awaited : IsForNoneOpen from octets old.clients → ⊥
  pub same : new ≡ old

-- the node takes a datagram, or drops it
abbrev pub HearsOne : (rules : Rules) → (now : ℕ) → (from octets : Octets) → (old new : Node) → (heard : Option Outcome) → Type 0
HearsOne rules now from octets old new None = IsUnheard from octets old new
HearsOne rules now from octets old new (Some o) = NodeHearsBy (rules_view rules) now from octets old new o

-- the one that came, if one did; its octets are the first of the buffer
abbrev pub Hears : (rules : Rules) → (now : ℕ) → (buffer : Octets) → (came : Option (Octets × ℕ)) → (old new : Node) → (heard : Option Outcome) → Type 0
Hears rules now buffer None old new heard = (heard ≡ None) × (new ≡ old)
Hears rules now buffer (Some d) old new heard = HearsOne rules now d.0 (take d.1 buffer) old new heard

-- a tick failed to allocate, and nothing has changed: so it may be where something is due
pub record IsUnticked (now : ℕ) (old new : Node) : Type 0 where
  pub due : now < LAST_MOMENT → IsDueBy now old
  pub same : new ≡ old

-- all that is due is done
abbrev pub Ticks : (now : ℕ) → (old new : Node) → (ticked : Option Outcome) → Type 0
Ticks now old new None = IsUnticked now old new
Ticks now old new (Some o) = NodeTick now old new o

-- ---- the calls of the link

abbrev pub call_of : Datagram → Call
call_of d = Send d.to d.octets

abbrev pub with_calls : Calls → List Call → Calls
with_calls calls more = option_map (λ (cs : List Call). cs ++ more) calls

-- a count of failures after so many more, which stays at its last value
abbrev pub counted : (failures lost : ℕ) → ℕ
counted failures zero = failures
counted failures (suc lost) = one_more (counted failures lost)

-- ---- the turn

-- all that is sent goes to the link, each datagram once, in order; failed sends are counted
pub record IsCarried (sends : List Datagram) (lost : ℕ) (old new : BoundNode) : Type 0 where
  pub order : new.calls ≡ with_calls old.calls (map call_of sends)
  pub count : new.failures ≡ counted old.failures lost
  pub most : lost ≤ length sends

-- the link was called to receive once, at that moment, and waited until something was due, but no longer than the limit says; the datagram that came, if one
-- did, is in the buffer
pub record Receives (p : WaitLimit) (now : ℕ) (old : BoundNode) (came : Option (Octets × ℕ)) (new : BoundNode) : Type 0 where
  pub within : IfSome came (λ d. d.1 ≤ length new.buffer)
  pub wait : ℕ
  pub waits : IsWait p now old.node wait
  pub told : new.calls ≡ with_call old.calls (received wait new.buffer (Ok came))
  pub count : new.failures ≡ old.failures
  pub node : new.node ≡ old.node
  pub rules : new.rules ≡ old.rules

-- the node took what had come, within the memory of its rules, and did all that was due, and what it sent went to the link
pub record Acts (now : ℕ) (old : BoundNode) (turn : Turn) (new : BoundNode) : Type 0 where
  pub at : turn.at ≡ now
  pub middle : Node
  pub hears : Hears old.rules now old.buffer turn.received old.node middle turn.heard
  pub within : IsWithin old.rules.memory old.node middle
  pub ticks : Ticks now middle new.node turn.ticked
  pub carried : IsCarried (sends_of turn.heard ++ sends_of turn.ticked) turn.lost old new
  pub buffer : new.buffer ≡ old.buffer
  pub rules : new.rules ≡ old.rules

-- both, one after the other, each at its moment
pub record IsTurn (p : WaitLimit) (began now : ℕ) (old : BoundNode) (turn : Turn) (new : BoundNode) : Type 0 where
  pub middle : BoundNode
  pub receives : Receives p began old turn.received middle
  pub acts : Acts now middle turn new
