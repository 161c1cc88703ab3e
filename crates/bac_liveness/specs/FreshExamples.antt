-- What the laws of strict servers say does not hold of a server of fresh reads, in computed runs: node 1 lets invoke IDs be used again.
use Rattle.std.specs.Prelude.{◌≡◌, ℕ, true, List, [], ◌∷◌, Some, if◌then◌else◌, nat_eq}
use Rattle.bac_protocol.specs.Service.Outcome.{Replies}
use Rattle.bac_protocol.specs.Service.Ending.{Aborted, Answered}
use Rattle.bac_protocol.specs.Log.{Fact, StoreModel}
use Rattle.bac_protocol.specs.Log.Fact.{Asked, Performed, Ended, Restarted}
use Rattle.bac_protocol.specs.Pace.{one_clock}
use Rattle.bac_protocol.specs.World.{Event, run, start}
use Rattle.bac_protocol.specs.World.Event.{Deliver, RestartServer}
use Rattle.bac_protocol.specs.Examples.{rules}
use Rattle.bac_reuse.specs.Examples.{counting, on, read, reads, reusing, tells, write, writes}
use Rattle.bac_reuse.specs.Runs.{run_so}
use Rattle.bac_liveness.specs.Examples.{long}

-- One round trip at a strict server ends an ask with the one reply with which it was performed. Here a write comes between two copies of a read: the read is
-- performed twice, and ends with the reply of the answer that is delivered, here the later one. A strict server performs it once.
abbrev pub twice_read : List Event
twice_read = reads 0 ∷ Deliver 0 true ∷ writes 2 on ∷ Deliver 2 true ∷ Deliver 0 true ∷ Deliver 4 true ∷ []

abbrev pub write_between : List Fact
write_between = Performed 1 (write on) (tells 0) ∷ Asked 1 2 1 (write on) ∷ Performed 0 read (tells 0) ∷ Asked 0 0 1 read ∷ []

pub record ReadTwice : Type 0 where
  pub fresh : (run_so ℕ counting (rules 32) reusing twice_read (start ℕ one_clock (λ node. 0) (λ node. 0))).net.log
      ≡ Ended 0 (Answered (tells 1)) ∷ Performed 0 read (tells 1) ∷ write_between
  pub strict : (run ℕ counting (rules 32) twice_read (start ℕ one_clock (λ node. 0) (λ node. 0))).net.log
      ≡ Ended 0 (Answered (tells 0)) ∷ write_between

-- An answer ends its ask only while that waits. Here a read's reply goes in two segments, and its client took the first; then the server restarts with a store
-- whose reply is one APDU. A copy of the read is performed at once, since a read needs no slot, and its answer leaves the ask open: it collects the other
-- one. A strict server waits after a restart, and turns the copy away.
abbrev pub telling : StoreModel ℕ
telling = record {
  outcome = λ s choice octets. Replies (if nat_eq s 0 then long else tells s);
  after = λ s request. s;
  changed = λ s change. s;
  opened = λ store. 1;
}

abbrev pub collecting : List Event
collecting = reads 0 ∷ Deliver 0 true ∷ Deliver 1 true ∷ RestartServer 1 0 (Some []) ∷ Deliver 0 true ∷ Deliver 3 true ∷ []

pub record AnswerUnheard : Type 0 where
  pub fresh : (run_so ℕ telling (rules 32) reusing collecting (start ℕ one_clock (λ node. 0) (λ node. 0))).net.log
      ≡ Performed 0 read (tells 1) ∷ Restarted 1 (Some []) ∷ Performed 0 read long ∷ Asked 0 0 1 read ∷ []
  pub strict : (run ℕ telling (rules 32) collecting (start ℕ one_clock (λ node. 0) (λ node. 0))).net.log
      ≡ Ended 0 (Aborted 0) ∷ Restarted 1 (Some []) ∷ Performed 0 read long ∷ Asked 0 0 1 read ∷ []
