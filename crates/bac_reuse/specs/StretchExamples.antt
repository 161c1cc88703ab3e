-- A server restarts and lets clients use an invoke ID again from then on, as a run that is computed.
use Rattle.std.specs.Prelude.{◌≡◌, ℕ, false, true, [], ◌∷◌, None, nat_eq}
use Rattle.bac_protocol.specs.Log.Fact.{Asked, Ended, Performed, Restarted}
use Rattle.bac_protocol.specs.Pace.{one_clock}
use Rattle.bac_protocol.specs.Service.Ending.{Answered}
use Rattle.bac_protocol.specs.World.{start}
use Rattle.bac_protocol.specs.World.Event.{Deliver, RestartServer}
use Rattle.bac_protocol.specs.Examples.{elapse, rules, seen}
use Rattle.bac_reuse.specs.Examples.{counting, read, read_apdu, reads, reusing, tells, told}
use Rattle.bac_reuse.specs.Stretches.{run_so_in}

-- A read comes twice. Before the restart it is performed once, and the second copy gets the kept reply; after it it is performed each time.
abbrev pub ReadsTurn : Type 0
ReadsTurn =
    seen (run_so_in ℕ counting reusing
    (record { rules = rules 32; reuses = λ node. false; events = reads 0 ∷ Deliver 0 true ∷ Deliver 0 true ∷ [] }
    ∷ record {
      rules = rules 32;
      reuses = λ node. nat_eq node 1;
      events = RestartServer 1 0 None ∷ elapse 65001 ∷ reads 2 ∷ Deliver 3 true ∷ Deliver 3 true ∷ Deliver 4 true ∷ [];
    } ∷ []) (start ℕ one_clock (λ node. 0) (λ node. 0)))
    ≡ record {
      sent = read_apdu ∷ told 12 0 ∷ told 12 0 ∷ read_apdu ∷ told 12 0 ∷ told 12 0 ∷ [];
      log = Ended 1 (Answered (tells 0)) ∷ Performed 1 read (tells 0) ∷ Performed 1 read (tells 0) ∷ Asked 1 2 1 read ∷ Restarted 1 None
          ∷ Performed 0 read (tells 0) ∷ Asked 0 0 1 read ∷ [];
      effects = 0;
    }
