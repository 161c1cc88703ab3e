-- A straight run can be made by the log alone.
use Rattle.std.specs.Prelude.{◌≡◌, ◌↔◌, ℕ, true, length, None}
use Rattle.bac_apdu.specs.Apdu.{Limits}
use Rattle.bac_service.specs.Values.{Request}
use Rattle.bac_world.specs.World.{World, WorldRun, IsAsked}
use Rattle.bac_liveness.specs.StraightRuns.{is_open, key_of_ask, ending_in, deliveries}

-- while copies are delivered after an ask, its ticket is open exactly as long as the log has no ending of it
abbrev pub OpenUntilEnded : (overtake : ℕ) → World → Type 0
OpenUntilEnded overtake old =
    (client server : ℕ) (limits : Limits) (r : Request) (asked : World) → (asks : IsAsked old client server limits r asked)
    → (count number : ℕ) (w : World) → WorldRun overtake asked (deliveries count number) w
    → (is_open w client (key_of_ask old client server limits r asked asks) ≡ true) ↔ (ending_in (length old.notes) w.log ≡ None)
