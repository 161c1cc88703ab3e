-- A link over another one: what it hears and does not hear, what it sends and does not send.
use Rattle.std.specs.Prelude.{◌≡◌, ℕ, Bool, true, false, List, length, Option, Some, None, Result, Ok, Err}
use Rattle.std.specs.Option.{option_map}
use Rattle.bac_driver.specs.Calls.{Calls, IsCounted, one_more, received, with_call}
use Rattle.bac_driver.specs.Calls.Call.{Send}
use Rattle.bac_driver.specs.Moments.{Told}
use Rattle.bac_driver.specs.declared.link.LinkFault.{LinkFault}
use Rattle.bac_guard.specs.declared.block.Block.{Block}
use Rattle.bac_guard.specs.declared.guard.Guard as given
use Rattle.bac_guard.specs.declared.guarded.Guarded as code
use Rattle.bac_guard.specs.Budgets.{Table, new_table}
use Rattle.bac_guard.specs.Meters.{IsCredited, IsSpent, Meter, meter_view}
use Rattle.bac_guard.specs.Sources.{is_heard}
use Rattle.bac_guard.specs.Views.{blocks_of}

-- the calls of the link below and how many of them failed, the blocks that are heard, what is counted of what comes and goes, and how many datagrams were not
-- heard and not sent
pub record Guard : Type 0 where
  pub calls : Calls
  pub failures : ℕ
  pub blocks : List Block
  pub meter : Meter
  pub unheard : ℕ
  pub unsent : ℕ

abbrev pub guard_view : {L C : Type 0} → (failures : L → ℕ) → (calls : L → Calls) → (told : C → Told) → code.Guarded L C → Guard
guard_view failures calls told g =
    record {
      calls = calls g.link;
      failures = failures g.link;
      blocks = blocks_of g.sources;
      meter = meter_view told g.meter;
      unheard = g.unheard;
      unsent = g.unsent;
    }

-- the link below
abbrev pub link_below : {L C : Type 0} → code.Guarded L C → L
link_below g = g.link

-- nothing is counted yet
abbrev pub new_guard : (failures : ℕ) → Calls → Told → (blocks : List Block) → Option Table → (spares : Bool) → Guard
new_guard failures calls told blocks table spares =
    record {
      calls = calls;
      failures = failures;
      blocks = blocks;
      meter = record { told = told; table = table; spares = spares };
      unheard = 0;
      unsent = 0;
    }

-- a link hears and sends as it was told, by some key, and all its buckets were full at a moment
pub record IsGuardedBy {L C : Type 0} (began : ℕ) (guard : given.Guard) (g : code.Guarded L C) : Type 0 where
  pub key : ℕ
  pub blocks : blocks_of g.sources ≡ blocks_of guard.sources
  pub table : g.meter.budget ≡ option_map (λ (rate : ℕ). new_table key rate began) guard.rate
  pub spares : g.meter.spares_loopback ≡ guard.spares_loopback

-- ---- sending

-- the datagram that fits goes to the link below; another one is lost, and counted
abbrev pub SendsBy : (fits : Bool) → (to octets : List ℕ) → Result (Unit {0}) LinkFault → (old new : Guard) → Type 0
SendsBy true to octets result old new =
    (new.calls ≡ with_call old.calls (Send to octets)) × IsCounted result old.failures new.failures × (new.unsent ≡ old.unsent)
SendsBy false to octets result old new =
    (result ≡ Ok tt) × (new.calls ≡ old.calls) × (new.failures ≡ old.failures) × (new.unsent ≡ one_more old.unsent)

pub record IsSent (to octets : List ℕ) (result : Result (Unit {0}) LinkFault) (old new : Guard) : Type 0 where
  pub fits : Bool
  pub meter : IsSpent to (length octets) fits old.meter new.meter
  pub sends : SendsBy fits to octets result old new
  pub blocks : new.blocks ≡ old.blocks
  pub unheard : new.unheard ≡ old.unheard

-- ---- receiving

abbrev pub Came : Type 0
Came = Option (List ℕ × ℕ)

-- a datagram whose source is heard came, and counts; another one is as none, and counted as such
abbrev pub HearsBy : (heard : Bool) → (from : List ℕ) → (octets : ℕ) → (result : Result Came LinkFault) → (old new : Guard) → Type 0
HearsBy true from octets result old new =
    (result ≡ Ok (Some (from, octets))) × IsCredited from octets old.meter new.meter × (new.unheard ≡ old.unheard)
HearsBy false from octets result old new = (result ≡ Ok None) × (new.meter ≡ old.meter) × (new.unheard ≡ one_more old.unheard)

-- what the link below received
abbrev pub Hears : (below result : Result Came LinkFault) → (old new : Guard) → Type 0
Hears (Ok (Some d)) result old new = HearsBy (is_heard old.blocks d.0) d.0 d.1 result old new
Hears (Ok None) result old new = (result ≡ Ok None) × (new.meter ≡ old.meter) × (new.unheard ≡ old.unheard)
Hears (Err fault) result old new = (result ≡ Err fault) × (new.meter ≡ old.meter) × (new.unheard ≡ old.unheard)

pub record IsReceived (wait : ℕ) (buffer : List ℕ) (result : Result Came LinkFault) (old new : Guard) : Type 0 where
  pub below : Result Came LinkFault
  pub calls : new.calls ≡ with_call old.calls (received wait buffer below)
  pub counted : IsCounted below old.failures new.failures
  pub hears : Hears below result old new
  pub blocks : new.blocks ≡ old.blocks
  pub unsent : new.unsent ≡ old.unsent
