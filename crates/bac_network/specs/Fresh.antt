-- Which worlds are made, and what they are then.
use Rattle.std.specs.Prelude.{◌≡◌, ◌≢◌, ◌<◌, ◌+◌, ◌*◌, ℕ, Bool, true, false, List, [], ◌∷◌, length, map, max, None, Some, slice_get}
use Rattle.bac_protocol.specs.Pace.{IsTimely}
use Rattle.bac_protocol.specs.Service.{Octets}
use Rattle.bac_store.specs.Stores.{Store}
use Rattle.bac_world.specs.Node.{Node}
use Rattle.bac_node.specs.Fresh.{fresh_node, has_large_slots, has_slots_within}
pub use Rattle.bac_node.specs.Fresh.{has_slots, window_fits}
use Rattle.bac_node.specs.declared.config.Config.{Config}
use Rattle.bac_journal.specs.Clocks.{fresh_clocks, own_pace}
use Rattle.bac_journal.specs.Lives.{fresh_life}
use Rattle.bac_network.specs.Clocks.{Instant}
use Rattle.bac_network.specs.Histories.{WorldView}
use Rattle.bac_network.specs.declared.fault.NewClocksFault.{NewClocksFault}
use Rattle.bac_network.specs.declared.fault.NewClocksFault.TheVariants as clocks_fault
use Rattle.bac_network.specs.declared.fault.NewWorldFault.{NewWorldFault}
use Rattle.bac_network.specs.declared.fault.NewWorldFault.TheVariants as fault

-- what a node is made of
abbrev pub Maker : Type 0
Maker = Config × Store

abbrev pub links_of : List Maker → List Octets
links_of makers = map (λ (m : Maker). (m.0).link) makers

abbrev pub opening_of : List Maker → List Store
opening_of makers = map (λ (m : Maker). m.1) makers

abbrev pub nodes_of : List Maker → List Node
nodes_of makers = map (λ (m : Maker). fresh_node m.0 m.1) makers

-- a world to which nothing has happened, at that moment, in which those nodes let invoke IDs be used again
abbrev pub ruled_at : Instant → (overtake : ℕ) → (reuses : List Bool) → List Maker → WorldView
ruled_at t overtake reuses makers =
    record {
      overtake = overtake;
      opening = opening_of makers;
      reuses = reuses;
      nodes = nodes_of makers;
      time = t;
      lives = map fresh_life (links_of makers);
      copies = [];
      log = [];
      notes = [];
    }

-- where none does
abbrev pub fresh_at : Instant → (overtake : ℕ) → List Maker → WorldView
fresh_at t overtake makers = ruled_at t overtake [] makers

abbrev pub fresh_world : (overtake : ℕ) → List Maker → WorldView
fresh_world overtake makers = fresh_at (record { moment = 0; own = None }) overtake makers

-- its nodes have those rules
abbrev pub ruled_world : (overtake : ℕ) → (reuses : List Bool) → List Maker → WorldView
ruled_world overtake reuses makers = ruled_at (record { moment = 0; own = None }) overtake reuses makers

-- its nodes have clocks of their own, which begin so
abbrev pub clock_world : (overtake : ℕ) → List Maker → (drift life : ℕ) → (starts : List ℕ) → WorldView
clock_world overtake makers drift life starts = fresh_at (record { moment = 0; own = Some (fresh_clocks drift life starts) }) overtake makers

-- both
abbrev pub ruled_clock_world : (overtake : ℕ) → (reuses : List Bool) → List Maker → (drift life : ℕ) → (starts : List ℕ) → WorldView
ruled_clock_world overtake reuses makers drift life starts =
    ruled_at (record { moment = 0; own = Some (fresh_clocks drift life starts) }) overtake reuses makers

-- one of those before a place has that link
pub record IsTaken (makers : List Maker) (place : ℕ) (link : Octets) : Type 0 where
  pub before : ℕ
  pub maker : Maker
  pub below : before < place
  pub at : slice_get makers before ≡ Some maker
  pub same : (maker.0).link ≡ link

-- two of the nodes have one link
pub record HaveSameLink (makers : List Maker) : Type 0 where
  pub first : ℕ
  pub second : ℕ
  pub apart : first < second
  pub one : Maker
  pub other : Maker
  pub at_first : slice_get makers first ≡ Some one
  pub at_second : slice_get makers second ≡ Some other
  pub same : (one.0).link ≡ (other.0).link

-- a number of slots of one of them is not 1 to that many
pub record HasBadSlotsWithin (most : ℕ) (makers : List Maker) : Type 0 where
  pub place : ℕ
  pub maker : Maker
  pub at : slice_get makers place ≡ Some maker
  pub bad : has_slots_within most maker.0 ≡ false

-- it is not 1 to 1,024
abbrev pub HasBadSlots : List Maker → Type 0
HasBadSlots makers = HasBadSlotsWithin 1024 makers

-- a window is not 1 to 64
pub record HasBadWindow (makers : List Maker) : Type 0 where
  pub place : ℕ
  pub maker : Maker
  pub at : slice_get makers place ≡ Some maker
  pub bad : window_fits (maker.0).window ≡ false

-- a node can be made of it
pub record IsGood (m : Maker) : Type 0 where
  pub slots : has_large_slots m.0 ≡ true
  pub window : window_fits (m.0).window ≡ true

-- the greatest of the windows, and 1 where there are no nodes
abbrev pub greatest_window : List Maker → ℕ
greatest_window [] = 1
greatest_window (m ∷ makers) = max (m.0).window (greatest_window makers)

-- so many numbers of segments could not be told apart modulo 256
abbrev pub PassesBound : (overtake : ℕ) → List Maker → Type 0
PassesBound overtake makers = 255 < overtake + 2 * greatest_window makers

-- nothing speaks against a world of them, whose tables have so many slots at the most
pub record IsRightWithin (most overtake : ℕ) (makers : List Maker) : Type 0 where
  pub apart : HaveSameLink makers → ⊥
  pub slots : HasBadSlotsWithin most makers → ⊥
  pub windows : HasBadWindow makers → ⊥
  pub bound : PassesBound overtake makers → ⊥

-- 1,024 slots
abbrev pub IsRight : (overtake : ℕ) → List Maker → Type 0
IsRight overtake makers = IsRightWithin 1024 overtake makers

-- the first reason that holds, in this order; memory comes last
abbrev pub IsRefusedWithin : (most : ℕ) → NewWorldFault → (overtake : ℕ) → List Maker → Type 0
IsRefusedWithin most fault.SameLink overtake makers = HaveSameLink makers
IsRefusedWithin most fault.BadSlots overtake makers = (HaveSameLink makers → ⊥) × HasBadSlotsWithin most makers
IsRefusedWithin most fault.BadWindow overtake makers = (HaveSameLink makers → ⊥) × (HasBadSlotsWithin most makers → ⊥) × HasBadWindow makers
IsRefusedWithin most fault.BadBound overtake makers =
    (HaveSameLink makers → ⊥) × (HasBadSlotsWithin most makers → ⊥) × (HasBadWindow makers → ⊥) × PassesBound overtake makers
IsRefusedWithin most fault.NoMemory overtake makers = IsRightWithin most overtake makers

-- of tables with 1 to 1,024 slots
abbrev pub IsRefusedFor : NewWorldFault → (overtake : ℕ) → List Maker → Type 0
IsRefusedFor why overtake makers = IsRefusedWithin 1024 why overtake makers

-- with clocks of their own: the times of the protocol don't suffice for their pace; or there is not one start for each node
abbrev pub IsRefusedWithClocks : NewClocksFault → (overtake : ℕ) → List Maker → (drift life : ℕ) → (starts : List ℕ) → Type 0
IsRefusedWithClocks clocks_fault.BadPace overtake makers drift life starts = IsTimely (own_pace drift life) → ⊥
IsRefusedWithClocks clocks_fault.BadStarts overtake makers drift life starts = IsTimely (own_pace drift life) × (length starts ≢ length makers)
IsRefusedWithClocks (clocks_fault.NotMade why) overtake makers drift life starts =
    IsTimely (own_pace drift life) × (length starts ≡ length makers) × IsRefusedFor why overtake makers
