-- What is assumed of the network: which datagrams a link hands over.
use Rattle.std.specs.Prelude.{◌≡◌, ◌≤◌, ◌-◌, ℕ, Option, Some, None, slice_get, take}
use Rattle.bac_protocol.specs.Service.{Octets}
use Rattle.bac_world.specs.Laws.{IsMeaningless}
use Rattle.bac_world.specs.World.{Copy, IsOfNone, later, link_at}
use Rattle.bac_plant.specs.Plants.{Plant, nodes_of}

-- where a datagram comes from: it is the copy of that number, which a station sent; a stranger sent it, from that link; or it is noise; or none came
pub data Source : Type 0 where
  Nowhere : Source
  Station : (number : ℕ) → Source
  Stranger : (from octets : Octets) → Source
  Noise : (from octets : Octets) → Source

-- a link hands a copy over whole, at the link to which a station sent it, under the link of that station, while it is young and not overtaken by too many of
-- its transaction. Its age is real time from the moment at which its sender acted to that at which its receiver does.
pub record IsOfStation (overtake : ℕ) (p : Plant) (station number : ℕ) (from octets : Octets) : Type 0 where
  pub copy : Copy
  pub there : slice_get p.copies number ≡ Some copy
  pub to : copy.to ≡ station
  pub sender : link_at (nodes_of p.stations) copy.from ≡ Some from
  pub whole : copy.octets ≡ octets
  pub young : p.time.now - copy.moment ≤ p.time.pace.life
  pub few : later copy.key number p.copies ≤ overtake

-- it hands over whatever comes from a stranger, at a link of no station
pub record IsOfStranger (p : Plant) (sender sent from octets : Octets) : Type 0 where
  pub link_is : from ≡ sender
  pub whole : octets ≡ sent
  pub stranger : IsOfNone (nodes_of p.stations) sender

-- what else it hands over, from whatever link, means no APDU of a peer
pub record IsNoise (sender sent from octets : Octets) : Type 0 where
  pub link_is : from ≡ sender
  pub whole : octets ≡ sent
  pub meaningless : IsMeaningless sender sent

-- a datagram comes from there
abbrev pub ComesFrom : (overtake : ℕ) → Plant → (station : ℕ) → Source → (from octets : Octets) → Type 0
ComesFrom overtake p station Nowhere from octets = ⊥
ComesFrom overtake p station (Station number) from octets = IsOfStation overtake p station number from octets
ComesFrom overtake p station (Stranger sender sent) from octets = IsOfStranger p sender sent from octets
ComesFrom overtake p station (Noise sender sent) from octets = IsNoise sender sent from octets

-- what a call to receive gave comes from there; the octets of a datagram are the first of the buffer
abbrev pub HandsOver : (overtake : ℕ) → Plant → (station : ℕ) → Source → (came : Option (Octets × ℕ)) → (buffer : Octets) → Type 0
HandsOver overtake p station source None buffer = source ≡ Nowhere
HandsOver overtake p station source (Some d) buffer = ComesFrom overtake p station source d.0 (take d.1 buffer)
