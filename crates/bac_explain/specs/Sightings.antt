-- Captured APDUs of transactions, between two link addresses.
use Rattle.std.specs.Prelude.{ℕ, if◌then◌else◌, List, Option, Some, None, Result, Ok, Err}
use Rattle.bac_apdu.specs.Reading.{apdu_at}
use Rattle.bac_npdu.specs.Npdu.{NpduView, DestinationView, MessageView}
use Rattle.bac_npdu.specs.Peers.{PeerView, route_fits}
use Rattle.bac_npdu.specs.Reading.{bvll_at, npdu_at}
use Rattle.bac_explain.specs.declared.part.Part.{Part}
use Rattle.bac_explain.specs.declared.part.Role.{Role}
use Rattle.bac_explain.specs.declared.sighting.Sighting.{Sighting}
use Rattle.bac_explain.specs.Keys.{Key}
use Rattle.bac_explain.specs.KeyViews.{key_view}
use Rattle.bac_explain.specs.Parts.{part_of}

-- the transaction, the role of the APDU, and its octets
pub record SightingView : Type 0 where
  pub key : Key
  pub role : Role
  pub octets : List ℕ

abbrev pub sighting_view : Sighting → SightingView
sighting_view s = record { key = key_view s.key; role = s.role; octets = s.octets.now }

-- what follows if there is a value
infixl 10 ◌>>=◌
abbrev pub ◌>>=◌ : {A B : Type 0} → Option A → (A → Option B) → Option B
None >>= f = None
Some x >>= f = f x

abbrev pub read_of : {A E : Type 0} → Result A E → Option A
read_of (Ok x) = Some x
read_of (Err e) = None

-- a destination is a route if it identifies one device (clause 6.2.2)
abbrev pub receiver_of : List ℕ → Option DestinationView → Option PeerView
receiver_of link None = Some (record { link = link; route = None })
receiver_of link (Some d) =
    if route_fits (record { network = d.network; address = d.address }) then
    Some (record { link = link; route = Some (record { network = d.network; address = d.address }) }) else None

-- what the client sends goes to the server, and vice versa
abbrev pub key_of : Part → PeerView → PeerView → Key
key_of part from to =
    if part.by_client then record { client = from; server = to; invoke_id = part.invoke_id } else
    record { client = to; server = from; invoke_id = part.invoke_id }

-- the APDU of an NPDU that is not a network layer message
unfoldable pub apdu_sighting : (from to : List ℕ) → NpduView → Option SightingView
apdu_sighting from to npdu = do
  receiver ← receiver_of to npdu.destination
  apdu ← read_of (apdu_at npdu.contents)
  part ← part_of apdu
  Some (record { key = key_of part (record { link = from; route = npdu.source }) receiver; role = part.role; octets = npdu.contents })

abbrev pub unless_message : Option MessageView → Option SightingView → Option SightingView
unless_message None sighting = sighting
unless_message (Some message) sighting = None

abbrev pub sighting_in : (from to : List ℕ) → NpduView → Option SightingView
sighting_in from to npdu = unless_message npdu.message (apdu_sighting from to npdu)

-- the APDU of a transaction in a datagram between two link addresses
unfoldable pub sighting_at : (from to datagram : List ℕ) → Option SightingView
sighting_at from to datagram = do
  octets ← read_of (bvll_at datagram)
  npdu ← read_of (npdu_at octets)
  sighting_in from to npdu
