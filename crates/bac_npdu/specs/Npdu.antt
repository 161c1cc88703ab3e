-- BVLL and NPDU: the one spelling of each (clause J.2, clause 6.2).
use Rattle.std.specs.Prelude.{◌≡◌, ℕ, ◌+◌, ◌<◌, ◌^◌, Bool, true, nat_lt, ◌==◌, ◌&&◌, ◌||◌, if◌then◌else◌, IsTrue, List, [], ◌∷◌, ◌++◌, length, Option, Some}
use Rattle.std.specs.Prelude.{None, is_some}
use Rattle.std.specs.Int.{w16, to_be_bytes}
use Rattle.bac_npdu.specs.declared.control.TheConstants.{NETWORK_MESSAGE, DESTINATION, SOURCE, EXPECTING_REPLY}
use Rattle.bac_npdu.specs.Peers.{RouteView, route_fits, ALL_NETWORKS}

-- the destination of an NPDU (clause 6.2.2); network 65,535 is the global broadcast, and an empty address a broadcast on the network
pub record DestinationView : Type 0 where
  pub network : ℕ
  pub address : List ℕ
  pub hops : ℕ

-- a network layer message: its type, and the vendor identifier of types from 128 on (clause 6.2.4)
pub record MessageView : Type 0 where
  pub kind : ℕ
  pub vendor : Option ℕ

-- the contents are the APDU, or the raw contents of the network layer message
pub record NpduView : Type 0 where
  pub destination : Option DestinationView
  pub source : Option RouteView
  pub expecting : Bool
  pub priority : ℕ
  pub message : Option MessageView
  pub contents : List ℕ

-- addresses have at most 8 octets, and none on network 65,535 (both own limits of this profile)
abbrev pub destination_fits : ℕ → ℕ → Bool
destination_fits network octets = nat_lt 0 network && nat_lt network 65536 && nat_lt octets 9 && (nat_lt network ALL_NETWORKS || octets == 0)

abbrev pub message_fits : ℕ → Option ℕ → Bool
message_fits kind None = nat_lt kind 128
message_fits kind (Some vendor) = nat_lt 127 kind && nat_lt vendor 65536

abbrev pub all_of : {A : Type 0} → (A → Bool) → Option A → Bool
all_of test None = true
all_of test (Some x) = test x

-- which NPDUs can be encoded
pub record NpduFits (n : NpduView) : Type 0 where
  pub destination : IsTrue (all_of (λ d. destination_fits d.network (length d.address)) n.destination)
  pub source : IsTrue (all_of route_fits n.source)
  pub message : IsTrue (all_of (λ m. message_fits m.kind m.vendor) n.message)
  pub priority : n.priority < 4

abbrev pub bit : Bool → ℕ → ℕ
bit b weight = if b then weight else 0

-- the control octet: bit 7 network layer message, 5 destination, 3 source, 2 expecting reply, 1 and 0 the priority (clause 6.2.2)
abbrev pub control_octet : NpduView → ℕ
control_octet n =
    bit (is_some n.message) NETWORK_MESSAGE + bit (is_some n.destination) DESTINATION + bit (is_some n.source) SOURCE
    + bit n.expecting EXPECTING_REPLY + n.priority

-- a network number, the address length, and the address
abbrev pub address_spelling : ℕ → List ℕ → List ℕ
address_spelling network address = to_be_bytes w16 network ++ length address ∷ address

-- an optional member
abbrev pub optional : {A : Type 0} → (A → List ℕ) → Option A → List ℕ
optional spelling None = []
optional spelling (Some x) = spelling x

abbrev pub message_spelling : MessageView → List ℕ
message_spelling m = m.kind ∷ optional (to_be_bytes w16) m.vendor

-- what follows the control octet: the members that it announces, and the contents
unfoldable pub members_spelling : NpduView → List ℕ
members_spelling n =
    optional (λ d. address_spelling d.network d.address) n.destination
    ++ (optional (λ r. address_spelling r.network r.address) n.source
    ++ (optional (λ d. d.hops ∷ []) n.destination
    ++ (optional message_spelling n.message
    ++ n.contents)))

-- version 1, the control octet, the members and the contents
unfoldable pub npdu_spelling : NpduView → List ℕ
npdu_spelling n = 1 ∷ control_octet n ∷ members_spelling n

pub record SpellsNpdu (n : NpduView) (octets : List ℕ) : Type 0 where
  pub fits : NpduFits n
  pub is : octets ≡ npdu_spelling n

-- Original-Unicast-NPDU (clause J.2.11): the length includes the four octets in front of the NPDU
unfoldable pub bvll_spelling : List ℕ → List ℕ
bvll_spelling npdu = 0x81 ∷ 0x0A ∷ (to_be_bytes w16 (length npdu + 4) ++ npdu)

pub record SpellsBvll (npdu : List ℕ) (octets : List ℕ) : Type 0 where
  pub fits : length npdu + 4 < 2 ^ 16
  pub is : octets ≡ bvll_spelling npdu
