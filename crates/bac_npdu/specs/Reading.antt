-- Readers as functions on lists, from left to right.
use Rattle.std.specs.Prelude.{ℕ, ◌%◌, slice_index, List, length, take, drop, Result, Ok, Err, Option, Some, None, Bool, true, false}
use Rattle.std.specs.Prelude.{nat_lt, ◌==◌, ◌&&◌, ◌||◌, if◌then◌else◌}
use Rattle.std.specs.Int.{w16, from_be_bytes}
use Rattle.bac_value.specs.Steps.{◌>>=◌, octet_at, has_bit}
use Rattle.bac_npdu.specs.declared.fault.FrameFault.{FrameFault}
use Rattle.bac_npdu.specs.declared.fault.FrameFault.TheVariants.{Truncated, Version, ReservedBits, BadNet, BadLength, NotUnicast}
use Rattle.bac_npdu.specs.declared.control.TheConstants.{NETWORK_MESSAGE, RESERVED_HIGH, DESTINATION, RESERVED_LOW, SOURCE, EXPECTING_REPLY}
use Rattle.bac_npdu.specs.Peers.{RouteView, ALL_NETWORKS}
use Rattle.bac_npdu.specs.Npdu.{DestinationView, MessageView, NpduView}

unfoldable pub word_at : List ℕ → Result (ℕ × List ℕ) FrameFault
word_at bytes = if nat_lt (length bytes) 2 then Err Truncated else Ok (from_be_bytes w16 (take 2 bytes), drop 2 bytes)

unfoldable pub cut_at : ℕ → List ℕ → Result (List ℕ × List ℕ) FrameFault
cut_at count bytes = if nat_lt (length bytes) count then Err Truncated else Ok (take count bytes, drop count bytes)

-- the limits of the network number and of the address length, for a source and for a destination
abbrev pub network_in : Bool → ℕ → Bool
network_in is_source network = nat_lt 0 network && (nat_lt network ALL_NETWORKS || (if is_source then false else true))

abbrev pub count_in : Bool → ℕ → ℕ → Bool
count_in is_source network count = nat_lt count 9 && (if is_source then nat_lt 0 count else (nat_lt network ALL_NETWORKS || count == 0))

unfoldable pub address_at : Bool → ℕ → List ℕ → Result (RouteView × List ℕ) FrameFault
address_at is_source network bytes = do
  count ← octet_at Truncated bytes
  if count_in is_source network count.0 then (do
    address ← cut_at count.0 count.1
    Ok (record { network = network; address = address.0 }, address.1)) else Err BadLength

unfoldable pub place_at : Bool → List ℕ → Result (RouteView × List ℕ) FrameFault
place_at is_source bytes = do
  network ← word_at bytes
  if network_in is_source network.0 then address_at is_source network.0 network.1 else Err BadNet

-- a member that is present if its bit is set
abbrev pub optional_at : {A : Type 0} → (List ℕ → Result (A × List ℕ) FrameFault) → Bool → List ℕ → Result (Option A × List ℕ) FrameFault
optional_at read false bytes = Ok (None, bytes)
optional_at read true bytes = do
  x ← read bytes
  Ok (Some x.0, x.1)

abbrev pub hops_at : Option RouteView → List ℕ → Result (Option DestinationView × List ℕ) FrameFault
hops_at None bytes = Ok (None, bytes)
hops_at (Some place) bytes = do
  hops ← octet_at Truncated bytes
  Ok (Some (record { network = place.network; address = place.address; hops = hops.0 }), hops.1)

unfoldable pub message_at : List ℕ → Result (MessageView × List ℕ) FrameFault
message_at bytes = do
  kind ← octet_at Truncated bytes
  if nat_lt kind.0 128 then Ok (record { kind = kind.0; vendor = None }, kind.1) else (do
    vendor ← word_at kind.1
    Ok (record { kind = kind.0; vendor = Some vendor.0 }, vendor.1))

unfoldable pub members_at : ℕ → List ℕ → Result NpduView FrameFault
members_at control bytes = do
  place ← optional_at (place_at false) (has_bit control DESTINATION) bytes
  source ← optional_at (place_at true) (has_bit control SOURCE) place.1
  destination ← hops_at place.0 source.1
  message ← optional_at message_at (has_bit control NETWORK_MESSAGE) destination.1
  Ok (record {
    destination = destination.0;
    source = source.0;
    expecting = has_bit control EXPECTING_REPLY;
    priority = control % 4;
    message = message.0;
    contents = message.1;
  })

unfoldable pub control_at : List ℕ → Result NpduView FrameFault
control_at bytes = do
  control ← octet_at Truncated bytes
  if has_bit control.0 RESERVED_HIGH || has_bit control.0 RESERVED_LOW then Err ReservedBits else members_at control.0 control.1

unfoldable pub npdu_at : List ℕ → Result NpduView FrameFault
npdu_at bytes = do
  version ← octet_at Truncated bytes
  if version.0 == 1 then control_at version.1 else Err Version

unfoldable pub bvll_at : List ℕ → Result (List ℕ) FrameFault
bvll_at bytes =
    if nat_lt (length bytes) 4 then Err Truncated else
    (if slice_index bytes 0 == 0x81 then
    (if slice_index bytes 1 == 0x0A then
    (if from_be_bytes w16 (take 2 (drop 2 bytes)) == length bytes then Ok (drop 4 bytes) else Err BadLength)
    else Err NotUnicast)
    else Err Version)
