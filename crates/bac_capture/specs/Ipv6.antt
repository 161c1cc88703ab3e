-- The UDP packet in an IPv6 packet (RFC 8200).
use Rattle.std.specs.Prelude.{ℕ, ◌+◌, ◌*◌, ◌/◌, ◌%◌, slice_index, List, take, drop, Result, Ok, Err, Option, Some, None, Bool, ◌||◌, ◌==◌, if◌then◌else◌}
use Rattle.std.specs.Int.{w16, from_be_bytes}
use Rattle.std.specs.Option.{option_map}
use Rattle.bac_value.specs.Steps.{◌>>=◌, octet_at}
use Rattle.bac_capture.specs.declared.fault.PacketFault.{PacketFault}
use Rattle.bac_capture.specs.declared.fault.PacketFault.TheVariants.{IpHeader, Truncated}
use Rattle.bac_capture.specs.declared.packet.Part.{Part}
use Rattle.bac_capture.specs.declared.packet.Part.TheVariants.{Whole, First, Later}
use Rattle.bac_capture.specs.Fields.{cut_at, word_at, long_at}
use Rattle.bac_capture.specs.Packets.{PacketView, Ipv6HeadView}

-- of the eight octets before the addresses: version, length after the addresses, next header
unfoldable pub ipv6_head_at : List ℕ → Result (Ipv6HeadView × List ℕ) PacketFault
ipv6_head_at bytes = do
  fields ← cut_at 8 bytes
  Ok (
    record {
      first = slice_index fields.0 0;
      length = from_be_bytes w16 (take 2 (drop 4 fields.0));
      next = slice_index fields.0 6;
    },
    fields.1,
  )

-- hop-by-hop options, routing, destination options
abbrev pub is_extension : ℕ → Bool
is_extension next = next == 0 || next == 43 || next == 60

-- such a header is skipped: the number of the next one, its own length in units of eight octets without the first eight, and the rest of it
unfoldable pub extension_at : ℕ → List ℕ → Result (ℕ × List ℕ) PacketFault
extension_at next bytes =
    if is_extension next then (do
      following ← octet_at Truncated bytes
      size ← octet_at Truncated following.1
      options ← cut_at (size.0 * 8 + 6) size.1
      Ok (following.0, options.1)) else Ok (next, bytes)

-- the first thirteen bits are the offset, and the last is "more fragments"
abbrev pub fragment_part_of : ℕ → Part
fragment_part_of place = if place / 8 == 0 then (if place % 2 == 1 then First else Whole) else Later

-- the fragment header: the number of the next header, a reserved octet, offset and flag, the identification
unfoldable pub fragment_at : List ℕ → Result (Option (Part × List ℕ)) PacketFault
fragment_at bytes = do
  next ← octet_at Truncated bytes
  reserved ← octet_at Truncated next.1
  place ← word_at reserved.1
  identification ← long_at place.1
  if next.0 == 17 then Ok (Some (fragment_part_of place.0, identification.1)) else Ok None

-- UDP is 17, and a fragment header 44; for all other protocols there is no packet
abbrev pub upper_at : ℕ → List ℕ → Result (Option (Part × List ℕ)) PacketFault
upper_at next bytes =
    if next == 17 then Ok (Some (Whole, bytes)) else
    (if next == 44 then fragment_at bytes else
    (if is_extension next then Err IpHeader else Ok None))

-- the same after at most three headers with options or a route
unfoldable pub extended_at : ℕ → List ℕ → Result (Option (Part × List ℕ)) PacketFault
extended_at next bytes = do
  first ← extension_at next bytes
  second ← extension_at first.0 first.1
  third ← extension_at second.0 second.1
  upper_at third.0 third.1

-- the addresses of sender and receiver, and the contents, up to the length; anything after them is padding
unfoldable pub ipv6_udp_at : Ipv6HeadView → List ℕ → Result (Option PacketView) PacketFault
ipv6_udp_at head bytes = do
  from ← cut_at 16 bytes
  to ← cut_at 16 from.1
  found ← extended_at head.next (take head.length to.1)
  Ok (option_map (λ f. record { from = from.0; to = to.0; part = f.0; contents = f.1 }) found)

-- the version has to be 6
unfoldable pub ipv6_at : List ℕ → Result (Option PacketView) PacketFault
ipv6_at bytes = do
  head ← ipv6_head_at bytes
  if head.0.first / 16 == 6 then ipv6_udp_at head.0 head.1 else Err IpHeader
