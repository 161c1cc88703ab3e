-- The UDP packet in an IPv4 packet (RFC 791).
use Rattle.std.specs.Prelude.{ℕ, ◌-◌, ◌*◌, ◌/◌, ◌%◌, slice_index, List, take, drop, Result, Ok, Err, Option, Some, None, nat_lt, ◌||◌, ◌==◌, if◌then◌else◌}
use Rattle.std.specs.Int.{w16, from_be_bytes}
use Rattle.bac_value.specs.Steps.{◌>>=◌}
use Rattle.bac_capture.specs.declared.fault.PacketFault.{PacketFault}
use Rattle.bac_capture.specs.declared.fault.PacketFault.TheVariants.{IpHeader}
use Rattle.bac_capture.specs.declared.packet.Part.{Part}
use Rattle.bac_capture.specs.declared.packet.Part.TheVariants.{Whole, First, Later}
use Rattle.bac_capture.specs.Fields.{cut_at}
use Rattle.bac_capture.specs.Packets.{PacketView, Ipv4HeadView}

-- of the twelve octets before the addresses: version and header length, total length, flags and fragment offset, protocol
unfoldable pub ipv4_head_at : List ℕ → Result (Ipv4HeadView × List ℕ) PacketFault
ipv4_head_at bytes = do
  fields ← cut_at 12 bytes
  Ok (
    record {
      first = slice_index fields.0 0;
      total = from_be_bytes w16 (take 2 (drop 2 fields.0));
      fragment = from_be_bytes w16 (take 2 (drop 6 fields.0));
      protocol = slice_index fields.0 9;
    },
    fields.1,
  )

-- the last thirteen bits are the offset, and the flag before them is "more fragments"
abbrev pub part_of : ℕ → Part
part_of fragment =
    if fragment % 0x2000 == 0 then (if fragment / 0x2000 % 2 == 1 then First else Whole) else Later

-- options, up to the header's length, and then the contents, up to the total length; anything after them is padding
unfoldable pub ipv4_contents_at : ℕ → ℕ → List ℕ → Result (List ℕ) PacketFault
ipv4_contents_at header total bytes =
    if nat_lt header 20 || nat_lt total header then Err IpHeader else (do
      options ← cut_at (header - 20) bytes
      Ok (take (total - header) options.1))

-- the addresses of sender and receiver, the options and the contents; the header's length is in units of four octets
unfoldable pub ipv4_udp_at : Ipv4HeadView → List ℕ → Result PacketView PacketFault
ipv4_udp_at head bytes = do
  from ← cut_at 4 bytes
  to ← cut_at 4 from.1
  contents ← ipv4_contents_at (head.first % 16 * 4) head.total to.1
  Ok (record { from = from.0; to = to.0; part = part_of head.fragment; contents = contents })

-- the version has to be 4; for a protocol other than UDP, 17, there is no packet
unfoldable pub ipv4_at : List ℕ → Result (Option PacketView) PacketFault
ipv4_at bytes = do
  head ← ipv4_head_at bytes
  if head.0.first / 16 == 4 then (if head.0.protocol == 17 then (do
    packet ← ipv4_udp_at head.0 head.1
    Ok (Some packet)) else Ok None) else Err IpHeader
