-- What is printed of a frame of Ethernet, which carries a datagram or not.
use Rattle.std.specs.Prelude.{◌≡◌, ℕ, ◌++◌, Bool, true, false, List, codes, Option, Some, None, Result, Ok, Err}
use Rattle.bac_capture.specs.Frames.{datagram_at}
use Rattle.bac_capture.specs.Packets.{DatagramView}
use Rattle.bac_capture.specs.Texts.{packet_fault_text}
use Rattle.bac_capture.specs.declared.fault.PacketFault.{PacketFault}
use Rattle.bac_capture.specs.declared.link.LinkKind.TheVariants as link
use Rattle.bac_text.specs.DecodedLines.{IsDatagramText}

abbrev pub has_datagram : Result (Option DatagramView) PacketFault → Bool
has_datagram (Ok (Some d)) = true
has_datagram (Ok None) = false
has_datagram (Err fault) = false

-- the octets are a frame that carries a datagram
abbrev pub is_frame : (octets : List ℕ) → Bool
is_frame octets = has_datagram (datagram_at link.Ethernet None octets)

abbrev pub none_line : List ℕ
none_line = codes "frame: no BACnet/IP datagram\n"

abbrev pub fault_line : PacketFault → List ℕ
fault_line fault = codes "frame: " ++ (packet_fault_text fault ++ codes "\n")

-- the lines of the datagram; a frame without one is not fine
abbrev pub IsFrameText : (in_words fine : Bool) → Result (Option DatagramView) PacketFault → (text : List ℕ) → Type 0
IsFrameText in_words fine (Ok (Some d)) text = IsDatagramText in_words fine d.octets text
IsFrameText in_words fine (Ok None) text = (fine ≡ false) × (text ≡ none_line)
IsFrameText in_words fine (Err fault) text = (fine ≡ false) × (text ≡ fault_line fault)

-- the lines of octets, which are a frame or a datagram
abbrev pub IsItemText : (frames in_words : Bool) → (octets : List ℕ) → (fine : Bool) → (text : List ℕ) → Type 0
IsItemText true in_words octets fine text = IsFrameText in_words fine (datagram_at link.Ethernet None octets) text
IsItemText false in_words octets fine text = IsDatagramText in_words fine octets text
