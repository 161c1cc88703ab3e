-- The texts of faults.
use Rattle.std.specs.Prelude.{ℕ, List, codes}
use Rattle.bac_capture.specs.declared.fault.PacketFault.{PacketFault}
use Rattle.bac_capture.specs.declared.fault.PacketFault.TheVariants.{Truncated, IpHeader, UdpLength, Fragment}
use Rattle.bac_capture.specs.declared.fault.FileFault.{FileFault}
use Rattle.bac_capture.specs.declared.fault.FileFault.TheVariants.{Cut, ByteOrder, BlockLength, NoInterface, TooManyInterfaces}

abbrev pub packet_fault_text : PacketFault → List ℕ
packet_fault_text Truncated = codes "truncated"
packet_fault_text IpHeader = codes "bad IP header"
packet_fault_text UdpLength = codes "bad UDP length"
packet_fault_text Fragment = codes "fragment"

abbrev pub file_fault_text : FileFault → List ℕ
file_fault_text Cut = codes "file ends early"
file_fault_text ByteOrder = codes "bad byte order"
file_fault_text BlockLength = codes "bad block length"
file_fault_text NoInterface = codes "no such interface"
file_fault_text TooManyInterfaces = codes "too many interfaces"
