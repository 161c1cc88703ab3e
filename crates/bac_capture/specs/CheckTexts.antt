-- The texts of what is wrong with frames.
use Rattle.std.specs.Prelude.{ℕ, Bool, List, codes}
use Rattle.bac_capture.specs.Texts.{packet_fault_text, file_fault_text}
use Rattle.bac_text.specs.Faults.{printed_fault}
use Rattle.bac_capture.specs.declared.check_fault.CapturedFault.{CapturedFault}
use Rattle.bac_capture.specs.declared.check_fault.CapturedFault.TheVariants.{Link, Packet, Datagram, File}

abbrev pub frame_fault_text : (in_words : Bool) → CapturedFault → List ℕ
frame_fault_text in_words Link = codes "unknown link layer"
frame_fault_text in_words (Packet fault) = packet_fault_text fault
frame_fault_text in_words (Datagram fault function) = printed_fault in_words function fault
frame_fault_text in_words (File fault) = file_fault_text fault
