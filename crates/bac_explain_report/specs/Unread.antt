-- The texts of why a frame cannot be read.
use Rattle.std.specs.Prelude.{ℕ, List, codes}
use Rattle.bac_capture.specs.Texts.{packet_fault_text, file_fault_text}
use Rattle.bac_explain_report.specs.declared.unread.Unread.{Unread}
use Rattle.bac_explain_report.specs.declared.unread.Unread.TheVariants.{Link, Packet, NoMoment, File}

abbrev pub unread_text : Unread → List ℕ
unread_text Link = codes "unknown link layer"
unread_text (Packet fault) = packet_fault_text fault
unread_text NoMoment = codes "no moment"
unread_text (File fault) = file_fault_text fault
