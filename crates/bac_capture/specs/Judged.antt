-- The result of checking a frame.
use Rattle.std.specs.Prelude.{◌≡◌, ℕ, List, Result, Ok, Err, Option, Some, None}
use Rattle.bac_capture.specs.declared.fault.PacketFault.{PacketFault}
use Rattle.bac_capture.specs.declared.link.LinkKind.{LinkKind}
use Rattle.bac_capture.specs.Blocks.{FrameView}
use Rattle.bac_text.specs.Bvlc.{other_bvll_of}
use Rattle.bac_text.specs.declared.bvlc.OtherBvll.{OtherBvll}
use Rattle.bac_capture.specs.Frames.{datagram_at}
use Rattle.bac_capture.specs.Links.{link_kind_of}
use Rattle.bac_capture.specs.Packets.{DatagramView}
use Rattle.bac_text.specs.Faults.{function_in}
use Rattle.bac_text.specs.Layers.{IsFine, IsAtFault}
use Rattle.bac_capture.specs.declared.check_fault.CapturedFault.TheVariants.{Link, Packet, Datagram, File}
use Rattle.bac_capture.specs.declared.check_fault.Verdict.{Verdict}
use Rattle.bac_capture.specs.declared.check_fault.Verdict.TheVariants.{Nothing, Good, Other, Bad}

-- for a datagram with the function that is read: it has no fault, or this one
abbrev pub IsReadVerdict : List ℕ → Verdict → Type 0
IsReadVerdict datagram Nothing = ⊥
IsReadVerdict datagram Good = IsFine datagram
IsReadVerdict datagram (Other other) = ⊥
IsReadVerdict datagram (Bad Link) = ⊥
IsReadVerdict datagram (Bad (Packet fault)) = ⊥
IsReadVerdict datagram (Bad (Datagram fault function)) = IsAtFault datagram fault × (function ≡ function_in datagram)
IsReadVerdict datagram (Bad (File fault)) = ⊥

abbrev pub IsVerdictIn : (other : Option OtherBvll) → List ℕ → Verdict → Type 0
IsVerdictIn (Some other) datagram verdict = verdict ≡ Other other
IsVerdictIn None datagram verdict = IsReadVerdict datagram verdict

abbrev pub IsDatagramVerdict : List ℕ → Verdict → Type 0
IsDatagramVerdict datagram verdict = IsVerdictIn (other_bvll_of datagram) datagram verdict

-- for what a frame carries
abbrev pub IsFoundVerdict : Result (Option DatagramView) PacketFault → Verdict → Type 0
IsFoundVerdict (Err fault) verdict = verdict ≡ Bad (Packet fault)
IsFoundVerdict (Ok None) verdict = verdict ≡ Nothing
IsFoundVerdict (Ok (Some datagram)) verdict = IsDatagramVerdict datagram.octets verdict

abbrev pub IsLinkVerdict : Option ℕ → List ℕ → Option LinkKind → Verdict → Type 0
IsLinkVerdict also octets None verdict = verdict ≡ Bad Link
IsLinkVerdict also octets (Some link) verdict = IsFoundVerdict (datagram_at link also octets) verdict

-- for a frame; `also` is a port in addition to the sixteen
abbrev pub IsVerdict : Option ℕ → FrameView → Verdict → Type 0
IsVerdict also frame verdict = IsLinkVerdict also frame.octets (link_kind_of frame.link) verdict
