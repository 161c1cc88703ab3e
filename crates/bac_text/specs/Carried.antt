-- The name of the function of a BVLL, and where the NPDU stands that it carries.
use Rattle.std.specs.Prelude.{ℕ, Bool, true, false, ◌&&◌, nat_le, List, [], ◌∷◌, ◌++◌, length, slice_index, codes, Option, Some, None, if◌then◌else◌}
use Rattle.bac_service_text.specs.Members.{line_end}
use Rattle.bac_text.specs.Bvlc.{function_name}
use Rattle.bac_text.specs.Peers.{link_text}
use Rattle.bac_text.specs.declared.bvlc.BvlcFunction.{BvlcFunction}
use Rattle.bac_text.specs.declared.bvlc.BvlcFunction.TheVariants as function

-- where the NPDU stands
abbrev pub carried_at : BvlcFunction → Option ℕ
carried_at function.Result = None
carried_at function.WriteBroadcastDistributionTable = None
carried_at function.ReadBroadcastDistributionTable = None
carried_at function.ReadBroadcastDistributionTableAck = None
carried_at function.ForwardedNpdu = Some 10
carried_at function.RegisterForeignDevice = None
carried_at function.ReadForeignDeviceTable = None
carried_at function.ReadForeignDeviceTableAck = None
carried_at function.DeleteForeignDeviceTableEntry = None
carried_at function.DistributeBroadcastToNetwork = Some 4
carried_at function.OriginalUnicastNpdu = None
carried_at function.OriginalBroadcastNpdu = Some 4
carried_at function.SecureBvll = None

abbrev pub is_forwarded : BvlcFunction → Bool
is_forwarded function.ForwardedNpdu = true
is_forwarded f = false

-- who sent what is forwarded: an address of IPv4 and a port
abbrev pub sender_of : (datagram : List ℕ) → List ℕ
sender_of d =
    slice_index d 4 ∷ slice_index d 5 ∷ slice_index d 6 ∷ slice_index d 7 ∷ slice_index d 8 ∷ slice_index d 9 ∷ []

abbrev pub sender_text : BvlcFunction → (datagram : List ℕ) → List ℕ
sender_text f datagram = if is_forwarded f && nat_le 10 (length datagram) then codes " from=" ++ link_text (sender_of datagram) else []

abbrev pub function_line : BvlcFunction → (datagram : List ℕ) → List ℕ
function_line f datagram = (codes "function " ++ (function_name f ++ sender_text f datagram)) ++ line_end
