-- The functions of a BVLL (Annex J).
use Rattle.std.specs.Prelude.{ℕ, List, length, drop, slice_index, codes, nat_le, ◌==◌, ◌&&◌, Bool, if◌then◌else◌, Option, Some, None}
use Rattle.byteorder.specs.Endian.{big_number}
use Rattle.bac_text.specs.declared.bvlc.BvlcFunction.{BvlcFunction}
use Rattle.bac_text.specs.declared.bvlc.BvlcFunction.TheVariants as function
use Rattle.bac_text.specs.declared.bvlc.OtherBvll.{OtherBvll}
use Rattle.bac_text.specs.declared.bvlc.OtherBvll.TheVariants as other

abbrev later_function_of : ℕ → Option BvlcFunction
later_function_of n =
    if n == 0x07 then Some function.ReadForeignDeviceTableAck else
    (if n == 0x08 then Some function.DeleteForeignDeviceTableEntry else
    (if n == 0x09 then Some function.DistributeBroadcastToNetwork else
    (if n == 0x0A then Some function.OriginalUnicastNpdu else
    (if n == 0x0B then Some function.OriginalBroadcastNpdu else
    (if n == 0x0C then Some function.SecureBvll else None)))))

-- clause J.2
abbrev pub function_of : ℕ → Option BvlcFunction
function_of n =
    if n == 0x00 then Some function.Result else
    (if n == 0x01 then Some function.WriteBroadcastDistributionTable else
    (if n == 0x02 then Some function.ReadBroadcastDistributionTable else
    (if n == 0x03 then Some function.ReadBroadcastDistributionTableAck else
    (if n == 0x04 then Some function.ForwardedNpdu else
    (if n == 0x05 then Some function.RegisterForeignDevice else
    (if n == 0x06 then Some function.ReadForeignDeviceTable else later_function_of n))))))

abbrev pub function_number : BvlcFunction → ℕ
function_number function.Result = 0x00
function_number function.WriteBroadcastDistributionTable = 0x01
function_number function.ReadBroadcastDistributionTable = 0x02
function_number function.ReadBroadcastDistributionTableAck = 0x03
function_number function.ForwardedNpdu = 0x04
function_number function.RegisterForeignDevice = 0x05
function_number function.ReadForeignDeviceTable = 0x06
function_number function.ReadForeignDeviceTableAck = 0x07
function_number function.DeleteForeignDeviceTableEntry = 0x08
function_number function.DistributeBroadcastToNetwork = 0x09
function_number function.OriginalUnicastNpdu = 0x0A
function_number function.OriginalBroadcastNpdu = 0x0B
function_number function.SecureBvll = 0x0C

abbrev pub function_name : BvlcFunction → List ℕ
function_name function.Result = codes "BVLC-Result"
function_name function.WriteBroadcastDistributionTable = codes "Write-Broadcast-Distribution-Table"
function_name function.ReadBroadcastDistributionTable = codes "Read-Broadcast-Distribution-Table"
function_name function.ReadBroadcastDistributionTableAck = codes "Read-Broadcast-Distribution-Table-Ack"
function_name function.ForwardedNpdu = codes "Forwarded-NPDU"
function_name function.RegisterForeignDevice = codes "Register-Foreign-Device"
function_name function.ReadForeignDeviceTable = codes "Read-Foreign-Device-Table"
function_name function.ReadForeignDeviceTableAck = codes "Read-Foreign-Device-Table-Ack"
function_name function.DeleteForeignDeviceTableEntry = codes "Delete-Foreign-Device-Table-Entry"
function_name function.DistributeBroadcastToNetwork = codes "Distribute-Broadcast-To-Network"
function_name function.OriginalUnicastNpdu = codes "Original-Unicast-NPDU"
function_name function.OriginalBroadcastNpdu = codes "Original-Broadcast-NPDU"
function_name function.SecureBvll = codes "Secure-BVLL"

-- the length in a BVLL is that of the datagram
abbrev pub is_framed : List ℕ → Bool
is_framed datagram = nat_le 4 (length datagram) && big_number 2 (drop 2 datagram) == length datagram

abbrev pub over_ipv4 : Option BvlcFunction → Option OtherBvll
over_ipv4 None = None
over_ipv4 (Some function) = Some (other.Ipv4 function)

-- a function other than Original-Unicast-NPDU
abbrev pub other_function_of : ℕ → Option OtherBvll
other_function_of number = if number == 0x0A then None else over_ipv4 (function_of number)

abbrev pub other_kind_of : (kind number : ℕ) → Option OtherBvll
other_kind_of kind number = if kind == 0x81 then other_function_of number else (if kind == 0x82 then Some other.Ipv6 else None)

-- a BVLL with a function other than Original-Unicast-NPDU, or one over IPv6 (Annex U)
abbrev pub other_bvll_of : List ℕ → Option OtherBvll
other_bvll_of datagram = if is_framed datagram then other_kind_of (slice_index datagram 0) (slice_index datagram 1) else None
