-- What a datagram carries.
use Rattle.std.specs.Prelude.{List, ℕ, Option, Some, None, Result, Ok, Err}
use Rattle.bac_apdu.specs.Apdu.{Apdu}
use Rattle.bac_apdu.specs.Reading.{apdu_at}
use Rattle.bac_npdu.specs.Npdu.{NpduView}
use Rattle.bac_npdu.specs.Reading.{bvll_at, npdu_at}
use Rattle.bac_npdu.specs.declared.fault.FrameFault.{FrameFault}

-- what was read, if anything was
abbrev pub found : {A E : Type 0} → Result A E → Option A
found (Ok a) = Some a
found (Err e) = None

abbrev pub npdu_of : Result (List ℕ) FrameFault → Option NpduView
npdu_of (Ok octets) = found (npdu_at octets)
npdu_of (Err fault) = None

-- the NPDU of a frame
abbrev pub npdu_in : (datagram : List ℕ) → Option NpduView
npdu_in datagram = npdu_of (bvll_at datagram)

abbrev pub contents_of : Option NpduView → Option Apdu
contents_of (Some npdu) = found (apdu_at npdu.contents)
contents_of None = None

-- the APDU of a frame
abbrev pub apdu_in : (datagram : List ℕ) → Option Apdu
apdu_in datagram = contents_of (npdu_in datagram)
