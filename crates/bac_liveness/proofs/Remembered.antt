-- What an entry keeps of an ask's request, beside its state.
use Rattle.std.proofs.Common.{Option, Some, None}
use Rattle.bac_segment.specs.Pieces.{join}
use Rattle.bac_protocol.specs.Service.{Octets}
use Rattle.bac_protocol.specs.Client.{Ask}
use Rattle.bac_protocol.specs.Server.{ServerTransaction, first_of}

pub record Remembered : Type 0 where
  pub request : Option Octets
  pub first : Option Octets

-- of one APDU
abbrev pub of_whole : Ask → Remembered
of_whole ask = record { request = Some (join ask.pieces); first = None }

-- of one in pieces, once it is whole
abbrev pub of_pieces : Ask → Remembered
of_pieces ask = record { request = None; first = first_of ask.pieces }

-- what that entry keeps, if that of its service data is so
abbrev pub of_entry : ServerTransaction → Option Octets → Remembered
of_entry e request = record { request = request; first = e.first }
