-- What was read of service data.
use Rattle.std.specs.Prelude.{◌≡◌, ℕ, Result, Ok, Err}
use Rattle.bac_value.specs.declared.data.DataBuf.{DataBuf}
use Rattle.bac_value.specs.declared.value.OctetString.{OctetString}
use Rattle.bac_service.specs.declared.owned_records.OwnedRecords.{OwnedRecords}
use Rattle.bac_service.specs.Values.{Request, choice_of}
use Rattle.bac_service.specs.Requests.{SpellsRequest}
use Rattle.bac_service.specs.Services.{request_at}
use Rattle.bac_service.specs.Views.{RequestOver, owned_request_view}
use Rattle.bac_protocol.specs.Service.{Octets}

-- a request, or the number of the reason for rejecting the octets
abbrev pub found_view : Result (RequestOver DataBuf OctetString OwnedRecords) ℕ → Result Request ℕ
found_view (Ok r) = Ok (owned_request_view r)
found_view (Err reason) = Err reason

-- the octets spell the request
abbrev pub IsSpelled : (choice : ℕ) → Octets → Result Request ℕ → Type 0
IsSpelled choice octets (Ok r) = SpellsRequest choice r octets
IsSpelled choice octets (Err reason) = Unit {0}

pub record IsRead (choice : ℕ) (octets : Octets) (found : Result Request ℕ) : Type 0 where
  pub read : request_at choice octets ≡ found
  pub spelled : IsSpelled choice octets found

-- a request that was found has that choice
abbrev pub HasChoice : (choice : ℕ) → Result Request ℕ → Type 0
HasChoice choice (Ok r) = choice ≡ choice_of r
HasChoice choice (Err reason) = Unit {0}
