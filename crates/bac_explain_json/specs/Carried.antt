-- What the APDUs of a transaction carry, as JSON.
use Rattle.std.specs.Prelude.{◌≡◌, ℕ, Option, Some, None, Result, Ok, Err}
use Rattle.bac_apdu.specs.Apdu.{Apdu, ConfirmedRequest, ComplexAck, Error, Reject, Abort}
use Rattle.bac_apdu.specs.declared.fault.ApduFault.{ApduFault}
use Rattle.bac_json.specs.Datagrams.{IsReadComplex, IsReadRequest}
use Rattle.bac_json.specs.Replies.{error_form, reason_form}
use Rattle.bac_service.specs.Services.{complex_at, request_at}
use Rattle.serde_json.specs.Data.{Data, null}

-- a request of one of the four services that is whole in its APDU
abbrev pub IsAsked : Apdu → Data → Type 0
IsAsked (ConfirmedRequest limits id None choice service) d = IsReadRequest (request_at choice service) d
IsAsked _ d = d ≡ null

abbrev pub IsAskedIn : Result Apdu ApduFault → Data → Type 0
IsAskedIn (Ok a) d = IsAsked a d
IsAskedIn (Err fault) d = d ≡ null

-- the service data of a ComplexACK that are whole in it, the class and the code of an Error, the reason of a Reject or an Abort
abbrev pub IsAnswer : Apdu → Data → Type 0
IsAnswer (ComplexAck id None choice service) d = IsReadComplex (complex_at choice service) d
IsAnswer (Error id choice class code) d = d ≡ error_form class code
IsAnswer (Reject id reason) d = d ≡ reason_form reason
IsAnswer (Abort server id reason) d = d ≡ reason_form reason
IsAnswer _ d = d ≡ null

abbrev pub IsAnswerIn : Result Apdu ApduFault → Data → Type 0
IsAnswerIn (Ok a) d = IsAnswer a d
IsAnswerIn (Err fault) d = d ≡ null
