-- Requests as JSON.
use Rattle.bac_service.specs.Values.{members_asked, request_name}
use Rattle.bac_service.specs.Values.{Request}
use Rattle.serde_json.specs.Data.{Data}
use Rattle.bac_json.specs.Named.{IsNamedForm}

abbrev pub IsRequestForm : Request → Data → Type 0
IsRequestForm r d = IsNamedForm (request_name r) (members_asked r) d
