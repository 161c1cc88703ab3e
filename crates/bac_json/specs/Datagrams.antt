-- The layers of a datagram as JSON: null for what it does not have, or what cannot be read.
use Rattle.std.specs.Prelude.{◌≡◌, ℕ, List, Option, Some, None, Result, Ok, Err}
use Rattle.bac_apdu.specs.Apdu.{Apdu, ConfirmedRequest, ComplexAck}
use Rattle.bac_apdu.specs.Reading.{apdu_at}
use Rattle.bac_apdu.specs.declared.fault.ApduFault.{ApduFault}
use Rattle.bac_npdu.specs.Npdu.{NpduView, MessageView}
use Rattle.bac_npdu.specs.Reading.{npdu_at}
use Rattle.bac_npdu.specs.declared.fault.FrameFault.{FrameFault}
use Rattle.bac_service.specs.Services.{request_at, complex_at}
use Rattle.bac_service.specs.Values.{Request, Complex}
use Rattle.bac_value.specs.declared.fault.Fault.{Fault}
use Rattle.serde_json.specs.Data.{Data, null}
use Rattle.serde_json.specs.View.{view}
use Rattle.bac_json.specs.declared.layers.Layers.{Layers}
use Rattle.bac_json.specs.Layers.{apdu_form, npdu_form}
use Rattle.bac_json.specs.Replies.{IsComplexForm}
use Rattle.bac_json.specs.Requests.{IsRequestForm}

pub record LayersView : Type 0 where
  pub npdu : Data
  pub apdu : Data
  pub service : Data

abbrev pub layers_view : Layers → LayersView
layers_view l = record { npdu = view l.npdu; apdu = view l.apdu; service = view l.service }

abbrev pub no_layers : LayersView
no_layers = record { npdu = null; apdu = null; service = null }

-- ---- what an APDU carries whole

abbrev pub IsReadRequest : Result Request ℕ → Data → Type 0
IsReadRequest (Ok r) d = IsRequestForm r d
IsReadRequest (Err reason) d = d ≡ null

abbrev pub IsReadComplex : Result Complex Fault → Data → Type 0
IsReadComplex (Ok c) d = IsComplexForm c d
IsReadComplex (Err fault) d = d ≡ null

abbrev pub AreServiceForms : Apdu → Data → Type 0
AreServiceForms (ConfirmedRequest limits id None choice service) d = IsReadRequest (request_at choice service) d
AreServiceForms (ComplexAck id None choice service) d = IsReadComplex (complex_at choice service) d
AreServiceForms _ d = d ≡ null

-- ---- from the inside out

abbrev pub AreApduForms : Result Apdu ApduFault → (apdu service : Data) → Type 0
AreApduForms (Ok a) apdu service = (apdu ≡ apdu_form a) × AreServiceForms a service
AreApduForms (Err fault) apdu service = (apdu ≡ null) × (service ≡ null)

-- the contents of a network message stand in its NPDU
abbrev pub AreContentForms : Option MessageView → List ℕ → (apdu service : Data) → Type 0
AreContentForms None contents apdu service = AreApduForms (apdu_at contents) apdu service
AreContentForms (Some message) contents apdu service = (apdu ≡ null) × (service ≡ null)

abbrev pub AreNpduForms : Result NpduView FrameFault → LayersView → Type 0
AreNpduForms (Ok n) l = (l.npdu ≡ npdu_form n) × AreContentForms n.message n.contents l.apdu l.service
AreNpduForms (Err fault) l = l ≡ no_layers

abbrev pub AreLayerForms : Result (List ℕ) FrameFault → LayersView → Type 0
AreLayerForms (Ok n) l = AreNpduForms (npdu_at n) l
AreLayerForms (Err fault) l = l ≡ no_layers
