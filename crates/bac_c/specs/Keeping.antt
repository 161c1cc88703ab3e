-- Cells that a C program keeps of its node, and a node that is started with them.
use Rattle.std.specs.Prelude.{◌≡◌, ◌≢◌, ℕ, if◌then◌else◌, List, Option, Some, None, Result, IsErrOf, MatchOption}
use Rattle.bac_service.specs.Choices.{is_read_service}
use Rattle.bac_service.specs.Values.{object_asked, property_asked, service_asked}
use Rattle.bac_service.specs.Values.{Request}
use Rattle.bac_store.specs.Stores.{Object, Store}
use Rattle.bac_responder.specs.declared.served.Act.{Act}
use Rattle.bac_world.specs.Node.{Node}
use Rattle.bac_world.specs.Services as world
use Rattle.bac_node.specs.Fresh.{made_node}
use Rattle.bac_node.specs.Views.{performed_view}
use Rattle.bac_node.specs.declared.config.Config.{Config}
use Rattle.bac_keep.specs.Cells.{Cells, with_cell}
use Rattle.bac_keep.specs.Overlay.{overlay}
use Rattle.bac_c.specs.Asking.{identifier_of}
use Rattle.bac_c.specs.Devices.{Holds}
use Rattle.bac_c.specs.Fitting.{AreFit, HasUnfit}
use Rattle.bac_c.specs.Kept.{cells_in}
use Rattle.bac_c.specs.Performing.{is_done}
use Rattle.bac_c.specs.Ranges.{is_reference}
use Rattle.bac_c.specs.Starting.{IsConfigOf, IsSetBy, listed_in}
use Rattle.bac_c.specs.Statuses.{BAD_VALUE}
use Rattle.bac_c.specs.Telling.{Told, count_told, number_told, told}
use Rattle.bac_c.specs.declared.device.Device.{Device}
use Rattle.bac_c.specs.declared.fault.Fault.{Fault}
use Rattle.bac_c.specs.declared.fault.Fault.TheVariants as fault
use Rattle.bac_c.specs.declared.records.Reference.{Reference}
use Rattle.bac_c.specs.declared.records.Settings.{Settings}

-- ---- what was written

-- 2^32 - 1 stands for the property as a whole
abbrev pub whole : (object_type instance number : ℕ) → Reference
whole t i n = record { object_type = t; instance = i; property = n; index = 4294967295 }

-- what a request writes
abbrev pub target_of : Request → Option Reference
target_of r =
    if is_read_service (service_asked r) then None
    else Some (whole (object_asked r).kind (object_asked r).instance (number_told (property_asked r)))

-- what it wrote; nothing where it was answered with an Error
abbrev pub written_by : world.Performed → Option Reference
written_by p = if is_done p.reply then target_of p.request else None

abbrev pub written_at : Option Act → Option Reference
written_at None = None
written_at (Some a) = written_by (performed_view a)

abbrev pub written_in : Option Device → Option Reference
written_in None = None
written_in (Some d) = written_at d.outcome.effect

-- ---- its cells

abbrev pub count_at : Reference → Option Node → ℕ
count_at r None = 0
count_at r (Some n) = if is_reference r then count_told n.store (identifier_of r.object_type r.instance) r.property else 0

abbrev pub count_in : Option Device → Reference → ℕ
count_in None r = 0
count_in (Some d) r = count_at r d.node

abbrev pub cell_at : Reference → (index : ℕ) → Option Node → Option Told
cell_at r k None = None
cell_at r k (Some n) = if is_reference r then told n.store (identifier_of r.object_type r.instance) r.property k else None

abbrev pub cell_in : Option Device → Reference → (index : ℕ) → Option Told
cell_in None r k = None
cell_in (Some d) r k = cell_at r k d.node

-- ---- cells that are listed

-- a cell is listed, instead of the one at its place, and nothing else
pub record IsPut (place : ℕ) (octets : List ℕ) (d e : Device) : Type 0 where
  pub kept : cells_in e.kept ≡ with_cell place octets (cells_in d.kept)
  pub listed : e.listed ≡ d.listed
  pub node : e.node ≡ d.node
  pub outcome : e.outcome ≡ d.outcome

abbrev pub HasPut : (place : ℕ) → (octets : List ℕ) → (old new : Option Device) → Type 0
HasPut place octets old new = MatchOption old ⊥ (λ d. MatchOption new ⊥ (IsPut place octets d))

-- ---- a node that is started with them

-- each cell fits the store of the objects; the node restarts at that moment, with the cells over that store
pub record IsRestored (Makes : List Object → Store → Type 0) (s : Settings) (now : ℕ) (objects : List Object) (cells : Cells) (node : Node) : Type 0 where
  pub config : Config
  pub says : IsConfigOf s config
  pub document : Store
  pub made : Makes objects document
  pub fit : AreFit document cells
  pub fresh : node ≡ made_node config (overlay cells document) (Some now)

abbrev pub IsRestoredNode : (List Object → Store → Type 0) → Settings → (now : ℕ) → List Object → Cells → Option Node → Type 0
IsRestoredNode makes s now objects cells node = MatchOption node ⊥ (IsRestored makes s now objects cells)

abbrev pub HasRestored : (List Object → Store → Type 0) → Settings → (now : ℕ) → (old new : Option Device) → Type 0
HasRestored makes s now old new = MatchOption old ⊥ (λ d. MatchOption new ⊥ (λ e. IsRestoredNode makes s now (listed_in d) (cells_in d.kept) e.node × IsSetBy s e))

-- where a cell of a device does not fit, its place is put out, and nothing otherwise
pub record PutsUnfit (Makes : List Object → Store → Type 0) (d : Device) (result : Result (Unit {0}) Fault) (old new : ℕ) : Type 0 where
  pub unfit : IsErrOf result fault.BadValue → HasUnfit Makes (listed_in d) (cells_in d.kept) new
  pub kept : (IsErrOf result fault.BadValue → ⊥) → new ≡ old

-- the same, by the status that a C program sees
pub record TellsUnfit (Makes : List Object → Store → Type 0) (held : Option Device) (status old new : ℕ) : Type 0 where
  pub unfit : status ≡ BAD_VALUE → Holds (λ d. HasUnfit Makes (listed_in d) (cells_in d.kept) new) held
  pub kept : status ≢ BAD_VALUE → new ≡ old
