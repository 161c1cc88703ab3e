-- The counts of frames and transactions, and those of each server.
use Rattle.std.specs.Prelude.{List, [], Option, Some, None}
use Rattle.bac_explain.specs.Tables.{ClosedView}
use Rattle.bac_explain_report.specs.Devices.{DeviceView, counted}
use Rattle.bac_explain_report.specs.Endings.{delay_of, ending_of}
use Rattle.bac_explain_report.specs.Tallies.{no_frames, with_block}
use Rattle.bac_explain_report.specs.declared.selection.Selection.{Selection}
use Rattle.bac_explain_report.specs.declared.tally.Tally.{Tally}

pub record Sums : Type 0 where
  pub tally : Tally
  pub devices : List DeviceView

abbrev pub no_sums : Sums
no_sums = record { tally = no_frames; devices = [] }

-- a closed transaction is counted at its server
abbrev pub with_device : ClosedView → List DeviceView → List DeviceView
with_device c devices = counted c.key.server (ending_of c.transaction) (delay_of c.transaction) devices

abbrev pub with_devices : Option ClosedView → List DeviceView → List DeviceView
with_devices None devices = devices
with_devices (Some c) devices = with_device c devices

abbrev pub summed : Selection → ClosedView → Sums → Sums
summed s c sums = record { tally = with_block s c sums.tally; devices = with_device c sums.devices }
