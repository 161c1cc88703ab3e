-- How the transactions of each server ended, in the order in which the first of each was counted.
use Rattle.std.specs.Prelude.{ℕ, suc, nat_lt, List, [], ◌∷◌, Option, if◌then◌else◌}
use Rattle.std.specs.Ordering.{eq_by_cmp}
use Rattle.bac_npdu.specs.Peers.{PeerView, peer_cmp}
use Rattle.bac_explain_report.specs.Totals.{none, with_one}
use Rattle.bac_explain_report.specs.declared.devices.TheConstants.{MOST_DEVICES}
use Rattle.bac_explain_report.specs.declared.ending.Ending.{Ending}
use Rattle.bac_explain_report.specs.declared.totals.Totals.{Totals}

pub record DeviceView : Type 0 where
  pub server : PeerView
  pub totals : Totals

-- the place of a server; the number of devices if it has none
abbrev pub place_of : PeerView → List DeviceView → ℕ
place_of p [] = 0
place_of p (d ∷ devices) = if eq_by_cmp peer_cmp d.server p then 0 else suc (place_of p devices)

abbrev pub counting : Ending → (delay : Option ℕ) → DeviceView → DeviceView
counting ending delay d = record d { totals = with_one ending delay d.totals }

-- one more transaction of a server
abbrev pub counted_in : PeerView → Ending → (delay : Option ℕ) → List DeviceView → List DeviceView
counted_in p ending delay [] = counting ending delay (record { server = p; totals = none }) ∷ []
counted_in p ending delay (d ∷ devices) =
    if eq_by_cmp peer_cmp d.server p then counting ending delay d ∷ devices else d ∷ counted_in p ending delay devices

-- where there are too many, the others have no counts of their own
abbrev pub counted : PeerView → Ending → (delay : Option ℕ) → List DeviceView → List DeviceView
counted p ending delay devices = if nat_lt (place_of p devices) MOST_DEVICES then counted_in p ending delay devices else devices
