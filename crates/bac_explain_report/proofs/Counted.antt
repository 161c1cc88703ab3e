-- A transaction is counted at its server: in its place, or behind the others.
use Rattle.std.proofs.Common.{◌≡◌, ◌<◌, ℕ, suc, Bool, true, false, List, [], ◌∷◌, ◌++◌, length, map, Option, Some, if◌then◌else◌, refl, sym, ap, ◌∙◌, arith, slice_get, slice_index_or, slice_set, subst}
use Rattle.std.proofs.lemmas.Option.{slice_get-get_or}
use Rattle.std.specs.Ordering.{eq_by_cmp}
use Rattle.bac_npdu.specs.Peers.{PeerView, peer_cmp}
use Rattle.bac_explain_report.specs.Devices.{DeviceView, counted_in, counting, place_of}
use Rattle.bac_explain_report.specs.DeviceViews.{device_view}
use Rattle.bac_explain_report.specs.Totals.{none}
use Rattle.bac_explain_report.specs.declared.devices.Device.{Device}
use Rattle.bac_explain_report.specs.declared.ending.Ending.{Ending}

pub set_counted : (p : PeerView) (e : Ending) (delay : Option ℕ) (devices : List Device) (d w : Device)
    → slice_get devices (place_of p (map device_view devices)) ≡ Some d → device_view w ≡ counting e delay (device_view d)
    → map device_view (slice_set devices (place_of p (map device_view devices)) w) ≡ counted_in p e delay (map device_view devices)
set_counted p e delay [] d w at is = absurd cc
set_counted p e delay (x ∷ devices) d w at is =
    go (eq_by_cmp peer_cmp (device_view x).server p) at (λ there. set_counted p e delay devices d w there is)
  where
    place : ℕ
    place = place_of p (map device_view devices)

    go : (b : Bool) → slice_get (x ∷ devices) (if b then 0 else suc place) ≡ Some d
        → (slice_get devices place ≡ Some d → map device_view (slice_set devices place w) ≡ counted_in p e delay (map device_view devices))
        → map device_view (slice_set (x ∷ devices) (if b then 0 else suc place) w)
        ≡ (if b then counting e delay (device_view x) ∷ map device_view devices else device_view x ∷ counted_in p e delay (map device_view devices))
    go true there rest =
        let found : Some x ≡ Some d = there in
        let same : x ≡ d = cc in
        ap (λ (v : DeviceView). v ∷ map device_view devices) (is ∙ ap (λ (q : Device). counting e delay (device_view q)) (sym same))
    go false there rest = ap (λ (l : List DeviceView). device_view x ∷ l) (rest there)

pub add_counted : (p : PeerView) (e : Ending) (delay : Option ℕ) (devices : List DeviceView) → place_of p devices ≡ length devices
    → counted_in p e delay devices ≡ devices ++ counting e delay (record { server = p; totals = none }) ∷ []
add_counted p e delay [] at = refl
add_counted p e delay (x ∷ devices) at = go (eq_by_cmp peer_cmp x.server p) at (add_counted p e delay devices)
  where
    go : (b : Bool) → (if b then 0 else suc (place_of p devices)) ≡ suc (length devices)
        → (place_of p devices ≡ length devices → counted_in p e delay devices ≡ devices ++ counting e delay (record { server = p; totals = none }) ∷ [])
        → (if b then counting e delay x ∷ devices else x ∷ counted_in p e delay devices)
        ≡ x ∷ (devices ++ counting e delay (record { server = p; totals = none }) ∷ [])
    go true there rest = absurd cc
    go false there rest = ap (λ (l : List DeviceView). x ∷ l) (rest (omega arith))

pub set_at : (p : PeerView) (e : Ending) (delay : Option ℕ) (devices : List Device) (place : ℕ) (d w : Device) → place < length devices
    → place ≡ place_of p (map device_view devices) → d ≡ slice_index_or devices place d → device_view w ≡ counting e delay (device_view d)
    → map device_view (slice_set devices place w) ≡ counted_in p e delay (map device_view devices)
set_at p e delay devices place d w there at read is =
    ap (λ (n : ℕ). map device_view (slice_set devices n w)) at
    ∙ set_counted p e delay devices d w
    (subst (λ (n : ℕ). slice_get devices n ≡ Some d) at (slice_get-get_or devices place d there ∙ ap Some (sym read))) is

map_behind : (devices : List Device) (w : Device) → map device_view (devices ++ w ∷ []) ≡ map device_view devices ++ device_view w ∷ []
map_behind [] w = refl
map_behind (x ∷ devices) w = ap (λ (l : List DeviceView). device_view x ∷ l) (map_behind devices w)

map_length : (devices : List Device) → length (map device_view devices) ≡ length devices
map_length [] = refl
map_length (x ∷ devices) = ap suc (map_length devices)

pub add_at : (p : PeerView) (e : Ending) (delay : Option ℕ) (devices : List Device) (w : Device) → place_of p (map device_view devices) ≡ length devices
    → device_view w ≡ counting e delay (record { server = p; totals = none })
    → map device_view (devices ++ w ∷ []) ≡ counted_in p e delay (map device_view devices)
add_at p e delay devices w at is =
    map_behind devices w ∙ ap (λ (v : DeviceView). map device_view devices ++ v ∷ []) is
    ∙ sym (add_counted p e delay (map device_view devices) (at ∙ sym (map_length devices)))
