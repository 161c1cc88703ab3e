-- Why a datagram carries no peer and APDU.
use Rattle.std.specs.Prelude.{◌≡◌, ◌≢◌, ℕ, List, None, Err}
use Rattle.bac_npdu.specs.declared.fault.Dropped.{Dropped}
use Rattle.bac_npdu.specs.declared.fault.Dropped.TheVariants.{Bvll, Npdu, Routed, NetworkMessage}
use Rattle.bac_npdu.specs.Npdu.{NpduView, SpellsNpdu, SpellsBvll}
use Rattle.bac_npdu.specs.Datagram.{IsFrameOf}
use Rattle.bac_npdu.specs.Reading.{bvll_at, npdu_at}

-- no BVLL, no NPDU, for another network, or a network layer message; a fault is the first from left to right
abbrev pub IsCause : List ℕ → Dropped → Type 0
IsCause octets (Bvll fault) = (bvll_at octets ≡ Err fault) × ((n : List ℕ) → SpellsBvll n octets → ⊥)
IsCause octets (Npdu fault) = (n : List ℕ) × (SpellsBvll n octets × (npdu_at n ≡ Err fault) × ((m : NpduView) → SpellsNpdu m n → ⊥))
IsCause octets Routed = (m : NpduView) × (IsFrameOf m octets × (m.destination ≢ None))
IsCause octets NetworkMessage = (m : NpduView) × (IsFrameOf m octets × (m.destination ≡ None) × (m.message ≢ None))
