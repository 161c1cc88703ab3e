-- The formats and byte orders of capture files, by the first four octets.
use Rattle.std.specs.Prelude.{ℕ, List, [], ◌∷◌, ◌==◌, ◌&&◌, ◌||◌, Bool, false, if◌then◌else◌, Option, Some, None}
use Rattle.bac_capture.specs.declared.form.FileSignature.{FileSignature}
use Rattle.bac_capture.specs.declared.form.FileFormat.TheVariants.{Records, Blocks}
use Rattle.bac_capture.specs.declared.order.Order.TheVariants.{Big, Little}

-- the four octets of a number
abbrev pub are_octets : ℕ → ℕ → ℕ → ℕ → List ℕ → Bool
are_octets a b c d (w ∷ x ∷ y ∷ z ∷ []) = w == a && x == b && y == c && z == d
are_octets a b c d octets = false

-- pcap with microseconds and with nanoseconds, in both byte orders, and pcapng
abbrev pub signature_of : List ℕ → Option FileSignature
signature_of front =
    if are_octets 0xA1 0xB2 0xC3 0xD4 front || are_octets 0xA1 0xB2 0x3C 0x4D front then Some (record { format = Records; order = Big }) else
    (if are_octets 0xD4 0xC3 0xB2 0xA1 front || are_octets 0x4D 0x3C 0xB2 0xA1 front then Some (record { format = Records; order = Little }) else
    (if are_octets 0x0A 0x0D 0x0D 0x0A front then Some (record { format = Blocks; order = Big }) else None))
