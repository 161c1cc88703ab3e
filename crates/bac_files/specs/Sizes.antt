-- How many octets of a file one request reads or writes.
use Rattle.std.specs.Prelude.{◌≡◌, ℕ, Bool, Option, None, Some}
use Rattle.std.specs.Bool.{MatchBool}
use Rattle.bac_files.specs.declared.part_size.PartSize.{PartSize}
use Rattle.bac_files.specs.declared.part_size.PartSize.TheVariants as size

-- the greatest APDU for which parts of a size are meant (clause 20.1.2.5)
abbrev pub apdu_of : PartSize → ℕ
apdu_of size.Apdu1476 = 1476
apdu_of size.Apdu1024 = 1024
apdu_of size.Apdu480 = 480
apdu_of size.Apdu206 = 206
apdu_of size.Apdu128 = 128
apdu_of size.Apdu50 = 50

-- the size for the next smaller APDU; none below 50 octets, which each device takes
abbrev pub smaller_of : PartSize → Option PartSize
smaller_of size.Apdu1476 = Some size.Apdu1024
smaller_of size.Apdu1024 = Some size.Apdu480
smaller_of size.Apdu480 = Some size.Apdu206
smaller_of size.Apdu206 = Some size.Apdu128
smaller_of size.Apdu128 = Some size.Apdu50
smaller_of size.Apdu50 = None

-- a size became the next smaller one, if there is one; otherwise it stayed
abbrev pub Shrinks : (old new : PartSize) → (is_smaller : Bool) → Type 0
Shrinks old new is_smaller = MatchBool is_smaller (smaller_of old ≡ Some new) ((smaller_of old ≡ None) × (new ≡ old))
