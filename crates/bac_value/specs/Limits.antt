-- Which tags and which values can be encoded.
use Rattle.std.specs.Prelude.{ℕ, Bool, false, nat_lt, ◌==◌, ◌&&◌, ◌-◌, ◌%◌, ◌^◌, not, if◌then◌else◌, List, length, slice_index}
use Rattle.bac_value.specs.declared.tag.Class.{Class}
use Rattle.bac_value.specs.declared.tag.Class.TheVariants.{Application, Context}
use Rattle.bac_value.specs.declared.tag.Form.{Form}
use Rattle.bac_value.specs.declared.tag.Form.TheVariants.{Length, Boolean, Opening, Closing}

-- clause 20.2.1: application tags have numbers 0 to 12, where 1 has its value in place of a length; context tags have 0 to 254
abbrev pub length_tag_fits : ℕ → Class → Bool
length_tag_fits n Application = nat_lt n 13 && not (n == 1)
length_tag_fits n Context = nat_lt n 255

abbrev pub tag_fits : ℕ → Class → Form → Bool
tag_fits n c (Length k) = length_tag_fits n c
tag_fits n Application (Boolean b) = n == 1
tag_fits n Context (Boolean b) = false
tag_fits n Application Opening = false
tag_fits n Context Opening = nat_lt n 255
tag_fits n Application Closing = false
tag_fits n Context Closing = nat_lt n 255

-- clause 20.2.10: 0 to 7 unused bits; own rule of this profile: unused bits are 0, and there are none without octets of bits
abbrev pub bits_fit : ℕ → List ℕ → Bool
bits_fit unused octets = nat_lt unused 8 && (if length octets == 0 then unused == 0 else slice_index octets (length octets - 1) % 2 ^ unused == 0)
