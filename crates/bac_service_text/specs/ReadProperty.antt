-- ReadProperty as text (clause 15.5).
use Rattle.std.specs.Prelude.{ℕ, List, ◌++◌, codes, Option, Some}
use Rattle.hex.specs.Hex.{encode_upper}
use Rattle.bac_service.specs.Values.{Reference, Request}
use Rattle.bac_service.specs.Values.Request.{ReadProperty}
use Rattle.bac_value.specs.Value.{ObjectId}
use Rattle.bac_value_text.specs.Numbers.{◌>>=◌}
use Rattle.bac_service_text.specs.References.{reference_of, reference_text}

-- ---- the request

abbrev pub read_words : Reference → List ℕ
read_words r = codes "read " ++ reference_text r

-- the request that `read OBJECT PROPERTY` means
unfoldable pub read_of : ObjectId → (property : List ℕ) → Option Request
read_of object property = do
  reference ← reference_of object property
  Some (ReadProperty reference)

-- ---- the reply

abbrev pub values_text : (values : List ℕ) → List ℕ
values_text values = codes "read " ++ encode_upper values
