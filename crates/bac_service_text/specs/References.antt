-- Objects and properties in words: how they are printed, and which words name them.
use Rattle.std.specs.Prelude.{ℕ, ◌-◌, ◌^◌, List, [], ◌∷◌, ◌++◌, codes, decimal, Option, Some, None}
use Rattle.bac_service.specs.Values.{Reference}
use Rattle.bac_value.specs.Value.{ObjectId}
use Rattle.bac_value_text.specs.Numbers.{◌>>=◌, number_up_to, parts_at}
use Rattle.bac_value_text.specs.Reading.{property_of}
use Rattle.bac_value_text.specs.Texts.{object_text, property_text}

-- ---- printed

-- an element of an array
abbrev pub index_text : Option ℕ → List ℕ
index_text None = []
index_text (Some index) = codes "[" ++ (decimal index ++ codes "]")

abbrev pub reference_text : Reference → List ℕ
reference_text r = object_text r.object ++ (codes " " ++ (property_text r.property ++ index_text r.index))

-- ---- read

-- the brackets of an index
abbrev pub OPENING : ℕ
OPENING = 91

abbrev pub CLOSING : ℕ
CLOSING = 93

-- the number, where nothing stands behind it
abbrev pub ends_with : ℕ → (behind : List ℕ) → Option ℕ
ends_with number [] = Some number
ends_with number (octet ∷ octets) = None

-- the index in brackets, from behind the opening one on
unfoldable pub index_of : List ℕ → Option ℕ
index_of word = do
  halves ← parts_at CLOSING word
  index ← number_up_to (2 ^ 32 - 1) halves.0
  ends_with index halves.1

-- a property as a whole
unfoldable pub whole_of : ObjectId → List ℕ → Option Reference
whole_of object word = do
  property ← property_of word
  Some (record { object = object; property = property; index = None })

-- one element of it, whose index stands in the brackets
unfoldable pub element_of : ObjectId → (before behind : List ℕ) → Option Reference
element_of object before behind = do
  property ← property_of before
  index ← index_of behind
  Some (record { object = object; property = property; index = Some index })

-- with what stands before and behind the opening bracket
abbrev pub reference_at : ObjectId → List ℕ → (halves : Option (List ℕ × List ℕ)) → Option Reference
reference_at object word None = whole_of object word
reference_at object word (Some halves) = element_of object halves.0 halves.1

-- a property of an object, or one element of it
abbrev pub reference_of : ObjectId → List ℕ → Option Reference
reference_of object word = reference_at object word (parts_at OPENING word)
