-- What is asked for.
use Rattle.std.specs.Prelude.{ℕ, List, [], ◌++◌, codes, decimal, Option, Some, None}
use Rattle.bac_service.specs.Values.{Reference}
use Rattle.bac_value_text.specs.Texts.{property_text}
pub use Rattle.bac_service.specs.Values.{object_asked, property_asked, verb_asked}

-- an element of an array
abbrev pub index_text : Option ℕ → List ℕ
index_text None = []
index_text (Some index) = codes "[" ++ (decimal index ++ codes "]")

-- the property, and in brackets the index, where there is one
abbrev pub property_column : Option Reference → List ℕ
property_column None = []
property_column (Some r) = property_text r.property ++ index_text r.index
