-- The abstract values of types that hold the octets of requests and replies: borrowed, owned, or not yet copied from the input.
use Rattle.std.specs.Prelude.{ℕ, List}
use Rattle.bac_value.specs.declared.data.Data.{Data}
use Rattle.bac_value.specs.declared.data.DataBuf.{DataBuf}
use Rattle.bac_value.specs.declared.value.OctetString.{OctetString}
use Rattle.bac_service.specs.declared.file.Content.{Content}
use Rattle.bac_service.specs.declared.records.Records.{Records}
use Rattle.bac_service.specs.declared.records.Run.{Run}
use Rattle.bac_service.specs.declared.owned_records.OwnedRecords.{OwnedRecords}

-- a type that holds data, the octets for a file, and a sequence of records with their count
pub record Sight (D C R : Type 0) : Type 0 where
  pub values : D → List ℕ
  pub content : C → List ℕ
  pub count : R → ℕ
  pub run : R → List ℕ

-- a type that borrows its octets
abbrev pub lent : Sight Data Content Records
lent = record { values = λ d. d.octets.now; content = λ c. c.octets.now; count = λ r. r.count; run = λ r. r.run.now }

-- a type that is the octets it is read from
abbrev pub left : {O : Type 0} → (O → List ℕ) → Sight O O (Run O)
left octets = record { values = octets; content = octets; count = λ r. r.count; run = λ r. octets r.octets }

-- a type that owns its octets
abbrev pub owned : Sight DataBuf OctetString OwnedRecords
owned = record { values = λ d. d.octets.items; content = λ c. c.octets.items; count = λ r. r.count; run = λ r. r.run.items }
