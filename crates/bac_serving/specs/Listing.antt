-- What `keep` prints of the cells of a database: a line for each property and each file.
use Rattle.std.specs.Prelude.{◌≡◌, ◌⊎◌, ℕ, suc, ◌+◌, ◌-◌, min, nat_lt, nat_le, Bool, ◌&&◌, if◌then◌else◌, List, [], ◌∷◌, ◌++◌, length, codes, decimal, take, Option, None, Some}
use Rattle.std.specs.Io.KnownBytes.{Keeps}
use Rattle.hex.specs.Hex.{encode_upper}
use Rattle.sqlite_trees.specs.View.{IsClean, View}
use Rattle.bac_value.specs.Data.{IsDataFront}
use Rattle.bac_value.specs.Value.{ObjectId}
use Rattle.bac_value_text.specs.DataTexts.{IsDataText}
use Rattle.bac_value_text.specs.Texts.{object_text, property_text}
use Rattle.bac_driver.specs.Waits.{MOST}
use Rattle.bac_keep.specs.Cells.{file_place, value_place}
use Rattle.bac_keep.specs.Parts.{IsForNothing}
use Rattle.bac_keep_file.specs.Rows.{AreCells}
use Rattle.bac_keep.specs.declared.cell.Cell.{Cell}
use Rattle.bac_log_json.specs.Cells.{File, IsCellForm, KeptPart, Values}
use Rattle.bac_json_report.specs.Lines.{IsLineOf}
use Rattle.bac_text.specs.Texts.{AppendsText}
use Rattle.bac_text.specs.declared.status.Status.{Status}
use Rattle.bac_commands.specs.Statuses.{ByStatus}
use Rattle.bac_serving.specs.declared.listing.ListForm.{ListForm}
use Rattle.bac_serving.specs.declared.listing.ListForm.TheVariants as form

-- ---- a line in words

abbrev pub property_words : Option ℕ → List ℕ
property_words None = []
property_words (Some property) = codes " " ++ property_text property

-- an object, and its property where one is given
abbrev pub part_words : ObjectId → (property : Option ℕ) → List ℕ
part_words id property = object_text id ++ property_words property

-- the values at the front of octets, by their kinds; octets without values at their front in hexadecimal
abbrev pub AreValues : (octets text : List ℕ) → Type 0
AreValues octets text =
    ((count : ℕ) × IsDataFront octets count × IsDataText (take count octets) text)
    ⊎ (((count : ℕ) → IsDataFront octets count → ⊥) × (text ≡ encode_upper octets))

pub record IsValuesWords (id : ObjectId) (property : ℕ) (octets words : List ℕ) : Type 0 where
  pub values : List ℕ
  pub are : AreValues octets values
  pub is : words ≡ part_words id (Some property) ++ (codes " " ++ values)

-- a property with its values, or a file with its number of octets
abbrev pub IsKeptWords : KeptPart → (words : List ℕ) → Type 0
IsKeptWords (Values id property octets) words = IsValuesWords id property octets words
IsKeptWords (File id len) words = words ≡ part_words id None ++ (codes " " ++ (decimal len ++ codes " octets"))

pub record IsWordsLine (part : KeptPart) (line : List ℕ) : Type 0 where
  pub words : List ℕ
  pub are : IsKeptWords part words
  pub is : line ≡ words ++ (10 ∷ [])

-- ---- what the cells begin

-- of how many chunks a cell says that a file has them
abbrev pub count_in : (octets : List ℕ) → ℕ
count_in (count ∷ []) = count
count_in octets = 0

-- the place is that of one of so many chunks of a file, whose number of chunks is at the place before them
abbrev pub is_chunk : (before count place : ℕ) → Bool
is_chunk before count place = nat_lt 0 (place - before) && nat_le (place - before) count

-- so many octets, and those of the chunks that stand first among cells
abbrev pub octets_with : (octets before count : ℕ) → List Cell → ℕ
octets_with octets before count [] = octets
octets_with octets before count (c ∷ cs) =
    if is_chunk before count c.place then octets_with (min (octets + length c.octets.items) MOST) before count cs else octets

-- the values of a property; or a file with as many octets as the chunks have that stand first among the cells behind it, of those that it counts
abbrev pub Begins : Cell → (more : List Cell) → KeptPart → Type 0
Begins c more (Values id property octets) = (c.place ≡ value_place id property) × (octets ≡ c.octets.items)
Begins c more (File id len) = (c.place ≡ file_place id 0) × (len ≡ octets_with 0 c.place (count_in c.octets.items) more)

-- the chunk of a file, or at a place that no write uses
abbrev pub IsWithin : Cell → Type 0
IsWithin c = ((id : ObjectId) × (k : ℕ) × (c.place ≡ file_place id (suc k))) ⊎ IsForNothing c.place

abbrev pub IsPartOf : Cell → (more : List Cell) → Option KeptPart → Type 0
IsPartOf c more None = IsWithin c
IsPartOf c more (Some part) = Begins c more part

-- what is printed of a part
abbrev pub Lines : Type 1
Lines = KeptPart → (text : List ℕ) → Type 0

abbrev pub line_in : ListForm → Lines
line_in form.Lines part text = IsWordsLine part text
line_in form.Objects part text = IsLineOf (IsCellForm part) text

abbrev pub IsOptionalLine : Lines → Option KeptPart → (text : List ℕ) → Type 0
IsOptionalLine IsLine None text = text ≡ []
IsOptionalLine IsLine (Some part) text = IsLine part text

-- a line for what begins with a cell, and nothing for what does not
pub record IsCellText (IsLine : Lines) (c : Cell) (more : List Cell) (text : List ℕ) : Type 0 where
  pub part : Option KeptPart
  pub is_part : IsPartOf c more part
  pub told : IsOptionalLine IsLine part text

-- the text of the first cell, followed by those of the others
pub record IsFirstText (IsLine : Lines) (c : Cell) (more : List Cell) (AreOthers : (text : List ℕ) → Type 0) (text : List ℕ) : Type 0 where
  pub first : List ℕ
  pub rest : List ℕ
  pub told : IsCellText IsLine c more first
  pub others : AreOthers rest
  pub is : text ≡ first ++ rest

abbrev pub AreListed : Lines → List Cell → (text : List ℕ) → Type 0
AreListed IsLine [] text = text ≡ []
AreListed IsLine (c ∷ cs) text = IsFirstText IsLine c cs (AreListed IsLine cs) text

-- ---- the database

-- a database that the machine opened at a path, and a text: as long as it is honest in the end, it was so at first, and the lines are those of the cells that it
-- had committed
pub record OnListed {D : Type 0} (IsDatabase : (path : List ℕ) → (is_new : Bool) → D → Type 0) (view : D → View) (f : ListForm) (path text : List ℕ) : Type 0 where
  pub is_new : Bool
  pub opened : D
  pub made : IsDatabase path is_new opened
  pub ended : D
  pub honest : IsClean (view ended) → IsClean (view opened)
  pub cells : List Cell
  pub are : IsClean (view ended) → AreCells ((view opened).committed 0) cells
  pub listed : AreListed (line_in f) cells text

-- What follows takes such a relation.
abbrev pub Listings : Type 1
Listings = ListForm → (path text : List ℕ) → Type 0

-- where the command line is refused, nothing was printed
abbrev pub Lists : Listings → Status → ListForm → (path : List ℕ) → (old new : Option (List ℕ)) → Type 0
Lists IsOnListed s f path old new = ByStatus s (AppendsText old new (IsOnListed f path)) ⊥ (Keeps old new)
