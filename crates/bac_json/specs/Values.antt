-- Values as JSON: each with its kind.
use Rattle.std.specs.Prelude.{◌≡◌, ◌⊎◌, ◌==◌, ℕ, List, [], ◌++◌, codes, if◌then◌else◌, Option, Some, None}
use Rattle.bac_value.specs.declared.tag.Form.{Form}
use Rattle.bac_value.specs.declared.tag.Form.TheVariants.{Length, Boolean, Opening, Closing}
use Rattle.bac_value.specs.Element.{Part, part_spelling, SpellsElement}
use Rattle.bac_value.specs.Meaning.{IsValueOf}
use Rattle.bac_value.specs.Value as plain
use Rattle.bac_value.specs.Value.{Datum}
use Rattle.bac_value_text.specs.Numbers.{parts_at}
use Rattle.bac_value_text.specs.Texts.{IsTextOf}
use Rattle.serde_json.specs.Data.{Data, Items, no_items, item, no_members, member, null, boolean, number, object, string, unsigned}
use Rattle.serde_json.specs.Find.{get, of_integer}
use Rattle.bac_json.specs.Forms.{number_form, octets_form, text_form, utf8_of}

-- characters that are text: of set 0, and UTF-8
abbrev pub plain_text : (set : ℕ) → (text : List ℕ) → Option (List ℕ)
plain_text set text = if set == 0 then utf8_of text else None

abbrev pub text_or : Option (List ℕ) → (body : List ℕ) → Data
text_or (Some text) body = string text
text_or None body = text_form body

-- these as they are, and others as they are printed
abbrev pub characters_form : (set : ℕ) → (text body : List ℕ) → Data
characters_form set text body = text_or (plain_text set text) body

-- a value without its kind, where body is printed of it
abbrev pub value_form : Datum → (body : List ℕ) → Data
value_form plain.null body = null
value_form (plain.boolean b) body = boolean b
value_form (plain.unsigned n) body = number (unsigned n)
value_form (plain.signed z) body = number (of_integer z)
value_form (plain.enumerated n) body = number (unsigned n)
value_form (plain.real a) body = number_form body
value_form (plain.double a) body = number_form body
value_form (plain.characters set text) body = characters_form set text body
value_form _ body = text_form body

-- ---- with its kind

abbrev pub parts_or_twice : (text : List ℕ) → Option (List ℕ × List ℕ) → List ℕ × List ℕ
parts_or_twice text None = (text, text)
parts_or_twice text (Some parts) = parts

-- what stands before the first space of a text, and behind it; of a text without a space twice the text
abbrev pub kind_and_body : (text : List ℕ) → List ℕ × List ℕ
kind_and_body text = parts_or_twice text (parts_at 32 text)

abbrev pub kind_and_value : Data → Data → Data
kind_and_value kind value = object (member (codes "kind") kind (member (codes "value") value no_members))

-- by the printed text
abbrev pub named_form : Datum → (text : List ℕ) → Data
named_form d text = kind_and_value (text_form (kind_and_body text).0) (value_form d (kind_and_body text).1)

-- ---- an element

abbrev pub bare_tag : (kind : List ℕ) → ℕ → Data
bare_tag kind n = object (member (codes "kind") (string kind) (member (codes "tag") (number (unsigned n)) no_members))

abbrev pub context_form : ℕ → List ℕ → Data
context_form n contents =
    object (member (codes "kind") (string (codes "context")) (member (codes "octets") (octets_form contents)
    (member (codes "tag") (number (unsigned n)) no_members)))

abbrev pub tagged_form : Form → ℕ → List ℕ → Data
tagged_form Opening n contents = bare_tag (codes "opening") n
tagged_form Closing n contents = bare_tag (codes "closing") n
tagged_form (Length length) n contents = context_form n contents
tagged_form (Boolean b) n contents = context_form n contents

-- a value, by the text that is printed of it
pub record IsValueForm (p : Part) (d : Data) : Type 0 where
  pub value : Datum
  pub is : IsValueOf value p
  pub text : List ℕ
  pub text_of : IsTextOf 32 value text
  pub form : d ≡ named_form value text

-- or an element that is not a value
pub record IsTaggedForm (p : Part) (d : Data) : Type 0 where
  pub no_value : (v : Datum) → IsValueOf v p → ⊥
  pub form : d ≡ tagged_form p.mark.form p.mark.number p.contents

abbrev pub IsElementForm : Part → Data → Type 0
IsElementForm p d = IsValueForm p d ⊎ IsTaggedForm p d

-- the first element, followed by the others
pub record IsFirstForm (d : Data) (AreOthers : List ℕ → Type 0) (run : List ℕ) : Type 0 where
  pub element : Part
  pub others : List ℕ
  pub spelled : SpellsElement element (part_spelling element)
  pub is : run ≡ part_spelling element ++ others
  pub form_of : IsElementForm element d
  pub more : AreOthers others

-- the elements of data
abbrev pub AreElementForms : Items → List ℕ → Type 0
AreElementForms no_items run = run ≡ []
AreElementForms (item d ds) run = IsFirstForm d (AreElementForms ds) run

-- ---- the only element

abbrev pub member_or_null : Option Data → Data
member_or_null None = null
member_or_null (Some d) = d

-- a member of the only element; null where there is not exactly one, or it has no such member
abbrev pub sole_member : (name : List ℕ) → Items → Data
sole_member name no_items = null
sole_member name (item d no_items) = member_or_null (get name d)
sole_member name (item d (item e es)) = null
