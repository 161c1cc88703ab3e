-- Members with one spelling.
use Rattle.std.proofs.Common.{◌≡◌, ℕ, ℤ, ◌++◌, length, Option, Some, None, sym, ap, ◌∙◌}
use Rattle.bac_value.specs.declared.tag.Class.{Class}
use Rattle.bac_value.specs.declared.tag.Class.TheVariants.{Application, Context}
use Rattle.bac_value.specs.Spelling.{tag_spelling}
use Rattle.bac_value.specs.Value.{ObjectId, IsNumber, IsInteger, IsObject}
use Rattle.bac_value.specs.Data.{opening, closing}
use Rattle.bac_value.proofs.OneSpelling.{unsigned_only, signed_only}
use Rattle.bac_service.specs.Members.{Octets, ◌⨾◌, Optional, Enclosed, Tagged, mark_of, IsString, ApplicationObject, ApplicationSigned}
use Rattle.bac_service.specs.Members.{ApplicationUnsigned, ApplicationString, AreData}

-- at most one list of octets has this property
abbrev pub IsOnly : (Octets → Type 0) → Type 0
IsOnly P = (a b : Octets) → P a → P b → a ≡ b

pub after_only : (P Q : Octets → Type 0) → IsOnly P → IsOnly Q → IsOnly (P ⨾ Q)
after_only P Q p q a b s t =
    s.is ∙ ap (λ (x : Octets). x ++ s.back) (p s.front t.front s.first t.first) ∙ ap (λ (x : Octets). t.front ++ x) (q s.back t.back s.second t.second)
    ∙ sym t.is

pub optional_only : {A : Type 0} (Spells : A → Octets → Type 0) → ((x : A) → IsOnly (Spells x)) → (o : Option A) → IsOnly (Optional Spells o)
optional_only Spells h None a b s t = s ∙ sym t
optional_only Spells h (Some x) a b s t = h x a b s t

pub enclosed_only : (number : ℕ) (P : Octets → Type 0) → IsOnly P → IsOnly (Enclosed number P)
enclosed_only number P p a b s t = s.is ∙ ap (λ (x : Octets). opening number ++ (x ++ closing number)) (p s.inside t.inside s.are t.are) ∙ sym t.is

pub tagged_only : (class : Class) (number : ℕ) (C : Octets → Type 0) → IsOnly C → IsOnly (Tagged class number C)
tagged_only class number C c a b s t = s.is
    ∙ ap (λ (x : Octets). tag_spelling (mark_of class number (length x)) ++ x) (c s.contents t.contents s.are t.are) ∙ sym t.is

pub number_only : (most n : ℕ) → IsOnly (IsNumber most n)
number_only most n a b s t = unsigned_only n a b s.spelled t.spelled

pub integer_only : (most : ℕ) (z : ℤ) → IsOnly (IsInteger most z)
integer_only most z a b s t = signed_only z a b s.spelled t.spelled

pub object_only : (o : ObjectId) → IsOnly (IsObject o)
object_only o a b s t = s.is ∙ sym t.is

pub string_only : (octets : Octets) → IsOnly (IsString octets)
string_only octets a b s t = s ∙ sym t

pub data_only : (values : Octets) → IsOnly (AreData values)
data_only values a b s t = s.is ∙ sym t.is

pub short_only : (number n : ℕ) → IsOnly (Tagged Context number (IsNumber 4 n))
short_only number n = tagged_only Context number (IsNumber 4 n) (number_only 4 n)

pub file_only : (o : ObjectId) → IsOnly (ApplicationObject o)
file_only o = tagged_only Application 12 (IsObject o) (object_only o)

pub signed_member_only : (z : ℤ) → IsOnly (ApplicationSigned z)
signed_member_only z = tagged_only Application 3 (IsInteger 8 z) (integer_only 8 z)

pub unsigned_member_only : (n : ℕ) → IsOnly (ApplicationUnsigned n)
unsigned_member_only n = tagged_only Application 2 (IsNumber 8 n) (number_only 8 n)

pub string_member_only : (octets : Octets) → IsOnly (ApplicationString octets)
string_member_only octets = tagged_only Application 6 (IsString octets) (string_only octets)

pub values_only : (values : Octets) → IsOnly (Enclosed 3 (AreData values))
values_only values = enclosed_only 3 (AreData values) (data_only values)
