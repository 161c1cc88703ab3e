-- What a C program may say: numbers in their ranges, and octets that are data.
use Rattle.std.specs.Prelude.{◌≡◌, ◌^◌, ℕ, Bool, true, false, ◌&&◌, nat_le, nat_lt, List, length}
use Rattle.std.specs.Str.{is_utf8}
use Rattle.bac_apdu.specs.Spelling.{codes_fit}
use Rattle.bac_store.specs.AtNode.{is_data}
use Rattle.bac_c.specs.declared.fault.Fault.{Fault}
use Rattle.bac_c.specs.declared.fault.Fault.TheVariants as fault
use Rattle.bac_c.specs.declared.question.Question.{Question}
use Rattle.bac_c.specs.declared.question.Question.TheVariants as question
use Rattle.bac_c.specs.declared.records.Reference.{Reference}
use Rattle.bac_c.specs.declared.records.Target.{Target}
use Rattle.bac_c.specs.declared.setting.Setting.{Setting}
use Rattle.bac_c.specs.declared.setting.Setting.TheVariants as setting

-- clause 20.2.14: a type has 10 bits, an instance 22
abbrev pub is_instance : ℕ → Bool
is_instance i = nat_lt i 4194304

abbrev pub is_identifier : (object_type instance : ℕ) → Bool
is_identifier t i = nat_lt t 1024 && is_instance i

-- an object can be listed under this type, instance and name in UTF-8
abbrev pub can_list : (object_type instance : ℕ) → (name : List ℕ) → Bool
can_list t i name = is_identifier t i && is_utf8 name

-- ---- asks

abbrev pub is_reference : Reference → Bool
is_reference r = is_identifier r.object_type r.instance

-- clause 19.2: priorities are 1 to 16; 0 is none
abbrev pub is_written : Reference → (values : List ℕ) → (priority : ℕ) → Bool
is_written r values p = is_reference r && nat_le p 16 && is_data values

-- clause 20.2.1.3.1: the length of octets has 32 bits
abbrev pub is_put : (file : ℕ) → (octets : List ℕ) → Bool
is_put f octets = is_instance f && nat_lt (length octets) (2 ^ 32)

abbrev pub is_question : Question → Bool
is_question (question.Read r) = is_reference r
is_question (question.Write r octets p) = is_written r octets.now p
is_question (question.Put f position octets) = is_put f octets.now
is_question (question.Get f position count) = is_instance f

-- the codes of what the peer takes are in their ranges too
abbrev pub can_ask : Target → Bool → Bool
can_ask t right = codes_fit t.max_segments t.max_apdu && right

-- ---- changes at the node

abbrev pub is_setting : Setting → Bool
is_setting (setting.Value t i property octets) = is_identifier t i
is_setting (setting.File i octets) = is_instance i

-- what was said could not be taken: it is wrong, or it is right and memory was refused
abbrev pub IsUnready : Bool → Fault → Type 0
IsUnready right fault.BadRequest = right ≡ false
IsUnready right fault.NoMemory = right ≡ true
IsUnready right _ = ⊥
