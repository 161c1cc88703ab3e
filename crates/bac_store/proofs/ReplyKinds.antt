-- Each reply fits the service choice of its request.
use Rattle.std.proofs.Common.{ℕ, pos, Bool, true, false, not, nat_lt, length, List, [], ◌∷◌, Option, Some, None, is_some, if◌then◌else◌, refl}
use Rattle.bac_service.specs.declared.service.TheConstants.{ATOMIC_READ_FILE, ATOMIC_WRITE_FILE, READ_PROPERTY, WRITE_PROPERTY}
use Rattle.bac_service.specs.Values.{Reference, Request, ReadAccess, WriteAccess, choice_of}
use Rattle.bac_service.specs.Replies.{Reply}
use Rattle.bac_service.specs.Values.ReadAccess.{ReadStream, ReadRecords}
use Rattle.bac_service.specs.Values.WriteAccess.{WriteStream, WriteRecords}
use Rattle.bac_service.specs.Values.Request.{ReadFile, WriteFile, ReadProperty, WriteProperty}
use Rattle.bac_service.specs.Replies.Reply.{Simple, Complex}
use Rattle.bac_service.specs.Values.Complex.{StreamWritten}
use Rattle.bac_store.specs.Limits.{VALUE_LIMIT, FILE_LIMIT}
use Rattle.bac_store.specs.ReplyKinds.{FitsChoice}
use Rattle.bac_store.specs.Replies.{PROPERTY_IS_NOT_AN_ARRAY, WRITE_ACCESS_DENIED, INVALID_DATA_TYPE, VALUE_OUT_OF_RANGE}
use Rattle.bac_store.specs.Replies.{NO_SPACE_TO_WRITE, FILE_ACCESS_DENIED, INVALID_FILE_START_POSITION, ◌⟶◌, first_case, at_property, at_object, at_file}
use Rattle.bac_store.specs.Arrays.{element_of, elements_of}
use Rattle.bac_store.specs.Replies.{array_reply, element_reply, indexed_reply}
use Rattle.bac_store.specs.Targets.{read_in}
use Rattle.bac_store.specs.Replies.{read_reply, write_reply, read_file_reply, write_file_reply, file_of, file_read, read_start, is_no_read_start}
use Rattle.bac_store.specs.Replies.{is_no_write_start, written, write_start, is_of_kind, is_out_of_range, reply_to}
use Rattle.bac_store.specs.Stores.{Store, Object, Property, File, object_in, property_in}

-- each of some replies fits
abbrev Fit : ℕ → List (Bool × Reply) → Type 0
Fit choice [] = Unit {0}
Fit choice (c ∷ cs) = FitsChoice choice c.1 × Fit choice cs

either : (choice : ℕ) (b : Bool) (x y : Reply) → FitsChoice choice x → FitsChoice choice y → FitsChoice choice (if b then x else y)
either choice true x y f g = f
either choice false x y f g = g

case_fits : (choice : ℕ) (cs : List (Bool × Reply)) (last : Reply) → Fit choice cs → FitsChoice choice last → FitsChoice choice (first_case cs last)
case_fits choice [] last fit l = l
case_fits choice (c ∷ cs) last fit l = either choice c.0 c.1 (first_case cs last) fit.0 (case_fits choice cs last fit.1 l)

element_fits : (r : Reference) (x : Option (List ℕ)) → FitsChoice READ_PROPERTY (element_reply r x)
element_fits r None = tt
element_fits r (Some values) = refl

array_fits : (r : Reference) (index : ℕ) (x : Option (List (List ℕ))) → FitsChoice READ_PROPERTY (array_reply r index x)
array_fits r index None = tt
array_fits r index (Some es) = element_fits r (element_of es index)

indexed_fits : (r : Reference) (p : Property) (index : Option ℕ) → FitsChoice READ_PROPERTY (indexed_reply r p index)
indexed_fits r p None = refl
indexed_fits r p (Some index) = array_fits r index (elements_of p)

read_fits : (x : Option Property) (r : Reference) → FitsChoice READ_PROPERTY (at_property x (read_reply r))
read_fits None r = tt
read_fits (Some p) r = indexed_fits r p r.index

write_fits : (x : Option Property) (r : Reference) (values : List ℕ) → FitsChoice WRITE_PROPERTY (at_property x (write_reply r values))
write_fits None r values = tt
write_fits (Some p) r values =
    case_fits WRITE_PROPERTY
    ((is_some r.index ⟶ PROPERTY_IS_NOT_AN_ARRAY)
    ∷ (not p.writable ⟶ WRITE_ACCESS_DENIED)
    ∷ (not (is_of_kind p.kind values) ⟶ INVALID_DATA_TYPE)
    ∷ (is_out_of_range r values p ⟶ VALUE_OUT_OF_RANGE)
    ∷ (nat_lt VALUE_LIMIT (length values) ⟶ NO_SPACE_TO_WRITE)
    ∷ [])
    Simple (tt, (tt, (tt, (tt, (tt, tt))))) refl

read_file_fits : (access : ReadAccess) (f : Option File) → FitsChoice ATOMIC_READ_FILE (at_file f (read_file_reply access))
read_file_fits access None = tt
read_file_fits (ReadRecords start count) (Some f) = tt
read_file_fits (ReadStream start count) (Some f) =
    case_fits ATOMIC_READ_FILE ((is_no_read_start start f.octets ⟶ INVALID_FILE_START_POSITION) ∷ [])
    (file_read (read_start start) count f.octets) (tt, tt) refl

write_file_fits : (access : WriteAccess) (f : Option File) → FitsChoice ATOMIC_WRITE_FILE (at_file f (write_file_reply access))
write_file_fits access None = tt
write_file_fits (WriteRecords start count run) (Some f) = tt
write_file_fits (WriteStream start new) (Some f) =
    case_fits ATOMIC_WRITE_FILE
    ((not f.writable ⟶ FILE_ACCESS_DENIED)
    ∷ (is_no_write_start start f.octets ⟶ INVALID_FILE_START_POSITION)
    ∷ (nat_lt FILE_LIMIT (length (written start new f.octets)) ⟶ NO_SPACE_TO_WRITE)
    ∷ [])
    (Complex (StreamWritten (pos (write_start start f.octets)))) (tt, (tt, (tt, tt))) refl

object_fits : (choice : ℕ) (x : Option Object) (answer : Object → Reply) → ((o : Object) → FitsChoice choice (answer o))
    → FitsChoice choice (at_object x answer)
object_fits choice None answer f = tt
object_fits choice (Some o) answer f = f o

pub replies_fit : (s : Store) (r : Request) → FitsChoice (choice_of r) (reply_to s r)
replies_fit s (ReadFile id access) = read_file_fits access (file_of (object_in s id))
replies_fit s (WriteFile id access) = write_file_fits access (file_of (object_in s id))
replies_fit s (ReadProperty r) =
    object_fits READ_PROPERTY (read_in s r.object) (λ o. at_property (property_in o r.property) (read_reply r))
    (λ o. read_fits (property_in o r.property) r)
replies_fit s (WriteProperty r values priority) =
    object_fits WRITE_PROPERTY (object_in s r.object) (λ o. at_property (property_in o r.property) (write_reply r values))
    (λ o. write_fits (property_in o r.property) r values)
