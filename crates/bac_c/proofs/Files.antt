-- What the store's reply to a read of a whole file says of the file.
use Rattle.std.proofs.Common.{◌≡◌, ◌∙◌, ◌<◌, ◌≤◌, ℕ, ℤ, pos, Bool, true, false, List, Option, Some, None, length, take, if◌then◌else◌, sym, ap, subst, arith}
use Rattle.std.specs.Prelude.{nat_lt}
use Rattle.std.specs.Option.{option_map}
use Rattle.std.proofs.lemmas.Bool.{false≢true}
use Rattle.std.proofs.lemmas.List.{take_all, length-take}
use Rattle.bac_value.specs.Value.{ObjectId}
use Rattle.bac_service.specs.Values.Complex.{FileRead}
use Rattle.bac_service.specs.Values.Request.{ReadFile}
use Rattle.bac_service.specs.Values.ReadAccess.{ReadStream}
use Rattle.bac_service.specs.Replies.{held_by}
use Rattle.bac_service.specs.Replies.Reply.{Complex}
use Rattle.bac_store.specs.Changes.{is_done}
use Rattle.bac_store.specs.Replies.{INVALID_FILE_START_POSITION, at_file, file_of as file_in, file_read, read_file_reply, reply_to}
use Rattle.bac_store.specs.Stores.{File, Store, object_in}
use Rattle.bac_c.specs.Reading.{OfFile, OfOctets}

whole : (k : ℕ) (ys : List ℕ) → length (take k ys) < k → take k ys ≡ ys
whole k ys few = take_all k ys (omega (arith, few, length-take k ys))

held_from : (k : ℕ) (ys : List ℕ) (b : Bool) → 1 ≤ length (held_by (if b then INVALID_FILE_START_POSITION else file_read 0 k ys)) → 1 ≤ length ys
held_from k ys true some = absurd (omega (arith, some))
held_from k ys false some = omega (arith, some, length-take k ys)

held : (k : ℕ) (f : Option File) → 1 ≤ length (held_by (at_file f (read_file_reply (ReadStream (pos 0) k)))) → OfOctets (λ xs. 1 ≤ length xs) (option_map (λ g. g.octets) f)
held k None some = absurd (omega (arith, some))
held k (Some g) some = held_from k g.octets (nat_lt (length g.octets) 0) some

-- where the reply holds octets, the file has some
pub file_held : (s : Store) (id : ObjectId) (k : ℕ) → 1 ≤ length (held_by (reply_to s (ReadFile id (ReadStream (pos 0) k)))) → OfFile (λ xs. 1 ≤ length xs) id s
file_held s id k = held k (file_in (object_in s id))

told_from : (p : List ℕ → Type 0) (k : ℕ) (e : Bool) (start : ℤ) (xs ys : List ℕ) (b : Bool)
    → (if b then INVALID_FILE_START_POSITION else file_read 0 k ys) ≡ Complex (FileRead e start xs) → length xs < k → p xs → p ys
told_from p k e start xs ys true is few holds = absurd (false≢true (ap is_done is))
told_from p k e start xs ys false is few holds =
    let same = ap held_by is in subst p (sym same ∙ whole k ys (subst (λ (z : List ℕ). length z < k) (sym same) few)) holds

told : (p : List ℕ → Type 0) (k : ℕ) (e : Bool) (start : ℤ) (xs : List ℕ) (f : Option File)
    → at_file f (read_file_reply (ReadStream (pos 0) k)) ≡ Complex (FileRead e start xs) → length xs < k → p xs → OfOctets p (option_map (λ g. g.octets) f)
told p k e start xs None is few holds = absurd (false≢true (ap is_done is))
told p k e start xs (Some g) is few holds = told_from p k e start xs g.octets (nat_lt (length g.octets) 0) is few holds

-- fewer octets than were asked for are all
pub file_told : (p : List ℕ → Type 0) (s : Store) (id : ObjectId) (k : ℕ) (e : Bool) (start : ℤ) (xs : List ℕ)
    → reply_to s (ReadFile id (ReadStream (pos 0) k)) ≡ Complex (FileRead e start xs) → length xs < k → p xs → OfFile p id s
file_told p s id k e start xs = told p k e start xs (file_in (object_in s id))
