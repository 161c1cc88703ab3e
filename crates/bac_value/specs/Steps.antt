-- Words for reading from left to right on lists, one step after the other, with any type of fault.
use Rattle.std.specs.Prelude.{◌≡◌, ℕ, ◌/◌, ◌%◌, ◌≤◌, ◌==◌, List, [], ◌∷◌, ◌++◌, length, take, drop, Result, Ok, Err, Bool}
use Rattle.bac_value.specs.Octets.{IsBytes}

-- the next step uses what the step before it read; the first fault ends the reading
infixl 10 ◌>>=◌
abbrev pub ◌>>=◌ : {A B E : Type 0} → Result A E → (A → Result B E) → Result B E
(Ok x) >>= f = f x
(Err e) >>= f = Err e

-- the first octet, and the octets after it; at the end this fault
abbrev pub octet_at : {E : Type 0} → E → List ℕ → Result (ℕ × List ℕ) E
octet_at e [] = Err e
octet_at e (x ∷ xs) = Ok (x, xs)

-- whether the bit of this weight is set
abbrev pub has_bit : ℕ → ℕ → Bool
has_bit octet weight = octet / weight % 2 == 1

-- ---- the results of readers in code

-- seen through view and rest, the result is that of the reading on lists
abbrev pub Reads : {X Y R E : Type 0} → (X → Y) → (R → List ℕ) → List ℕ → Result (X × R) E → (List ℕ → Result (Y × List ℕ) E) → Type 0
Reads view rest bytes (Ok r) read = (length (rest r.1) ≤ length bytes) × (read bytes ≡ Ok (view r.0, rest r.1))
Reads view rest bytes (Err e) read = read bytes ≡ Err e

-- the same for a reader of everything that is left
abbrev pub ReadsAll : {X Y E : Type 0} → (X → Y) → Result X E → Result Y E → Type 0
ReadsAll view (Ok x) read = read ≡ Ok (view x)
ReadsAll view (Err e) read = read ≡ Err e

-- ---- readings and spellings

-- the first k octets are the spelling of y, and reading returns it
pub record IsFound {Y E : Type 0} (read : List ℕ → Result (Y × List ℕ) E) (Spells : Y → List ℕ → Type 0) (bytes : List ℕ) (y : Y) (k : ℕ) : Type 0 where
  pub in_range : k ≤ length bytes
  pub spelled : Spells y (take k bytes)
  pub exact : read bytes ≡ Ok (y, drop k bytes)

-- no front of the octets is a spelling, and reading returns this fault
pub record IsRefused {Y E : Type 0} (read : List ℕ → Result (Y × List ℕ) E) (Spells : Y → List ℕ → Type 0) (bytes : List ℕ) (e : E) : Type 0 where
  pub none : (y : Y) (k : ℕ) → Spells y (take k bytes) → ⊥
  pub exact : read bytes ≡ Err e

-- reading returns a value exactly if the octets begin with a spelling of it
pub record IsExact {Y E : Type 0} (read : List ℕ → Result (Y × List ℕ) E) (Spells : Y → List ℕ → Type 0) : Type 0 where
  pub takes : (bytes : List ℕ) (x : Y × List ℕ) → IsBytes bytes → read bytes ≡ Ok x → (text : List ℕ) × (bytes ≡ text ++ x.1) × Spells x.0 text
  pub again : (y : Y) (text rest : List ℕ) → Spells y text → read (text ++ rest) ≡ Ok (y, rest)
