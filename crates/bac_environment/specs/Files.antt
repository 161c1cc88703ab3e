-- Files that were opened at a path.
use Rattle.std.specs.Prelude.{◌≡◌, ℕ, List, Option}

-- a file that was opened at a path, by the octets that it gives where those are known
pub record OnFile {File : Type 0} (IsFile : (path : List ℕ) → File → Type 0) (content_of : File → Option (List ℕ)) (path : List ℕ)
    (content : Option (List ℕ)) : Type 0 where
  pub file : File
  pub opened : IsFile path file
  pub is : content ≡ content_of file

-- What follows takes such a relation.

-- of a file at the path, this is so
pub record OfFile (IsAt : (path : List ℕ) → (content : Option (List ℕ)) → Type 0) (path : List ℕ) (Says : Option (List ℕ) → Type 0) : Type 0 where
  pub content : Option (List ℕ)
  pub at : IsAt path content
  pub says : Says content
