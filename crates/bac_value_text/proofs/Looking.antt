-- A look-up that passes from row to row.
use Rattle.std.proofs.Common.{◌≡◌, ℕ, ◌+◌, ◌<◌, Bool, true, false, ◌==◌, List, ◌∷◌, length, map, drop, get_or, Option, Some, refl}
use Rattle.std.proofs.Common.{if◌then◌else◌, Bor}
use Rattle.std.specs.List.{find}
use Rattle.std.proofs.lemmas.List.{drop_more}
use Rattle.std.specs.Option.{option_map}
use Rattle.std.specs.Str.{bytes_eq}
use Rattle.bac_value_text.specs.Names.{Row, name_in, number_in, plain}

abbrev pub CodeRow : Type 0
CodeRow = Bor (List ℕ) × ℕ

module _ {A B : Type 0} (view : A → Row) (test : Row → Bool) (part : Row → B) where
  abbrev look : List A → Option B
  look rows = option_map part (find test (map view rows))

  first : (x : A) (rows : List A) → look (x ∷ rows) ≡ (if test (view x) then Some (part (view x)) else look rows)
  first x rows = go (test (view x))
    where
      go : (t : Bool) → option_map part (if t then Some (view x) else find test (map view rows))
          ≡ (if t then Some (part (view x)) else look rows)
      go true = refl
      go false = refl

  next : (rows : List A) (i : ℕ) (d : A) → i < length rows
      → look (drop i rows) ≡ (if test (view (get_or rows i d)) then Some (part (view (get_or rows i d))) else look (drop (i + 1) rows))
  next rows i d l = rw (drop_more rows i d l) (first (get_or rows i d) (drop (i + 1) rows))

pub number_next : (rows : List CodeRow) (name : List ℕ) (i : ℕ) (d : CodeRow) → i < length rows
    → number_in (plain (drop i rows)) name
    ≡ (if bytes_eq (get_or rows i d).0.now name then Some (get_or rows i d).1 else number_in (plain (drop (i + 1) rows)) name)
number_next rows name i d l = next {A = CodeRow} (λ r. (r.0.now, r.1)) (λ r. bytes_eq r.0 name) (λ r. r.1) rows i d l

pub name_next : (rows : List CodeRow) (n : ℕ) (i : ℕ) (d : CodeRow) → i < length rows
    → name_in (plain (drop i rows)) n
    ≡ (if (get_or rows i d).1 == n then Some (get_or rows i d).0.now else name_in (plain (drop (i + 1) rows)) n)
name_next rows n i d l = next {A = CodeRow} (λ r. (r.0.now, r.1)) (λ r. r.1 == n) (λ r. r.0) rows i d l
