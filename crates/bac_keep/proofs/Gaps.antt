-- A chunk of a file that is not among cells whose places rise.
use Rattle.std.proofs.Common.{◌≡◌, ◌==◌, ℕ, zero, suc, ◌<◌, ◌≤◌, false, List, [], ◌∷◌, length, get_or, None, refl, ap, ◌∙◌, arith}
use Rattle.std.specs.Prelude.{◌≢◌}
use Rattle.std.proofs.lemmas.Bool.Decides.{nat_tests}
use Rattle.bac_value.specs.Value.{ObjectId}
use Rattle.bac_keep.specs.declared.cell.Cell.{Cell}
use Rattle.bac_keep.specs.Cells.{file_place}
use Rattle.bac_keep.specs.Refused.{IsAt, LacksChunk}
use Rattle.bac_keep.specs.Held.{IsRising, held}
use Rattle.bac_keep.proofs.Risings.{above_at, none_below, weaker}

-- a place above that of a cell, and below that of the next one
between : (cells : List Cell) (j : ℕ) (d : Cell) → IsRising cells → j < length cells → (q : ℕ) → (get_or cells j d).place < q
    → (suc j < length cells → q < (get_or cells (suc j) d).place) → held cells q ≡ None
between [] j d rise l q above below = refl
between (c ∷ []) zero d rise l q above below = let apart : (q == c.place) ≡ false = grind (arith, nat_tests, above) in rw apart refl
between (c ∷ e ∷ cs) zero d rise l q above below =
    let apart : (q == c.place) ≡ false = grind (arith, nat_tests, above) in
    let under : q < e.place = below (omega arith) in
    rw apart (none_below q (e ∷ cs) (under, weaker q e.place (omega (arith, under)) cs rise.1.0))
between (c ∷ cs) (suc j) d rise l q above below =
    let up : c.place < (get_or cs j d).place = above_at c.place cs j d rise.0 (omega (arith, l)) in
    let apart : (q == c.place) ≡ false = grind (arith, nat_tests, above) in
    rw apart (between cs j d rise.1 (omega (arith, l)) q above (λ more. below (omega (arith, more))))

-- the next place of a cell is above it
next_above : (cells : List Cell) (j : ℕ) (d : Cell) → IsRising cells → suc j < length cells → (get_or cells j d).place < (get_or cells (suc j) d).place
next_above [] j d rise l = absurd (omega (arith, l))
next_above (c ∷ cs) zero d rise l = above_at c.place cs zero d rise.0 (omega (arith, l))
next_above (c ∷ cs) (suc j) d rise l = next_above cs j d rise.1 (omega (arith, l))

some_cell : (cells : List Cell) → zero < length cells → Cell
some_cell [] l = absurd (omega (arith, l))
some_cell (c ∷ cs) l = c

-- the chunk after the one at this index is not the next cell
module _ (cells : List Cell) (j : ℕ) (l : j < length cells) (id : ObjectId) (part count : ℕ) (small : part < count)
    (before : IsAt cells j (file_place id part)) (rise : IsRising cells) where
  lacks : (d : Cell) → (suc j < length cells → (get_or cells (suc j) d).place ≢ file_place id (suc part)) → LacksChunk (held cells) id count
  lacks d other = record {
    chunk = part;
    small = small;
    missing = between cells j d rise l (file_place id (suc part)) (omega (arith, before d)) (λ more.
        let up = next_above cells j d rise more in
        let apart = other more in
        omega (arith, up, apart, before d));
  }

  pub lacks_at_end : (next : ℕ) → next ≡ suc j → length cells ≤ next → LacksChunk (held cells) id count
  lacks_at_end next is end = lacks (some_cell cells (omega (arith, l))) (λ more. absurd (omega (arith, more, is, end)))

  pub lacks_here : (next : ℕ) → next ≡ suc j → (d : Cell) → d ≡ get_or cells next d → d.place ≢ file_place id (suc part) → LacksChunk (held cells) id count
  lacks_here next is d read other = lacks d (λ more same.
      other (ap (λ (x : Cell). x.place) (read ∙ ap (λ n. get_or cells n d) is) ∙ same))
