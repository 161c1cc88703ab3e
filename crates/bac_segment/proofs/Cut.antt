-- The pieces that octets are cut into.
use Rattle.std.proofs.Common.{◌≡◌, ℕ, zero, suc, ◌+◌, ◌-◌, ◌*◌, ◌<◌, ◌≤◌, min, List}
use Rattle.std.proofs.Common.{[], ◌++◌, length, take, drop, map, refl, ap, sym, ◌∙◌, arith, length-drop}
use Rattle.std.proofs.Math.Nat.{mul-le-mul_right}
use Rattle.std.proofs.Math.Seq.{take-add}
use Rattle.std.proofs.lemmas.Grind.{common_steps, div_ceil_times}
use Rattle.std.proofs.lemmas.List.{take_all, drop-drop, length-take, get_or-take, get_or-drop, ext_get_or}
use Rattle.std.proofs.lemmas.List.FromFn.{length-map-range_with_len, get_or-map-range_with_len}
use Rattle.std.specs.List.{range_with_len}
use Rattle.bac_segment.specs.Pieces.{join, piece_at, count_of, cut, pieces_of}

pub length-cut : (count size : ℕ) (xs : List ℕ) → length (cut count size xs) ≡ count
length-cut zero size xs = refl
length-cut (suc count) size xs = ap suc (length-cut count size (drop size xs))

pub length-pieces_of : (size : ℕ) (xs : List ℕ) → length (pieces_of size xs) ≡ count_of size xs
length-pieces_of size xs = length-cut (count_of size xs) size xs

pub piece_at-cut : (count size n : ℕ) (xs : List ℕ) → n < count → piece_at (cut count size xs) n ≡ take size (drop (n * size) xs)
piece_at-cut zero size n xs h = absurd (omega arith)
piece_at-cut (suc count) size zero xs h = grind (arith, common_steps)
piece_at-cut (suc count) size (suc n) xs h = grind (arith, common_steps, piece_at-cut count size n (drop size xs) (omega arith), drop-drop)

pub join-cut : (count size : ℕ) (xs : List ℕ) → join (cut count size xs) ≡ take (count * size) xs
join-cut zero size xs = grind (arith, common_steps)
join-cut (suc count) size xs =
    ap (λ l. take size xs ++ l) (join-cut count size (drop size xs)) ∙ sym (take-add size (count * size) xs) ∙ ap (λ n. take n xs) (grind arith)

-- the pieces cover the octets
pub length-le-count : (size : ℕ) (xs : List ℕ) → 1 ≤ size → length xs ≤ count_of size xs * size
length-le-count size xs some = (div_ceil_times (length xs) size some).0

-- each of them starts within the octets
pub begins_within : (size n : ℕ) (xs : List ℕ) → 1 ≤ size → n < count_of size xs → n * size < length xs
begins_within size n xs some h =
    let few = (div_ceil_times (length xs) size some).1 in
    let more = mul-le-mul_right size h in
    grind arith

pub join-pieces_of : (size : ℕ) (xs : List ℕ) → 1 ≤ size → join (pieces_of size xs) ≡ xs
join-pieces_of size xs some = join-cut (count_of size xs) size xs ∙ take_all _ xs (length-le-count size xs some)

-- the pieces of a window, one by one
pub map-piece_at : (pieces : List (List ℕ)) (first window : ℕ)
    → map (piece_at pieces) (range_with_len first (min window (length pieces - first))) ≡ take window (drop first pieces)
map-piece_at pieces first window =
    let few = length-map-range_with_len (piece_at pieces) first (min window (length pieces - first)) in
    let taken = length-take window (drop first pieces) in
    let left = length-drop first pieces in
    ext_get_or [] _ _ (omega arith) (λ i within.
    let inside : i < min window (length pieces - first) = omega arith in
    get_or-map-range_with_len (piece_at pieces) first _ i (first + i) [] inside refl
    ∙ sym (get_or-drop first pieces i [])
    ∙ sym (get_or-take window (drop first pieces) i [] (omega arith)))
