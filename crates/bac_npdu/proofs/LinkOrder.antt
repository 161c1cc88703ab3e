-- Link addresses are ordered as the numbers that their octets encode, most significant first.
use Rattle.std.proofs.Common.{◌≡◌, ◌<◌, ℕ, suc, ◌+◌, ◌*◌, List, [], ◌∷◌, length, refl, sym, ap, ◌∙◌, arith, Ordering, Less, Equal, Greater}
use Rattle.std.specs.Ordering.{nat_cmp, ordering_then, MatchOrdering}
use Rattle.std.specs.Cmp.{ranks, nat_cmp_is}
use Rattle.std.specs.Cmp.Lexicographic.{slice_cmp}
use Rattle.std.specs.Int.{w64, from_be_bytes}
use Rattle.bac_value.specs.Octets.{IsBytes}

-- the number that octets encode after an initial number
abbrev number_after : ℕ → List ℕ → ℕ
number_after n [] = n
number_after n (octet ∷ octets) = number_after (n * 256 + octet) octets

-- the initial numbers decide if they differ
front_decides : (a b : ℕ) (xs ys : List ℕ) → length xs ≡ length ys → IsBytes xs → a < b → number_after a xs < number_after b ys
front_decides a b [] [] same fits less = less
front_decides a b [] (y ∷ ys) same fits less = absurd (omega arith)
front_decides a b (x ∷ xs) [] same fits less = absurd (omega arith)
front_decides a b (x ∷ xs) (y ∷ ys) same fits less =
    let octet : x < 256 = fits 0 in
    front_decides (a * 256 + x) (b * 256 + y) xs ys (omega arith) (λ i. fits (suc i)) (omega arith)

-- the octets decide if the initial numbers are equal
octets_decide : (a : ℕ) (xs ys : List ℕ) → length xs ≡ length ys → IsBytes xs → IsBytes ys
    → nat_cmp (number_after a xs) (number_after a ys) ≡ slice_cmp nat_cmp xs ys
octets_decide a [] [] same left right = sym (nat_cmp_is a a Equal refl)
octets_decide a [] (y ∷ ys) same left right = absurd (omega arith)
octets_decide a (x ∷ xs) [] same left right = absurd (omega arith)
octets_decide a (x ∷ xs) (y ∷ ys) same left right =
    by (octets_decide (a * 256 + x) xs ys (omega arith) (λ i. left (suc i)) (λ i. right (suc i))) (nat_cmp x y) (ranks x y)
  where
    by : nat_cmp (number_after (a * 256 + x) xs) (number_after (a * 256 + x) ys) ≡ slice_cmp nat_cmp xs ys
        → (r : Ordering) → MatchOrdering r (x < y) (x ≡ y) (y < x)
        → nat_cmp (number_after (a * 256 + x) xs) (number_after (a * 256 + y) ys) ≡ ordering_then r (slice_cmp nat_cmp xs ys)
    by rest Less l =
        let less : x < y = l in
        sym (nat_cmp_is _ _ Less (front_decides (a * 256 + x) (a * 256 + y) xs ys (omega arith) (λ i. left (suc i)) (omega arith)))
    by rest Greater l =
        let more : y < x = l in
        sym (nat_cmp_is _ _ Greater (front_decides (a * 256 + y) (a * 256 + x) ys xs (omega arith) (λ i. right (suc i)) (omega arith)))
    by rest Equal l =
        let level : y ≡ x = sym l in
        ap (λ n. nat_cmp (number_after (a * 256 + x) xs) (number_after (a * 256 + n) ys)) level ∙ rest

-- the number of a link address, as the code reads it
spelled : (xs : List ℕ) → length xs ≡ 6 → from_be_bytes w64 (0 ∷ 0 ∷ xs) ≡ number_after 0 xs
spelled (a ∷ b ∷ c ∷ d ∷ e ∷ f ∷ []) six = omega arith
spelled [] six = absurd (omega arith)
spelled (a ∷ []) six = absurd (omega arith)
spelled (a ∷ b ∷ []) six = absurd (omega arith)
spelled (a ∷ b ∷ c ∷ []) six = absurd (omega arith)
spelled (a ∷ b ∷ c ∷ d ∷ []) six = absurd (omega arith)
spelled (a ∷ b ∷ c ∷ d ∷ e ∷ []) six = absurd (omega arith)
spelled (a ∷ b ∷ c ∷ d ∷ e ∷ f ∷ g ∷ rest) six = absurd (omega arith)

pub links_in_order : (xs ys : List ℕ) → length xs ≡ 6 → length ys ≡ 6 → IsBytes xs → IsBytes ys
    → nat_cmp (from_be_bytes w64 (0 ∷ 0 ∷ xs)) (from_be_bytes w64 (0 ∷ 0 ∷ ys)) ≡ slice_cmp nat_cmp xs ys
links_in_order xs ys six too left right =
    rw (spelled xs six, spelled ys too) (octets_decide 0 xs ys (six ∙ sym too) left right)
