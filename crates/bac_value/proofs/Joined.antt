-- Joined pieces, by induction on the pieces.
use Rattle.std.proofs.Common.{◌≡◌, ℕ, zero, suc, min, ◌+◌, ◌-◌, ◌<◌, ◌≤◌, List, [], ◌∷◌, ◌++◌, length, get_or, take, drop, refl, sym, ap}
use Rattle.std.proofs.Common.{◌∙◌, append_assoc, arith, subst, inl, inr}
use Rattle.std.specs.Global.{Vec}
use Rattle.std.proofs.lemmas.Bool.{cases_lt}
use Rattle.std.proofs.lemmas.List.{take_more, drop_more, append-nil, get_or_append_left, get_or-append_right, take_all, length-drop}
use Rattle.std.proofs.lemmas.List.{drop-append-le, take-append-le, drop_at, length-append, drop-take, drop-drop}
use Rattle.bac_value.specs.Octets.{IsBytes, joined}
use Rattle.bac_value.proofs.Steps.{IsBytes-drop}

pub joined-append : (a b : List (Vec ℕ)) → joined (a ++ b) ≡ joined a ++ joined b
joined-append [] b = refl
joined-append (v ∷ a) b = ap (λ (x : List ℕ). v.items ++ x) (joined-append a b) ∙ sym (append_assoc v.items (joined a) (joined b))

pub joined_more : (ps : List (Vec ℕ)) (i : ℕ) (d : Vec ℕ) → i < length ps → joined (take (i + 1) ps) ≡ joined (take i ps) ++ (get_or ps i d).items
joined_more ps i d lt = ap joined (take_more ps i d lt) ∙ joined-append (take i ps) (get_or ps i d ∷ [])
    ∙ ap (λ (x : List ℕ). joined (take i ps) ++ x) (append-nil (get_or ps i d).items)

pub joined_rest : (ps : List (Vec ℕ)) (i : ℕ) (d : Vec ℕ) → i < length ps → joined (drop i ps) ≡ (get_or ps i d).items ++ joined (drop (i + 1) ps)
joined_rest ps i d lt = ap joined (drop_more ps i d lt)

pub IsBytes-append : (a b : List ℕ) → IsBytes a → IsBytes b → IsBytes (a ++ b)
IsBytes-append a b p q i =
    elim (cases_lt i (length a)) [
      | inl lt ↦ rw (get_or_append_left a b 0 i lt) (p i)
      | inr le ↦ rw (get_or-append_right a b (length a) i 0 refl le) (q (i - length a))
    ]

-- ---- a part that is copied

drop_over : (p r : List ℕ) (skip : ℕ) → length p ≤ skip → drop skip (p ++ r) ≡ drop (skip - length p) r
drop_over [] r skip le = ap (λ (i : ℕ). drop i r) (omega arith)
drop_over (x ∷ p) r zero le = absurd (omega arith)
drop_over (x ∷ p) r (suc skip) le = let e : suc skip - suc (length p) ≡ skip - length p = omega arith in rw e (drop_over p r skip (omega arith))

take_over : (p r : List ℕ) (n : ℕ) → length p ≤ n → take n (p ++ r) ≡ p ++ take (n - length p) r
take_over [] r n le = ap (λ (i : ℕ). take i r) (omega arith)
take_over (x ∷ p) r zero le = absurd (omega arith)
take_over (x ∷ p) r (suc n) le = let e : suc n - suc (length p) ≡ n - length p =
    omega arith in rw e (ap (λ (l : List ℕ). x ∷ l) (take_over p r n (omega arith)))

taken_part : (p r : List ℕ) (skip left here : ℕ) → skip ≤ length p → here ≡ min left (length p - skip)
    → take left (drop skip (p ++ r)) ≡ take here (drop skip p) ++ take (left - here) r
taken_part p r skip left here le is =
    let len = length-drop skip p in
    elim (cases_lt left (length p - skip)) [
      | inl lt ↦
          let same : here ≡ left = omega arith in
          let none : left - left ≡ 0 = omega arith in
          rw (drop-append-le skip p r le, take-append-le left (drop skip p) r (omega arith), same, none) (sym (append-nil (take left (drop skip p))))
      | inr ge ↦
          let same : here ≡ length (drop skip p) = omega arith in
          rw (drop-append-le skip p r le, take_over (drop skip p) r left (omega arith), same, take_all (length (drop skip p)) (drop skip p) (omega arith)) refl
    ]

part_of : (p r : List ℕ) (skip left over here : ℕ) → over ≡ min skip (length p) → here ≡ min left (length p - over)
    → take left (drop skip (p ++ r)) ≡ take here (drop over p) ++ take (left - here) (drop (skip - over) r)
part_of p r skip left over here o h =
    elim (cases_lt skip (length p)) [
      | inl lt ↦
          let same : over ≡ skip = omega arith in
          let none : skip - skip ≡ 0 = omega arith in
          rw (same, none) (taken_part p r skip left here (omega arith) (omega arith))
      | inr ge ↦
          let same : over ≡ length p = omega arith in
          let zero_here : here ≡ 0 = omega arith in
          rw (drop_over p r skip ge, zero_here, same) (ap (λ (n : ℕ). take n (drop (skip - length p) r)) (omega arith))
    ]

pub copied : (ps : List (Vec ℕ)) (i : ℕ) (d : Vec ℕ) (old new total : List ℕ) (skip left over here : ℕ) → i < length ps
    → over ≡ min skip (length (get_or ps i d).items) → here ≡ min left (length (get_or ps i d).items - over)
    → new ≡ old ++ take here (drop over (get_or ps i d).items) → old ++ take left (drop skip (joined (drop i ps))) ≡ total
    → new ++ take (left - here) (drop (skip - over) (joined (drop (i + 1) ps))) ≡ total
copied ps i d old new total skip left over here lt o h is same =
    let p = (get_or ps i d).items in
    let r = joined (drop (i + 1) ps) in
    let e : take left (drop skip (joined (drop i ps))) ≡ take here (drop over p) ++ take (left - here) (drop (skip - over) r) =
    ap (λ (l : List ℕ). take left (drop skip l)) (joined_rest ps i d lt) ∙ part_of p r skip left over here o h in
    ap (λ (l : List ℕ). l ++ take (left - here) (drop (skip - over) r)) is
    ∙ append_assoc old (take here (drop over p)) (take (left - here) (drop (skip - over) r)) ∙ ap (λ (l : List ℕ). old ++ l) (sym e) ∙ same

-- a piece that is skipped
pub passed : (ps behind : List (Vec ℕ)) (v : Vec ℕ) (text total : List ℕ) (skip k len : ℕ) → ps ≡ v ∷ behind → text ≡ v.items → k ≡ length text → k ≤ skip
    → drop skip (joined ps) ≡ total → skip + len ≤ length (joined ps) → IsBytes (joined ps)
    → (drop (skip - k) (joined behind) ≡ total) × (skip - k + len ≤ length (joined behind)) × IsBytes (joined behind)
passed ps behind v text total skip k len is same count le whole counted fits =
    let j : joined ps ≡ v.items ++ joined behind = ap joined is in
    let n : k ≡ length v.items = count ∙ ap length same in
    let rest : joined behind ≡ drop (length v.items) (joined ps) =
    sym (ap (drop (length v.items)) j ∙ drop_at v.items (joined behind) (length v.items) refl) in (
      ap (λ i. drop (skip - i) (joined behind)) n ∙ sym (drop_over v.items (joined behind) skip (omega (arith, n))) ∙ ap (drop skip) (sym j) ∙ whole,
      omega (arith, n, ap length j, length-append v.items (joined behind)),
      subst IsBytes (sym rest) (IsBytes-drop (length v.items) (joined ps) fits),
    )

-- ---- the front of some octets

front_more : (xs : List ℕ) (skip len d : ℕ) → skip < length xs → 0 < len → take len (drop skip xs) ≡ get_or xs skip d ∷ take (len - 1) (drop (skip + 1) xs)
front_more xs skip zero d lt some = absurd (omega arith)
front_more xs skip (suc m) d lt some =
    let less : suc m - 1 ≡ m = omega arith in
    rw less (ap (take (suc m)) (drop_more xs skip d lt))

-- the first of the remaining octets, and the rest
pub first_of : (ps behind next : List (Vec ℕ)) (v : Vec ℕ) (skip len first next_skip next_len : ℕ) → ps ≡ v ∷ behind → skip < length v.items → 0 < len
    → first ≡ get_or v.items skip first
    → next_len ≡ len - 1 → drop next_skip (joined next) ≡ drop (skip + 1) (joined ps)
    → take len (drop skip (joined ps)) ≡ first ∷ take next_len (drop next_skip (joined next))
first_of ps behind next v skip len first next_skip next_len is lt some one less same =
    let whole : joined ps ≡ v.items ++ joined behind = ap joined is in
    let room : skip < length (joined ps) = omega (arith, ap length whole, length-append v.items (joined behind)) in
    let head : get_or (joined ps) skip first ≡ first =
    ap (λ (xs : List ℕ). get_or xs skip first) whole ∙ get_or_append_left v.items (joined behind) first skip lt ∙ sym one in
    front_more (joined ps) skip len first room some ∙ rw (head, less, same) refl

pub after_front : (xs : List ℕ) (skip len count : ℕ) → count ≤ len → drop count (take len (drop skip xs)) ≡ take (len - count) (drop (skip + count) xs)
after_front xs skip len count le =
    let whole : len ≡ count + (len - count) = omega arith in
    ap (λ n. drop count (take n (drop skip xs))) whole ∙ drop-take count (len - count) (drop skip xs) ∙ ap (take (len - count)) (drop-drop count skip xs)
