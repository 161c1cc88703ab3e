-- Octets split by lengths, and octets in vectors.
use Rattle.std.proofs.Common.{◌≡◌, ℕ, zero, suc, ◌+◌, ◌-◌, ◌<◌, ◌≤◌, List, [], ◌∷◌, ◌++◌, length, take, drop, map, refl, ap, sym, ◌∙◌, arith}
use Rattle.std.proofs.Common.{length-append, append_assoc, length-drop}
use Rattle.std.proofs.lemmas.List.{append-nil, length_push, length-take-le, take-append-le, drop-append-le, take-append-drop, take_all, take_at}
use Rattle.std.proofs.Math.Seq.{take-append-add}
use Rattle.std.proofs.lemmas.List.Sums.{sum_by-cons, sum_by_push}
use Rattle.std.specs.Global.{Vec}
use Rattle.std.specs.List.{sum, slice_index_or, slice_set}
use Rattle.bac_value.specs.Octets.{joined}
use Rattle.bac_value.proofs.Joined.{joined-append}
use Rattle.bac_segment.specs.Kept.{CountsOctets}
use Rattle.bac_segment.specs.Limits.{DATA}
use Rattle.bac_segment.specs.Pieces.{join, split}

sum-cons : (n : ℕ) (lengths : List ℕ) → sum (n ∷ lengths) ≡ n + sum lengths
sum-cons n lengths = sum_by-cons (λ k. k) n lengths

sum_push : (lengths : List ℕ) (n : ℕ) → sum (lengths ++ n ∷ []) ≡ sum lengths + n
sum_push lengths n = sum_by_push (λ k. k) lengths n

-- the octets of the later parts
sum_rest : (n : ℕ) (lengths octets : List ℕ) → sum (n ∷ lengths) ≡ length octets → (n ≤ length octets) × (sum lengths ≡ length (drop n octets))
sum_rest n lengths octets whole = omega (arith, sum-cons n lengths, length-drop n octets)

-- there are as many parts as lengths
pub parts_are_as_many : (lengths octets : List ℕ) → length (split lengths octets) ≡ length lengths
parts_are_as_many [] octets = refl
parts_are_as_many (n ∷ lengths) octets = ap suc (parts_are_as_many lengths (drop n octets))

pub join-split : (lengths octets : List ℕ) → sum lengths ≡ length octets → join (split lengths octets) ≡ octets
join-split [] [] whole = refl
join-split [] (x ∷ octets) whole = absurd (omega arith)
join-split (n ∷ lengths) octets whole =
    ap (λ l. take n octets ++ l) (join-split lengths (drop n octets) (sum_rest n lengths octets whole).1) ∙ take-append-drop n octets

pub lengths-split : (lengths octets : List ℕ) → sum lengths ≡ length octets → map length (split lengths octets) ≡ lengths
lengths-split [] octets whole = refl
lengths-split (n ∷ lengths) octets whole =
    let rest = sum_rest n lengths octets whole in
    ap (λ k. k ∷ map length (split lengths (drop n octets))) (length-take-le n octets rest.0)
    ∙ ap (λ l. n ∷ l) (lengths-split lengths (drop n octets) rest.1)

pub split-push : (lengths octets more : List ℕ) (n : ℕ) → sum lengths ≡ length octets → n ≡ length more
    → split (lengths ++ n ∷ []) (octets ++ more) ≡ split lengths octets ++ more ∷ []
split-push [] [] more n whole is = ap (λ l. l ∷ []) (take_all n more (omega arith))
split-push [] (x ∷ octets) more n whole is = absurd (omega arith)
split-push (k ∷ lengths) octets more n whole is =
    let rest = sum_rest k lengths octets whole in
    ap (λ l. l ∷ split (lengths ++ n ∷ []) (drop k (octets ++ more))) (take-append-le k octets more rest.0)
    ∙ ap (λ l. take k octets ∷ split (lengths ++ n ∷ []) l) (drop-append-le k octets more rest.0)
    ∙ ap (λ l. take k octets ∷ l) (split-push lengths (drop k octets) more n rest.1 is)

-- the parts have all octets
pub parts_have_all : (lengths octets : List ℕ) → sum lengths ≡ length octets → length (join (split lengths octets)) ≡ length octets
parts_have_all lengths octets whole = ap length (join-split lengths octets whole)

-- the counts after one more segment
pub CountsOctets-push : (lengths octets more then_lengths then_octets : List ℕ) (n total fresh : ℕ) → CountsOctets total fresh lengths octets
    → then_lengths ≡ lengths ++ n ∷ [] → then_octets ≡ octets ++ more → n ≡ length more
    → length (join (split lengths octets)) + length more ≤ DATA → length (split lengths octets) + 1 ≤ DATA
    → CountsOctets (total + n) fresh then_lengths then_octets
CountsOctets-push lengths octets more then_lengths then_octets n total fresh counts lengths_are octets_are is short few =
    let long = ap length octets_are ∙ length-append octets more in
    let many = ap length lengths_are ∙ length_push lengths n in
    let sums = ap sum lengths_are ∙ sum_push lengths n in
    let all = parts_have_all lengths octets counts.whole in
    record {
      counted = omega (arith, long, is, counts.counted);
      whole = omega (arith, long, sums, is, counts.whole);
      short = omega (arith, all, is, counts.counted);
      few = omega (arith, many, parts_are_as_many lengths octets);
      fresh = omega (arith, many, counts.fresh);
    }

-- the counts without the last segment
pub CountsOctets-pop : (lengths octets then_lengths then_octets : List ℕ) (n total fresh then : ℕ) → CountsOctets total fresh lengths octets
    → lengths ≡ then_lengths ++ n ∷ [] → then_octets ≡ take (length octets - n) octets → then < length (split lengths octets)
    → CountsOctets (total - n) then then_lengths then_octets
CountsOctets-pop lengths octets then_lengths then_octets n total fresh then counts lengths_are octets_are fewer =
    let many = ap length lengths_are ∙ length_push then_lengths n in
    let sums = ap sum lengths_are ∙ sum_push then_lengths n in
    let within : n ≤ length octets = omega (arith, sums, counts.whole) in
    let long = ap length octets_are ∙ length-take-le (length octets - n) octets (omega arith) in
    record {
      counted = omega (arith, long, counts.counted);
      whole = omega (arith, long, sums, within, counts.whole);
      short = omega (arith, counts.short);
      few = omega (arith, many, counts.few);
      fresh = omega (arith, many, fewer, parts_are_as_many lengths octets);
    }

-- without the last segment, the parts are those before it
pub split-pop : (lengths octets then_lengths then_octets : List ℕ) (n : ℕ) → lengths ≡ then_lengths ++ n ∷ []
    → then_octets ≡ take (length octets - n) octets → sum lengths ≡ length octets
    → split then_lengths then_octets ≡ take (length (split lengths octets) - 1) (split lengths octets)
split-pop lengths octets then_lengths then_octets n lengths_are octets_are whole =
    let sums = ap sum lengths_are ∙ sum_push then_lengths n in
    let back = drop (length octets - n) octets in
    let long = ap length octets_are ∙ length-take-le (length octets - n) octets (omega arith) in
    let back_is = length-drop (length octets - n) octets in
    let all : octets ≡ then_octets ++ back = sym (take-append-drop (length octets - n) octets) ∙ ap (λ l. l ++ back) (sym octets_are) in
    let pushed : split lengths octets ≡ split then_lengths then_octets ++ back ∷ [] =
    ap (λ l. split l octets) lengths_are ∙ ap (split (then_lengths ++ n ∷ [])) all
    ∙ split-push then_lengths then_octets back n (omega (arith, sums, long)) (omega (arith, sums, back_is)) in
    let count = length_push (split then_lengths then_octets) back in
    sym (ap (λ l. take (length l - 1) l) pushed ∙ take_at (split then_lengths then_octets) (back ∷ []) _ (omega (arith, count)))

-- one more vector
pub joined-push : (chunks : List (Vec ℕ)) (chunk : Vec ℕ) → joined (chunks ++ chunk ∷ []) ≡ joined chunks ++ chunk.items
joined-push chunks chunk = joined-append chunks (chunk ∷ []) ∙ ap (λ l. joined chunks ++ l) (append-nil chunk.items)

-- more octets in the last vector
pub joined-set_last : (chunks : List (Vec ℕ)) (last then : Vec ℕ) (octets : List ℕ) (n : ℕ) → n + 1 ≡ length chunks → last ≡ slice_index_or chunks n last
    → then.items ≡ last.items ++ octets → joined (slice_set chunks n then) ≡ joined chunks ++ octets
joined-set_last [] last then octets n count at is = absurd (omega arith)
joined-set_last (chunk ∷ []) last then octets zero count at is =
    append-nil then.items ∙ is ∙ ap (λ (v : Vec ℕ). v.items ++ octets) at ∙ ap (λ l. l ++ octets) (sym (append-nil chunk.items))
joined-set_last (chunk ∷ []) last then octets (suc n) count at is = absurd (omega arith)
joined-set_last (chunk ∷ next ∷ chunks) last then octets zero count at is = absurd (omega arith)
joined-set_last (chunk ∷ next ∷ chunks) last then octets (suc n) count at is =
    ap (λ l. chunk.items ++ l) (joined-set_last (next ∷ chunks) last then octets n (omega arith) at is)
    ∙ sym (append_assoc chunk.items (joined (next ∷ chunks)) octets)

pub joined-set_same : (chunks : List (Vec ℕ)) (chunk : Vec ℕ) (n : ℕ) → chunk ≡ slice_index_or chunks n chunk
    → joined (slice_set chunks n chunk) ≡ joined chunks
joined-set_same [] chunk n at = refl
joined-set_same (first ∷ chunks) chunk zero at = ap (λ (v : Vec ℕ). v.items ++ joined chunks) at
joined-set_same (first ∷ chunks) chunk (suc n) at = ap (λ l. first.items ++ l) (joined-set_same chunks chunk n at)

-- the last vector is shortened: the octets that remain
pub cut_last : (chunks front : List (Vec ℕ)) (last then : Vec ℕ) (more : List (Vec ℕ)) (left : ℕ) → chunks ≡ front ++ last ∷ [] → left ≤ length last.items
    → then.items ≡ take (length last.items - left) last.items → more ≡ front ++ then ∷ []
    → joined more ≡ take (length (joined chunks) - left) (joined chunks)
cut_last chunks front last then more left are few is then_are =
    let whole = ap joined are ∙ joined-push front last in
    let count = ap length whole ∙ length-append (joined front) last.items in
    let rest : length (joined chunks) - left ≡ length (joined front) + (length last.items - left) = omega (arith, count) in
    ap joined then_are ∙ joined-push front then ∙ ap (λ l. joined front ++ l) is
    ∙ sym (take-append-add (joined front) last.items (length last.items - left))
    ∙ ap (λ l. take (length (joined front) + (length last.items - left)) l) (sym whole)
    ∙ ap (λ n. take n (joined chunks)) (sym rest)

-- the last vector is removed: how many octets are still to be removed, and the octets that will remain
pub drop_last : (chunks front : List (Vec ℕ)) (last : Vec ℕ) (left : ℕ) → chunks ≡ front ++ last ∷ [] → length last.items ≤ left
    → left ≤ length (joined chunks) → (left - length last.items ≤ length (joined front))
    × (take (length (joined front) - (left - length last.items)) (joined front) ≡ take (length (joined chunks) - left) (joined chunks))
drop_last chunks front last left are many within =
    let whole = ap joined are ∙ joined-push front last in
    let count = ap length whole ∙ length-append (joined front) last.items in
    let same : length (joined front) - (left - length last.items) ≡ length (joined chunks) - left = omega (arith, count) in (
      omega (arith, count),
      ap (λ n. take n (joined front)) same
          ∙ sym (take-append-le (length (joined chunks) - left) (joined front) last.items (omega (arith, count)))
          ∙ ap (λ l. take (length (joined chunks) - left) l) (sym whole),
    )
