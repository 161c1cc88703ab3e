-- How a text is shown, piece by piece.
use Rattle.std.proofs.Common.{◌≡◌, ◌≢◌, ◌<◌, ◌≤◌, ◌+◌, ◌-◌, ℕ, zero, suc, Bool, true, false, not, cond, ◌&&◌, nat_lt, List, [], ◌∷◌, ◌++◌, length, take, drop, slice_index, Option, None, Some, refl, sym, ap, subst, ◌∙◌, arith, length-append, length-drop, append_assoc, ⊎_elim}
use Rattle.std.specs.Prelude.{◌==◌, if◌then◌else◌, flat_map}
use Rattle.std.specs.List.{list_all}
use Rattle.std.specs.Char.{encode_utf8, IsScalar}
use Rattle.std.specs.Str.{encode_utf8_all}
use Rattle.std.proofs.Math.Seq.{drop-append_seam, drop-length}
use Rattle.std.proofs.Math.Utf8.{scalar, scalars}
use Rattle.std.proofs.lemmas.Bool.{cases_Bool, cases_lt, and_parts, false≢true, eq-eqb, eqb-true}
use Rattle.std.proofs.lemmas.Bool.Decides.{nat_tests}
use Rattle.std.proofs.lemmas.List.{append-nil, get_or_append_left, take-append-le, drop-append-le, drop_all, take_all}
use Rattle.std.proofs.lemmas.Str.{encode_ascii}
use Rattle.bstr.specs.Utf8.{Decoded, decoded, decoded_by, bad, good, second, continues, code_of_2, code_of_3, code_of_4}
use Rattle.bstr.proofs.lemmas.PieceLemmas.{by-shape, piece-bounds, size-within, value-1, value-2, value-3, value-5, value-6, value-8, value-9, value-11, value-12}
use Rattle.bstr.proofs.lemmas.EncodeLemmas.{decoded-encode}
use Rattle.bstr.proofs.lemmas.SoundLemmas.{SpellsChar-decoded}
use Rattle.bac_shown.specs.Escapes.{escaped, octet_text}
use Rattle.bac_shown.specs.Going.{Goes, IsHarmless}
use Rattle.bac_shown.specs.Harmful.{is_harmful, is_plain}
use Rattle.bac_shown.specs.Pieces.{char_text, first_text, is_none, is_open, piece_text, shown, shown_from}
use Rattle.bac_shown.specs.declared.form.Form.{Form}
use Rattle.bac_shown.proofs.Harmless.{harmless-append, nothing_is_harmless, piece_is_harmless}
use Rattle.bac_shown.proofs.Plain.{plain_is_harmless, plain_is_low, plain_text_is_harmless}

-- ---- what follows a whole piece does not change it

abbrev is_open_piece : Decoded → ℕ → Bool
is_open_piece p n = is_none p.char && (p.size == n)

bad_is_open : (p : Decoded) (k n : ℕ) → p ≡ bad k → k ≡ n → is_open_piece p n ≡ true
bad_is_open p k n is same = ap (λ (q : Decoded). is_open_piece q n) is ∙ eq-eqb k n same

decoded_by-more : (n m b c d e c' d' e' : ℕ) → n ≤ m → (1 < n → c' ≡ c) → (2 < n → d' ≡ d) → (3 < n → e' ≡ e)
    → is_open_piece (decoded_by n b c d e) n ≡ false → decoded_by m b c' d' e' ≡ decoded_by n b c d e
decoded_by-more n m b c d e c' d' e' long second_c third_d fourth_e closed =
    let p = decoded_by n b c d e in
    let clash = λ (k : ℕ) (is : p ≡ bad k) (same : k ≡ n). false≢true (sym closed ∙ bad_is_open p k n is same) in
    by-shape n b c d e
    (λ h. absurd (clash 0 h.1 (sym h.0)))
    (λ h. value-1 m b c' d' e' (omega arith, h.1) ∙ sym h.2)
    (λ h. value-2 m b c' d' e' (omega arith, h.1, h.2) ∙ sym h.3)
    (λ h. value-3 m b c' d' e' (omega arith, h.1) ∙ sym h.2)
    (λ h. absurd (clash 1 h.4 (omega arith)))
    (λ h. let c_is = second_c (omega arith) in
    value-5 m b c' d' e' (omega arith, h.1, h.2, ap (second b) c_is ∙ h.3) ∙ sym h.4)
    (λ h. let c_is = second_c (omega arith) in
    value-6 m b c' d' e' (omega arith, h.1, h.2, ap (second b) c_is ∙ h.3) ∙ ap (λ x. good (code_of_2 b x) 2) c_is ∙ sym h.4)
    (λ h. absurd (clash 2 h.5 (omega arith)))
    (λ h. let c_is = second_c (omega arith) in
    let d_is = third_d (omega arith) in
    value-8 m b c' d' e' (omega arith, h.1, h.2, ap (second b) c_is ∙ h.3, ap continues d_is ∙ h.4) ∙ sym h.5)
    (λ h. let c_is = second_c (omega arith) in
    let d_is = third_d (omega arith) in
    value-9 m b c' d' e' (omega arith, h.1, h.2, ap (second b) c_is ∙ h.3, ap continues d_is ∙ h.4)
    ∙ ap (λ x. good (code_of_3 b x d') 3) c_is ∙ ap (λ x. good (code_of_3 b c x) 3) d_is ∙ sym h.5)
    (λ h. absurd (clash 3 h.6 (omega arith)))
    (λ h. let c_is = second_c (omega arith) in
    let d_is = third_d (omega arith) in
    let e_is = fourth_e (omega arith) in
    value-11 m b c' d' e' (omega arith, h.1, h.2, ap (second b) c_is ∙ h.3, ap continues d_is ∙ h.4, ap continues e_is ∙ h.5) ∙ sym h.6)
    (λ h. let c_is = second_c (omega arith) in
    let d_is = third_d (omega arith) in
    let e_is = fourth_e (omega arith) in
    value-12 m b c' d' e' (omega arith, h.1, h.2, ap (second b) c_is ∙ h.3, ap continues d_is ∙ h.4, ap continues e_is ∙ h.5)
    ∙ ap (λ x. good (code_of_4 b x d' e') 4) c_is ∙ ap (λ x. good (code_of_4 b c x e') 4) d_is ∙ ap (λ x. good (code_of_4 b c d x) 4) e_is ∙ sym h.6)

decoded-more : (xs ys : List ℕ) → is_open xs ≡ false → decoded (xs ++ ys) ≡ decoded xs
decoded-more [] ys closed = cc
decoded-more (x ∷ xs) ys closed =
    let l = x ∷ xs in let bs = l ++ ys in let long = length-append l ys in
    decoded_by-more (length l) (length bs) x (slice_index l 1) (slice_index l 2) (slice_index l 3) (slice_index bs 1) (slice_index bs 2) (slice_index bs 3)
    (omega arith) (λ h. get_or_append_left l ys 0 1 h) (λ h. get_or_append_left l ys 0 2 h) (λ h. get_or_append_left l ys 0 3 h) closed

pub closed_is_some : (bs : List ℕ) → is_open bs ≡ false → 0 < length bs
closed_is_some [] closed = cc
closed_is_some (b ∷ bs) closed = omega arith

-- the front of a character has three octets at most
pub open_is_short : (bs : List ℕ) → is_open bs ≡ true → length bs ≤ 3
open_is_short bs is =
    let b = slice_index bs 0 in let c = slice_index bs 1 in let d = slice_index bs 2 in let e = slice_index bs 3 in
    let both = and_parts (is_none (decoded bs).char) ((decoded bs).size == length bs) is in
    let whole : (decoded bs).size ≡ length bs = eqb-true _ _ both.1 in
    let sized = λ (p : Decoded) (is : decoded bs ≡ p). sym (ap (λ (q : Decoded). q.size) is) ∙ whole in
    let none = λ (p : Decoded) (is : decoded bs ≡ p). sym (ap (λ (q : Decoded). is_none q.char) is) ∙ both.0 in
    by-shape (length bs) b c d e
    (λ h. let s = sized _ h.1 in omega arith)
    (λ h. let s = none _ h.2 in absurd (false≢true s))
    (λ h. let s = sized _ h.3 in omega arith)
    (λ h. let s = sized _ h.2 in omega arith)
    (λ h. let s = sized _ h.4 in omega arith)
    (λ h. let s = sized _ h.4 in omega arith)
    (λ h. let s = none _ h.4 in absurd (false≢true s))
    (λ h. let s = sized _ h.5 in omega arith)
    (λ h. let s = sized _ h.5 in omega arith)
    (λ h. let s = none _ h.5 in absurd (false≢true s))
    (λ h. let s = sized _ h.6 in omega arith)
    (λ h. let s = sized _ h.6 in omega arith)
    (λ h. let s = none _ h.6 in absurd (false≢true s))

-- ---- the first piece, and those of what is left

shown_from-nil : (n : ℕ) (f : Form) → shown_from n f [] ≡ []
unfolding shown_from
shown_from-nil zero f = refl
shown_from-nil (suc n) f = refl

pub shown-nil : (f : Form) → shown f [] ≡ []
shown-nil f = shown_from-nil 0 f

shown_from-same : (n m : ℕ) (f : Form) (bs : List ℕ) → length bs ≤ n → length bs ≤ m → shown_from n f bs ≡ shown_from m f bs
unfolding shown_from
shown_from-same zero m f [] a b = sym (shown_from-nil m f)
shown_from-same zero m f (x ∷ xs) a b = absurd (omega arith)
shown_from-same (suc n) zero f [] a b = shown_from-nil (suc n) f
shown_from-same (suc n) zero f (x ∷ xs) a b = absurd (omega arith)
shown_from-same (suc n) (suc m) f [] a b = refl
shown_from-same (suc n) (suc m) f (x ∷ xs) a b =
    let s = (decoded (x ∷ xs)).size in
    let bounds = piece-bounds (x ∷ xs) (omega arith) in
    let left = length-drop s (x ∷ xs) in
    ap (λ l. first_text f (x ∷ xs) ++ l) (shown_from-same n m f (drop s (x ∷ xs)) (omega arith) (omega arith))

pub shown-step : (f : Form) (bs : List ℕ) → 0 < length bs → shown f bs ≡ first_text f bs ++ shown f (drop (decoded bs).size bs)
unfolding shown_from
shown-step f [] pos = absurd (omega arith)
shown-step f (x ∷ xs) pos =
    let s = (decoded (x ∷ xs)).size in
    let bounds = piece-bounds (x ∷ xs) pos in
    let left = length-drop s (x ∷ xs) in
    ap (λ l. first_text f (x ∷ xs) ++ l) (shown_from-same (length xs) (length (drop s (x ∷ xs))) f (drop s (x ∷ xs)) (omega arith) (omega arith))

-- ---- harmless

first_is_harmless : (f : Form) (bs : List ℕ) → IsHarmless (first_text f bs)
first_is_harmless f bs = piece_is_harmless f (decoded bs).char (take (decoded bs).size bs) (λ x is. (SpellsChar-decoded bs x is).scalar)

harmless_from : (n : ℕ) (f : Form) (bs : List ℕ) → IsHarmless (shown_from n f bs)
unfolding shown_from
harmless_from zero f bs = nothing_is_harmless
harmless_from (suc n) f [] = nothing_is_harmless
harmless_from (suc n) f (x ∷ xs) =
    harmless-append (first_text f (x ∷ xs)) (shown_from n f (drop (decoded (x ∷ xs)).size (x ∷ xs))) (first_is_harmless f (x ∷ xs))
    (harmless_from n f (drop (decoded (x ∷ xs)).size (x ∷ xs)))

pub shown_is_harmless : (f : Form) (bs : List ℕ) → IsHarmless (shown f bs)
shown_is_harmless f bs = harmless_from (length bs) f bs

-- ---- a whole piece goes

pub goes_turned : (f : Form) (held : List ℕ) → is_open held ≡ false → Goes f held (drop (decoded held).size held) (first_text f held)
goes_turned f held closed = record { follows = follows; harmless = first_is_harmless f held } where
  s : ℕ
  s = (decoded held).size

  follows : (more : List ℕ) → shown f (held ++ more) ≡ first_text f held ++ shown f (drop (decoded held).size held ++ more)
  follows more =
      let bs = held ++ more in
      let same : decoded bs ≡ decoded held = decoded-more held more closed in
      let fits : (decoded held).size ≤ length held = size-within held in
      let some : 0 < length bs = omega (arith, closed_is_some held closed, length-append held more) in
      let taken : take (decoded held).size bs ≡ take (decoded held).size held = take-append-le (decoded held).size held more fits in
      let dropped : drop (decoded held).size bs ≡ drop (decoded held).size held ++ more = drop-append-le (decoded held).size held more fits in
      shown-step f bs some
      ∙ ap (λ (p : Decoded). piece_text f p.char (take p.size bs) ++ shown f (drop p.size bs)) same
      ∙ ap (λ t. piece_text f (decoded held).char t ++ shown f (drop (decoded held).size bs)) taken
      ∙ ap (λ t. first_text f held ++ shown f t) dropped

-- ---- what is no character at the end

pub open_shown : (f : Form) (held : List ℕ) → is_open held ≡ true → shown f held ≡ flat_map (octet_text f) held
open_shown f [] is = shown-nil f
open_shown f (x ∷ xs) is =
    let l = x ∷ xs in
    let both = and_parts (is_none (decoded l).char) ((decoded l).size == length l) is in
    let whole : (decoded l).size ≡ length l = eqb-true _ _ both.1 in
    shown-step f l (omega arith)
    ∙ ap (λ k. piece_text f (decoded l).char (take k l) ++ shown f (drop k l)) whole
    ∙ ap (λ t. piece_text f (decoded l).char t ++ shown f (drop (length l) l)) (take_all (length l) l (omega arith))
    ∙ ap (λ t. piece_text f (decoded l).char l ++ shown f t) (drop-length l)
    ∙ ap (λ t. piece_text f (decoded l).char l ++ t) (shown-nil f)
    ∙ append-nil (piece_text f (decoded l).char l)
    ∙ no_char (decoded l).char l both.0 where
      no_char : (c : Option ℕ) (octets : List ℕ) → is_none c ≡ true → piece_text f c octets ≡ flat_map (octet_text f) octets
      no_char None octets none = refl
      no_char (Some c) octets none = absurd (false≢true none)

-- ---- plain and harmless texts stay as they are

char_stays : (f : Form) (c : ℕ) → is_harmful c ≡ false → char_text f c ≡ encode_utf8 c
char_stays f c is = ap (λ b. if b then escaped f c else encode_utf8 c) is

first_stays : (f : Form) (c : ℕ) (bs rest : List ℕ) → decoded bs ≡ good c (length (encode_utf8 c)) → bs ≡ encode_utf8 c ++ rest → 0 < length bs
    → is_harmful c ≡ false → shown f bs ≡ encode_utf8 c ++ shown f rest
first_stays f c bs rest is spelled some fine =
    let n = length (encode_utf8 c) in
    let left : drop n bs ≡ rest = ap (λ t. drop n t) spelled ∙ drop-append_seam (encode_utf8 c) rest in
    shown-step f bs some
    ∙ ap (λ (p : Decoded). piece_text f p.char (take p.size bs) ++ shown f (drop p.size bs)) is
    ∙ ap (λ t. t ++ shown f (drop n bs)) (char_stays f c fine)
    ∙ ap (λ t. encode_utf8 c ++ shown f t) left

encode_some : (c : ℕ) → 0 < length (encode_utf8 c)
unfolding encode_utf8
encode_some c = grind (arith, nat_tests)

not_false : (b : Bool) → not b ≡ true → b ≡ false
not_false true is = cc
not_false false is = refl

all_stay : (f : Form) (cs more : List ℕ) → scalars cs ≡ true → list_all (λ c. not (is_harmful c)) cs ≡ true
    → shown f (encode_utf8_all cs ++ more) ≡ encode_utf8_all cs ++ shown f more
all_stay f [] more are fine = refl
all_stay f (c ∷ cs) more are fine =
    let first = and_parts (scalar c) (scalars cs) are in
    let good = and_parts (not (is_harmful c)) (list_all (λ x. not (is_harmful x)) cs) fine in
    let e = encode_utf8 c in let es = encode_utf8_all cs in
    let joined : (e ++ es) ++ more ≡ e ++ (es ++ more) = append_assoc e es more in
    let some : 0 < length (e ++ (es ++ more)) = omega (arith, encode_some c, length-append e (es ++ more)) in
    ap (λ t. shown f t) joined
    ∙ first_stays f c (e ++ (es ++ more)) (es ++ more) (decoded-encode c (es ++ more) first.0) refl some (not_false (is_harmful c) good.0)
    ∙ ap (λ t. e ++ t) (all_stay f cs more first.1 good.1)
    ∙ sym (append_assoc e es (shown f more))

-- whatever follows
pub harmless_stays : (f : Form) (text more : List ℕ) → IsHarmless text → shown f (text ++ more) ≡ text ++ shown f more
harmless_stays f text more is =
    ap (λ t. shown f (t ++ more)) is.is ∙ all_stay f is.characters more is.scalar is.harmless ∙ ap (λ t. t ++ shown f more) (sym is.is)

pub harmless_unchanged : (f : Form) (text : List ℕ) → IsHarmless text → shown f text ≡ text
harmless_unchanged f text is =
    ap (λ t. shown f t) (sym (append-nil text)) ∙ harmless_stays f text [] is ∙ ap (λ t. text ++ t) (shown-nil f) ∙ append-nil text

pub plain_unchanged : (f : Form) (text : List ℕ) → list_all is_plain text ≡ true → shown f text ≡ text
plain_unchanged f text is = harmless_unchanged f text (plain_text_is_harmless text is)
