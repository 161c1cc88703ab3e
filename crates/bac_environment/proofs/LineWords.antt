-- The first word of a line, in each of its forms.
use Rattle.std.proofs.Common.{◌≡◌, ℕ, suc, ◌+◌, ◌<◌, nat_lt, Bool, true, false, not, cond, List, [], ◌∷◌, ◌++◌, length, Option, Some, None, take, drop}
use Rattle.std.proofs.Common.{rules, refl, sym, ap, ◌∙◌, arith, if◌then◌else◌, append_assoc, append-nil}
use Rattle.std.proofs.lemmas.Bool.Decides.{nat_tests}
use Rattle.std.proofs.lemmas.List.Sums.{prefix_len-le-length}
use Rattle.std.specs.List.{position, position_or_len}
use Rattle.bac_environment.specs.LineWords.{after_words, begins_note, is_blank, is_quote, words_from, words_of, with_word}
use Rattle.bac_environment.specs.LineWords.Place.{Between, Within, Quoted, Closed}

-- the first octet that passes a test, or none
record IsFound (test : ℕ → Bool) (text : List ℕ) (end : ℕ) : Type 0 where
  within : end < length text
  first : position_or_len test text ≡ end

found_at : (test : ℕ → Bool) (text : List ℕ) (end : ℕ) → position test text ≡ Some end → IsFound test text end
found_at test text end some = go (nat_lt (position_or_len test text) (length text)) refl some
  where
    go : (b : Bool) → nat_lt (position_or_len test text) (length text) ≡ b → cond b (Some (position_or_len test text)) None ≡ Some end → IsFound test text end
    go true is some =
        let same : position_or_len test text ≡ end = search (some) in
        let within : position_or_len test text < length text = grind (arith, nat_tests, is) in
        record { within = rw (← same) within; first = same }
    go false is some = absurd (search (rules, some))

all_fail : (test : ℕ → Bool) (text : List ℕ) → position test text ≡ None → length text ≡ position_or_len test text
all_fail test text none = go (nat_lt (position_or_len test text) (length text)) refl none
  where
    go : (b : Bool) → nat_lt (position_or_len test text) (length text) ≡ b → cond b (Some (position_or_len test text)) None ≡ None
        → length text ≡ position_or_len test text
    go false is none = grind (arith, nat_tests, is, prefix_len-le-length (λ x. not (test x)) text)
    go true is none = absurd (search (rules, none))

-- a word that has begun goes to the end of the line
within_to_end : (word text : List ℕ) → length text ≡ position_or_len is_blank text → words_from (Within word) text ≡ Some ((word ++ text) ∷ [])
within_to_end word [] all = ap (λ w. Some (w ∷ [])) (sym (append-nil word))
within_to_end word (octet ∷ text) all = go (within_to_end (word ++ octet ∷ []) text) (is_blank octet) all
  where
    go : (length text ≡ position_or_len is_blank text → words_from (Within (word ++ octet ∷ [])) text ≡ Some (((word ++ octet ∷ []) ++ text) ∷ []))
        → (b : Bool) → suc (length text) ≡ cond (not b) (1 + position_or_len is_blank text) 0
        → (if b then with_word word (words_from Between text) else words_from (Within (word ++ octet ∷ [])) text) ≡ Some ((word ++ octet ∷ text) ∷ [])
    go again true all = absurd (search (arith, all))
    go again false all = again (search (arith, all)) ∙ ap (λ w. Some (w ∷ [])) (append_assoc word (octet ∷ []) text)

-- or to the first blank
within_to_blank : (word text : List ℕ) → position_or_len is_blank text < length text → words_from (Within word) text
    ≡ with_word (word ++ take (position_or_len is_blank text) text) (words_of (drop (position_or_len is_blank text + 1) text))
within_to_blank word [] within = absurd (search (arith, within))
within_to_blank word (octet ∷ text) within = go (within_to_blank (word ++ octet ∷ []) text) (is_blank octet) within
  where
    go : (position_or_len is_blank text < length text → words_from (Within (word ++ octet ∷ [])) text
        ≡ with_word ((word ++ octet ∷ []) ++ take (position_or_len is_blank text) text) (words_of (drop (position_or_len is_blank text + 1) text)))
        → (b : Bool) → cond (not b) (1 + position_or_len is_blank text) 0 < suc (length text)
        → (if b then with_word word (words_from Between text) else words_from (Within (word ++ octet ∷ [])) text)
        ≡ with_word (word ++ take (cond (not b) (1 + position_or_len is_blank text) 0) (octet ∷ text))
        (words_of (drop (cond (not b) (1 + position_or_len is_blank text) 0 + 1) (octet ∷ text)))
    go again true within = ap (λ w. with_word w (words_from Between text)) (sym (append-nil word))
    go again false within =
        let n = position_or_len is_blank text in
        let one : 1 + n ≡ suc n = search arith in
        let two : suc n + 1 ≡ suc (n + 1) = search arith in
        rw (one, two) (again (search (arith, within))
        ∙ ap (λ w. with_word w (words_of (drop (n + 1) text))) (append_assoc word (octet ∷ []) (take n text)))

-- a text in quotes goes to the next quote
quoted_to_end : (word text : List ℕ) → length text ≡ position_or_len is_quote text → words_from (Quoted word) text ≡ None
quoted_to_end word [] all = refl
quoted_to_end word (octet ∷ text) all = go (quoted_to_end (word ++ octet ∷ []) text) (is_quote octet) all
  where
    go : (length text ≡ position_or_len is_quote text → words_from (Quoted (word ++ octet ∷ [])) text ≡ None) → (b : Bool) → suc (length text) ≡ cond (not b) (1 + position_or_len is_quote text) 0
        → (if b then words_from (Closed word) text else words_from (Quoted (word ++ octet ∷ [])) text) ≡ None
    go again true all = absurd (search (arith, all))
    go again false all = again (search (arith, all))

quoted_to_quote : (word text : List ℕ) → position_or_len is_quote text < length text → words_from (Quoted word) text
    ≡ words_from (Closed (word ++ take (position_or_len is_quote text) text)) (drop (position_or_len is_quote text + 1) text)
quoted_to_quote word [] within = absurd (search (arith, within))
quoted_to_quote word (octet ∷ text) within = go (quoted_to_quote (word ++ octet ∷ []) text) (is_quote octet) within
  where
    go : (position_or_len is_quote text < length text → words_from (Quoted (word ++ octet ∷ [])) text
        ≡ words_from (Closed ((word ++ octet ∷ []) ++ take (position_or_len is_quote text) text)) (drop (position_or_len is_quote text + 1) text))
        → (b : Bool) → cond (not b) (1 + position_or_len is_quote text) 0 < suc (length text)
        → (if b then words_from (Closed word) text else words_from (Quoted (word ++ octet ∷ [])) text)
        ≡ words_from (Closed (word ++ take (cond (not b) (1 + position_or_len is_quote text) 0) (octet ∷ text)))
        (drop (cond (not b) (1 + position_or_len is_quote text) 0 + 1) (octet ∷ text))
    go again true within = ap (λ w. words_from (Closed w) text) (sym (append-nil word))
    go again false within =
        let n = position_or_len is_quote text in
        let one : 1 + n ≡ suc n = search arith in
        let two : suc n + 1 ≡ suc (n + 1) = search arith in
        rw (one, two) (again (search (arith, within))
        ∙ ap (λ w. words_from (Closed w) (drop (n + 1) text)) (append_assoc word (octet ∷ []) (take n text)))

-- What a search finds.

-- no blank follows the octets of a word
pub to_the_end : (octet : ℕ) (text : List ℕ) → position is_blank text ≡ None → words_from (Within (octet ∷ [])) text ≡ Some ((octet ∷ text) ∷ [])
to_the_end octet text none = within_to_end (octet ∷ []) text (all_fail is_blank text none)

pub to_a_blank : (octet : ℕ) (text : List ℕ) (end : ℕ) → position is_blank text ≡ Some end
    → (end < length text) × (words_from (Within (octet ∷ [])) text ≡ with_word (octet ∷ take end text) (words_of (drop (end + 1) text)))
to_a_blank octet text end some =
    let f = found_at is_blank text end some in
    (f.within, rw (← f.first) (within_to_blank (octet ∷ []) text (rw f.first f.within)))

pub without_quote : (text : List ℕ) → position is_quote text ≡ None → words_from (Quoted []) text ≡ None
without_quote text none = quoted_to_end [] text (all_fail is_quote text none)

pub to_a_quote : (text : List ℕ) (end : ℕ) → position is_quote text ≡ Some end
    → (end < length text) × (words_from (Quoted []) text ≡ words_from (Closed (take end text)) (drop (end + 1) text))
to_a_quote text end some =
    let f = found_at is_quote text end some in
    (f.within, rw (← f.first) (quoted_to_quote [] text (rw f.first f.within)))

-- a word that begins with no blank, note or quote
pub begins_plain : (octet : ℕ) (text : List ℕ) → is_blank octet ≡ false → begins_note octet ≡ false → is_quote octet ≡ false
    → words_of (octet ∷ text) ≡ words_from (Within (octet ∷ [])) text
begins_plain octet text blank note quote = go (is_blank octet) (begins_note octet) (is_quote octet) blank note quote
  where
    go : (a b c : Bool) → a ≡ false → b ≡ false → c ≡ false
        → (if a then words_from Between text else (if b then Some [] else (if c then words_from (Quoted []) text else words_from (Within (octet ∷ [])) text)))
        ≡ words_from (Within (octet ∷ [])) text
    go false false false x y z = refl
    go true b c x y z = absurd cc
    go false true c x y z = absurd cc
    go false false true x y z = absurd cc

-- A word behind those that were read.

pub one_more_word : (words : List (List ℕ)) (word : List ℕ) (line rest : List ℕ) (all : Option (List (List ℕ))) → all ≡ after_words words (words_of line)
    → words_of line ≡ with_word word (words_of rest) → all ≡ after_words (words ++ word ∷ []) (words_of rest)
one_more_word words word line rest all before first =
    before ∙ ap (after_words words) first ∙ joined (words_of rest)
  where
    joined : (more : Option (List (List ℕ))) → after_words words (with_word word more) ≡ after_words (words ++ word ∷ []) more
    joined None = refl
    joined (Some others) = ap Some (sym (append_assoc words (word ∷ []) others))
