-- The words of a line of a list.
use Rattle.std.specs.Prelude.{◌≡◌, ℕ, Bool, false, ◌==◌, ◌||◌, ◌<◌, length, List, [], ◌∷◌, ◌++◌, Option, Some, None, if◌then◌else◌}
use Rattle.std.specs.Option.{option_map}
use Rattle.bac_environment.specs.declared.line_words.Begin.{Begin}

-- blank or tab
abbrev pub is_blank : ℕ → Bool
is_blank octet = (octet == 32) || (octet == 9)

-- a word that names whom a line is asked of begins with `@`
abbrev pub is_address : (word : List ℕ) → Bool
is_address [] = false
is_address (octet ∷ text) = octet == 64

abbrev pub is_quote : ℕ → Bool
is_quote octet = octet == 34

abbrev pub begins_note : ℕ → Bool
begins_note octet = octet == 35

-- where the next octet stands: between words; within one, of which so much was read; within a text in quotes; or behind its last quote
pub data Place : Type 0 where
  Between : Place
  Within : (word : List ℕ) → Place
  Quoted : (word : List ℕ) → Place
  Closed : (word : List ℕ) → Place

abbrev pub with_word : (word : List ℕ) → Option (List (List ℕ)) → Option (List (List ℕ))
with_word word words = option_map (λ more. word ∷ more) words

-- the words of a line from a place on; a note at its end is none; None where a quote is not closed, or something but a blank stands behind it
abbrev pub words_from : Place → List ℕ → Option (List (List ℕ))
words_from Between [] = Some []
words_from (Within word) [] = Some (word ∷ [])
words_from (Quoted word) [] = None
words_from (Closed word) [] = Some (word ∷ [])
words_from Between (octet ∷ text) =
    if is_blank octet then words_from Between text
    else (if begins_note octet then Some []
    else (if is_quote octet then words_from (Quoted []) text
    else words_from (Within (octet ∷ [])) text))
words_from (Within word) (octet ∷ text) =
    if is_blank octet then with_word word (words_from Between text) else words_from (Within (word ++ octet ∷ [])) text
words_from (Quoted word) (octet ∷ text) =
    if is_quote octet then words_from (Closed word) text else words_from (Quoted (word ++ octet ∷ [])) text
words_from (Closed word) (octet ∷ text) = if is_blank octet then with_word word (words_from Between text) else None

abbrev pub words_of : (line : List ℕ) → Option (List (List ℕ))
words_of line = words_from Between line

-- its first octet, if it has one, is no blank
abbrev pub BeginsNoBlank : List ℕ → Type 0
BeginsNoBlank [] = Unit {0}
BeginsNoBlank (octet ∷ text) = is_blank octet ≡ false

-- what a line begins with: no word; a word, with a shorter rest behind it; or a quote that is not closed
abbrev pub Begins : (line : List ℕ) → Begin → Type 0
Begins line Begin.End = words_of line ≡ Some []
Begins line (Begin.Word word rest) = (length rest.now < length line) × (words_of line ≡ with_word word.now (words_of rest.now))
Begins line Begin.OpenQuote = words_of line ≡ None

-- these words and those of the rest are those of the line
abbrev pub after_words : (words : List (List ℕ)) → Option (List (List ℕ)) → Option (List (List ℕ))
after_words words more = option_map (λ others. words ++ others) more
