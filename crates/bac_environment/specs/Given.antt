-- What the words of a command line give, as they were read.
use Rattle.std.specs.Prelude.{◌≡◌, ℕ, ◌<◌, ◌^◌, Bool, true, false, List, codes, decimal, Option, Some, None}
use Rattle.clap.specs.Words.{first_value, found_of, one_text}
use Rattle.clap.specs.declared.parser.matches.ArgMatches.{ArgMatches}

-- the text behind a word, where it was given; of a flag `true` or `false`
abbrev pub text_of : ArgMatches → (name : List ℕ) → Option (List ℕ)
text_of given name = one_text (found_of given) name

pub record IsFlag (given : ArgMatches) (name : List ℕ) (is : Bool) : Type 0 where
  pub on : text_of given name ≡ Some (codes "true") → is ≡ true
  pub off : text_of given name ≡ Some (codes "false") → is ≡ false
  pub none : text_of given name ≡ None → is ≡ false

pub record IsNumber (given : ArgMatches) (name : List ℕ) (is : Option ℕ) : Type 0 where
  pub some : (n : ℕ) → n < 2 ^ 64 → text_of given name ≡ Some (decimal n) → is ≡ Some n
  pub none : text_of given name ≡ None → is ≡ None

-- the first text behind a word that is read here, and not by clap
abbrev pub words_text : ArgMatches → (name : List ℕ) → Option (List ℕ)
words_text given name = first_value (found_of given) name
