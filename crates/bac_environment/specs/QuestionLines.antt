-- What the lines of a list ask: each names its peer, or is asked of the one that is given for all, and may have a name.
use Rattle.std.specs.Prelude.{◌≡◌, ◌⊎◌, ℕ, ◌+◌, Bool, true, false, ◌==◌, ◌&&◌, List, [], ◌∷◌, ◌++◌, if◌then◌else◌, is_some, string_bytes, IsUtf8, Option, None, Some}
use Rattle.std.specs.Bool.{MatchBool}
use Rattle.std.specs.List.{list_any}
use Rattle.std.specs.Option.{option_map}
use Rattle.bac_ask_report.specs.Records.{LineName, Unnamed, Without, Named, name_view}
use Rattle.bac_npdu.specs.Peers.{PeerView}
use Rattle.bac_service_text.specs.Dispatch.{request_of}
use Rattle.bac_text.specs.Lines.{LINE_END}
use Rattle.bac_text.specs.Notes.{read_of}
use Rattle.bac_driver.specs.Asking.{Question}
use Rattle.bac_driver.specs.Views.{question_view}
use Rattle.bac_value_text.specs.Splits.{split_by}
use Rattle.bac_commands.specs.Questions.{IsQuestion}
use Rattle.bac_environment.specs.Addresses.{IsNoPeer, IsPeer}
use Rattle.bac_environment.specs.LineNames.{has_bad_name, name_of, words_behind}
use Rattle.bac_environment.specs.LineWords.{is_address, words_of}
use Rattle.bac_environment.specs.declared.asker.Asker as code_asker
use Rattle.bac_environment.specs.declared.question_lines.LineQuestion.{LineQuestion}

abbrev pub is_octet : (wanted octet : ℕ) → Bool
is_octet wanted octet = octet == wanted

-- ---- the requests of lines

abbrev pub names_peer : (words : List (List ℕ)) → Bool
names_peer [] = false
names_peer (word ∷ words) = is_address word

-- the words of the request, behind that one
abbrev pub request_words : (words : List (List ℕ)) → List (List ℕ)
request_words [] = []
request_words (word ∷ words) = if is_address word then words else word ∷ words

-- a word as `@192.168.1.20:47809` names this peer: what stands behind its first octet is the text of it
abbrev pub NamesPeer : (word : List ℕ) → PeerView → Type 0
NamesPeer [] peer = ⊥
NamesPeer (octet ∷ text) peer = IsPeer text peer

-- what stands there is no text of a peer
abbrev pub NamesNone : (word : List ℕ) → Type 0
NamesNone [] = Unit {0}
NamesNone (octet ∷ text) = (IsUtf8 text → ⊥) ⊎ IsNoPeer text

-- a line whose first word begins with `@` is asked of the peer that this word names, any other line of the one that is given for all
abbrev pub IsAskedOf : (default : Option PeerView) → (words : List (List ℕ)) → PeerView → Type 0
IsAskedOf default [] peer = default ≡ Some peer
IsAskedOf default (word ∷ words) peer = MatchBool (is_address word) (NamesPeer word peer) (default ≡ Some peer)

-- that word names none, or there is no such word and none is given
abbrev pub HasNoPeer : (default : Option PeerView) → (words : List (List ℕ)) → Type 0
HasNoPeer default [] = default ≡ None
HasNoPeer default (word ∷ words) = MatchBool (is_address word) (NamesNone word) (default ≡ None)

-- that is what words ask
pub record AsksWords (default : Option PeerView) (words : List (List ℕ)) (q : Question) : Type 0 where
  pub peer : PeerView
  pub of : IsAskedOf default words peer
  pub is : IsQuestion peer (request_words words) q

-- there is no peer for them, or they are no request
abbrev pub AskNothing : (default : Option PeerView) → (words : List (List ℕ)) → Type 0
AskNothing default words = HasNoPeer default words ⊎ (request_of (request_words words) ≡ None)

-- a line has a quote that is not closed, a name that is none, or the words behind its name ask nothing; one without words is none of these
abbrev pub AreBadWords : (default : Option PeerView) → (words : Option (List (List ℕ))) → Type 0
AreBadWords default None = Unit {0}
AreBadWords default (Some []) = ⊥
AreBadWords default (Some (word ∷ words)) = (has_bad_name (word ∷ words) ≡ true) ⊎ AskNothing default (words_behind (word ∷ words))

abbrev pub IsBadLine : (default : Option PeerView) → (line : List ℕ) → Type 0
IsBadLine default line = AreBadWords default (words_of line)

-- what a line asks, by its number, and its name
pub record Numbered : Type 0 where
  pub number : ℕ
  pub name : Option (List ℕ)
  pub question : Question

abbrev pub name_in_line : LineQuestion → Option (List ℕ)
name_in_line l = option_map string_bytes l.name

abbrev pub line_view : LineQuestion → Numbered
line_view l = record { number = l.number; name = name_in_line l; question = question_view l.question }

-- the line of that number, with these words, asks that; its name stands before the request
pub record AsksOne (default : Option PeerView) (number : ℕ) (words : List (List ℕ)) (found : List Numbered) : Type 0 where
  pub question : Question
  pub asks : AsksWords default (words_behind words) question
  pub is : found ≡ record { number = number; name = name_of words; question = question } ∷ []

-- by its words: without any it asks nothing
abbrev pub WordsAsk : (default : Option PeerView) → (number : ℕ) → (words : Option (List (List ℕ))) → (found : List Numbered) → Type 0
WordsAsk default number None found = ⊥
WordsAsk default number (Some []) found = found ≡ []
WordsAsk default number (Some (word ∷ words)) found = AsksOne default number (word ∷ words) found

-- by what is to be read of a line: nothing of a note
abbrev pub AsksIn : (default : Option PeerView) → (number : ℕ) → (read : Option (List ℕ)) → (found : List Numbered) → Type 0
AsksIn default number None found = found ≡ []
AsksIn default number (Some line) found = WordsAsk default number (words_of line) found

-- that and what the others ask
pub record IsFirst (First Others : List Numbered → Type 0) (all : List Numbered) : Type 0 where
  pub found : List Numbered
  pub rest : List Numbered
  pub first : First found
  pub others : Others rest
  pub is : all ≡ found ++ rest

-- what lines ask, of which the first has that number
abbrev pub AreQuestions : (default : Option PeerView) → (number : ℕ) → (lines : List (List ℕ)) → List Numbered → Type 0
AreQuestions default number [] all = all ≡ []
AreQuestions default number (line ∷ lines) all = IsFirst (AsksIn default number (read_of true line)) (AreQuestions default (number + 1) lines) all

abbrev pub IsBadRead : (default : Option PeerView) → (read : Option (List ℕ)) → Type 0
IsBadRead default None = ⊥
IsBadRead default (Some line) = IsBadLine default line

-- one of them is bad
abbrev pub HaveBadLine : (default : Option PeerView) → (lines : List (List ℕ)) → Type 0
HaveBadLine default [] = ⊥
HaveBadLine default (line ∷ lines) = IsBadRead default (read_of true line) ⊎ HaveBadLine default lines

-- a text without the byte order mark that some editors put at its beginning
abbrev pub without_mark : (text : List ℕ) → List ℕ
without_mark (first ∷ second ∷ third ∷ text) =
    if (first == 239) && ((second == 187) && (third == 191)) then text else first ∷ second ∷ third ∷ text
without_mark text = text

-- the lines of a text; they are counted from 1
abbrev pub lines_in : (text : List ℕ) → List (List ℕ)
lines_in text = split_by (is_octet LINE_END) (without_mark text)

-- what a line asks was added
pub record AddsLine (default : Option PeerView) (number : ℕ) (line : List ℕ) (old new : List Numbered) : Type 0 where
  pub found : List Numbered
  pub asked : AsksIn default number (read_of true line) found
  pub is : new ≡ old ++ found

-- ---- who asks

-- the line that asks, if one does: its number, and its name
pub record Asker : Type 0 where
  pub line : Option ℕ
  pub name : LineName

abbrev pub asker_view : code_asker.Asker → Asker
asker_view a = record { line = a.line; name = name_view a.name }

abbrev pub no_line : Asker
no_line = record { line = None; name = Unnamed }

-- what a record says of the name of a line, of a list in which lines have names or not
abbrev pub naming : (has_names : Bool) → (name : Option (List ℕ)) → LineName
naming has_names (Some name) = Named name
naming has_names None = if has_names then Without else Unnamed

abbrev pub asker_of : (has_names : Bool) → LineQuestion → Asker
asker_of has_names l = record { line = Some l.number; name = naming has_names (name_in_line l) }

abbrev pub is_named : LineQuestion → Bool
is_named l = is_some l.name

-- a line of a list has a name
abbrev pub have_names : List LineQuestion → Bool
have_names lines = list_any is_named lines
