-- The requests of lines, one line after the other.
use Rattle.std.proofs.Common.{◌≡◌, ◌⊎◌, ℕ, ◌+◌, ◌<◌, length, arith, Bool, true, false, List, [], ◌∷◌, ◌++◌, map, Option, Some, None, Result, Ok, Err, refl, sym, ap, subst, ◌∙◌, append_assoc, append-nil, inl, inr}
use Rattle.std.proofs.lemmas.List.{map-append}
use Rattle.bac_environment.specs.declared.question_lines.LineQuestion as code
use Rattle.std.specs.Bool.{MatchBool}
use Rattle.std.specs.Option.{option_map}
use Rattle.std.specs.Prelude.{IfSome, IsUtf8, MatchOption}
use Rattle.bac_npdu.specs.Peers.{PeerView}
use Rattle.bac_npdu.specs.Views.{peer_view}
use Rattle.bac_npdu.specs.declared.peer.Peer.{Peer}
use Rattle.bac_text.specs.Notes.{read_of}
use Rattle.bac_environment.specs.Addresses.{IsNoPeer, IsPeer}
use Rattle.bac_environment.specs.QuestionLines.{AddsLine, AreQuestions, AskNothing, AsksIn, AsksOne, HasNoPeer, HaveBadLine, IsAskedOf, IsBadRead, NamesNone, NamesPeer, Numbered, WordsAsk, AreBadWords, line_view}
use Rattle.bac_environment.specs.LineNames.{has_bad_name, words_behind}
use Rattle.bac_environment.specs.LineWords.{is_address, words_of}

-- what the lines from here on ask, behind those so far, is what all lines ask
pub one_more_read : (default : Option PeerView) (number : ℕ) (lines others : List (List ℕ)) (line : List ℕ) (old new more : List Numbered)
    (All : List Numbered → Type 0) → lines ≡ line ∷ others → AddsLine default number line old new
    → ((rest : List Numbered) → AreQuestions default number lines rest → All (old ++ rest)) → AreQuestions default (number + 1) others more → All (new ++ more)
one_more_read default number lines others line old new more All is adds before read =
    subst All (sym (append_assoc old adds.found more) ∙ ap (λ (l : List Numbered). l ++ more) (sym adds.is))
    (before (adds.found ++ more)
    (subst (λ (l : List (List ℕ)). AreQuestions default number l (adds.found ++ more)) (sym is)
    (record { found = adds.found; rest = more; first = adds.asked; others = read; is = refl })))

-- where the next line is bad, or one behind it, one of all is
pub bad_line_read : (default : Option PeerView) (lines others : List (List ℕ)) (line : List ℕ) (Bad : Type 0) → lines ≡ line ∷ others
    → IsBadRead default (read_of true line) → (HaveBadLine default lines → Bad) → Bad
bad_line_read default lines others line Bad is bad whole = whole (subst (λ (l : List (List ℕ)). HaveBadLine default l) (sym is) (inl bad))

pub others_bad : (default : Option PeerView) (lines others : List (List ℕ)) (line : List ℕ) (Bad : Type 0) → lines ≡ line ∷ others
    → (HaveBadLine default lines → Bad) → HaveBadLine default others → Bad
others_bad default lines others line Bad is whole bad = whole (subst (λ (l : List (List ℕ)). HaveBadLine default l) (sym is) (inr bad))

-- where no line is left, all were read
pub all_read : (default : Option PeerView) (number : ℕ) (lines : List (List ℕ)) (old : List Numbered) (All : List Numbered → Type 0) → lines ≡ []
    → ((rest : List Numbered) → AreQuestions default number lines rest → All (old ++ rest)) → All old
all_read default number lines old All none before =
    subst All (append-nil old) (before [] (subst (λ (l : List (List ℕ)). AreQuestions default number l []) (sym none) refl))

-- a note adds nothing
pub note_adds : (default : Option PeerView) (number : ℕ) (line : List ℕ) (old new : List code.LineQuestion) → read_of true line ≡ None → new ≡ old
    → AddsLine default number line (map line_view old) (map line_view new)
note_adds default number line old new none same =
    record {
      found = [];
      asked = subst (λ (r : Option (List ℕ)). AsksIn default number r []) (sym none) refl;
      is = ap (map line_view) same ∙ sym (append-nil (map line_view old));
    }

-- so does a line that has blanks and a note alone
pub blank_adds : (default : Option PeerView) (number : ℕ) (line read : List ℕ) (old new : List code.LineQuestion) → read_of true line ≡ Some read
    → words_of read ≡ Some [] → new ≡ old → AddsLine default number line (map line_view old) (map line_view new)
blank_adds default number line read old new is none same =
    record {
      found = [];
      asked =
          subst (λ (r : Option (List ℕ)). AsksIn default number r []) (sym is)
          (subst (λ (w : Option (List (List ℕ))). WordsAsk default number w []) (sym none) refl);
      is = ap (map line_view) same ∙ sym (append-nil (map line_view old));
    }

-- a request adds what it asks
pub request_adds : (default : Option PeerView) (line read : List ℕ) (words : List (List ℕ)) (old new : List code.LineQuestion) (q : code.LineQuestion)
    → read_of true line ≡ Some read → words_of read ≡ Some words → (words ≡ [] → ⊥) → AsksOne default q.number words (line_view q ∷ [])
    → new ≡ old ++ q ∷ [] → AddsLine default q.number line (map line_view old) (map line_view new)
request_adds default line read words old new q is are some asks pushed =
    record {
      found = line_view q ∷ [];
      asked =
          subst (λ (r : Option (List ℕ)). AsksIn default q.number r (line_view q ∷ [])) (sym is)
          (subst (λ (w : Option (List (List ℕ))). WordsAsk default q.number w (line_view q ∷ [])) (sym are) (go words some asks));
      is = ap (map line_view) pushed ∙ map-append line_view old (q ∷ []);
    }
  where
    go : (found : List (List ℕ)) → (found ≡ [] → ⊥) → AsksOne default q.number found (line_view q ∷ [])
        → WordsAsk default q.number (Some found) (line_view q ∷ [])
    go [] some asks = absurd (some refl)
    go (word ∷ others) some asks = asks

-- words that ask nothing behind a name are bad, where there are any
pub asking_nothing_bad : {A : Type 0} (default : Option PeerView) (f : A → List ℕ) (words : List A) → 0 < length words
    → AskNothing default (words_behind (map f words)) → AreBadWords default (Some (map f words))
asking_nothing_bad default f [] some nothing = absurd (omega arith)
asking_nothing_bad default f (word ∷ words) some nothing = inr nothing

-- so is a name that is none
pub bad_name_bad : {A : Type 0} (default : Option PeerView) (f : A → List ℕ) (words : List A) → 0 < length words → has_bad_name (map f words) ≡ true
    → AreBadWords default (Some (map f words))
bad_name_bad default f [] some bad = absurd (omega arith)
bad_name_bad default f (word ∷ words) some bad = inl bad

-- a line with bad words is bad
pub bad_words_read : (default : Option PeerView) (line read : List ℕ) (words : Option (List (List ℕ))) → read_of true line ≡ Some read
    → words_of read ≡ words → AreBadWords default words → IsBadRead default (read_of true line)
bad_words_read default line read words is are bad =
    subst (IsBadRead default) (sym is) (subst (AreBadWords default) (sym are) bad)

abbrev fault_or : {A E : Type 0} → (other : E) → Result A E → E
fault_or other (Ok x) = other
fault_or other (Err e) = e

abbrev pub err_in : (A : Type 0) {E : Type 0} → E → Result A E
err_in A e = Err e

-- the same fault, whatever else might have come
pub same_fault : {A B E : Type 0} (e f : E) → err_in A e ≡ err_in A f → err_in B e ≡ err_in B f
same_fault {A} {B} {E} e f same = ap (λ (r : Result A E). err_in B (fault_or e r)) same

-- ---- whom a line is asked of

-- behind the first octet of a word a peer was read, or none
pub peer_told : (word text read : List ℕ) (octet : ℕ) (r : Option Peer) → word ≡ octet ∷ text → read ≡ text
    → MatchOption r (IsNoPeer read) (λ p. IsPeer read (peer_view p)) → MatchOption r (NamesNone word) (λ p. NamesPeer word (peer_view p))
peer_told word text read octet None is same none =
    subst NamesNone (sym is) (inr (subst (λ (t : List ℕ). IsNoPeer t) same none))
peer_told word text read octet (Some p) is same peer =
    subst (λ (w : List ℕ). NamesPeer w (peer_view p)) (sym is) (subst (λ (t : List ℕ). IsPeer t (peer_view p)) same peer)

pub no_text_told : (word text : List ℕ) (octet : ℕ) → word ≡ octet ∷ text → (IsUtf8 text → ⊥) → NamesNone word
no_text_told word text octet is missing = subst NamesNone (sym is) (inl missing)

pub empty_told : (word : List ℕ) → length word ≡ 0 → NamesNone word
empty_told [] none = tt
empty_told (octet ∷ word) none = absurd (omega (arith, none))

-- the first word begins as one that names a peer
pub named_asked : {A : Type 0} (f : A → List ℕ) (default : Option PeerView) (words others : List A) (word : A) (r : Option Peer) → words ≡ word ∷ others
    → is_address (f word) ≡ true → MatchOption r (NamesNone (f word)) (λ p. NamesPeer (f word) (peer_view p))
    → IfSome r (λ p. IsAskedOf default (map f words) (peer_view p))
named_asked f default words others word None is holds told = tt
named_asked f default words others word (Some p) is holds told =
    subst (λ ws. IsAskedOf default (map f ws) (peer_view p)) (sym is)
    (subst (λ (b : Bool). MatchBool b (NamesPeer (f word) (peer_view p)) (default ≡ Some (peer_view p))) (sym holds) told)

pub none_named : {A : Type 0} (f : A → List ℕ) (default : Option PeerView) (words others : List A) (word : A) (r : Option Peer) → words ≡ word ∷ others
    → is_address (f word) ≡ true → MatchOption r (NamesNone (f word)) (λ p. NamesPeer (f word) (peer_view p)) → r ≡ None → HasNoPeer default (map f words)
none_named f default words others word None is holds told missing =
    subst (λ ws. HasNoPeer default (map f ws)) (sym is)
    (subst (λ (b : Bool). MatchBool b (NamesNone (f word)) (default ≡ None)) (sym holds) told)
none_named f default words others word (Some p) is holds told missing = absurd cc

-- it names none, so the line is asked of the one that is given for all
pub default_asked : {A : Type 0} (f : A → List ℕ) (default : Option Peer) (words others : List A) (word : A) → words ≡ word ∷ others
    → is_address (f word) ≡ false → IfSome default (λ p. IsAskedOf (option_map peer_view default) (map f words) (peer_view p))
default_asked f None words others word is missing = tt
default_asked f (Some p) words others word is missing =
    subst (λ ws. IsAskedOf (Some (peer_view p)) (map f ws) (peer_view p)) (sym is)
    (subst (λ (b : Bool). MatchBool b (NamesPeer (f word) (peer_view p)) (Some (peer_view p) ≡ Some (peer_view p))) (sym missing) refl)

pub no_default : {A : Type 0} (f : A → List ℕ) (default : Option Peer) (words others : List A) (word : A) → words ≡ word ∷ others
    → is_address (f word) ≡ false → default ≡ None → HasNoPeer (option_map peer_view default) (map f words)
no_default f default words others word is missing none =
    subst (λ ws. HasNoPeer (option_map peer_view default) (map f ws)) (sym is)
    (subst (λ (b : Bool). MatchBool b (NamesNone (f word)) (option_map peer_view default ≡ None)) (sym missing) (ap (option_map peer_view) none))

-- so is one without words
pub no_words_asked : {A : Type 0} (f : A → List ℕ) (default : Option Peer) (words : List A) → length words ≡ 0
    → IfSome default (λ p. IsAskedOf (option_map peer_view default) (map f words) (peer_view p))
no_words_asked f None words empty = tt
no_words_asked f (Some p) [] empty = refl
no_words_asked f (Some p) (word ∷ words) empty = absurd (omega (arith, empty))

pub no_words_no_default : {A : Type 0} (f : A → List ℕ) (default : Option Peer) (words : List A) → length words ≡ 0 → default ≡ None
    → HasNoPeer (option_map peer_view default) (map f words)
no_words_no_default f default [] empty none = ap (option_map peer_view) none
no_words_no_default f default (word ∷ words) empty none = absurd (omega (arith, empty))
