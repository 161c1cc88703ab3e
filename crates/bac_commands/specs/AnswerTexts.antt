-- What `bac answer` prints, and what its status says.
use Rattle.std.specs.Prelude.{ℕ, List, [], ◌∷◌, ◌++◌, codes, Option, MatchResult}
use Rattle.std.specs.Io.KnownBytes.{Appends, Keeps}
use Rattle.hex.specs.Hex.{decode_of, encode_upper}
use Rattle.bac_transaction.specs.Sends.{Datagram}
use Rattle.bac_store.specs.House.{house}
use Rattle.bac_store.specs.Stores.{Store}
use Rattle.bac_text.specs.Texts.{line_end}
use Rattle.bac_text.specs.declared.status.Status.{Status}
use Rattle.bac_commands.specs.Answers.{AreAnswersOf}
use Rattle.bac_commands.specs.Statuses.{ByStatus}

-- a datagram in hexadecimal, in capitals, as a line
abbrev pub line_of : Datagram → List ℕ
line_of d = encode_upper d.octets ++ line_end

abbrev pub lines_of : List Datagram → List ℕ
lines_of [] = []
lines_of (d ∷ ds) = line_of d ++ lines_of ds

-- one line for each, or the word `none`
abbrev pub sent_text : List Datagram → List ℕ
sent_text [] = codes "none" ++ line_end
sent_text (d ∷ ds) = lines_of (d ∷ ds)

-- the answers of a node with a store to a datagram were printed
pub record ArePrintedOf (store : Store) (octets : List ℕ) (old new : Option (List ℕ)) : Type 0 where
  pub sent : List Datagram
  pub answers : AreAnswersOf store octets sent
  pub printed : Appends old new (sent_text sent)

-- the same of a datagram given in hexadecimal; of text that is no hexadecimal nothing is printed
abbrev pub IsAnsweredBy : Store → List ℕ → Option (List ℕ) → Option (List ℕ) → Status → Type 0
IsAnsweredBy store text old new s =
    ByStatus s (MatchResult (decode_of text) (λ octets. ArePrintedOf store octets old new) (λ e. ⊥)) ⊥
    (MatchResult (decode_of text) (λ octets. ⊥) (λ e. Keeps old new))

-- the same of the house store
abbrev pub IsAnswered : List ℕ → Option (List ℕ) → Option (List ℕ) → Status → Type 0
IsAnswered text old new s = IsAnsweredBy house text old new s
