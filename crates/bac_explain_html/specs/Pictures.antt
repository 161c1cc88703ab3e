-- The picture of a transaction: an arrow for each of its frames.
use Rattle.std.specs.Prelude.{◌≡◌, ℕ, ◌-◌, Bool, true, false, not, List, [], ◌∷◌, ◌++◌, codes, decimal, Option, Some, None, if◌then◌else◌}
use Rattle.bac_explain.specs.Keys.{Key}
use Rattle.bac_explain.specs.Texts.{finding_text}
use Rattle.bac_explain.specs.declared.finding.Finding.{Finding}
use Rattle.bac_explain.specs.declared.part.Role.{Role}
use Rattle.bac_explain.specs.declared.part.Role.TheVariants.{Request, Answer, Acknowledgement, GivesUp}
use Rattle.bac_explain.specs.declared.part.Taken.{Taken}
use Rattle.bac_explain.specs.declared.step.Step.{Step}
use Rattle.bac_moment.specs.Times.{IsTextOf}
use Rattle.bac_text.specs.Peers.{peer_text}
use Rattle.bac_explain_html.specs.declared.picture.TheConstants.{TO_CLIENT, TO_SERVER}

-- the client sends requests, SegmentACKs for the reply, and Aborts
abbrev pub is_by_client : Role → Bool
is_by_client (Request number) = true
is_by_client (Answer number) = false
is_by_client (Acknowledgement taken) = not taken.of_request
is_by_client GivesUp = true

abbrev pub arrow_front : Role → List ℕ
arrow_front role = if is_by_client role then TO_SERVER.now else TO_CLIENT.now

-- a name, with the number of a segment if there is one
abbrev pub numbered : (name : List ℕ) → Option ℕ → List ℕ
numbered name None = name
numbered name (Some number) = name ++ (codes " segment " ++ decimal number)

abbrev pub acknowledgement_words : Taken → List ℕ
acknowledgement_words taken = if taken.nak then codes "negative segment-ack " ++ decimal taken.number else codes "segment-ack " ++ decimal taken.number

abbrev pub role_words : Role → List ℕ
role_words (Request number) = numbered (codes "request") number
role_words (Answer number) = numbered (codes "answer") number
role_words (Acknowledgement taken) = acknowledgement_words taken
role_words GivesUp = codes "abort of the client"

-- what is wrong with a frame
abbrev pub mark : Option Finding → List ℕ
mark None = []
mark (Some finding) = codes "<div class=\"m\">" ++ (finding_text finding ++ codes "</div>")

-- the arrow of a frame, with its moment after the request, its number, and what its APDU is
abbrev pub arrow : (asked : ℕ) → Step → List ℕ
arrow asked s =
    arrow_front s.role ++ (codes "+" ++ (decimal (s.moment - asked) ++ (codes " ms, frame " ++ (decimal s.frame ++ (codes ": " ++ (role_words s.role
    ++ (codes "</text></svg>" ++ (mark s.finding ++ codes "\n"))))))))

-- of each of the frames, from the first on
abbrev pub arrows : (asked : ℕ) → List Step → List ℕ
arrows asked [] = []
arrows asked (s ∷ steps) = arrow asked s ++ arrows asked steps

-- the client and the server
abbrev pub heading : Key → List ℕ
heading k =
    codes "<svg viewBox=\"0 0 640 26\"><text class=\"s\" x=\"4\" y=\"18\">" ++ (peer_text k.client
    ++ (codes "</text><text class=\"e\" x=\"636\" y=\"18\">" ++ (peer_text k.server ++ codes "</text></svg>\n")))

-- when the request was first seen, as RFC 3339 says it; in milliseconds beyond the year 9999
abbrev pub asked_in : (asked : ℕ) → Option (List ℕ) → List ℕ
asked_in asked None = decimal asked ++ codes " ms"
asked_in asked (Some time) = time

pub record IsAskedText (asked : ℕ) (text : List ℕ) : Type 0 where
  pub time : Option (List ℕ)
  pub time_of : IsTextOf (Some asked) time
  pub is : text ≡ asked_in asked time

pub record IsPicture (k : Key) (asked : ℕ) (steps : List Step) (text : List ℕ) : Type 0 where
  pub when : List ℕ
  pub is_when : IsAskedText asked when
  pub is : text ≡ ((codes "<details><summary>asked " ++ (when ++ (codes "</summary>\n" ++ heading k))) ++ arrows asked steps) ++ codes "</details>"
