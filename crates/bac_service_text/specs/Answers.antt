-- Replies to an ask, by numbers and in words.
use Rattle.std.specs.Prelude.{◌≡◌, ℕ, Bool, true, false, List, ◌++◌, codes, decimal, Option, Some, None}
use Rattle.bac_service.specs.Values.{Complex, Reference}
use Rattle.bac_service.specs.Replies as plain
use Rattle.bac_service_text.specs.Asked.{is_asked}
use Rattle.bac_service.specs.Values.{content_answered, property_answered}
use Rattle.bac_service_text.specs.Dispatch.{AreComplexWords, complex_text}
use Rattle.bac_service_text.specs.Reasons.{error_words, rejected_words}
use Rattle.bac_service_text.specs.References.{reference_text}

-- by numbers and octets; a Reject is no answer
abbrev pub reply_text : plain.Reply → List ℕ
reply_text plain.Reply.Simple = codes "answered written"
reply_text (plain.Reply.Complex c) = codes "answered " ++ complex_text c
reply_text (plain.Reply.Error class code) = codes "answered error " ++ decimal class ++ codes ":" ++ decimal code
reply_text (plain.Reply.Reject reason) = codes "rejected " ++ decimal reason

-- ---- in words, with the property that was asked for, where one was

-- what stands before the values of a property: of one that was not asked for, its name
abbrev pub front_by : (is_asked : Bool) → (named : Reference) → List ℕ
front_by true named = codes "answered "
front_by false named = codes "answered for " ++ (reference_text named ++ codes ", not asked: ")

abbrev pub front_of : (asked named : Option Reference) → List ℕ
front_of asked None = codes "answered "
front_of asked (Some named) = front_by (is_asked asked named) named

pub record AreComplexAnswer (asked : Option Reference) (c : Complex) (words : List ℕ) : Type 0 where
  pub text : List ℕ
  pub text_of : AreComplexWords c text
  pub is : words ≡ front_of asked (property_answered c) ++ text

abbrev pub AreAnswerWords : (asked : Option Reference) → plain.Reply → List ℕ → Type 0
AreAnswerWords asked plain.Reply.Simple words = words ≡ codes "answered written"
AreAnswerWords asked (plain.Reply.Complex c) words = AreComplexAnswer asked c words
AreAnswerWords asked (plain.Reply.Error class code) words = words ≡ codes "answered " ++ error_words class code
AreAnswerWords asked (plain.Reply.Reject reason) words = words ≡ rejected_words reason

-- where it is not known what was asked for
abbrev pub AreReplyWords : plain.Reply → List ℕ → Type 0
AreReplyWords r words = AreAnswerWords None r words

-- ---- the octets of a file that came

abbrev pub octets_of_reply : plain.Reply → Option (List ℕ)
octets_of_reply plain.Reply.Simple = None
octets_of_reply (plain.Reply.Complex c) = content_answered c
octets_of_reply (plain.Reply.Error class code) = None
octets_of_reply (plain.Reply.Reject reason) = None
