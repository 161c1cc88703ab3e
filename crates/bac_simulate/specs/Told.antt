-- What is printed of what comes of a script's lines, in words or as objects of JSON.
use Rattle.std.specs.Prelude.{◌≡◌, ℕ, ◌+◌, Bool, true, false, List, [], ◌∷◌, ◌++◌, length, drop, reverse, Option, Some, None}
use Rattle.bac_commands.specs.FaultWords.{ask_fault_words}
use Rattle.bac_log_json.specs.Events as object
use Rattle.bac_network.specs.Histories.{WorldView}
use Rattle.bac_requester.specs.Faults.{ask_fault_number}
use Rattle.bac_requester.specs.declared.ask_fault.AskFault.{AskFault}
use Rattle.bac_store.specs.AtNode.{change_fault_number}
use Rattle.bac_store.specs.declared.change_fault.ChangeFault.{ChangeFault}
use Rattle.bac_world.specs.Once.{Fact}
use Rattle.bac_world.specs.World.{Copy, Note}
use Rattle.bac_simulate.specs.FaultWords.{change_fault_words, fault_words, fault_words_line}
use Rattle.bac_simulate.specs.Happenings.{Happening}
use Rattle.bac_simulate.specs.Moments.{ms_now}
use Rattle.bac_simulate.specs.Objects.{IsEndObject, IsFactObject, IsObject, pace_of, sent_kind}
use Rattle.bac_simulate.specs.Printed.{is_as_before}
use Rattle.bac_simulate.specs.Runs.{Printing}
use Rattle.bac_simulate.specs.Worded.{IsEventLine, IsFactLine, lose_text, news_line, pace_line_text, refused_news, sent_words, why_nothing, why_words}
use Rattle.bac_simulate.specs.declared.event_style.EventStyle.{EventStyle}
use Rattle.bac_simulate.specs.declared.event_style.EventStyle.TheVariants as style
use Rattle.bac_simulate.specs.declared.nothing.Why.{Why}

-- ---- single lines

-- an event at a moment; an object has its moment itself
abbrev pub IsHeadText : EventStyle → (now : ℕ) → Happening → List ℕ → Type 0
IsHeadText style.Words now event text = IsEventLine now event text
IsHeadText style.Objects now event text = text ≡ []

-- a fact, where these notes are of the accepted asks, oldest first
abbrev pub IsFactText : EventStyle → List Note → (moment : ℕ) → Fact → List ℕ → Type 0
IsFactText style.Words notes moment f text = IsFactLine f text
IsFactText style.Objects notes moment f text = IsFactObject notes moment f text

-- a copy that was sent
abbrev pub IsSentText : EventStyle → (moment number : ℕ) → Copy → List ℕ → Type 0
IsSentText style.Words moment number c text = text ≡ news_line (sent_words number c)
IsSentText style.Objects moment number c text = IsObject moment (sent_kind number c) text

-- nothing is new
abbrev pub IsNothingText : EventStyle → (moment : ℕ) → Why → List ℕ → Type 0
IsNothingText style.Words moment reason text = text ≡ news_line (why_words reason)
IsNothingText style.Objects moment reason text = IsObject moment (object.Nothing (why_words reason)) text

-- an ask or a change was refused
abbrev pub IsRefusalText : EventStyle → (moment fault : ℕ) → (why : List ℕ) → List ℕ → Type 0
IsRefusalText style.Words moment fault why text = text ≡ refused_news fault why
IsRefusalText style.Objects moment fault why text = IsObject moment (object.Refused fault why) text

-- a copy counts as lost
abbrev pub IsLostText : EventStyle → (moment copy : ℕ) → List ℕ → Type 0
IsLostText style.Words moment copy text = text ≡ lose_text moment copy
IsLostText style.Objects moment copy text = IsObject moment (object.Lost copy) text

-- a clock goes so fast from then on
abbrev pub IsPacedText : EventStyle → (moment node rate : ℕ) → List ℕ → Type 0
IsPacedText style.Words moment node rate text = text ≡ pace_line_text moment node rate
IsPacedText style.Objects moment node rate text = IsObject moment (object.Paced node (pace_of rate)) text

-- a fault ends the script at a line
abbrev pub IsEndText : EventStyle → (line fault : ℕ) → List ℕ → Type 0
IsEndText style.Words line fault text = text ≡ fault_words_line line fault
IsEndText style.Objects line fault text = IsEndObject line fault (fault_words fault) text

-- ---- all that came of an event

-- one text after the other
pub record AreBoth (First Others : List ℕ → Type 0) (text : List ℕ) : Type 0 where
  pub first : List ℕ
  pub others : List ℕ
  pub first_is : First first
  pub others_are : Others others
  pub is : text ≡ first ++ others

abbrev pub AreFactTexts : EventStyle → List Note → (moment : ℕ) → List Fact → List ℕ → Type 0
AreFactTexts s notes moment [] text = text ≡ []
AreFactTexts s notes moment (f ∷ facts) text = AreBoth (IsFactText s notes moment f) (AreFactTexts s notes moment facts) text

-- copies that were sent, numbered from this number on
abbrev pub AreSentTexts : EventStyle → (moment number : ℕ) → List Copy → List ℕ → Type 0
AreSentTexts s moment number [] text = text ≡ []
AreSentTexts s moment number (c ∷ copies) text = AreBoth (IsSentText s moment number c) (AreSentTexts s moment (number + 1) copies) text

-- the facts after so many, oldest first, and then the copies after so many
abbrev pub AreNews : EventStyle → (facts copies : ℕ) → WorldView → List ℕ → Type 0
AreNews s facts copies w text =
    AreBoth (AreFactTexts s (reverse w.notes) (ms_now w) (drop facts (reverse w.log))) (AreSentTexts s (ms_now w) copies (drop copies w.copies)) text

abbrev pub AreNewsOrNothing : (as_before : Bool) → EventStyle → Why → (facts copies : ℕ) → WorldView → List ℕ → Type 0
AreNewsOrNothing true s reason facts copies w text = IsNothingText s (ms_now w) reason text
AreNewsOrNothing false s reason facts copies w text = AreNews s facts copies w text

-- a refused ask; or what is new in a world that had so many facts and copies, or why nothing is
abbrev pub IsOutcome : EventStyle → Option AskFault → Why → (facts copies : ℕ) → WorldView → List ℕ → Type 0
IsOutcome s (Some fault) reason facts copies w text = IsRefusalText s (ms_now w) (ask_fault_number fault) (ask_fault_words fault) text
IsOutcome s None reason facts copies w text = AreNewsOrNothing (is_as_before facts copies w) s reason facts copies w text

pub record IsEventText (s : EventStyle) (told : Option AskFault) (event : Happening) (old new : WorldView) (text : List ℕ) : Type 0 where
  pub head : List ℕ
  pub is_head : IsHeadText s (ms_now old) event head
  pub outcome : List ℕ
  pub is_outcome : IsOutcome s told (why_nothing old event) (length old.log) (length old.copies) new outcome
  pub is : text ≡ head ++ outcome

-- a change that its node's store refused
pub record IsRefusedText (s : EventStyle) (fault : ChangeFault) (event : Happening) (old : WorldView) (text : List ℕ) : Type 0 where
  pub head : List ℕ
  pub is_head : IsHeadText s (ms_now old) event head
  pub refusal : List ℕ
  pub is_refusal : IsRefusalText s (ms_now old) (change_fault_number fault) (change_fault_words fault) refusal
  pub is : text ≡ head ++ refusal

-- ---- runs

abbrev pub told_in : EventStyle → Printing ℕ
told_in s =
    record {
      went = IsEventText s;
      refused = IsRefusedText s;
      lost = λ old copy text. IsLostText s (ms_now old) copy text;
      clock = λ old node rate text. IsPacedText s (ms_now old) node rate text;
      ended = IsEndText s;
    }

-- these octets were added
abbrev pub Adds : (old new : List ℕ) → (IsText : List ℕ → Type 0) → Type 0
Adds old new IsText = (text : List ℕ) × (IsText text × (new ≡ old ++ text))
