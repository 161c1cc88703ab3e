-- The question that some words are was asked.
use Rattle.std.proofs.Common.{◌≡◌, ℕ, Bool, true, false, List, Option, Result, sym, subst}
use Rattle.std.specs.Prelude.{IfOk}
use Rattle.bac_npdu.specs.Peers.{PeerView}
use Rattle.bac_text.specs.declared.status.Status.{Status}
use Rattle.bac_driver.specs.Asking.{Question}
use Rattle.bac_driver.specs.Runs.{Timed}
use Rattle.bac_driver.specs.Views.{question_view}
use Rattle.bac_driver.specs.declared.question.Question as code
use Rattle.bac_commands.specs.Questions.{IsQuestion}
use Rattle.bac_commands.specs.Statuses.{ByStatus}
use Rattle.bac_asking.specs.AskedOne.{AsksOnce, IsAsked}
use Rattle.bac_asking.specs.Online.{ByClient}
use Rattle.bac_environment.specs.Sockets.{Clocks, Links}
use Rattle.bac_asking.specs.Asked.{AsksAll}
use Rattle.bac_asking.specs.declared.asking.Asking.{Asking}
use Rattle.bac_asking.specs.declared.rounds.Asked.{Asked}
use Rattle.bac_asking.specs.declared.rounds.Asked.TheVariants as asked
use Rattle.bac_environment.proofs.Statuses.{lifted}

pub asked_so : (IsOn : Links) (IsClock : Clocks) (asking : Asking) (peer : PeerView) (words : List (List ℕ)) (q : Question) (old new : Option (List ℕ)) (s : Status)
    → IsQuestion peer words q
    → ByStatus s (ByClient IsOn IsClock asking (AsksOnce IsOn asking q) true old new) (ByClient IsOn IsClock asking (AsksOnce IsOn asking q) false old new) ⊥
    → IsAsked IsOn IsClock s asking peer words old new
asked_so IsOn IsClock asking peer words q old new s is reports =
    lifted s (λ a. record { question = q; is = is; asks = a }) (λ a. record { question = q; is = is; asks = a }) (λ (no : ⊥). absurd no) reports

-- what was asked is that one question
pub asked_one : (IsOn : Links) (asking : Asking) (a : Asked) (q : code.Question) (r : Result Bool Status) (before after : Timed) (old new : Option (List ℕ))
    → a ≡ asked.One q → IfOk r (λ all. AsksOnce IsOn asking (question_view q) all before after old new) → IfOk r (λ all. AsksAll IsOn asking a all before after old new)
asked_one IsOn asking a q r before after old new is asks =
    subst (λ (x : Asked). IfOk r (λ all. AsksAll IsOn asking x all before after old new)) (sym is) asks
