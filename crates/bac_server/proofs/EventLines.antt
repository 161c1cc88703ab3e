-- The line of a log for an event, whose parts were computed.
use Rattle.std.proofs.Common.{◌≡◌, ◌++◌, ℕ, IfOk, List, Result, Ok, Err, length, Option, subst}
use Rattle.std.specs.Option.{option_map}
use Rattle.bac_apdu.specs.Apdu.{Apdu}
use Rattle.bac_driver.specs.Turns.{Turn, performed_of, sends_of, skipped_in}
use Rattle.bac_log_json.specs.Logs.{Dropped, Heard, NotDone, NotSent, SentAgain}
use Rattle.bac_npdu.specs.Peers.{PeerView}
use Rattle.bac_service.specs.Replies.{Reply}
use Rattle.bac_service.specs.Values.{Request}
use Rattle.bac_server.specs.EventTexts.{IsEventText}
use Rattle.bac_server.specs.Lines.{IsCountText, IsHeardText, IsRestText, id_of, request_and_reply}
use Rattle.bac_server.specs.LogWords.{AreAskingWords, AreDoneWords}
use Rattle.bac_server.specs.declared.log_settings.LogFormat.{LogFormat}

pub heard_told : (f : LogFormat) (away : List ℕ) (turn : Turn) (peer : PeerView) (a : Apdu) (id : Option ℕ) (performed : Option (Request × Reply))
    → (asking what done told text : List ℕ) → AreAskingWords (performed_of turn.heard) a asking
    → AreDoneWords away (performed_of turn.heard) (sends_of turn.heard) done → id ≡ id_of a
    → performed ≡ option_map request_and_reply (performed_of turn.heard) → what ≡ asking → told ≡ done
    → IsEventText f turn.at (Heard peer id performed what told) text → IsHeardText f away turn peer a text
heard_told f away turn peer a id performed asking what done told text are_asking are_done id_is performed_is what_is told_is is =
    let both : Option (Request × Reply) = option_map request_and_reply (performed_of turn.heard) in
    record {
      asking = asking;
      are_asking = are_asking;
      done = done;
      are_done = are_done;
      is =
          subst (λ (d : List ℕ). IsEventText f turn.at (Heard peer (id_of a) both asking d) text) told_is
          (subst (λ (w : List ℕ). IsEventText f turn.at (Heard peer (id_of a) both w told) text) what_is
          (subst (λ (p : Option (Request × Reply)). IsEventText f turn.at (Heard peer (id_of a) p what told) text) performed_is
          (subst (λ (i : Option ℕ). IsEventText f turn.at (Heard peer i performed what told) text) id_is is)));
    }

pub dropped_told : (f : LogFormat) (at : ℕ) (link said why text : List ℕ) → said ≡ why → IsEventText f at (Dropped link said) text
    → IsEventText f at (Dropped link why) text
dropped_told f at link said why text same is = subst (λ (w : List ℕ). IsEventText f at (Dropped link w) text) same is

pub rest_told : (f : LogFormat) (turn : Turn) (again_count skipped_count : ℕ) (again lost undone text : List ℕ)
    → again_count ≡ length (sends_of turn.ticked) → skipped_count ≡ skipped_in turn → IsCountText f turn.at again_count (SentAgain again_count) again
    → IsCountText f turn.at turn.lost (NotSent turn.lost) lost → IsCountText f turn.at skipped_count (NotDone skipped_count) undone
    → text ≡ (again ++ lost) ++ undone → IsRestText f turn text
rest_told f turn again_count skipped_count again lost undone text again_is skipped_is is_again is_lost is_undone is =
    record {
      again = again;
      is_again = subst (λ (n : ℕ). IsCountText f turn.at n (SentAgain n) again) again_is is_again;
      lost = lost;
      is_lost = is_lost;
      undone = undone;
      is_undone = subst (λ (n : ℕ). IsCountText f turn.at n (NotDone n) undone) skipped_is is_undone;
      is = is;
    }

-- what follows from a fact of a result where it is Ok
pub if_ok : {A E : Type 0} (r : Result A E) (P Q : A → Type 0) → ((a : A) → P a → Q a) → IfOk r P → IfOk r Q
if_ok (Ok a) P Q so p = so a p
if_ok (Err e) P Q so p = p
