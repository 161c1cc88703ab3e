-- Two asks of a pair, of each of them and of its question.
use Rattle.std.proofs.Common.{◌≡◌, Bool, List, ℕ, Option, ◌&&◌, subst, ap, ◌∙◌}
use Rattle.bac_npdu.specs.Peers.{PeerView}
use Rattle.bac_protocol.specs.Service.{Octets}
use Rattle.bac_service.specs.Values.{Request}
use Rattle.bac_driver.specs.Asking.{Question}
use Rattle.bac_driver.specs.Pairs.{Pair}
use Rattle.bac_commands.specs.Pairs.{PairText, TwoTexts, append_request, read_request}
use Rattle.bac_commands.specs.Questions.{peer_at, question_for}

-- a text of the one question, as of the other
asked_as : (answered : Bool) (asked q : Question) (old new : Pair) (text after : Option (List ℕ)) → asked ≡ q
    → PairText answered asked old new text after → PairText answered q old new text after
asked_as answered asked q old new text after is told = subst (λ (x : Question). PairText answered x old new text after) is told

-- the questions were those two, for the address of the second node
pub both_texts : (answered appended read : Bool) (address : Octets) (peer : PeerView) (a b : Request) (first second : Question) (old middle new : Pair)
    (text between after : Option (List ℕ))
    → a ≡ append_request → b ≡ read_request → address ≡ old.second.node.link → peer ≡ peer_at address → first ≡ question_for peer a
    → second ≡ question_for peer b
    → PairText appended first old middle text between → PairText read second middle new between after
    → answered ≡ appended && read → TwoTexts answered old new text after
both_texts answered appended read address peer a b first second old middle new text between after appends reads at peer_is first_is second_is told told_next both =
    record {
      appended = appended;
      read = read;
      middle = middle;
      between = between;
      appends =
          asked_as appended first (question_for (peer_at old.second.node.link) append_request) old middle text between
          (first_is ∙ ap (question_for peer) appends ∙ ap (λ (p : PeerView). question_for p append_request) (peer_is ∙ ap peer_at at)) told;
      reads =
          asked_as read second (question_for (peer_at old.second.node.link) read_request) middle new between after
          (second_is ∙ ap (question_for peer) reads ∙ ap (λ (p : PeerView). question_for p read_request) (peer_is ∙ ap peer_at at)) told_next;
      both = both;
    }
