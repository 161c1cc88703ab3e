-- What contracts see of the types in code.
use Rattle.std.specs.Option.{option_map}
use Rattle.bac_apdu.specs.Views.{limits_view}
use Rattle.bac_npdu.specs.Views.{peer_view}
use Rattle.bac_service.specs.Views.{owned_request_view}
use Rattle.bac_node.specs.Views.{outcome_view}
use Rattle.bac_driver.specs.Asking as asking
use Rattle.bac_driver.specs.Turns as turns
use Rattle.bac_driver.specs.declared.question.Question.{Question}
use Rattle.bac_driver.specs.declared.turn.Turn.{Turn}

abbrev pub turn_view : Turn → turns.Turn
turn_view t =
    record {
      at = t.at;
      received = t.received;
      heard = option_map outcome_view t.heard;
      ticked = option_map outcome_view t.ticked;
      lost = t.lost;
    }

abbrev pub question_view : Question → asking.Question
question_view q = record { peer = peer_view q.peer; limits = limits_view q.limits; request = owned_request_view q.request }
