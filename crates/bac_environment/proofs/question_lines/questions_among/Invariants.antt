-- What the lines from here on ask, behind those so far, is what all lines ask; where one of them is bad, one of all is.
use Rattle.std.proofs.Common.{◌+◌, ◌++◌, List, map, drop}
use Rattle.std.specs.Option.{option_map}
use Rattle.bac_npdu.specs.Views.{peer_view}
use Rattle.bac_environment.specs.QuestionLines.{AreQuestions, HaveBadLine, Numbered, line_view}
use Rattle.bac_environment.proofs.question_lines.questions_among.Given as goal

abbrev pub invariant-loop-place : goal.invariant-loop-place
invariant-loop-place g l =
    record {
      good : (rest : List Numbered) → AreQuestions (option_map peer_view l.default) (l.place + 1) (drop l.place (map (λ p. p.now) l.lines)) rest
          → AreQuestions (option_map peer_view l.default) 1 (map (λ p. p.now) l.lines) (map line_view l.questions.items ++ rest);
      bad : HaveBadLine (option_map peer_view l.default) (drop l.place (map (λ p. p.now) l.lines))
          → HaveBadLine (option_map peer_view l.default) (map (λ p. p.now) l.lines);
    }
