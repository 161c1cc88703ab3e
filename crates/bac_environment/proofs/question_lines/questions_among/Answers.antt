use Rattle.std.proofs.Common.{◌≡◌, ◌<◌, ◌+◌, List, length, map, drop, arith}
use Rattle.std.proofs.lemmas.List.{drop_all, length-map}
use Rattle.std.proofs.lemmas.Result.{err_from_is_err_and}
use Rattle.std.proofs.lemmas.Option.{slice_get-get_or}
use Rattle.std.specs.Option.{option_map}
use Rattle.bac_npdu.specs.Views.{peer_view}
use Rattle.bac_environment.proofs.Lists.{drop_seen}
use Rattle.bac_environment.specs.QuestionLines.{AreQuestions, HaveBadLine, Numbered, line_view}
use Rattle.bac_environment.proofs.ReadLines.{all_read, bad_line_read, one_more_read, others_bad, same_fault}
use Rattle.bac_environment.proofs.question_lines.questions_among.Goals as goal

pub loop-place-preserved : goal.loop-place-preserved
loop-place-preserved g c =
    let at = c.loop-place in
    let lt : at.place < length c.args.lines.now = omega arith in
    let next = drop_seen (λ p. p.now) c.args.lines.now at.place _ (slice_get-get_or c.args.lines.now at.place _ lt) in
    record {
      good = λ more read. one_more_read (option_map peer_view c.args.default) (at.place + 1) (drop at.place (map (λ p. p.now) c.args.lines.now)) (drop (at.place + 1) (map (λ p. p.now) c.args.lines.now)) _ _ _ more
          (λ (all : List Numbered). AreQuestions (option_map peer_view c.args.default) 1 (map (λ p. p.now) c.args.lines.now) all) next c.in_ok-add_line.ensures.added at.invariant.good read;
      bad = λ bad. others_bad (option_map peer_view c.args.default) (drop at.place (map (λ p. p.now) c.args.lines.now)) (drop (at.place + 1) (map (λ p. p.now) c.args.lines.now)) _ (HaveBadLine (option_map peer_view c.args.default) (map (λ p. p.now) c.args.lines.now)) next at.invariant.bad bad;
    }

pub returns-clause-read : goal.returns-clause-read
returns-clause-read g c =
    let at = c.loop-place in
    let same : length (map (λ p. p.now) c.args.lines.now) ≡ length c.args.lines.now = length-map c.args.lines.now (λ p. p.now) in
    all_read (option_map peer_view c.args.default) (at.place + 1) (drop at.place (map (λ p. p.now) c.args.lines.now)) (map line_view at.questions.items) (λ (all : List Numbered). AreQuestions (option_map peer_view c.args.default) 1 (map (λ p. p.now) c.args.lines.now) all)
    (drop_all at.place (map (λ p. p.now) c.args.lines.now) (omega (arith, same))) at.invariant.good

pub returns-in_err-add_line-clause-refused : goal.returns-in_err-add_line-clause-refused
returns-in_err-add_line-clause-refused g c =
    let at = c.loop-place in
    let lt : at.place < length c.args.lines.now = omega arith in
    let p = err_from_is_err_and c.from_residual.result c.from_residual.ensures.1 in
    rw (p.1, p.2)
    (λ e. bad_line_read (option_map peer_view c.args.default) (drop at.place (map (λ p. p.now) c.args.lines.now)) (drop (at.place + 1) (map (λ p. p.now) c.args.lines.now)) _ (HaveBadLine (option_map peer_view c.args.default) (map (λ p. p.now) c.args.lines.now))
    (drop_seen (λ p. p.now) c.args.lines.now at.place _ (slice_get-get_or c.args.lines.now at.place _ lt)) (c.in_err-add_line.ensures.refused (same_fault _ _ e))
    at.invariant.bad)
