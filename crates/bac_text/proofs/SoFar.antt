-- Lines that were counted, one after the other.
use Rattle.std.proofs.Common.{◌≡◌, ◌+◌, ℕ, suc, Bool, true, false, List, [], ◌∷◌, ◌++◌, length, Option, Some, None, refl, sym, ap, subst, ◌∙◌, arith}
use Rattle.std.proofs.Common.{append_assoc, append-nil, length-append}
use Rattle.std.specs.Io.KnownBytes.{Appends, Keeps}
use Rattle.std.proofs.KnownBytes.{Appends-nil, Appends-trans, Appends-kept}
use Rattle.std.specs.Option.{option_map}
use Rattle.bac_text.specs.declared.tally.LineTally.{LineTally}
use Rattle.bac_text.specs.declared.fault.LineVerdict.{LineVerdict}
use Rattle.bac_text.specs.declared.fault.LineVerdict.TheVariants.{Good, Note, Bad}
use Rattle.bac_text.specs.declared.status.Status.{Status}
use Rattle.bac_text.specs.declared.status.Status.TheVariants as status
use Rattle.bac_text.specs.Checked.{verdict_text, verdicts_text, tally_text, IsChecked, IsReportAs}
use Rattle.bac_text.specs.Checking.{Count, count_of, IsCounted, IsNextCounted, IsStep, AreSoFar, IsCountOf, AreCounted}
use Rattle.bac_text.specs.Lines.{lines_of, line_in, CaptureLine, AreJudged, IsJudged, short_capture_at, good_among, bad_among, LINE_END}
use Rattle.bac_text.specs.NextLine.{IsNextLine}
use Rattle.bac_text.specs.Statuses.{IsTallied}
use Rattle.bac_text.proofs.LineFronts.{first_line, kept_capture}
use Rattle.std.specs.Io.BufRead.{drop_through}

good_more : (fs gs : List LineVerdict) → good_among (fs ++ gs) ≡ good_among fs + good_among gs
good_more [] gs = omega arith
good_more (Good ∷ fs) gs = omega (arith, good_more fs gs)
good_more (Note ∷ fs) gs = good_more fs gs
good_more (Bad f ∷ fs) gs = good_more fs gs

bad_more : (fs gs : List LineVerdict) → bad_among (fs ++ gs) ≡ bad_among fs + bad_among gs
bad_more [] gs = omega arith
bad_more (Good ∷ fs) gs = bad_more fs gs
bad_more (Note ∷ fs) gs = bad_more fs gs
bad_more (Bad f ∷ fs) gs = omega (arith, bad_more fs gs)

texts_more : (in_words : Bool) (before : ℕ) (fs gs : List LineVerdict) → verdicts_text in_words before (fs ++ gs) ≡ verdicts_text in_words before fs ++ verdicts_text in_words (before + length fs) gs
texts_more in_words before [] gs =
    let e : before ≡ before + 0 = omega arith in
    ap (λ (n : ℕ). verdicts_text in_words n gs) e
texts_more in_words before (f ∷ fs) gs =
    let e : before + 1 + length fs ≡ before + suc (length fs) = omega arith in
    let head = verdict_text in_words (before + 1) f in
    ap (λ (l : List ℕ). head ++ l) (texts_more in_words (before + 1) fs gs)
    ∙ ap (λ (n : ℕ). head ++ (verdicts_text in_words (before + 1) fs ++ verdicts_text in_words n gs)) e
    ∙ sym (append_assoc head (verdicts_text in_words (before + 1) fs) (verdicts_text in_words (before + suc (length fs)) gs))

last_text : (in_words : Bool) (fs : List LineVerdict) (f : LineVerdict) (n : ℕ) → n ≡ length fs
    → verdicts_text in_words 0 (fs ++ (f ∷ [])) ≡ verdicts_text in_words 0 fs ++ verdict_text in_words (n + 1) f
last_text in_words fs f n e =
    let same : 0 + length fs ≡ n = omega (arith, e) in
    texts_more in_words 0 fs (f ∷ []) ∙ ap (λ (m : ℕ). verdicts_text in_words 0 fs ++ verdicts_text in_words m (f ∷ [])) same
    ∙ ap (λ (l : List ℕ). verdicts_text in_words 0 fs ++ l) (append-nil (verdict_text in_words (n + 1) f))

pub none_so_far : (in_words notes : Bool) (octets : Option (List ℕ)) (out : Option (List ℕ)) (t : Count) → t.lines ≡ 0 → t.good ≡ 0 → t.bad ≡ 0 → t.latest ≡ 0
    → AreSoFar in_words notes octets octets out out t
none_so_far in_words notes None out t lines good bad latest = tt
none_so_far in_words notes (Some xs) out t lines good bad latest = record {
  verdicts = [];
  rest = xs;
  is = refl;
  judged = λ more judged. subst (λ (n : ℕ). AreJudged notes (lines_of xs) n more) latest judged;
  printed = Appends-nil out;
  lines = lines;
  good = good;
  bad = bad;
}

step_at : (in_words notes : Bool) (here : List ℕ) (left new old_out new_out : Option (List ℕ)) (t u : Count) → left ≡ Some here → IsStep in_words notes left new old_out new_out t (Some u)
    → IsNextCounted in_words notes here new old_out new_out t u
step_at in_words notes here left new old_out new_out t u e s = subst (λ (o : Option (List ℕ)). IsStep in_words notes o new old_out new_out t (Some u)) e s

pub one_more : (in_words notes : Bool) (octets left new a b c : Option (List ℕ)) (t u : Count) → AreSoFar in_words notes octets left a b t → IsStep in_words notes left new b c t (Some u) → AreSoFar in_words notes octets new a c u
one_more in_words notes None left new a b c t u s step = tt
one_more in_words notes (Some xs) left new a b c t u s step =
    let next = step_at in_words notes s.rest left new b c t u s.is step in
    let counted = next.counted in
    let one : List LineVerdict = counted.verdict ∷ [] in
    record {
      verdicts = s.verdicts ++ one;
      rest = next.rest;
      is = next.is;
      judged = λ more judged.
          let here : AreJudged notes (lines_of s.rest) t.latest (counted.verdict ∷ more) =
          subst (λ (ls : List (List ℕ)). AreJudged notes ls t.latest (counted.verdict ∷ more)) (sym next.lines) (u.latest, (counted.judged, judged)) in
          subst (λ (fs : List LineVerdict). AreJudged notes (lines_of xs) 0 fs) (sym (append_assoc s.verdicts one more)) (s.judged (counted.verdict ∷ more) here);
      printed = subst (Appends a c) (sym (last_text in_words s.verdicts counted.verdict t.lines s.lines)) (Appends-trans a b c _ _ s.printed counted.printed);
      lines = omega (arith, counted.lines, s.lines, length-append s.verdicts one);
      good = omega (arith, counted.good, s.good, good_more s.verdicts one);
      bad = omega (arith, counted.bad, s.bad, bad_more s.verdicts one);
    }

end_at : (in_words notes : Bool) (here : List ℕ) (left new old_out new_out : Option (List ℕ)) (t : Count) → left ≡ Some here → IsStep in_words notes left new old_out new_out t None
    → (here ≡ []) × Keeps old_out new_out
end_at in_words notes here left new old_out new_out t e s = subst (λ (o : Option (List ℕ)). IsStep in_words notes o new old_out new_out t None) e s

pub all_counted : (in_words notes : Bool) (octets left new a b c : Option (List ℕ)) (t : Count) → AreSoFar in_words notes octets left a b t → IsStep in_words notes left new b c t None → AreCounted in_words notes octets a c t
all_counted in_words notes None left new a b c t s step = tt
all_counted in_words notes (Some xs) left new a b c t s step =
    let end = end_at in_words notes s.rest left new b c t s.is step in
    record {
      verdicts = s.verdicts;
      judged = subst (λ (fs : List LineVerdict). AreJudged notes (lines_of xs) 0 fs) (append-nil s.verdicts)
          (s.judged [] (subst (λ (l : List ℕ). AreJudged notes (lines_of l) t.latest []) (sym end.0) refl));
      printed = Appends-kept a b c _ s.printed end.1;
      lines = s.lines;
      good = s.good;
      bad = s.bad;
    }

-- ---- one line

pub line_counted : (in_words notes : Bool) (octets new a b : Option (List ℕ)) (line : List ℕ) (t u : Count)
    → IsNextLine octets new line true → IsCounted in_words notes line a b t u → IsStep in_words notes octets new a b t (Some u)
line_counted in_words notes None new a b line t u next counted = tt
line_counted in_words notes (Some xs) new a b line t u next counted =
    let same : short_capture_at notes line ≡ short_capture_at notes (line_in xs) = ap (short_capture_at notes) next.1.1 ∙ kept_capture notes (line_in xs) in
    record {
      line = line_in xs;
      rest = drop_through LINE_END xs;
      lines = first_line xs next.0;
      is = next.1.0;
      counted = record {
        verdict = counted.verdict;
        judged = subst (λ (c : CaptureLine). IsJudged c t.latest counted.verdict u.latest) same counted.judged;
        printed = counted.printed;
        lines = counted.lines;
        good = counted.good;
        bad = counted.bad;
      };
    }

pub input_ended : (in_words notes : Bool) (octets new a : Option (List ℕ)) (line : List ℕ) (t : Count)
    → IsNextLine octets new line false → (b : Option (List ℕ)) → Keeps a b → IsStep in_words notes octets new a b t None
input_ended in_words notes None new a line t next b keeps = tt
input_ended in_words notes (Some xs) new a line t next b keeps = (next.0, keeps)

-- ---- the whole capture

whole : (in_words notes : Bool) (xs : List ℕ) (a b c d : Option (List ℕ)) (t : Count) (s : Status) → IsCountOf in_words notes xs a b t
    → Appends b c (tally_text notes t.lines t.good t.bad) → Keeps c d → IsTallied t.bad s → IsChecked in_words notes xs a d s
whole in_words notes xs a b c d t s counted printed keeps tallied =
    let vs = counted.verdicts in
    let all = Appends-kept a c d _ (Appends-trans a b c _ _ counted.printed printed) keeps in
    record {
      verdicts = vs;
      judged = counted.judged;
      printed = subst (λ (n : ℕ). Appends a d (verdicts_text in_words 0 vs ++ tally_text notes n (good_among vs) (bad_among vs))) counted.lines
          (subst (λ (n : ℕ). Appends a d (verdicts_text in_words 0 vs ++ tally_text notes t.lines n (bad_among vs))) counted.good
          (subst (λ (n : ℕ). Appends a d (verdicts_text in_words 0 vs ++ tally_text notes t.lines t.good n)) counted.bad all));
      tallied = subst (λ (n : ℕ). IsTallied n s) counted.bad tallied;
    }

pub reported : (in_words notes : Bool) (octets a b c d : Option (List ℕ)) (t : Count) (s : Status) → AreCounted in_words notes octets a b t
    → Appends b c (tally_text notes t.lines t.good t.bad) → Keeps c d → IsTallied t.bad s → IsReportAs in_words notes octets a d s
reported in_words notes octets a b c d t status.CommandLine counted printed keeps tallied = tt
reported in_words notes octets a b c d t status.Output counted printed keeps tallied = tt
reported in_words notes octets a b c d t status.Memory counted printed keeps tallied = tt
reported in_words notes None a b c d t status.Done counted printed keeps tallied = tt
reported in_words notes None a b c d t status.Faulty counted printed keeps tallied = tt
reported in_words notes (Some xs) a b c d t status.Done counted printed keeps tallied = whole in_words notes xs a b c d t status.Done counted printed keeps tallied
reported in_words notes (Some xs) a b c d t status.Faulty counted printed keeps tallied = whole in_words notes xs a b c d t status.Faulty counted printed keeps tallied

-- ---- the same for values of the code

pub line_counted_at : (in_words notes : Bool) (octets new a b : Option (List ℕ)) (line shown : List ℕ) (t u : Count) (found : Bool) → shown ≡ line → found ≡ true
    → IsNextLine octets new line found → IsCounted in_words notes shown a b t u → IsStep in_words notes octets new a b t (Some u)
line_counted_at in_words notes octets new a b line shown t u found same is next counted =
    line_counted in_words notes octets new a b line t u (subst (λ (x : Bool). IsNextLine octets new line x) is next) (subst (λ (l : List ℕ). IsCounted in_words notes l a b t u) same counted)

pub one_more_at : (in_words notes : Bool) (octets left new a b c : Option (List ℕ)) (t : Count) (r : Option LineTally) (u : LineTally) → AreSoFar in_words notes octets left a b t
    → IsStep in_words notes left new b c t (option_map count_of r) → r ≡ Some u → AreSoFar in_words notes octets new a c (count_of u)
one_more_at in_words notes octets left new a b c t r u s step is =
    one_more in_words notes octets left new a b c t (count_of u) s (subst (λ (o : Option LineTally). IsStep in_words notes left new b c t (option_map count_of o)) is step)

pub all_counted_at : (in_words notes : Bool) (octets left new a b c : Option (List ℕ)) (t : Count) (r : Option LineTally) → AreSoFar in_words notes octets left a b t
    → IsStep in_words notes left new b c t (option_map count_of r) → r ≡ None → AreCounted in_words notes octets a c t
all_counted_at in_words notes octets left new a b c t r s step is =
    all_counted in_words notes octets left new a b c t s (subst (λ (o : Option LineTally). IsStep in_words notes left new b c t (option_map count_of o)) is step)
