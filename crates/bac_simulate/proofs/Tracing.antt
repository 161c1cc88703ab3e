-- What there is to draw, one mark after the other.
use Rattle.std.proofs.Common.{◌≡◌, ◌↔◌, ◌⊎◌, ℕ, zero, suc, ◌+◌, ◌-◌, ◌<◌, ◌≤◌, ◌&&◌, nat_le, true, false, Bool, if◌then◌else◌, List, [], ◌∷◌, ◌++◌, length}
use Rattle.std.proofs.Common.{map, drop, Option, Some, None, IsErrOf, inl}
use Rattle.std.proofs.Common.{refl, sym, ap, subst, ◌∙◌, slice_get, arith, append-nil}
use Rattle.std.proofs.lemmas.List.{append_assoc, drop_all, drop-map, length-map, map-append}
use Rattle.std.proofs.lemmas.Option.{slice_get-map}
use Rattle.std.specs.Option.{option_map}
use Rattle.bac_chart.specs.Marks as plain
use Rattle.bac_chart.specs.Marks.{Mark}
use Rattle.bac_chart.specs.Views.{arrow_view, mark_view}
use Rattle.bac_chart.specs.declared.mark.Arrow as arrow
use Rattle.bac_chart.specs.declared.mark.Mark as code
use Rattle.bac_chart.specs.declared.mark.Mark.TheVariants as mark
use Rattle.bac_journal.specs.Views.{copy_view}
use Rattle.bac_journal.specs.declared.copies.Copy as copy
use Rattle.bac_network.specs.Histories.{WorldView, as_world, reuses_of}
use Rattle.bac_journal.specs.Clocks.{drift_of, paced}
use Rattle.bac_network.specs.declared.event.Event.{Event}
use Rattle.bac_network.specs.declared.fault.PaceFault.{PaceFault}
use Rattle.bac_network.specs.declared.fault.PaceFault.TheVariants as pace_fault
use Rattle.bac_network.specs.Steps.{Tells}
use Rattle.bac_network.specs.Views.{event_view, fact_view, instant_after}
use Rattle.bac_network.specs.declared.fact.Fact as fact
use Rattle.bac_protocol.specs.Transaction.{Key}
use Rattle.bac_requester.specs.declared.ask_fault.AskFault.{AskFault}
use Rattle.bac_protocol.specs.World.{same_key}
use Rattle.bac_world.specs.Once as once
use Rattle.bac_world.specs.World as world
use Rattle.bac_world.specs.ReusingWorlds.{WorldStepSo}
use Rattle.bac_world.specs.World.{count_of, is_deliverable, later}
use Rattle.bac_simulate.specs.Drawn.{in_marks}
use Rattle.bac_simulate.specs.Moments.{ms_now, parts_in}
use Rattle.bac_simulate.specs.Runs.{Runs, Steps}
use Rattle.bac_simulate.specs.Scripts.{ScriptLine, Happens, Paced}
use Rattle.bac_simulate.specs.Traces.{life_in}
use Rattle.bac_simulate.specs.Traces.{arrow_of, coming_mark, delivered_mark, event_marks, fact_mark, facts_marks, news_marks, optional_marks, paced_mark}
use Rattle.bac_simulate.specs.Traces.{sent_marks, AddsMarks, AppendsMarks}
use Rattle.bac_simulate.specs.Views.{happening_view, line_view}
use Rattle.bac_simulate.specs.declared.script.ScriptLine as script
use Rattle.bac_simulate.proofs.Appending.{drop_next, drop_seen}
use Rattle.bac_simulate.proofs.Stepping.{more, not_paced, paced_so, same_after, same_event, the_pace_err}

-- ---- later copies of a transaction

later_drop : (key : Key) (n : ℕ) (copies : List world.Copy) → later key n copies ≡ count_of key (drop (suc n) copies)
later_drop key n [] = refl
later_drop key zero (c ∷ copies) = refl
later_drop key (suc n) (c ∷ copies) = later_drop key n copies

pub later_is : (key : Key) (n : ℕ) (copies : List copy.Copy) → later key n (map copy_view copies) ≡ count_of key (map copy_view (drop (n + 1) copies))
later_is key n copies =
    let on : n + 1 ≡ suc n = omega arith in
    later_drop key n (map copy_view copies)
    ∙ ap (count_of key) (ap (λ (m : ℕ). drop m (map copy_view copies)) (sym on) ∙ drop-map copy_view (n + 1) copies)

pub counted : (key : Key) (copies : List copy.Copy) (i : ℕ) (c : copy.Copy) → slice_get copies i ≡ Some c
    → count_of key (map copy_view (drop i copies))
    ≡ (if same_key (copy_view c).key key then suc (count_of key (map copy_view (drop (i + 1) copies))) else count_of key (map copy_view (drop (i + 1) copies)))
counted key copies i c at = ap (λ (l : List copy.Copy). count_of key (map copy_view l)) (drop_next copies i c at)

pub delivered : (o life now n parts number more : ℕ) (w : WorldView) (copies after : List copy.Copy) (k : copy.Copy) (comes : Bool) (m : Mark)
    → map copy_view copies ≡ w.copies → slice_get copies number ≡ Some k → after ≡ drop (number + 1) copies
    → more ≡ count_of (copy_view k).key (map copy_view after) → o ≡ w.overtake → life ≡ life_in w → now ≡ w.time.moment → n ≡ ms_now w → parts ≡ parts_in w
    → comes ≡ (nat_le (now - k.moment) life && nat_le more o) → m ≡ coming_mark comes parts n number (copy_view k)
    → Some m ≡ delivered_mark w number (slice_get w.copies number)
delivered o life now n parts number more w copies after k comes m cs at rest count os life_is now_is n_is parts_is comes_is is =
    let c : world.Copy = copy_view k in
    let there : slice_get w.copies number ≡ Some c
    = ap (λ (l : List world.Copy). slice_get l number) (sym cs) ∙ (slice_get-map copy_view copies number ∙ ap (option_map copy_view) at) in
    let many : more ≡ later c.key number w.copies
    = count ∙ (ap (λ (l : List copy.Copy). count_of c.key (map copy_view l)) rest ∙ (sym (later_is c.key number copies) ∙ ap (later c.key number) cs)) in
    let young : comes ≡ (nat_le (w.time.moment - k.moment) (life_in w) && nat_le more o)
    = comes_is ∙ (ap (λ (t : ℕ). nat_le (t - k.moment) life && nat_le more o) now_is
    ∙ ap (λ (l : ℕ). nat_le (w.time.moment - k.moment) l && nat_le more o) life_is) in
    let may : comes ≡ is_deliverable w.overtake (life_in w) w.time.moment number w.copies c
    = young ∙ (ap (λ (l : ℕ). nat_le (w.time.moment - k.moment) (life_in w) && nat_le l o) many
    ∙ ap (λ (v : ℕ). nat_le (w.time.moment - k.moment) (life_in w) && nat_le (later c.key number w.copies) v) os) in
    let comes_now = is_deliverable w.overtake (life_in w) w.time.moment number w.copies c in
    ap Some (is ∙ (ap (λ (b : Bool). coming_mark b parts n number c) may
    ∙ (ap (λ (t : ℕ). coming_mark comes_now parts t number c) n_is ∙ ap (λ (p : ℕ). coming_mark comes_now p (ms_now w) number c) parts_is)))
    ∙ sym (ap (delivered_mark w number) there)

-- ---- marks that are added

behind : (old new : List code.Mark) (more rest whole : List Mark) → AddsMarks old new more → whole ≡ more ++ rest
    → map mark_view new ++ rest ≡ map mark_view old ++ whole
behind old new more rest whole added is =
    ap (λ (l : List Mark). l ++ rest) added
    ∙ (append_assoc (map mark_view old) more rest ∙ ap (λ (l : List Mark). map mark_view old ++ l) (sym is))

pub fact_added : (now : ℕ) (notes : List world.Note) (facts : List fact.Fact) (i : ℕ) (f : fact.Fact) → slice_get facts i ≡ Some f
    → (old new : List code.Mark) → AddsMarks old new (optional_marks (fact_mark now notes (fact_view f)))
    → map mark_view new ++ facts_marks now notes (drop (i + 1) (map fact_view facts)) ≡ map mark_view old ++ facts_marks now notes (drop i (map fact_view facts))
fact_added now notes facts i f at old new added =
    behind old new (optional_marks (fact_mark now notes (fact_view f))) (facts_marks now notes (drop (i + 1) (map fact_view facts)))
    (facts_marks now notes (drop i (map fact_view facts))) added
    (ap (facts_marks now notes) (drop_seen fact_view facts i f at))

pub pushed : (old new : List code.Mark) (m : code.Mark) → new ≡ old ++ m ∷ [] → AddsMarks old new (mark_view m ∷ [])
pushed old new m is = ap (map mark_view) is ∙ map-append mark_view old (m ∷ [])

pub copy_added : (parts : ℕ) (copies : List copy.Copy) (i : ℕ) (k : copy.Copy) → slice_get copies i ≡ Some k → (old new : List code.Mark) (a : arrow.Arrow)
    → arrow_view a ≡ arrow_of parts i (copy_view k) → new ≡ old ++ mark.Sent a ∷ []
    → map mark_view new ++ sent_marks parts (i + 1) (drop (i + 1) (map copy_view copies))
    ≡ map mark_view old ++ sent_marks parts i (drop i (map copy_view copies))
copy_added parts copies i k at old new a same is =
    behind old new (plain.Sent (arrow_of parts i (copy_view k)) ∷ []) (sent_marks parts (i + 1) (drop (i + 1) (map copy_view copies)))
    (sent_marks parts i (drop i (map copy_view copies)))
    (pushed old new (mark.Sent a) is ∙ ap (λ (b : plain.Arrow). map mark_view old ++ plain.Sent b ∷ []) same)
    (ap (sent_marks parts i) (drop_seen copy_view copies i k at))

none_left : {A B : Type 0} (f : A → B) (xs : List A) (n : ℕ) → length xs ≤ n → drop n (map f xs) ≡ []
none_left f xs n all =
    let same = length-map xs f in
    drop_all n (map f xs) (subst (λ (m : ℕ). m ≤ n) (sym same) all)

pub facts_done : (now : ℕ) (notes : List world.Note) (facts : List fact.Fact) (n : ℕ) → length facts ≤ n → (marks : List Mark)
    → marks ≡ marks ++ facts_marks now notes (drop n (map fact_view facts))
facts_done now notes facts n all marks =
    sym (append-nil marks) ∙ ap (λ (l : List once.Fact). marks ++ facts_marks now notes l) (sym (none_left fact_view facts n all))

pub copies_done : (parts : ℕ) (copies : List copy.Copy) (n : ℕ) → length copies ≤ n → (marks : List Mark)
    → marks ≡ marks ++ sent_marks parts n (drop n (map copy_view copies))
copies_done parts copies n all marks =
    sym (append-nil marks) ∙ ap (λ (l : List world.Copy). marks ++ sent_marks parts n l) (sym (none_left copy_view copies n all))

pub both : (a b c : List code.Mark) (x y : List Mark) → AddsMarks a b x → AddsMarks b c y → AddsMarks a c (x ++ y)
both a b c x y p q = q ∙ (ap (λ (l : List Mark). l ++ y) p ∙ append_assoc (map mark_view a) x y)

-- ---- one line more

pub line_passed : (all : Bool) (line : ℕ) (lines : List script.ScriptLine) (i : ℕ) (e : script.ScriptLine) → slice_get lines i ≡ Some e
    → (old mid new : WorldView) (a b c : List code.Mark) → (went : Bool) → went ≡ true → AppendsMarks a b (Steps in_marks line went (line_view e) old mid)
    → (next : ℕ) → next ≡ line + 1 → AppendsMarks b c (Runs in_marks next (drop (i + 1) (map line_view lines)) all mid new)
    → AppendsMarks a c (Runs in_marks line (drop i (map line_view lines)) all old new)
line_passed all line lines i e at old mid new a b c went is stepped next on ran =
    let step = subst (λ (w : Bool). AppendsMarks a b (Steps in_marks line w (line_view e) old mid)) is stepped in
    let rest = subst (λ (n : ℕ). AppendsMarks b c (Runs in_marks n (drop (i + 1) (map line_view lines)) all mid new)) on ran in (
      step.0 ++ rest.0,
      (
        subst (λ (l : List ScriptLine). Runs in_marks line l all old new (step.0 ++ rest.0)) (sym (drop_seen line_view lines i e at))
            (more in_marks all line (line_view e) (drop (i + 1) (map line_view lines)) old mid new step.0 rest.0 step.1.0 rest.1.0),
        both a b c step.0 rest.0 step.1.1 rest.1.1,
      ),
    )

pub line_stopped : (line : ℕ) (lines : List script.ScriptLine) (i : ℕ) (e : script.ScriptLine) → slice_get lines i ≡ Some e → (old new : WorldView)
    (a b : List code.Mark) → (went : Bool) → went ≡ false → AppendsMarks a b (Steps in_marks line went (line_view e) old new)
    → AppendsMarks a b (Runs in_marks line (drop i (map line_view lines)) false old new)
line_stopped line lines i e at old new a b went is stepped =
    let step = subst (λ (w : Bool). AppendsMarks a b (Steps in_marks line w (line_view e) old new)) is stepped in (
      step.0,
      (subst (λ (l : List ScriptLine). Runs in_marks line l false old new step.0) (sym (drop_seen line_view lines i e at)) (inl step.1.0), step.1.1),
    )

pub no_line : (line : ℕ) (lines : List script.ScriptLine) (i : ℕ) → length lines ≤ i → (w : WorldView) (a : List code.Mark)
    → AppendsMarks a a (Runs in_marks line (drop i (map line_view lines)) true w w)
no_line line lines i all w a = (
  [],
  (
    subst (λ (l : List ScriptLine). Runs in_marks line l true w w []) (sym (none_left line_view lines i all)) (refl, refl),
    sym (append-nil (map mark_view a)),
  ),
)

-- ---- clocks

pub pace_drawn : (line node rate now : ℕ) (old new : WorldView) (a b : List code.Mark) (m : code.Mark) → as_world new ≡ as_world old
    → new.overtake ≡ old.overtake → new.reuses ≡ old.reuses → new.time ≡ record (old.time) { own = paced node rate old.time.own }
    → (1000000 ≤ rate + drift_of old.time.own) × (rate ≤ 1000000 + drift_of old.time.own) → now ≡ ms_now old → mark_view m ≡ paced_mark now node rate
    → b ≡ a ++ m ∷ [] → AppendsMarks a b (Steps in_marks line true (Paced node rate) old new)
pace_drawn line node rate now old new a b m same overtake rules time within is mark pushes = (
  mark_view m ∷ [],
  (
    paced_so in_marks line node rate old new (mark_view m ∷ []) same overtake rules time within
        (ap (λ (x : Mark). x ∷ []) (mark ∙ ap (λ (n : ℕ). paced_mark n node rate) is)),
    pushed a b m pushes,
  ),
)

pub pace_not_drawn : (line node rate : ℕ) (f : PaceFault) (old new : WorldView) (a : List code.Mark) (went : Bool)
    → (IsErrOf (the_pace_err f) pace_fault.NoSuchNode ↔ (slice_get old.nodes node ≡ None))
    → (IsErrOf (the_pace_err f) pace_fault.BadPace → (rate + drift_of old.time.own < 1000000) ⊎ (1000000 + drift_of old.time.own < rate))
    → new ≡ old → went ≡ false → AppendsMarks a a (Steps in_marks line went (Paced node rate) old new)
pace_not_drawn line node rate f old new a went none beyond same is = (
  [],
  (
    subst (λ (b : Bool). Steps in_marks line b (Paced node rate) old new []) (sym is) (not_paced in_marks line node rate f old new [] none beyond same refl),
    sym (append-nil (map mark_view a)),
  ),
)

-- ---- one event

pub passed : (line : ℕ) (e : Event) (told : Option AskFault) (old new : WorldView) (a b : List code.Mark)
    → WorldStepSo old.overtake (reuses_of old) (as_world old) (event_view old.time e) (as_world new)
    → Tells told (as_world old) (event_view old.time e) (as_world new) → new.overtake ≡ old.overtake → new.reuses ≡ old.reuses → new.time ≡ instant_after e old.time
    → AddsMarks a b (event_marks told (happening_view e) old new)
    → AppendsMarks a b (Steps in_marks line true (Happens (happening_view e)) old new)
passed line e told old new a b step tells same rules after added =
    let went = subst (λ (h : world.Event). WorldStepSo old.overtake (reuses_of old) (as_world old) h (as_world new)) (same_event old.time e) step in
    let said = subst (λ (h : world.Event). Tells told (as_world old) h (as_world new)) (same_event old.time e) tells in (
      event_marks told (happening_view e) old new,
      (inl (record { told = told; went = went; tells = said; overtake = same; reuses = rules; time = after ∙ same_after old.time e; is = refl }), added),
    )

pub news_are : (facts copies i k : ℕ) (w : WorldView) (coming : Option Mark) (a b : List code.Mark) → i ≡ facts → k ≡ copies
    → AddsMarks a b (optional_marks coming ++ news_marks i k w) → AddsMarks a b (optional_marks coming ++ news_marks facts copies w)
news_are facts copies i k w coming a b fs cs added =
    subst (λ (n : ℕ). AddsMarks a b (optional_marks coming ++ news_marks facts n w)) cs
    (subst (λ (n : ℕ). AddsMarks a b (optional_marks coming ++ news_marks n k w)) fs added)
