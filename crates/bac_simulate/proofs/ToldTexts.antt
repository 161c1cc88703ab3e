-- What is told in words or as objects, one line after the other.
use Rattle.std.proofs.Common.{◌≡◌, ◌↔◌, ℕ, ◌+◌, ◌-◌, ◌<◌, ◌≤◌, nat_le, true, false, Bool, List, [], ◌++◌, length, map, drop, reverse, Option, Some, None}
use Rattle.std.proofs.Common.{IsErrOf, ◌⊎◌, inl}
use Rattle.std.proofs.Common.{refl, sym, ap, subst, ◌∙◌, slice_get, append-nil}
use Rattle.std.proofs.lemmas.List.{append_assoc, drop_all, length-map, reverse-reverse}
use Rattle.std.proofs.lemmas.Option.{slice_get-map}
use Rattle.std.specs.Option.{option_map}
use Rattle.std.specs.Io.KnownBytes.{Appends}
use Rattle.bac_simulate.specs.FaultWords.{change_fault_words}
use Rattle.bac_journal.specs.Notes.{note_view, notes_view}
use Rattle.bac_journal.specs.declared.noting.Note as note
use Rattle.bac_journal.specs.Views.{copy_view}
use Rattle.bac_journal.specs.declared.copies.Copy as copy
use Rattle.bac_network.specs.Faults.{fault_number}
use Rattle.bac_network.specs.Histories.{WorldView, as_world, reuses_of}
use Rattle.bac_network.specs.declared.event.Event.{Event}
use Rattle.bac_network.specs.Runs.{TellsWhyNot}
use Rattle.bac_network.specs.Steps.{RefusesChange, Tells}
use Rattle.bac_network.specs.Views.{event_view, fact_view, instant_after, log_view}
use Rattle.bac_network.specs.declared.fact.Fact as fact
use Rattle.bac_journal.specs.Clocks.{drift_of, paced}
use Rattle.bac_network.specs.declared.fault.PaceFault.{PaceFault}
use Rattle.bac_network.specs.declared.fault.PaceFault.TheVariants as pace_fault
use Rattle.bac_network.specs.declared.fault.WorldFault.{WorldFault}
use Rattle.bac_network.specs.declared.fault.WorldFault.TheVariants as fault
use Rattle.bac_requester.specs.declared.ask_fault.AskFault.{AskFault}
use Rattle.bac_store.specs.AtNode.{change_fault_number}
use Rattle.bac_store.specs.declared.change_fault.ChangeFault.{ChangeFault}
use Rattle.bac_text.specs.Texts.{AppendsText}
use Rattle.bac_world.specs.Once as once
use Rattle.bac_world.specs.World as world
use Rattle.bac_world.specs.ReusingWorlds.{WorldStepSo}
use Rattle.bac_world.specs.World.{count_of, later}
use Rattle.bac_simulate.specs.Moments.{ms_now}
use Rattle.bac_simulate.specs.Runs.{Runs, Steps, Printing, change_fault_in, pace_fault_number}
use Rattle.bac_simulate.specs.Scripts.{ScriptLine, Happens, Lost, Began, Paced}
use Rattle.bac_simulate.specs.Happenings.{Happening}
use Rattle.bac_simulate.specs.Views.{happening_view, line_view}
use Rattle.bac_simulate.specs.Traces.{life_in}
use Rattle.bac_simulate.specs.Told.{Adds, AreFactTexts, AreNews, AreSentTexts, IsEndText, IsFactText, IsHeadText, IsLostText, IsOutcome, IsPacedText, IsRefusalText}
use Rattle.bac_simulate.specs.Told.{IsSentText, told_in}
use Rattle.bac_simulate.specs.Worded.{why_copy, why_delivered, why_nothing}
use Rattle.bac_simulate.specs.declared.event_style.EventStyle.{EventStyle}
use Rattle.bac_simulate.specs.declared.nothing.Why.{Why}
use Rattle.bac_simulate.specs.declared.script.ScriptLine as script
use Rattle.bac_simulate.proofs.Appending.{drop_seen, nothing_more}
use Rattle.bac_simulate.proofs.Stepping.{clock_began, fails, no_clock, not_paced, paced_so, refuses, same_after, same_event, the_err, the_pace_err}
use Rattle.bac_simulate.proofs.Tracing.{later_is}

-- ---- one line more

none_left : {A B : Type 0} (f : A → B) (xs : List A) (n : ℕ) → length xs ≤ n → drop n (map f xs) ≡ []
none_left f xs n all =
    let same = length-map xs f in
    drop_all n (map f xs) (subst (λ (m : ℕ). m ≤ n) (sym same) all)

pub fact_told : (s : EventStyle) (notes : List world.Note) (moment : ℕ) (facts : List fact.Fact) (i : ℕ) (f : fact.Fact) → slice_get facts i ≡ Some f
    → (a b end line : List ℕ) → IsFactText s notes moment (fact_view f) line → b ≡ a ++ line
    → Adds b end (AreFactTexts s notes moment (drop (i + 1) (map fact_view facts))) → Adds a end (AreFactTexts s notes moment (drop i (map fact_view facts)))
fact_told s notes moment facts i f at a b end line of is rest =
    subst (λ (l : List once.Fact). Adds a end (AreFactTexts s notes moment l)) (sym (drop_seen fact_view facts i f at)) (
      line ++ rest.0,
      (
        record { first = line; others = rest.0; first_is = of; others_are = rest.1.0; is = refl },
        rest.1.1 ∙ (ap (λ (l : List ℕ). l ++ rest.0) is ∙ append_assoc a line rest.0),
      ),
    )

pub facts_told : (s : EventStyle) (notes : List world.Note) (moment : ℕ) (facts : List fact.Fact) (i : ℕ) → length facts ≤ i → (a : List ℕ)
    → Adds a a (AreFactTexts s notes moment (drop i (map fact_view facts)))
facts_told s notes moment facts i all a =
    subst (λ (l : List once.Fact). Adds a a (AreFactTexts s notes moment l)) (sym (none_left fact_view facts i all)) ([], (refl, sym (append-nil a)))

pub copy_told : (s : EventStyle) (moment : ℕ) (copies : List copy.Copy) (i : ℕ) (k : copy.Copy) → slice_get copies i ≡ Some k → (a b end line : List ℕ)
    → IsSentText s moment i (copy_view k) line → b ≡ a ++ line → Adds b end (AreSentTexts s moment (i + 1) (drop (i + 1) (map copy_view copies)))
    → Adds a end (AreSentTexts s moment i (drop i (map copy_view copies)))
copy_told s moment copies i k at a b end line of is rest =
    subst (λ (l : List world.Copy). Adds a end (AreSentTexts s moment i l)) (sym (drop_seen copy_view copies i k at)) (
      line ++ rest.0,
      (
        record { first = line; others = rest.0; first_is = of; others_are = rest.1.0; is = refl },
        rest.1.1 ∙ (ap (λ (l : List ℕ). l ++ rest.0) is ∙ append_assoc a line rest.0),
      ),
    )

pub copies_told : (s : EventStyle) (moment : ℕ) (copies : List copy.Copy) (i : ℕ) → length copies ≤ i → (a : List ℕ)
    → Adds a a (AreSentTexts s moment i (drop i (map copy_view copies)))
copies_told s moment copies i all a =
    subst (λ (l : List world.Copy). Adds a a (AreSentTexts s moment i l)) (sym (none_left copy_view copies i all)) ([], (refl, sym (append-nil a)))

pub news_told : (s : EventStyle) (w : WorldView) (facts copies moment : ℕ) (notes : List note.Note) (log : List fact.Fact) (sent : List copy.Copy) (a b c : List ℕ)
    → a ≡ [] → moment ≡ ms_now w → notes_view notes ≡ w.notes → log_view log ≡ w.log → map copy_view sent ≡ w.copies
    → Adds a b (AreFactTexts s (map note_view notes) moment (drop facts (map fact_view log)))
    → Adds b c (AreSentTexts s moment copies (drop copies (map copy_view sent))) → AreNews s facts copies w c
news_told s w facts copies moment notes log sent a b c none now noted logged copied first second =
    let notes_are : map note_view notes ≡ reverse w.notes = sym (reverse-reverse (map note_view notes)) ∙ ap reverse noted in
    let facts_are : map fact_view log ≡ reverse w.log = sym (reverse-reverse (map fact_view log)) ∙ ap reverse logged in
    record {
      first = first.0;
      others = second.0;
      first_is =
          subst (λ (l : List once.Fact). AreFactTexts s (reverse w.notes) (ms_now w) (drop facts l) first.0) facts_are
          (subst (λ (n : ℕ). AreFactTexts s (reverse w.notes) n (drop facts (map fact_view log)) first.0) now
          (subst (λ (l : List world.Note). AreFactTexts s l moment (drop facts (map fact_view log)) first.0) notes_are first.1.0));
      others_are =
          subst (λ (l : List world.Copy). AreSentTexts s (ms_now w) copies (drop copies l) second.0) copied
          (subst (λ (n : ℕ). AreSentTexts s n copies (drop copies (map copy_view sent)) second.0) now second.1.0);
      is = second.1.1 ∙ ap (λ (l : List ℕ). l ++ second.0) (first.1.1 ∙ ap (λ (l : List ℕ). l ++ first.0) none);
    }

-- ---- why nothing came

pub why_is : (o life now number more : ℕ) (w : WorldView) (copies after : List copy.Copy) (k : copy.Copy) (is_young few : Bool) (r : Why)
    → map copy_view copies ≡ w.copies → slice_get copies number ≡ Some k → after ≡ drop (number + 1) copies
    → more ≡ count_of (copy_view k).key (map copy_view after) → o ≡ w.overtake → life ≡ life_in w → now ≡ w.time.moment
    → is_young ≡ nat_le (now - k.moment) life → few ≡ nat_le more o → r ≡ why_copy is_young few
    → r ≡ why_delivered w number (slice_get w.copies number)
why_is o life now number more w copies after k is_young few r cs at rest count os life_is now_is young_is few_is is =
    let c : world.Copy = copy_view k in
    let there : slice_get w.copies number ≡ Some c
    = ap (λ (l : List world.Copy). slice_get l number) (sym cs) ∙ (slice_get-map copy_view copies number ∙ ap (option_map copy_view) at) in
    let many : more ≡ later c.key number w.copies
    = count ∙ (ap (λ (l : List copy.Copy). count_of c.key (map copy_view l)) rest ∙ (sym (later_is c.key number copies) ∙ ap (later c.key number) cs)) in
    let young : is_young ≡ nat_le (w.time.moment - c.moment) (life_in w)
    = young_is ∙ (ap (λ (t : ℕ). nat_le (t - k.moment) life) now_is ∙ ap (λ (l : ℕ). nat_le (w.time.moment - k.moment) l) life_is) in
    let fewer : few ≡ nat_le (later c.key number w.copies) w.overtake
    = few_is ∙ (ap (λ (l : ℕ). nat_le l o) many ∙ ap (λ (v : ℕ). nat_le (later c.key number w.copies) v) os) in
    is ∙ (ap (λ (b : Bool). why_copy b few) young ∙ (ap (λ (b : Bool). why_copy (nat_le (w.time.moment - c.moment) (life_in w)) b) fewer
    ∙ sym (ap (why_delivered w number) there)))

-- ---- one event

head_at : (s : EventStyle) (now : ℕ) (e : Happening) (w : WorldView) (head : List ℕ) → now ≡ ms_now w → IsHeadText s now e head
    → IsHeadText s (ms_now w) e head
head_at s now e w head is line = subst (λ (n : ℕ). IsHeadText s n e head) is line

pub event_told : (s : EventStyle) (line : ℕ) (e : Event) (told : Option AskFault) (old new : WorldView) (facts copies now : ℕ) (reason : Why)
    → (head outcome text : List ℕ) (a b : Option (List ℕ)) → facts ≡ length old.log → copies ≡ length old.copies → now ≡ ms_now old
    → reason ≡ why_nothing old (happening_view e) → IsHeadText s now (happening_view e) head
    → WorldStepSo old.overtake (reuses_of old) (as_world old) (event_view old.time e) (as_world new)
    → Tells told (as_world old) (event_view old.time e) (as_world new) → new.overtake ≡ old.overtake → new.reuses ≡ old.reuses → new.time ≡ instant_after e old.time
    → IsOutcome s told reason facts copies new outcome → text ≡ head ++ outcome → Appends a b text
    → AppendsText a b (Steps (told_in s) line true (Happens (happening_view e)) old new)
event_told s line e told old new facts copies now reason head outcome text a b fs cs ns why is_head went tells same rules passed is_outcome added printed = (
  text,
  (
    inl (record {
      told = told;
      went = subst (λ (h : world.Event). WorldStepSo old.overtake (reuses_of old) (as_world old) h (as_world new)) (same_event old.time e) went;
      tells = subst (λ (h : world.Event). Tells told (as_world old) h (as_world new)) (same_event old.time e) tells;
      overtake = same;
      reuses = rules;
      time = passed ∙ same_after old.time e;
      is =
          record {
            head = head;
            is_head = head_at s now (happening_view e) old head ns is_head;
            outcome = outcome;
            is_outcome =
                subst (λ (n : ℕ). IsOutcome s told (why_nothing old (happening_view e)) (length old.log) n new outcome) cs
                (subst (λ (n : ℕ). IsOutcome s told (why_nothing old (happening_view e)) n copies new outcome) fs
                (subst (λ (r : Why). IsOutcome s told r facts copies new outcome) why is_outcome));
            is = added;
          };
    }),
    printed,
  ),
)

pub refusal_told : (s : EventStyle) (line : ℕ) (e : Event) (f : WorldFault) (why : ChangeFault) (old new : WorldView) (now number : ℕ)
    → (said head refusal text : List ℕ) (a b : Option (List ℕ)) → change_fault_in f ≡ Some why
    → ((w : ChangeFault) → (IsErrOf (the_err f) (fault.BadChange w) ↔ RefusesChange (as_world old) (event_view old.time e) w))
    → new ≡ old → now ≡ ms_now old → number ≡ change_fault_number why → said ≡ change_fault_words why → IsHeadText s now (happening_view e) head
    → IsRefusalText s now number said refusal → text ≡ head ++ refusal → Appends a b text
    → AppendsText a b (Steps (told_in s) line true (Happens (happening_view e)) old new)
refusal_told s line e f why old new now number said head refusal text a b bad change same ns is said_is is_head is_refusal added printed = (
  text,
  (
    refuses (told_in s) line e f why old new text bad change same (record {
      head = head;
      is_head = head_at s now (happening_view e) old head ns is_head;
      refusal = refusal;
      is_refusal =
          subst (λ (l : List ℕ). IsRefusalText s (ms_now old) (change_fault_number why) l refusal) said_is
          (subst (λ (n : ℕ). IsRefusalText s (ms_now old) n said refusal) is
          (subst (λ (n : ℕ). IsRefusalText s n number said refusal) ns is_refusal));
      is = added;
    }),
    printed,
  ),
)

pub fault_told : (s : EventStyle) (line : ℕ) (e : Event) (f : WorldFault) (old new : WorldView) (number : ℕ) (a b : Option (List ℕ))
    → change_fault_in f ≡ None
    → TellsWhyNot (the_err f) old e
    → new ≡ old → number ≡ fault_number f → AppendsText a b (IsEndText s line number)
    → AppendsText a b (Steps (told_in s) line false (Happens (happening_view e)) old new)
fault_told s line e f old new number a b ends tells same is end = (
  end.0,
  (
    fails (told_in s) line e f old new end.0 ends tells same (subst (λ (n : ℕ). IsEndText s line n end.0) is end.1.0),
    end.1.1,
  ),
)

-- ---- a copy that counts as lost

pub lost_told : (s : EventStyle) (line copy now : ℕ) (w : WorldView) (a b : Option (List ℕ)) → copy < length w.copies → now ≡ ms_now w
    → AppendsText a b (IsLostText s now copy) → AppendsText a b (Steps (told_in s) line true (Lost copy) w w)
lost_told s line copy now w a b sent is told =
    (told.0, (record { sent = sent; same = refl; is = subst (λ (n : ℕ). IsLostText s n copy told.0) is told.1.0 }, told.1.1))

pub no_copy_told : (s : EventStyle) (line copy : ℕ) (w : WorldView) (number : ℕ) (a b : Option (List ℕ)) → length w.copies ≤ copy
    → number ≡ fault_number fault.NoSuchDatagram → AppendsText a b (IsEndText s line number)
    → AppendsText a b (Steps (told_in s) line false (Lost copy) w w)
no_copy_told s line copy w number a b none is end =
    (end.0, (record { none = none; same = refl; is = subst (λ (n : ℕ). IsEndText s line n end.0) is end.1.0 }, end.1.1))

-- ---- clocks

pub clock_passed_told : (s : EventStyle) (line node start : ℕ) (w : WorldView) (a : Option (List ℕ)) → node < length w.nodes
    → AppendsText a a (Steps (told_in s) line true (Began node start) w w)
clock_passed_told s line node start w a there = ([], (clock_began (told_in s) line node start w there, nothing_more a))

pub clock_missing_told : (s : EventStyle) (line node start : ℕ) (w : WorldView) (number : ℕ) (a b : Option (List ℕ)) → length w.nodes ≤ node
    → number ≡ fault_number fault.NoSuchNode → AppendsText a b (IsEndText s line number)
    → AppendsText a b (Steps (told_in s) line false (Began node start) w w)
clock_missing_told s line node start w number a b none is end =
    (end.0, (no_clock (told_in s) line node start w end.0 none (subst (λ (n : ℕ). IsEndText s line n end.0) is end.1.0), end.1.1))

pub pace_told : (s : EventStyle) (line node rate now : ℕ) (old new : WorldView) (a b : Option (List ℕ)) → as_world new ≡ as_world old
    → new.overtake ≡ old.overtake → new.reuses ≡ old.reuses → new.time ≡ record (old.time) { own = paced node rate old.time.own }
    → (1000000 ≤ rate + drift_of old.time.own) × (rate ≤ 1000000 + drift_of old.time.own) → now ≡ ms_now old
    → AppendsText a b (IsPacedText s now node rate) → AppendsText a b (Steps (told_in s) line true (Paced node rate) old new)
pace_told s line node rate now old new a b same overtake rules time within is told = (
  told.0,
  (
    paced_so (told_in s) line node rate old new told.0 same overtake rules time within (subst (λ (n : ℕ). IsPacedText s n node rate told.0) is told.1.0),
    told.1.1,
  ),
)

pub pace_refused_told : (s : EventStyle) (line node rate : ℕ) (f : PaceFault) (old new : WorldView) (number : ℕ) (a b : Option (List ℕ))
    → (IsErrOf (the_pace_err f) pace_fault.NoSuchNode ↔ (slice_get old.nodes node ≡ None))
    → (IsErrOf (the_pace_err f) pace_fault.BadPace → (rate + drift_of old.time.own < 1000000) ⊎ (1000000 + drift_of old.time.own < rate))
    → new ≡ old → number ≡ pace_fault_number f → AppendsText a b (IsEndText s line number)
    → AppendsText a b (Steps (told_in s) line false (Paced node rate) old new)
pace_refused_told s line node rate f old new number a b none beyond same is end = (
  end.0,
  (not_paced (told_in s) line node rate f old new end.0 none beyond same (subst (λ (n : ℕ). IsEndText s line n end.0) is end.1.0), end.1.1),
)

-- ---- no line more

pub no_line_told : (t : Printing ℕ) (line : ℕ) (lines : List script.ScriptLine) (i : ℕ) → length lines ≤ i → (w : WorldView) (a : Option (List ℕ))
    → AppendsText a a (Runs t line (drop i (map line_view lines)) true w w)
no_line_told t line lines i all w a = (
  [],
  (subst (λ (l : List ScriptLine). Runs t line l true w w []) (sym (none_left line_view lines i all)) (refl, refl), nothing_more a),
)
