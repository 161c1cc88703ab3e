-- Events, one after the other, and what is printed of them.
use Rattle.std.proofs.Common.{◌≡◌, ◌↔◌, ℕ, ◌+◌, ◌<◌, ◌≤◌, true, false, Bool, List, [], ◌∷◌, ◌++◌, length, map, drop, Option, Some, None, Result, Err}
use Rattle.std.proofs.Common.{IsErrOf, ◌⊎◌, inl, inr}
use Rattle.std.proofs.Common.{refl, sym, ap, subst, ◌∙◌, slice_get}
use Rattle.std.specs.Io.KnownBytes.{Appends}
use Rattle.bac_requester.specs.declared.ask_fault.AskFault.{AskFault}
use Rattle.bac_world.specs.World as world
use Rattle.bac_world.specs.ReusingWorlds.{WorldStepSo}
use Rattle.bac_network.specs.Faults.{fault_number}
use Rattle.bac_network.specs.Clocks.{Instant}
use Rattle.bac_network.specs.Histories.{WorldView, as_world, reuses_of}
use Rattle.bac_network.specs.Views.{event_view, instant_after}
use Rattle.bac_network.specs.declared.event.Event.{Event}
use Rattle.bac_network.specs.declared.event.Event.TheVariants as event
use Rattle.bac_store.specs.AtNode.{change_fault_number}
use Rattle.bac_store.specs.declared.change_fault.ChangeFault.{ChangeFault}
use Rattle.bac_network.specs.Runs.{TellsWhyNot}
use Rattle.bac_network.specs.Steps.{IsFault, RefusesChange, Tells}
use Rattle.bac_network.proofs.WorldRunning.{fault_is}
use Rattle.bac_simulate.specs.declared.script.ScriptLine as code
use Rattle.bac_simulate.specs.Scripts.{ScriptLine, Happens, Lost, Note, Began, Paced}
use Rattle.bac_simulate.specs.Happenings.{event_at, time_after}
use Rattle.bac_simulate.specs.Views.{happening_view, line_view}
use Rattle.bac_journal.specs.Clocks.{drift_of, paced}
use Rattle.bac_network.specs.declared.fault.PaceFault.{PaceFault}
use Rattle.bac_network.specs.declared.fault.PaceFault.TheVariants as pace_fault
use Rattle.bac_network.specs.declared.fault.WorldFault.{WorldFault}
use Rattle.bac_network.specs.declared.fault.WorldFault.TheVariants as fault
use Rattle.bac_commands.specs.Facts.{fault_line, refused_line}
use Rattle.bac_text.specs.Texts.{AppendsText}
use Rattle.bac_simulate.specs.Printed.{lost_line, outcome_text, paced_line}
use Rattle.bac_simulate.specs.Runs.{IsPaceFault, IsStep, Passed, Runs, Steps, Printing, change_fault_in, in_text, pace_fault_number}
use Rattle.bac_simulate.proofs.Appending.{drop_seen, joined, nothing_more}

-- ---- one event

pub same_event : (t : Instant) (e : Event) → event_view t e ≡ event_at t (happening_view e)
same_event t (event.Ask client server limits request) = refl
same_event t (event.Deliver number) = refl
same_event t (event.Noise node from octets) = refl
same_event t (event.Tick node) = refl
same_event t (event.Advance by) = refl
same_event t (event.Change node change) = refl
same_event t (event.Restart node store) = refl
same_event t (event.Begin node) = refl
same_event t (event.BeginAgain node first_id store) = refl
same_event t (event.Stranger node from octets) = refl
same_event t (event.AskStranger node peer limits request) = refl

pub same_after : (t : Instant) (e : Event) → instant_after e t ≡ time_after (happening_view e) t
same_after t (event.Ask client server limits request) = refl
same_after t (event.Deliver number) = refl
same_after t (event.Noise node from octets) = refl
same_after t (event.Tick node) = refl
same_after t (event.Advance by) = refl
same_after t (event.Change node change) = refl
same_after t (event.Restart node store) = refl
same_after t (event.Begin node) = refl
same_after t (event.BeginAgain node first_id store) = refl
same_after t (event.Stranger node from octets) = refl
same_after t (event.AskStranger node peer limits request) = refl

pub happened : (line : ℕ) (e : Event) (told : Option AskFault) (old new : WorldView) (facts copies : ℕ) (a b : Option (List ℕ))
    → facts ≡ length old.log → copies ≡ length old.copies → WorldStepSo old.overtake (reuses_of old) (as_world old) (event_view old.time e) (as_world new)
    → Tells told (as_world old) (event_view old.time e) (as_world new)
    → new.overtake ≡ old.overtake → new.reuses ≡ old.reuses → new.time ≡ instant_after e old.time → Appends a b (outcome_text told facts copies new)
    → AppendsText a b (IsStep line true (Happens (happening_view e)) old new)
happened line e told old new facts copies a b fs cs went tells same rules passed printed = (
  outcome_text told facts copies new,
  (
    inl (record {
      told = told;
      went = subst (λ (h : world.Event). WorldStepSo old.overtake (reuses_of old) (as_world old) h (as_world new)) (same_event old.time e) went;
      tells = subst (λ (h : world.Event). Tells told (as_world old) h (as_world new)) (same_event old.time e) tells;
      overtake = same;
      reuses = rules;
      time = passed ∙ same_after old.time e;
      is = ap (λ (n : ℕ). outcome_text told n copies new) fs ∙ ap (λ (n : ℕ). outcome_text told (length old.log) n new) cs;
    }),
    printed,
  ),
)

abbrev pub the_err : WorldFault → Result (Option AskFault) WorldFault
the_err f = Err f

abbrev pub the_pace_err : PaceFault → Result (Unit {0}) PaceFault
the_pace_err f = Err f

pub fails : {A : Type 0} (t : Printing A) (line : ℕ) (e : Event) (f : WorldFault) (old new : WorldView) (said : List A) → change_fault_in f ≡ None
    → TellsWhyNot (the_err f) old e
    → new ≡ old → t.ended line (fault_number f) said → Steps t line false (Happens (happening_view e)) old new said
fails t line e f old new said ends tells same is =
    record {
      fault = f;
      ends = ends;
      why =
          subst (IsFault f old.overtake (as_world old)) (same_event old.time e)
          (fault_is f old e (the_err f) refl tells);
      same = same;
      is = is;
    }

pub stopped : (line : ℕ) (e : Event) (f : WorldFault) (old new : WorldView) (number : ℕ) (a b : Option (List ℕ)) → change_fault_in f ≡ None
    → TellsWhyNot (the_err f) old e
    → new ≡ old → number ≡ fault_number f → Appends a b (fault_line line number) → AppendsText a b (IsStep line false (Happens (happening_view e)) old new)
stopped line e f old new number a b ends tells same is printed = (
  fault_line line (fault_number f),
  (
    fails in_text line e f old new (fault_line line (fault_number f)) ends tells same refl,
    subst (λ (n : ℕ). Appends a b (fault_line line n)) is printed,
  ),
)

bad_change : (f : WorldFault) (why : ChangeFault) → change_fault_in f ≡ Some why → the_err f ≡ the_err (fault.BadChange why)
bad_change fault.NoSuchNode why e = absurd cc
bad_change fault.NoSuchDatagram why e = absurd cc
bad_change fault.NodeLink why e = absurd cc
bad_change fault.TooSoon why e = absurd cc
bad_change fault.ClockEnd why e = absurd cc
bad_change (fault.BadChange other) why e = ap (λ (w : ChangeFault). the_err (fault.BadChange w)) (let same : Some other ≡ Some why = e in cc)
bad_change fault.NoMemory why e = absurd cc

pub refuses : {A : Type 0} (t : Printing A) (line : ℕ) (e : Event) (f : WorldFault) (why : ChangeFault) (old new : WorldView) (said : List A)
    → change_fault_in f ≡ Some why → ((w : ChangeFault) → (IsErrOf (the_err f) (fault.BadChange w) ↔ RefusesChange (as_world old) (event_view old.time e) w))
    → new ≡ old → t.refused why (happening_view e) old said → Steps t line true (Happens (happening_view e)) old new said
refuses t line e f why old new said bad change same is =
    let refused = subst (λ (h : world.Event). RefusesChange (as_world old) h why) (same_event old.time e) ((change why).0 (bad_change f why bad)) in
    inr (record { fault = why; why = refused; same = same; is = is })

pub turned_down : (line : ℕ) (e : Event) (f : WorldFault) (why : ChangeFault) (old new : WorldView) (number : ℕ) (a b : Option (List ℕ))
    → change_fault_in f ≡ Some why
    → ((w : ChangeFault) → (IsErrOf (the_err f) (fault.BadChange w) ↔ RefusesChange (as_world old) (event_view old.time e) w))
    → new ≡ old → number ≡ change_fault_number why → Appends a b (refused_line number) → AppendsText a b (IsStep line true (Happens (happening_view e)) old new)
turned_down line e f why old new number a b bad change same is printed = (
  refused_line (change_fault_number why),
  (refuses in_text line e f why old new (refused_line (change_fault_number why)) bad change same refl, subst (λ (n : ℕ). Appends a b (refused_line n)) is printed),
)

-- ---- a copy that counts as lost

pub counted_lost : (line copy : ℕ) (w : WorldView) (a b : Option (List ℕ)) → copy < length w.copies → Appends a b (lost_line copy)
    → AppendsText a b (IsStep line true (Lost copy) w w)
counted_lost line copy w a b sent printed = (lost_line copy, (record { sent = sent; same = refl; is = refl }, printed))

pub not_sent : (line copy : ℕ) (w : WorldView) (number : ℕ) (a b : Option (List ℕ)) → length w.copies ≤ copy → number ≡ fault_number fault.NoSuchDatagram
    → Appends a b (fault_line line number) → AppendsText a b (IsStep line false (Lost copy) w w)
not_sent line copy w number a b none is printed =
    (fault_line line number, (record { none = none; same = refl; is = ap (λ (n : ℕ). fault_line line n) is }, printed))

pub noted : (line : ℕ) (w : WorldView) (a : Option (List ℕ)) → AppendsText a a (IsStep line true Note w w)
noted line w a = ([], ((refl, refl), nothing_more a))

-- ---- clocks

pub clock_began : {A : Type 0} (t : Printing A) (line node start : ℕ) (w : WorldView) → node < length w.nodes → Steps t line true (Began node start) w w []
clock_began t line node start w there = record { there = there; same = refl; is = refl }

pub no_clock : {A : Type 0} (t : Printing A) (line node start : ℕ) (w : WorldView) (said : List A) → length w.nodes ≤ node
    → t.ended line (fault_number fault.NoSuchNode) said → Steps t line false (Began node start) w w said
no_clock t line node start w said none is = record { none = none; same = refl; is = is }

pub paced_so : {A : Type 0} (t : Printing A) (line node rate : ℕ) (old new : WorldView) (said : List A) → as_world new ≡ as_world old
    → new.overtake ≡ old.overtake → new.reuses ≡ old.reuses → new.time ≡ record (old.time) { own = paced node rate old.time.own }
    → (1000000 ≤ rate + drift_of old.time.own) × (rate ≤ 1000000 + drift_of old.time.own) → t.clock old node rate said
    → Steps t line true (Paced node rate) old new said
paced_so t line node rate old new said same overtake rules time within is =
    record { slow = within.0; fast = within.1; same = same; overtake = overtake; reuses = rules; time = time; is = is }

pub pace_fault_is : (f : PaceFault) (node rate : ℕ) (w : WorldView)
    → (IsErrOf (the_pace_err f) pace_fault.NoSuchNode ↔ (slice_get w.nodes node ≡ None))
    → (IsErrOf (the_pace_err f) pace_fault.BadPace → (rate + drift_of w.time.own < 1000000) ⊎ (1000000 + drift_of w.time.own < rate))
    → IsPaceFault f node rate w
pace_fault_is pace_fault.NoSuchNode node rate w none beyond = none.0 refl
pace_fault_is pace_fault.BadPace node rate w none beyond = beyond refl

pub not_paced : {A : Type 0} (t : Printing A) (line node rate : ℕ) (f : PaceFault) (old new : WorldView) (said : List A)
    → (IsErrOf (the_pace_err f) pace_fault.NoSuchNode ↔ (slice_get old.nodes node ≡ None))
    → (IsErrOf (the_pace_err f) pace_fault.BadPace → (rate + drift_of old.time.own < 1000000) ⊎ (1000000 + drift_of old.time.own < rate))
    → new ≡ old → t.ended line (pace_fault_number f) said → Steps t line false (Paced node rate) old new said
not_paced t line node rate f old new said none beyond same is =
    record { fault = f; why = pace_fault_is f node rate old none beyond; same = same; is = is }

-- in lines of text
pub clock_passed : (line node start : ℕ) (w : WorldView) (a : Option (List ℕ)) → node < length w.nodes → AppendsText a a (IsStep line true (Began node start) w w)
clock_passed line node start w a there = ([], (clock_began in_text line node start w there, nothing_more a))

pub clock_missing : (line node start : ℕ) (w : WorldView) (number : ℕ) (a b : Option (List ℕ)) → length w.nodes ≤ node
    → number ≡ fault_number fault.NoSuchNode → Appends a b (fault_line line number) → AppendsText a b (IsStep line false (Began node start) w w)
clock_missing line node start w number a b none is printed = (
  fault_line line number,
  (no_clock in_text line node start w (fault_line line number) none (ap (λ (n : ℕ). fault_line line n) is), printed),
)

pub pace_printed : (line node rate : ℕ) (old new : WorldView) (a b : Option (List ℕ)) → as_world new ≡ as_world old → new.overtake ≡ old.overtake → new.reuses ≡ old.reuses
    → new.time ≡ record (old.time) { own = paced node rate old.time.own }
    → (1000000 ≤ rate + drift_of old.time.own) × (rate ≤ 1000000 + drift_of old.time.own) → Appends a b (paced_line node rate)
    → AppendsText a b (IsStep line true (Paced node rate) old new)
pace_printed line node rate old new a b same overtake rules time within printed =
    (paced_line node rate, (paced_so in_text line node rate old new (paced_line node rate) same overtake rules time within refl, printed))

pub pace_refused : (line node rate : ℕ) (f : PaceFault) (old new : WorldView) (number : ℕ) (a b : Option (List ℕ))
    → (IsErrOf (the_pace_err f) pace_fault.NoSuchNode ↔ (slice_get old.nodes node ≡ None))
    → (IsErrOf (the_pace_err f) pace_fault.BadPace → (rate + drift_of old.time.own < 1000000) ⊎ (1000000 + drift_of old.time.own < rate))
    → new ≡ old → number ≡ pace_fault_number f → Appends a b (fault_line line number) → AppendsText a b (IsStep line false (Paced node rate) old new)
pace_refused line node rate f old new number a b none beyond same is printed = (
  fault_line line number,
  (not_paced in_text line node rate f old new (fault_line line number) none beyond same (ap (λ (n : ℕ). fault_line line n) is), printed),
)

-- ---- one line more

more_true : {A : Type 0} (t : Printing A) (line : ℕ) (e : ScriptLine) (lines : List ScriptLine) (old mid new : WorldView) (first rest : List A)
    → Passed t e old mid first → Runs t (line + 1) lines true mid new rest → Runs t line (e ∷ lines) true old new (first ++ rest)
more_true t line e lines old mid new first rest h r = (mid, first, rest, h, r, refl)

more_false : {A : Type 0} (t : Printing A) (line : ℕ) (e : ScriptLine) (lines : List ScriptLine) (old mid new : WorldView) (first rest : List A)
    → Passed t e old mid first → Runs t (line + 1) lines false mid new rest → Runs t line (e ∷ lines) false old new (first ++ rest)
more_false t line e lines old mid new first rest h r = inr (mid, first, rest, h, r, refl)

pub more : {A : Type 0} (t : Printing A) (all : Bool) (line : ℕ) (e : ScriptLine) (lines : List ScriptLine) (old mid new : WorldView) (first rest : List A)
    → Passed t e old mid first → Runs t (line + 1) lines all mid new rest → Runs t line (e ∷ lines) all old new (first ++ rest)
more t true line e lines old mid new first rest h r = more_true t line e lines old mid new first rest h r
more t false line e lines old mid new first rest h r = more_false t line e lines old mid new first rest h r

pub goes_on : (t : Printing ℕ) (all : Bool) (line : ℕ) (lines : List code.ScriptLine) (i : ℕ) (e : code.ScriptLine) → slice_get lines i ≡ Some e
    → (old mid new : WorldView) (a b c : Option (List ℕ)) → (went : Bool) → went ≡ true → AppendsText a b (Steps t line went (line_view e) old mid)
    → (next : ℕ) → next ≡ line + 1 → AppendsText b c (Runs t next (drop (i + 1) (map line_view lines)) all mid new)
    → AppendsText a c (Runs t line (drop i (map line_view lines)) all old new)
goes_on t all line lines i e at old mid new a b c went is stepped next on ran =
    let step = subst (λ (w : Bool). AppendsText a b (Steps t line w (line_view e) old mid)) is stepped in
    let rest = subst (λ (n : ℕ). AppendsText b c (Runs t n (drop (i + 1) (map line_view lines)) all mid new)) on ran in (
      step.0 ++ rest.0,
      (
        subst (λ (l : List ScriptLine). Runs t line l all old new (step.0 ++ rest.0)) (sym (drop_seen line_view lines i e at))
            (more t all line (line_view e) (drop (i + 1) (map line_view lines)) old mid new step.0 rest.0 step.1.0 rest.1.0),
        joined a b c step.0 rest.0 step.1.1 rest.1.1,
      ),
    )

pub stops : (t : Printing ℕ) (line : ℕ) (lines : List code.ScriptLine) (i : ℕ) (e : code.ScriptLine) → slice_get lines i ≡ Some e → (old new : WorldView)
    (a b : Option (List ℕ)) → (went : Bool) → went ≡ false → AppendsText a b (Steps t line went (line_view e) old new)
    → AppendsText a b (Runs t line (drop i (map line_view lines)) false old new)
stops t line lines i e at old new a b went is stepped =
    let step = subst (λ (w : Bool). AppendsText a b (Steps t line w (line_view e) old new)) is stepped in (
      step.0,
      (subst (λ (l : List ScriptLine). Runs t line l false old new step.0) (sym (drop_seen line_view lines i e at)) (inl step.1.0), step.1.1),
    )
