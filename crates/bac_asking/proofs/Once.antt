-- Each line is asked once.
use Rattle.std.proofs.Common.{◌≡◌, ◌≢◌, ◌⊎◌, ◌≤◌, ◌<◌, ℕ, zero, suc, ◌+◌, Bool, true, false, List, [], ◌∷◌, ◌++◌, length, map, Option, Some, None, if◌then◌else◌, refl, sym, subst, ap, ◌∙◌, inl, inr, arith, slice_get, slice_set}
use Rattle.std.proofs.Math.Dec.{eqb}
use Rattle.std.proofs.lemmas.Bool.Decides.{eqb_tells}
use Rattle.std.specs.List.{position, remove}
use Rattle.bac_requester.specs.declared.reaction.Ended.{Ended}
use Rattle.bac_driver.specs.Runs.{Run, Timed}
use Rattle.bac_driver.specs.declared.question.AskEnd.{AskEnd}
use Rattle.bac_driver.specs.declared.wait_limit.WaitLimit.{WaitLimit}
use Rattle.bac_asking.specs.Fleets.{NEW_FLEET}
use Rattle.bac_asking.specs.InFlight.{Aloft, BeginsLine, Event, GivesUp, Happens, IsTakenUp, Plan, PrintsFrom, Sky, TakesTurn, all_noted, aloft, asks_in, closed_at, closed_flight, ended_in, has_ticket, here, is_on, new_sky, no_end, noted, waiting_from}
use Rattle.bac_asking.specs.InFlight.Event.{Began, Held, LeavingWentOn, Left, WentOn}
use Rattle.bac_environment.specs.Sockets.{Links}
use Rattle.bac_asking.specs.declared.flights.Begun.{Begun}
use Rattle.bac_asking.specs.declared.flights.Begun.TheVariants as begun
use Rattle.bac_asking.specs.declared.flights.Flight.{Flight}
use Rattle.bac_asking.specs.declared.flights.Waiting.{Waiting}
use Rattle.bac_environment.specs.declared.question_lines.LineQuestion.{LineQuestion}

-- ---- the lines that wait

-- how often a line is among those that wait
abbrev waits : (place : ℕ) → List Waiting → ℕ
waits place [] = 0
waits place (w ∷ ws) = here place w.place + waits place ws

-- one that goes was among them
waits_removed : (place : ℕ) (xs : List Waiting) (i : ℕ) (w : Waiting) → slice_get xs i ≡ Some w
    → waits place xs ≡ here place w.place + waits place (remove xs i)
waits_removed place [] i w e = absurd cc
waits_removed place (x ∷ xs) zero w e =
    let same : x ≡ w = cc in ap (λ (y : Waiting). here place y.place + waits place xs) same
waits_removed place (x ∷ xs) (suc i) w e = let more = waits_removed place xs i w e in omega (arith, more)

-- a line waits at most once at first, and none before the first place
first_waits : (place from rest : ℕ) → ((eqb from place ≡ true) × (from ≡ place)) ⊎ ((eqb from place ≡ false) × (from ≢ place))
    → (rest ≤ 1) × (place < from + 1 → rest ≡ 0) → (here place from + rest ≤ 1) × (place < from → here place from + rest ≡ 0)
first_waits place from rest (inl same) others =
    let one : here place from ≡ 1 = ap (λ (b : Bool). if b then 1 else 0) same.0 in
    let is : from ≡ place = same.1 in
    let none : rest ≡ 0 = others.1 (omega (arith, is)) in
    (omega (arith, one, none), λ before. absurd (omega (arith, is, before)))
first_waits place from rest (inr other) others =
    let no : here place from ≡ 0 = ap (λ (b : Bool). if b then 1 else 0) other.0 in
    let most : rest ≤ 1 = others.0 in
    (omega (arith, no, most), λ before. let none : rest ≡ 0 = others.1 (omega (arith, before)) in omega (arith, no, none))

waits_first : (place from : ℕ) (lines : List LineQuestion)
    → (waits place (waiting_from from lines) ≤ 1) × (place < from → waits place (waiting_from from lines) ≡ 0)
waits_first place from [] = (omega arith, λ before. refl)
waits_first place from (line ∷ lines) =
    first_waits place from (waits place (waiting_from (from + 1) lines)) (eqb_tells from place) (waits_first place (from + 1) lines)

-- ---- what leaves them as they are

closed_keeps : (f : Option Flight) (at : ℕ) (how : AskEnd) (s : Sky) → (closed_flight f at how s).waiting ≡ s.waiting
closed_keeps None at how s = refl
closed_keeps (Some f) at how s = refl

closed_at_keeps : (at : Option ℕ) (how : AskEnd) (s : Sky) → (closed_at at how s).waiting ≡ s.waiting
closed_at_keeps None how s = refl
closed_at_keeps (Some at) how s = closed_keeps (slice_get s.flights at) at how s

all_keeps : (node : ℕ) (fs : List Ended) (s : Sky) → (all_noted node fs s).waiting ≡ s.waiting
all_keeps node [] s = refl
all_keeps node (f ∷ fs) s = all_keeps node fs (noted node f s) ∙ closed_at_keeps (position (has_ticket node f.ticket) s.flights) _ s

turn_keeps : (node : ℕ) (p : WaitLimit) (before after : Timed) (old new : Sky)
    → TakesTurn node p before after old new ⊎ GivesUp node p before after old new → new.waiting ≡ old.waiting
turn_keeps node p before after old new (inl takes) =
    ap (λ (s : Sky). s.waiting) takes.noted
    ∙ (all_keeps node (ended_in takes.turn.ticked) (all_noted node (ended_in takes.turn.heard) old) ∙ all_keeps node (ended_in takes.turn.heard) old)
turn_keeps node p before after old new (inr gives) =
    ap (λ (s : Sky). s.waiting) gives.closed ∙ closed_at_keeps (position (is_on node) old.flights) _ old

-- ---- what happens

taken_from : (at node : ℕ) (b : Begun) (old new : Sky) → IsTakenUp at node b old new → new.waiting ≡ remove old.waiting at
taken_from at node (begun.Accepted ticket wait_limit) old new taken = taken.waiting
taken_from at node (begun.Refused why) old new taken = taken.waiting

begun_once : (IsOn : Links) (plan : Plan) (place at : ℕ) (old new : Aloft) → BeginsLine IsOn plan at old new
    → here place at + waits place new.sky.waiting ≡ waits place old.sky.waiting
begun_once IsOn plan place at old new begins =
    let went = waits_removed place old.sky.waiting begins.at begins.waiting begins.is in
    let same : here place begins.waiting.place ≡ here place at = ap (here place) begins.same in
    let left : waits place new.sky.waiting ≡ waits place (remove old.sky.waiting begins.at) =
    ap (waits place) (taken_from begins.at new.fleet.number begins.begun old.sky new.sky begins.taken) in
    omega (arith, went, same, left)

-- as often as the ask of a line begins, the line waits no longer
run_once : (IsOn : Links) (plan : Plan) (place : ℕ) (events : List Event) (old new : Aloft) → Run (Happens IsOn plan) events old new
    → asks_in place events + waits place new.sky.waiting ≡ waits place old.sky.waiting
run_once IsOn plan place [] old new ran =
    let same : waits place new.sky.waiting ≡ waits place old.sky.waiting = ap (λ (a : Aloft). waits place a.sky.waiting) ran in omega (arith, same)
run_once IsOn plan place (Began at ∷ events) old new ran =
    let before = run_once IsOn plan place events old ran.middle ran.so_far in
    let last = begun_once IsOn plan place at ran.middle new ran.last in
    omega (arith, before, last)
run_once IsOn plan place (Held at ∷ events) old new ran =
    let before = run_once IsOn plan place events old ran.middle ran.so_far in
    let same : waits place new.sky.waiting ≡ waits place ran.middle.sky.waiting = ap (λ (s : Sky). waits place s.waiting) ran.last.same in
    omega (arith, before, same)
run_once IsOn plan place (WentOn p ∷ events) old new ran =
    let before = run_once IsOn plan place events old ran.middle ran.so_far in
    let same : waits place new.sky.waiting ≡ waits place ran.middle.sky.waiting =
    ap (waits place) (turn_keeps ran.middle.fleet.number p ran.middle.at new.at ran.middle.sky new.sky ran.last.goes.went) in
    omega (arith, before, same)
run_once IsOn plan place (LeavingWentOn node p ∷ events) old new ran =
    let before = run_once IsOn plan place events old ran.middle ran.so_far in
    let same : waits place new.sky.waiting ≡ waits place ran.middle.sky.waiting =
    ap (waits place) (turn_keeps node p _ _ ran.middle.sky new.sky ran.last.goes.went) in
    omega (arith, before, same)
run_once IsOn plan place (Left node ∷ events) old new ran =
    let before = run_once IsOn plan place events old ran.middle ran.so_far in
    let same : waits place new.sky.waiting ≡ waits place ran.middle.sky.waiting = ap (λ (s : Sky). waits place s.waiting) ran.last.others.1 in
    omega (arith, before, same)

asks_append : (place : ℕ) (later first : List Event) → asks_in place (later ++ first) ≡ asks_in place later + asks_in place first
asks_append place [] first = omega arith
asks_append place (Began at ∷ later) first = let more = asks_append place later first in omega (arith, more)
asks_append place (Held at ∷ later) first = asks_append place later first
asks_append place (WentOn p ∷ later) first = asks_append place later first
asks_append place (LeavingWentOn node p ∷ later) first = asks_append place later first
asks_append place (Left node ∷ later) first = asks_append place later first

printed_once : (IsOn : Links) (plan : Plan) (place from count : ℕ) (events : List Event) (all : Bool) (before : Aloft) (after : Timed)
    (old new : Option (List ℕ)) → PrintsFrom IsOn plan from count events all before after old new → asks_in place events ≤ waits place before.sky.waiting
printed_once IsOn plan place from zero events all before after old new prints =
    let none : asks_in place events ≡ 0 = ap (asks_in place) prints.0 in omega (arith, none)
printed_once IsOn plan place from (suc count) events all before after old new prints =
    let ends = prints.first.ends in
    let later = printed_once IsOn plan place (from + 1) count prints.later prints.rest prints.middle after prints.between new prints.others in
    let first = run_once IsOn plan place ends.goes.events before ends.ended ends.goes.run in
    let same : waits place prints.middle.sky.waiting ≡ waits place ends.ended.sky.waiting = ap (λ (s : Sky). waits place s.waiting) ends.taken.is in
    let both : asks_in place events ≡ asks_in place prints.later + asks_in place ends.goes.events =
    ap (asks_in place) prints.are ∙ asks_append place prints.later ends.goes.events in
    omega (arith, later, first, same, both)

asked_at_most_once : (IsOn : Links) (plan : Plan) (place count : ℕ) (events : List Event) (all : Bool) (before : Aloft) (after : Timed)
    (lines : List LineQuestion) (old new : Option (List ℕ)) → before.sky.waiting ≡ waiting_from 0 lines
    → PrintsFrom IsOn plan 0 count events all before after old new → asks_in place events ≤ 1
asked_at_most_once IsOn plan place count events all before after lines old new waiting prints =
    let most = printed_once IsOn plan place 0 count events all before after old new prints in
    let same : waits place before.sky.waiting ≡ waits place (waiting_from 0 lines) = ap (waits place) waiting in
    let one = (waits_first place 0 lines).0 in
    omega (arith, most, same, one)

-- ---- a line that was not asked

-- how often the ask of a line is under way
abbrev flies : (place : ℕ) → List Flight → ℕ
flies place [] = 0
flies place (f ∷ fs) = here place f.line.place + flies place fs

-- no ask of the line is under way, and none has ended
record IsUnasked (place : ℕ) (s : Sky) : Type 0 where
  none : flies place s.flights ≡ 0
  no_end : (how : AskEnd) → slice_get s.ends place ≡ Some (Some how) → ⊥

here_same : (place : ℕ) → here place place ≡ 1
here_same place = go (eqb_tells place place)
  where
    go : ((eqb place place ≡ true) × (place ≡ place)) ⊎ ((eqb place place ≡ false) × (place ≢ place)) → here place place ≡ 1
    go (inl same) = ap (λ (b : Bool). if b then 1 else 0) same.0
    go (inr other) = absurd (other.1 refl)

here_other : (place at : ℕ) → here place at ≡ 0 → at ≢ place
here_other place at none same =
    let one : here place at ≡ 1 = ap (here place) same ∙ here_same place in
    omega (arith, none, one)

flies_more : (place : ℕ) (fs : List Flight) (f : Flight) → flies place (fs ++ f ∷ []) ≡ flies place fs + here place f.line.place
flies_more place [] f = omega arith
flies_more place (g ∷ fs) f = let more = flies_more place fs f in omega (arith, more)

flies_removed : (place : ℕ) (fs : List Flight) (i : ℕ) (f : Flight) → slice_get fs i ≡ Some f
    → flies place fs ≡ here place f.line.place + flies place (remove fs i)
flies_removed place [] i f e = absurd cc
flies_removed place (g ∷ fs) zero f e =
    let same : g ≡ f = cc in ap (λ (h : Flight). here place h.line.place + flies place fs) same
flies_removed place (g ∷ fs) (suc i) f e = let more = flies_removed place fs i f e in omega (arith, more)

get_set_other : {A : Type 0} (xs : List A) (i j : ℕ) (x : A) → i ≢ j → slice_get (slice_set xs i x) j ≡ slice_get xs j
get_set_other [] i j x ne = refl
get_set_other (y ∷ xs) zero zero x ne = absurd (ne refl)
get_set_other (y ∷ xs) zero (suc j) x ne = refl
get_set_other (y ∷ xs) (suc i) zero x ne = refl
get_set_other (y ∷ xs) (suc i) (suc j) x ne = get_set_other xs i j x (λ e. ne (ap suc e))

-- the end of another line was noted, or taken
ends_apart : (place at : ℕ) (end : Option AskEnd) (s : Sky) → at ≢ place → IsUnasked place s
    → IsUnasked place (record s { ends = slice_set s.ends at end })
ends_apart place at end s ne unasked =
    record { none = unasked.none; no_end = λ how is. unasked.no_end how (sym (get_set_other s.ends at place end ne) ∙ is) }

closed_apart : (place : ℕ) (f : Option Flight) (at : ℕ) (how : AskEnd) (s : Sky) → slice_get s.flights at ≡ f → IsUnasked place s
    → IsUnasked place (closed_flight f at how s)
closed_apart place None at how s is unasked = unasked
closed_apart place (Some f) at how s is unasked =
    let split = flies_removed place s.flights at f is in
    let none = unasked.none in
    let other : here place f.line.place ≡ 0 = omega (arith, split, none) in
    let rest : flies place (remove s.flights at) ≡ 0 = omega (arith, split, none) in
    ends_apart place f.line.place (Some how) (record s { flights = remove s.flights at }) (here_other place f.line.place other)
    (record { none = rest; no_end = unasked.no_end })

closed_at_apart : (place : ℕ) (at : Option ℕ) (how : AskEnd) (s : Sky) → IsUnasked place s → IsUnasked place (closed_at at how s)
closed_at_apart place None how s unasked = unasked
closed_at_apart place (Some at) how s unasked = closed_apart place (slice_get s.flights at) at how s refl unasked

all_apart : (place node : ℕ) (fs : List Ended) (s : Sky) → IsUnasked place s → IsUnasked place (all_noted node fs s)
all_apart place node [] s unasked = unasked
all_apart place node (f ∷ fs) s unasked =
    all_apart place node fs (noted node f s) (closed_at_apart place (position (has_ticket node f.ticket) s.flights) _ s unasked)

turn_apart : (place node : ℕ) (p : WaitLimit) (before after : Timed) (old new : Sky)
    → TakesTurn node p before after old new ⊎ GivesUp node p before after old new → IsUnasked place old → IsUnasked place new
turn_apart place node p before after old new (inl takes) unasked =
    subst (IsUnasked place) (sym takes.noted)
    (all_apart place node (ended_in takes.turn.ticked) _ (all_apart place node (ended_in takes.turn.heard) old unasked))
turn_apart place node p before after old new (inr gives) unasked =
    subst (IsUnasked place) (sym gives.closed) (closed_at_apart place (position (is_on node) old.flights) _ old unasked)

-- the ask of another line began, or ended before it began
begun_apart : (place at node : ℕ) (line : Waiting) (b : Begun) (old new : Sky) → here place line.place ≡ 0 → slice_get old.waiting at ≡ Some line
    → IsTakenUp at node b old new → IsUnasked place old → IsUnasked place new
begun_apart place at node line (begun.Accepted ticket wait_limit) old new other is taken unasked =
    let added : Flight = record { line = taken.line; node = node; ticket = ticket; wait_limit = wait_limit } in
    let same : taken.line ≡ line = let both : Some taken.line ≡ Some line = sym taken.is ∙ is in cc in
    let more = flies_more place old.flights added in
    let here_is : here place taken.line.place ≡ 0 = ap (λ (w : Waiting). here place w.place) same ∙ other in
    let none = unasked.none in
    let new_is : flies place new.flights ≡ flies place (old.flights ++ added ∷ []) = ap (flies place) taken.flights in
    record {
      none = omega (arith, more, here_is, none, new_is);
      no_end = λ how ended. unasked.no_end how (ap (λ (e : List (Option AskEnd)). slice_get e place) (sym taken.ends) ∙ ended);
    }
begun_apart place at node line (begun.Refused why) old new other is taken unasked =
    let same : taken.line ≡ line = let both : Some taken.line ≡ Some line = sym taken.is ∙ is in cc in
    let here_is : here place taken.line.place ≡ 0 = ap (λ (w : Waiting). here place w.place) same ∙ other in
    let ne : taken.line.place ≢ place = here_other place taken.line.place here_is in
    record {
      none = ap (flies place) taken.flights ∙ unasked.none;
      no_end =
          λ how ended.
          unasked.no_end how
          (sym (get_set_other old.ends taken.line.place place _ ne) ∙ (ap (λ (e : List (Option AskEnd)). slice_get e place) (sym taken.ends) ∙ ended));
    }

line_apart : (IsOn : Links) (plan : Plan) (place at : ℕ) (old new : Aloft) → here place at ≡ 0 → BeginsLine IsOn plan at old new
    → IsUnasked place old.sky → IsUnasked place new.sky
line_apart IsOn plan place at old new other begins unasked =
    begun_apart place begins.at new.fleet.number begins.waiting begins.begun old.sky new.sky (ap (here place) begins.same ∙ other) begins.is begins.taken unasked

-- a line whose ask does not begin stays so
run_apart : (IsOn : Links) (plan : Plan) (place : ℕ) (events : List Event) (old new : Aloft) → Run (Happens IsOn plan) events old new
    → asks_in place events ≡ 0 → IsUnasked place old.sky → IsUnasked place new.sky
run_apart IsOn plan place [] old new ran none unasked = subst (λ (a : Aloft). IsUnasked place a.sky) (sym ran) unasked
run_apart IsOn plan place (Began at ∷ events) old new ran none unasked =
    let other : here place at ≡ 0 = omega (arith, none) in
    let others : asks_in place events ≡ 0 = omega (arith, none) in
    line_apart IsOn plan place at ran.middle new other ran.last (run_apart IsOn plan place events old ran.middle ran.so_far others unasked)
run_apart IsOn plan place (Held at ∷ events) old new ran none unasked =
    subst (IsUnasked place) (sym ran.last.same) (run_apart IsOn plan place events old ran.middle ran.so_far none unasked)
run_apart IsOn plan place (WentOn p ∷ events) old new ran none unasked =
    turn_apart place ran.middle.fleet.number p ran.middle.at new.at ran.middle.sky new.sky ran.last.goes.went
    (run_apart IsOn plan place events old ran.middle ran.so_far none unasked)
run_apart IsOn plan place (LeavingWentOn node p ∷ events) old new ran none unasked =
    turn_apart place node p _ _ ran.middle.sky new.sky ran.last.goes.went (run_apart IsOn plan place events old ran.middle ran.so_far none unasked)
run_apart IsOn plan place (Left node ∷ events) old new ran none unasked =
    subst (IsUnasked place) (sym ran.last.others.1) (run_apart IsOn plan place events old ran.middle ran.so_far none unasked)

-- ---- a line that was printed was asked

some_or_none : (n : ℕ) → (n ≡ 0) ⊎ (1 ≤ n)
some_or_none zero = inl refl
some_or_none (suc n) = inr (omega arith)

-- where the first part has none of them, the line is none of the first part, and the later one has some
asked_later : (from place first later events : ℕ) → (first ≡ 0) ⊎ (1 ≤ first)
    → ((eqb from place ≡ true) × (from ≡ place)) ⊎ ((eqb from place ≡ false) × (from ≢ place)) → events ≡ later + first
    → (first ≡ 0 → from ≡ place → ⊥) → (first ≡ 0 → from ≢ place → 1 ≤ later) → 1 ≤ events
asked_later from place first later events (inr some) which both here_not later_so = omega (arith, some, both)
asked_later from place first later events (inl none) (inl same) both here_not later_so = absurd (here_not none same.1)
asked_later from place first later events (inl none) (inr other) both here_not later_so =
    let more : 1 ≤ later = later_so none other.1 in omega (arith, more, both)

printed_asked : (IsOn : Links) (plan : Plan) (place from count : ℕ) (events : List Event) (all : Bool) (before : Aloft) (after : Timed)
    (old new : Option (List ℕ)) → PrintsFrom IsOn plan from count events all before after old new → IsUnasked place before.sky → from ≤ place
    → place < from + count → 1 ≤ asks_in place events
printed_asked IsOn plan place from zero events all before after old new prints unasked least most = absurd (omega (arith, least, most))
printed_asked IsOn plan place from (suc count) events all before after old new prints unasked least most =
    let ends = prints.first.ends in
    let still : asks_in place ends.goes.events ≡ 0 → IsUnasked place ends.ended.sky =
    λ none. run_apart IsOn plan place ends.goes.events before ends.ended ends.goes.run none unasked in
    asked_later from place (asks_in place ends.goes.events) (asks_in place prints.later) (asks_in place events)
    (some_or_none (asks_in place ends.goes.events)) (eqb_tells from place)
    (ap (asks_in place) prints.are ∙ asks_append place prints.later ends.goes.events)
    (λ none same. (still none).no_end prints.first.how (ap (slice_get ends.ended.sky.ends) (sym same) ∙ ends.taken.ended))
    (λ none ne.
    printed_asked IsOn plan place (from + 1) count prints.later prints.rest prints.middle after prints.between new prints.others
    (subst (IsUnasked place) (sym ends.taken.is) (ends_apart place from None ends.ended.sky ne (still none))) (omega (arith, least, ne))
    (omega (arith, most)))

no_ends : (lines : List LineQuestion) (place : ℕ) (how : AskEnd) → slice_get (map no_end lines) place ≡ Some (Some how) → ⊥
no_ends [] place how is = absurd cc
no_ends (line ∷ lines) zero how is = absurd cc
no_ends (line ∷ lines) (suc place) how is = no_ends lines place how is

none_asked : (place : ℕ) (lines : List LineQuestion) → IsUnasked place (new_sky lines)
none_asked place lines = record { none = refl; no_end = no_ends lines place }

pub asked_once : (IsOn : Links) (plan : Plan) (place : ℕ) (events : List Event) (all : Bool) (at after : Timed) (lines : List LineQuestion)
    (old new : Option (List ℕ)) → PrintsFrom IsOn plan 0 (length lines) events all (aloft at NEW_FLEET (new_sky lines)) after old new → place < length lines
    → asks_in place events ≡ 1
asked_once IsOn plan place events all at after lines old new prints within =
    let most = asked_at_most_once IsOn plan place (length lines) events all (aloft at NEW_FLEET (new_sky lines)) after lines old new refl prints in
    let least =
    printed_asked IsOn plan place 0 (length lines) events all (aloft at NEW_FLEET (new_sky lines)) after old new prints (none_asked place lines) (omega arith)
    (omega (arith, within)) in
    omega (arith, most, least)
