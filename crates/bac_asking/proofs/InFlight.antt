-- Asks of lines, several at once.
use Rattle.std.proofs.Common.{◌≡◌, ◌⊎◌, ℕ, zero, suc, ◌+◌, ◌<◌, ◌≤◌, ◌&&◌, Bool, true, List, [], ◌∷◌, ◌++◌, length, map, max, Option, Some, None, Result, Ok, Err}
use Rattle.std.proofs.Common.{refl, ap, sym, subst, ◌∙◌, arith, append_assoc, append-nil, add-zero, inl, inr, slice_get, slice_set}
use Rattle.std.proofs.lemmas.List.Quantifiers.{position-Some}
use Rattle.std.proofs.lemmas.Option.{get_or_from_slice_get}
use Rattle.std.specs.List.{position, remove}
use Rattle.std.specs.Option.{is_none, option_map}
use Rattle.std.specs.Prelude.{IfOk}
use Rattle.bac_text.specs.declared.status.Status.{Status}
use Rattle.bac_driver.specs.BoundNodes.{BoundNode}
use Rattle.bac_driver.specs.Moments.{Told}
use Rattle.bac_driver.specs.Runs.{Run, Timed, timed}
use Rattle.bac_driver.specs.Views.{question_view}
use Rattle.bac_driver.specs.declared.question.AskEnd.{AskEnd}
use Rattle.bac_driver.specs.declared.fault.TurnFault.{TurnFault}
use Rattle.bac_driver.specs.declared.turn.Turn.{Turn}
use Rattle.bac_driver.specs.declared.wait_limit.WaitLimit.{WaitLimit}
use Rattle.bac_asking.specs.Fleets.{Fleet, IsTurnAt, IsTurnOr, Leaving, NEW_FLEET, number_of}
use Rattle.bac_asking.specs.InFlight.{Aloft, BeginsOn, EndsLine, Event, GivesUp, Goes, Happens, IsNoted, IsTaken, IsTakenUp, IsWithin, NodeGoesOn, NodesGo, Plan, PrintsFrom, PrintsLine, Sky, TakesEnd, TakesTurn, TellsLine, aloft, first_patience, is_idle, may_begin, new_sky, no_end, turn_noted, waiting_from}
use Rattle.bac_asking.specs.InFlight.Event.{Began, Held, LeavingWentOn, Left, WentOn}
use Rattle.bac_environment.specs.Sockets.{Links}
use Rattle.bac_asking.specs.declared.flights.Begun.{Begun}
use Rattle.bac_asking.specs.declared.flights.Flight.{Flight}
use Rattle.bac_asking.specs.declared.flights.Waiting.{Waiting}
use Rattle.bac_environment.specs.declared.question_lines.LineQuestion.{LineQuestion}
use Rattle.bac_asking.proofs.InRounds.{and_true, both_and}

-- ---- the lines of a list

-- the lines from here on, behind those so far, are all
pub one_more_waits : (place : ℕ) (lines others : List LineQuestion) (line : LineQuestion) (so_far all : List Waiting) → lines ≡ line ∷ others
    → so_far ++ waiting_from place lines ≡ all
    → (so_far ++ record { place = place; peer = line.question.peer } ∷ []) ++ waiting_from (place + 1) others ≡ all
one_more_waits place lines others line so_far all is before =
    append_assoc so_far (record { place = place; peer = line.question.peer } ∷ []) (waiting_from (place + 1) others)
    ∙ (ap (λ (l : List LineQuestion). so_far ++ waiting_from place l) (sym is) ∙ before)

pub one_more_end : (lines others : List LineQuestion) (line : LineQuestion) (so_far all : List (Option AskEnd)) → lines ≡ line ∷ others
    → so_far ++ map no_end lines ≡ all → (so_far ++ None ∷ []) ++ map no_end others ≡ all
one_more_end lines others line so_far all is before =
    append_assoc so_far (None ∷ []) (map no_end others) ∙ (ap (λ (l : List LineQuestion). so_far ++ map no_end l) (sym is) ∙ before)

abbrev pub sky_with : List Waiting → List Flight → List (Option AskEnd) → Sky
sky_with waiting flights ends = record { waiting = waiting; flights = flights; ends = ends }

abbrev sky_of : List Waiting → List (Option AskEnd) → Sky
sky_of waiting ends = record { waiting = waiting; flights = []; ends = ends }

-- where no line is left, all wait
pub all_wait : (place : ℕ) (lines left : List LineQuestion) (waiting : List Waiting) (flights : List Flight) (ends : List (Option AskEnd)) → left ≡ []
    → flights ≡ [] → waiting ++ waiting_from place left ≡ waiting_from 0 lines → ends ++ map no_end left ≡ map no_end lines
    → ◌≡◌ {A = Sky} (record { waiting = waiting; flights = flights; ends = ends }) (new_sky lines)
all_wait place lines left waiting flights ends none empty waits ended =
    ap (λ (f : List Flight). sky_with waiting f ends) empty
    ∙ (ap (λ (w : List Waiting). sky_of w ends)
    (sym (append-nil waiting) ∙ (ap (λ (l : List LineQuestion). waiting ++ waiting_from place l) (sym none) ∙ waits))
    ∙ ap (λ (e : List (Option AskEnd)). sky_of (waiting_from 0 lines) e)
    (sym (append-nil ends) ∙ (ap (λ (l : List LineQuestion). ends ++ map no_end l) (sym none) ∙ ended)))

-- the first line that may begin may begin
pub next_begins : (share : ℕ) (flights : List Flight) (waiting : List Waiting) (at : ℕ) (line : Waiting) → position (may_begin share flights) waiting ≡ Some at
    → slice_get waiting at ≡ Some line → may_begin share flights line ≡ true
next_begins share flights waiting at line first is =
    subst (λ (w : Waiting). may_begin share flights w ≡ true) (get_or_from_slice_get waiting at line line is)
    (position-Some (may_begin share flights) waiting at line first).1

pub next_within : (share : ℕ) (flights : List Flight) (waiting : List Waiting) (at : ℕ) → position (may_begin share flights) waiting ≡ Some at
    → at < length waiting
next_within share flights [] at first = absurd cc
next_within share flights (w ∷ waiting) at first = (position-Some (may_begin share flights) (w ∷ waiting) at w first).0

-- ---- what happens

pub none_goes : (IsOn : Links) (plan : Plan) (old new : Aloft) → new ≡ old → Goes IsOn plan old new
none_goes IsOn plan old new same = record { events = []; run = same }

pub one_goes : (IsOn : Links) (plan : Plan) (event : Event) (old new : Aloft) → Happens IsOn plan old event new → Goes IsOn plan old new
one_goes IsOn plan event old new happens = record { events = event ∷ []; run = record { middle = old; so_far = refl; last = happens } }

both_run : {S T : Type 0} (step : S → T → S → Type 0) (first later : List T) (old middle new : S) → Run step first old middle → Run step later middle new
    → Run step (later ++ first) old new
both_run step first [] old middle new ran same = subst (λ (s : _). Run step first old s) (sym same) ran
both_run step first (event ∷ later) old middle new ran more =
    record { middle = more.middle; so_far = both_run step first later old middle more.middle ran more.so_far; last = more.last }

pub both_go : (IsOn : Links) (plan : Plan) (old middle new : Aloft) → Goes IsOn plan old middle → Goes IsOn plan middle new → Goes IsOn plan old new
both_go IsOn plan old middle new first later =
    record {
      events = later.events ++ first.events;
      run = both_run (Happens IsOn plan) first.events later.events old middle new first.run later.run;
    }

never_some : {A : Type 0} (told : Option A) → ((a : A) → told ≡ Some a → ⊥) → told ≡ None
never_some None never = refl
never_some (Some a) never = absurd (never a refl)

-- where none is under way, the node that asks does nothing
pub none_to_go : (IsOn : Links) (old : Aloft) → NodesGo IsOn old old
none_to_go IsOn old plan = none_goes IsOn plan old old refl

-- ---- a turn of a node

pub if_ok : {A E : Type 0} (r : Result A E) (P Q : Type 0) → (P → Q) → IfOk r (λ a. P) → IfOk r (λ a. Q)
if_ok (Ok a) P Q so held = so held
if_ok (Err e) P Q so held = tt

-- the same, of something that is said of what it gave
pub if_ok_so : {A E : Type 0} (r : Result A E) (P : Type 0) (Q : A → Type 0) → (P → (a : A) → Q a) → IfOk r (λ a. P) → IfOk r Q
if_ok_so (Ok a) P Q so held = so held a
if_ok_so (Err e) P Q so held = tt

-- it was taken, or it was too late for one, and so it was noted
pub turned : (node : ℕ) (p : WaitLimit) (turn : Option Turn) (before after : Timed) (old new : Sky) → IsTurnOr p turn before after
    → new ≡ turn_noted node turn old → TakesTurn node p before after old new ⊎ GivesUp node p before after old new
turned node p None before after old new over noted = inr (record { over = over; closed = noted })
turned node p (Some turn) before after old new takes noted = inl (record { turn = turn; takes = takes; noted = noted })

-- a node went on
pub node_went : (node : ℕ) (p first : WaitLimit) (turn : Option Turn) (before after : Timed) (old new : Sky)
    → first_patience node old.flights ≡ Some first → IsWithin p first → IsTurnOr p turn before after → new ≡ turn_noted node turn old
    → NodeGoesOn node p before after old new
node_went node p first turn before after old new is within turn_is noted =
    record { first = first; is = is; within = within; went = turned node p turn before after old new turn_is noted }

no_leaving : {A : Type 0} (leaving : List A) (count : ℕ) → leaving ≡ [] → count ≡ length leaving → count ≡ 0
no_leaving leaving count none is = is ∙ ap length none

-- the node that asks went on
pub here_went : (IsOn : Links) (node count : ℕ) (p first : WaitLimit) (r : Result (Option Turn) TurnFault) (f : Fleet) (before after : Timed) (old new : Sky)
    → node ≡ f.number → count ≡ length f.leaving → first_patience node old.flights ≡ Some first → IsWithin p first → (count ≡ 0 → p ≡ first)
    → IfOk r (λ turn. IsTurnOr p turn before after) → IsNoted node r old new → NodesGo IsOn (aloft before f old) (aloft after f new)
here_went IsOn node count p first (Err fault) f before after old new number all is within alone turn_is noted plan = absurd noted
here_went IsOn node count p first (Ok turn) f before after old new number all is within alone turn_is noted plan =
    let goes = node_went node p first turn before after old new is within turn_is noted in
    one_goes IsOn plan (WentOn p) (aloft before f old) (aloft after f new)
    (record {
      goes = subst (λ (n : ℕ). NodeGoesOn n p before after old new) number goes;
      alone =
          λ none.
          subst (λ (n : ℕ). first_patience n old.flights ≡ Some p) number
          (is ∙ ap (λ (w : WaitLimit). Some w) (sym (alone (no_leaving f.leaving count none all))));
      same = refl;
    })

number_is : (leaving : Option Leaving) (node : ℕ) (l : Leaving) → option_map number_of leaving ≡ Some node → leaving ≡ Some l → l.number ≡ node
number_is leaving node l is same =
    let both : Some l.number ≡ Some node = ap (λ (o : Option Leaving). option_map number_of o) (sym same) ∙ is in cc

-- a node that leaves went on
pub leaving_went : (IsOn : Links) (at node : ℕ) (p first : WaitLimit) (r : Result (Option Turn) TurnFault) (f g : Fleet) (own : BoundNode) (before after : Told)
    (old new : Sky) → option_map number_of (slice_get f.leaving at) ≡ Some node → first_patience node old.flights ≡ Some first → IsWithin p first
    → IfOk r (λ turn. IsTurnAt at p turn before after f g) → IsNoted node r old new → NodesGo IsOn (aloft (timed own before) f old) (aloft (timed own after) g new)
leaving_went IsOn at node p first (Err fault) f g own before after old new number is within turn_is noted plan = absurd noted
leaving_went IsOn at node p first (Ok turn) f g own before after old new number is within turn_is noted plan =
    let same = number_is (slice_get f.leaving at) node turn_is.leaving number turn_is.is in
    one_goes IsOn plan (LeavingWentOn node p) (aloft (timed own before) f old) (aloft (timed own after) g new)
    (record {
      at = at;
      leaving = turn_is.leaving;
      is = turn_is.is;
      same = same;
      bound_node = turn_is.bound_node;
      goes =
          node_went node p first turn (timed turn_is.leaving.bound_node before) (timed turn_is.bound_node after) old new is within turn_is.turned noted;
      fleet =
          turn_is.fleet
          ∙ ap (λ (n : ℕ). record f { leaving = slice_set f.leaving at (record { number = n; bound_node = turn_is.bound_node }) }) same;
      stays = refl;
    })

set_length : {A : Type 0} (xs : List A) (i : ℕ) (x : A) → length (slice_set xs i x) ≡ length xs
set_length [] i x = refl
set_length (y ∷ ys) zero x = refl
set_length (y ∷ ys) (suc i) x = ap suc (set_length ys i x)

-- as many leave as before
pub as_many_leave : (at : ℕ) (p : WaitLimit) (node : ℕ) (r : Result (Option Turn) TurnFault) (f g : Fleet) (before after : Told) (old new : Sky)
    → IfOk r (λ turn. IsTurnAt at p turn before after f g) → IsNoted node r old new → length g.leaving ≡ length f.leaving
as_many_leave at p node (Err fault) f g before after old new turn_is noted = absurd noted
as_many_leave at p node (Ok turn) f g before after old new turn_is noted =
    ap (λ (h : Fleet). length h.leaving) turn_is.fleet ∙ set_length f.leaving at _

-- one that leaves was given up
pub left_so : (IsOn : Links) (at node : ℕ) (told : Option WaitLimit) (f g : Fleet) (before after : Timed) (s : Sky)
    → option_map number_of (slice_get f.leaving at) ≡ Some node → told ≡ first_patience node s.flights → ((p : WaitLimit) → told ≡ Some p → ⊥)
    → g ≡ record f { leaving = remove f.leaving at } → after ≡ before → NodesGo IsOn (aloft before f s) (aloft after g s)
left_so IsOn at node told f g before after s number same never fleet_is at_is plan = left_at (slice_get f.leaving at) refl
  where
    left_at : (l : Option Leaving) → slice_get f.leaving at ≡ l → Goes IsOn plan (aloft before f s) (aloft after g s)
    left_at None is = absurd (let none : None ≡ Some node = ap (λ (o : Option Leaving). option_map number_of o) (sym is) ∙ number in cc)
    left_at (Some l) is =
        one_goes IsOn plan (Left node) (aloft before f s) (aloft after g s)
        (record {
          at = at;
          leaving = l;
          is = is;
          same = number_is (slice_get f.leaving at) node l number is;
          idle = ap (λ (o : Option WaitLimit). is_none o) (sym same ∙ never_some told never);
          fleet = fleet_is;
          others = (at_is, refl);
        })

-- first these nodes went on, and then those
pub both_nodes : (IsOn : Links) (old middle new : Aloft) → NodesGo IsOn old middle → NodesGo IsOn middle new → NodesGo IsOn old new
both_nodes IsOn old middle new first later plan = both_go IsOn plan old middle new (first plan) (later plan)

-- ---- an ask begins

-- the node had nothing left for a line
pub holds_so : (IsOn : Links) (plan : Plan) (place node : ℕ) (line : LineQuestion) (idle : Bool) (told : Option Begun) (s : Sky) (before after : Timed)
    (f g : Fleet) → slice_get plan.lines place ≡ Some line → idle ≡ is_idle node s.flights → node ≡ f.number → told ≡ None
    → BeginsOn IsOn plan.asking (question_view line.question) idle told before after f g → Goes IsOn plan (aloft before f s) (aloft after g s)
holds_so IsOn plan place node line idle told s before after f g line_is idle_is number none begins =
    one_goes IsOn plan (Held place) (aloft before f s) (aloft after g s)
    (record {
      line = line;
      line_is = line_is;
      holds =
          subst (λ (b : Bool). BeginsOn IsOn plan.asking (question_view line.question) b None before after f g)
          (idle_is ∙ ap (λ (n : ℕ). is_idle n s.flights) number)
          (subst (λ (o : Option Begun). BeginsOn IsOn plan.asking (question_view line.question) idle o before after f g) none begins);
      same = refl;
    })

-- the first that may begin began
pub begins_so : (IsOn : Links) (plan : Plan) (at node asked : ℕ) (waiting : Waiting) (line : LineQuestion) (idle : Bool) (told : Option Begun) (b : Begun)
    (old new : Sky) (before after : Timed) (f g : Fleet) → length old.flights < max plan.window 1
    → position (may_begin plan.share old.flights) old.waiting ≡ Some at → slice_get old.waiting at ≡ Some waiting
    → slice_get plan.lines waiting.place ≡ Some line → idle ≡ is_idle node old.flights → node ≡ f.number → told ≡ Some b
    → BeginsOn IsOn plan.asking (question_view line.question) idle told before after f g → asked ≡ g.number → IsTakenUp at asked b old new
    → Goes IsOn plan (aloft before f old) (aloft after g new)
begins_so IsOn plan at node asked waiting line idle told b old new before after f g room first is line_is idle_is number some begins now taken =
    one_goes IsOn plan (Began waiting.place) (aloft before f old) (aloft after g new)
    (record {
      room = room;
      at = at;
      waiting = waiting;
      is = is;
      share = next_begins plan.share old.flights old.waiting at waiting first is;
      same = refl;
      line = line;
      line_is = line_is;
      begun = b;
      begins =
          subst (λ (i : Bool). BeginsOn IsOn plan.asking (question_view line.question) i (Some b) before after f g)
          (idle_is ∙ ap (λ (n : ℕ). is_idle n old.flights) number)
          (subst (λ (o : Option Begun). BeginsOn IsOn plan.asking (question_view line.question) idle o before after f g) some begins);
      taken = subst (λ (n : ℕ). IsTakenUp at n b old new) now taken;
    })

-- and then what is under way went on, where the asks were still those
pub goes_on : (IsOn : Links) (plan : Plan) (old new : Aloft) (middle : Timed) (f : Fleet) (begun still : Sky) → Goes IsOn plan old (aloft middle f begun)
    → still ≡ begun → NodesGo IsOn (aloft middle f still) new → Goes IsOn plan old new
goes_on IsOn plan old new middle f begun still before same goes =
    both_go IsOn plan old (aloft middle f begun) new before (subst (λ (s : Sky). NodesGo IsOn (aloft middle f s) new) same goes plan)

-- ---- the ask of a line

set_still : {A : Type 0} (xs : List A) (i : ℕ) (x : A) → slice_get xs i ≡ Some x → slice_set xs i x ≡ xs
set_still [] i x is = absurd cc
set_still (y ∷ ys) zero x is = let same : x ≡ y = cc in ap (λ (z : _). z ∷ ys) same
set_still (y ∷ ys) (suc i) x is = ap (λ (zs : _). y ∷ zs) (set_still ys i x is)

-- what was there is there no longer
pub end_read : (place : ℕ) (was told left : Option AskEnd) (old : Sky) → slice_get old.ends place ≡ Some was → told ≡ was → left ≡ None
    → TakesEnd place told old (sky_with old.waiting old.flights (slice_set old.ends place left))
end_read place was None left old is same none =
    ap (λ (e : List (Option AskEnd)). sky_with old.waiting old.flights e)
    (ap (λ (o : Option AskEnd). slice_set old.ends place o) (none ∙ same) ∙ set_still old.ends place was is)
end_read place was (Some how) left old is same none =
    record {
      ended = is ∙ ap (λ (o : Option AskEnd). Some o) (sym same);
      is = ap (λ (o : Option AskEnd). sky_with old.waiting old.flights (slice_set old.ends place o)) none;
    }

-- it had not ended
pub none_taken : (place : ℕ) (told : Option AskEnd) (old new : Sky) → ((how : AskEnd) → told ≡ Some how → ⊥) → TakesEnd place told old new → new ≡ old
none_taken place None old new never same = same
none_taken place (Some how) old new never taken = absurd (never how refl)

pub end_taken : (place : ℕ) (told : Option AskEnd) (how : AskEnd) (old new : Sky) → told ≡ Some how → TakesEnd place told old new → IsTaken place how old new
end_taken place told how old new is taken = subst (λ (o : Option AskEnd). TakesEnd place o old new) is taken

-- how it ended was printed
pub told_so : (IsOn : Links) (plan : Plan) (place : ℕ) (line : LineQuestion) (how : AskEnd) (before after : Aloft) (old new : Option (List ℕ))
    (r : Result Bool Status) → slice_get plan.lines place ≡ Some line → EndsLine IsOn plan place how before after
    → IfOk r (λ succeeded. PrintsLine plan.asking line how succeeded old new)
    → IfOk r (λ succeeded. TellsLine IsOn plan place succeeded before after old new)
told_so IsOn plan place line how before after old new (Ok succeeded) line_is ends tells =
    record { line = line; line_is = line_is; how = how; ends = ends; tells = tells }
told_so IsOn plan place line how before after old new (Err s) line_is ends tells = tt

-- ---- all lines

-- what is printed from that place on completes what is printed of all
pub record IsPrintedSoFar (IsOn : Links) (plan : Plan) (start : Aloft) (old : Option (List ℕ)) (count place : ℕ) (so_far : Bool) (here : Aloft)
    (text : Option (List ℕ)) : Type 0 where
  pub events : List Event
  pub whole : (left : ℕ) → left + place ≡ count → (more : List Event) (all : Bool) (last : Timed) (new : Option (List ℕ))
      → PrintsFrom IsOn plan place left more all here last text new → PrintsFrom IsOn plan 0 count (more ++ events) (so_far && all) start last old new

pub none_printed : (IsOn : Links) (plan : Plan) (start : Aloft) (old : Option (List ℕ)) (count : ℕ)
    → IsPrintedSoFar IsOn plan start old count 0 true start old
none_printed IsOn plan start old count =
    record {
      events = [];
      whole = λ left same more all last new prints.
          subst (λ (n : ℕ). PrintsFrom IsOn plan 0 n (more ++ []) all start last old new) (sym (add-zero left) ∙ same)
          (subst (λ (e : List Event). PrintsFrom IsOn plan 0 left e all start last old new) (sym (append-nil more)) prints);
    }

-- where that is how it begins
pub none_printed_of : (IsOn : Links) (plan : Plan) (at : Timed) (lines : List LineQuestion) (f : Fleet) (s : Sky) (old : Option (List ℕ)) (count : ℕ)
    → f ≡ NEW_FLEET → s ≡ new_sky lines → IsPrintedSoFar IsOn plan (aloft at NEW_FLEET (new_sky lines)) old count 0 true (aloft at f s) old
none_printed_of IsOn plan at lines f s old count fresh is =
    subst (λ (x : Sky). IsPrintedSoFar IsOn plan (aloft at NEW_FLEET (new_sky lines)) old count 0 true (aloft at f x) old) (sym is)
    (subst (λ (x : Fleet). IsPrintedSoFar IsOn plan (aloft at NEW_FLEET (new_sky lines)) old count 0 true (aloft at x (new_sky lines)) old) (sym fresh)
    (none_printed IsOn plan (aloft at NEW_FLEET (new_sky lines)) old count))

pub one_more_printed : (IsOn : Links) (plan : Plan) (start here next : Aloft) (old text between : Option (List ℕ)) (count place : ℕ)
    (so_far succeeded now : Bool) → IsPrintedSoFar IsOn plan start old count place so_far here text → now ≡ so_far && succeeded
    → TellsLine IsOn plan place succeeded here next text between → IsPrintedSoFar IsOn plan start old count (place + 1) now next between
one_more_printed IsOn plan start here next old text between count place so_far succeeded now before both tells =
    record {
      events = tells.ends.goes.events ++ before.events;
      whole = λ left same more all last new prints.
          subst (λ (b : Bool). PrintsFrom IsOn plan 0 count (more ++ (tells.ends.goes.events ++ before.events)) b start last old new)
          (both_and so_far succeeded all ∙ ap (λ (b : Bool). b && all) (sym both))
          (subst (λ (e : List Event). PrintsFrom IsOn plan 0 count e (so_far && (succeeded && all)) start last old new)
          (append_assoc more tells.ends.goes.events before.events)
          (before.whole (suc left) (omega (arith, same)) (more ++ tells.ends.goes.events) (succeeded && all) last new
          (record {
            succeeded = succeeded;
            middle = next;
            between = between;
            first = tells;
            later = more;
            rest = all;
            others = prints;
            are = refl;
            is = refl;
          })));
    }

pub all_printed : (IsOn : Links) (plan : Plan) (start here : Aloft) (after : Timed) (old text : Option (List ℕ)) (count place : ℕ) (so_far : Bool)
    → place ≡ count → after ≡ here.at → (before : IsPrintedSoFar IsOn plan start old count place so_far here text)
    → PrintsFrom IsOn plan 0 count before.events so_far start after old text
all_printed IsOn plan start here after old text count place so_far end same before =
    subst (λ (b : Bool). PrintsFrom IsOn plan 0 count before.events b start after old text) (and_true so_far)
    (before.whole 0 (omega (arith, end)) [] true after text (refl, (refl, (same, refl))))
