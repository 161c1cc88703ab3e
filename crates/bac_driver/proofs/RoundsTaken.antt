-- Rounds: turns one after the other, and what comes of a round for the keeper.
use Rattle.std.proofs.Common.{◌≡◌, ◌⊎◌, ℕ, ◌+◌, ◌<◌, ◌≤◌, min, suc, Bool, true, false, List, [], ◌∷◌, ◌++◌, length, Option, Some, None, Result, Ok, Err, OnErr}
use Rattle.std.proofs.Common.{refl, ap, sym, subst, ◌∙◌, arith, add-one, append_assoc, length-append, inl, inr}
use Rattle.std.proofs.lemmas.List.{append-nil}
use Rattle.std.specs.Prelude.{IfSome, MatchOption}
use Rattle.bac_protocol.specs.Service.{Octets}
use Rattle.bac_store.specs.Stores.{Store}
use Rattle.bac_world.specs.Node.{Node}
use Rattle.bac_driver.specs.Calls.{Call, Calls, received, with_call}
use Rattle.bac_driver.specs.Moments.{Told, with_moment}
use Rattle.bac_driver.specs.Observed.{Observed, observed}
use Rattle.bac_driver.specs.Rounds.{AreReceives, FindsNoMore, FindsOneOf, HasNoted, HoldsMore, HoldsOne, HoldsSeenTurn, HoldsTurnAtOnce, HoldsTurnFrom}
use Rattle.bac_driver.specs.Rounds.{IsKept, MOST_COUNTED, OnlyReceives, ROUND, StopsRounds, TakesRound, TakesRounds}
use Rattle.bac_driver.specs.Rounds.{in_order, sends_of_all}
use Rattle.bac_driver.specs.Runs.{Timed, timed}
use Rattle.bac_driver.specs.Seen.{Watcher, seen}
use Rattle.bac_driver.specs.Serving.{IsBefore, performed_in}
use Rattle.bac_driver.specs.Turns.{IsCarried, Turn, with_calls}
use Rattle.bac_driver.specs.Waits.{AT_ONCE}
use Rattle.bac_driver.specs.declared.link.LinkFault.{LinkFault}
use Rattle.bac_driver.specs.declared.wait_limit.WaitLimit.{WaitLimit}
use Rattle.bac_driver.proofs.Counts.{with_more, with_none}

-- ---- only receives

pub no_calls : (calls : Calls) → OnlyReceives calls calls
no_calls calls = record { more = []; are = tt; is = sym (with_none calls) }

is_receive : (wait : ℕ) (buffer : List ℕ) (r : Result (Option (List ℕ × ℕ)) LinkFault) → AreReceives (received wait buffer r ∷ [])
is_receive wait buffer (Ok (Some d)) = tt
is_receive wait buffer (Ok None) = tt
is_receive wait buffer (Err fault) = tt

pub one_receive : (wait : ℕ) (buffer : List ℕ) (r : Result (Option (List ℕ × ℕ)) LinkFault) (old new : Calls)
    → new ≡ with_call old (received wait buffer r) → OnlyReceives old new
one_receive wait buffer r old new is = record { more = received wait buffer r ∷ []; are = is_receive wait buffer r; is = is }

are_both : (xs ys : List Call) → AreReceives xs → AreReceives ys → AreReceives (xs ++ ys)
are_both [] ys first second = second
are_both (Call.Send to octets ∷ xs) ys first second = absurd first
are_both (Call.Receive wait from octets ∷ xs) ys first second = are_both xs ys first second
are_both (Call.ReceiveNothing wait ∷ xs) ys first second = are_both xs ys first second
are_both (Call.FailedReceive ∷ xs) ys first second = are_both xs ys first second

pub receives_more : (old middle new : Calls) → OnlyReceives old middle → OnlyReceives middle new → OnlyReceives old new
receives_more old middle new first second =
    record {
      more = first.more ++ second.more;
      are = are_both first.more second.more first.are second.are;
      is = second.is ∙ ap (λ (c : Calls). with_calls c second.more) first.is ∙ with_more old first.more second.more;
    }

-- ---- power cuts

pub finds_same : {K : Type 0} (IsHonest : K → Type 0) (may_find : K → Store → Type 0) (k : K) → FindsNoMore IsHonest may_find k k
finds_same IsHonest may_find k = record { honest = λ h. h; crash = λ h s may. may }

pub finds_no_more : {K : Type 0} (IsHonest : K → Type 0) (may_find : K → Store → Type 0) (old middle new : K) → FindsNoMore IsHonest may_find old middle
    → FindsNoMore IsHonest may_find middle new → FindsNoMore IsHonest may_find old new
finds_no_more IsHonest may_find old middle new first second =
    record {
      honest = λ h. first.honest (second.honest h);
      crash = λ h s may. first.crash (second.honest h) s (second.crash h s may);
    }

-- ---- turns

pub none_more : {S : Type 0} (Sees : Watcher S) (turns : List Turn) (s : Observed S) → HoldsMore Sees turns turns s s
none_more Sees turns s = record { more = []; goes_on = refl; are = sym (append-nil turns) }

pub one_more_held : {S : Type 0} (Sees : Watcher S) (before turns after : List Turn) (turn : Turn) (old middle new : Observed S)
    → HoldsMore Sees before turns old middle → HoldsSeenTurn Sees HoldsTurnAtOnce middle turn new → after ≡ turns ++ turn ∷ []
    → HoldsMore Sees before after old new
one_more_held Sees before turns after turn old middle new held holds is =
    record {
      more = turn ∷ held.more;
      goes_on = record { middle = middle; so_far = held.goes_on; last = holds };
      are =
          is ∙ ap (λ (ts : List Turn). ts ++ turn ∷ []) held.are ∙ append_assoc before (in_order held.more) (turn ∷ []);
    }

-- what was seen of a turn: the node and the buffer after it
seen_by : {S : Type 0} (Sees : Watcher S) (from to : S) (turn : Turn) (node : Node) (buffer : Octets) (new : Timed) → node ≡ new.bound_node.node
    → buffer ≡ new.bound_node.buffer → Sees (seen node buffer turn) from to → Sees (seen new.bound_node.node new.bound_node.buffer turn) from to
seen_by Sees from to turn node buffer new node_is buffer_is sees =
    subst (λ (n : Node). Sees (seen n new.bound_node.buffer turn) from to) node_is
    (subst (λ (b : Octets). Sees (seen node b turn) from to) buffer_is sees)

pub held_one : {S : Type 0} (Sees : Watcher S) (p : WaitLimit) (from to : S) (began : ℕ) (turn : Turn) (before turns : List Turn) (node : Node)
    (buffer : Octets) (old new : Timed) (told : Told) → before ≡ [] → turns ≡ before ++ turn ∷ [] → IsBefore began p.until
    → told ≡ with_moment old.told began → HoldsTurnFrom began p (timed old.bound_node told) turn new → node ≡ new.bound_node.node → buffer ≡ new.bound_node.buffer
    → Sees (seen node buffer turn) from to → HoldsOne Sees p turns (observed old from) (observed new to)
held_one Sees p from to began turn before turns node buffer old new told none are early told_is holds node_is buffer_is sees =
    record {
      first = turn;
      begins =
          record {
            is =
                record {
                  began = began;
                  early = early;
                  holds = subst (λ (t : Told). HoldsTurnFrom began p (timed old.bound_node t) turn new) told_is holds;
                };
            sees = seen_by Sees from to turn node buffer new node_is buffer_is sees;
          };
      are = are ∙ ap (λ (ts : List Turn). ts ++ turn ∷ []) none;
    }

pub held_next : {S : Type 0} (Sees : Watcher S) (from to : S) (began : ℕ) (turn : Turn) (node : Node) (buffer : Octets) (old new : Timed)
    → began ≡ old.bound_node.node.latest → HoldsTurnFrom began AT_ONCE old turn new → node ≡ new.bound_node.node → buffer ≡ new.bound_node.buffer
    → Sees (seen node buffer turn) from to → HoldsSeenTurn Sees HoldsTurnAtOnce (observed old from) turn (observed new to)
held_next Sees from to began turn node buffer old new began_is holds node_is buffer_is sees =
    record {
      is = subst (λ (m : ℕ). HoldsTurnFrom m AT_ONCE old turn new) began_is holds;
      sees = seen_by Sees from to turn node buffer new node_is buffer_is sees;
    }

-- ---- a round

pub round_taken : {S : Type 0} (Sees : Watcher S) (p : WaitLimit) (first turns sent : List Turn) (effects lost : ℕ) (old begun : Observed S)
    (middle new : Timed) (state : S) → HoldsOne Sees p first old begun → HoldsMore Sees first turns begun (observed middle state) → length turns ≤ ROUND
    → sent ≡ turns
    → IsCarried (sends_of_all sent) lost middle.bound_node new.bound_node → new.bound_node.node ≡ middle.bound_node.node
    → new.bound_node.buffer ≡ middle.bound_node.buffer → new.bound_node.rules ≡ middle.bound_node.rules → new.told ≡ middle.told
    → effects ≡ performed_in sent → TakesRound Sees p old effects (observed new state)
round_taken Sees p first turns sent effects lost old begun middle new state one more few is carried node buffer rules told counted =
    record {
      turns = turns;
      round =
          record {
            middle = middle;
            holds =
                record {
                  first = one.first;
                  begun = begun;
                  begins = one.begins;
                  more = more.more;
                  goes_on = more.goes_on;
                  are = more.are ∙ ap (λ (ts : List Turn). ts ++ in_order more.more) one.are;
                  most = few;
                };
            lost = lost;
            carried = subst (λ (ts : List Turn). IsCarried (sends_of_all ts) lost middle.bound_node new.bound_node) is carried;
            node = node;
            buffer = buffer;
            rules = rules;
            told = told;
          };
      counted = counted ∙ ap performed_in is;
    }

-- what is kept after a round: all that was noted, or nothing was
pub kept_after : {K : Type 0} (IsHonest IsOpen : K → Type 0) (kept noted : K → Store) (is_changed : Bool) (old middle new : K) (before after : Store)
    → IsHonest new → IsKept IsOpen kept noted old before → HasNoted IsOpen noted middle after → IsOpen new
    → (is_changed ≡ false → middle ≡ old) → (is_changed ≡ false → new ≡ middle)
    → (is_changed ≡ true → IsHonest new → (kept new ≡ noted middle) × (noted new ≡ noted middle)) → IsKept IsOpen kept noted new after
kept_after IsHonest IsOpen kept noted true old middle new before after honest was has is_open same idle keeps =
    let is = keeps refl honest in
    record { is_open = is_open; kept_is = is.0 ∙ has.noted_is; noted_is = is.1 ∙ has.noted_is }
kept_after IsHonest IsOpen kept noted false old middle new before after honest was has is_open same idle keeps =
    record {
      is_open = is_open;
      kept_is = ap kept (idle refl ∙ same refl) ∙ was.kept_is ∙ sym was.noted_is ∙ ap noted (sym (same refl)) ∙ has.noted_is;
      noted_is = ap noted (idle refl) ∙ has.noted_is;
    }

-- what a power cut leaves where nothing was kept yet
pub found_before : {K : Type 0} (IsHonest IsOpen : K → Type 0) (kept noted : K → Store) (may_find : K → Store → Type 0)
    → ((k : K) (s : Store) → IsHonest k → IsOpen k → may_find k s → s ≡ kept k) → (old new : K) (before after : Store)
    → (IsHonest old → IsKept IsOpen kept noted old before) → FindsNoMore IsHonest may_find old new → FindsOneOf IsHonest may_find before after new
found_before IsHonest IsOpen kept noted may_find settled old new before after was more =
    record {
      crash = λ h s may.
          let honest = more.honest h in
          let is = was honest in
          inl (settled old s honest is.is_open (more.crash h s may) ∙ is.kept_is);
    }

-- and where it was, or was tried
pub found_after : {K : Type 0} (IsHonest IsOpen : K → Type 0) (kept noted : K → Store) (may_find : K → Store → Type 0)
    → ((k : K) (s : Store) → IsHonest k → IsOpen k → may_find k s → s ≡ kept k) → (old middle new : K) (before after : Store)
    → (IsHonest old → IsKept IsOpen kept noted old before) → FindsNoMore IsHonest may_find old middle → (IsHonest middle → HasNoted IsOpen noted middle after)
    → (IsHonest new → IsHonest middle) → (IsHonest new → (s : Store) → may_find new s → may_find middle s ⊎ (s ≡ noted middle))
    → FindsOneOf IsHonest may_find before after new
found_after IsHonest IsOpen kept noted may_find settled old middle new before after was more has honest crash =
    record { crash = λ h s may. go h s (crash h s may) } where
      go : (h : IsHonest new) (s : Store) → may_find middle s ⊎ (s ≡ noted middle) → (s ≡ before) ⊎ (s ≡ after)
      go h s (inl may) =
          let earlier = more.honest (honest h) in
          let is = was earlier in
          inl (settled old s earlier is.is_open (more.crash (honest h) s may) ∙ is.kept_is)
      go h s (inr is) = inr (is ∙ (has (honest h)).noted_is)

-- ---- rounds

pub no_round : {S : Type 0} (Sees : Watcher S) (p : WaitLimit) (old : Observed S) → TakesRounds Sees p 0 0 old old
no_round Sees p old = record { counts = []; all = refl; run = refl; counted = refl }

pub one_more_round : {S : Type 0} (Sees : Watcher S) (p : WaitLimit) (rounds effects more now : ℕ) (old middle new : Observed S)
    → TakesRounds Sees p rounds effects old middle → TakesRound Sees p middle more new → now ≡ min (effects + more) MOST_COUNTED
    → TakesRounds Sees p (rounds + 1) now old new
one_more_round Sees p rounds effects more now old middle new before takes is =
    record {
      counts = more ∷ before.counts;
      all = rw (add-one rounds) (ap suc before.all);
      run = record { middle = middle; so_far = before.run; last = takes };
      counted = let counted = before.counted in omega (arith, is);
    }

pub stops_early : {S : Type 0} (Sees : Watcher S) (p : WaitLimit) (rounds all effects : ℕ) (happens : Observed S → Observed S → Type 0)
    (old middle new : Observed S) → rounds < all → TakesRounds Sees p rounds effects old middle → happens middle new
    → StopsRounds Sees p all effects happens old new
stops_early Sees p rounds all effects happens old middle new fewer before stopped =
    record { taken = rounds; fewer = fewer; middle = middle; takes = before; stopped = stopped }

pub taken_once : (r : Option ℕ) (is_taken : ℕ → Type 0) (more : ℕ) → r ≡ Some more → IfSome r is_taken → is_taken more
taken_once r is_taken more is once = subst (λ (o : Option ℕ). IfSome o is_taken) is once

pub over_once : (r : Option ℕ) (is_over : Type 0) (is_few : ℕ → Type 0) → r ≡ None → MatchOption r is_over is_few → is_over
over_once r is_over is_few is over = subst (λ (o : Option ℕ). MatchOption o is_over is_few) is over

-- what is so whatever a call returned
pub whatever : {A E : Type 0} (r : Result A E) (P : Type 0) → P → OnErr r P
whatever (Ok x) P is = tt
whatever (Err e) P is = is

-- one more turn has room
pub one_longer : (xs after : List Turn) (turn : Turn) → after ≡ xs ++ turn ∷ [] → length xs < ROUND → length after ≤ ROUND
one_longer xs after turn is room =
    let one_more = length-append xs (turn ∷ []) in
    subst (λ (ts : List Turn). length ts ≤ ROUND) (sym is) (omega (arith, one_more, room))
