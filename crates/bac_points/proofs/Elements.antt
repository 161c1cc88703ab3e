-- Elements of an object-list that were answered with objects, one after the other.
use Rattle.std.proofs.Common.{◌≡◌, ◌∙◌, Bool, true, false, List, [], ◌∷◌, ◌++◌, length, map, refl, sym, ap, subst, arith, append_assoc, append-nil}
use Rattle.std.proofs.lemmas.List.{length-map}
use Rattle.bac_value.specs.Value.{ObjectId}
use Rattle.bac_npdu.specs.Peers.{PeerView}
use Rattle.bac_service.specs.Values.{Reference}
use Rattle.bac_driver.specs.Runs.{Timed}
use Rattle.bac_driver.specs.declared.question.AskEnd.{AskEnd}
use Rattle.bac_point_report.specs.Listing.{AreNoObjectsOf, AreObjectsOf}
use Rattle.bac_asking.specs.Recording.{outcome_of}
use Rattle.bac_asking.specs.declared.asking.Asking.{Asking}
use Rattle.bac_environment.specs.Sockets.{Links}
use Rattle.bac_points.specs.Lists.{Adds, AddsBatch, AreFound, AreLacking, AsksBatch, FollowsBatch}
use Rattle.bac_points.specs.Reads.{asked_of, question_in}

-- an ask for each
pub as_many : (IsOn : Links) (asking : Asking) (peer : PeerView) (references : List Reference) (ends : List AskEnd) (before after : Timed)
    → AsksBatch IsOn asking peer references ends before after → length references ≡ length ends
as_many IsOn asking peer references ends before after asks =
    sym (length-map references (asked_of peer)) ∙ ap length (sym asks.are) ∙ length-map asks.lines question_in ∙ sym asks.gathers.all.each

-- with the objects of what is left, all are found
pub record AddsOn (references : List Reference) (ends : List AskEnd) (old now more : List ObjectId) : Type 0 where
  pub all : List ObjectId
  pub joined : old ++ all ≡ now ++ more
  pub each : AreFound references ends all

pub record FoundSoFar (left : List Reference) (left_ends : List AskEnd) (references : List Reference) (ends : List AskEnd) (old now : List ObjectId) :
    Type 0 where
  pub as_many : length left ≡ length left_ends
  pub adds : (more : List ObjectId) → AreFound left left_ends more → AddsOn references ends old now more
  pub lacks : AreLacking left left_ends → AreLacking references ends

pub none_found : (references : List Reference) (ends : List AskEnd) (old : List ObjectId) → length references ≡ length ends
    → FoundSoFar references ends references ends old old
none_found references ends old many = record {
  as_many = many;
  adds = λ more are. record { all = more; joined = refl; each = are };
  lacks = λ none. none;
}

pub more_found : (r : Reference) (end : AskEnd) (left : List Reference) (left_ends : List AskEnd) (references : List Reference) (ends : List AskEnd)
    (old now found new : List ObjectId) → FoundSoFar (r ∷ left) (end ∷ left_ends) references ends old now → AreObjectsOf r (outcome_of end) found
    → new ≡ now ++ found → FoundSoFar left left_ends references ends old new
more_found r end left left_ends references ends old now found new so_far came is = record {
  as_many = omega (arith, so_far.as_many);
  adds = λ more are.
      let before = so_far.adds (found ++ more) (record { first = found; others = more; are = refl; came = came; more = are }) in
      record {
        all = before.all;
        joined = before.joined ∙ sym (append_assoc now found more) ∙ ap (λ (l : List ObjectId). l ++ more) (sym is);
        each = before.each;
      };
  lacks = λ none. so_far.lacks (λ objects are. none are.others are.more);
}

-- the same, where the elements that are left are given as a whole
pub more_found_at : (r : Reference) (end : AskEnd) (left : List Reference) (left_ends : List AskEnd) (all_left : List Reference) (all_ends : List AskEnd)
    (references : List Reference) (ends : List AskEnd) (old now found new : List ObjectId) → all_left ≡ r ∷ left → all_ends ≡ end ∷ left_ends
    → FoundSoFar all_left all_ends references ends old now → AreObjectsOf r (outcome_of end) found → new ≡ now ++ found
    → FoundSoFar left left_ends references ends old new
more_found_at r end left left_ends all_left all_ends references ends old now found new is ends_are so_far came grows =
    more_found r end left left_ends references ends old now found new
    (subst (λ (l : List Reference). FoundSoFar l (end ∷ left_ends) references ends old now) is
    (subst (λ (l : List AskEnd). FoundSoFar all_left l references ends old now) ends_are so_far))
    came grows

pub one_lacks : (r : Reference) (end : AskEnd) (left : List Reference) (left_ends : List AskEnd) (references : List Reference) (ends : List AskEnd)
    (old now : List ObjectId) → FoundSoFar (r ∷ left) (end ∷ left_ends) references ends old now → AreNoObjectsOf r (outcome_of end)
    → AreLacking references ends
one_lacks r end left left_ends references ends old now so_far none = so_far.lacks (λ objects are. none are.first are.came)

pub all_found : (left_ends : List AskEnd) (references : List Reference) (ends : List AskEnd) (old now : List ObjectId)
    → FoundSoFar [] left_ends references ends old now → Adds references ends old now
all_found left_ends references ends old now so_far =
    let last = so_far.adds [] refl in
    record { found = last.all; are = sym (last.joined ∙ append-nil now); each = last.each }

pub all_found_at : {A : Type 0} (f : A → Reference) (xs : List A) (left_ends : List AskEnd) (references : List Reference) (ends : List AskEnd)
    (old now : List ObjectId) → length xs ≡ 0 → FoundSoFar (map f xs) left_ends references ends old now → Adds references ends old now
all_found_at f [] left_ends references ends old now none so_far = all_found left_ends references ends old now so_far
all_found_at f (x ∷ xs) left_ends references ends old now none so_far = absurd (omega (arith, none))

-- ---- a batch

pub all_came : (IsOn : Links) (asking : Asking) (peer : PeerView) (references : List Reference) (came : Bool) (old new : List ObjectId) (before after : Timed)
    (b : AddsBatch IsOn asking peer references came old new before after) → came ≡ true → Adds references b.ends old new
all_came IsOn asking peer references came old new before after b is = subst (λ (x : Bool). FollowsBatch x references b.ends old new) is b.follows

pub not_all_came : (IsOn : Links) (asking : Asking) (peer : PeerView) (references : List Reference) (came : Bool) (old new : List ObjectId)
    (before after : Timed) (b : AddsBatch IsOn asking peer references came old new before after) → came ≡ false → AreLacking references b.ends
not_all_came IsOn asking peer references came old new before after b is = subst (λ (x : Bool). FollowsBatch x references b.ends old new) is b.follows
