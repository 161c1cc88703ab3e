-- What turns change, counted one by one, and that the others change nothing.
use Rattle.std.proofs.Common.{◌≡◌, ℕ, ◌+◌, ◌≤◌, Bool, true, false, ◌&&◌, ◌||◌, not, if◌then◌else◌, List, [], ◌∷◌, ◌++◌, map, length, Option, Some, None}
use Rattle.std.proofs.Common.{refl, ap, sym, ◌∙◌, arith}
use Rattle.std.proofs.lemmas.List.{map-append}
use Rattle.std.specs.Prelude.{IfSome}
use Rattle.bac_service.specs.Choices.{is_read_choice}
use Rattle.bac_service.specs.Values.{Request, choice_of}
use Rattle.bac_store.specs.Changes.{after, is_done}
use Rattle.bac_store.specs.Replies.{reply_to}
use Rattle.bac_store.specs.Stores.{Store}
use Rattle.bac_store.proofs.WriteLaws.{error_changes_nothing, reads_change_nothing}
use Rattle.bac_world.specs.Services.{Performed, store_after}
use Rattle.bac_driver.specs.Rounds.{HasNoted, IsReplied, change_store, changes_store, is_change_of, is_write}
use Rattle.bac_driver.specs.Serving.{count_of, performed_in}
use Rattle.bac_driver.specs.Turns.{Turn, performed_of}

-- ---- counts

pub performed_more : (xs : List Turn) (turn : Turn) → performed_in (xs ++ turn ∷ []) ≡ performed_in xs + count_of (performed_of turn.heard)
performed_more [] turn = refl
performed_more (x ∷ xs) turn =
    let ih : performed_in (xs ++ turn ∷ []) ≡ performed_in xs + count_of (performed_of turn.heard) = performed_more xs turn in omega arith

at_most_one : (p : Option Performed) → count_of p ≤ 1
at_most_one None = omega arith
at_most_one (Some p) = omega arith

pub few_performed : (xs : List Turn) → performed_in xs ≤ length xs
few_performed [] = omega arith
few_performed (x ∷ xs) =
    let ih : performed_in xs ≤ length xs = few_performed xs in
    let one : count_of (performed_of x.heard) ≤ 1 = at_most_one (performed_of x.heard) in
    omega arith

or_more : (a b c : Bool) → (a || (b || c)) ≡ ((a || b) || c)
or_more true b c = refl
or_more false b c = refl

pub or_false : (a : Bool) → (a || false) ≡ a
or_false true = refl
or_false false = refl

pub changed_more : (xs : List Turn) (turn : Turn) → change_store (xs ++ turn ∷ []) ≡ (change_store xs || changes_store turn)
changed_more [] turn = or_false (changes_store turn)
changed_more (x ∷ xs) turn =
    ap (λ (b : Bool). changes_store x || b) (changed_more xs turn) ∙ or_more (changes_store x) (change_store xs) (changes_store turn)

-- ---- turns that change nothing

unchanged_by : (s : Store) (r : Request) → (is_write r && is_done (reply_to s r)) ≡ false → after s r ≡ s
unchanged_by s r none = go (is_read_choice (choice_of r)) refl none
  where
    go : (b : Bool) → is_read_choice (choice_of r) ≡ b → (not b && is_done (reply_to s r)) ≡ false → after s r ≡ s
    go true read none = reads_change_nothing s r read
    go false read none = error_changes_nothing s r none

unchanged : (s : Store) (p : Option Performed) → IfSome p (IsReplied s) → is_change_of p ≡ false → store_after s p ≡ s
unchanged s None replied none = refl
unchanged s (Some p) replied none =
    unchanged_by s p.request (ap (λ r. is_write p.request && is_done r) (sym replied.reply) ∙ none)

-- the keeper needs no note of it
pub nothing_to_note : {K : Type 0} (IsHonest IsOpen : K → Type 0) (noted : K → Store) (k : K) (s : Store) (p : Option Performed)
    → (IsHonest k → IsOpen k) → (IsHonest k → s ≡ store_after (noted k) p) → (IsHonest k → IfSome p (IsReplied (noted k))) → is_change_of p ≡ false
    → IsHonest k → HasNoted IsOpen noted k s
nothing_to_note IsHonest IsOpen noted k s p is_open made replied none honest =
    record { is_open = is_open honest; noted_is = sym (made honest ∙ unchanged (noted k) p (replied honest) none) }

-- where none of some turns changes anything, none of the first does
pub unchanged_first : (xs ys : List Turn) → change_store (xs ++ ys) ≡ false → change_store xs ≡ false
unchanged_first [] ys none = refl
unchanged_first (x ∷ xs) ys none = go (changes_store x) (unchanged_first xs ys) none
  where
    go : (b : Bool) → (change_store (xs ++ ys) ≡ false → change_store xs ≡ false) → (b || change_store (xs ++ ys)) ≡ false → (b || change_store xs) ≡ false
    go true more is = absurd (cc)
    go false more is = more is

-- and neither does the last
pub unchanged_last : (xs : List Turn) (turn : Turn) → change_store (xs ++ turn ∷ []) ≡ false → changes_store turn ≡ false
unchanged_last xs turn none = go (change_store xs) (sym (changed_more xs turn) ∙ none)
  where
    go : (b : Bool) → (b || changes_store turn) ≡ false → changes_store turn ≡ false
    go true is = absurd (cc)
    go false is = is

-- where there is one turn alone
pub unchanged_one : (before turns : List Turn) (turn : Turn) → before ≡ [] → turns ≡ before ++ turn ∷ [] → change_store turns ≡ false
    → changes_store turn ≡ false
unchanged_one before turns turn none are is = unchanged_last before turn (sym (ap change_store are) ∙ is)

-- ---- one more turn of a round

pub counted_one_more : {A : Type 0} (view : A → Turn) (items new : List A) (turn : A) (performed more : ℕ) → performed ≡ performed_in (map view items)
    → more ≡ count_of (performed_of (view turn).heard) → new ≡ items ++ turn ∷ [] → performed + more ≡ performed_in (map view new)
counted_one_more {A = A} view items new turn performed more first second is =
    let all : performed_in (map view new) ≡ performed_in (map view items) + count_of (performed_of (view turn).heard) =
    ap (λ (xs : List A). performed_in (map view xs)) is
    ∙ ap performed_in (map-append view items (turn ∷ []))
    ∙ performed_more (map view items) (view turn) in
    omega (arith, all, first, second)

pub changed_one_more : {A : Type 0} (view : A → Turn) (items new : List A) (turn : A) (is_changed now : Bool) → is_changed ≡ change_store (map view items)
    → now ≡ (is_changed || changes_store (view turn)) → new ≡ items ++ turn ∷ [] → now ≡ change_store (map view new)
changed_one_more {A = A} view items new turn is_changed now first second is =
    second
    ∙ ap (λ (b : Bool). b || changes_store (view turn)) first
    ∙ sym (ap (λ (xs : List A). change_store (map view xs)) is
    ∙ ap change_store (map-append view items (turn ∷ []))
    ∙ changed_more (map view items) (view turn))

-- before one more turn, and in it, nothing is changed where nothing is afterwards
pub unchanged_before : (before turns : List Turn) (turn : Turn) → turns ≡ before ++ turn ∷ [] → change_store turns ≡ false → change_store before ≡ false
unchanged_before before turns turn are is = unchanged_first before (turn ∷ []) (sym (ap change_store are) ∙ is)

pub unchanged_after : (before turns : List Turn) (turn : Turn) → turns ≡ before ++ turn ∷ [] → change_store turns ≡ false → changes_store turn ≡ false
unchanged_after before turns turn are is = unchanged_last before turn (sym (ap change_store are) ∙ is)
