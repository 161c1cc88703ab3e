-- What slots send and end, in the order of their keys, slot by slot.
use Rattle.std.proofs.Common.{◌≡◌, ℕ, zero, suc, ◌+◌, Bool, true, false, List, [], ◌∷◌, ◌++◌, length, take, Option, Some, None, if◌then◌else◌, slice_get}
use Rattle.std.proofs.Common.{append_assoc, refl, ap, sym, subst, ◌∙◌, arith}
use Rattle.std.specs.Option.{option_map}
use Rattle.std.specs.Ordering.{is_gt}
use Rattle.std.proofs.lemmas.List.{append-nil, length-map, take_all}
use Rattle.std.proofs.lemmas.Option.{slice_get-map}
use Rattle.bac_slots.specs.declared.slot.Slot.{Slot}
use Rattle.bac_slots.specs.Slots.{EachSlot, IsDistinct, in_order, inserted, nth_by_key}
use Rattle.bac_transaction.specs.Ends.{from_each}
use Rattle.bac_transaction.specs.Keys as keys
use Rattle.bac_transaction.specs.Keys.{peer_key_cmp}
use Rattle.bac_transaction.specs.Sends.{Pairwise}
use Rattle.bac_transaction.specs.Views.{code_key_cmp, code_same_key, slot_view, slots_view}
use Rattle.bac_transaction.specs.declared.peer_key.PeerKey.{PeerKey}
use Rattle.bac_transaction.proofs.Keyed.{in_order_viewed}

-- Lists, one member after the other.

take_more : {A : Type 0} (n : ℕ) (xs : List A) (x : A) → slice_get xs n ≡ Some x → take (n + 1) xs ≡ take n xs ++ x ∷ []
take_more n xs x e = let next : n + 1 ≡ suc n = omega arith in ap (λ k. take k xs) next ∙ go n xs x e
  where
    go : {A : Type 0} (n : ℕ) (xs : List A) (x : A) → slice_get xs n ≡ Some x → take (suc n) xs ≡ take n xs ++ x ∷ []
    go n [] x e = absurd cc
    go zero (y ∷ xs) x e = let same : y ≡ x = cc in ap (λ z. z ∷ []) same
    go (suc n) (y ∷ xs) x e = ap (λ l. y ∷ l) (go n xs x e)

take_past : {A : Type 0} (n : ℕ) (xs : List A) → slice_get xs n ≡ None → take (n + 1) xs ≡ take n xs
take_past n xs e = let next : n + 1 ≡ suc n = omega arith in ap (λ k. take k xs) next ∙ go n xs e
  where
    go : {A : Type 0} (n : ℕ) (xs : List A) → slice_get xs n ≡ None → take (suc n) xs ≡ take n xs
    go zero [] e = refl
    go (suc n) [] e = refl
    go zero (y ∷ xs) e = absurd cc
    go (suc n) (y ∷ xs) e = ap (λ l. y ∷ l) (go n xs e)

pairwise_append : {A B : Type 0} (R : A → B → Type 0) (xs us : List A) (ys vs : List B) → Pairwise R xs ys → Pairwise R us vs
    → Pairwise R (xs ++ us) (ys ++ vs)
pairwise_append R [] us [] vs p q = q
pairwise_append R [] us (y ∷ ys) vs p q = absurd p
pairwise_append R (x ∷ xs) us [] vs p q = absurd p
pairwise_append R (x ∷ xs) us (y ∷ ys) vs p q = (p.0, pairwise_append R xs us ys vs p.1 q)

from_each_append : {A B : Type 0} (f : A → List B) (xs ys : List A) → from_each f (xs ++ ys) ≡ from_each f xs ++ from_each f ys
from_each_append f [] ys = refl
from_each_append f (x ∷ xs) ys = ap (λ l. f x ++ l) (from_each_append f xs ys) ∙ sym (append_assoc (f x) (from_each f xs) (from_each f ys))

from_each_more : {A B : Type 0} (f : A → List B) (n : ℕ) (xs : List A) (x : A) → slice_get xs n ≡ Some x
    → from_each f (take (n + 1) xs) ≡ from_each f (take n xs) ++ f x
from_each_more f n xs x e =
    ap (λ l. from_each f l) (take_more n xs x e) ∙ from_each_append f (take n xs) (x ∷ []) ∙ ap (λ l. from_each f (take n xs) ++ l) (append-nil (f x))

-- one more slot's
pub told_more : {A B C : Type 0} (R : B → C → Type 0) (f : A → List B) (n : ℕ) (xs : List A) (x : A) (a b all : List C) → slice_get xs n ≡ Some x
    → Pairwise R (from_each f (take n xs)) a → Pairwise R (f x) b → all ≡ a ++ b → Pairwise R (from_each f (take (n + 1) xs)) all
told_more R f n xs x a b all e p q is =
    subst (λ l. Pairwise R l all) (sym (from_each_more f n xs x e))
    (subst (λ l. Pairwise R (from_each f (take n xs) ++ f x) l) (sym is) (pairwise_append R (from_each f (take n xs)) (f x) a b p q))

pub told_past : {A B C : Type 0} (R : B → C → Type 0) (f : A → List B) (n : ℕ) (xs : List A) (a : List C) → slice_get xs n ≡ None
    → Pairwise R (from_each f (take n xs)) a → Pairwise R (from_each f (take (n + 1) xs)) a
told_past R f n xs a e p = subst (λ l. Pairwise R (from_each f l) a) (sym (take_past n xs e)) p

-- Slots in ascending order of their keys.
module _ (V : Type 0) where
  abbrev pub ordered : List (Slot PeerKey V) → List (Slot keys.PeerKey V)
  ordered slots = in_order peer_key_cmp (slots_view slots)

  -- the law of bac_slots that the code calls
  abbrev pub IsNth : Type 0
  IsNth = (slots : List (Slot PeerKey V)) (n : ℕ) → IsDistinct code_same_key slots
      → nth_by_key code_key_cmp n slots ≡ slice_get (in_order code_key_cmp slots) n

  pub nth_slot : (law : IsNth) (slots : List (Slot PeerKey V)) (n : ℕ) (o : Option (Slot PeerKey V)) → IsDistinct code_same_key slots
      → nth_by_key code_key_cmp n slots ≡ o → slice_get (ordered slots) n ≡ option_map slot_view o
  nth_slot law slots n o d e =
      ap (λ l. slice_get l n) (sym (in_order_viewed V slots)) ∙ slice_get-map slot_view (in_order code_key_cmp slots) n
      ∙ ap (λ p. option_map slot_view p) (sym (law slots n d) ∙ e)

  pub take_ordered : (slots : List (Slot PeerKey V)) (n : ℕ) → length (in_order code_key_cmp slots) ≡ length slots → n ≡ length slots
      → take n (ordered slots) ≡ ordered slots
  take_ordered slots n law is =
      let viewed : length (ordered slots) ≡ length (in_order code_key_cmp slots) =
      ap length (sym (in_order_viewed V slots)) ∙ length-map (in_order code_key_cmp slots) slot_view in
      take_all n (ordered slots) (omega (arith, viewed, law, is))

  -- Nothing comes of any slot, in whatever order they are gone through.

  none_inserted : (P : Slot keys.PeerKey V → Type 0) (s : Slot keys.PeerKey V) (slots : List (Slot keys.PeerKey V)) → P s → EachSlot P slots
      → EachSlot P (inserted peer_key_cmp s slots)
  none_inserted P s [] e g = (e, tt)
  none_inserted P s (t ∷ slots) e g = go (is_gt (peer_key_cmp s.key t.key)) (none_inserted P s slots e g.1)
    where
      go : (b : Bool) → EachSlot P (inserted peer_key_cmp s slots) → EachSlot P (if b then t ∷ inserted peer_key_cmp s slots else s ∷ t ∷ slots)
      go true more = (g.0, more)
      go false more = (e, g)

  none_ordered : (P : Slot keys.PeerKey V → Type 0) (slots : List (Slot keys.PeerKey V)) → EachSlot P slots → EachSlot P (in_order peer_key_cmp slots)
  none_ordered P [] g = tt
  none_ordered P (s ∷ slots) g = none_inserted P s (in_order peer_key_cmp slots) g.0 (none_ordered P slots g.1)

  none_each : {B : Type 0} (f : Slot keys.PeerKey V → List B) (slots : List (Slot keys.PeerKey V)) → EachSlot (λ s. f s ≡ []) slots → from_each f slots ≡ []
  none_each f [] g = refl
  none_each f (s ∷ slots) g = ap (λ l. l ++ from_each f slots) g.0 ∙ none_each f slots g.1

  pub none_told : {B : Type 0} (f : Slot keys.PeerKey V → List B) (slots : List (Slot keys.PeerKey V)) → EachSlot (λ s. f s ≡ []) slots
      → from_each f (in_order peer_key_cmp slots) ≡ []
  none_told f slots none = none_each f (in_order peer_key_cmp slots) (none_ordered (λ s. f s ≡ []) slots none)

  pub told_none : {B C : Type 0} (R : B → C → Type 0) (f : Slot keys.PeerKey V → List B) (slots : List (Slot PeerKey V)) (told : List C)
      → EachSlot (λ s. f (slot_view s) ≡ []) slots → told ≡ [] → Pairwise R (from_each f (ordered slots)) told
  told_none {B} {C} R f slots told none is =
      subst (λ l. Pairwise R l told) (sym (none_told f (slots_view slots) (viewed slots none)))
      (subst (λ (l : List C). Pairwise R [] l) (sym is) tt)
    where
      viewed : (slots : List (Slot PeerKey V)) → EachSlot (λ s. f (slot_view s) ≡ []) slots → EachSlot (λ s. f s ≡ []) (slots_view slots)
      viewed [] e = tt
      viewed (s ∷ slots) e = (e.0, viewed slots e.1)
