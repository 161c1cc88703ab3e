-- Copies that were sent after others, all of one transaction.
use Rattle.std.proofs.Common.{◌≡◌, ℕ, zero, suc, ◌≤◌, ◌<◌, List, [], ◌∷◌, ◌++◌, map, length, Some, slice_get, sym, ap, subst, ◌∙◌, refl, arith, append_assoc}
use Rattle.bac_apdu.specs.Apdu.{Apdu}
use Rattle.bac_protocol.specs.Transaction.{Key}
use Rattle.bac_protocol.specs.World.{Post, post_of}
use Rattle.bac_world.proofs.Pairs.{append_none}

abbrev pub EachOf : Key → List Post → Type 0
EachOf key [] = Unit {0}
EachOf key (p ∷ posts) = (p.key ≡ key) × EachOf key posts

-- all copies after the old ones are of the transaction
pub record AreOwn (old : List Post) (key : Key) (posts : List Post) : Type 0 where
  pub more : List Post
  pub is : posts ≡ old ++ more
  pub each : EachOf key more

each_joined : (key : Key) (xs ys : List Post) → EachOf key xs → EachOf key ys → EachOf key (xs ++ ys)
each_joined key [] ys h k = k
each_joined key (x ∷ xs) ys h k = (h.0, each_joined key xs ys h.1 k)

each_sent : (key : Key) (now : ℕ) (sends : List Apdu) → EachOf key (map (post_of key now) sends)
each_sent key now [] = tt
each_sent key now (a ∷ sends) = (refl, each_sent key now sends)

pub own_none : (old : List Post) (key : Key) → AreOwn old key old
own_none old key = record { more = []; is = sym (append_none old); each = tt }

pub own_more : (old : List Post) (key : Key) (posts : List Post) → AreOwn old key posts → (now : ℕ) (sends : List Apdu)
    → AreOwn old key (posts ++ map (post_of key now) sends)
own_more old key posts h now sends = record {
  more = h.more ++ map (post_of key now) sends;
  is = ap (λ l. l ++ map (post_of key now) sends) h.is ∙ append_assoc old h.more (map (post_of key now) sends);
  each = each_joined key h.more (map (post_of key now) sends) h.each (each_sent key now sends);
}

each_at : (key : Key) (posts : List Post) (k : ℕ) (p : Post) → EachOf key posts → slice_get posts k ≡ Some p → p.key ≡ key
each_at key [] k p h e = absurd cc
each_at key (q ∷ posts) zero p h e = let same : q ≡ p = cc in sym (ap (λ (y : Post). y.key) same) ∙ h.0
each_at key (q ∷ posts) (suc k) p h e = each_at key posts k p h.1 e

after_at : (key : Key) (old more : List Post) (k : ℕ) (p : Post) → EachOf key more → length old ≤ k → slice_get (old ++ more) k ≡ Some p → p.key ≡ key
after_at key [] more k p h le e = each_at key more k p h e
after_at key (q ∷ old) more zero p h le e = absurd (omega arith)
after_at key (q ∷ old) more (suc k) p h le e = after_at key old more k p h (omega arith) e

-- the key of a copy after the old ones
pub own_at : (old : List Post) (key : Key) (posts : List Post) → AreOwn old key posts → (k : ℕ) (p : Post) → length old ≤ k → slice_get posts k ≡ Some p
    → p.key ≡ key
own_at old key posts h k p le e = after_at key old h.more k p h.each le (subst (λ (l : List Post). slice_get l k ≡ Some p) h.is e)

pub within : {A : Type 0} (xs : List A) (k : ℕ) (x : A) → slice_get xs k ≡ Some x → k < length xs
within [] k x e = absurd cc
within (y ∷ xs) zero x e = omega arith
within (y ∷ xs) (suc k) x e = let again = within xs k x e in omega arith
