-- Steps of what goes out.
use Rattle.std.proofs.Common.{◌≡◌, ℕ, Bool, true, false, not, ◌<◌, ◌≤◌, arith, length-drop, subst, List, [], ◌∷◌, ◌++◌, length, take, drop, Option, None, Some, refl, sym, ap, ◌∙◌, append_assoc}
use Rattle.std.specs.Prelude.{flat_map}
use Rattle.std.specs.List.{list_all}
use Rattle.std.specs.Io.KnownBytes.{Appends, Keeps}
use Rattle.std.proofs.Math.Logic.{∥∥₁_elim}
use Rattle.std.proofs.Props.{props}
use Rattle.std.proofs.lemmas.List.{append-nil, take-append-drop}
use Rattle.bstr.specs.Utf8.{decoded}
use Rattle.bstr.proofs.lemmas.PieceLemmas.{piece-bounds}
use Rattle.bac_shown.specs.Escapes.{octet_text}
use Rattle.bac_shown.specs.Going.{Follows, Goes, Puts}
use Rattle.bac_shown.specs.Harmful.{is_plain}
use Rattle.bac_shown.specs.Pieces.{first_text, is_open, shown, Turns}
use Rattle.bac_shown.specs.declared.form.Form.{Form}
use Rattle.bac_shown.proofs.Harmless.{harmless-append, nothing_is_harmless}
use Rattle.bac_shown.proofs.Plain.{plain_text_is_harmless}
use Rattle.bac_shown.proofs.Showing.{closed_is_some, goes_turned, harmless_stays, open_shown}

-- ---- what a writer has

pub follows_same : (k : Option (List ℕ)) (w : List ℕ) → Follows k k w w []
follows_same None w = tt
follows_same (Some x) w = sym (append-nil (x ++ w))

pub follows_kept : (k k' : Option (List ℕ)) (w : List ℕ) → Keeps k k' → Follows k k' w w []
follows_kept None k' w kept = tt
follows_kept (Some x) None w kept = absurd kept
follows_kept (Some x) (Some y) w kept = ap (λ t. t ++ w) kept ∙ sym (append-nil (x ++ w))

-- a front of what waits was written
pub follows_sent : (k k' : Option (List ℕ)) (w : List ℕ) (n : ℕ) → Appends k k' (take n w) → Follows k k' w (drop n w) []
follows_sent None k' w n sent = tt
follows_sent (Some x) None w n sent = absurd sent
follows_sent (Some x) (Some y) w n sent =
    ap (λ t. t ++ drop n w) sent ∙ append_assoc x (take n w) (drop n w) ∙ ap (λ t. x ++ t) (take-append-drop n w) ∙ sym (append-nil (x ++ w))

pub follows_written : (k k' : Option (List ℕ)) (t : List ℕ) → Appends k k' t → Follows k k' [] [] t
follows_written None k' t sent = tt
follows_written (Some x) None t sent = absurd sent
follows_written (Some x) (Some y) t sent = append-nil y ∙ sent ∙ ap (λ z. z ++ t) (sym (append-nil x))

pub follows_waiting : (k : Option (List ℕ)) (t : List ℕ) → Follows k k [] t t
follows_waiting None t = tt
follows_waiting (Some x) t = ap (λ z. z ++ t) (sym (append-nil x))

pub follows_more : (k k' k'' : Option (List ℕ)) (w w' w'' t u : List ℕ) → Follows k k' w w' t → Follows k' k'' w' w'' u → Follows k k'' w w'' (t ++ u)
follows_more None k' k'' w w' w'' t u a b = tt
follows_more (Some x) None k'' w w' w'' t u a b = absurd a
follows_more (Some x) (Some y) None w w' w'' t u a b = absurd b
follows_more (Some x) (Some y) (Some z) w w' w'' t u a b = b ∙ ap (λ v. v ++ u) a ∙ append_assoc (x ++ w) t u

-- more waits
follows_put : (k k' : Option (List ℕ)) (w v t : List ℕ) → Follows k k' w [] t → Follows k k' w v (t ++ v)
follows_put None k' w v t a = tt
follows_put (Some x) None w v t a = absurd a
follows_put (Some x) (Some y) w v t a = ap (λ z. z ++ v) (sym (append-nil y) ∙ a) ∙ append_assoc (x ++ w) t v

pub appended : (k k' : Option (List ℕ)) (t : List ℕ) → Follows k k' [] [] t → Appends k k' t
appended None k' t a = tt
appended (Some x) None t a = absurd a
appended (Some x) (Some y) t a = sym (append-nil y) ∙ a ∙ ap (λ z. z ++ t) (append-nil x)

-- ---- what goes

pub goes_same : (f : Form) (h : List ℕ) → Goes f h h []
goes_same f h = record { follows = λ more. refl; harmless = nothing_is_harmless }

pub goes_more : (f : Form) (h h' h'' t u : List ℕ) → Goes f h h' t → Goes f h' h'' u → Goes f h h'' (t ++ u)
goes_more f h h' h'' t u a b = record {
  follows = λ more. a.follows more ∙ ap (λ z. t ++ z) (b.follows more) ∙ sym (append_assoc t u (shown f (h'' ++ more)));
  harmless = harmless-append t u a.harmless b.harmless;
}

-- an octet more is held
goes_held : (f : Form) (w h t o : List ℕ) → Goes f w h t → Goes f (w ++ o) (h ++ o) t
goes_held f w h t o a = record {
  follows = λ more. ap (λ z. shown f z) (append_assoc w o more) ∙ a.follows (o ++ more) ∙ ap (λ z. t ++ shown f z) (sym (append_assoc h o more));
  harmless = a.harmless;
}

-- plain octets, where nothing is held
goes_plain : (f : Form) (w t p : List ℕ) → Goes f w [] t → list_all is_plain p ≡ true → Goes f (w ++ p) [] (t ++ p)
goes_plain f w t p a plain =
    let fine = plain_text_is_harmless p plain in record {
      follows = λ more. ap (λ z. shown f z) (append_assoc w p more) ∙ a.follows (p ++ more) ∙ ap (λ z. t ++ z) (harmless_stays f p more fine)
          ∙ sym (append_assoc t p (shown f more));
      harmless = harmless-append t p a.harmless fine;
    }

-- ---- both

pub puts_same : (f : Form) (k k' : Option (List ℕ)) (h w w' : List ℕ) → Follows k k' w w' [] → Puts f k k' h h w w'
puts_same f k k' h w w' a = record { text = []; goes = goes_same f h; follows = a }

pub puts_more : (f : Form) (k k' k'' : Option (List ℕ)) (h h' h'' w w' w'' : List ℕ) → Puts f k k' h h' w w' → Puts f k' k'' h' h'' w' w''
    → Puts f k k'' h h'' w w''
puts_more f k k' k'' h h' h'' w w' w'' a b = record {
  text = a.text ++ b.text;
  goes = goes_more f h h' h'' a.text b.text a.goes b.goes;
  follows = follows_more k k' k'' w w' w'' a.text b.text a.follows b.follows;
}

not_false : (b : Bool) → false ≡ not b → b ≡ true
not_false true is = refl
not_false false is = cc

not_true : (b : Bool) → true ≡ not b → b ≡ false
not_true true is = cc
not_true false is = refl

pub puts_turned : (f : Form) (k : Option (List ℕ)) (h h' w' : List ℕ) (moved : Bool) → Turns f h h' w' moved → Puts f k k h h' [] w'
puts_turned f k h h' w' true t =
    let is = t.goes refl in record {
      text = first_text f h;
      goes = subst (λ (z : List ℕ). Goes f h z (first_text f h)) (sym is.0) (goes_turned f h (not_true (is_open h) t.told));
      follows = subst (λ (z : List ℕ). Follows k k [] z (first_text f h)) (sym is.1) (follows_waiting k (first_text f h));
    }
puts_turned f k h h' w' false t =
    let is = t.stays refl in record {
      text = [];
      goes = subst (λ (z : List ℕ). Goes f h z []) (sym is.0) (goes_same f h);
      follows = subst (λ (z : List ℕ). Follows k k [] z []) (sym is.1) (follows_same k []);
    }

pub turned_is_smaller : (f : Form) (h h' w' : List ℕ) → Turns f h h' w' true → length h' < length h
turned_is_smaller f h h' w' t =
    let is = t.goes refl in
    let some = closed_is_some h (not_true (is_open h) t.told) in
    let bounds = piece-bounds h some in
    let shorter = ap length is.0 ∙ length-drop (decoded h).size h in
    omega arith

pub turned_is_open : (f : Form) (h h' w' : List ℕ) → Turns f h h' w' false → (is_open h' ≡ true) × (w' ≡ [])
turned_is_open f h h' w' t =
    let is = t.stays refl in (ap is_open is.0 ∙ not_false (is_open h) t.told, is.1)

-- ---- what is written

pub puts_held : (f : Form) (k k' : Option (List ℕ)) (written held w w' o : List ℕ) → Puts f k k' written held w w' → Puts f k k' (written ++ o) (held ++ o) w w'
puts_held f k k' written held w w' o a = record { text = a.text; goes = goes_held f written held a.text o a.goes; follows = a.follows }

-- plain octets were written
pub puts_plain : (f : Form) (k k' k'' : Option (List ℕ)) (written p : List ℕ) → Puts f k k' written [] [] [] → list_all is_plain p ≡ true → Appends k' k'' p
    → Puts f k k'' (written ++ p) [] [] []
puts_plain f k k' k'' written p a plain sent = record {
  text = a.text ++ p;
  goes = goes_plain f written a.text p a.goes plain;
  follows = follows_more k k' k'' [] [] [] a.text p a.follows (follows_written k' k'' p sent);
}

-- all that is left was written, and is no character
pub ended : (f : Form) (k k' k'' : Option (List ℕ)) (h h' w : List ℕ) → Puts f k k' h h' w [] → is_open h' ≡ true
    → Follows k' k'' (flat_map (octet_text f) h') [] [] → Follows k k'' w [] (shown f h)
ended f k k' k'' h h' w a whole b =
    let left : List ℕ = flat_map (octet_text f) h' in
    let all : Follows k k'' w [] ((a.text ++ left) ++ []) =
    follows_more k k' k'' w left [] (a.text ++ left) [] (follows_put k k' w left a.text a.follows) b in
    let is : shown f h ≡ a.text ++ left =
    ap (λ z. shown f z) (sym (append-nil h)) ∙ a.goes.follows [] ∙ ap (λ z. a.text ++ shown f z) (append-nil h') ∙ ap (λ z. a.text ++ z) (open_shown f h' whole) in
    subst (λ (z : List ℕ). Follows k k'' w [] z) (append-nil (a.text ++ left) ∙ sym is) all

-- ---- in a loop

-- a piece went to what waits, and of that a part to the writer
pub puts_stepped : (f : Form) (k₀ k k' : Option (List ℕ)) (h₀ h h' w w' w'' : List ℕ) → Puts f k₀ k h₀ h [] [] → Turns f h h' w' true → Follows k k' w' w'' []
    → Puts f k₀ k' h₀ h' [] w''
puts_stepped f k₀ k k' h₀ h h' w w' w'' a turns sent =
    puts_more f k₀ k k' h₀ h h' [] [] w'' a (puts_more f k k k' h h' h' [] w' w'' (puts_turned f k h h' w' true turns) (puts_same f k k' h' w' w'' sent))

pub puts_begun : (f : Form) (k₀ k k' : Option (List ℕ)) (h h' w w' w'' : List ℕ) → Follows k₀ k w w' [] → w' ≡ [] → Puts f k k' h h' [] w'' → Puts f k₀ k' h h' w w''
puts_begun f k₀ k k' h h' w w' w'' sent none a =
    let begun : Follows k₀ k w [] [] = subst (λ (z : List ℕ). Follows k₀ k w z []) none sent in
    puts_more f k₀ k k' h h h' w [] w'' (puts_same f k₀ k h w [] begun) a

pub puts_empty : (f : Form) (k k' : Option (List ℕ)) (h h' w w' : List ℕ) → Puts f k k' h h' w w' → w' ≡ [] → Puts f k k' h h' w []
puts_empty f k k' h h' w w' a none = subst (λ (z : List ℕ). Puts f k k' h h' w z) none a

-- ---- at the end

pub finished : (f : Form) (k₀ k₁ k₂ : Option (List ℕ)) (h₀ h₁ held w₀ w₁ p s : List ℕ) → Puts f k₀ k₁ h₀ h₁ w₀ w₁ → w₁ ≡ [] → is_open h₁ ≡ true → held ≡ h₁
    → p ≡ w₁ ++ flat_map (octet_text f) held → Follows k₁ k₂ p s [] → s ≡ [] → Follows k₀ k₂ w₀ [] (shown f h₀)
finished f k₀ k₁ k₂ h₀ h₁ held w₀ w₁ p s a none whole same pushed sent gone =
    let left : List ℕ = flat_map (octet_text f) h₁ in
    let is : p ≡ left = pushed ∙ ap (λ z. z ++ flat_map (octet_text f) held) none ∙ ap (λ z. flat_map (octet_text f) z) same in
    let out : Follows k₁ k₂ left [] [] = subst (λ (z : List ℕ). Follows k₁ k₂ left z []) gone (subst (λ (z : List ℕ). Follows k₁ k₂ z s []) is sent) in
    ended f k₀ k₁ k₂ h₀ h₁ w₀ (puts_empty f k₀ k₁ h₀ h₁ w₀ w₁ a none) whole out

lists_are_set : (xs ys : List ℕ) → IsProp (xs ≡ ys)
lists_are_set xs ys = Prim.hlevel props

appends_prop : (k k' : Option (List ℕ)) (t : List ℕ) → IsProp (Appends k k' t)
appends_prop None k' t = λ a b. refl
appends_prop (Some x) None t = λ a b. absurd a
appends_prop (Some x) (Some y) t = lists_are_set y (x ++ t)

all_put : (f : Form) (k₀ k k' : Option (List ℕ)) (written held w : List ℕ) → Follows k k' w [] (shown f held) → Puts f k₀ k written held [] w
    → Appends k₀ k' (shown f written)
all_put f k₀ k k' written held w last a =
    let is : shown f written ≡ a.text ++ shown f held =
    ap (λ z. shown f z) (sym (append-nil written)) ∙ a.goes.follows [] ∙ ap (λ z. a.text ++ shown f z) (append-nil held) in
    let all : Follows k₀ k' [] [] (a.text ++ shown f held) = follows_more k₀ k k' [] w [] a.text (shown f held) a.follows last in
    appended k₀ k' (shown f written) (subst (λ (z : List ℕ). Follows k₀ k' [] [] z) (sym is) all)

pub all_shown : (f : Form) (k₀ k k' : Option (List ℕ)) (written held w : List ℕ) → ∥ Puts f k₀ k written held [] w ∥₁ → Follows k k' w [] (shown f held)
    → Appends k₀ k' (shown f written)
all_shown f k₀ k k' written held w a last = ∥∥₁_elim a (appends_prop k₀ k' (shown f written)) (all_put f k₀ k k' written held w last)

-- ---- as a writer

-- a writer that failed, or that was flushed
pub puts_kept : (f : Form) (k₀ k k' : Option (List ℕ)) (written held w : List ℕ) → Keeps k k' → Puts f k₀ k written held [] w → Puts f k₀ k' written held [] w
puts_kept f k₀ k k' written held w kept a = puts_more f k₀ k k' written held held [] w w a (puts_same f k k' held w w (follows_kept k k' w kept))

-- plain octets, where nothing is held and nothing waits
pub puts_passed : (f : Form) (k₀ k k' : Option (List ℕ)) (written written' held w p : List ℕ) → held ≡ [] → w ≡ [] → written' ≡ written ++ p
    → list_all is_plain p ≡ true → Appends k k' p → Puts f k₀ k written held [] w → Puts f k₀ k' written' held [] w
puts_passed f k₀ k k' written written' held w p none still is plain sent a =
    let now : Puts f k₀ k written [] [] [] =
    subst (λ (z : List ℕ). Puts f k₀ k written z [] []) none (subst (λ (z : List ℕ). Puts f k₀ k written held [] z) still a) in
    let then : Puts f k₀ k' (written ++ p) [] [] [] = puts_plain f k₀ k k' written p now plain sent in
    let back : Puts f k₀ k' (written ++ p) held [] w =
    subst (λ (z : List ℕ). Puts f k₀ k' (written ++ p) held [] z) (sym still) (subst (λ (z : List ℕ). Puts f k₀ k' (written ++ p) z [] []) (sym none) then) in
    subst (λ (z : List ℕ). Puts f k₀ k' z held [] w) (sym is) back
