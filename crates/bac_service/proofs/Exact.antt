-- Readers on lists that accept exactly the spellings, and how they combine.
use Rattle.std.proofs.Common.{◌≡◌, ℕ, ◌+◌, ◌<◌, Bool, true, false, [], ◌∷◌, ◌++◌, length, Option, Some}
use Rattle.std.proofs.Common.{None, Result, Ok, Err, cond, ◌⊎◌, inl, inr, refl, sym, ap, subst, ◌∙◌}
use Rattle.std.proofs.Common.{append_assoc}
use Rattle.std.proofs.lemmas.List.{get_or-append-add, append-nil}
use Rattle.bac_value.proofs.Steps.{bind_ok, ok_is}
use Rattle.bac_value.specs.Octets.{IsBytes}
use Rattle.bac_service.specs.Members.{Octets, ◌⨾◌, Optional}
use Rattle.bac_service.specs.declared.stop.Stop.{Stop}
use Rattle.bac_service.specs.declared.stop.Why.{Why}
use Rattle.bac_service.specs.Stops.{stop}
use Rattle.bac_value.specs.Steps.{◌>>=◌}
use Rattle.bac_service.specs.Reading.{Read, both_at, made_at, present, is_next, optional_at, that_at, chosen_at, either_at, ends, whole}

-- what was read is a spelling; a spelling is read if what follows it is allowed to follow
pub record IsExact {A : Type 0} (Follows : Octets → Type 0) (read : Octets → Read A) (Spells : A → Octets → Type 0) : Type 0 where
  pub takes : (bytes : Octets) (x : A × Octets) → IsBytes bytes → read bytes ≡ Ok x → (text : Octets) × (bytes ≡ text ++ x.1) × Spells x.0 text
  pub again : (y : A) (text rest : Octets) → Spells y text → Follows rest → read (text ++ rest) ≡ Ok (y, rest)

abbrev pub Anything : Octets → Type 0
Anything rest = Unit {0}

pub bytes_behind : (text rest : Octets) → IsBytes (text ++ rest) → IsBytes rest
bytes_behind text rest fits i = subst (λ (n : ℕ). n < 256) (get_or-append-add text rest i 0) (fits (length text + i))

-- the rest of an input consists of octets
pub left_fits : {A : Type 0} (read : Octets → Read A) (Spells : A → Octets → Type 0) {Follows : Octets → Type 0} → IsExact Follows read Spells
    → (bytes : Octets) (x : A × Octets) → IsBytes bytes → read bytes ≡ Ok x → IsBytes x.1
left_fits read Spells law bytes x fits e =
    let t = law.takes bytes x fits e in
    bytes_behind t.0 x.1 (subst IsBytes t.1 fits)

-- one reader after the other
pub both_exact : {A B : Type 0} (F G : Octets → Type 0) (first : Octets → Read A) (second : Octets → Read B)
    (P : A → Octets → Type 0) (Q : B → Octets → Type 0)
    → IsExact F first P → IsExact G second Q → ((b : B) (text rest : Octets) → Q b text → G rest → F (text ++ rest))
    → IsExact G (both_at first second) (λ y. P y.0 ⨾ Q y.1)
both_exact {A = A} {B = B} F G first second P Q one two link = record {
  takes = λ bytes x fits e.
      let a = bind_ok (first bytes) (λ a. second a.1 >>= λ b. Ok ((a.0, b.0), b.1)) x e in
      let b = bind_ok (second a.0.1) (λ b. Ok ((a.0.0, b.0), b.1)) x a.2 in
      let t = one.takes bytes a.0 fits a.1 in
      let u = two.takes a.0.1 b.0 (left_fits first P one bytes a.0 fits a.1) b.1 in
      let whole_is : bytes ≡ (t.0 ++ u.0) ++ b.0.1 = t.1 ∙ ap (λ (r : Octets). t.0 ++ r) u.1 ∙ sym (append_assoc t.0 u.0 b.0.1) in
      let is = ok_is ((a.0.0, b.0.0), b.0.1) x b.2 in
      subst (λ (y : (A × B) × Octets). (text : Octets) × (bytes ≡ text ++ y.1) × (P y.0.0 ⨾ Q y.0.1) text) is
      (t.0 ++ u.0, whole_is, record { front = t.0; back = u.0; first = t.2; second = u.2; is = refl });
  again = λ y text rest s follows.
      let parts : text ++ rest ≡ s.front ++ (s.back ++ rest) = ap (λ (t : Octets). t ++ rest) s.is ∙ append_assoc s.front s.back rest in
      ap (both_at first second) parts ∙ rw (
        one.again y.0 s.front (s.back ++ rest) s.first (link y.1 s.back rest s.second follows),
        two.again y.1 s.back rest s.second follows,
      ) refl;
}

-- a value built from what was read
abbrev pub Made : {A B : Type 0} → (A → B) → (A → Octets → Type 0) → B → Octets → Type 0
Made {A = A} make P b text = (a : A) × (make a ≡ b) × P a text

pub made_exact : {A B : Type 0} (F : Octets → Type 0) (make : A → B) (read : Octets → Read A) (P : A → Octets → Type 0) → IsExact F read P
    → IsExact F (made_at make read) (Made make P)
made_exact {A = A} {B = B} F make read P law = record {
  takes = λ bytes x fits e.
      let a = bind_ok (read bytes) (λ a. Ok (make a.0, a.1)) x e in
      let t = law.takes bytes a.0 fits a.1 in
      subst (λ (y : B × Octets). (text : Octets) × (bytes ≡ text ++ y.1) × Made make P y.0 text) (ok_is (make a.0.0, a.0.1) x a.2)
      (t.0, t.1, (a.0.0, refl, t.2));
  again = λ y text rest s follows. rw (law.again s.0 text rest s.2 follows, s.1) refl;
}

-- the same reader for an equivalent relation
pub same_exact : {A : Type 0} (F : Octets → Type 0) (read : Octets → Read A) (P Q : A → Octets → Type 0) → IsExact F read P
    → ((a : A) (text : Octets) → P a text → Q a text) → ((a : A) (text : Octets) → Q a text → P a text) → IsExact F read Q
same_exact F read P Q law to back = record {
  takes = λ bytes x fits e. let t = law.takes bytes x fits e in (t.0, t.1, to x.0 t.0 t.2);
  again = λ y text rest s follows. law.again y text rest (back y text s) follows;
}

-- a value that passes a test
abbrev pub That : {A : Type 0} → (A → Bool) → (A → Octets → Type 0) → A → Octets → Type 0
That test P a text = (test a ≡ true) × P a text

that_is : {A : Type 0} (b : Bool) (x y : A) (d : Stop) → cond b (Ok x) (Err d) ≡ Ok y → (b ≡ true) × (x ≡ y)
that_is true x y d e = (refl, ok_is x y e)
that_is false x y d e = absurd cc

pub that_exact : {A : Type 0} (F : Octets → Type 0) (why : Why) (test : A → Bool) (read : Octets → Read A) (P : A → Octets → Type 0) → IsExact F read P
    → IsExact F (that_at why test read) (That test P)
unfolding that_at
that_exact {A = A} F why test read P law = record {
  takes = λ bytes x fits e.
      let a = bind_ok (read bytes) (λ x. cond (test x.0) (Ok x) (stop why bytes)) x e in
      let i = that_is (test a.0.0) a.0 x (record { why = why; left = length bytes }) a.2 in
      let t = law.takes bytes a.0 fits a.1 in
      subst (λ (y : A × Octets). (text : Octets) × (bytes ≡ text ++ y.1) × That test P y.0 text) i.1 (t.0, t.1, (i.0, t.2));
  again = λ y text rest s follows. rw (law.again y text rest s.1 follows, s.0) refl;
}

-- one of two alternatives, chosen by what comes next
pub record IsOneOf {A : Type 0} (F : Octets → Type 0) (test : Octets → Result Bool Stop) (G H : Octets → Type 0) (P Q Spells : A → Octets → Type 0)
    : Type 0 where
  pub one : (a : A) (text : Octets) → P a text → Spells a text
  pub other : (a : A) (text : Octets) → Q a text → Spells a text
  pub told : (a : A) (text rest : Octets) → Spells a text → F rest
      → (P a text × (test (text ++ rest) ≡ Ok true) × G rest) ⊎ (Q a text × (test (text ++ rest) ≡ Ok false) × H rest)

chosen_takes : {A : Type 0} (F G H : Octets → Type 0) (test : Octets → Result Bool Stop) (one other : Octets → Read A)
    (P Q Spells : A → Octets → Type 0) → IsOneOf F test G H P Q Spells → IsExact G one P → IsExact H other Q
    → (bytes : Octets) (x : A × Octets) → IsBytes bytes → (b : Bool) → chosen_at b one other bytes ≡ Ok x → (text : Octets) × (bytes ≡ text ++ x.1)
    × Spells x.0 text
chosen_takes F G H test one other P Q Spells is p q bytes x fits true e = let t = p.takes bytes x fits e in (t.0, t.1, is.one x.0 t.0 t.2)
chosen_takes F G H test one other P Q Spells is p q bytes x fits false e = let t = q.takes bytes x fits e in (t.0, t.1, is.other x.0 t.0 t.2)

pub either_exact : {A : Type 0} (F G H : Octets → Type 0) (test : Octets → Result Bool Stop) (one other : Octets → Read A)
    (P Q Spells : A → Octets → Type 0) → IsOneOf F test G H P Q Spells → IsExact G one P → IsExact H other Q
    → IsExact F (either_at test one other) Spells
either_exact F G H test one other P Q Spells is p q = record {
  takes = λ bytes x fits e.
      let b = bind_ok (test bytes) (λ b. chosen_at b one other bytes) x e in
      chosen_takes F G H test one other P Q Spells is p q bytes x fits b.0 b.2;
  again = λ y text rest s follows. elim (is.told y text rest s follows) [
    | inl t ↦ rw (t.1, p.again y text rest t.0 t.2) refl
    | inr t ↦ rw (t.1, q.again y text rest t.0 t.2) refl
  ];
}

-- an optional member; if it is absent, another tag comes next
abbrev pub Differs : ℕ → Octets → Type 0
Differs number rest = is_next number rest ≡ Ok false

present_takes : {A : Type 0} (read : Octets → Read A) (P : A → Octets → Type 0) → IsExact Anything read P
    → (bytes : Octets) (x : Option A × Octets) → IsBytes bytes → (next : Bool) → present next read bytes ≡ Ok x
    → (text : Octets) × (bytes ≡ text ++ x.1) × Optional P x.0 text
present_takes {A = A} read P law bytes x fits true e =
    let a = bind_ok (read bytes) (λ a. Ok (Some a.0, a.1)) x e in
    let t = law.takes bytes a.0 fits a.1 in
    subst (λ (y : Option A × Octets). (text : Octets) × (bytes ≡ text ++ y.1) × Optional P y.0 text) (ok_is (Some a.0.0, a.0.1) x a.2) (t.0, t.1, t.2)
present_takes {A = A} read P law bytes x fits false e =
    subst (λ (y : Option A × Octets). (text : Octets) × (bytes ≡ text ++ y.1) × Optional P y.0 text) (ok_is (None, bytes) x e) ([], refl, refl)

optional_again : {A : Type 0} (number : ℕ) (read : Octets → Read A) (P : A → Octets → Type 0) → IsExact Anything read P
    → ((y : A) (text rest : Octets) → P y text → is_next number (text ++ rest) ≡ Ok true)
    → (y : Option A) (text rest : Octets) → Optional P y text → Differs number rest → optional_at number read (text ++ rest) ≡ Ok (y, rest)
unfolding optional_at
optional_again number read P law begins None text rest s differs = rw (s, differs) refl
optional_again number read P law begins (Some a) text rest s differs = rw (begins a text rest s, law.again a text rest s tt) refl

pub optional_exact : {A : Type 0} (number : ℕ) (read : Octets → Read A) (P : A → Octets → Type 0) → IsExact Anything read P
    → ((y : A) (text rest : Octets) → P y text → is_next number (text ++ rest) ≡ Ok true)
    → IsExact (Differs number) (optional_at number read) (Optional P)
unfolding optional_at
optional_exact number read P law begins = record {
  takes = λ bytes x fits e.
      let n = bind_ok (is_next number bytes) (λ next. present next read bytes) x e in
      present_takes read P law bytes x fits n.0 n.2;
  again = optional_again number read P law begins;
}

-- a reader of the whole input
at_end : {A : Type 0} (Spells : A → Octets → Type 0) (bytes : Octets) (y z : A) (text rest : Octets) → bytes ≡ text ++ rest → Spells z text
    → ends z rest ≡ Ok y → Spells y bytes
at_end Spells bytes y z text [] is s ended = rw (is, append-nil text) (subst (λ a. Spells a text) (ok_is z y ended) s)
at_end Spells bytes y z text (b ∷ rest) is s ended = absurd cc

pub whole_takes : {A : Type 0} (F : Octets → Type 0) (read : Octets → Read A) (Spells : A → Octets → Type 0) → IsExact F read Spells
    → (bytes : Octets) (y : A) → IsBytes bytes → whole read bytes ≡ Ok y → Spells y bytes
whole_takes F read Spells law bytes y fits e =
    let x = bind_ok (read bytes) (λ x. ends x.0 x.1) y e in
    let t = law.takes bytes x.0 fits x.1 in
    at_end Spells bytes y x.0.0 t.0 x.0.1 t.1 t.2 x.2

pub whole_again : {A : Type 0} (F : Octets → Type 0) (read : Octets → Read A) (Spells : A → Octets → Type 0) → IsExact F read Spells → F []
    → (bytes : Octets) (y : A) → Spells y bytes → whole read bytes ≡ Ok y
whole_again F read Spells law empty bytes y s =
    let e : read bytes ≡ Ok (y, []) = subst (λ (b : Octets). read b ≡ Ok (y, [])) (append-nil bytes) (law.again y bytes [] s empty) in
    rw e refl
