-- What a chain of list readers consumed.
use Rattle.std.specs.Prelude.{IfOk, IfErr}
use Rattle.std.proofs.Common.{◌≡◌, ℕ, suc, ◌+◌, ◌-◌, Bool, true, false, cond, List, [], ◌∷◌, ◌++◌, ◌<◌, length, take, drop, Result, Ok, Err, refl}
use Rattle.std.proofs.Common.{sym, ap, subst, ◌∙◌, append_assoc, arith, inl, inr, ◌⊎◌}
use Rattle.std.proofs.lemmas.Bool.{cases_lt}
use Rattle.std.proofs.lemmas.List.{length-take, length-append, get_or-drop, get_or-take, get_or_past, take_at, drop_at, take-append-drop}
use Rattle.std.proofs.lemmas.List.{append_cancel_right}
use Rattle.bac_value.specs.Octets.{IsBytes}
use Rattle.bac_value.specs.Steps.{◌>>=◌, octet_at, ReadsAll, IsFound, IsRefused, IsExact}

pub IsBytes-drop : (n : ℕ) (bytes : List ℕ) → IsBytes bytes → IsBytes (drop n bytes)
IsBytes-drop n bytes h i = rw get_or-drop (h (n + i))

pub IsBytes-take : (n : ℕ) (bytes : List ℕ) → IsBytes bytes → IsBytes (take n bytes)
IsBytes-take n bytes h i =
    elim (cases_lt i n) [
      | inl lt ↦ rw (get_or-take n bytes i 0 lt) (h i)
      | inr le ↦ rw (get_or_past (take n bytes) i 0 (omega (arith, length-take n bytes))) (omega arith)
    ]

pub IsBytes-rest : (b : ℕ) (bytes : List ℕ) → IsBytes (b ∷ bytes) → IsBytes bytes
IsBytes-rest b bytes h i = h (suc i)

-- the value of a step that succeeded
pub bind_ok : {A B E : Type 0} (r : Result A E) (f : A → Result B E) (y : B) → (r >>= f) ≡ Ok y → (x : A) × (r ≡ Ok x) × (f x ≡ Ok y)
bind_ok (Ok x) f y e = (x, refl, e)
bind_ok (Err d) f y e = absurd cc

-- the two outcomes of a test
pub chosen : {A : Type 0} (b : Bool) (x y z : A) → cond b x y ≡ z → ((b ≡ true) × (x ≡ z)) ⊎ ((b ≡ false) × (y ≡ z))
chosen true x y z e = inl (refl, e)
chosen false x y z e = inr (refl, e)

-- a test that refuses if it holds, and one that refuses if it does not
pub unless_ok : {A E : Type 0} (b : Bool) (d : E) (x : Result A E) (y : A) → cond b (Err d) x ≡ Ok y → (b ≡ false) × (x ≡ Ok y)
unless_ok true d x y e = absurd cc
unless_ok false d x y e = (refl, e)

pub where_ok : {A E : Type 0} (b : Bool) (d : E) (x : Result A E) (y : A) → cond b x (Err d) ≡ Ok y → (b ≡ true) × (x ≡ Ok y)
where_ok true d x y e = (refl, e)
where_ok false d x y e = absurd cc

-- a value that was read, where faults have this type
abbrev pub done : {A : Type 0} (E : Type 0) → A → Result A E
done E x = Ok x

pub ok_is : {A E : Type 0} (x y : A) → done E x ≡ done E y → x ≡ y
ok_is x y e = cc

-- one component of the result of a reader of everything that is left
pub ok_by : {X Y E : Type 0} (view : X → Y) (r : Result X E) (read : Result Y E) (R : X → Type 0) → ReadsAll view r read
    → ((x : X) → read ≡ Ok (view x) → R x) → IfOk r R
ok_by view (Ok x) read R h f = f x h
ok_by view (Err e) read R h f = tt

pub err_by : {X Y E : Type 0} (view : X → Y) (r : Result X E) (read : Result Y E) (R : E → Type 0) → ReadsAll view r read
    → ((e : E) → read ≡ Err e → R e) → IfErr r R
err_by view (Ok x) read R h f = tt
err_by view (Err e) read R h f = f e h

-- what a reader consumed from the front
pub record Takes (bytes text rest : List ℕ) : Type 0 where
  pub parts : bytes ≡ text ++ rest
  pub rest_fits : IsBytes rest

pub Takes-then : (a x b y c : List ℕ) → Takes a x b → Takes b y c → Takes a (x ++ y) c
Takes-then a x b y c p q = record { parts = p.parts ∙ ap (λ (t : List ℕ). x ++ t) q.parts ∙ sym (append_assoc x y c); rest_fits = q.rest_fits }

-- an octet that was consumed
pub octet_takes : {E : Type 0} (e : E) (bytes : List ℕ) (x : ℕ × List ℕ) → IsBytes bytes → octet_at e bytes ≡ Ok x
    → Takes bytes (x.0 ∷ []) x.1 × (x.0 < 256)
octet_takes e [] x fits h = absurd cc
octet_takes e (b ∷ rest) x fits h =
    subst (λ (y : ℕ × List ℕ). Takes (b ∷ rest) (y.0 ∷ []) y.1 × (y.0 < 256)) (ok_is (b, rest) x h)
    (record { parts = refl; rest_fits = IsBytes-rest b rest fits }, fits 0)

pub found : {Y E : Type 0} (read : List ℕ → Result (Y × List ℕ) E) (Spells : Y → List ℕ → Type 0) → IsExact read Spells
    → (bytes rest : List ℕ) (k : ℕ) (y : Y) → IsBytes bytes
    → k ≡ length bytes - length rest → read bytes ≡ Ok (y, rest) → IsFound read Spells bytes y k
found read Spells law bytes rest k y fits is e =
    let t = law.takes bytes (y, rest) fits e in
    let len : length t.0 ≡ k = omega (arith, ap length t.1, length-append t.0 rest) in
    let front : take k bytes ≡ t.0 = ap (take k) t.1 ∙ take_at t.0 rest k len in
    let behind : drop k bytes ≡ rest = ap (drop k) t.1 ∙ drop_at t.0 rest k len in
    record { in_range = omega (arith, ap length t.1, length-append t.0 rest); spelled = rw front t.2; exact = rw behind e }

pub refused : {Y E : Type 0} (read : List ℕ → Result (Y × List ℕ) E) (Spells : Y → List ℕ → Type 0) → IsExact read Spells
    → (bytes : List ℕ) (e : E) → read bytes ≡ Err e
    → IsRefused read Spells bytes e
refused read Spells law bytes e h = record {
  none = λ y k s.
      let one = law.again y (take k bytes) (drop k bytes) s in
      let two : read bytes ≡ Ok (y, drop k bytes) = ap read (sym (take-append-drop k bytes)) ∙ one in
      cc;
  exact = h;
}

pub one_only : {Y E : Type 0} (read : List ℕ → Result (Y × List ℕ) E) (Spells : Y → List ℕ → Type 0) → IsExact read Spells
    → (y z : Y) (a b c d : List ℕ) → Spells y a → Spells z b → a ++ c ≡ b ++ d → (y ≡ z) × (a ≡ b)
one_only {Y = Y} {E = E} read Spells law y z a b c d s t e =
    let both : done E (y, c) ≡ done E (z, d) = sym (law.again y a c s) ∙ ap read e ∙ law.again z b d t in
    let same = ok_is (y, c) (z, d) both in
    let rests : c ≡ d = ap (λ (p : Y × List ℕ). p.1) same in
    (ap (λ (p : Y × List ℕ). p.0) same, append_cancel_right a b c (e ∙ ap (λ (r : List ℕ). b ++ r) (sym rests)))
