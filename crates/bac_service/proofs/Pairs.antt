-- The laws of pairs of tags, of data between them, and of looking at the next tag.
use Rattle.std.proofs.Common.{◌≡◌, ℕ, ◌-◌, ◌<◌, Bool, true, false, cond, ◌&&◌, nat_eq, [], ◌∷◌}
use Rattle.std.proofs.Common.{◌++◌, length, take, Option, None, Result, Ok, Err, is_some, IsTrue, refl, sym}
use Rattle.std.proofs.Common.{ap, subst, ◌∙◌, append_assoc, arith, inr, lit<}
use Rattle.std.proofs.lemmas.Bool.{eqb-true, eq-eqb, lt-ltb}
use Rattle.std.proofs.lemmas.List.{take_at, length-append}
use Rattle.bac_value.proofs.Steps.{bind_ok, ok_is}
use Rattle.bac_value.specs.declared.fault.FaultKind.{FaultKind}
use Rattle.bac_value.specs.declared.tag.Class.{Class}
use Rattle.bac_value.specs.declared.tag.Class.TheVariants.{Application, Context}
use Rattle.bac_value.specs.declared.tag.Form.{Form}
use Rattle.bac_value.specs.declared.tag.Form.TheVariants.{Length, Boolean, Opening, Closing}
use Rattle.bac_value.specs.Limits.{tag_fits}
use Rattle.bac_value.specs.Octets.{IsBytes}
use Rattle.bac_value.specs.Spelling.{Mark, tag_spelling, SpellsTag}
use Rattle.bac_value.specs.Reading.{tag_at, data_of}
use Rattle.bac_value.specs.Data.{opening, closing, IsData, Ends}
use Rattle.bac_value.proofs.Tags.{tag_exact}
use Rattle.bac_value.proofs.Forests.{data_found, data_again}
use Rattle.bac_service.specs.declared.stop.Stop.{Stop}
use Rattle.bac_service.specs.declared.stop.Why.TheVariants.{Unexpected}
use Rattle.bac_service.specs.Members.{Octets, mark_of, Tagged, Enclosed, AreData}
use Rattle.bac_service.specs.Stops.{stop}
use Rattle.bac_value.specs.Steps.{◌>>=◌}
use Rattle.bac_service.specs.Reading.{Read, announced, next_tag, is_next, is_opened, is_opening, is_closing, tag_that, opening_at}
use Rattle.bac_service.specs.Reading.{closing_at, enclosed_at, front_or_stop, values_at}
use Rattle.bac_service.proofs.Exact.{IsExact, Anything, Differs, left_fits, bytes_behind}
use Rattle.bac_service.proofs.Heads.{next_tag_ok, next_tag_again, announced_again, announced_other}

-- ---- what comes next

-- the tag in front determines what comes next
next_of : (number : ℕ) (bytes : Octets) (m : Mark) (rest : Octets) → tag_at bytes ≡ Ok (m, rest)
    → is_next number bytes ≡ Ok (is_some (announced Context number m))
unfolding is_next tag_at
next_of number [] m rest e = absurd cc
next_of number (b ∷ bytes) m rest e = rw (next_tag_again (b ∷ bytes) (m, rest) e) refl

pub next_tagged : (number : ℕ) (P : Octets → Type 0) (text rest : Octets) → IsTrue (tag_fits number Context (Length 0)) → Tagged Context number P text
    → is_next number (text ++ rest) ≡ Ok true
next_tagged number P text rest fits s =
    let mark = mark_of Context number (length s.contents) in
    let tag : SpellsTag mark (tag_spelling mark) = record { fits = fits; length_in = s.fits; is = refl } in
    let parts : text ++ rest ≡ tag_spelling mark ++ (s.contents ++ rest) =
    ap (λ (t : Octets). t ++ rest) s.is ∙ append_assoc (tag_spelling mark) s.contents rest in
    let read : tag_at (text ++ rest) ≡ Ok (mark, s.contents ++ rest) = ap tag_at parts ∙ tag_exact.again mark (tag_spelling mark) (s.contents ++ rest) tag in
    next_of number (text ++ rest) mark (s.contents ++ rest) read ∙ rw (announced_again Context number (length s.contents)) refl

pub next_other : (number n : ℕ) (P : Octets → Type 0) (text rest : Octets) → IsTrue (tag_fits n Context (Length 0)) → nat_eq number n ≡ false
    → Tagged Context n P text → is_next number (text ++ rest) ≡ Ok false
next_other number n P text rest fits other s =
    let mark = mark_of Context n (length s.contents) in
    let tag : SpellsTag mark (tag_spelling mark) = record { fits = fits; length_in = s.fits; is = refl } in
    let parts : text ++ rest ≡ tag_spelling mark ++ (s.contents ++ rest) =
    ap (λ (t : Octets). t ++ rest) s.is ∙ append_assoc (tag_spelling mark) s.contents rest in
    let read : tag_at (text ++ rest) ≡ Ok (mark, s.contents ++ rest) = ap tag_at parts ∙ tag_exact.again mark (tag_spelling mark) (s.contents ++ rest) tag in
    next_of number (text ++ rest) mark (s.contents ++ rest) read ∙ rw (announced_other number n (length s.contents) other) refl

abbrev pub pair_mark : Form → ℕ → Mark
pair_mark form number = record { number = number; class = Context; form = form }

none_left : Bool → Option ℕ
none_left b = cond b None None

no_length : (b : Bool) → is_some (none_left b) ≡ false
unfolding none_left
no_length true = refl
no_length false = refl

-- a pair of tags is not taken for an optional member
pub next_opening : (number n : ℕ) (rest : Octets) → n < 255 → Differs number (opening n ++ rest)
unfolding announced none_left
next_opening number n rest lt =
    let tag : SpellsTag (pair_mark Opening n) (opening n) = record { fits = lt-ltb n 255 lt; length_in = tt; is = refl } in
    next_of number (opening n ++ rest) (pair_mark Opening n) rest (tag_exact.again (pair_mark Opening n) (opening n) rest tag)
    ∙ ap (λ (b : Bool). Ok b) (no_length (nat_eq number n))

pub next_closing : (number n : ℕ) (rest : Octets) → n < 255 → Differs number (closing n ++ rest)
unfolding announced none_left
next_closing number n rest lt =
    let tag : SpellsTag (pair_mark Closing n) (closing n) = record { fits = lt-ltb n 255 lt; length_in = tt; is = refl } in
    next_of number (closing n ++ rest) (pair_mark Closing n) rest (tag_exact.again (pair_mark Closing n) (closing n) rest tag)
    ∙ ap (λ (b : Bool). Ok b) (no_length (nat_eq number n))

-- at the end no optional member comes next
pub end_differs : (number : ℕ) → Differs number []
unfolding is_next
end_differs number = refl

-- ---- a tag that a test takes

tag_that_is : (test : Mark → Bool) (m : Mark) (rest x : Octets) (d : Stop) (b : Bool) → test m ≡ b → cond b (Ok rest) (Err d) ≡ Ok x
    → (test m ≡ true) × (rest ≡ x)
tag_that_is test m rest x d true t e = (t, ok_is rest x e)
tag_that_is test m rest x d false t e = absurd cc

pub tag_that_takes : (test : Mark → Bool) (bytes x : Octets) → IsBytes bytes → tag_that test bytes ≡ Ok x
    → (m : Mark) × (test m ≡ true) × (bytes ≡ tag_spelling m ++ x) × IsTrue (tag_fits m.number m.class m.form)
unfolding tag_that
tag_that_takes test bytes x fits e =
    let t = bind_ok (next_tag bytes) (λ t. cond (test t.0) (Ok t.1) (stop Unexpected bytes)) x e in
    let took = tag_exact.takes bytes t.0 fits (next_tag_ok bytes t.0 t.1) in
    let c = tag_that_is test t.0.0 t.0.1 x (record { why = Unexpected; left = length bytes }) (test t.0.0) refl t.2 in
    let is : bytes ≡ tag_spelling t.0.0 ++ x = took.1 ∙ ap (λ (s : Octets). s ++ t.0.1) took.2.is ∙ ap (λ (r : Octets). tag_spelling t.0.0 ++ r) c.1 in
    (t.0.0, c.0, is, took.2.fits)

pub tag_that_again : (test : Mark → Bool) (m : Mark) (rest : Octets) → SpellsTag m (tag_spelling m) → test m ≡ true
    → tag_that test (tag_spelling m ++ rest) ≡ Ok rest
unfolding tag_that
tag_that_again test m rest s t = rw (next_tag_again (tag_spelling m ++ rest) (m, rest) (tag_exact.again m (tag_spelling m) rest s), t) refl

-- ---- opening and closing tags

abbrev of : ℕ → Class → Form → Mark
of n c f = record { number = n; class = c; form = f }

opened_fields : (number n : ℕ) (c : Class) (f : Form) → (is_opening f && nat_eq number n) ≡ true → IsTrue (tag_fits n c f) → of n c f ≡ pair_mark Opening number
opened_fields number n c (Length k) t fits = absurd cc
opened_fields number n c (Boolean b) t fits = absurd cc
opened_fields number n Application Opening t fits = absurd cc
opened_fields number n Context Opening t fits = rw (← eqb-true number n t) refl
opened_fields number n c Closing t fits = absurd cc

closed_fields : (number n : ℕ) (c : Class) (f : Form) → (is_closing f && nat_eq number n) ≡ true → IsTrue (tag_fits n c f) → of n c f ≡ pair_mark Closing number
closed_fields number n c (Length k) t fits = absurd cc
closed_fields number n c (Boolean b) t fits = absurd cc
closed_fields number n c Opening t fits = absurd cc
closed_fields number n Application Closing t fits = absurd cc
closed_fields number n Context Closing t fits = rw (← eqb-true number n t) refl

opening_takes : (number : ℕ) (bytes x : Octets) → IsBytes bytes → opening_at number bytes ≡ Ok x → bytes ≡ opening number ++ x
opening_takes number bytes x fits e =
    let t = tag_that_takes (λ m. is_opening m.form && nat_eq number m.number) bytes x fits e in
    t.2 ∙ ap (λ (m : Mark). tag_spelling m ++ x) (opened_fields number t.0.number t.0.class t.0.form t.1 t.3)

closing_takes : (number : ℕ) (bytes x : Octets) → IsBytes bytes → closing_at number bytes ≡ Ok x → bytes ≡ closing number ++ x
closing_takes number bytes x fits e =
    let t = tag_that_takes (λ m. is_closing m.form && nat_eq number m.number) bytes x fits e in
    t.2 ∙ ap (λ (m : Mark). tag_spelling m ++ x) (closed_fields number t.0.number t.0.class t.0.form t.1 t.3)

opening_again : (number : ℕ) (rest : Octets) → number < 255 → opening_at number (opening number ++ rest) ≡ Ok rest
opening_again number rest lt =
    tag_that_again (λ m. is_opening m.form && nat_eq number m.number) (pair_mark Opening number) rest
    (record { fits = lt-ltb number 255 lt; length_in = tt; is = refl }) (eq-eqb number number refl)

closing_again : (number : ℕ) (rest : Octets) → number < 255 → closing_at number (closing number ++ rest) ≡ Ok rest
closing_again number rest lt =
    tag_that_again (λ m. is_closing m.form && nat_eq number m.number) (pair_mark Closing number) rest
    (record { fits = lt-ltb number 255 lt; length_in = tt; is = refl }) (eq-eqb number number refl)

regrouped : (a b c d : Octets) → (a ++ (b ++ c)) ++ d ≡ a ++ (b ++ (c ++ d))
regrouped a b c d = simp append_assoc

-- members between a pair of tags
pub enclosed_exact : {A : Type 0} → (number : ℕ) → number < 255
    → (F : Octets → Type 0) (read : Octets → Read A) (Spells : A → Octets → Type 0) → IsExact F read Spells
    → ((rest : Octets) → F (closing number ++ rest)) → IsExact Anything (enclosed_at number read) (λ y. Enclosed number (Spells y))
unfolding enclosed_at
enclosed_exact {A = A} number lt F read Spells law link = record {
  takes = λ bytes x fits e.
      let o = bind_ok (opening_at number bytes) (λ inside. read inside >>= λ y. closing_at number y.1 >>= λ after. Ok (y.0, after)) x e in
      let y = bind_ok (read o.0) (λ y. closing_at number y.1 >>= λ after. Ok (y.0, after)) x o.2 in
      let c = bind_ok (closing_at number y.0.1) (λ after. Ok (y.0.0, after)) x y.2 in
      let front : bytes ≡ opening number ++ o.0 = opening_takes number bytes o.0 fits o.1 in
      let inside_fits : IsBytes o.0 = bytes_behind (opening number) o.0 (subst IsBytes front fits) in
      let t = law.takes o.0 y.0 inside_fits y.1 in
      let behind : y.0.1 ≡ closing number ++ c.0 = closing_takes number y.0.1 c.0 (left_fits read Spells law o.0 y.0 inside_fits y.1) c.1 in
      let all : bytes ≡ opening number ++ (t.0 ++ (closing number ++ c.0)) =
      front ∙ ap (λ (r : Octets). opening number ++ r) (t.1 ∙ ap (λ (r : Octets). t.0 ++ r) behind) in
      let is : bytes ≡ (opening number ++ (t.0 ++ closing number)) ++ c.0 = all ∙ sym (regrouped (opening number) t.0 (closing number) c.0) in
      subst (λ (z : A × Octets). (text : Octets) × (bytes ≡ text ++ z.1) × Enclosed number (Spells z.0) text) (ok_is (y.0.0, c.0) x c.2)
      (opening number ++ (t.0 ++ closing number), is, record { inside = t.0; are = t.2; is = refl });
  again = λ y text rest s follows.
      let parts : text ++ rest ≡ opening number ++ (s.inside ++ (closing number ++ rest)) =
      ap (λ (t : Octets). t ++ rest) s.is ∙ regrouped (opening number) s.inside (closing number) rest in
      rw (
        parts,
        opening_again number (s.inside ++ (closing number ++ rest)) lt,
        law.again y s.inside (closing number ++ rest) s.are (link rest),
        closing_again number rest lt,
      ) refl;
}

-- ---- data

pub front_is : (text rest : Octets) → take (length (text ++ rest) - length rest) (text ++ rest) ≡ text
front_is text rest = take_at text rest _ (omega (arith, length-append text rest))

front_ok : (bytes : Octets) (r : Result Octets FaultKind) (x : Octets × Octets) → front_or_stop bytes r ≡ Ok x
    → (rest : Octets) × (r ≡ Ok rest) × ((take (length bytes - length rest) bytes, rest) ≡ x)
front_ok bytes (Ok rest) x e = (rest, refl, ok_is (take (length bytes - length rest) bytes, rest) x e)
front_ok bytes (Err d) x e = absurd cc

pub values_exact : IsExact Ends values_at AreData
unfolding values_at
values_exact = record {
  takes = λ bytes x fits e.
      let r = front_ok bytes (data_of bytes) x e in
      let t = data_found bytes r.0 fits r.1 in
      let front : take (length bytes - length r.0) bytes ≡ t.1 = ap (λ (b : Octets). take (length b - length r.0) b) t.2 ∙ front_is t.1 r.0 in
      let spelled : IsData (take (length bytes - length r.0) bytes) = subst IsData (sym front) (t.0, t.3.spelled) in
      subst (λ (z : Octets × Octets). (text : Octets) × (bytes ≡ text ++ z.1) × AreData z.0 text) r.2
      (t.1, t.2, record { spelled = spelled; is = sym front });
  again = λ y text rest s ends.
      let spelled : IsData text = subst IsData (sym s.is) s.spelled in
      rw (data_again spelled.0 text rest (record { spelled = spelled.1; ends = ends }), front_is text rest, s.is) refl;
}

-- data between tags with number 3
abbrev pub Enclosing : Octets → Octets → Type 0
Enclosing values = Enclosed 3 (AreData values)

closing_ends : (n : ℕ) (rest : Octets) → n < 255 → Ends (closing n ++ rest)
closing_ends n rest lt = inr (n, rest, lt, refl)

pub enclosing_exact : IsExact Anything (enclosed_at 3 values_at) Enclosing
enclosing_exact = enclosed_exact 3 (lit< tt) Ends values_at AreData values_exact (λ rest. closing_ends 3 rest (lit< tt))

-- an opening tag is not taken for an optional member
pub opened_differs : (number n : ℕ) (P : Octets → Type 0) (text rest : Octets) → n < 255 → Enclosed n P text → Differs number (text ++ rest)
opened_differs number n P text rest lt s =
    let parts : text ++ rest ≡ opening n ++ ((s.inside ++ closing n) ++ rest) =
    ap (λ (t : Octets). t ++ rest) s.is ∙ append_assoc (opening n) (s.inside ++ closing n) rest in
    ap (is_next number) parts ∙ next_opening number n ((s.inside ++ closing n) ++ rest) lt

-- ---- which pair comes next

opened_pair : (number n : ℕ) (rest : Octets) → n < 255 → is_opened number (opening n ++ rest) ≡ Ok (nat_eq number n)
unfolding is_opened
opened_pair number n rest lt =
    let tag : SpellsTag (pair_mark Opening n) (opening n) = record { fits = lt-ltb n 255 lt; length_in = tt; is = refl } in
    rw (next_tag_again (opening n ++ rest) (pair_mark Opening n, rest) (tag_exact.again (pair_mark Opening n) (opening n) rest tag)) refl

pub opened_enclosed : (number n : ℕ) (P : Octets → Type 0) (text rest : Octets) → n < 255 → Enclosed n P text
    → is_opened number (text ++ rest) ≡ Ok (nat_eq number n)
opened_enclosed number n P text rest lt s =
    ap (λ (t : Octets). is_opened number (t ++ rest)) s.is ∙ ap (is_opened number) (append_assoc (opening n) (s.inside ++ closing n) rest)
    ∙ opened_pair number n ((s.inside ++ closing n) ++ rest) lt
