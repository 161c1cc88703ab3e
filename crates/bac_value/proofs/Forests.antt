-- The data reader accepts exactly the spellings of trees that are followed by the end or by a closing tag.
use Rattle.std.proofs.Common.{◌≡◌, ℕ, zero, suc, ◌+◌, ◌-◌, ◌<◌, ◌≤◌, ltb, eqb, List, [], ◌∷◌, ◌++◌, length, take, drop, Result, Ok, Err}
use Rattle.std.proofs.Common.{Option, Some, None, refl, sym, ap, subst, ◌∙◌, append_assoc, arith, inl, inr}
use Rattle.std.proofs.lemmas.Bool.{ltb-true, lt-ltb, eqb-true, eq-eqb}
use Rattle.std.proofs.lemmas.List.{append-nil, length-append, length-drop, take_at, drop_at, take-append-drop}
use Rattle.bac_value.specs.declared.fault.FaultKind.{FaultKind}
use Rattle.bac_value.specs.declared.fault.FaultKind.TheVariants.{TooDeep, Unbalanced}
use Rattle.bac_value.specs.declared.tag.Class.{Class}
use Rattle.bac_value.specs.declared.tag.Class.TheVariants.{Application, Context}
use Rattle.bac_value.specs.declared.tag.Form.{Form}
use Rattle.bac_value.specs.declared.tag.Form.TheVariants.{Length, Boolean, Opening, Closing}
use Rattle.bac_value.specs.Spelling.{Mark, tag_spelling, SpellsTag}
use Rattle.bac_value.specs.Octets.{IsBytes}
use Rattle.bac_value.specs.Element.{Part, part_spelling, SpellsElement, IsAnnounced}
use Rattle.bac_value.specs.Data.{Forest, none, leaf, pair, opening, closing, spelling, IsPrimitive, IsWithin, SpellsData, Ends}
use Rattle.bac_value.specs.Data.{IsPrimitiveForm, IsDataFront}
use Rattle.bac_value.specs.Steps.{◌>>=◌}
use Rattle.bac_value.specs.Reading.{element_at, turn, with_rest, step_at, goes_on, data_at, data_of, IsDataTaken}
use Rattle.bac_value.proofs.Steps.{bind_ok, chosen, ok_is}
use Rattle.bac_value.proofs.Elements.{element_takes, element_again}
use Rattle.bac_value.proofs.Turns.{at_more, at_stop}

abbrev made : ℕ → Class → Form → List ℕ → Part
made n c f xs = record { mark = record { number = n; class = c; form = f }; contents = xs }

-- ---- octets that close the open tags

-- the closing tag of the innermost open tag, the trees after it, and so on outwards
Tail : List ℕ → List ℕ → Type 0
Tail [] rest = rest ≡ []
Tail (n ∷ o) rest = (f : Forest) × (after : List ℕ) × IsWithin (8 - length o) f × (rest ≡ closing n ++ (spelling f ++ after)) × Tail o after

Splits : List ℕ → List ℕ → Type 0
Splits o text = (f : Forest) × (rest : List ℕ) × IsWithin (8 - length o) f × (text ≡ spelling f ++ rest) × Tail o rest

split_leaf : (p : Part) (o text : List ℕ) → IsPrimitive p → Splits o text → Splits o (part_spelling p ++ text)
unfolding Splits IsWithin spelling
split_leaf p o text h s =
    (leaf p s.0, s.1, (h, s.2), ap (λ (x : List ℕ). part_spelling p ++ x) s.3 ∙ sym (append_assoc (part_spelling p) (spelling s.0) s.1), s.4)

within_pair : (d : ℕ) (n : ℕ) (f g : Forest) → n < 255 → 0 < d → IsWithin (d - 1) f → IsWithin d g → IsWithin d (pair n f g)
unfolding IsWithin
within_pair zero n f g lt some p q = absurd (omega arith)
within_pair (suc d) n f g lt some p q = let e : suc d - 1 ≡ d = omega arith in (lt, (rw e at p), q)

regroup : (a b c d e : List ℕ) → (a ++ (b ++ (c ++ d))) ++ e ≡ a ++ (b ++ (c ++ (d ++ e)))
regroup a b c d e = simp append_assoc

split_open : (n : ℕ) (o text : List ℕ) → n < 255 → length o < 8 → Splits (n ∷ o) text → Splits o (opening n ++ text)
unfolding Splits Tail spelling
split_open n o text lt room s =
    let f = s.0 in
    let t = s.4 in
    let less : 8 - length (n ∷ o) ≡ 8 - length o - 1 = omega arith in
    let within = within_pair (8 - length o) n f t.0 lt (omega arith) (rw less at s.2) t.2 in
    let inner : text ≡ spelling f ++ (closing n ++ (spelling t.0 ++ t.1)) = s.3 ∙ ap (λ (x : List ℕ). spelling f ++ x) t.3 in
    let whole : opening n ++ text ≡ (opening n ++ (spelling f ++ (closing n ++ spelling t.0))) ++ t.1 =
    ap (λ (x : List ℕ). opening n ++ x) inner ∙ sym (regroup (opening n) (spelling f) (closing n) (spelling t.0) t.1) in
    (pair n f t.0, t.1, within, whole, t.4)

split_close : (n : ℕ) (o text : List ℕ) → Splits o text → Splits (n ∷ o) (closing n ++ text)
unfolding Splits Tail spelling IsWithin
split_close n o text s = (none, closing n ++ text, tt, refl, (s.0, s.1, s.2, ap (λ (x : List ℕ). closing n ++ x) s.3, s.4))

-- ---- a turn

Goes : List ℕ → List ℕ → Option (List ℕ) → Type 0
Goes o front None = (o ≡ []) × ((n : ℕ) × (n < 255) × (front ≡ closing n))
Goes o front (Some p) = (text : List ℕ) → Splits p text → Splits o (front ++ text)

abbrev turned : Option (List ℕ) → Result (Option (List ℕ)) FaultKind
turned t = Ok t

turn_takes : (n : ℕ) (c : Class) (f : Form) (xs o : List ℕ) (t : Option (List ℕ)) → SpellsElement (made n c f xs) (part_spelling (made n c f xs))
    → turn f n o ≡ Ok t → Goes o (part_spelling (made n c f xs)) t
unfolding turn Goes
turn_takes n c (Length k) xs o t s e =
    subst (Goes o (part_spelling (made n c (Length k) xs))) (ok_is (Some o) t e)
    (λ text h. split_leaf (made n c (Length k) xs) o text (record { form = tt; spelled = s }) h)
turn_takes n c (Boolean b) xs o t s e =
    subst (Goes o (part_spelling (made n c (Boolean b) xs))) (ok_is (Some o) t e)
    (λ text h. split_leaf (made n c (Boolean b) xs) o text (record { form = tt; spelled = s }) h)
turn_takes n Application Opening xs o t s e = let no = s.tag.fits in absurd cc
turn_takes n Context Opening xs o t s e =
    elim (chosen (ltb (length o) 8) (turned (Some (n ∷ o))) (Err TooDeep) (Ok t) e) [
      | inl c ↦ subst (Goes o (part_spelling (made n Context Opening xs))) (ok_is (Some (n ∷ o)) t c.1)
          (λ text h. let whole : part_spelling (made n Context Opening xs) ≡ opening n = ap (λ (x : List ℕ). opening n ++ x) s.contents
          ∙ append-nil (opening n) in
          subst (λ (x : List ℕ). Splits o (x ++ text)) (sym whole) (split_open n o text (ltb-true _ _ s.tag.fits) (ltb-true _ _ c.0) h))
      | inr c ↦ absurd cc
    ]
turn_takes n Application Closing xs o t s e = let no = s.tag.fits in absurd cc
turn_takes n Context Closing xs [] t s e =
    subst (Goes [] (part_spelling (made n Context Closing xs))) (ok_is None t e)
    (refl, (n, ltb-true _ _ s.tag.fits, ap (λ (x : List ℕ). closing n ++ x) s.contents ∙ append-nil (closing n)))
turn_takes n Context Closing xs (m ∷ o) t s e =
    elim (chosen (eqb m n) (turned (Some o)) (Err Unbalanced) (Ok t) e) [
      | inl c ↦ subst (Goes (m ∷ o) (part_spelling (made n Context Closing xs))) (ok_is (Some o) t c.1)
          (λ text h. let whole : closing m ≡ part_spelling (made n Context Closing xs) = ap closing (eqb-true _ _ c.0)
          ∙ sym (ap (λ (x : List ℕ). closing n ++ x) s.contents ∙ append-nil (closing n)) in
          subst (λ (x : List ℕ). Splits (m ∷ o) (x ++ text)) whole (split_close m o text h))
      | inr c ↦ absurd cc
    ]

-- ---- one step

Taken : List ℕ → List ℕ → Option (List ℕ × List ℕ) → Type 0
Taken o bytes None = (o ≡ []) × ((n : ℕ) × (after : List ℕ) × (n < 255) × (bytes ≡ closing n ++ after))
Taken o bytes (Some s) = IsBytes s.1 × ((front : List ℕ) × (bytes ≡ front ++ s.1) × ((text : List ℕ) → Splits s.0 text → Splits o (front ++ text)))

taken_from : (o bytes front rest : List ℕ) (t : Option (List ℕ)) → bytes ≡ front ++ rest → IsBytes rest → Goes o front t → Taken o bytes (with_rest rest t)
unfolding Taken Goes
taken_from o bytes front rest None e fits g = (g.0, (g.1.0, rest, g.1.1, e ∙ ap (λ (x : List ℕ). x ++ rest) g.1.2))
taken_from o bytes front rest (Some p) e fits g = (fits, (front, e, g))

step_takes : (o bytes : List ℕ) (s : Option (List ℕ × List ℕ)) → IsBytes bytes → step_at o bytes ≡ Ok s → Taken o bytes s
unfolding step_at
step_takes o bytes s fits e =
    let a = bind_ok (element_at bytes) (λ e. turn e.0.mark.form e.0.mark.number o >>= λ t. Ok (with_rest e.1 t)) s e in
    let b = bind_ok (turn a.0.0.mark.form a.0.0.mark.number o) (λ t. Ok (with_rest a.0.1 t)) s a.2 in
    let took = element_takes bytes a.0 fits a.1 in
    let p = a.0.0 in
    let goes = turn_takes p.mark.number p.mark.class p.mark.form p.contents o b.0 took.1 b.1 in
    subst (Taken o bytes) (ok_is (with_rest a.0.1 b.0) s b.2) (taken_from o bytes (part_spelling p) a.0.1 b.0 took.0.parts took.0.rest_fits goes)

-- ---- all steps

IsTaken : List ℕ → List ℕ → List ℕ → Type 0
IsTaken o bytes rest = (text : List ℕ) × (bytes ≡ text ++ rest) × Splits o text × Ends rest

nothing_split : Splits [] []
unfolding Splits Tail IsWithin spelling
nothing_split = (none, [], tt, refl, refl)

taken_more : (m : ℕ) (o bytes rest : List ℕ) (s : Option (List ℕ × List ℕ)) → ((p x : List ℕ) → IsBytes x → data_at m p x ≡ Ok rest → IsTaken p x rest)
    → Taken o bytes s → goes_on s (Ok bytes) (λ o rest. data_at m o rest) ≡ Ok rest → IsTaken o bytes rest
unfolding Taken IsTaken
taken_more m o bytes rest None ih t e =
    let same : bytes ≡ rest = ok_is bytes rest e in
    ([], same, subst (λ (x : List ℕ). Splits x []) (sym t.0) nothing_split, inr (t.1.0, t.1.1, t.1.2, sym same ∙ t.1.3))
taken_more m o bytes rest (Some s) ih t e =
    let k = ih s.0 s.1 t.0 e in
    (t.1.0 ++ k.0, t.1.1 ∙ ap (λ (x : List ℕ). t.1.0 ++ x) k.1 ∙ sym (append_assoc t.1.0 k.0 rest), t.1.2 k.0 k.2, k.3)

bound_more : (m : ℕ) (o bytes rest : List ℕ) → ((p x : List ℕ) → IsBytes x → data_at m p x ≡ Ok rest → IsTaken p x rest)
    → IsBytes bytes → (step_at o bytes >>= λ s. goes_on s (Ok bytes) (λ o rest. data_at m o rest)) ≡ Ok rest → IsTaken o bytes rest
bound_more m o bytes rest ih fits e =
    let a = bind_ok (step_at o bytes) (λ s. goes_on s (Ok bytes) (λ o rest. data_at m o rest)) rest e in
    taken_more m o bytes rest a.0 ih (step_takes o bytes a.0 fits a.1) a.2

data_takes : (steps : ℕ) (o bytes rest : List ℕ) → IsBytes bytes → data_at steps o bytes ≡ Ok rest → IsTaken o bytes rest
unfolding data_at IsTaken
data_takes zero o bytes rest fits e = absurd cc
data_takes (suc m) [] [] rest fits e = let same : [] ≡ rest = ok_is [] rest e in ([], same, nothing_split, inl (sym same))
data_takes (suc m) (n ∷ o) [] rest fits e = absurd cc
data_takes (suc m) [] (b ∷ bytes) rest fits e = bound_more m [] (b ∷ bytes) rest (λ p x. data_takes m p x rest) fits e
data_takes (suc m) (n ∷ o) (b ∷ bytes) rest fits e = bound_more m (n ∷ o) (b ∷ bytes) rest (λ p x. data_takes m p x rest) fits e

-- ---- each spelling is read

tag_some : (t : Mark) → 0 < length (tag_spelling t)
unfolding tag_spelling
tag_some t = omega arith

shorter : (front rest : List ℕ) → 0 < length front → length rest < length (front ++ rest)
shorter front rest some = omega (arith, length-append front rest)

step_part : (p : Part) (o q rest : List ℕ) → SpellsElement p (part_spelling p) → turn p.mark.form p.mark.number o ≡ Ok (Some q)
    → step_at o (part_spelling p ++ rest) ≡ Ok (Some (q, rest))
unfolding step_at
step_part p o q rest s t = rw (element_again p (part_spelling p) rest s, t) refl

part_some : (p : Part) → 0 < length (part_spelling p)
part_some p = omega (arith, tag_some p.mark, length-append (tag_spelling p.mark) p.contents)

abbrev mark_of : ℕ → Form → Mark
mark_of n f = record { number = n; class = Context; form = f }

bracket : (n : ℕ) (f : Form) → SpellsTag (mark_of n f) (tag_spelling (mark_of n f)) → ((xs : List ℕ) → xs ≡ [] → IsAnnounced Context n f xs)
    → SpellsElement (made n Context f []) (tag_spelling (mark_of n f))
bracket n f s h = record { tag = s; contents = h [] refl; is = sym (append-nil (tag_spelling (mark_of n f))) }

opens : (n : ℕ) → n < 255 → SpellsElement (made n Context Opening []) (opening n)
opens n lt = bracket n Opening (record { fits = lt-ltb n 255 lt; length_in = tt; is = refl }) (λ xs e. e)

closes : (n : ℕ) → n < 255 → SpellsElement (made n Context Closing []) (closing n)
closes n lt = bracket n Closing (record { fits = lt-ltb n 255 lt; length_in = tt; is = refl }) (λ xs e. e)

step_open : (n : ℕ) (o rest : List ℕ) → n < 255 → length o < 8 → step_at o (opening n ++ rest) ≡ Ok (Some (n ∷ o, rest))
unfolding step_at turn
step_open n o rest lt room = rw (element_again (made n Context Opening []) (opening n) rest (opens n lt), lt-ltb (length o) 8 room) refl

step_close : (n : ℕ) (o rest : List ℕ) → n < 255 → step_at (n ∷ o) (closing n ++ rest) ≡ Ok (Some (o, rest))
unfolding step_at turn
step_close n o rest lt = rw (element_again (made n Context Closing []) (closing n) rest (closes n lt), eq-eqb n n refl) refl

step_stop : (n : ℕ) (rest : List ℕ) → n < 255 → step_at [] (closing n ++ rest) ≡ Ok None
unfolding step_at turn
step_stop n rest lt = rw (element_again (made n Context Closing []) (closing n) rest (closes n lt)) refl

turn_primitive : (f : Form) (n : ℕ) (o : List ℕ) → IsPrimitiveForm f → turn f n o ≡ Ok (Some o)
unfolding turn
turn_primitive (Length k) n o h = refl
turn_primitive (Boolean b) n o h = refl
turn_primitive Opening n o h = absurd h
turn_primitive Closing n o h = absurd h

-- the steps that remain after some octets
Left : ℕ → List ℕ → List ℕ → List ℕ → List ℕ → Type 0
Left steps o bytes p rest = (m : ℕ) × (length rest < m) × (data_at m p rest ≡ data_at steps o bytes)

one_more : (steps : ℕ) (o p front rest : List ℕ) → 0 < length front → length (front ++ rest) < steps → step_at o (front ++ rest) ≡ Ok (Some (p, rest))
    → Left steps o (front ++ rest) p rest
unfolding Left
one_more steps o p front rest some enough e = at_more steps o (front ++ rest) p rest (data_at steps o (front ++ rest)) (shorter front rest some) enough e refl

forest_again : (f : Forest) (d : ℕ) (o tail : List ℕ) (steps : ℕ) → d + length o ≡ 8 → IsWithin d f → length (spelling f ++ tail) < steps
    → Left steps o (spelling f ++ tail) o tail
unfolding spelling IsWithin Left
forest_again none d o tail steps depth within enough = (steps, enough, refl)
forest_again (leaf p f) d o tail steps depth within enough =
    let rest = spelling f ++ tail in
    let whole : (part_spelling p ++ spelling f) ++ tail ≡ part_spelling p ++ rest = append_assoc (part_spelling p) (spelling f) tail in
    let enough_here : length (part_spelling p ++ rest) < steps = subst (λ (x : List ℕ). length x < steps) whole enough in
    let a = one_more steps o o (part_spelling p) rest (part_some p) enough_here
    (step_part p o o rest within.0.spelled (turn_primitive p.mark.form p.mark.number o within.0.form)) in
    let b = forest_again f d o tail a.0 depth within.1 a.1 in
    (b.0, b.1, b.2 ∙ a.2 ∙ ap (data_at steps o) (sym whole))
forest_again (pair n i f) zero o tail steps depth within enough = absurd within
forest_again (pair n i f) (suc d) o tail steps depth within enough =
    let last = spelling f ++ tail in
    let middle = spelling i ++ (closing n ++ last) in
    let whole : (opening n ++ (spelling i ++ (closing n ++ spelling f))) ++ tail ≡ opening n ++ middle =
    regroup (opening n) (spelling i) (closing n) (spelling f) tail in
    let enough_here : length (opening n ++ middle) < steps = subst (λ (x : List ℕ). length x < steps) whole enough in
    let a = one_more steps o (n ∷ o) (opening n) middle (tag_some (mark_of n Opening)) enough_here (step_open n o middle within.0 (omega arith)) in
    let b = forest_again i d (n ∷ o) (closing n ++ last) a.0 (omega arith) within.1 a.1 in
    let c = one_more b.0 (n ∷ o) o (closing n) last (tag_some (mark_of n Closing)) b.1 (step_close n o last within.0) in
    let e = forest_again f (suc d) o tail c.0 depth within.2 c.1 in
    (e.0, e.1, e.2 ∙ c.2 ∙ b.2 ∙ a.2 ∙ ap (data_at steps o) (sym whole))

ends_again : (m : ℕ) (rest : List ℕ) → length rest < m → Ends rest → data_at m [] rest ≡ Ok rest
unfolding data_at
ends_again zero rest enough h = absurd (omega arith)
ends_again (suc m) rest enough (inl nothing) = rw nothing refl
ends_again (suc m) rest enough (inr (n, after, lt, is)) =
    at_stop (suc m) [] rest (data_at (suc m) [] rest) (omega (arith, ap length is, shorter (closing n) after (tag_some (mark_of n Closing)))) enough
    (ap (step_at []) is ∙ step_stop n after lt) refl

-- ---- the two laws

pub record SpellsHere (f : Forest) (text rest : List ℕ) : Type 0 where
  pub spelled : SpellsData f text
  pub ends : Ends rest

pub data_again : (f : Forest) (text rest : List ℕ) → SpellsHere f text rest → data_of (text ++ rest) ≡ Ok rest
unfolding Left
data_again f text rest s =
    let whole : text ++ rest ≡ spelling f ++ rest = ap (λ (x : List ℕ). x ++ rest) s.spelled.is in
    let a = forest_again f 8 [] rest (suc (length (spelling f ++ rest))) refl s.spelled.within (omega arith) in
    ap data_of whole ∙ sym a.2 ∙ ends_again a.0 rest a.1 s.ends

pub data_found : (bytes rest : List ℕ) → IsBytes bytes → data_of bytes ≡ Ok rest → (f : Forest) × (text : List ℕ) × (bytes ≡ text ++ rest)
    × SpellsHere f text rest
unfolding IsTaken Splits Tail
data_found bytes rest fits e =
    let t = data_takes (suc (length bytes)) [] bytes rest fits e in
    let s = t.2 in
    let is : t.0 ≡ spelling s.0 = s.3 ∙ ap (λ (x : List ℕ). spelling s.0 ++ x) s.4 ∙ append-nil (spelling s.0) in
    (s.0, t.0, t.1, record { spelled = record { within = s.2; is = is }; ends = t.3 })

pub data_taken : (bytes text rest : List ℕ) → IsBytes bytes → text ≡ take (length bytes - length rest) bytes → data_of bytes ≡ Ok rest
    → IsDataTaken bytes text rest
data_taken bytes text rest fits is e =
    let t = data_found bytes rest fits e in
    let k = length bytes - length rest in
    let len : length t.1 ≡ k = omega (arith, ap length t.2, length-append t.1 rest) in
    let front : text ≡ t.1 = is ∙ ap (take k) t.2 ∙ take_at t.1 rest k len in
    record {
      parts = t.2 ∙ ap (λ (x : List ℕ). x ++ rest) (sym front);
      whole = (t.0, subst (SpellsData t.0) (sym front) t.3.spelled);
      ends = t.3.ends;
      exact = e;
    }

pub data_front : (bytes text rest : List ℕ) (k : ℕ) → length text ≡ k → IsDataTaken bytes text rest → IsDataFront bytes k
data_front bytes text rest k len t =
    let front : take k bytes ≡ text = ap (take k) t.parts ∙ take_at text rest k len in
    let behind : drop k bytes ≡ rest = ap (drop k) t.parts ∙ drop_at text rest k len in
    record { trees = t.whole.0; spelled = subst (SpellsData t.whole.0) (sym front) t.whole.1; ends = subst Ends (sym behind) t.ends }

pub data_refused : (bytes : List ℕ) (d : FaultKind) → data_of bytes ≡ Err d → (k : ℕ) → IsDataFront bytes k → ⊥
data_refused bytes d e k h =
    let one = data_again h.trees (take k bytes) (drop k bytes) (record { spelled = h.spelled; ends = h.ends }) in
    let two : data_of bytes ≡ Ok (drop k bytes) = ap data_of (sym (take-append-drop k bytes)) ∙ one in
    cc

pub data_text : (f : Forest) (text : List ℕ) → SpellsData f text → data_of text ≡ Ok []
data_text f text s = ap data_of (sym (append-nil text)) ∙ data_again f text [] (record { spelled = s; ends = inl refl })

pub data_only : (bytes : List ℕ) (j k : ℕ) → j ≤ length bytes → k ≤ length bytes → IsDataFront bytes j → IsDataFront bytes k → j ≡ k
data_only bytes j k jl kl p q =
    let one : data_of bytes ≡ Ok (drop j bytes) =
    ap data_of (sym (take-append-drop j bytes)) ∙ data_again p.trees (take j bytes) (drop j bytes) (record { spelled = p.spelled; ends = p.ends }) in
    let two : data_of bytes ≡ Ok (drop k bytes) =
    ap data_of (sym (take-append-drop k bytes)) ∙ data_again q.trees (take k bytes) (drop k bytes) (record { spelled = q.spelled; ends = q.ends }) in
    let same : drop j bytes ≡ drop k bytes = ok_is (drop j bytes) (drop k bytes) (sym one ∙ two) in
    omega (arith, ap length same, length-drop j bytes, length-drop k bytes)
