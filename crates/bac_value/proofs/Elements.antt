-- The element reader accepts exactly the spellings of elements.
use Rattle.std.proofs.Common.{◌≡◌, ℕ, ◌<◌, true, ltb, List, [], ◌++◌, length, take, drop, Ok, Option, Some}
use Rattle.std.proofs.Common.{None, refl, sym, ap, subst, ◌∙◌, append_assoc, arith, IsTrue}
use Rattle.std.proofs.lemmas.Bool.{ltb-false, le-ltb}
use Rattle.std.proofs.lemmas.List.{take_at, drop_at, take-append-drop, length-append, length-take-le}
use Rattle.bac_value.specs.declared.fault.FaultKind.{FaultKind}
use Rattle.bac_value.specs.declared.fault.FaultKind.TheVariants.{Truncated, BadLength}
use Rattle.bac_value.specs.declared.tag.Class.{Class}
use Rattle.bac_value.specs.declared.tag.Class.TheVariants.{Application, Context}
use Rattle.bac_value.specs.declared.tag.Form.{Form}
use Rattle.bac_value.specs.declared.tag.Form.TheVariants.{Length, Boolean, Opening, Closing}
use Rattle.bac_value.specs.Octets.{IsBytes}
use Rattle.bac_value.specs.Limits.{tag_fits}
use Rattle.bac_value.specs.Spelling.{Mark, tag_spelling}
use Rattle.bac_value.specs.Element.{Part, IsOfKind, IsOfClass, IsAnnounced, SpellsElement}
use Rattle.bac_value.specs.Steps.{◌>>=◌, IsExact}
use Rattle.bac_value.specs.Reading.{length_in, flaw, unless_flaw, raw_at, kind_at, class_at, contents_at, tag_at, element_at}
use Rattle.bac_value.proofs.Steps.{IsBytes-drop, IsBytes-take, bind_ok, unless_ok, where_ok, ok_is, Takes, Takes-then}
use Rattle.bac_value.proofs.Tags.{tag_takes, tag_again, length_number-lt}
use Rattle.bac_value.proofs.RightContents.{kind_takes, kind_again, IsRight}

-- ---- raw octets

pub record IsRawFront (k : ℕ) (bytes : List ℕ) (x : List ℕ × List ℕ) : Type 0 where
  pub took : Takes bytes x.0 x.1
  pub len : length x.0 ≡ k
  pub fits : IsBytes x.0

pub raw_takes : (k : ℕ) (bytes : List ℕ) (x : List ℕ × List ℕ) → IsBytes bytes → raw_at k bytes ≡ Ok x → IsRawFront k bytes x
unfolding raw_at
raw_takes k bytes x fits e =
    let g = unless_ok (ltb (length bytes) k) Truncated (Ok (take k bytes, drop k bytes)) x e in
    subst (IsRawFront k bytes) (ok_is (take k bytes, drop k bytes) x g.1)
    (record {
      took = record { parts = sym (take-append-drop k bytes); rest_fits = IsBytes-drop k bytes fits };
      len = length-take-le k bytes (ltb-false _ _ g.0);
      fits = IsBytes-take k bytes fits;
    })

pub raw_again : (k : ℕ) (xs rest : List ℕ) → length xs ≡ k → raw_at k (xs ++ rest) ≡ Ok (xs, rest)
unfolding raw_at
raw_again k xs rest len =
    rw (le-ltb (length (xs ++ rest)) k (omega (arith, length-append xs rest, len)), take_at xs rest k len, drop_at xs rest k len) refl

-- ---- contents of a kind

unless_flaw_ok : {A : Type 0} (o : Option FaultKind) (x y : A) → unless_flaw o x ≡ Ok y → (o ≡ None) × (x ≡ y)
unless_flaw_ok None x y e = (refl, ok_is x y e)
unless_flaw_ok (Some d) x y e = absurd cc

pub record IsKindFront (n k : ℕ) (bytes : List ℕ) (x : List ℕ × List ℕ) : Type 0 where
  pub raw : IsRawFront k bytes x
  pub right : IsRight n x.0

pub kind_front : (n k : ℕ) (bytes : List ℕ) (x : List ℕ × List ℕ) → IsBytes bytes → kind_at n k bytes ≡ Ok x → IsKindFront n k bytes x
unfolding kind_at
kind_front n k bytes x fits e =
    let g = where_ok (length_in n k) BadLength (raw_at k bytes >>= λ c. unless_flaw (flaw n c.0) c) x e in
    let a = bind_ok (raw_at k bytes) (λ c. unless_flaw (flaw n c.0) c) x g.1 in
    let h = unless_flaw_ok (flaw n a.0.0) a.0 x a.2 in
    let raw = raw_takes k bytes a.0 fits a.1 in
    subst (IsKindFront n k bytes) h.1 (record { raw = raw; right = record { len = ap (length_in n) raw.len ∙ g.0; none = h.0 } })

pub kind_of : (n k : ℕ) (bytes : List ℕ) (x : List ℕ × List ℕ) → n < 13 → IsKindFront n k bytes x → IsOfKind n x.0
kind_of n k bytes x lt h = kind_takes n x.0 lt h.raw.fits h.right.len h.right.none

pub right_again : (n k : ℕ) (xs rest : List ℕ) → length xs ≡ k → IsRight n xs → kind_at n k (xs ++ rest) ≡ Ok (xs, rest)
unfolding kind_at
right_again n k xs rest len h =
    let fits : length_in n k ≡ true = ap (length_in n) (sym len) ∙ h.len in
    rw (fits, raw_again k xs rest len, h.none) refl

-- ---- contents after a tag

IsAfter : Class → ℕ → Form → List ℕ → List ℕ × List ℕ → Type 0
IsAfter c n f bytes x = Takes bytes x.0 x.1 × IsAnnounced c n f x.0

class_takes : (c : Class) (n k : ℕ) (bytes : List ℕ) (x : List ℕ × List ℕ) → IsTrue (tag_fits n c (Length k)) → IsBytes bytes → class_at c n k bytes ≡ Ok x
    → IsAfter c n (Length k) bytes x
unfolding class_at IsAfter
class_takes Application n k bytes x fit fits e =
    let h = kind_front n k bytes x fits e in
    (h.raw.took, (h.raw.len, kind_of n k bytes x (length_number-lt n k fit) h))
class_takes Context n k bytes x fit fits e =
    let h = raw_takes k bytes x fits e in
    (h.took, (h.len, tt))

none_after : (c : Class) (n : ℕ) (f : Form) (bytes : List ℕ) (x : List ℕ × List ℕ) → IsBytes bytes → ((xs : List ℕ) → xs ≡ [] → IsAnnounced c n f xs)
    → ([], bytes) ≡ x → IsAfter c n f bytes x
unfolding IsAfter
none_after c n f bytes x fits h e = subst (IsAfter c n f bytes) e (record { parts = refl; rest_fits = fits }, h [] refl)

contents_takes : (m : Mark) (f : Form) (bytes : List ℕ) (x : List ℕ × List ℕ) → IsTrue (tag_fits m.number m.class f) → IsBytes bytes
    → contents_at m f bytes ≡ Ok x → IsAfter m.class m.number f bytes x
unfolding contents_at
contents_takes m (Length k) bytes x fit fits e = class_takes m.class m.number k bytes x fit fits e
contents_takes m (Boolean b) bytes x fit fits e = none_after m.class m.number (Boolean b) bytes x fits (λ xs h. h) (ok_is ([], bytes) x e)
contents_takes m Opening bytes x fit fits e = none_after m.class m.number Opening bytes x fits (λ xs h. h) (ok_is ([], bytes) x e)
contents_takes m Closing bytes x fit fits e = none_after m.class m.number Closing bytes x fits (λ xs h. h) (ok_is ([], bytes) x e)

class_again : (c : Class) (n k : ℕ) (xs rest : List ℕ) → length xs ≡ k → IsOfClass c n xs → class_at c n k (xs ++ rest) ≡ Ok (xs, rest)
unfolding class_at
class_again Application n k xs rest len (d, kind, are) = right_again n k xs rest len (subst (λ i. IsRight i xs) kind (kind_again d xs are))
class_again Context n k xs rest len h = raw_again k xs rest len

contents_again : (m : Mark) (f : Form) (xs rest : List ℕ) → IsAnnounced m.class m.number f xs → contents_at m f (xs ++ rest) ≡ Ok (xs, rest)
unfolding contents_at
contents_again m (Length k) xs rest h = class_again m.class m.number k xs rest h.0 h.1
contents_again m (Boolean b) xs rest h = rw h refl
contents_again m Opening xs rest h = rw h refl
contents_again m Closing xs rest h = rw h refl

-- ---- elements

abbrev made : Mark → List ℕ → Part
made m xs = record { mark = m; contents = xs }

pub element_again : (p : Part) (text rest : List ℕ) → SpellsElement p text → element_at (text ++ rest) ≡ Ok (p, rest)
unfolding element_at
element_again p text rest s =
    let whole : text ++ rest ≡ tag_spelling p.mark ++ (p.contents ++ rest) =
    ap (λ (x : List ℕ). x ++ rest) s.is ∙ append_assoc (tag_spelling p.mark) p.contents rest in
    ap element_at whole ∙ rw (
      tag_again p.mark (tag_spelling p.mark) (p.contents ++ rest) s.tag,
      contents_again p.mark p.mark.form p.contents rest s.contents,
    ) refl

IsElementFront : List ℕ → Part × List ℕ → Type 0
IsElementFront bytes x = Takes bytes (tag_spelling x.0.mark ++ x.0.contents) x.1 × SpellsElement x.0 (tag_spelling x.0.mark ++ x.0.contents)

element_front : (bytes : List ℕ) (x : Part × List ℕ) → IsBytes bytes → element_at bytes ≡ Ok x → IsElementFront bytes x
unfolding element_at IsElementFront IsAfter
element_front bytes x fits e =
    let t = bind_ok (tag_at bytes) (λ t. contents_at t.0 t.0.form t.1 >>= λ c. Ok (made t.0 c.0, c.1)) x e in
    let took = tag_takes bytes t.0 fits t.1 in
    let m = t.0.0 in
    let c = bind_ok (contents_at m m.form t.0.1) (λ c. Ok (made m c.0, c.1)) x t.2 in
    let b = contents_takes m m.form t.0.1 c.0 took.1.fits took.0.rest_fits c.1 in
    subst (IsElementFront bytes) (ok_is (made m c.0.0, c.0.1) x c.2)
    (Takes-then bytes (tag_spelling m) t.0.1 c.0.0 c.0.1 took.0 b.0, record { tag = took.1; contents = b.1; is = refl })

pub element_takes : (bytes : List ℕ) (x : Part × List ℕ) → IsBytes bytes → element_at bytes ≡ Ok x
    → Takes bytes (tag_spelling x.0.mark ++ x.0.contents) x.1 × SpellsElement x.0 (tag_spelling x.0.mark ++ x.0.contents)
unfolding IsElementFront
element_takes bytes x fits e = element_front bytes x fits e

pub element_exact : IsExact element_at SpellsElement
element_exact = record {
  takes = λ bytes x fits e. let t = element_takes bytes x fits e in (tag_spelling x.0.mark ++ x.0.contents, t.0.parts, t.1);
  again = element_again;
}
