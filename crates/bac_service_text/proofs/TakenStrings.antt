-- An element with the tag of an octet string is one, and strings are taken from the front.
use Rattle.std.proofs.Common.{◌≡◌, ◌<◌, ◌≤◌, ◌-◌, ◌^◌, ℕ, zero, suc, List, [], ◌∷◌, ◌++◌, length, take, drop, Option, Result, Ok, Err, OnOk, codes}
use Rattle.std.proofs.Common.{arith, length-drop, refl, sym, ap, subst, ◌∙◌, rules, append_assoc, append-nil}
use Rattle.std.proofs.Math.Seq.{take-length}
use Rattle.std.proofs.lemmas.List.{take-append-drop}
use Rattle.std.proofs.lemmas.Bool.{false≢true}
use Rattle.std.proofs.KnownBytes.{Appends-nil, Appends-trans}
use Rattle.std.specs.Io.KnownBytes.{Appends}
use Rattle.hex.specs.Hex.{encode_upper}
use Rattle.bac_service_text.specs.Members.{AppendsText, IsRecordsMember}
use Rattle.bac_service_text.specs.Strings.{AreTheStrings, more_strings_text, strings_text}
use Rattle.bac_value.specs.declared.tag.Class.TheVariants.{Application}
use Rattle.bac_value.specs.declared.tag.Form.{Form}
use Rattle.bac_value.specs.declared.tag.Form.TheVariants as form
use Rattle.bac_value.specs.Spelling.{Mark, tag_spelling}
use Rattle.bac_value.specs.Element.{Part, SpellsElement}
use Rattle.bac_service.specs.Members.{ApplicationString, mark_of}

string_of : (f : Form) (contents front : List ℕ)
    → SpellsElement (record { mark = record { number = 6; class = Application; form = f }; contents = contents }) front → ApplicationString contents front
string_of (form.Length k) contents front s = record {
  contents = contents;
  are = refl;
  fits = subst (λ n. n < 2 ^ 32) (sym s.contents.0) s.tag.length_in;
  is = subst (λ n. front ≡ tag_spelling (mark_of Application 6 n) ++ contents) (sym s.contents.0) s.is;
}
string_of (form.Boolean b) contents front s = absurd (false≢true s.tag.fits)
string_of form.Opening contents front s = absurd (false≢true s.tag.fits)
string_of form.Closing contents front s = absurd (false≢true s.tag.fits)

pub string_of_element : (m : Mark) (contents front : List ℕ) → m.number ≡ 6 → m.class ≡ Application
    → SpellsElement (record { mark = m; contents = contents }) front
    → ApplicationString contents front
string_of_element m contents front number class s =
    let same : m ≡ record { number = 6; class = Application; form = m.form } = search rules in
    string_of m.form contents front (subst (λ n. SpellsElement (record { mark = n; contents = contents }) front) same s)

slice_tail : (k : ℕ) (xs : List ℕ) → take (length xs - k) (drop k xs) ≡ drop k xs
slice_tail k xs = ap (λ (n : ℕ). take n (drop k xs)) (sym (length-drop k xs)) ∙ take-length (drop k xs)

-- the string in front, of so many octets
pub string_front : (run : List ℕ) (k : ℕ) (m : Mark) (contents : List ℕ) → m.number ≡ 6 → m.class ≡ Application
    → SpellsElement (record { mark = m; contents = contents }) (take k run)
    → (front : List ℕ) × (ApplicationString contents front × (run ≡ front ++ take (length run - k) (drop k run)))
string_front run k m contents number class s = (
  take k run,
  (
    string_of_element m contents (take k run) number class s,
    sym (take-append-drop k run) ∙ ap (λ (l : List ℕ). take k run ++ l) (sym (slice_tail k run)),
  ),
)

some : (k : ℕ) (run : List ℕ) (p : Part) → SpellsElement p (take k run) → 0 < k
unfolding Rattle.bac_value.specs.Spelling.tag_spelling
some zero run p s = omega (arith, ap length s.is)
some (suc k) run p s = omega arith

pub string_onward : (run : List ℕ) (k : ℕ) (p : Part) → k ≤ length run → SpellsElement p (take k run) → length (take (length run - k) (drop k run)) < length run
string_onward run k p within s =
    let more = some k run p s in
    let len : length (take (length run - k) (drop k run)) ≡ length run - k = ap length (slice_tail k run) ∙ length-drop k run in
    omega (arith, more, within, len)

-- ---- strings that are taken from the front, one after the other

pub record AreTaken (run rest : List ℕ) (old new : Option (List ℕ)) : Type 0 where
  pub strings : List (List ℕ)
  pub are : (more : List (List ℕ)) → AreTheStrings more rest → AreTheStrings (strings ++ more) run
  pub printed : Appends old new (more_strings_text strings)

pub none_taken : (run : List ℕ) (old : Option (List ℕ)) → AreTaken run run old old
none_taken run old = record { strings = []; are = λ more s. s; printed = Appends-nil old }

more_text : (xs ys : List (List ℕ)) → more_strings_text (xs ++ ys) ≡ more_strings_text xs ++ more_strings_text ys
more_text [] ys = refl
more_text (x ∷ xs) ys = ap (λ (l : List ℕ). (codes "," ++ encode_upper x) ++ l) (more_text xs ys)
    ∙ sym (append_assoc (codes "," ++ encode_upper x) (more_strings_text xs) (more_strings_text ys))

one_text : (x : List ℕ) → more_strings_text (x ∷ []) ≡ codes "," ++ encode_upper x
one_text x = append-nil (codes "," ++ encode_upper x)

pub one_taken : (run rest next string front : List ℕ) (old mid new : Option (List ℕ)) → AreTaken run rest old mid
    → ApplicationString string front → rest ≡ front ++ next
    → Appends mid new (codes "," ++ encode_upper string) → AreTaken run next old new
one_taken run rest next string front old mid new t s is printed = record {
  strings = t.strings ++ (string ∷ []);
  are = λ more strings. subst (λ (l : List (List ℕ)). AreTheStrings l run) (sym (append_assoc t.strings (string ∷ []) more))
      (t.are (string ∷ more) (record { front = front; back = next; first = s; second = strings; is = is }));
  printed = subst (Appends old new) (ap (λ (l : List ℕ). more_strings_text t.strings ++ l) (sym (one_text string)) ∙ sym (more_text t.strings (string ∷ [])))
      (Appends-trans old mid new _ _ t.printed printed);
}

no_octets : (xs : List ℕ) → length xs ≡ 0 → xs ≡ []
no_octets [] none = refl
no_octets (x ∷ xs) none = absurd (omega (arith, none))

pub all_taken : (run rest : List ℕ) (old new : Option (List ℕ)) → AreTaken run rest old new → length rest ≡ 0
    → (strings : List (List ℕ)) × (AreTheStrings strings run × Appends old new (more_strings_text strings))
all_taken run rest old new t none =
    (t.strings, (subst (λ (l : List (List ℕ)). AreTheStrings l run) (append-nil t.strings) (t.are [] (no_octets rest none)), t.printed))

-- the first string, and then the others
pub all_printed : {T E : Type 0} (r : Result T E) (run rest string front : List ℕ) (a b c d : Option (List ℕ)) → Appends a b (codes " octets=")
    → ApplicationString string front → run ≡ front ++ rest → Appends b c (encode_upper string)
    → OnOk r ((strings : List (List ℕ)) × (AreTheStrings strings rest × Appends c d (more_strings_text strings)))
    → OnOk r ((strings : List (List ℕ)) × (AreTheStrings strings run × Appends a d (codes " octets=" ++ strings_text strings)))
all_printed (Ok t) run rest string front a b c d head s is first more = (
  string ∷ more.0,
  (
    record { front = front; back = rest; first = s; second = more.1.0; is = is },
    Appends-trans a b d _ _ head (Appends-trans b c d _ _ first more.1.1),
  ),
)
all_printed (Err e) run rest string front a b c d head s is first more = tt

-- they are the member of some records
pub records_of : {T E : Type 0} (r : Result T E) (run : List ℕ) (a b : Option (List ℕ))
    → OnOk r ((strings : List (List ℕ)) × (AreTheStrings strings run × Appends a b (codes " octets=" ++ strings_text strings)))
    → OnOk r (AppendsText a b (IsRecordsMember run))
records_of (Ok t) run a b p =
    (codes " octets=" ++ strings_text p.0, (record { strings = p.0; are = p.1.0; is = refl }, p.1.1))
records_of (Err e) run a b p = tt
