-- What is appended in two steps.
use Rattle.std.proofs.Common.{ℕ, List, [], ◌++◌, Option, Some, None, Result, Ok, Err, OnOk, ap, refl, sym, ◌∙◌}
use Rattle.std.proofs.lemmas.List.{append-nil, append_assoc}
use Rattle.std.specs.Io.KnownBytes.{Appends}
use Rattle.bac_service.specs.Members.{◌⨾◌}
use Rattle.bac_service_text.specs.Members.{Is, line_end, AppendsText, AppendsLine}

pub joined : (a b c : Option (List ℕ)) (x y : List ℕ) → Appends a b x → Appends b c y → Appends a c (x ++ y)
joined None b c x y p q = tt
joined (Some xs) None c x y p q = absurd p
joined (Some xs) (Some ys) None x y p q = absurd q
joined (Some xs) (Some ys) (Some zs) x y p q = q ∙ ap (λ (l : List ℕ). l ++ y) p ∙ append_assoc xs x y

pub before : {T E : Type 0} (r : Result T E) (a b c : Option (List ℕ)) (x y : List ℕ) → Appends a b x → OnOk r (Appends b c y) → OnOk r (Appends a c (x ++ y))
before (Ok t) a b c x y p q = joined a b c x y p q
before (Err e) a b c x y p q = tt

pub line_after : {T E : Type 0} (r : Result T E) (a b c : Option (List ℕ)) (P : List ℕ → Type 0) → AppendsText a b P → OnOk r (Appends b c line_end)
    → OnOk r (AppendsLine a c P)
line_after (Ok t) a b c P p q = (p.0, (p.1.0, joined a b c p.0 line_end p.1.1 q))
line_after (Err e) a b c P p q = tt

-- ---- one of some texts

pub nothing : (a : Option (List ℕ)) → Appends a a []
nothing None = tt
nothing (Some xs) = sym (append-nil xs)

pub no_line : (a : Option (List ℕ)) → AppendsText a a (Is [])
no_line a = ([], (refl, nothing a))

pub line_is : (a b : Option (List ℕ)) (line : List ℕ) → Appends a b line → AppendsText a b (Is line)
line_is a b line p = (line, (refl, p))

pub both : (a b c : Option (List ℕ)) (P Q : List ℕ → Type 0) → AppendsText a b P → AppendsText b c Q → AppendsText a c (P ⨾ Q)
both a b c P Q p q =
    (p.0 ++ q.0, (record { front = p.0; back = q.0; first = p.1.0; second = q.1.0; is = refl }, joined a b c p.0 q.0 p.1.1 q.1.1))

pub then_both : {T E : Type 0} (r : Result T E) (a b c : Option (List ℕ)) (P Q : List ℕ → Type 0) → AppendsText a b P
    → OnOk r (AppendsText b c Q) → OnOk r (AppendsText a c (P ⨾ Q))
then_both (Ok t) a b c P Q p q = both a b c P Q p q
then_both (Err e) a b c P Q p q = tt

-- a line was printed, and what comes after it where that succeeded
pub and_then : {T E : Type 0} (r : Result T E) (a b c : Option (List ℕ)) (line : List ℕ) (Q : List ℕ → Type 0) → Appends a b line
    → OnOk r (AppendsText b c Q) → OnOk r (AppendsText a c (Is line ⨾ Q))
and_then r a b c line Q p q = then_both r a b c (Is line) Q (line_is a b line p) q

pub last_line : {T E : Type 0} (r : Result T E) (a b : Option (List ℕ)) (line : List ℕ) → OnOk r (Appends a b line) → OnOk r (AppendsText a b (Is line))
last_line (Ok t) a b line p = line_is a b line p
last_line (Err e) a b line p = tt

-- one of these texts was printed
pub text_of : {T E : Type 0} (r : Result T E) (a b : Option (List ℕ)) (P : List ℕ → Type 0) (text : List ℕ) → P text → OnOk r (Appends a b text)
    → OnOk r (AppendsText a b P)
text_of (Ok t) a b P text is p = (text, (is, p))
text_of (Err e) a b P text is p = tt
