-- Texts, one after the other.
use Rattle.std.proofs.Common.{◌≡◌, ℕ, List, ◌++◌, Option, Some, None, ap, ◌∙◌}
use Rattle.std.proofs.lemmas.List.{append_assoc}
use Rattle.std.specs.Io.KnownBytes.{Appends}

pub joined : (a b c : Option (List ℕ)) (x y : List ℕ) → Appends a b x → Appends b c y → Appends a c (x ++ y)
joined None b c x y p q = tt
joined (Some xs) None c x y p q = absurd p
joined (Some xs) (Some ys) None x y p q = absurd q
joined (Some xs) (Some ys) (Some zs) x y p q = q ∙ ap (λ (l : List ℕ). l ++ y) p ∙ append_assoc xs x y

same_text : (a b : Option (List ℕ)) (x y : List ℕ) → x ≡ y → Appends a b x → Appends a b y
same_text None b x y e p = tt
same_text (Some xs) None x y e p = absurd p
same_text (Some xs) (Some ys) x y e p = p ∙ ap (λ (l : List ℕ). xs ++ l) e

-- behind what stands at the front
pub grown : (a b c : Option (List ℕ)) (front x y : List ℕ) → Appends a b (front ++ x) → Appends b c y → Appends a c (front ++ (x ++ y))
grown a b c front x y p q = same_text a c ((front ++ x) ++ y) (front ++ (x ++ y)) (append_assoc front x y) (joined a b c (front ++ x) y p q)
