-- What stands for a text has no angle bracket and no quote.
use Rattle.std.proofs.Common.{◌≡◌, ◌∙◌, ◌==◌, ◌||◌, ◌++◌, ℕ, Bool, true, false, List, [], ◌∷◌, codes, Option, Some, None, if◌then◌else◌, refl}
use Rattle.bac_explain_html.specs.Escapes.{entity, escaped, has_markup, is_markup, shown_as}

both : (a b : List ℕ) → has_markup a ≡ false → has_markup b ≡ false → has_markup (a ++ b) ≡ false
both [] b ea eb = eb
both (octet ∷ a) b ea eb = go (is_markup octet) ea (λ e. both a b e eb)
  where
    go : (m : Bool) → m || has_markup a ≡ false → (has_markup a ≡ false → has_markup (a ++ b) ≡ false) → m || has_markup (a ++ b) ≡ false
    go true e rest = absurd cc
    go false e rest = rest e

-- by what stands for the octet, and whether it is markup itself
abbrev markup_in : Option (List ℕ) → Bool → Bool
markup_in None m = m || false
markup_in (Some name) m = has_markup name

shown_in : (octet : ℕ) (o : Option (List ℕ)) → has_markup (shown_as octet o) ≡ markup_in o (is_markup octet)
shown_in octet None = refl
shown_in octet (Some name) = refl

chosen : (a b d e f : Bool)
    → markup_in (if a then Some (codes "&amp;") else if b then Some (codes "&lt;") else if d then Some (codes "&gt;") else
    if e then Some (codes "&quot;") else if f then Some (codes "&#39;") else None) (b || (d || (e || f))) ≡ false
chosen true b d e f = refl
chosen false true d e f = refl
chosen false false true e f = refl
chosen false false false true f = refl
chosen false false false false true = refl
chosen false false false false false = refl

shown : (octet : ℕ) → has_markup (shown_as octet (entity octet)) ≡ false
shown octet = shown_in octet (entity octet) ∙ chosen (octet == 38) (octet == 60) (octet == 62) (octet == 34) (octet == 39)

pub no_markup : (text : List ℕ) → has_markup (escaped text) ≡ false
no_markup [] = refl
no_markup (octet ∷ text) = both (shown_as octet (entity octet)) (escaped text) (shown octet) (no_markup text)
