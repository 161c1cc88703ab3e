-- Texts as HTML.
use Rattle.std.specs.Prelude.{ℕ, ◌==◌, ◌||◌, Bool, false, List, [], ◌∷◌, ◌++◌, codes, Option, Some, None, if◌then◌else◌}

-- what stands for an octet that HTML would read as its own: an ampersand, an angle bracket or a quote
abbrev pub entity : ℕ → Option (List ℕ)
entity octet =
    if octet == 38 then Some (codes "&amp;") else if octet == 60 then Some (codes "&lt;") else if octet == 62 then Some (codes "&gt;") else
    if octet == 34 then Some (codes "&quot;") else if octet == 39 then Some (codes "&#39;") else None

abbrev pub shown_as : ℕ → Option (List ℕ) → List ℕ
shown_as octet None = octet ∷ []
shown_as octet (Some name) = name

abbrev pub escaped : List ℕ → List ℕ
escaped [] = []
escaped (octet ∷ text) = shown_as octet (entity octet) ++ escaped text

abbrev pub cell : List ℕ → List ℕ
cell text = (codes "<td>" ++ escaped text) ++ codes "</td>"

-- an angle bracket or a quote
abbrev pub is_markup : ℕ → Bool
is_markup octet = octet == 60 || (octet == 62 || (octet == 34 || octet == 39))

abbrev pub has_markup : List ℕ → Bool
has_markup [] = false
has_markup (octet ∷ text) = is_markup octet || has_markup text
