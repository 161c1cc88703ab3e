-- Options of an interface, with the most significant octet of numbers first.
use Rattle.std.specs.Prelude.{ℕ, List, [], ◌∷◌}

-- an empty comment
abbrev pub comment : List ℕ
comment = 0 ∷ 1 ∷ 0 ∷ 0 ∷ []

-- timestamps are in nanoseconds: exponent 9
abbrev pub nanoseconds : List ℕ
nanoseconds = 0 ∷ 9 ∷ 0 ∷ 1 ∷ 9 ∷ 0 ∷ 0 ∷ 0 ∷ []

abbrev pub end_of_options : List ℕ
end_of_options = 0 ∷ 0 ∷ 0 ∷ 0 ∷ []
