-- The frames of a transaction.
use Rattle.std.specs.Prelude.{ℕ, List, [], ◌∷◌, ◌++◌, codes, decimal}
use Rattle.bac_explain.specs.declared.step.Step.{Step}

abbrev pub next_number : ℕ → List ℕ
next_number frame = codes "," ++ decimal frame

-- the numbers of frames, each behind a comma
abbrev pub more_numbers : List Step → List ℕ
more_numbers [] = []
more_numbers (s ∷ steps) = next_number s.frame ++ more_numbers steps

-- with commas between them
abbrev pub numbers : List Step → List ℕ
numbers [] = []
numbers (s ∷ steps) = decimal s.frame ++ more_numbers steps

abbrev pub frames_line : List Step → List ℕ
frames_line steps = (codes "  frames=" ++ numbers steps) ++ (10 ∷ [])
