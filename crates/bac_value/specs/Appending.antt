-- What calls that append to a vector of octets guarantee, in words that all contracts share.
use Rattle.std.specs.Prelude.{◌≡◌, ℕ, ◌+◌, ◌<◌, ◌++◌, List, length, Result, OnOk, OnErr, vec_len, vec_capacity}
use Rattle.std.specs.Global.{Vec}

-- if the call succeeds, the text follows the old octets
abbrev pub Appends : {R E : Type 0} → Result R E → Vec ℕ → Vec ℕ → List ℕ → Type 0
Appends result old new text = OnOk result (new.items ≡ old.items ++ text)

-- if the call succeeds, the length grows by that of the text
abbrev pub Lengthens : {R E : Type 0} → Result R E → Vec ℕ → Vec ℕ → List ℕ → Type 0
Lengthens result old new text = OnOk result (vec_len new ≡ vec_len old + length text)

-- if the call fails, nothing has changed
abbrev pub Keeps : {R E : Type 0} → Result R E → Vec ℕ → Vec ℕ → Type 0
Keeps result old new = OnErr result (new.items ≡ old.items)

-- the call fails only if the vector had too little room for the text, so that it had to grow
abbrev pub NeedsRoom : {R E : Type 0} → Result R E → Vec ℕ → List ℕ → Type 0
NeedsRoom result old text = OnErr result (vec_capacity old < vec_len old + length text)
