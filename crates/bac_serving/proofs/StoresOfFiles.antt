-- A store that octets mean is meant by the file that gave them, where its octets are known.
use Rattle.std.proofs.Common.{◌≡◌, ℕ, List, Option, Some, None, subst}
use Rattle.std.specs.Prelude.{IfSome}
use Rattle.bac_store.specs.Stores.{Store}
use Rattle.bac_serving.specs.Stores.{MeansStore}

pub meant_by_file : (content : Option (List ℕ)) (octets : List ℕ) (s : Store) → IfSome content (λ o. octets ≡ o) → MeansStore (Some octets) s
    → MeansStore content s
meant_by_file None octets s same means = tt
meant_by_file (Some text) octets s same means = subst (λ (o : List ℕ). MeansStore (Some o) s) same means
