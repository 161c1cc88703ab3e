use Rattle.std.proofs.Common.{rules}
use Rattle.std.proofs.lemmas.List.Sorted.{IsNonDecreasingBy-from_sort_by_key}
use Rattle.bac_value.specs.Views.{object_identifier_view}
use Rattle.bac_store.specs.Kept.{object_number}
use Rattle.bac_store.proofs.object_list.sort_identifiers.Goals as goal

pub returns-clause-sorted : goal.returns-clause-sorted
returns-clause-sorted c =
    IsNonDecreasingBy-from_sort_by_key (λ i. object_number (object_identifier_view i)) _ c.sort_unstable_by_key.ensures.sorted (λ a r q k. search rules)
