use Rattle.std.proofs.Common.{refl, rules}
use Rattle.std.proofs.lemmas.List.Sorted.{answers_always}
use Rattle.bac_store.specs.Stores.{is_number}
use Rattle.bac_store.specs.Views.{slot_view}
use Rattle.bac_store.proofs.Places.{placed}
use Rattle.bac_store.proofs.lookups.slot_place.Goals as goal

-- the closure returns a property's number
pub returns : goal.returns
returns c =
    let facts = c.binary_search_by_key.ensures in
    let by_key = facts.position (λ s. s.number) (answers_always _ _ _ (λ f a r g called. search rules)) in
    rw c.ok.ensures.value (placed slot_view (λ p. p.number) (is_number c.args.number) c.args.number c.args.slots.now
    c.requires (λ i d l. refl) _ facts.bound by_key)
