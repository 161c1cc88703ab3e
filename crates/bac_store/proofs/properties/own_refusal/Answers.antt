use Rattle.std.proofs.Common.{◌≡◌, ◌∙◌, ◌⊎◌, inl, inr, sym, ap, refl}
use Rattle.bac_service.specs.Replies.{Reply}
use Rattle.bac_service.specs.Views.{property_reference_view}
use Rattle.bac_store.specs.declared.lookups.Computed.{Computed}
use Rattle.bac_store.specs.declared.lookups.Computed.TheVariants as own
use Rattle.bac_store.specs.Lookups.{computed_number, computed_of, computed_value}
use Rattle.bac_store.specs.Replies.{write_reply}
use Rattle.bac_store.specs.Stores.{Object, computed}
use Rattle.bac_store.specs.Views.{entry_view}
use Rattle.bac_store.proofs.properties.own_refusal.Goals as goal

-- all but the size of a file are fixed
fixed : (o : Object) (c : Computed) → (c ≡ own.Identifier) ⊎ ((c ≡ own.Name) ⊎ ((c ≡ own.Type) ⊎ (c ≡ own.AccessMethod)))
    → computed_of o c ≡ computed (computed_number c) (computed_value o c)
fixed o c (inl e) = rw e refl
fixed o c (inr (inl e)) = rw e refl
fixed o c (inr (inr (inl e))) = rw e refl
fixed o c (inr (inr (inr e))) = rw e refl

pub returns-in-Size : goal.returns-in-Size
returns-in-Size c =
    let reply : Computed → Reply = λ own. write_reply (property_reference_view c.args.reference) c.args.values.now
    (computed_of (entry_view c.args.entry.now) own) in
    c.size_refusal.ensures c.in-Size.field-0 ∙ sym (ap reply c.in-Size.is)

pub returns-in-Identifier : goal.returns-in-Identifier
returns-in-Identifier c =
    let o = entry_view c.args.entry.now in
    c.computed_refusal.ensures c.args.values.now (computed_number c.args.own) (computed_value o c.args.own)
    ∙ sym (ap (write_reply (property_reference_view c.args.reference) c.args.values.now) (fixed o c.args.own c.in-Identifier.is))
