-- The last property has the limits, and the rest of the object stays.
use Rattle.std.proofs.Common.{List, ap, refl}
use Rattle.bac_store.specs.Allowing.{Allowed}
use Rattle.bac_store.specs.Stores.{Property}
use Rattle.bac_store.specs.Views.{object_view}
use Rattle.bac_c.proofs.Limits.{last_limited}
use Rattle.bac_c.proofs.limiting.limited.Goals as goal

pub returns-clause-limits : goal.returns-clause-limits
returns-clause-limits c = λ t.
    let limits = last_limited (λ a. Allowed.Between c.args.least.octets.items c.args.greatest.octets.items) c.args.object.properties.items c.pop.new.self.items c.push_reserved.new.self.items
    c.in-Some.property _ c.in-Some.ensures.items c.push_reserved.ensures.items refl in
    ap (λ (ps : List Property). record (object_view c.args.object) { properties = ps }) limits
