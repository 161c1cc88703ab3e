-- The last property takes one more value, and the rest of the object stays.
use Rattle.std.proofs.Common.{List, ap}
use Rattle.bac_store.specs.Allowing.{Allowed}
use Rattle.bac_store.specs.Stores.{Property}
use Rattle.bac_store.specs.Views.{object_view, property_view}
use Rattle.bac_c.specs.Listing.{one_more}
use Rattle.bac_c.proofs.Limits.{last_limited}
use Rattle.bac_c.proofs.allowing.allowing.Goals as goal

pub returns-then-done-clause-allowed : goal.returns-then-done-clause-allowed
returns-then-done-clause-allowed c =
    let x = c.in-Some.property in
    let more = ap (λ (a : Allowed). record (property_view x) { allowed = a }) (c.one_more-allowed.ensures.more c.if-done.true) in
    let limits = last_limited (one_more c.args.value.octets.items) c.args.object.properties.items c.pop.new.self.items c.push_reserved.new.self.items
    x _ c.in-Some.ensures.items c.push_reserved.ensures.items more in
    ap (λ (ps : List Property). record (object_view c.args.object) { properties = ps }) limits
