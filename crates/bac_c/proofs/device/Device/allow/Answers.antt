-- The object that was listed last takes one more value.
use Rattle.std.proofs.Common.{ℕ, List, ap, ◌∙◌}
use Rattle.bac_store.specs.Views.{object_view}
use Rattle.bac_c.specs.Listing.{allowing}
use Rattle.bac_c.proofs.Lists.{last_changed, where_ok}
use Rattle.bac_c.proofs.device.Device.allow.Goals as goal

pub returns-clause-listed : goal.returns-clause-listed
returns-clause-listed c =
    let octets = c.in_ok-value.ensures.same ∙ c.in-Some.ensures.1 in
    where_ok c.allowing-object.result.1 (λ same. last_changed (allowing c.args.octets.now) c.args.self.now.listed.items c.pop.new.self.items c.push_reserved.new.self.items
    c.in-Some-pop.object _ c.in-Some-pop.ensures.items c.push_reserved.ensures.items (same ∙ ap (λ (v : List ℕ). allowing v (object_view c.in-Some-pop.object)) octets))
    c.allowing-object.ensures.allowed
