-- The properties that are left decide.
use Rattle.std.proofs.Common.{◌≡◌, length, map}
use Rattle.bac_service.specs.Views.{property_reference_view}
use Rattle.bac_points.specs.Lists.{have_come}
use Rattle.bac_points.proofs.listing.have_come.Given as goal

abbrev pub invariant-loop-references : goal.invariant-loop-references
invariant-loop-references l =
    have_come (map property_reference_view l.references) l.ends ≡ have_come (map property_reference_view l.fn.references) l.fn.ends

abbrev pub decreases-loop-references : goal.decreases-loop-references
decreases-loop-references l = length l.references
