use Rattle.std.proofs.Common.{length, map}
use Rattle.bac_value.specs.Views.{object_identifier_view}
use Rattle.bac_point_report.proofs.Objects.{AreLeft, AreTaken}
use Rattle.bac_point_report.proofs.listing.objects_in.Given as goal

-- together with the objects of what is left, those so far are all; and where what is left is no objects, all is not
abbrev pub invariant-loop-element : goal.invariant-loop-element
invariant-loop-element l =
    AreTaken (map object_identifier_view l.objects.items) l.rest.octets.now l.fn.values.octets.now × AreLeft l.rest.octets.now l.fn.values.octets.now

abbrev pub decreases-loop-element : goal.decreases-loop-element
decreases-loop-element l = length l.rest.octets.now
