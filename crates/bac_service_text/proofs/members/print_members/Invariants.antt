-- What is printed of the members that are left completes what is printed of all.
use Rattle.std.proofs.Common.{ℕ, List, Option, length}
use Rattle.bac_service.specs.MemberViews.{listed}
use Rattle.bac_service_text.specs.Members.{AppendsText, AreMembers}
use Rattle.bac_service_text.proofs.members.print_members.Given as goal

abbrev pub invariant-loop-rest : goal.invariant-loop-rest
invariant-loop-rest g l = (end : Option (List ℕ)) → AppendsText (g.W.Write.contents l.out) end (AreMembers l.in_words (listed l.rest))
    → AppendsText (g.W.Write.contents l.fn.out) end (AreMembers l.in_words (listed l.fn.members.all))

abbrev pub decreases-loop-rest : goal.decreases-loop-rest
decreases-loop-rest g l = length l.rest
