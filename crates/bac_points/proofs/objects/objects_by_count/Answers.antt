-- What follows from the number of elements.
use Rattle.std.proofs.lemmas.Result.{IfOk-weaker}
use Rattle.bac_points.proofs.objects.objects_by_count.Goals as goal

pub returns-clause-read : goal.returns-clause-read
returns-clause-read g c =
    IfOk-weaker c.objects_counted.result _ _
    (λ objects follows. record { count = c.in_ok-count.count; middle = _; asks = c.in_ok-count.ensures.asked; follows = follows })
    c.objects_counted.ensures.read
