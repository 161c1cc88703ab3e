-- Each bucket of a new table is a full one.
use Rattle.std.proofs.Common.{◌∙◌, List, replicate, ap}
use Rattle.bac_guard.specs.declared.bucket.Bucket.{Bucket}
use Rattle.bac_guard.specs.Budgets.{Table}
use Rattle.bac_guard.proofs.budget.Budget.new.Goals as goal

pub returns : goal.returns
returns c =
    ap (λ (buckets : List Bucket). let t : Table = record { key = c.args.key; rate = c.args.rate; buckets = buckets } in t)
    (c.in_ok-vec.ensures.items_if_clones_equal (λ y e. e) ∙ ap (λ (b : Bucket). replicate 1024 b) c.new.ensures)
