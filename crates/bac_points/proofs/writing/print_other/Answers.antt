-- The line of that value.
use Rattle.std.proofs.Common.{rules, ◌≡◌, ℕ, List, subst}
use Rattle.std.proofs.lemmas.Result.{on_ok_weaker}
use Rattle.std.specs.Io.KnownBytes.{Appends}
use Rattle.bac_points.specs.Writes.{differs_line}
use Rattle.bac_points.proofs.writing.print_other.Goals as goal

pub returns : goal.returns
returns g c =
    let line : c.deref-2.result.now ≡ differs_line c.in-Ok.value.items = search rules in
    on_ok_weaker c.print_line.result
    (λ prints. record { value = c.in-Ok.value.items; is = c.in-Ok.ensures; prints = subst (λ (l : List ℕ). Appends (g.O.Write.contents c.args.out.now) (g.O.Write.contents c.print_line.new.out) l) line prints })
    c.print_line.ensures
