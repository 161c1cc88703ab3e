-- The octets follow the others, in the last vector or in a new one.
use Rattle.std.proofs.Common.{◌≡◌, ◌-◌, ◌++◌, refl, ap, ◌∙◌, arith, vec_len}
use Rattle.bac_value.specs.Octets.{joined}
use Rattle.bac_segment.proofs.Joined.{joined-push, joined-set_same, joined-set_last}
use Rattle.bac_segment.proofs.chunks.append.Goals as goal
use Rattle.bac_segment.proofs.chunks.append.Goals.{in-Some+else-octets-capacity, in_default}

pub returns-then-octets-capacity-clause-ok : goal.returns-then-octets-capacity-clause-ok
returns-then-octets-capacity-clause-ok c =
    let some = c.in-Some.ensures.variant.0 refl in
    let len = c.args.chunks.now.ok.0 in
    joined-set_last c.args.chunks.now.items c.in-Some.last.now _ _ _ (omega (arith, some, len)) c.in-Some.ensures.value c.in_ok-extend_from_slice.ensures.items

pub returns-clause-ok : goal.returns-clause-ok
returns-clause-ok c =
    let same : joined c.match-last_mut.chunks.items ≡ joined c.args.chunks.now.items =
    elim c.match-last_mut.branch [
      | in-Some+else-octets-capacity w ↦
          let chunks = c.args.chunks.now in
          ap (λ v. joined v.items) w.chunks-is ∙ joined-set_same chunks.items w.in-Some.last.now (vec_len chunks - 1) w.in-Some.ensures.value
      | in_default w ↦ ap (λ v. joined v.items) w.chunks-is
    ] in
    ap joined c.in_ok-push.ensures.items ∙ joined-push c.match-last_mut.chunks.items c.in_ok-begun.field-0
    ∙ ap (λ l. l ++ c.in_ok-begun.field-0.items) same ∙ ap (λ l. joined c.args.chunks.now.items ++ l) c.in_ok-begun.ensures
