use Rattle.std.proofs.Common.{◌≡◌, ◌&&◌, ◌∙◌, ap, sym, arith}
use Rattle.bac_forms.proofs.Shown.{vectors_step, vectors_shown}
use Rattle.bac_forms.proofs.decode.show_all.Goals as goal
use Rattle.bac_forms.proofs.decode.show_all.Goals.{then-fine, else-fine}

pub loop-datagram-preserved : goal.loop-datagram-preserved
loop-datagram-preserved g c =
    let all : c.if-fine.fine ≡ c.loop-datagram.fine && c.in_ok-here.here = elim c.if-fine.branch [
      | then-fine w ↦ w.fine-is ∙ ap (λ before. before && c.in_ok-here.here) (sym w.if-fine.true)
      | else-fine w ↦ w.fine-is ∙ w.if-fine.false ∙ ap (λ before. before && c.in_ok-here.here) (sym w.if-fine.false)
    ] in (
      vectors_step c.args.printing c.args.datagrams.now c.loop-datagram.rest.now c.in-Some.datagram.now c.in-Some.others.now c.deref.result.now
          c.loop-datagram.number c.loop-datagram.fine c.in_ok-here.here c.if-fine.fine (g.W.Write.contents c.args.out.now)
          (g.W.Write.contents c.loop-datagram.out) (g.W.Write.contents c.show_numbered.new.out) c.loop-datagram.invariant.0 c.in-Some.ensures.cases.0
          c.deref.ensures.value c.in_ok-here.ensures all,
      omega (arith, c.loop-datagram.invariant.1, c.in-Some.ensures.cases.1),
    )

pub returns : goal.returns
returns g c =
    vectors_shown c.args.printing c.args.datagrams.now c.loop-datagram.rest.now c.loop-datagram.number c.loop-datagram.fine
    (g.W.Write.contents c.args.out.now) (g.W.Write.contents c.loop-datagram.out) c.loop-datagram.invariant.0 c.in_default.ensures.cases
