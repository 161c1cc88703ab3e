use Rattle.bac_forms.proofs.Shown.{numbered_at}
use Rattle.bac_forms.proofs.decode.show_numbered.Goals as goal

pub returns : goal.returns
returns g c =
    numbered_at c.args.printing c.args.number c.args.datagram.now c.show_item.result (g.W.Write.contents c.args.out.now)
    (g.W.Write.contents c.print_number.new.out) (g.W.Write.contents c.show_item.new.out) c.in_ok-print_number.ensures c.show_item.ensures
