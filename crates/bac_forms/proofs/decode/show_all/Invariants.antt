use Rattle.std.proofs.Common.{◌≡◌, ◌+◌, length}
use Rattle.bac_forms.specs.Reading.{octets_of}
use Rattle.bac_forms.proofs.Shown.{IsFrontShown}
use Rattle.bac_forms.proofs.decode.show_all.Given as goal

abbrev pub invariant-loop-datagram : goal.invariant-loop-datagram
invariant-loop-datagram g l =
    IsFrontShown l.fn.printing (octets_of l.fn.datagrams) (octets_of l.rest) l.number l.fine (g.W.Write.contents l.initial.out) (g.W.Write.contents l.out)
    × (l.number + length l.rest ≡ length l.fn.datagrams + 1)

abbrev pub decreases-loop-datagram : goal.decreases-loop-datagram
decreases-loop-datagram g l = length l.rest
