use Rattle.std.proofs.Common.{arith}
use Rattle.bac_capture.proofs.Records.{header_cut, header_read}
use Rattle.bac_capture.proofs.begin.read_header.Goals as goal

pub returns-then-len-ne-HEADER : goal.returns-then-len-ne-HEADER
returns-then-len-ne-HEADER g c =
    header_cut c.args.order _ _ _ c.in_ok-read_run.field-0 c.in_ok-read_run.ensures (grind (arith, c.len.ensures, c.if-len-ne-HEADER.true))

pub returns : goal.returns
returns g c =
    header_read c.args.order _ _ _ _ c.in_ok-read_run.field-0 _ c.in_ok-read_run.ensures (grind (arith, c.len.ensures, c.if-len-ne-HEADER.false))
    c.deref.ensures.value c.in_ok-header_layout.ensures
