use Rattle.std.proofs.Common.{arith}
use Rattle.bac_capture.proofs.Records.{head_empty, head_cut, if_read}
use Rattle.bac_capture.proofs.file.Layout.read.Goals as goal

pub returns-then-is_empty-clause-record : goal.returns-then-is_empty-clause-record
returns-then-is_empty-clause-record g c =
    head_empty c.args.self.now.form c.args.self.now.order _ _ c.head_len-len.result _ _ c.in_ok-read_run.field-0 c.head_len-len.ensures c.in_ok-read_run.ensures
    (grind (arith, c.is_empty.ensures, c.if-is_empty.true))

pub returns-then-len-clause-record : goal.returns-then-len-clause-record
returns-then-len-clause-record g c =
    head_cut c.args.self.now.form c.args.self.now.order _ _ c.head_len-len.result _ _ c.in_ok-read_run.field-0 c.head_len-len.ensures c.in_ok-read_run.ensures
    (grind (arith, c.is_empty.ensures, c.if-is_empty.false)) (grind (arith, c.len.ensures, c.if-len.true))

pub returns-clause-record : goal.returns-clause-record
returns-clause-record g c =
    if_read c.args.self.now.form c.args.self.now.order _ _ _ c.head_len-len.result _ _ _ c.in_ok-read_run.field-0 c.read_body.result c.head_len-len.ensures
    c.in_ok-read_run.ensures (grind (arith, c.len.ensures, c.if-len.false)) c.deref.ensures.value c.read_body.ensures
