use Rattle.bac_text.proofs.OneVerdict.{one_verdict}
use Rattle.bac_text.proofs.laws.fine_or_at_fault.Goals as goal

pub returns : goal.returns
returns c = one_verdict c.one_bvll_spelling.ensures c.one_npdu_spelling.ensures c.one_apdu_spelling.ensures
