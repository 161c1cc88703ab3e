-- The block has no number.
use Rattle.std.proofs.Common.{◌∙◌, refl, ap, arith}
use Rattle.std.specs.List.{concat}
use Rattle.std.proofs.lemmas.Option.{slice_get_read}
use Rattle.bac_slots.proofs.InBlocks.{closed}
use Rattle.bac_slots.proofs.blocks.close.Goals as goal

pub returns-clause-same : goal.returns-clause-same
returns-clause-same c =
    let items = c.args.blocks.now.items in
    ap concat c.remove.ensures.items
    ∙ closed items c.args.n c.index.result.now (slice_get_read items _ c.args.n c.index.result.now refl c.requires c.index.ensures)
    (omega (arith, c.if-len-gt0.false, c.len.ensures.number))
