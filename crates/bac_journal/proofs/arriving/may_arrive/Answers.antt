-- How many copies came later is known from counts.
use Rattle.std.proofs.Common.{◌-◌, ◌&&◌, nat_le, ap, sym, ◌∙◌}
use Rattle.bac_journal.proofs.Index.{later_is}
use Rattle.bac_journal.proofs.arriving.may_arrive.Goals as goal

pub returns-in-Some : goal.returns-in-Some
returns-in-Some c = λ notes number h at.
    c.is_young_and_early.ensures
    ∙ ap (λ n. nat_le (c.args.now - c.args.copy.now.moment) c.args.life && nat_le n c.args.overtake)
    (later_is c.args.rows.now c.args.copies.now notes h number c.args.copy.now c.in-Some.cell at (sym c.in-Some.ensures) c.fits.ensures)
