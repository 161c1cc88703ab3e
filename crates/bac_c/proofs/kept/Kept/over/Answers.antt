-- The places of the cells rise, so they make that store, or one of them does not fit.
use Rattle.std.proofs.Common.{◌≡◌, rules}
use Rattle.bac_keep.specs.Cells.{Cells}
use Rattle.bac_keep.specs.Overlay.{overlay}
use Rattle.bac_c.specs.Fitting.{AreFit, IsWrong}
use Rattle.bac_c.specs.Kept.{cells_in}
use Rattle.bac_c.proofs.KeptPuts.{of_entries}
use Rattle.bac_c.proofs.kept.Kept.over.Goals as goal

pub returns-clause-made : goal.returns-clause-made
returns-clause-made c =
    of_entries (λ (x : Cells). c.in_ok-store.store ≡ overlay x c.args.document.now) c.self.inside.cells.items c.deref.result.now c.args.self.now
    c.deref.ensures.value (search rules) c.self.invariant c.in_ok-store.ensures.made

pub returns-clause-fit : goal.returns-clause-fit
returns-clause-fit c =
    of_entries (AreFit c.args.document.now) c.self.inside.cells.items c.deref.result.now c.args.self.now c.deref.ensures.value (search rules) c.self.invariant
    c.in_ok-store.ensures.fit

pub returns-in_err-store-clause-fault : goal.returns-in_err-store-clause-fault
returns-in_err-store-clause-fault c =
    let wrong : IsWrong c.in_err-store.field-0.0 c.args.document.now (cells_in c.args.self.now) =
    of_entries (IsWrong c.in_err-store.field-0.0 c.args.document.now) c.self.inside.cells.items c.deref.result.now c.args.self.now
    c.deref.ensures.value (search rules) c.self.invariant c.in_err-store.ensures.fault in
    search (rules, wrong)
