use Rattle.std.proofs.Common.{rules, ◌≡◌, ◌+◌, List, [], ◌∷◌, ◌++◌, get_or, take, sym, subst}
use Rattle.std.proofs.lemmas.List.{take_more}
use Rattle.bac_keep.specs.declared.cell.Cell.{Cell}
use Rattle.bac_keep_file.specs.Idle.{AreIdle, TellsOne}
use Rattle.bac_keep_file.proofs.Idles.{begins, tells}
use Rattle.bac_keep_file.proofs.idle.idle_among.Goals as goal

pub loop-at-init : goal.loop-at-init
loop-at-init c = begins c.args.document.now c.args.cells.now _ c.new-idle.ensures.items

pub loop-at-preserved : goal.loop-at-preserved
loop-at-preserved c =
    let cells = c.args.cells.now in
    let cell = get_or cells c.loop-at.at c.index-cells-at.result in
    let same : c.index-cells-at.result ≡ cell = search rules in
    let next : take (c.loop-at.at + 1) cells ≡ take c.loop-at.at cells ++ cell ∷ [] =
    take_more cells c.loop-at.at c.index-cells-at.result (search rules) in
    subst (λ (cs : List Cell). AreIdle c.args.document.now cs c.add_idle.new.idle.items) (sym next)
    (tells c.args.document.now (take c.loop-at.at cells) cell c.loop-at.idle.items c.add_idle.new.idle.items c.loop-at.invariant
    (subst (λ (x : Cell). TellsOne c.args.document.now x c.loop-at.idle.items c.add_idle.new.idle.items) same c.in_ok-add_idle.ensures))
