use Rattle.std.proofs.Common.{rules, ◌≡◌, true, false}
use Rattle.bac_keep_file.specs.Idle.{is_told}
use Rattle.bac_keep_file.proofs.Idles.{left_out, pushed}
use Rattle.bac_keep_file.proofs.idle.add_idle.Goals as goal

pub returns-in_ok-push : goal.returns-in_ok-push
returns-in_ok-push c =
    let told : is_told c.args.document.now c.in-Some.part ≡ true = search rules in
    pushed c.args.document.now c.args.cell.now _ _ c.in-Some.part c.in-Some.ensures.is c.in-Some.ensures.small told c.in_ok-push.ensures.items

pub returns-else-is_told : goal.returns-else-is_told
returns-else-is_told c =
    let told : is_told c.args.document.now c.in-Some.part ≡ false = search rules in
    left_out c.args.document.now c.args.cell.now _ c.in-Some.part c.in-Some.ensures.is c.in-Some.ensures.small told
