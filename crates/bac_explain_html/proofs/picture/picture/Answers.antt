-- When it was asked, the names, and all arrows.
use Rattle.std.proofs.Common.{◌≡◌, ◌++◌, codes, rules, string_bytes}
use Rattle.bac_explain.specs.KeyViews.{key_view}
use Rattle.bac_explain_html.proofs.Told.{picture_told}
use Rattle.bac_explain_html.proofs.picture.picture.Goals as goal

pub returns : goal.returns
returns c =
    let is : c.extend_from_slice-2.new.self.items ≡ (string_bytes c.in_ok-front.front ++ c.in_ok-arrows.arrows.items) ++ codes "</details>" = search rules in
    picture_told (key_view c.args.key) c.args.asked c.args.steps.now c.extend_from_slice-2.new.self.items (string_bytes c.in_ok-front.front) _ _ _ c.in_ok-when.ensures
    c.in_ok-heading.ensures c.in_ok-arrows.ensures c.in_ok-front.ensures.ok is
