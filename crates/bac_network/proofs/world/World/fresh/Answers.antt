-- What is made is fresh.
use Rattle.std.proofs.Common.{◌≡◌, [], List, map, None, refl, ap, ◌∙◌}
use Rattle.bac_protocol.specs.Service.{Octets}
use Rattle.bac_journal.specs.Journals.{JournalView}
use Rattle.bac_journal.specs.Lives.{fresh_life}
use Rattle.bac_network.specs.Fresh.{greatest_window, links_of, opening_of}
use Rattle.bac_network.proofs.Makers.{all_good, kept_first, made_is, one_shown, today}
use Rattle.bac_network.proofs.world.World.fresh.Goals as goal

pub nodes_made-requires : goal.nodes_made-requires
nodes_made-requires c = all_good c.args.most c.args.overtake c.args.makers.items c.requires.most c.requires.right

pub invariant_of-result : goal.invariant_of-result
invariant_of-result c =
    let j = c.in_ok-journal.journal in
    let are : c.in_ok-links_of.field-0.items ≡ links_of c.args.makers.items = c.in_ok-links_of.ensures ∙ ap links_of c.deref-3.ensures.value in
    kept_first (record { moment = 0; own = None }) refl today one_shown c.args.most c.args.overtake c.args.reuses.items c.args.makers.items c.requires.right _ _ _
    (c.greatest_window-window.ensures ∙ ap greatest_window c.deref.ensures.value)
    (ap (λ (k : JournalView). k.links) c.in_ok-journal.ensures ∙ are)
    (made_is (record { moment = 0; own = None }) c.args.overtake c.args.reuses.items c.args.makers.items c.in_ok-opening.opening.items
    (record { nodes = c.in_ok-nodes.nodes; journal = c.in_ok-journal.journal; log = c.new-2.result })
    (c.in_ok-opening.ensures ∙ ap opening_of c.deref-2.ensures.value) c.in_ok-nodes.ensures
    (c.in_ok-journal.ensures ∙ ap (λ (l : List Octets). record (c.in_ok-journal.journal) { links = l; moment = 0; own = None; lives = map fresh_life l; copies = []; notes = [] }) are)
    c.new-2.ensures.items)
