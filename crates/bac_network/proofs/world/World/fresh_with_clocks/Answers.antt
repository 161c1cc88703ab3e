-- What is made is fresh, and its clocks begin.
use Rattle.std.proofs.Common.{◌≡◌, [], List, map, Some, refl, ap, ◌∙◌, arith}
use Rattle.bac_protocol.specs.Service.{Octets}
use Rattle.bac_journal.specs.Clocks.{OwnClocks, fresh_clocks}
use Rattle.bac_journal.specs.Journals.{JournalView}
use Rattle.bac_journal.specs.Lives.{fresh_life}
use Rattle.bac_network.specs.Clocks.{Instant}
use Rattle.bac_network.specs.Fresh.{greatest_window, links_of, opening_of}
use Rattle.bac_network.proofs.Makers.{all_good, kept_first, made_is, own_shown}
use Rattle.bac_network.proofs.world.World.fresh_with_clocks.Goals as goal

pub nodes_made-requires : goal.nodes_made-requires
nodes_made-requires c = all_good 1024 c.args.overtake c.args.makers.items (omega arith) c.requires.right

pub invariant_of-result : goal.invariant_of-result
invariant_of-result c =
    let j = c.in_ok-journal.journal in
    let o : OwnClocks = fresh_clocks c.args.pace.drift c.args.pace.life c.args.starts.now in
    let t : Instant = record { moment = 0; own = Some (fresh_clocks c.args.pace.drift c.args.pace.life c.args.starts.now) } in
    let are : c.in_ok-links_of.field-0.items ≡ links_of c.args.makers.items = c.in_ok-links_of.ensures ∙ ap links_of c.deref-3.ensures.value in
    kept_first t refl c.requires.timely (own_shown o) 1024 c.args.overtake c.args.reuses.items c.args.makers.items c.requires.right _ _ _
    (c.greatest_window-window.ensures ∙ ap greatest_window c.deref.ensures.value)
    (ap (λ (k : JournalView). k.links) c.in_ok-journal.ensures ∙ are)
    (made_is t c.args.overtake c.args.reuses.items c.args.makers.items c.in_ok-opening.opening.items
    (record { nodes = c.in_ok-nodes.nodes; journal = c.in_ok-journal.journal; log = c.new.result })
    (c.in_ok-opening.ensures ∙ ap opening_of c.deref-2.ensures.value) c.in_ok-nodes.ensures
    (c.in_ok-journal.ensures ∙ ap (λ (l : List Octets). record (c.in_ok-journal.journal) {
      links = l;
      moment = 0;
      own = Some (fresh_clocks c.args.pace.drift c.args.pace.life c.args.starts.now);
      lives = map fresh_life l;
      copies = [];
      notes = [];
    }) are)
    c.new.ensures.items)
