-- The server's end took its turn.
use Rattle.std.proofs.Common.{refl, ap, map, subst}
use Rattle.bac_apdu.specs.Views.{apdu_view}
use Rattle.bac_npdu.specs.Views.{peer_view}
use Rattle.bac_requester.specs.Views.{ended_view}
use Rattle.bac_transaction.specs.Views.{rules_view, settings_view}
use Rattle.bac_world.specs.Node.{Node}
use Rattle.bac_node.specs.Memory.{IsWithin}
use Rattle.bac_node.proofs.Rules.{served_within}
use Rattle.bac_node.proofs.Turns.{server_turned_so}
use Rattle.bac_node.proofs.node.Node.responder_on_apdu.Goals as goal

pub returns-clause-heard : goal.returns-clause-heard
returns-clause-heard c =
    let at : Node = record {
      link = c.self.inside.link;
      settings = settings_view c.self.inside.settings;
      latest = c.self.inside.latest;
      clients = c.self.inside.clients;
      servers = c.self.inside.servers;
      store = c.self.inside.store;
    } in
    server_turned_so (rules_view c.args.rules.now) c.in-Some.turn.turned_away c.args.now c.args.self.now at c.on.new.self c.on.new.store
    (peer_view c.args.peer.now) (apdu_view c.args.apdu.now) c.in-Some.turn.sends.items c.in-Some.turn.act _ c.self.view_is
    (rw c.in-Some.is at c.in_ok-served.ensures.hears) refl (ap (map ended_view) c.new.ensures.items) refl refl

pub returns-clause-within : goal.returns-clause-within
returns-clause-within c =
    let at : Node = record {
      link = c.self.inside.link;
      settings = settings_view c.self.inside.settings;
      latest = c.self.inside.latest;
      clients = c.self.inside.clients;
      servers = c.self.inside.servers;
      store = c.self.inside.store;
    } in
    subst (λ (n : Node). IsWithin c.args.rules.now.memory n (record at { latest = c.args.now; servers = c.on.new.self; store = c.on.new.store })) c.self.view_is
    (served_within c.args.rules.now.memory c.self.inside.store at (record at { latest = c.args.now; servers = c.on.new.self; store = c.on.new.store }) c.on.new.self refl
    c.replies_can_be_sent.ensures c.in_ok-served.ensures.within)
