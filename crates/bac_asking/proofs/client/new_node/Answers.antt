-- The node is on a link that was bound, and that is another one than the node that asks now has. It begins at the moment of the clock.
use Rattle.std.proofs.Common.{◌≢◌, ℕ, IfSome, List, sym, ap, subst}
use Rattle.bac_driver.specs.Nodes.{Node}
use Rattle.bac_asking.proofs.Clients.{begun_last}
use Rattle.bac_asking.proofs.client.new_node.Goals as goal

pub returns-clause-node : goal.returns-clause-node
returns-clause-node g c =
    let bound = c.in-Ok.bound in
    record {
      first_id = bound.pair.first_id;
      at =
          record {
            named = c.in-Ok.ensures.named;
            port = bound.pair.port;
            at =
                record {
                  address = bound.address;
                  node = begun_last (g.M.Timer.Clock.told c.args.clock.now) _ _ _ _ _ c.now-now.ensures.tells c.in-Ok-bound_client.ensures.node;
                  rules_are = c.in-Ok-bound_client.ensures.rules;
                  on =
                      record {
                        link = bound.link;
                        bound = c.in-Ok.ensures.bound;
                        failed = c.in-Ok-bound_client.ensures.failures;
                        made = c.in-Ok-bound_client.ensures.calls;
                      };
                };
          };
    }

pub returns-clause-looked : goal.returns-clause-looked
returns-clause-looked g c = record { moment = _; is = c.now-now.ensures.tells }

pub returns-clause-apart : goal.returns-clause-apart
returns-clause-apart g c =
    subst (λ (l : List ℕ). IfSome c.args.wanted.held (λ own. l ≢ own)) (sym (ap (λ (n : Node). n.link) c.in-Ok-bound_client.ensures.node))
    c.in-Ok.ensures.other
