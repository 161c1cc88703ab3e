-- The node is on a link that was bound.
use Rattle.bac_asking.proofs.online.house_here.Goals as goal

pub returns-clause-house : goal.returns-clause-house
returns-clause-house g c =
    record {
      address = c.in-Ok.bound.1;
      node = c.in-Ok-bound_house.ensures.node;
      rules_are = c.in-Ok-bound_house.ensures.rules;
      on =
          record {
            link = c.in-Ok.bound.0;
            bound = c.in-Ok.ensures;
            failed = c.in-Ok-bound_house.ensures.failures;
            made = c.in-Ok-bound_house.ensures.calls;
          };
    }
