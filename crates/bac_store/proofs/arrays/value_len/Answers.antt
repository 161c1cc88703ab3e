use Rattle.std.proofs.Common.{take}
use Rattle.bac_value.specs.Views.{element_view}
use Rattle.bac_store.proofs.ArrayLaws.{application_is_data}
use Rattle.bac_store.proofs.arrays.value_len.Goals as goal

pub returns-in-Application-clause-whole : goal.returns-in-Application-clause-whole
returns-in-Application-clause-whole c =
    application_is_data (element_view (λ s. s.now) c.in-Ok.element) (take c.in-Ok.len c.args.octets.now) c.in-Application.is (c.in-Ok.ensures).found.1
