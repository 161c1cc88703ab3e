-- A service of that choice, or none.
use Rattle.std.proofs.Common.{◌∙◌, ap, sym}
use Rattle.bac_service.specs.Choices.{has_simple_ack}
use Rattle.bac_service.proofs.Wholes.{service_is}
use Rattle.bac_requester.proofs.Services.{none_simple}
use Rattle.bac_requester.proofs.await_confirmation.has_simple_ack.Goals as goal

pub returns-in-Some : goal.returns-in-Some
returns-in-Some c =
    c.has_simple_ack.ensures ∙ ap has_simple_ack (sym (service_is c.args.choice c.in-Some.service (sym c.of.ensures ∙ c.in-Some.is)))

pub returns-in-None : goal.returns-in-None
returns-in-None c = sym (none_simple c.args.choice (sym c.of.ensures ∙ c.in-None.is))
