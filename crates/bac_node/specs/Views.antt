-- What contracts see of the types in code.
use Rattle.std.specs.Prelude.{map}
use Rattle.std.specs.Option.{option_map}
use Rattle.bac_apdu.specs.Views.{limits_view}
use Rattle.bac_npdu.specs.declared.fault.Dropped.TheVariants as dropped
use Rattle.bac_service.specs.Views.{owned_request_view, owned_reply_view}
use Rattle.bac_protocol.specs.Context.{Settings}
use Rattle.bac_transaction.specs.Views.{peer_key_view}
use Rattle.bac_requester.specs.Views.{ended_view}
use Rattle.bac_responder.specs.declared.served.Act.{Act}
use Rattle.bac_world.specs.Node as world
use Rattle.bac_world.specs.Services.{Performed}
use Rattle.bac_node.specs.declared.cause.Cause.{Cause}
use Rattle.bac_node.specs.declared.cause.Cause.TheVariants as cause
use Rattle.bac_node.specs.declared.config.Config.{Config}
use Rattle.bac_node.specs.declared.outcome.Outcome.{Outcome}

-- what a node is set to
abbrev pub settings_of : Config → Settings
settings_of c = record { limits = limits_view c.limits; window = c.window }

abbrev pub cause_view : Cause → world.Cause
cause_view (cause.Bvll fault) = world.Cause.NoFrame (dropped.Bvll fault)
cause_view (cause.Npdu fault) = world.Cause.NoFrame (dropped.Npdu fault)
cause_view cause.Routed = world.Cause.NoFrame dropped.Routed
cause_view cause.NetworkMessage = world.Cause.NoFrame dropped.NetworkMessage
cause_view cause.Apdu = world.Cause.NoApdu
cause_view cause.OwnLink = world.Cause.OwnLink

abbrev pub performed_view : Act → Performed
performed_view a =
    record { key = peer_key_view a.key; request = owned_request_view a.effect.request; reply = owned_reply_view a.effect.reply }

abbrev pub outcome_view : Outcome → world.Outcome
outcome_view o =
    record {
      sends = o.sends.items;
      performed = option_map performed_view o.effect;
      ended = map ended_view o.ended.items;
      dropped = option_map cause_view o.dropped;
    }
