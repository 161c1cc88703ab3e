use Rattle.std.proofs.Common.{◌≡◌, None, rules}
use Rattle.std.specs.Option.{option_map}
use Rattle.bac_npdu.specs.Views.{message_view}
use Rattle.bac_text.proofs.decode.print_contents.Goals as goal

pub returns-in-None : goal.returns-in-None
returns-in-None g c =
    let none : option_map message_view c.args.message ≡ None = search rules in
    rw none c.print_apdu_layer.ensures
