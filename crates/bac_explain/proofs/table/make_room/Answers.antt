-- One transaction fewer, or there was room.
use Rattle.std.proofs.Common.{◌≤◌, ◌∙◌, length, ap, arith}
use Rattle.bac_explain.specs.declared.table.TheConstants.{OPEN_LIMIT}
use Rattle.bac_explain.specs.KeyViews.{key_view}
use Rattle.bac_explain.specs.Views.{slots_view}
use Rattle.bac_explain.proofs.Rooms.{taken_room, none_room}
use Rattle.bac_explain.proofs.Seen.{length_seen}
use Rattle.bac_explain.proofs.table.make_room.Goals as goal

pub returns-in-Some-clause-room : goal.returns-in-Some-clause-room
returns-in-Some-clause-room c =
    let few : length (slots_view c.args.table.now.0) ≤ OPEN_LIMIT =
    omega (arith, length_seen c.args.table.now.0, c.len-len.ensures.number, c.len-len.ensures.within, c.requires) in
    taken_room (key_view c.args.key.now) (slots_view c.args.table.now.0) _ _ few c.in-Some.ensures.closed c.in-Some.ensures.slots

pub returns-in-None-clause-closed : goal.returns-in-None-clause-closed
returns-in-None-clause-closed c =
    let few : length (slots_view c.args.table.now.0) ≤ OPEN_LIMIT =
    omega (arith, length_seen c.args.table.now.0, c.len-len.ensures.number, c.len-len.ensures.within, c.requires) in
    let room = none_room (key_view c.args.key.now) (slots_view c.args.table.now.0) (slots_view c.take_out.new.table.0) few c.in-None.ensures.closed
    c.in-None.ensures.slots in
    c.take_if_full.ensures.closed ∙ room.closes

pub returns-in-None-clause-slots : goal.returns-in-None-clause-slots
returns-in-None-clause-slots c =
    let few : length (slots_view c.args.table.now.0) ≤ OPEN_LIMIT =
    omega (arith, length_seen c.args.table.now.0, c.len-len.ensures.number, c.len-len.ensures.within, c.requires) in
    let room = none_room (key_view c.args.key.now) (slots_view c.args.table.now.0) (slots_view c.take_out.new.table.0) few c.in-None.ensures.closed
    c.in-None.ensures.slots in
    c.take_if_full.ensures.slots ∙ room.left

pub returns-in-None-clause-room : goal.returns-in-None-clause-room
returns-in-None-clause-room c =
    let few : length (slots_view c.args.table.now.0) ≤ OPEN_LIMIT =
    omega (arith, length_seen c.args.table.now.0, c.len-len.ensures.number, c.len-len.ensures.within, c.requires) in
    let room = none_room (key_view c.args.key.now) (slots_view c.args.table.now.0) (slots_view c.take_out.new.table.0) few c.in-None.ensures.closed
    c.in-None.ensures.slots in
    omega (arith, ap length c.take_if_full.ensures.slots, room.room)
