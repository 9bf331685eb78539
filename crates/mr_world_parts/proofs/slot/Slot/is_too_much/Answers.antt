use Rattle.std.proofs.Common.{rules, ◌≡◌, ◌<◌, Some}
use Rattle.mr_node_spec.specs.State.{room_of}
use Rattle.mr_world_parts.proofs.Room.{is_too_much}
use Rattle.mr_world_parts.proofs.slot.Slot.is_too_much.Goals as goal

pub returns-in-Some-clause-yes : goal.returns-in-Some-clause-yes
returns-in-Some-clause-yes c h =
    let e : room_of c.args.self.now.node c.args.name ≡ Some c.in-Some.room = search rules in
    let more : c.in-Some.room < c.args.count = search rules in
    is_too_much c.args.self.now.node c.args.name c.in-Some.room c.args.count e more c.ranges.count.fits
