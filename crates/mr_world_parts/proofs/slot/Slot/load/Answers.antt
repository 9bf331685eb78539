use Rattle.std.proofs.Common.{rules, ◌≡◌, not, take}
use Rattle.mr_groups.specs.Folding.{LoadsGroups}
use Rattle.mr_node_spec.specs.State.{started}
use Rattle.mr_world_parts.proofs.Loading.{loaded_here}
use Rattle.mr_world_parts.proofs.slot.Slot.load.Goals as goal

pub returns : goal.returns
returns c =
    let loads : LoadsGroups c.args.restart.now.kept.now c.in_ok-dataset.used c.in_ok-dataset.dataset = search rules in
    let node : c.in-Ok.node ≡ started (not c.args.as_master) c.args.restart.now.config.port c.args.restart.now.config.backlog c.args.restart.now.id c.in_ok-dataset.dataset = search rules in
    let file : c.in_ok-file.file.items ≡ take c.in_ok-dataset.used c.args.restart.now.kept.now = search rules in
    loaded_here c.args.restart.now.kept.now (not c.args.as_master) c.args.restart.now.config.port c.args.restart.now.config.backlog c.args.restart.now.id c.in_ok-dataset.used c.in_ok-dataset.dataset c.in-Ok.node c.in_ok-file.file.items loads node file
