use Rattle.std.proofs.Common.{rules, ◌+◌, ◌<◌, length}
use Rattle.std.specs.Prelude.{vec_capacity, vec_len}
use Rattle.mr_world_parts.proofs.Lacking.{on_err, some_wanted}
use Rattle.mr_world_parts.proofs.slot.Slot.append.Goals as goal

pub returns-in_err-extend_from_slice-clause-some : goal.returns-in_err-extend_from_slice-clause-some
returns-in_err-extend_from_slice-clause-some c =
    let old = c.self.inside.file in
    let full : vec_capacity old < vec_len old + length c.args.bytes.now = search rules in
    on_err c.from_residual.result _ (some_wanted (vec_capacity old) (vec_len old) c.args.bytes.now old.ok.1 full)
