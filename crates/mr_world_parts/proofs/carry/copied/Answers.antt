use Rattle.std.proofs.Common.{rules, ◌≡◌, ◌+◌, ◌<◌, Some, length}
use Rattle.std.specs.Prelude.{vec_capacity, vec_len}
use Rattle.mr_world_parts.specs.Memory.{TakesMemory}
use Rattle.mr_world_parts.proofs.Lacking.{on_err, some_wanted}
use Rattle.mr_world_parts.proofs.carry.copied.Goals as goal

pub returns-in_err-extend_from_slice-in-Some-clause-memory : goal.returns-in_err-extend_from_slice-in-Some-clause-memory
returns-in_err-extend_from_slice-in-Some-clause-memory c =
    let copy = c.new-copy.result in
    let full : vec_capacity copy < vec_len copy + length c.in-Some.bytes.now = search rules in
    let whole : c.args.outs.now.replaced ≡ Some c.in-Some.bytes.now = search rules in
    on_err c.from_residual.result _ (TakesMemory.replaces c.in-Some.bytes.now (some_wanted (vec_capacity copy) (vec_len copy) c.in-Some.bytes.now copy.ok.1 full) whole)
