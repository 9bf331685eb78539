use Rattle.std.proofs.Common.{rules, ◌≡◌, ◌∙◌, Some}
use Rattle.mr_world_parts.specs.Memory.{TakesMemory}
use Rattle.mr_world_parts.proofs.Lacking.{on_err, on_err_map}
use Rattle.mr_world_parts.proofs.carry.write_book.Goals as goal

pub returns-in-Some-clause-memory : goal.returns-in-Some-clause-memory
returns-in-Some-clause-memory c =
    let used : c.args.outs.now.used ≡ Some c.in-Some.fresh = search rules in
    on_err c.branch-alloc.result _ (TakesMemory.takes_id c.in-Some.fresh used)

pub returns-in-None-clause-memory : goal.returns-in-None-clause-memory
returns-in-None-clause-memory c = on_err_map c.lengthen.result _ _ c.lengthen.ensures.some (λ some. TakesMemory.grows (λ none. some (c.grown.ensures ∙ none)))
