use Rattle.std.proofs.Common.{rules, ◌≢◌, ◌∙◌, []}
use Rattle.mr_world_parts.specs.Memory.{TakesMemory}
use Rattle.mr_world_parts.proofs.heard.give_heard.Goals as goal

pub returns-then-is_err-clause-memory : goal.returns-then-is_err-clause-memory
returns-then-is_err-clause-memory c =
    let some : c.appended.result.now ≢ [] = search rules in
    TakesMemory.files (λ none. some (c.appended.ensures ∙ none))

pub returns-then-is_err-2-clause-memory : goal.returns-then-is_err-2-clause-memory
returns-then-is_err-2-clause-memory c =
    let some : c.reply.result.now ≢ [] = search rules in
    TakesMemory.says (λ none. some (c.reply.ensures ∙ none))
