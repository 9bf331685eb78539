use Rattle.std.proofs.Common.{rules, ◌≡◌, ◌≢◌, ◌∙◌, [], sym, ap, length, map}
use Rattle.std.specs.Prelude.{slice_set}
use Rattle.law_refinement.specs.State.{Slot}
use Rattle.law_refinement.specs.Carrying.{filed, reached, told}
use Rattle.mr_world_parts.specs.Memory.{TakesMemory}
use Rattle.mr_world_parts.proofs.Lacking.{where_err}
use Rattle.mr_world_parts.proofs.Answered.{answered_there, behind_told, untold_there}
use Rattle.mr_world_parts.proofs.carry.give_step.Goals as goal

pub returns-then-is_err-2-clause-no_links : goal.returns-then-is_err-2-clause-no_links
returns-then-is_err-2-clause-no_links c =
    let said : c.tell.new.self ≡ told c.reply.result.now c.index_mut.result.now = search rules in
    let gave : c.give.new.links.items ≡ slice_set c.args.links.now.items c.args.l c.tell.new.self = search rules in
    untold_there c.args.giving.now.node c.args.l c.args.giving.now.outs.now c.args.links.now.items c.give.new.links.items c.index_mut.result.now c.tell.new.self c.index_mut-then-is_err-2.result.now
    c.requires.link c.index_mut.ensures.value (said ∙ ap (λ z. told z c.index_mut.result.now) c.reply.ensures) c.index_mut-then-is_err-2.ensures.value
    (length c.reply-then-is_err-2.result.now) c.untell.new.self gave (ap length c.reply-then-is_err-2.ensures) c.untell.ensures

pub settle-requires : goal.settle-requires
settle-requires c =
    let said : c.tell.new.self ≡ told c.reply.result.now c.index_mut.result.now = search rules in
    let gave : c.give.new.links.items ≡ map (reached c.args.giving.now.node c.args.giving.now.outs.now) (slice_set c.args.links.now.items c.args.l c.tell.new.self) = search rules in
    let slot : c.give.new.slot ≡ record c.args.slot.now { file = filed c.args.giving.now.outs.now c.args.slot.now.file } = search rules in
    behind_told c.args.giving.now.node c.args.l c.args.giving.now.outs.now c.args.links.now.items c.give.new.links.items c.index_mut.result.now c.tell.new.self c.index_mut-2.result.now
    c.requires.link c.index_mut.ensures.value (said ∙ ap (λ z. told z c.index_mut.result.now) c.reply.ensures) c.index_mut-2.ensures.value
    c.args.slot.now.node c.requires.behind gave c.give.new.slot.node (ap (λ (z : Slot). z.node) slot)

pub returns-clause-links : goal.returns-clause-links
returns-clause-links c =
    let said : c.tell.new.self ≡ told c.reply.result.now c.index_mut.result.now = search rules in
    let gave : c.give.new.links.items ≡ map (reached c.args.giving.now.node c.args.giving.now.outs.now) (slice_set c.args.links.now.items c.args.l c.tell.new.self) = search rules in
    let slot : c.give.new.slot ≡ record c.args.slot.now { file = filed c.args.giving.now.outs.now c.args.slot.now.file } = search rules in
    answered_there c.args.giving.now.node c.args.l c.args.giving.now.outs.now c.args.links.now.items c.give.new.links.items c.index_mut.result.now c.tell.new.self c.index_mut-2.result.now
    c.requires.link c.index_mut.ensures.value (said ∙ ap (λ z. told z c.index_mut.result.now) c.reply.ensures) c.index_mut-2.ensures.value
    c.args.slot.now.node c.requires.behind gave c.give.new.slot.node c.settle.new.link (ap (λ (z : Slot). z.node) slot) c.settle.ensures

pub returns-then-is_err-clause-memory : goal.returns-then-is_err-clause-memory
returns-then-is_err-clause-memory c =
    let some : c.reply.result.now ≢ [] = search rules in
    TakesMemory.says (λ none. some (c.reply.ensures ∙ none))

pub returns-then-is_err-2-clause-memory : goal.returns-then-is_err-2-clause-memory
returns-then-is_err-2-clause-memory c = where_err c.give.result _ (sym c.is_err-2.ensures.value ∙ c.if-is_err-2.true) c.give.ensures.memory
