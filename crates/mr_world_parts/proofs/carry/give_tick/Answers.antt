use Rattle.std.proofs.Common.{rules, ◌≡◌, ◌≢◌, ◌∙◌, [], sym, ap, map, length}
use Rattle.law_refinement.specs.Carrying.{reached, said_on}
use Rattle.mr_world_parts.specs.Memory.{TakesMemory}
use Rattle.mr_world_parts.proofs.Lacking.{where_err}
use Rattle.mr_world_parts.specs.Undoing.{unsaid_on}
use Rattle.mr_world_parts.proofs.Undone.{reach_said, unsaid_said}
use Rattle.mr_world_parts.proofs.carry.give_tick.Goals as goal

pub returns-then-is_err-2-clause-no_links : goal.returns-then-is_err-2-clause-no_links
returns-then-is_err-2-clause-no_links c =
    let said : c.say_in.new.links.items ≡ said_on c.args.giving.now.outs.now.link c.dialled-l.result c.args.giving.now.outs.now.reply c.args.links.now.items = search rules in
    let same : c.give.new.links.items ≡ c.say_in.new.links.items = search rules in
    c.unsay_in.ensures ∙ (ap (unsaid_on c.args.giving.now.outs.now.link c.dialled-l.result (length c.args.giving.now.outs.now.reply)) (same ∙ said) ∙ unsaid_said c.args.giving.now.outs.now.link c.dialled-l.result c.args.giving.now.outs.now.reply c.args.links.now.items)

pub returns-clause-links : goal.returns-clause-links
returns-clause-links c =
    let said : c.say_in.new.links.items ≡ said_on c.args.giving.now.outs.now.link c.dialled-l.result c.args.giving.now.outs.now.reply c.args.links.now.items = search rules in
    let given : c.give.new.links.items ≡ map (reached c.args.giving.now.node c.args.giving.now.outs.now) c.say_in.new.links.items = search rules in
    given ∙ (ap (map (reached c.args.giving.now.node c.args.giving.now.outs.now)) said ∙ (reach_said c.args.giving.now.node c.args.giving.now.outs.now c.args.giving.now.outs.now.link c.dialled-l.result c.args.giving.now.outs.now.reply c.args.links.now.items
    ∙ ap (λ l. said_on c.args.giving.now.outs.now.link l c.args.giving.now.outs.now.reply (map (reached c.args.giving.now.node c.args.giving.now.outs.now) c.args.links.now.items)) c.dialled-l.ensures))

pub returns-then-is_err-clause-memory : goal.returns-then-is_err-clause-memory
returns-then-is_err-clause-memory c =
    let some : c.args.giving.now.outs.now.reply ≢ [] = search rules in
    TakesMemory.says some

pub returns-then-is_err-2-clause-memory : goal.returns-then-is_err-2-clause-memory
returns-then-is_err-2-clause-memory c = where_err c.give.result _ (sym c.is_err-2.ensures.value ∙ c.if-is_err-2.true) c.give.ensures.memory
