use Rattle.std.proofs.Common.{rules, ◌≡◌, ◌≢◌, ◌∙◌, [], sym, ap, map}
use Rattle.mr_world_parts.specs.Memory.{TakesMemory}
use Rattle.mr_world_parts.specs.Undoing.{fed_by, unfed_by, shut_by}
use Rattle.mr_world_parts.proofs.Lacking.{where_err}
use Rattle.mr_world_parts.proofs.Undone.{reach_all, undone_all, unfed_fed}
use Rattle.mr_world_parts.proofs.carry.give.Goals as goal

pub returns-then-is_err-3-clause-no_links : goal.returns-then-is_err-3-clause-no_links
returns-then-is_err-3-clause-no_links c =
    let fed : c.feed_in.new.links.items ≡ map (fed_by c.args.giving.now.node c.args.giving.now.outs.now) c.args.links.now.items = search rules in
    c.unfeed_in.ensures ∙ (ap (map (unfed_by c.args.giving.now.node c.args.giving.now.outs.now)) fed ∙ undone_all (fed_by c.args.giving.now.node c.args.giving.now.outs.now) (unfed_by c.args.giving.now.node c.args.giving.now.outs.now) (unfed_fed c.args.giving.now.node c.args.giving.now.outs.now) c.args.links.now.items)

pub returns-clause-links : goal.returns-clause-links
returns-clause-links c =
    let fed : c.feed_in.new.links.items ≡ map (fed_by c.args.giving.now.node c.args.giving.now.outs.now) c.args.links.now.items = search rules in
    c.shut_in.ensures ∙ (ap (map (shut_by c.args.giving.now.node c.args.giving.now.outs.now)) fed ∙ reach_all c.args.giving.now.node c.args.giving.now.outs.now c.args.links.now.items)

pub returns-then-is_err-clause-memory : goal.returns-then-is_err-clause-memory
returns-then-is_err-clause-memory c =
    let some : c.appended.result.now ≢ [] = search rules in
    TakesMemory.files (λ none. some (c.appended.ensures ∙ none))

pub returns-then-is_err-2-clause-memory : goal.returns-then-is_err-2-clause-memory
returns-then-is_err-2-clause-memory c =
    let some : c.args.giving.now.outs.now.grown ≢ [] = search rules in
    TakesMemory.grows some

pub returns-then-is_err-3-clause-memory : goal.returns-then-is_err-3-clause-memory
returns-then-is_err-3-clause-memory c = where_err c.write_book.result _ (sym c.is_err-3.ensures.value ∙ c.if-is_err-3.true) c.write_book.ensures.memory
