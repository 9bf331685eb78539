use Rattle.std.proofs.Common.{◌∙◌, ◌++◌, ap, map, take, drop}
use Rattle.mr_world_parts.specs.Undoing.{fed_by, unfed_by}
use Rattle.mr_world_parts.proofs.Undone.{undone, unfed_fed}
use Rattle.mr_world_parts.proofs.carry.feed_all.Goals as goal

pub returns-then-count-links-clause-err : goal.returns-then-count-links-clause-err
returns-then-count-links-clause-err c =
    c.unfeed_front.ensures
    ∙ (ap (λ u. map (unfed_by c.args.n c.args.outs.now) (take c.feed_front-count.result u) ++ drop c.feed_front-count.result u) c.feed_front-count.ensures.fed
    ∙ undone (fed_by c.args.n c.args.outs.now) (unfed_by c.args.n c.args.outs.now) (unfed_fed c.args.n c.args.outs.now) c.feed_front-count.result c.args.links.now)
