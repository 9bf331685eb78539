use Rattle.std.proofs.Common.{◌≡◌, Some, sym, ap, ◌∙◌, rules}
use Rattle.std.specs.FinMap.{get}
use Rattle.mr_node_links.specs.State.{EndState, streams}
use Rattle.mr_node_links.proofs.Naming.{put_lists, used_streams}
use Rattle.mr_node_links.proofs.ends.Ends.take.Goals as goal

pub invariant_of-self : goal.invariant_of-self
invariant_of-self c =
    let i = c.self.inside in
    let found : get i.links.open_links c.args.link ≡ Some c.in-Some.end.now = search rules in
    put_lists i.replicas.items i.links.open_links c.args.link c.take.new.self c.self.invariant
    (ap (λ (e : EndState). streams (Some e)) c.take.ensures ∙ (used_streams c.args.count c.in-Some.end.now ∙ sym (ap streams found)))
