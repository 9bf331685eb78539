use Rattle.std.proofs.Common.{◌≡◌, Some, drop, sym, ap, ◌∙◌, rules}
use Rattle.std.specs.FinMap.{get}
use Rattle.mr_node_links.specs.State.{EndState, streams}
use Rattle.mr_node_links.specs.State.EndState.{client, waiting}
use Rattle.mr_node_links.proofs.Naming.{put_lists}
use Rattle.mr_node_links.proofs.ends.Ends.put_back.Goals as goal

pub invariant_of-self : goal.invariant_of-self
invariant_of-self c =
    let i = c.self.inside in
    let u = c.requires.unread in
    let found : get i.links.open_links c.args.link ≡ Some (client u) = search rules in
    let its : c.in-Some.end.now ≡ client u = search rules in
    put_lists i.replicas.items i.links.open_links c.args.link c.put_back.new.self c.self.invariant
    (ap (λ (e : EndState). streams (Some e)) (c.put_back.ensures u its) ∙ sym (ap streams found))
