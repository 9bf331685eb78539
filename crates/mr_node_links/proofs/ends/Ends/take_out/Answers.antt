use Rattle.std.proofs.Common.{◌≡◌, Some, drop, sym, ap, ◌∙◌, rules}
use Rattle.std.specs.FinMap.{get}
use Rattle.mr_node_links.specs.State.{EndState, streams}
use Rattle.mr_node_links.specs.State.EndState.{client, waiting}
use Rattle.mr_node_links.proofs.Naming.{put_lists}
use Rattle.mr_node_links.proofs.ends.Ends.take_out.Goals as goal

pub invariant_of-self : goal.invariant_of-self
invariant_of-self c =
    let i = c.self.inside in
    let t = c.requires.transaction in
    let u = c.requires.unread in
    let found : get i.links.open_links c.args.link ≡ Some (waiting t u) = search rules in
    let its : c.in-Some.end.now ≡ waiting t u = search rules in
    put_lists i.replicas.items i.links.open_links c.args.link c.take_out.new.self c.self.invariant
    (ap (λ (e : EndState). streams (Some e)) (c.take_out.ensures.left t u its) ∙ sym (ap streams found))
