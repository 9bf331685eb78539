use Rattle.std.proofs.Common.{◌≡◌, Some, drop, sym, ap, ◌∙◌, rules}
use Rattle.std.specs.FinMap.{get}
use Rattle.mr_node_links.specs.State.{EndState, begun, streams}
use Rattle.mr_node_links.specs.State.EndState.{client, waiting}
use Rattle.mr_node_links.specs.Ending.{used_of}
use Rattle.mr_node_links.proofs.Naming.{put_lists}
use Rattle.mr_node_links.proofs.ends.Ends.begin.Goals as goal

pub invariant_of-self : goal.invariant_of-self
invariant_of-self c =
    let i = c.self.inside in
    let found : get i.links.open_links c.args.link ≡ Some (client c.requires.unread) = search rules in
    let its : c.in-Some.end.now ≡ client c.requires.unread = search rules in
    let taken : c.take.new.self ≡ client (drop c.args.count c.requires.unread) = c.take.ensures ∙ ap (used_of c.args.count) its in
    put_lists i.replicas.items i.links.open_links c.args.link c.begin.new.self c.self.invariant
    (ap (λ (e : EndState). streams (Some e)) (c.begin.ensures (drop c.args.count c.requires.unread) taken) ∙ sym (ap streams found))
