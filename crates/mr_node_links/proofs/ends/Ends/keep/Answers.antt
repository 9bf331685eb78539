use Rattle.std.proofs.Common.{◌≡◌, Some, sym, ◌∙◌}
use Rattle.std.specs.FinMap.{get}
use Rattle.mr_node_links.proofs.Naming.{same_lists}
use Rattle.mr_node_links.proofs.Places.{same_links}
use Rattle.mr_node_links.proofs.ends.Ends.keep.Goals as goal

pub invariant_of-self : goal.invariant_of-self
invariant_of-self c =
    let i = c.self.inside in
    let here : get i.links.open_links c.args.link ≡ Some c.in-Some.end.now = sym c.in-Some.ensures.value in
    same_lists i.replicas.items i.links.open_links c.args.link c.in-Some.end.now c.keep.new.self c.self.invariant here c.keep.ensures

pub returns : goal.returns
returns c =
    let i = c.self.inside in
    let here : get i.links.open_links c.args.link ≡ Some c.in-Some.end.now = sym c.in-Some.ensures.value in
    same_links i.links c.args.link c.in-Some.end.now c.keep.new.self here c.keep.ensures ∙ c.self.view_is
