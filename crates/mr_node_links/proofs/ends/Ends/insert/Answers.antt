use Rattle.std.proofs.Common.{◌≡◌, None, sym, ap, subst, ◌∙◌, rules}
use Rattle.std.specs.FinMap.{get}
use Rattle.mr_node_links.specs.State.{streams}
use Rattle.mr_node_links.specs.Replicas.{Lists}
use Rattle.mr_node_links.proofs.Naming.{put_lists}
use Rattle.mr_node_links.proofs.ends.Ends.insert.Goals as goal

pub invariant_of-self-2 : goal.invariant_of-self-2
invariant_of-self-2 c =
    let i = c.self.inside in let l = c.in-Ok.link in
    let fresh : get i.links.open_links l ≡ None = search rules in
    subst (Lists i.replicas.items) (sym c.in-Ok.ensures.inserted)
    (put_lists i.replicas.items i.links.open_links l c.args.end c.self.invariant (c.requires.quiet ∙ sym (ap streams fresh)))
