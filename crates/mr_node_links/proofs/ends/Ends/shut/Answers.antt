use Rattle.std.proofs.Common.{List, sym, subst}
use Rattle.std.specs.FinMap.{insert}
use Rattle.mr_links.specs.declared.link_id.LinkId.{LinkId}
use Rattle.mr_node_links.specs.State.{EndState}
use Rattle.mr_node_links.specs.Replicas.{Lists}
use Rattle.mr_node_links.proofs.Naming.{shut_lists, forgotten}
use Rattle.mr_node_links.proofs.ends.Ends.shut.Goals as goal

pub invariant_of-self : goal.invariant_of-self
invariant_of-self c =
    let i = c.self.inside in
    subst (λ (ns : List LinkId). Lists ns (insert i.links.open_links c.args.link c.shut.new.self)) (sym c.forget.ensures)
    (subst (λ (e : EndState). Lists (forgotten c.args.link i.replicas.items) (insert i.links.open_links c.args.link e)) (sym c.shut.ensures) (shut_lists i.replicas.items i.links.open_links c.args.link c.self.invariant))
