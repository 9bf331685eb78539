use Rattle.std.proofs.Common.{List, sym, subst}
use Rattle.std.specs.FinMap.{FinMap}
use Rattle.mr_links.specs.LinkId.{id_cmp}
use Rattle.mr_links.specs.declared.link_id.LinkId.{LinkId}
use Rattle.mr_node_links.specs.State.{EndState}
use Rattle.mr_node_links.specs.Replicas.{Lists}
use Rattle.mr_node_links.proofs.Naming.{gone_lists, forgotten}
use Rattle.mr_node_links.proofs.ends.Ends.remove.Goals as goal

pub invariant_of-self : goal.invariant_of-self
invariant_of-self c =
    let i = c.self.inside in
    subst (λ (ns : List LinkId). Lists ns c.remove.new.self.open_links) (sym c.forget.ensures)
    (subst (λ (m : FinMap id_cmp EndState). Lists (forgotten c.args.link i.replicas.items) m) (sym c.remove.ensures.removed) (gone_lists i.replicas.items i.links.open_links c.args.link c.self.invariant))
