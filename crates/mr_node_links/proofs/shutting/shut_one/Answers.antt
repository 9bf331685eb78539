use Rattle.std.proofs.Common.{◌≡◌, ◌∷◌, [], Some, sym, subst, rules}
use Rattle.std.specs.FinMap.{get, insert}
use Rattle.mr_node_links.specs.State.{EndState}
use Rattle.mr_node_links.specs.Replicas.{ShutsNamed}
use Rattle.mr_node_links.proofs.Naming.{one_shut}
use Rattle.mr_node_links.proofs.shutting.shut_one.Goals as goal

pub returns-clause-ends : goal.returns-clause-ends
returns-clause-ends c =
    let m = c.args.links.now.open_links in
    let found : get m c.args.name ≡ Some c.in-Some.end.now = search rules in
    subst (λ (e : EndState). ShutsNamed m (c.args.name ∷ []) (insert m c.args.name e)) (sym c.shut.ensures) (one_shut m c.args.name c.in-Some.end.now found)
