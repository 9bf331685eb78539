use Rattle.std.proofs.Common.{◌≡◌, ◌∷◌, ◌++◌, [], Some, false, sym, ap, subst, ◌∙◌, rules, drop}
use Rattle.std.specs.FinMap.{get, insert}
use Rattle.mr_links.specs.Links.{Links}
use Rattle.mr_node_links.specs.State.{EndState, streams}
use Rattle.mr_node_links.specs.Replicas.{Lists}
use Rattle.mr_node_links.specs.State.EndState.{replica}
use Rattle.mr_node_links.proofs.Naming.{turned_lists}
use Rattle.mr_node_links.proofs.ends.Ends.turn.Goals as goal

pub invariant_of-self-2 : goal.invariant_of-self-2
invariant_of-self-2 c =
    let i = c.self.inside in
    let put : c.push.new.self.items ≡ i.replicas.items ++ c.args.link ∷ [] = search rules in
    let turned : c.turn.new.self ≡ replica (drop c.args.count c.requires.unread) = search rules in
    let new : streams (get i.links.open_links c.args.link) ≡ false = ap (λ (z : Links EndState). streams (get z.open_links c.args.link)) c.self.view_is ∙ ap streams c.requires.found in
    subst (λ ns. Lists ns (insert i.links.open_links c.args.link c.turn.new.self)) (sym put)
    (turned_lists i.replicas.items i.links.open_links c.args.link c.turn.new.self c.self.invariant new (ap (λ (e : EndState). streams (Some e)) turned))
