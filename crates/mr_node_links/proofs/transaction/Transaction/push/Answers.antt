use Rattle.std.proofs.Common.{◌≡◌, ◌∷◌, ◌++◌, [], List, ℕ, All, map, ap, sym, subst, ◌∙◌, rules}
use Rattle.mr_node_links.specs.State.{CanWait}
use Rattle.mr_node_links.proofs.Waiting.{all_more}
use Rattle.mr_node_links.proofs.transaction.Transaction.push.Goals as goal

pub invariant_of-self : goal.invariant_of-self
invariant_of-self c =
    let kept : c.push.new.self.items ≡ c.self.inside.requests.items = search rules in
    subst (λ xs. All CanWait (map (λ r. r.items) xs)) (sym kept) c.self.invariant

pub invariant_of-self-2 : goal.invariant_of-self-2
invariant_of-self-2 c =
    let request = c.extend_from_slice.new.self in
    let put : c.push.new.self.items ≡ c.self.inside.requests.items ++ request ∷ [] = search rules in
    let whole : request.items ≡ c.args.text.now = search rules in
    all_more CanWait (λ r. r.items) c.self.inside.requests.items c.push.new.self.items request put c.self.invariant (subst CanWait (sym whole) c.requires)
