use Rattle.std.proofs.Common.{List, ℕ, drop, sym, subst, arith}
use Rattle.std.proofs.lemmas.List.{length-drop}
use Rattle.mr_node_links.specs.Progresses.{Fits}
use Rattle.mr_node_links.proofs.Progressing.{fresh_along}
use Rattle.mr_node_links.proofs.end.LinkEnd.take.Goals as goal

pub invariant_of-self : goal.invariant_of-self
invariant_of-self c =
    let u = c.self.inside.unread in
    let p = c.new-self-inside.result in
    subst (λ (z : List ℕ). Fits z p) (sym c.take.ensures) (record {
      few = omega (arith, c.self.invariant.few, length-drop c.args.count u);
      agrees = fresh_along p (drop c.args.count u) c.new-self-inside.ensures;
    })
