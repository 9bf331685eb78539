use Rattle.std.proofs.Common.{◌≡◌, None, subst, sym, ap, ◌∙◌}
use Rattle.std.specs.FinMap.{get, get-empty}
use Rattle.mr_links.specs.declared.link_id.LinkId.{LinkId}
use Rattle.mr_node_links.specs.State.{end_at, streams}
use Rattle.mr_node_spec.specs.State.{FollowedAt}
use Rattle.mr_node_state.proofs.state.State.new.Goals as goal

pub invariant_of-result : goal.invariant_of-result
invariant_of-result c =
    let none : (x : LinkId) → end_at c.new.result x ≡ None = λ x. ap (λ m. get m x) c.new.ensures.none ∙ get-empty _ x in
    record {
      followed = subst (FollowedAt c.new.result) (sym c.requires) tt;
      only = λ x is. let was = none x in cc;
      sends = λ x is. let was = sym (ap streams (none x)) ∙ is in cc;
      nobody = λ h. c.requires;
    }
