-- What calls on links do to a node's file: nothing.
use Rattle.std.proofs.Common.{[], None, refl, ap}
use Rattle.mr_node_output.specs.Outs.{OutsState}
use Rattle.mr_node_spec.specs.State.{NodeState}
use Rattle.law_files.specs.Steps.{OpensKeep, DialsKeep, FeedsKeep, BreaksKeep}
use Rattle.law_files.proofs.Filing.{core_kept}

pub opens_keep : OpensKeep
opens_keep a b l s = core_kept a.core b.core [] None (ap (λ (z : NodeState). z.core) s.node) refl refl

pub dials_keep : DialsKeep
dials_keep a b l outs s =
    core_kept a.core b.core outs.appended outs.replaced (ap (λ (z : NodeState). z.core) s.node) (ap (λ (o : OutsState). o.appended) s.outs_are) (ap (λ (o : OutsState). o.replaced) s.outs_are)

pub feeds_keep : FeedsKeep
feeds_keep a b l bytes s = core_kept a.core b.core [] None s.core refl refl

pub breaks_keep : BreaksKeep
breaks_keep a l = core_kept a.core a.core [] None refl refl refl
