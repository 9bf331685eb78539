use Rattle.mr_cmd_shared.proofs.PlanLemmas.{if_ok}
use Rattle.mr_cmd_key.specs.Renaming.{renamed}
use Rattle.mr_cmd_key.proofs.Renamings.{both_plans, gives_renamed}
use Rattle.mr_cmd_key.proofs.renaming.rename.Goals as goal

pub returns : goal.returns
returns c =
    let from = c.args.from.now in
    let to = c.args.to.now in
    if_ok c.carry.result (λ r gives. both_plans c.args.given.now from to c.args.held.now (renamed from to) _ _ _ _ _ _
    c.in_ok-source.ensures.source c.in_ok-source.ensures.target c.in_ok-source.ensures.expired
    (λ n source target. gives_renamed from to n _ _ _ _ _ source c.done.ensures (gives n))) c.carry.ensures
