use Rattle.mr_cmd_shared.proofs.PlanLemmas.{if_ok}
use Rattle.mr_cmd_key.specs.Renaming.{renamed_nx}
use Rattle.mr_cmd_key.proofs.Renamings.{both_plans}
use Rattle.mr_cmd_key.proofs.renaming.renamenx.Goals as goal

pub returns : goal.returns
returns c =
    let from = c.args.from.now in
    let to = c.args.to.now in
    if_ok c.carry_new.result (λ r gives. both_plans c.args.given.now from to c.args.held.now (renamed_nx from to) _ _ _ _ _ _
    c.in_ok-source.ensures.source c.in_ok-source.ensures.target c.in_ok-source.ensures.expired gives) c.carry_new.ensures
