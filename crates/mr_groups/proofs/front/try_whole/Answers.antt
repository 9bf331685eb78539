use Rattle.std.proofs.Common.{Err, refl, subst}
use Rattle.mr_groups.specs.Folding.{AppliesGroup}
use Rattle.mr_groups.specs.declared.applying.GroupFault.{GroupFault}
use Rattle.mr_groups.proofs.front.try_whole.Goals as goal

pub returns-in-Err-Torn : goal.returns-in-Err-Torn
returns-in-Err-Torn c =
    let es = c.args.effects.items in
    let old = c.args.dataset.now in
    let new = c.apply_group_owned.new.dataset in
    (refl, subst (λ (f : GroupFault). AppliesGroup es old (Err f) new) c.in-Err-Torn.field-0-is c.in-Err-Torn.ensures)
