use Rattle.std.proofs.Common.{◌≡◌, ◌∙◌, ◌++◌, ap, sym, rules}
use Rattle.std.specs.FinMap.{entries}
use Rattle.mr_keyspace.specs.Collections.{last_values}
use Rattle.mr_cmd_shared.specs.Keys.{dels, expired}
use Rattle.mr_cmd_string.specs.SettingAll.{names, set_effects}
use Rattle.mr_cmd_string.specs.Finding.{changed_at, is_any_expired}
use Rattle.mr_cmd_string.proofs.SettingAllPlans.{mset_plans, none_of_texts}
use Rattle.mr_cmd_string.proofs.setting_all.mset.Goals as goal
use Rattle.mr_cmd_string.proofs.setting_all.mset.Goals.{then-changed+in_ok-push_expired, else-changed}

pub returns : goal.returns
returns c =
    let ps = c.args.pairs.now in
    let now = c.args.given.now in
    let m = c.args.held.now in
    let texts : c.in_ok-changed.changed.texts ≡ changed_at now (entries (last_values ps)) m = search rules in
    let any : c.in_ok-changed.changed.expired ≡ is_any_expired now (entries (last_values ps)) m = search rules in
    let looked : c.if-changed.effects ≡ c.args.effects.now ++ dels (expired now (names ps) m) = elim c.if-changed.branch [
      | then-changed+in_ok-push_expired w ↦ w.effects-is ∙ w.in_ok-push_expired.ensures
      | else-changed w ↦ w.effects-is ∙ none_of_texts now m ps _ (sym any ∙ w.if-changed.false)
    ] in
    mset_plans ps now m _ _ _ _ looked c.done.ensures (c.in_ok-push_texts.ensures ∙ ap (λ xs. c.if-changed.effects ++ set_effects xs) texts)
