use Rattle.std.proofs.Common.{◌≡◌, ◌∙◌, ◌++◌, ap, sym, rules}
use Rattle.std.specs.FinMap.{entries}
use Rattle.mr_keyspace.specs.Collections.{last_values}
use Rattle.mr_cmd_shared.specs.Keys.{dels, expired}
use Rattle.mr_cmd_string.specs.SettingAll.{names, set_effects}
use Rattle.mr_cmd_string.proofs.SettingAllPlans.{some_there, none_there, none_of_pairs}
use Rattle.mr_cmd_string.proofs.setting_all.msetnx.Goals as goal
use Rattle.mr_cmd_string.proofs.setting_all.msetnx.Goals.{then-expired+in_ok-push_expired, else-expired}

pub returns-then-there : goal.returns-then-there
returns-then-there c =
    let ps = c.args.pairs.now in
    let now = c.args.given.now in
    let m = c.args.held.now in
    let looked : c.if-expired.effects ≡ c.args.effects.now ++ dels (expired now (names ps) m) = elim c.if-expired.branch [
      | then-expired+in_ok-push_expired w ↦ w.effects-is ∙ w.in_ok-push_expired.ensures
      | else-expired w ↦ w.effects-is ∙ none_of_pairs now m ps _ (sym c.find_any-there.ensures.expired ∙ w.if-expired.false)
    ] in
    some_there ps now m _ _ _ looked (sym c.find_any-there.ensures.there ∙ c.if-there.true) c.count.ensures

pub returns : goal.returns
returns c =
    let ps = c.args.pairs.now in
    let now = c.args.given.now in
    let m = c.args.held.now in
    let looked : c.if-expired.effects ≡ c.args.effects.now ++ dels (expired now (names ps) m) = elim c.if-expired.branch [
      | then-expired+in_ok-push_expired w ↦ w.effects-is ∙ w.in_ok-push_expired.ensures
      | else-expired w ↦ w.effects-is ∙ none_of_pairs now m ps _ (sym c.find_any-there.ensures.expired ∙ w.if-expired.false)
    ] in
    let texts : c.in_ok-texts.texts ≡ entries (last_values ps) = search rules in
    none_there ps now m _ _ _ looked _ (sym c.find_any-there.ensures.there ∙ c.if-there.false) c.count-2.ensures (c.in_ok-push_texts.ensures ∙ ap (λ xs. c.if-expired.effects ++ set_effects xs) texts)
