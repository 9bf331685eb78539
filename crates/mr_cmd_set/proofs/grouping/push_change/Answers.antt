use Rattle.std.proofs.Common.{rules, ◌≡◌, ◌∙◌, [], ◌∷◌, ◌++◌, true, false, refl, sym, ap}
use Rattle.mr_cmd_set.specs.Grouping.{changes, group_effects}
use Rattle.mr_cmd_set.proofs.Pushing.{no_group, one_group}
use Rattle.mr_cmd_set.proofs.Single.{word_changes, word_stays, one_changed, none_changed}
use Rattle.mr_cmd_set.proofs.grouping.push_change.Goals as goal

-- the word changes nothing

pub returns-then-not-changes-clause-changed : goal.returns-then-not-changes-clause-changed
returns-then-not-changes-clause-changed c =
    let stays : changes c.args.write c.args.set.now c.args.member.now ≡ false = search rules in
    none_changed c.args.write c.args.set.now c.args.member.now stays

pub returns-then-not-changes-clause-effects : goal.returns-then-not-changes-clause-effects
returns-then-not-changes-clause-effects c =
    let stays : changes c.args.write c.args.set.now c.args.member.now ≡ false = search rules in
    no_group c.args.write c.args.key.now c.args.effects.now [] refl
    ∙ ap (λ ms. c.args.effects.now ++ group_effects c.args.write c.args.key.now ms) (sym (word_stays c.args.write c.args.set.now c.args.member.now stays))

-- it changes the set

pub returns-clause-changed : goal.returns-clause-changed
returns-clause-changed c =
    let moves : changes c.args.write c.args.set.now c.args.member.now ≡ true = search rules in
    one_changed c.args.write c.args.set.now c.args.member.now moves

pub returns-clause-effects : goal.returns-clause-effects
returns-clause-effects c =
    let moves : changes c.args.write c.args.set.now c.args.member.now ≡ true = search rules in
    c.in_ok-push_member.ensures
    ∙ one_group c.args.write c.args.key.now c.args.effects.now (c.args.member.now ∷ []) c.args.member.now refl
    ∙ ap (λ ms. c.args.effects.now ++ group_effects c.args.write c.args.key.now ms) (sym (word_changes c.args.write c.args.set.now c.args.member.now moves))
