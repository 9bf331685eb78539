use Rattle.std.proofs.Common.{rules, ◌≡◌, ◌&&◌, true, Some, None, Err, subst}
use Rattle.std.specs.Prelude.{OnOk, ◌↔◌}
use Rattle.mr_effect.specs.Effects.{has_spelling, words_fit}
use Rattle.mr_data.specs.Meaning.{apply}
use Rattle.mr_keyspace.specs.declared.fault.ApplyFault.TheVariants.{Refused}
use Rattle.mr_data.proofs.Answering.{is_ok, is_refused, is_unchanged, is_dataset}
use Rattle.mr_data.proofs.dataset.Dataset.apply_owned.Goals as goal

pub invariant_of-self : goal.invariant_of-self
invariant_of-self c =
    let e = c.args.effect in
    let possible : has_spelling e && words_fit e ≡ true = search rules in
    is_dataset e c.self.inside.entries c.take-outcome.result c.take-outcome.new.self possible c.take-outcome.ensures.applies c.settle.new.self c.settle.ensures.spent c.settle.ensures.kept c.self.invariant

pub returns-clause-ok : goal.returns-clause-ok
returns-clause-ok c =
    let e = c.args.effect in
    let possible : has_spelling e && words_fit e ≡ true = search rules in
    subst (λ m. OnOk c.take-outcome.result (apply e m ≡ Some c.settle.new.self)) c.self.view_is
    (is_ok e c.self.inside.entries c.take-outcome.result c.take-outcome.new.self possible c.take-outcome.ensures.applies c.settle.new.self c.settle.ensures.spent c.settle.ensures.kept)

pub returns-clause-refused : goal.returns-clause-refused
returns-clause-refused c =
    let e = c.args.effect in
    let possible : has_spelling e && words_fit e ≡ true = search rules in
    subst (λ m. (c.take-outcome.result ≡ Err Refused) ↔ (apply e m ≡ None)) c.self.view_is
    (is_refused e c.self.inside.entries c.take-outcome.result c.take-outcome.new.self possible c.take-outcome.ensures.applies c.settle.new.self c.settle.ensures.spent c.settle.ensures.kept)

pub returns-clause-unchanged : goal.returns-clause-unchanged
returns-clause-unchanged c =
    let e = c.args.effect in
    let possible : has_spelling e && words_fit e ≡ true = search rules in
    subst (λ m. c.take-outcome.result ≡ Err Refused → c.settle.new.self ≡ m) c.self.view_is
    (is_unchanged e c.self.inside.entries c.take-outcome.result c.take-outcome.new.self possible c.take-outcome.ensures.applies c.settle.new.self c.settle.ensures.spent c.settle.ensures.kept)

pub returns-clause-emptied : goal.returns-clause-emptied
returns-clause-emptied c = c.settle.ensures.spent
