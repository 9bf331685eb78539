use Rattle.std.proofs.Common.{◌∙◌, sym, ap}
use Rattle.std.specs.FinMap.{contains_key, insert}
use Rattle.mr_value.proofs.SortedPairs.{made_inserted, made_replaced, not_there, sorted_inserted, sorted_replaced, there_at}
use Rattle.mr_value.proofs.few_fields.FewFields.put.Goals as goal

pub invariant_of-self-in-Ok : goal.invariant_of-self-in-Ok
invariant_of-self-in-Ok c =
    sorted_replaced c.args.field.now c.args.value.now c.self.inside.pairs c.replace_second.new.self c.in-Ok.at
    c.in-Ok.ensures.found c.in_ok-replace_second-in-Ok.ensures.ok c.self.invariant

pub invariant_of-self-in-Err : goal.invariant_of-self-in-Err
invariant_of-self-in-Err c =
    sorted_inserted c.args.field.now c.args.value.now c.self.inside.pairs c.insert.new.self c.in-Err.at
    c.in-Err.ensures.before c.in_ok-insert-in-Err.ensures.ok c.self.invariant

pub returns-in_ok-replace_second-in-Ok-clause-before : goal.returns-in_ok-replace_second-in-Ok-clause-before
returns-in_ok-replace_second-in-Ok-clause-before c =
    sym (there_at c.args.field.now c.self.inside.pairs c.in-Ok.at c.in-Ok.ensures.found)
    ∙ ap (λ m. contains_key m c.args.field.now) c.self.view_is

pub returns-in_ok-replace_second-in-Ok-clause-ok : goal.returns-in_ok-replace_second-in-Ok-clause-ok
returns-in_ok-replace_second-in-Ok-clause-ok c =
    made_replaced c.args.field.now c.args.value.now c.self.inside.pairs c.replace_second.new.self c.in-Ok.at
    c.in-Ok.ensures.found c.in_ok-replace_second-in-Ok.ensures.ok
    ∙ ap (λ m. insert m c.args.field.now c.args.value.now) c.self.view_is

pub returns-in_ok-insert-in-Err-clause-before : goal.returns-in_ok-insert-in-Err-clause-before
returns-in_ok-insert-in-Err-clause-before c =
    sym (not_there c.args.field.now c.self.inside.pairs c.in-Err.at c.in-Err.ensures.before c.self.invariant)
    ∙ ap (λ m. contains_key m c.args.field.now) c.self.view_is

pub returns-in_ok-insert-in-Err-clause-ok : goal.returns-in_ok-insert-in-Err-clause-ok
returns-in_ok-insert-in-Err-clause-ok c =
    made_inserted c.args.field.now c.args.value.now c.self.inside.pairs c.insert.new.self c.in-Err.at
    c.in-Err.ensures.before c.in_ok-insert-in-Err.ensures.ok
    ∙ ap (λ m. insert m c.args.field.now c.args.value.now) c.self.view_is
