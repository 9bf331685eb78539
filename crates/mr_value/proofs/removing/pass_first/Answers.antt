use Rattle.std.proofs.Common.{◌∙◌, length, drop, refl, sym, ap, arith}
use Rattle.mr_value.proofs.Passing.{passes_start, passes_fit, passes_next, none_stays, none_counted, all_stay, all_counted}
use Rattle.mr_value.proofs.removing.pass_first.Goals as goal

pub loop-removed-init : goal.loop-removed-init
loop-removed-init c = passes_start c.args.items.now.items c.args.item.now c.args.most

pub overflow_sub-len : goal.overflow_sub-len
overflow_sub-len c = passes_fit c.len.result c.loop-removed.invariant (omega arith)

pub returns-in_default-clause-passed : goal.returns-in_default-clause-passed
returns-in_default-clause-passed c = passes_fit _ c.loop-removed.invariant (omega arith)

pub returns-in_default-clause-list : goal.returns-in_default-clause-list
returns-in_default-clause-list c = rw (sym c.len.ensures) (none_stays c.len.result c.loop-removed.invariant (omega arith) (sym c.place_in_front.ensures.place ∙ c.in_default.is))

pub returns-in_default-clause-removed : goal.returns-in_default-clause-removed
returns-in_default-clause-removed c = none_counted c.len.result c.loop-removed.invariant (omega arith) (sym c.place_in_front.ensures.place ∙ c.in_default.is)

pub loop-removed-preserved : goal.loop-removed-preserved
loop-removed-preserved c = passes_next c.len.result c.loop-removed.invariant (omega arith) c.in-Some.place _ c.loop-removed-test.true (sym c.place_in_front.ensures.place ∙ c.in-Some.is) (c.pop_front.ensures.rest ∙ ap (λ zs. drop 1 zs) c.rotate_left.ensures.items)

pub returns-clause-passed : goal.returns-clause-passed
returns-clause-passed c = passes_fit _ c.loop-removed.invariant (omega arith)

pub returns-clause-list : goal.returns-clause-list
returns-clause-list c = all_stay _ c.loop-removed.invariant (omega arith) (omega arith)

pub returns-clause-removed : goal.returns-clause-removed
returns-clause-removed c = all_counted (length c.loop-removed.items.items) c.loop-removed.invariant refl (omega arith)
