use Rattle.std.proofs.Common.{◌≡◌, ◌∙◌, ◌<◌, ◌-◌, ◌++◌, length, drop, take, reverse, refl, sym, ap, arith}
use Rattle.std.proofs.lemmas.List.{length-reverse}
use Rattle.mr_value.proofs.Removals.{count_of-reverse}
use Rattle.mr_value.proofs.Passing.{passes_start, passes_fit, passes_next, none_stays, none_counted, all_stay, all_counted, back_goes, from_back}
use Rattle.mr_value.proofs.removing.pass_last.Goals as goal

pub loop-removed-init : goal.loop-removed-init
loop-removed-init c = passes_start (reverse c.args.items.now.items) c.args.item.now c.args.most

pub overflow_sub-len : goal.overflow_sub-len
overflow_sub-len c = passes_fit c.len.result c.loop-removed.invariant (omega (arith, length-reverse c.loop-removed.items.items))

pub returns-in_default-clause-passed : goal.returns-in_default-clause-passed
returns-in_default-clause-passed c = passes_fit _ c.loop-removed.invariant (omega (arith, length-reverse c.loop-removed.items.items))

pub returns-in_default-clause-list : goal.returns-in_default-clause-list
returns-in_default-clause-list c =
    let size : c.len.result ≡ length (reverse c.loop-removed.items.items) = omega (arith, length-reverse c.loop-removed.items.items) in
    from_back c.loop-removed.items.items c.args.items.now.items c.args.item.now c.len.result c.loop-removed.passed c.args.most (omega arith) (passes_fit c.len.result c.loop-removed.invariant size) (none_stays c.len.result c.loop-removed.invariant size (sym c.place_from_back.ensures.place ∙ c.in_default.is))

pub returns-in_default-clause-removed : goal.returns-in_default-clause-removed
returns-in_default-clause-removed c =
    let size : c.len.result ≡ length (reverse c.loop-removed.items.items) = omega (arith, length-reverse c.loop-removed.items.items) in
    let counted = none_counted c.len.result c.loop-removed.invariant size (sym c.place_from_back.ensures.place ∙ c.in_default.is) in
    omega (arith, counted, count_of-reverse c.args.item.now c.args.items.now.items)

pub loop-removed-preserved : goal.loop-removed-preserved
loop-removed-preserved c =
    let size : c.len.result ≡ length (reverse c.loop-removed.items.items) = omega (arith, length-reverse c.loop-removed.items.items) in
    let here : c.in-Some.behind < c.len.result = omega (arith, c.in-Some.ensures.within) in
    passes_next c.len.result c.loop-removed.invariant size c.in-Some.behind _ c.loop-removed-test.true (sym c.place_from_back.ensures.place ∙ c.in-Some.is)
    (back_goes c.loop-removed.items.items c.rotate_right.new.self.items _ c.len.result c.in-Some.behind _ (omega arith) here (c.rotate_right.ensures.items ∙ ap (λ n. drop (n - c.in-Some.behind) c.loop-removed.items.items ++ take (n - c.in-Some.behind) c.loop-removed.items.items) (sym c.len.ensures)) (omega arith) c.pop_back.ensures.rest)

pub returns-clause-passed : goal.returns-clause-passed
returns-clause-passed c = passes_fit _ c.loop-removed.invariant (omega (arith, length-reverse c.loop-removed.items.items))

pub returns-clause-list : goal.returns-clause-list
returns-clause-list c =
    let n = length (reverse c.loop-removed.items.items) in
    from_back c.loop-removed.items.items c.args.items.now.items c.args.item.now n c.loop-removed.passed c.args.most (length-reverse c.loop-removed.items.items) (passes_fit n c.loop-removed.invariant refl) (all_stay n c.loop-removed.invariant refl (omega arith))

pub returns-clause-removed : goal.returns-clause-removed
returns-clause-removed c =
    let n = length (reverse c.loop-removed.items.items) in
    let counted = all_counted n c.loop-removed.invariant refl (omega arith) in
    omega (arith, counted, count_of-reverse c.args.item.now c.args.items.now.items)
