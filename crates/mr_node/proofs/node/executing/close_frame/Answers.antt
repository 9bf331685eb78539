use Rattle.std.proofs.Common.{rules, ◌≡◌, ◌<◌, ◌++◌, ◌∙◌, [], ap, arith, drop, length, take}
use Rattle.mr_groups.proofs.Lengths.{exec_length}
use Rattle.mr_node_output.specs.Outs.{OutsState}
use Rattle.mr_node.proofs.Executing.{behind_length, closes_none, closes_one, closes_several}
use Rattle.mr_node.proofs.node.executing.close_frame.Goals as goal

pub turn_front-requires-clause-few : goal.turn_front-requires-clause-few
turn_front-requires-clause-few c =
    let size : length c.exec_text.result.now ≡ 14 = ap length c.exec_text.ensures ∙ exec_length in
    omega (arith, size, ap length c.requires.1.grown, behind_length c.requires.0)

pub drop_front-requires-clause-few : goal.drop_front-requires-clause-few
drop_front-requires-clause-few c = omega (arith, ap length c.requires.1.grown, behind_length c.requires.0)

pub returns-then-count-gt1 : goal.returns-then-count-gt1
returns-then-count-gt1 c = λ effects d.
    let several : 1 < c.args.count = search rules in
    let size : length c.exec_text.result.now ≡ 14 = ap length c.exec_text.ensures ∙ exec_length in
    closes_several effects c.args.count c.args.outs.now c.turn_front.new.self d several
    (c.turn_front.ensures ∙ ap (λ n. record c.args.outs.now { grown = drop n c.args.outs.now.grown ++ take n c.args.outs.now.grown; appended = drop n c.args.outs.now.grown ++ take n c.args.outs.now.grown }) size)

pub returns-then-count-eq1 : goal.returns-then-count-eq1
returns-then-count-eq1 c = λ effects d.
    let one : c.args.count ≡ 1 = search rules in
    closes_one effects c.args.count c.args.outs.now c.drop_front.new.self d one c.drop_front.ensures

pub returns : goal.returns
returns c = λ effects d.
    let none : c.args.count ≡ 0 = search rules in
    closes_none effects c.args.count c.args.outs.now c.feed_nobody.new.self d none (c.feed_nobody.ensures ∙ ap (λ (o : OutsState). record o { fed = [] }) c.drop_front.ensures)
