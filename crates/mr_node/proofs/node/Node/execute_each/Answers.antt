use Rattle.std.proofs.Common.{◌≡◌, ◌+◌, ◌++◌, ◌∷◌, [], ◌≤◌, ◌<◌, List, ℕ, ap, arith, drop, length, map, rules, subst, sym, take, ◌∙◌}
use Rattle.std.proofs.lemmas.List.{length-map, take_more}
use Rattle.mr_node_links.specs.State.{CanWait}
use Rattle.mr_node.specs.Executing.{DidAll}
use Rattle.mr_node.proofs.Executing.{count_fits, did_more, did_none, gives_up, listed_at, split_at}
use Rattle.mr_node.proofs.node.Node.execute_each.Goals as goal

pub loop-request-init : goal.loop-request-init
loop-request-init c =
    let within : c.args.self.now.core.lineage.stream.offset ≤ 4611686018427387904 = search rules in
    did_none c.args.self.now c.args.given c.args.outs.now c.requires.grown c.requires.appended within

pub execute_one-requires-clause-request : goal.execute_one-requires-clause-request
execute_one-requires-clause-request c =
    let rs = c.args.requests.now in let i = c.loop-request.request-index in let item = c.request-item.result in
    let within : i < length rs = c.loop-request-test.true in
    let inside : i < length (map (λ r. r.items) rs) = omega (arith, within, length-map rs (λ r. r.items)) in
    subst CanWait (listed_at rs i item c.as_slice.result.now within c.request-item.is c.as_slice.ensures.value) (c.requires.requests i item.items inside)

pub execute_one-requires-clause-same : goal.execute_one-requires-clause-same
execute_one-requires-clause-same c = c.loop-request.invariant.are_done.appended ∙ sym c.loop-request.invariant.are_done.grown

pub overflow_add-count : goal.overflow_add-count
overflow_add-count c =
    let rs = c.args.requests.now in let i = c.loop-request.request-index in let item = c.request-item.result in
    let d = c.loop-request.invariant in
    let within : i < length rs = c.loop-request-test.true in
    let inside : i < length (map (λ r. r.items) rs) = omega (arith, within, length-map rs (λ r. r.items)) in
    let can = subst CanWait (listed_at rs i item c.as_slice.result.now within c.request-item.is c.as_slice.ensures.value) (c.requires.requests i item.items inside) in
    let one = c.in-Ok.ensures c.args.self.now can.0 d.effects d.held can.1 d.are_done d.counted in
    let few : c.loop-request.count + c.in-Ok.more ≤ 4611686018427387904 =
    count_fits c.args.self.now c.args.given c.args.outs.now (take i (map (λ r. r.items) rs)) can.0 c.loop-request.count c.in-Ok.more c.loop-request.self c.execute_one.new.self c.loop-request.outs c.execute_one.new.outs d one in
    search rules

pub returns-in-Err : goal.returns-in-Err
returns-in-Err c =
    let rs = c.args.requests.now in let i = c.loop-request.request-index in let item = c.request-item.result in
    let d = c.loop-request.invariant in
    let within : i < length rs = c.loop-request-test.true in
    let inside : i < length (map (λ r. r.items) rs) = omega (arith, within, length-map rs (λ r. r.items)) in
    let at = listed_at rs i item c.as_slice.result.now within c.request-item.is c.as_slice.ensures.value in
    let can = subst CanWait at (c.requires.requests i item.items inside) in
    let one = c.in-Err.ensures c.args.self.now can.0 d.effects d.held can.1 d.are_done d.counted in
    gives_up c.args.self.now c.args.given c.args.outs.now (take i (map (λ r. r.items) rs)) (drop (i + 1) (map (λ r. r.items) rs)) (map (λ r. r.items) rs) c.as_slice.result.now can.0 c.loop-request.count c.in-Err.fault c.give_up.result
    c.loop-request.self c.execute_one.new.self c.give_up.new.self c.loop-request.outs c.execute_one.new.outs c.execute_one.new.outs (split_at (map (λ r. r.items) rs) i item.items c.as_slice.result.now inside at) can.1 d one c.give_up.ensures

pub loop-request-preserved : goal.loop-request-preserved
loop-request-preserved c =
    let rs = c.args.requests.now in let i = c.loop-request.request-index in let item = c.request-item.result in
    let d = c.loop-request.invariant in
    let within : i < length rs = c.loop-request-test.true in
    let inside : i < length (map (λ r. r.items) rs) = omega (arith, within, length-map rs (λ r. r.items)) in
    let at = listed_at rs i item c.as_slice.result.now within c.request-item.is c.as_slice.ensures.value in
    let can = subst CanWait at (c.requires.requests i item.items inside) in
    let one = c.in-Ok.ensures c.args.self.now can.0 d.effects d.held can.1 d.are_done d.counted in
    let front = take i (map (λ r. r.items) rs) in
    let on : front ++ c.as_slice.result.now ∷ [] ≡ take (i + 1) (map (λ r. r.items) rs) = ap (λ (z : List ℕ). front ++ z ∷ []) (sym at) ∙ sym (take_more (map (λ r. r.items) rs) i item.items inside) in
    subst (λ (z : List (List ℕ)). DidAll c.args.self.now c.args.given z c.args.outs.now (c.loop-request.count + c.in-Ok.more) c.execute_one.new.self c.execute_one.new.outs) on
    (did_more c.args.self.now c.args.given c.args.outs.now front c.as_slice.result.now can.0 c.loop-request.count c.in-Ok.more c.loop-request.self c.execute_one.new.self c.loop-request.outs c.execute_one.new.outs d can.1 one)
