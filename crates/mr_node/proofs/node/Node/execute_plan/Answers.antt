use Rattle.std.proofs.Common.{◌≡◌, ◌+◌, ◌-◌, ◌<◌, ◌≤◌, ◌++◌, ap, arith, length, rules, subst, sym, ◌∙◌}
use Rattle.std.proofs.lemmas.List.{length-append}
use Rattle.mr_resp.specs.Replies.{Tree, reply_text}
use Rattle.mr_resp.specs.ReplyView.{view}
use Rattle.mr_effect.specs.Spelling.{texts}
use Rattle.mr_groups.specs.Groups.{frame_for}
use Rattle.mr_node_output.specs.Outs.{OutsState}
use Rattle.mr_commands.specs.Transactions.{past_limit}
use Rattle.mr_node_spec.specs.State.{NodeState}
use Rattle.mr_node_state.specs.Parts.{Holds, Leads, Spends}
use Rattle.mr_node.specs.Executing.{SaysOnly}
use Rattle.mr_node.proofs.Executing.{behind_length, did_some, have_no_room, have_room, passing, plain_reply, says_so, spent_by}
use Rattle.mr_node.proofs.Results.{is_no_ok, on_err_is, on_ok_is}
use Rattle.mr_node_state.proofs.Changes.{none_there}
use Rattle.mr_node.proofs.node.Node.execute_plan.Goals as goal

pub returns-then-count-eq0 : goal.returns-then-count-eq0
returns-then-count-eq0 c = λ a given words before m plain plan d is.
    let es = c.args.plan.effects.items in
    let none : length es ≡ 0 = search rules in
    says_so a given words before m c.args.self.now c.args.outs.now d (view c.args.plan.reply) c.say_only.result c.say_only.new.outs
    (plain_reply a given words before m c.args.self.now c.args.outs.now d (view c.args.plan.reply) es (none_there es none) plain plan) c.say_only.ensures

pub returns-then-room-frame : goal.returns-then-room-frame
returns-then-room-frame c = λ a given words before m plain plan d is.
    let es = c.args.plan.effects.items in
    let frame = c.frame_round-frame.result in
    let some : 0 < c.len-count.result = search rules in
    let many : c.len-count.result ≡ length es = search rules in
    let framed : frame ≡ frame_for (length (before ++ es)) =
    c.frame_round-frame.ensures some ∙ ap frame_for (let e : c.args.before + c.len-count.result ≡ length (before ++ es) = omega (arith, is, many, length-append before es) in e) in
    let here : c.end-room.result ≡ c.args.self.now.core.lineage.stream.offset = search rules in
    let offset : c.end-room.result ≡ a.core.lineage.stream.offset = here ∙ ap (λ (s : NodeState). s.core.lineage.stream.offset) d.node in
    let less : 4611686018427387904 - c.end-room.result < frame = search rules in
    says_so a given words before m c.args.self.now c.args.outs.now d past_limit c.say_only-then-room-frame.result c.say_only-then-room-frame.new.outs
    (passing a given words before m c.args.self.now c.args.outs.now d (view c.args.plan.reply) es plain plan (have_no_room a before es frame framed (omega (arith, offset, less))))
    (subst (λ (r : Tree). SaysOnly r c.args.outs.now c.say_only-then-room-frame.result c.say_only-then-room-frame.new.outs) c.past_the_limit.ensures c.say_only-then-room-frame.ensures)

pub apply-requires : goal.apply-requires
apply-requires c = record { leads = subst (λ (s : NodeState). Leads c.args.plan.effects.items s.core.held) (sym c.self.view_is) c.requires.leads }

pub returns-in-Ok-false : goal.returns-in-Ok-false
returns-in-Ok-false c = λ a given words before m plain plan d is.
    let es = c.args.plan.effects.items in
    let frame = c.frame_round-frame.result in
    let some : 0 < c.len-count.result = search rules in
    let many : c.len-count.result ≡ length es = search rules in
    let framed : frame ≡ frame_for (length (before ++ es)) =
    c.frame_round-frame.ensures some ∙ ap frame_for (let e : c.args.before + c.len-count.result ≡ length (before ++ es) = omega (arith, is, many, length-append before es) in e) in
    let here : c.end-room.result ≡ c.args.self.now.core.lineage.stream.offset = search rules in
    let offset : c.end-room.result ≡ a.core.lineage.stream.offset = here ∙ ap (λ (s : NodeState). s.core.lineage.stream.offset) d.node in
    let window : c.end-room.result ≤ 4611686018427387904 = search rules in
    let room : frame ≤ 4611686018427387904 - c.end-room.result = search rules in
    let put : length c.args.outs.now.grown ≡ 29 + length (texts before) = ap length d.grown ∙ behind_length before in
    let over : ((4611686018427387904 - c.end-room.result) - frame) + 29 < length c.args.outs.now.grown + length (texts es) = search rules in
    let stays : c.grow_on.new.self ≡ c.args.outs.now = search rules in
    says_so a given words before m c.args.self.now c.args.outs.now d past_limit c.say_only-in-Ok-false.result c.say_only-in-Ok-false.new.outs
    (passing a given words before m c.args.self.now c.args.outs.now d (view c.args.plan.reply) es plain plan (have_no_room a before es frame framed (omega (arith, offset, window, room, put, over))))
    (subst (λ (o : OutsState). SaysOnly past_limit o c.say_only-in-Ok-false.result c.say_only-in-Ok-false.new.outs) stays
    (subst (λ (r : Tree). SaysOnly r c.grow_on.new.self c.say_only-in-Ok-false.result c.say_only-in-Ok-false.new.outs) c.past_the_limit-in-Ok-false.ensures c.say_only-in-Ok-false.ensures))

pub returns-then-is_err-2 : goal.returns-then-is_err-2
returns-then-is_err-2 c = λ a given words before m plain plan d is.
    let es = c.args.plan.effects.items in
    let frame = c.frame_round-frame.result in
    let some : 0 < c.len-count.result = search rules in
    let many : c.len-count.result ≡ length es = search rules in
    let framed : frame ≡ frame_for (length (before ++ es)) =
    c.frame_round-frame.ensures some ∙ ap frame_for (let e : c.args.before + c.len-count.result ≡ length (before ++ es) = omega (arith, is, many, length-append before es) in e) in
    let here : c.end-room.result ≡ c.args.self.now.core.lineage.stream.offset = search rules in
    let offset : c.end-room.result ≡ a.core.lineage.stream.offset = here ∙ ap (λ (s : NodeState). s.core.lineage.stream.offset) d.node in
    let window : c.end-room.result ≤ 4611686018427387904 = search rules in
    let room : frame ≤ 4611686018427387904 - c.end-room.result = search rules in
    let put : length c.args.outs.now.grown ≡ 29 + length (texts before) = ap length d.grown ∙ behind_length before in
    let within : length c.args.outs.now.grown + length (texts es) ≤ ((4611686018427387904 - c.end-room.result) - frame) + 29 = search rules in
    let spends : Spends c.self.inside.state es c.apply.new.self = on_err_is c.apply.result _ (sym c.is_err-2.ensures.value ∙ c.if-is_err-2.true) c.apply.ensures.spent in
    spent_by a given words before m c.args.self.now c.args.outs.now d (view c.args.plan.reply) es plain plan (have_room a before es frame framed (omega (arith, offset, window, room, put, within))) c.apply.new.self
    (λ light. is_no_ok c.apply.result (sym c.is_err-2.ensures.value ∙ c.if-is_err-2.true) (c.apply.ensures.light light))
    (subst (λ (s : NodeState). Spends s es c.apply.new.self) c.self.view_is spends)

pub returns : goal.returns
returns c = λ a given words before m plain plan d is.
    let es = c.args.plan.effects.items in
    let frame = c.frame_round-frame.result in
    let some : 0 < c.len-count.result = search rules in
    let many : c.len-count.result ≡ length es = search rules in
    let framed : frame ≡ frame_for (length (before ++ es)) =
    c.frame_round-frame.ensures some ∙ ap frame_for (let e : c.args.before + c.len-count.result ≡ length (before ++ es) = omega (arith, is, many, length-append before es) in e) in
    let here : c.end-room.result ≡ c.args.self.now.core.lineage.stream.offset = search rules in
    let offset : c.end-room.result ≡ a.core.lineage.stream.offset = here ∙ ap (λ (s : NodeState). s.core.lineage.stream.offset) d.node in
    let window : c.end-room.result ≤ 4611686018427387904 = search rules in
    let room : frame ≤ 4611686018427387904 - c.end-room.result = search rules in
    let put : length c.args.outs.now.grown ≡ 29 + length (texts before) = ap length d.grown ∙ behind_length before in
    let within : length c.args.outs.now.grown + length (texts es) ≤ ((4611686018427387904 - c.end-room.result) - frame) + 29 = search rules in
    let grows : c.grow_on.new.self ≡ record c.args.outs.now { grown = c.args.outs.now.grown ++ texts es; appended = c.args.outs.now.appended ++ texts es } = search rules in
    let says : c.say.new.self ≡ record c.grow_on.new.self { reply = c.grow_on.new.self.reply ++ reply_text (view c.args.plan.reply) } = on_ok_is c.say.result _ (sym c.is_err.ensures.value ∙ c.if-is_err.false) c.say.ensures in
    let holds : Holds c.self.inside.state es c.apply.new.self = on_ok_is c.apply.result _ (sym c.is_err-2.ensures.value ∙ c.if-is_err-2.false) c.apply.ensures.ok in
    did_some a given words before m c.args.self.now c.args.outs.now d (view c.args.plan.reply) es plain plan (have_room a before es frame framed (omega (arith, offset, window, room, put, within))) c.len-count.result c.apply.new.self c.grow_on.new.self c.say.new.self many grows says
    (subst (λ (s : NodeState). Holds s es c.apply.new.self) c.self.view_is holds)
