use Rattle.std.proofs.Common.{refl, sym, ◌∙◌, ap}
use Rattle.mr_node_output.specs.Outs.{OutsState, no_outs}
use Rattle.mr_node.proofs.Ticking.{all_there, begin, fills, fitting_of, grows, no_key, unchanged}
use Rattle.mr_node.proofs.node.ticking.put_deletions.Goals as goal

pub loop-due-init : goal.loop-due-init
loop-due-init c = (
  begin c.args.room c.args.dues.items c.into_iter-due-iterator.result.rest.items c.new-effects.result.items c.requires.words c.into_iter-due-iterator.ensures.into_iter_gives.0 c.new-effects.ensures.items,
  c.requires.outs ∙ unchanged no_outs c.new-effects.result.items refl refl c.new-effects.ensures.items,
)

pub tell-requires : goal.tell-requires
tell-requires c = ap (λ (o : OutsState). o.appended) c.loop-due.invariant.1 ∙ sym (ap (λ (o : OutsState). o.grown) c.loop-due.invariant.1)

pub returns-then-not-branch : goal.returns-then-not-branch
returns-then-not-branch c =
    fills c.in-Some.due c.next.new.self.rest.items c.loop-due.outs c.tell.new.outs c.in_ok-tell.field-0 c.loop-due.invariant.0 c.in-Some.ensures.steps.0 c.loop-due.invariant.1 c.in_ok-tell.ensures.fits c.if-not-branch.true c.in_ok-tell.ensures.outs

pub loop-due-preserved : goal.loop-due-preserved
loop-due-preserved c =
    grows c.in-Some.due c.next.new.self.rest.items no_outs c.loop-due.outs c.tell.new.outs c.in_ok-tell.field-0 c.in_ok-deletion.field-0 c.push.new.self.items c.loop-due.invariant.0 c.in-Some.ensures.steps.0
    c.loop-due.invariant.1 c.in_ok-tell.ensures.fits c.if-not-branch.false c.in_ok-tell.ensures.outs c.in_ok-deletion.ensures c.in_ok-push.ensures.items

pub returns : goal.returns
returns c =
    fitting_of c.loop-due.outs c.loop-due.invariant.0
    (all_there c.loop-due.invariant.0 (no_key c.loop-due.due-iterator.rest.items c.loop-due.due-iterator.rest.len (sym c.loop-due.due-iterator.rest.ok.0) c.in-None.ensures.steps.0)) c.loop-due.invariant.1
