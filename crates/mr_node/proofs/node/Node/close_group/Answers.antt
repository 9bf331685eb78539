use Rattle.std.proofs.Common.{◌≡◌, ◌∙◌, List, ℕ, ap, arith, length, subst, sym}
use Rattle.mr_groups.specs.Groups.{grown_text}
use Rattle.mr_node_output.specs.Outs.{OutsState}
use Rattle.mr_node_spec.specs.State.{NodeState}
use Rattle.mr_node_state.specs.Parts.{streams_on}
use Rattle.mr_node.specs.Executing.{ClosesFrame}
use Rattle.mr_node.proofs.node.Node.close_group.Goals as goal

pub close_frame-requires : goal.close_frame-requires
close_frame-requires c = (c.requires.effects, record { counted = c.requires.counted; grown = c.requires.are_done.grown; appended = c.requires.are_done.appended })

pub grow-requires-clause-master : goal.grow-requires-clause-master
grow-requires-clause-master c = λ some.
    let r = c.requires in
    let f : ClosesFrame r.effects c.args.outs.now c.close_frame.new.outs = c.close_frame.ensures r.effects (record { counted = r.counted; grown = r.are_done.grown; appended = r.are_done.appended }) in
    let grown : c.grown.result.now ≡ grown_text r.effects = c.grown.ensures ∙ ap (λ (o : OutsState). o.grown) f.outs_are in
    ap (λ (s : NodeState). s.core.master) c.self.view_is ∙ r.led (λ none. some (grown ∙ ap grown_text none))

pub grow-requires-clause-within : goal.grow-requires-clause-within
grow-requires-clause-within c =
    let r = c.requires in
    let f : ClosesFrame r.effects c.args.outs.now c.close_frame.new.outs = c.close_frame.ensures r.effects (record { counted = r.counted; grown = r.are_done.grown; appended = r.are_done.appended }) in
    let grown : c.grown.result.now ≡ grown_text r.effects = c.grown.ensures ∙ ap (λ (o : OutsState). o.grown) f.outs_are in
    let offset : c.self.inside.state.core.lineage.stream.offset ≡ r.first.core.lineage.stream.offset = ap (λ (s : NodeState). s.core.lineage.stream.offset) (c.self.view_is ∙ r.are_done.node) in
    omega (arith, r.are_done.fits, offset, ap length grown)

pub returns : goal.returns
returns c = λ a effects m d is.
    let f : ClosesFrame effects c.args.outs.now c.close_frame.new.outs = c.close_frame.ensures effects (record { counted = is; grown = d.grown; appended = d.appended }) in
    let grown : c.grown.result.now ≡ grown_text effects = c.grown.ensures ∙ ap (λ (o : OutsState). o.grown) f.outs_are in
    record {
      node = c.grow.ensures ∙ (ap (λ (s : NodeState). streams_on c.grown.result.now s) c.self.view_is ∙ ap (λ (z : List ℕ). streams_on z c.args.self.now) grown);
      frame = f;
    }
