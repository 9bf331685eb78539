use Rattle.std.proofs.Common.{◌≡◌, ap, Some, subst, sym, true, ◌∙◌}
use Rattle.mr_node_output.specs.Outs.{OutsState, no_outs}
use Rattle.mr_node_spec.specs.ClientRows.{ClientRow}
use Rattle.mr_node.proofs.Rows.{halt_row}
use Rattle.mr_node.proofs.node.Node.halt.Goals as goal

pub returns : goal.returns
returns c = λ u given fresh at h.
    let a = c.args.self.now in let b = c.advance.new.self in
    let outs : c.halt.new.self ≡ record no_outs { link = Some c.args.link; halts = true } = c.halt.ensures ∙ ap (λ (o : OutsState). record o { halts = true }) c.requires.begun in
    subst (λ (o : OutsState). ClientRow a c.args.link u given fresh b o) (sym outs) (halt_row a b c.args.link u given fresh c.args.used at h c.advance.ensures)
