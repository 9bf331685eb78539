use Rattle.std.proofs.Common.{rules, ◌≡◌, false, subst, sym}
use Rattle.std.specs.Prelude.{Err, IfErr}
use Rattle.mr_repl.specs.Backlog.{usual_backlog}
use Rattle.mr_node_spec.specs.State.{started}
use Rattle.mr_pipe.specs.Faults.{fault_of}
use Rattle.mr_pipe.specs.declared.fault.PipeFault.TheVariants as ended
use Rattle.mr_pipe.proofs.Refusals.{open_refused}
use Rattle.mr_pipe.proofs.Steps.{opened}
use Rattle.mr_pipe.proofs.linked_node.LinkedNode.begin.Goals as goal

pub returns-clause-stands : goal.returns-clause-stands
returns-clause-stands c =
    let is : c.in-Ok.node ≡ started false 0 usual_backlog c.args.id c.args.dataset = search rules in
    opened c.in-Ok.node c.open.new.self c.in_ok-link.link c.args.id c.args.dataset is c.in_ok-link.ensures.1

pub returns-in_err-link-clause-fault : goal.returns-in_err-link-clause-fault
returns-in_err-link-clause-fault c =
    let is : c.in-Ok.node ≡ started false 0 usual_backlog c.args.id c.args.dataset = search rules in
    let told : c.from_residual.result ≡ Err (fault_of c.in_err-link.field-0.0) = search rules in
    subst (λ r. IfErr r (λ e. e ≡ ended.Memory)) (sym told) (open_refused c.in-Ok.node c.open.new.self c.args.id c.args.dataset is c.in_err-link.field-0.0 c.in_err-link.ensures)
