use Rattle.std.proofs.Common.{refl, sym, ap, subst, ◌∙◌, true}
use Rattle.mr_node_links.specs.State.{put_end}
use Rattle.mr_node_links.specs.State.EndState.{replica, shut}
use Rattle.mr_node_state.specs.Parts.{with_ends}
use Rattle.mr_node_output.specs.Outs.{OutsState}
use Rattle.mr_node_spec.specs.State.{NodeState, end_of}
use Rattle.mr_node_spec.specs.ReplicaRows.{ReplicaRow}
use Rattle.mr_node.specs.Noting.{IsNoted, KeepsNoted}
use Rattle.mr_node.proofs.Ends.{put_leaves}
use Rattle.mr_node.proofs.Noting.{acknowledgement_row, part_row, skip_row, uses_as}
use Rattle.mr_node.proofs.node.Node.note.Goals as goal

pub keep-requires : goal.keep-requires
keep-requires c =
    let u = c.requires.at.0 in
    let at = c.requires.at.1.agrees in
    record { end = replica u; found = ap (λ (z : NodeState). end_of z c.args.link) c.self.view_is ∙ at.is; agrees = subst (λ n. KeepsNoted n u) c.in-Wait.is (c.in-Ok.ensures u at).1 }

pub advance-requires : goal.advance-requires
advance-requires c =
    let u = c.requires.at.0 in
    let at = c.requires.at.1.agrees in
    record { end = replica u; found = at.is; enough = (subst (IsNoted u) c.in-Skip.is (c.in-Ok.ensures u at).0).enough }

pub advance-requires-in-Acknowledgement : goal.advance-requires-in-Acknowledgement
advance-requires-in-Acknowledgement c =
    let u = c.requires.at.0 in
    let at = c.requires.at.1.agrees in
    record {
      end = replica u;
      found = ap (λ (z : NodeState). end_of z c.args.link) (c.acknowledge.ensures ∙ c.self.view_is) ∙ at.is;
      enough = (subst (IsNoted u) c.in-Acknowledgement.is (c.in-Ok.ensures u at).0).reads.enough;
    }

pub shut-requires : goal.shut-requires
shut-requires c = (replica c.requires.at.0, ap (λ (z : NodeState). end_of z c.args.link) c.self.view_is ∙ c.requires.at.1.agrees.is, refl)

pub returns-in-Skip : goal.returns-in-Skip
returns-in-Skip c = λ u at.
    let a = c.args.self.now in let b = c.advance.new.self in let l = c.args.link in
    let noted = subst (IsNoted u) c.in-Skip.is (c.in-Ok.ensures u at.agrees).0 in
    subst (λ (o : OutsState). ReplicaRow a l u b o) (sym c.requires.begun) (skip_row a b l u c.in-Skip.used at noted c.advance.ensures)

pub returns-in-Acknowledgement : goal.returns-in-Acknowledgement
returns-in-Acknowledgement c = λ u at.
    let a = c.args.self.now in let b = c.advance-in-Acknowledgement.new.self in let l = c.args.link in
    let noted = subst (IsNoted u) c.in-Acknowledgement.is (c.in-Ok.ensures u at.agrees).0 in
    subst (λ (o : OutsState). ReplicaRow a l u b o) (sym c.requires.begun)
    (acknowledgement_row a b l u c.in-Acknowledgement.used c.in-Acknowledgement.offset at noted
    (uses_as l c.in-Acknowledgement.used (c.acknowledge.ensures ∙ c.self.view_is) refl c.advance-in-Acknowledgement.ensures))

pub returns-in-Part : goal.returns-in-Part
returns-in-Part c = λ u at.
    let a = c.args.self.now in let b = c.shut.new.self in let l = c.args.link in
    let noted = subst (IsNoted u) c.in-Part.is (c.in-Ok.ensures u at.agrees).0 in
    let is = c.shut.ensures ∙ ap (λ (z : NodeState). with_ends z (put_end z.ends l shut)) c.self.view_is in
    subst (λ (o : OutsState). ReplicaRow a l u b o) (sym (c.close.ensures ∙ ap (λ (o : OutsState). record o { closes = true }) c.requires.begun))
    (part_row a b l u at noted (ap (λ (z : NodeState). z.core) is) (put_leaves a b l shut is))
