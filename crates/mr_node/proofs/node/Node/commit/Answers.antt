use Rattle.std.proofs.Common.{◌≡◌, ap, refl, Some, subst, sym, ◌∙◌}
use Rattle.mr_resp.specs.Replies.{reply_text}
use Rattle.mr_resp.specs.ReplyView.{view}
use Rattle.mr_effect.specs.Spelling.{texts}
use Rattle.mr_node_output.specs.Outs.{OutsState, growth, outs_with}
use Rattle.mr_node_spec.specs.State.{NodeState, spent_as}
use Rattle.mr_node_spec.specs.ClientRows.{ClientRow}
use Rattle.mr_node_spec.specs.Growing.{FedTo}
use Rattle.mr_node_state.specs.Parts.{Commits, Leads, Spends}
use Rattle.mr_node.specs.Parts.{FeedsAll}
use Rattle.mr_node.proofs.Results.{is_no_ok, on_err_is, on_ok_is}
use Rattle.mr_node.proofs.Rows.{lacks_words, stops_of, within_row}
use Rattle.mr_node.proofs.node.Node.commit.Goals as goal

pub returns-then-is_err : goal.returns-then-is_err
returns-then-is_err c = λ u given fresh at r. (lacks_words u c.args.used r.words r.reads, refl)

pub commit-requires-clause-leads : goal.commit-requires-clause-leads
commit-requires-clause-leads c = subst (λ (s : NodeState). Leads c.args.plan.effects.items s.core.held) (sym c.self.view_is) c.requires.leads

pub returns-then-is_err-2 : goal.returns-then-is_err-2
returns-then-is_err-2 c = λ u given fresh at r.
    let spends : Spends c.self.inside.state c.args.plan.effects.items c.commit.new.self = on_err_is c.commit.result _ (sym c.is_err-2.ensures.value ∙ c.if-is_err-2.true) c.commit.ensures.spent in
    record {
      cause = stops_of c.args.self.now u given c.args.used c.args.plan r c.requires.within
          (λ light. is_no_ok c.commit.result (sym c.is_err-2.ensures.value ∙ c.if-is_err-2.true) (c.commit.ensures.light light));
      held = spends.held;
      spent = spends.node ∙ ap (λ (s : NodeState). spent_as spends.held s) c.self.view_is;
    }

pub returns : goal.returns
returns c = λ u given fresh at r.
    let a = c.args.self.now in let b = c.advance.new.self in let es = c.args.plan.effects.items in
    let feeds : FeedsAll a c.args.outs.now c.feed_replicas.new.outs = on_ok_is c.feed_replicas.result _ (sym c.is_err.ensures.value ∙ c.if-is_err.false) c.feed_replicas.ensures.feeds in
    let commits : Commits a es c.commit.new.self = subst (λ (s : NodeState). Commits s es c.commit.new.self) c.self.view_is (on_ok_is c.commit.result _ (sym c.is_err-2.ensures.value ∙ c.if-is_err-2.false) c.commit.ensures.ok) in
    let outs : c.feed_replicas.new.outs ≡ record (outs_with (Some c.args.link) (record (growth (texts es)) { said = reply_text (view c.args.plan.reply) })) { fed = feeds.names } =
    feeds.outs_are ∙ ap (λ (o : OutsState). record o { fed = feeds.names }) c.requires.outs in
    subst (λ (o : OutsState). ClientRow a c.args.link u given fresh b o) (sym outs)
    (within_row a c.commit.new.self b c.args.link u given fresh c.args.used c.args.plan commits.held feeds.names at r c.requires.within commits.applied commits.node c.advance.ensures
    (subst (λ (o : OutsState). FedTo o.grown a feeds.names) c.requires.outs feeds.fed))
