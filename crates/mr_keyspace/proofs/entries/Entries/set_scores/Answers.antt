use Rattle.std.proofs.Common.{ap, sym, subst, ◌∙◌, Some}
use Rattle.std.specs.FinMap.{get, empty}
use Rattle.mr_keyspace.specs.Changes.{at_key}
use Rattle.mr_keyspace.specs.Outcome.{Applies}
use Rattle.mr_keyspace.specs.Collections.{with_scores}
use Rattle.mr_keyspace.specs.Steps.{sorted_sets, set_scores_step}
use Rattle.mr_keyspace.proofs.Nonempty.{with_scores_some}
use Rattle.mr_keyspace.proofs.Stepping.{refuses_at, does_at, other_kind, is_left, is_made, creates, not_a_sorted_set, entry_at, is_there, is_absent}
use Rattle.mr_keyspace.proofs.entries.Entries.set_scores.Goals as goal

pub returns-in_default-value : goal.returns-in_default-value
returns-in_default-value c =
    refuses_at (set_scores_step c.args.scores.now) c.self.view_is c.args.key c.as_slice.result.now c.as_slice.ensures (entry_at c.self.inside.by_key c.as_slice.result.now c.in-Some.value.now) (is_there c.self.inside.by_key c.as_slice.result.now c.in-Some.value.now c.in-Some.ensures.value)
    (other_kind sorted_sets (λ scores. Some (with_scores c.args.scores.now scores)) (entry_at c.self.inside.by_key c.as_slice.result.now c.in-Some.value.now) (not_a_sorted_set _ c.in_default-value.not-SortedSet))

pub returns : goal.returns
returns c =
    does_at (set_scores_step c.args.scores.now) c.self.view_is c.args.key c.as_slice.result.now c.as_slice.ensures (entry_at c.self.inside.by_key c.as_slice.result.now c.in-Some.value.now) _ (is_there c.self.inside.by_key c.as_slice.result.now c.in-Some.value.now c.in-Some.ensures.value)
    (is_left sorted_sets (λ scores. Some (with_scores c.args.scores.now scores)) (entry_at c.self.inside.by_key c.as_slice.result.now c.in-Some.value.now) c.in-SortedSet.held c.put_scores-2.new.set (ap sorted_sets.of c.in-SortedSet.is) (ap Some (sym c.in_ok-put_scores-2.ensures)) (ap sorted_sets.is_none c.in_ok-put_scores-2.ensures ∙ with_scores_some c.args.scores.now c.in-SortedSet.held c.requires.some))

pub returns-in_default : goal.returns-in_default
returns-in_default c =
    let same = c.in_ok-put_scores.ensures ∙ ap (with_scores c.args.scores.now) c.new-set.ensures in
    subst (λ m. Applies (at_key (set_scores_step c.args.scores.now) c.args.key m) m c.create.result c.create.new.self) c.self.view_is
    (creates (set_scores_step c.args.scores.now) c.self.inside.by_key c.args.key _ c.create.result c.create.new.self ((is_absent _ c.in_default.ensures.value) ∙ ap (get c.self.inside.by_key) c.as_slice.ensures)
    (is_made sorted_sets (with_scores c.args.scores.now) c.put_scores.new.set same (ap sorted_sets.is_none same ∙ with_scores_some c.args.scores.now empty c.requires.some))
    c.create.ensures.ok c.create.ensures.refused)
