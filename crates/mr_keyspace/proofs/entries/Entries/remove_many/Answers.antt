use Rattle.std.proofs.Common.{ap, refl, sym, ◌∙◌, Some}
use Rattle.mr_map.specs.Bytes.{lent}
use Rattle.mr_keyspace.specs.Collections.{without_scores}
use Rattle.mr_keyspace.specs.Steps.{sorted_sets, remove_scores_step}
use Rattle.mr_keyspace.proofs.Nonempty.{without_scores_none, no_elements}
use Rattle.mr_keyspace.proofs.Stepping.{refuses, goes, stays_away, stays_none, other_kind, is_deleted, not_a_sorted_set, entry_at, is_there, is_absent}
use Rattle.mr_keyspace.proofs.entries.Entries.remove_many.Goals as goal

pub returns-in_default-value : goal.returns-in_default-value
returns-in_default-value c = record {
  applies = refuses (remove_scores_step (lent c.args.members.now)) c.self.view_is c.args.key.now (entry_at c.self.inside.by_key c.args.key.now c.in-Some.value.now) (is_there c.self.inside.by_key c.args.key.now c.in-Some.value.now c.in-Some.ensures.value)
      (other_kind sorted_sets (λ scores. Some (without_scores (lent c.args.members.now) scores)) (entry_at c.self.inside.by_key c.args.key.now c.in-Some.value.now) (not_a_sorted_set _ c.in_default-value.not-SortedSet));
  memory = λ e. cc;
}

pub returns-in_default-clause-applies : goal.returns-in_default-clause-applies
returns-in_default-clause-applies c =
    stays_away (remove_scores_step (lent c.args.members.now)) c.self.view_is c.args.key.now _ (is_absent _ c.in_default.ensures.value)
    (stays_none sorted_sets (without_scores (lent c.args.members.now)) (without_scores_none (lent c.args.members.now)) (no_elements _)) refl

pub returns-then-is_empty-clause-applies : goal.returns-then-is_empty-clause-applies
returns-then-is_empty-clause-applies c =
    goes (remove_scores_step (lent c.args.members.now)) c.self.view_is c.args.key.now (entry_at c.self.inside.by_key c.args.key.now c.in-Some.value.now) _ (is_there c.self.inside.by_key c.args.key.now c.in-Some.value.now c.in-Some.ensures.value)
    (is_deleted sorted_sets (λ scores. Some (without_scores (lent c.args.members.now) scores)) (entry_at c.self.inside.by_key c.args.key.now c.in-Some.value.now) c.in-SortedSet.set c.take_many.new.set (ap sorted_sets.of c.in-SortedSet.is) (ap Some (sym c.take_many.ensures)) (sym c.is_empty.ensures ∙ c.if-is_empty.true))
    _ c.remove.ensures.removed
