use Rattle.std.proofs.Common.{subst, []}
use Rattle.std.specs.FinMap.{get}
use Rattle.mr_keyspace.specs.Changes.{at_key}
use Rattle.mr_keyspace.specs.Outcome.{Applies}
use Rattle.mr_keyspace.specs.Collections.{pushed}
use Rattle.std.proofs.Common.{ap, sym, ◌∙◌, Some}
use Rattle.mr_keyspace.specs.Steps.{lists, push_step}
use Rattle.mr_keyspace.proofs.Nonempty.{pushed_some}
use Rattle.mr_keyspace.proofs.Stepping.{refuses_at, does_at, other_kind, is_left, is_made, creates, not_a_list, entry_at, is_there, is_absent}
use Rattle.mr_keyspace.proofs.entries.Entries.push.Goals as goal

pub returns-in_default-value : goal.returns-in_default-value
returns-in_default-value c =
    refuses_at (push_step c.args.end c.args.items) c.self.view_is c.args.key c.as_slice.result.now c.as_slice.ensures (entry_at c.self.inside.by_key c.as_slice.result.now c.in-Some.value.now) (is_there c.self.inside.by_key c.as_slice.result.now c.in-Some.value.now c.in-Some.ensures.value)
    (other_kind lists (λ items. Some (pushed c.args.end c.args.items items)) (entry_at c.self.inside.by_key c.as_slice.result.now c.in-Some.value.now) (not_a_list _ c.in_default-value.not-List))

pub returns : goal.returns
returns c =
    does_at (push_step c.args.end c.args.items) c.self.view_is c.args.key c.as_slice.result.now c.as_slice.ensures (entry_at c.self.inside.by_key c.as_slice.result.now c.in-Some.value.now) _ (is_there c.self.inside.by_key c.as_slice.result.now c.in-Some.value.now c.in-Some.ensures.value)
    (is_left lists (λ items. Some (pushed c.args.end c.args.items items)) (entry_at c.self.inside.by_key c.as_slice.result.now c.in-Some.value.now) c.in-List.list c.push_items-2.new.list (ap lists.of c.in-List.is) (ap Some (sym c.in_ok-push_items-2.ensures)) (ap lists.is_none c.in_ok-push_items-2.ensures ∙ pushed_some c.args.end c.args.items c.in-List.list c.requires))

pub returns-in_default : goal.returns-in_default
returns-in_default c =
    let same = c.in_ok-push_items.ensures ∙ ap (pushed c.args.end c.args.items) c.new-list.ensures in
    subst (λ m. Applies (at_key (push_step c.args.end c.args.items) c.args.key m) m c.create.result c.create.new.self) c.self.view_is
    (creates (push_step c.args.end c.args.items) c.self.inside.by_key c.args.key _ c.create.result c.create.new.self ((is_absent _ c.in_default.ensures.value) ∙ ap (get c.self.inside.by_key) c.as_slice.ensures)
    (is_made lists (pushed c.args.end c.args.items) c.push_items.new.list same (ap lists.is_none same ∙ pushed_some c.args.end c.args.items [] c.requires))
    c.create.ensures.ok c.create.ensures.refused)
