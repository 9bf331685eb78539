use Rattle.std.proofs.Common.{subst}
use Rattle.std.specs.FinMap.{get, empty}
use Rattle.mr_keyspace.specs.Changes.{at_key}
use Rattle.mr_keyspace.specs.Outcome.{Applies}
use Rattle.mr_keyspace.specs.Collections.{with_members}
use Rattle.std.proofs.Common.{ap, sym, ◌∙◌, Some}
use Rattle.mr_keyspace.specs.Steps.{sets, add_members_step}
use Rattle.mr_keyspace.proofs.Nonempty.{with_members_some}
use Rattle.mr_keyspace.proofs.Stepping.{refuses_at, does_at, other_kind, is_left, is_made, creates, not_a_set, entry_at, is_there, is_absent}
use Rattle.mr_keyspace.proofs.entries.Entries.add_members.Goals as goal

pub returns-in_default-value : goal.returns-in_default-value
returns-in_default-value c =
    refuses_at (add_members_step c.args.members) c.self.view_is c.args.key c.as_slice.result.now c.as_slice.ensures (entry_at c.self.inside.by_key c.as_slice.result.now c.in-Some.value.now) (is_there c.self.inside.by_key c.as_slice.result.now c.in-Some.value.now c.in-Some.ensures.value)
    (other_kind sets (λ members. Some (with_members c.args.members members)) (entry_at c.self.inside.by_key c.as_slice.result.now c.in-Some.value.now) (not_a_set _ c.in_default-value.not-Set))

pub returns : goal.returns
returns c =
    does_at (add_members_step c.args.members) c.self.view_is c.args.key c.as_slice.result.now c.as_slice.ensures (entry_at c.self.inside.by_key c.as_slice.result.now c.in-Some.value.now) _ (is_there c.self.inside.by_key c.as_slice.result.now c.in-Some.value.now c.in-Some.ensures.value)
    (is_left sets (λ members. Some (with_members c.args.members members)) (entry_at c.self.inside.by_key c.as_slice.result.now c.in-Some.value.now) c.in-Set.set c.put_members-2.new.set (ap sets.of c.in-Set.is) (ap Some (sym c.in_ok-put_members-2.ensures)) (ap sets.is_none c.in_ok-put_members-2.ensures ∙ with_members_some c.args.members c.in-Set.set c.requires))

pub returns-in_default : goal.returns-in_default
returns-in_default c =
    let same = c.in_ok-put_members.ensures ∙ ap (with_members c.args.members) c.new-set.ensures in
    subst (λ m. Applies (at_key (add_members_step c.args.members) c.args.key m) m c.create.result c.create.new.self) c.self.view_is
    (creates (add_members_step c.args.members) c.self.inside.by_key c.args.key _ c.create.result c.create.new.self ((is_absent _ c.in_default.ensures.value) ∙ ap (get c.self.inside.by_key) c.as_slice.ensures)
    (is_made sets (with_members c.args.members) c.put_members.new.set same (ap sets.is_none same ∙ with_members_some c.args.members empty c.requires))
    c.create.ensures.ok c.create.ensures.refused)
