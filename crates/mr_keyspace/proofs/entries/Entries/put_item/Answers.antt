use Rattle.mr_keyspace.specs.Collections.{pushed}
use Rattle.std.proofs.Common.{[], ◌∷◌, Some}
use Rattle.mr_keyspace.specs.Steps.{lists, push_step}
use Rattle.mr_keyspace.proofs.Stepping.{refuses_at, other_kind, not_a_list, entry_at, is_there}
use Rattle.mr_keyspace.proofs.entries.Entries.put_item.Goals as goal

pub returns-in_default-value : goal.returns-in_default-value
returns-in_default-value c =
    refuses_at (push_step c.args.end (c.args.item ∷ [])) c.self.view_is c.args.key c.as_slice.result.now c.as_slice.ensures (entry_at c.self.inside.by_key c.as_slice.result.now c.in-Some.value.now) (is_there c.self.inside.by_key c.as_slice.result.now c.in-Some.value.now c.in-Some.ensures.value)
    (other_kind lists (λ items. Some (pushed c.args.end (c.args.item ∷ []) items)) (entry_at c.self.inside.by_key c.as_slice.result.now c.in-Some.value.now) (not_a_list _ c.in_default-value.not-List))
