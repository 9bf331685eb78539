use Rattle.std.proofs.Common.{subst}
use Rattle.std.specs.FinMap.{get, empty}
use Rattle.mr_keyspace.specs.Changes.{at_key}
use Rattle.mr_keyspace.specs.Outcome.{Applies}
use Rattle.mr_keyspace.specs.Collections.{with_fields}
use Rattle.std.proofs.Common.{ap, sym, ◌∙◌, Some}
use Rattle.mr_keyspace.specs.Steps.{hashes, set_fields_step}
use Rattle.mr_keyspace.proofs.Nonempty.{with_fields_some}
use Rattle.mr_keyspace.proofs.Stepping.{refuses_at, does_at, other_kind, is_left, is_made, creates, not_a_hash, entry_at, is_there, is_absent}
use Rattle.mr_keyspace.proofs.entries.Entries.set_fields.Goals as goal

pub returns-in_default-value : goal.returns-in_default-value
returns-in_default-value c =
    refuses_at (set_fields_step c.args.pairs) c.self.view_is c.args.key c.as_slice.result.now c.as_slice.ensures (entry_at c.self.inside.by_key c.as_slice.result.now c.in-Some.value.now) (is_there c.self.inside.by_key c.as_slice.result.now c.in-Some.value.now c.in-Some.ensures.value)
    (other_kind hashes (λ fields. Some (with_fields c.args.pairs fields)) (entry_at c.self.inside.by_key c.as_slice.result.now c.in-Some.value.now) (not_a_hash _ c.in_default-value.not-Hash))

pub returns : goal.returns
returns c =
    does_at (set_fields_step c.args.pairs) c.self.view_is c.args.key c.as_slice.result.now c.as_slice.ensures (entry_at c.self.inside.by_key c.as_slice.result.now c.in-Some.value.now) _ (is_there c.self.inside.by_key c.as_slice.result.now c.in-Some.value.now c.in-Some.ensures.value)
    (is_left hashes (λ fields. Some (with_fields c.args.pairs fields)) (entry_at c.self.inside.by_key c.as_slice.result.now c.in-Some.value.now) c.in-Hash.hash c.put_fields-2.new.hash (ap hashes.of c.in-Hash.is) (ap Some (sym c.in_ok-put_fields-2.ensures)) (ap hashes.is_none c.in_ok-put_fields-2.ensures ∙ with_fields_some c.args.pairs c.in-Hash.hash c.requires))

pub returns-in_default : goal.returns-in_default
returns-in_default c =
    let same = c.in_ok-put_fields.ensures ∙ ap (with_fields c.args.pairs) c.new-hash.ensures in
    subst (λ m. Applies (at_key (set_fields_step c.args.pairs) c.args.key m) m c.create.result c.create.new.self) c.self.view_is
    (creates (set_fields_step c.args.pairs) c.self.inside.by_key c.args.key _ c.create.result c.create.new.self ((is_absent _ c.in_default.ensures.value) ∙ ap (get c.self.inside.by_key) c.as_slice.ensures)
    (is_made hashes (with_fields c.args.pairs) c.put_fields.new.hash same (ap hashes.is_none same ∙ with_fields_some c.args.pairs empty c.requires))
    c.create.ensures.ok c.create.ensures.refused)
