use Rattle.std.proofs.Common.{ap, refl, sym, ◌∙◌, Some}
use Rattle.mr_keyspace.specs.Collections.{without_fields}
use Rattle.mr_keyspace.specs.Steps.{hashes, remove_fields_step}
use Rattle.mr_keyspace.proofs.Nonempty.{without_fields_none, no_elements}
use Rattle.mr_keyspace.proofs.Stepping.{refuses, goes, stays_away, stays_none, other_kind, is_deleted, not_a_hash, entry_at, is_there, is_absent}
use Rattle.mr_keyspace.proofs.entries.Entries.remove_fields.Goals as goal

pub returns-in_default-value : goal.returns-in_default-value
returns-in_default-value c = record {
  applies = refuses (remove_fields_step c.args.fields.now) c.self.view_is c.args.key.now (entry_at c.self.inside.by_key c.args.key.now c.in-Some.value.now) (is_there c.self.inside.by_key c.args.key.now c.in-Some.value.now c.in-Some.ensures.value)
      (other_kind hashes (λ fields. Some (without_fields c.args.fields.now fields)) (entry_at c.self.inside.by_key c.args.key.now c.in-Some.value.now) (not_a_hash _ c.in_default-value.not-Hash));
  memory = λ e. cc;
}

pub returns-in_default-clause-applies : goal.returns-in_default-clause-applies
returns-in_default-clause-applies c =
    stays_away (remove_fields_step c.args.fields.now) c.self.view_is c.args.key.now _ (is_absent _ c.in_default.ensures.value)
    (stays_none hashes (without_fields c.args.fields.now) (without_fields_none c.args.fields.now) (no_elements _)) refl

pub returns-then-is_empty-clause-applies : goal.returns-then-is_empty-clause-applies
returns-then-is_empty-clause-applies c =
    goes (remove_fields_step c.args.fields.now) c.self.view_is c.args.key.now (entry_at c.self.inside.by_key c.args.key.now c.in-Some.value.now) _ (is_there c.self.inside.by_key c.args.key.now c.in-Some.value.now c.in-Some.ensures.value)
    (is_deleted hashes (λ fields. Some (without_fields c.args.fields.now fields)) (entry_at c.self.inside.by_key c.args.key.now c.in-Some.value.now) c.in-Hash.hash c.take_fields.new.hash (ap hashes.of c.in-Hash.is) (ap Some (sym c.take_fields.ensures)) (sym c.is_empty.ensures ∙ c.if-is_empty.true))
    _ c.remove.ensures.removed
