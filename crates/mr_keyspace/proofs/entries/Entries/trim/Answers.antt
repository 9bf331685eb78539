use Rattle.std.specs.FinMap.{get}
use Rattle.std.specs.Prelude.{unsigned_abs, if◌then◌else◌, slice_range, ◌+◌}
use Rattle.std.proofs.Common.{rules, ◌≡◌, ap, sym, ◌∙◌, refl, false, Some, length, None}
use Rattle.mr_keyspace.specs.declared.value.Entry.{Entry}
use Rattle.mr_keyspace.specs.declared.value.Value.TheVariants as value
use Rattle.mr_keyspace.specs.Collections.{is_part_of}
use Rattle.mr_keyspace.specs.Steps.{lists, trim_step, deadline_of}
use Rattle.mr_keyspace.proofs.Stepping.{refuses, other_kind, is_undefined, refused_if, not_a_list, entry_at, is_there}
use Rattle.mr_keyspace.proofs.entries.Entries.trim.Goals as goal

pub returns-in_default-value : goal.returns-in_default-value
returns-in_default-value c =
    record {
      applies = refuses (trim_step c.args.first c.args.last) c.self.view_is c.args.key.now (entry_at c.self.inside.by_key c.args.key.now c.in-Some.value.now) (is_there c.self.inside.by_key c.args.key.now c.in-Some.value.now c.in-Some.ensures.value)
          (other_kind lists (λ items. if is_part_of c.args.first c.args.last (length items) then Some (slice_range items (unsigned_abs c.args.first) (unsigned_abs c.args.last + 1)) else None) (entry_at c.self.inside.by_key c.args.key.now c.in-Some.value.now) (not_a_list _ c.in_default-value.not-List));
      memory = λ e. cc;
    }

pub returns-in_default-part_of-clause-applies : goal.returns-in_default-part_of-clause-applies
returns-in_default-part_of-clause-applies c =
    let out : is_part_of c.args.first c.args.last (length c.in-List.list) ≡ false = search rules in
    let left : Entry = record { value = value.List c.in-List.list; deadline = (deadline_of (get c.self.inside.by_key c.args.key.now)) } in
    refuses (trim_step c.args.first c.args.last) c.self.view_is c.args.key.now left
    (ap (λ v. let e : Entry = record { value = v; deadline = (deadline_of (get c.self.inside.by_key c.args.key.now)) } in Some e) (sym c.in-List.is) ∙ (is_there c.self.inside.by_key c.args.key.now c.in-Some.value.now c.in-Some.ensures.value))
    (is_undefined lists (λ items. if is_part_of c.args.first c.args.last (length items) then Some (slice_range items (unsigned_abs c.args.first) (unsigned_abs c.args.last + 1)) else None) left c.in-List.list refl (refused_if _ _ out))
