use Rattle.std.specs.FinMap.{get}
use Rattle.std.proofs.Common.{rules, ◌≡◌, ap, sym, ◌∙◌, refl, true, false, Some, length, None}
use Rattle.std.specs.Prelude.{unsigned_abs, if◌then◌else◌}
use Rattle.mr_keyspace.specs.declared.value.Entry.{Entry}
use Rattle.mr_keyspace.specs.declared.value.Value.TheVariants as value
use Rattle.mr_keyspace.specs.Collections.{may_take, popped}
use Rattle.mr_keyspace.specs.Steps.{lists, pop_step, deadline_of}
use Rattle.mr_keyspace.proofs.Stepping.{refuses, goes, other_kind, is_undefined, is_deleted, refused_if, done_if, not_a_list, entry_at, is_there}
use Rattle.mr_keyspace.proofs.entries.Entries.pop.Goals as goal

pub returns-in_default-value : goal.returns-in_default-value
returns-in_default-value c =
    record {
      applies = refuses (pop_step c.args.end c.args.count) c.self.view_is c.args.key.now (entry_at c.self.inside.by_key c.args.key.now c.in-Some.value.now) (is_there c.self.inside.by_key c.args.key.now c.in-Some.value.now c.in-Some.ensures.value)
          (other_kind lists (λ items. if may_take c.args.count (length items) then Some (popped c.args.end (unsigned_abs c.args.count) items) else None) (entry_at c.self.inside.by_key c.args.key.now c.in-Some.value.now) (not_a_list _ c.in_default-value.not-List));
      memory = λ e. cc;
    }

pub returns-in_default-taken_of-clause-applies : goal.returns-in_default-taken_of-clause-applies
returns-in_default-taken_of-clause-applies c =
    let out : may_take c.args.count (length c.in-List.list) ≡ false = search rules in
    let left : Entry = record { value = value.List c.in-List.list; deadline = (deadline_of (get c.self.inside.by_key c.args.key.now)) } in
    refuses (pop_step c.args.end c.args.count) c.self.view_is c.args.key.now left
    (ap (λ v. let e : Entry = record { value = v; deadline = (deadline_of (get c.self.inside.by_key c.args.key.now)) } in Some e) (sym c.in-List.is) ∙ (is_there c.self.inside.by_key c.args.key.now c.in-Some.value.now c.in-Some.ensures.value))
    (is_undefined lists (λ items. if may_take c.args.count (length items) then Some (popped c.args.end (unsigned_abs c.args.count) items) else None) left c.in-List.list refl (refused_if _ _ out))

pub returns-then-is_empty-clause-applies : goal.returns-then-is_empty-clause-applies
returns-then-is_empty-clause-applies c =
    let may : may_take c.args.count (length c.in-List.list) ≡ true = search rules in
    let same : unsigned_abs c.args.count ≡ c.in-Some-taken_of.taken = search rules in
    goes (pop_step c.args.end c.args.count) c.self.view_is c.args.key.now (entry_at c.self.inside.by_key c.args.key.now c.in-Some.value.now) _ (is_there c.self.inside.by_key c.args.key.now c.in-Some.value.now c.in-Some.ensures.value)
    (is_deleted lists (λ items. if may_take c.args.count (length items) then Some (popped c.args.end (unsigned_abs c.args.count) items) else None) (entry_at c.self.inside.by_key c.args.key.now c.in-Some.value.now) c.in-List.list c.pop_items.new.list (ap lists.of c.in-List.is)
    (done_if _ _ _ may (ap (λ n. popped c.args.end n c.in-List.list) same ∙ sym c.pop_items.ensures))
    (sym c.is_empty.ensures ∙ c.if-is_empty.true))
    _ c.remove.ensures.removed
