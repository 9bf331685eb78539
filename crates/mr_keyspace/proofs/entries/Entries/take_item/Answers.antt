use Rattle.std.specs.FinMap.{get}
use Rattle.std.specs.Prelude.{pos, if◌then◌else◌}
use Rattle.std.proofs.Common.{rules, ◌≡◌, ap, sym, ◌∙◌, true, Some, None, List, ℕ, length}
use Rattle.std.specs.Option.{option_and_then}
use Rattle.mr_keyspace.specs.declared.value.Entry.{Entry}
use Rattle.mr_keyspace.specs.declared.value.Value.TheVariants as value
use Rattle.mr_keyspace.specs.Collections.{end_item, popped, may_take}
use Rattle.mr_keyspace.specs.Steps.{lists, pop_step, deadline_of}
use Rattle.mr_keyspace.proofs.Moving.{no_item, done}
use Rattle.mr_keyspace.proofs.Stepping.{goes, is_deleted, done_if, not_a_list, entry_at, is_there}
use Rattle.mr_keyspace.proofs.entries.Entries.take_item.Goals as goal

pub returns-in_default-value : goal.returns-in_default-value
returns-in_default-value c = record {
  absent = λ _. no_item c.args.end c.self.view_is c.args.key.now (entry_at c.self.inside.by_key c.args.key.now c.in-Some.value.now) (is_there c.self.inside.by_key c.args.key.now c.in-Some.value.now c.in-Some.ensures.value) (ap (option_and_then (end_item c.args.end)) (not_a_list _ c.in_default-value.not-List));
  item = tt;
  taken = tt;
}

pub returns-in_default-pop_item-clause-absent : goal.returns-in_default-pop_item-clause-absent
returns-in_default-pop_item-clause-absent c =
    let same : c.pop_item.new.list ≡ c.in-List.list = search rules in
    let none : end_item c.args.end c.pop_item.new.list ≡ None = search rules in
    λ _. no_item c.args.end c.self.view_is c.args.key.now _
    (ap (λ (xs : List (List ℕ)). let e : Entry = record { value = value.List xs; deadline = (deadline_of (get c.self.inside.by_key c.args.key.now)) } in Some e) same
    ∙ ap (λ v. let e : Entry = record { value = v; deadline = (deadline_of (get c.self.inside.by_key c.args.key.now)) } in Some e) (sym c.in-List.is) ∙ (is_there c.self.inside.by_key c.args.key.now c.in-Some.value.now c.in-Some.ensures.value))
    none

pub returns-then-is_empty-clause-taken : goal.returns-then-is_empty-clause-taken
returns-then-is_empty-clause-taken c =
    let may : may_take (pos 1) (length c.in-List.list) ≡ true = search rules in
    let left : popped c.args.end 1 c.in-List.list ≡ c.pop_item.new.list = search rules in
    done _ _ _ (goes (pop_step c.args.end (pos 1)) c.self.view_is c.args.key.now (entry_at c.self.inside.by_key c.args.key.now c.in-Some.value.now) _ (is_there c.self.inside.by_key c.args.key.now c.in-Some.value.now c.in-Some.ensures.value)
    (is_deleted lists (λ items. if may_take (pos 1) (length items) then Some (popped c.args.end 1 items) else None) (entry_at c.self.inside.by_key c.args.key.now c.in-Some.value.now) c.in-List.list c.pop_item.new.list (ap lists.of c.in-List.is) (done_if _ _ _ may left) (sym c.is_empty.ensures ∙ c.if-is_empty.true))
    _ c.remove.ensures.removed)
