use Rattle.std.specs.FinMap.{get}
use Rattle.mr_keyspace.specs.Collections.{turned}
use Rattle.std.proofs.Common.{ap, refl, sym, ◌∙◌, Some}
use Rattle.mr_keyspace.specs.declared.value.Entry.{Entry}
use Rattle.mr_keyspace.specs.declared.value.Value.TheVariants as value
use Rattle.mr_keyspace.specs.Steps.{lists, turn_step, deadline_of}
use Rattle.mr_keyspace.proofs.Ends.{turned_none}
use Rattle.mr_keyspace.proofs.Stepping.{refuses, other_kind, is_undefined, not_a_list, entry_at, is_there}
use Rattle.mr_keyspace.proofs.entries.Entries.turn.Goals as goal

pub returns-in_default-value : goal.returns-in_default-value
returns-in_default-value c =
    refuses (turn_step c.args.taken c.args.put) c.self.view_is c.args.key.now (entry_at c.self.inside.by_key c.args.key.now c.in-Some.value.now) (is_there c.self.inside.by_key c.args.key.now c.in-Some.value.now c.in-Some.ensures.value)
    (other_kind lists (turned c.args.taken c.args.put) (entry_at c.self.inside.by_key c.args.key.now c.in-Some.value.now) (not_a_list _ c.in_default-value.not-List))

pub returns-then-is_empty : goal.returns-then-is_empty
returns-then-is_empty c =
    let left : Entry = record { value = value.List c.in-List.list; deadline = (deadline_of (get c.self.inside.by_key c.args.key.now)) } in
    refuses (turn_step c.args.taken c.args.put) c.self.view_is c.args.key.now left
    (ap (λ v. let e : Entry = record { value = v; deadline = (deadline_of (get c.self.inside.by_key c.args.key.now)) } in Some e) (sym c.in-List.is) ∙ (is_there c.self.inside.by_key c.args.key.now c.in-Some.value.now c.in-Some.ensures.value))
    (is_undefined lists (turned c.args.taken c.args.put) left c.in-List.list refl (turned_none c.args.taken c.args.put c.in-List.list (sym c.is_empty.ensures ∙ c.if-is_empty.true)))
