use Rattle.std.specs.FinMap.{get}
use Rattle.std.specs.Prelude.{insert}
use Rattle.std.proofs.Common.{rules, [], ◌≡◌, ap, refl, sym, ◌∙◌, Some, None}
use Rattle.std.specs.Option.{option_map}
use Rattle.mr_keyspace.specs.declared.value.Entry.{Entry}
use Rattle.mr_keyspace.specs.declared.value.Value.TheVariants as value
use Rattle.mr_keyspace.specs.Collections.{place_beside}
use Rattle.mr_keyspace.specs.Steps.{lists, insert_item_step, entry_of, deadline_of}
use Rattle.mr_keyspace.proofs.Ends.{no_place}
use Rattle.mr_keyspace.proofs.Stepping.{refuses, refuses_absent, other_kind, is_undefined, not_a_list, entry_at, is_there, is_absent}
use Rattle.mr_keyspace.proofs.entries.Entries.insert_item.Goals as goal

pub returns-in_default : goal.returns-in_default
returns-in_default c =
    refuses_absent (insert_item_step c.args.side c.args.pivot.now c.args.item) c.self.view_is c.args.key.now (is_absent _ c.in_default.ensures.value)
    (ap (λ o. option_map (entry_of lists None) (option_map (λ place. insert [] place c.args.item) o)) (no_place c.args.side c.args.pivot.now))

pub returns-in_default-value : goal.returns-in_default-value
returns-in_default-value c =
    refuses (insert_item_step c.args.side c.args.pivot.now c.args.item) c.self.view_is c.args.key.now (entry_at c.self.inside.by_key c.args.key.now c.in-Some.value.now) (is_there c.self.inside.by_key c.args.key.now c.in-Some.value.now c.in-Some.ensures.value)
    (other_kind lists (λ items. option_map (λ place. insert items place c.args.item) (place_beside c.args.side c.args.pivot.now items)) (entry_at c.self.inside.by_key c.args.key.now c.in-Some.value.now) (not_a_list _ c.in_default-value.not-List))

pub returns-in_default-place_beside : goal.returns-in_default-place_beside
returns-in_default-place_beside c =
    let none : place_beside c.args.side c.args.pivot.now c.in-List.list ≡ None = search rules in
    let left : Entry = record { value = value.List c.in-List.list; deadline = (deadline_of (get c.self.inside.by_key c.args.key.now)) } in
    refuses (insert_item_step c.args.side c.args.pivot.now c.args.item) c.self.view_is c.args.key.now left
    (ap (λ v. let e : Entry = record { value = v; deadline = (deadline_of (get c.self.inside.by_key c.args.key.now)) } in Some e) (sym c.in-List.is) ∙ (is_there c.self.inside.by_key c.args.key.now c.in-Some.value.now c.in-Some.ensures.value))
    (is_undefined lists (λ items. option_map (λ place. insert items place c.args.item) (place_beside c.args.side c.args.pivot.now items)) left c.in-List.list refl (ap (option_map (λ place. insert c.in-List.list place c.args.item)) none))
