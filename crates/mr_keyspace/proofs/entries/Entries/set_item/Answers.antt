use Rattle.std.specs.FinMap.{get}
use Rattle.std.specs.Prelude.{unsigned_abs, if◌then◌else◌, slice_set}
use Rattle.std.proofs.Common.{rules, ◌≡◌, ap, sym, ◌∙◌, refl, false, Some, length, None}
use Rattle.mr_keyspace.specs.declared.value.Entry.{Entry}
use Rattle.mr_keyspace.specs.declared.value.Value.TheVariants as value
use Rattle.mr_keyspace.specs.Collections.{is_place_of}
use Rattle.mr_keyspace.specs.Steps.{lists, set_item_step, deadline_of}
use Rattle.mr_keyspace.proofs.Stepping.{refuses, other_kind, is_undefined, refused_if, not_a_list, entry_at, is_there}
use Rattle.mr_keyspace.proofs.entries.Entries.set_item.Goals as goal

pub returns-in_default-value : goal.returns-in_default-value
returns-in_default-value c =
    refuses (set_item_step c.args.place c.args.item) c.self.view_is c.args.key.now (entry_at c.self.inside.by_key c.args.key.now c.in-Some.value.now) (is_there c.self.inside.by_key c.args.key.now c.in-Some.value.now c.in-Some.ensures.value)
    (other_kind lists (λ items. if is_place_of c.args.place (length items) then Some (slice_set items (unsigned_abs c.args.place) c.args.item) else None) (entry_at c.self.inside.by_key c.args.key.now c.in-Some.value.now) (not_a_list _ c.in_default-value.not-List))

pub returns-in_default-place_of : goal.returns-in_default-place_of
returns-in_default-place_of c =
    let out : is_place_of c.args.place (length c.in-List.list) ≡ false = search rules in
    let left : Entry = record { value = value.List c.in-List.list; deadline = (deadline_of (get c.self.inside.by_key c.args.key.now)) } in
    refuses (set_item_step c.args.place c.args.item) c.self.view_is c.args.key.now left
    (ap (λ v. let e : Entry = record { value = v; deadline = (deadline_of (get c.self.inside.by_key c.args.key.now)) } in Some e) (sym c.in-List.is) ∙ (is_there c.self.inside.by_key c.args.key.now c.in-Some.value.now c.in-Some.ensures.value))
    (is_undefined lists (λ items. if is_place_of c.args.place (length items) then Some (slice_set items (unsigned_abs c.args.place) c.args.item) else None) left c.in-List.list refl (refused_if _ _ out))
