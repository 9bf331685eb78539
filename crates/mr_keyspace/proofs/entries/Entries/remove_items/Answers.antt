use Rattle.std.proofs.Common.{w64}
use Rattle.std.proofs.lemmas.Int.{to_z-of_z}
use Rattle.std.proofs.Common.{ap, refl, sym, ◌∙◌, Some}
use Rattle.mr_value.specs.Lists.{without}
use Rattle.mr_keyspace.specs.Steps.{lists, remove_items_step}
use Rattle.mr_keyspace.proofs.Ends.{without_none}
use Rattle.mr_keyspace.proofs.Stepping.{refuses, goes, stays_away, stays_none, other_kind, is_deleted, not_a_list, entry_at, is_there, is_absent}
use Rattle.mr_keyspace.proofs.entries.Entries.remove_items.Goals as goal

pub returns-in_default-value : goal.returns-in_default-value
returns-in_default-value c =
    record {
      applies = refuses (remove_items_step c.args.count c.args.item.now) c.self.view_is c.args.key.now (entry_at c.self.inside.by_key c.args.key.now c.in-Some.value.now) (is_there c.self.inside.by_key c.args.key.now c.in-Some.value.now c.in-Some.ensures.value)
          (other_kind lists (λ items. Some (without c.args.count c.args.item.now items)) (entry_at c.self.inside.by_key c.args.key.now c.in-Some.value.now) (not_a_list _ c.in_default-value.not-List));
      memory = λ e. cc;
    }

pub returns-in_default-clause-applies : goal.returns-in_default-clause-applies
returns-in_default-clause-applies c =
    stays_away (remove_items_step c.args.count c.args.item.now) c.self.view_is c.args.key.now _ (is_absent _ c.in_default.ensures.value)
    (stays_none lists (without c.args.count c.args.item.now) (without_none c.args.count c.args.item.now) refl) refl

pub returns-then-is_empty-clause-applies : goal.returns-then-is_empty-clause-applies
returns-then-is_empty-clause-applies c =
    goes (remove_items_step c.args.count c.args.item.now) c.self.view_is c.args.key.now (entry_at c.self.inside.by_key c.args.key.now c.in-Some.value.now) _ (is_there c.self.inside.by_key c.args.key.now c.in-Some.value.now c.in-Some.ensures.value)
    (is_deleted lists (λ items. Some (without c.args.count c.args.item.now items)) (entry_at c.self.inside.by_key c.args.key.now c.in-Some.value.now) c.in-List.list c.remove_matching.new.self (ap lists.of c.in-List.is) (ap Some (sym (c.remove_matching.ensures.list ∙ ap (λ z. without z c.args.item.now c.in-List.list) (to_z-of_z w64 c.args.count c.ranges.count)))) (sym c.is_empty.ensures ∙ c.if-is_empty.true))
    _ c.remove.ensures.removed
