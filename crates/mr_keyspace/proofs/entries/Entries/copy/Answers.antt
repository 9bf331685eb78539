use Rattle.std.proofs.Common.{subst, to_z, of_z, w64}
use Rattle.std.specs.Prelude.{IsTrue}
use Rattle.mr_bytes.specs.Number.{is_i64}
use Rattle.mr_bytes.proofs.Both.{first, second}
use Rattle.mr_effect.specs.Effects.{has_spelling}
use Rattle.mr_keyspace.specs.Changes.{change, at_key}
use Rattle.mr_keyspace.specs.Outcome.{Applies}
use Rattle.mr_keyspace.specs.Steps.{increase_step, pop_step, set_item_step, remove_items_step, trim_step}
use Rattle.mr_keyspace.proofs.Numbers.{same_number}
use Rattle.mr_keyspace.proofs.entries.Entries.copy.Goals as goal

pub returns-in-Pop-clause-applies : goal.returns-in-Pop-clause-applies
unfolding change
returns-in-Pop-clause-applies c =
    let m = c.args.self.now in
    let a = c.in-Pop in
    let possible : IsTrue (is_i64 a.count) = subst (λ e. IsTrue (has_spelling e)) a.is c.requires in
    rw a.is (subst (λ k. Applies (at_key (pop_step a.end a.count) k m) m c.pop.result c.pop.new.self) c.as_slice-in-Pop.ensures
    (subst (λ z. Applies (at_key (pop_step a.end z) c.as_slice-in-Pop.result.now m) m c.pop.result c.pop.new.self) (same_number a.count possible) c.pop.ensures.applies))

pub returns-in-Trim-clause-applies : goal.returns-in-Trim-clause-applies
unfolding change
returns-in-Trim-clause-applies c =
    let m = c.args.self.now in
    let a = c.in-Trim in
    let possible : IsTrue (has_spelling c.args.effect.now) = c.requires in
    let both = subst (λ e. IsTrue (has_spelling e)) a.is possible in
    rw a.is (subst (λ k. Applies (at_key (trim_step a.first a.last) k m) m c.trim.result c.trim.new.self) c.as_slice-in-Trim.ensures
    (subst (λ z. Applies (at_key (trim_step a.first z) c.as_slice-in-Trim.result.now m) m c.trim.result c.trim.new.self) (same_number a.last (second (is_i64 a.first) (is_i64 a.last) both))
    (subst (λ z. Applies (at_key (trim_step z (to_z w64 (of_z w64 a.last))) c.as_slice-in-Trim.result.now m) m c.trim.result c.trim.new.self) (same_number a.first (first (is_i64 a.first) (is_i64 a.last) both)) c.trim.ensures.applies)))

pub returns-in-RemoveItems-clause-applies : goal.returns-in-RemoveItems-clause-applies
unfolding change
returns-in-RemoveItems-clause-applies c =
    let m = c.args.self.now in
    let a = c.in-RemoveItems in
    let possible : IsTrue (is_i64 a.count) = subst (λ e. IsTrue (has_spelling e)) a.is c.requires in
    rw a.is (subst (λ k. Applies (at_key (remove_items_step a.count a.item) k m) m c.remove_items.result c.remove_items.new.self) c.as_slice-in-RemoveItems.ensures
    (subst (λ x. Applies (at_key (remove_items_step a.count x) c.as_slice-in-RemoveItems.result.now m) m c.remove_items.result c.remove_items.new.self) c.as_slice-in-RemoveItems-2.ensures
    (subst (λ z. Applies (at_key (remove_items_step z c.as_slice-in-RemoveItems-2.result.now) c.as_slice-in-RemoveItems.result.now m) m c.remove_items.result c.remove_items.new.self) (same_number a.count possible) c.remove_items.ensures.applies)))

pub returns-in-SetItem-clause-applies : goal.returns-in-SetItem-clause-applies
unfolding change
returns-in-SetItem-clause-applies c =
    let m = c.args.self.now in
    let a = c.in-SetItem in
    let possible = subst (λ e. IsTrue (has_spelling e)) a.is c.requires in
    rw a.is (subst (λ k. Applies (at_key (set_item_step a.place a.item) k m) m c.set_item.result c.set_item.new.self) c.as_slice-in-SetItem.ensures
    (subst (λ x. Applies (at_key (set_item_step a.place x) c.as_slice-in-SetItem.result.now m) m c.set_item.result c.set_item.new.self) c.same-in-SetItem.ensures
    (subst (λ z. Applies (at_key (set_item_step z c.same-in-SetItem.result) c.as_slice-in-SetItem.result.now m) m c.set_item.result c.set_item.new.self) (same_number a.place (first (is_i64 a.place) _ possible)) c.set_item.ensures)))

pub returns-in-Increase-clause-applies : goal.returns-in-Increase-clause-applies
unfolding change
returns-in-Increase-clause-applies c =
    let m = c.args.self.now in
    let a = c.in-Increase in
    let possible : IsTrue (is_i64 a.by) = subst (λ e. IsTrue (has_spelling e)) a.is c.requires in
    rw a.is (subst (λ k. Applies (at_key (increase_step a.by) k m) m c.increase.result c.increase.new.self) c.same-in-Increase.ensures
    (subst (λ z. Applies (at_key (increase_step z) c.same-in-Increase.result m) m c.increase.result c.increase.new.self) (same_number a.by possible) c.increase.ensures))
