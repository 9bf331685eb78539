use Rattle.std.proofs.Common.{◌≡◌, subst, to_z, of_z, w64}
use Rattle.std.specs.Prelude.{IsTrue, is_some}
use Rattle.mr_bytes.specs.Number.{is_i64}
use Rattle.mr_effect.specs.Effects.{has_spelling}
use Rattle.mr_keyspace.specs.Changes.{change, at_key}
use Rattle.mr_keyspace.specs.Steps.{increase_step, pop_step, set_item_step, trim_step}
use Rattle.mr_bytes.proofs.Both.{first, second}
use Rattle.mr_keyspace.proofs.Numbers.{same_number}
use Rattle.mr_keyspace.proofs.entries.Entries.applies.Goals as goal

pub returns-in-Pop : goal.returns-in-Pop
unfolding change
returns-in-Pop c =
    let m = c.args.self.now in
    let a = c.in-Pop in
    let r = c.can_pop.result in
    let possible : IsTrue (is_i64 a.count) = subst (λ e. IsTrue (has_spelling e)) a.is c.requires in
    rw a.is (subst (λ k. r ≡ is_some (at_key (pop_step a.end a.count) k m)) c.as_slice-in-Pop.ensures
    (subst (λ z. r ≡ is_some (at_key (pop_step a.end z) c.as_slice-in-Pop.result.now m)) (same_number a.count possible) (c.can_pop.ensures a.end)))

pub returns-in-SetItem : goal.returns-in-SetItem
unfolding change
returns-in-SetItem c =
    let m = c.args.self.now in
    let a = c.in-SetItem in
    let r = c.can_set_item.result in
    let possible = subst (λ e. IsTrue (has_spelling e)) a.is c.requires in
    rw a.is (subst (λ k. r ≡ is_some (at_key (set_item_step a.place a.item) k m)) c.as_slice-in-SetItem.ensures
    (subst (λ z. r ≡ is_some (at_key (set_item_step z a.item) c.as_slice-in-SetItem.result.now m)) (same_number a.place (first (is_i64 a.place) _ possible)) (c.can_set_item.ensures a.item)))

pub returns-in-Trim : goal.returns-in-Trim
unfolding change
returns-in-Trim c =
    let m = c.args.self.now in
    let a = c.in-Trim in
    let r = c.can_trim.result in
    let possible : IsTrue (has_spelling c.args.effect.now) = c.requires in
    let both = subst (λ e. IsTrue (has_spelling e)) a.is possible in
    rw a.is (subst (λ k. r ≡ is_some (at_key (trim_step a.first a.last) k m)) c.as_slice-in-Trim.ensures
    (subst (λ z. r ≡ is_some (at_key (trim_step a.first z) c.as_slice-in-Trim.result.now m)) (same_number a.last (second (is_i64 a.first) (is_i64 a.last) both))
    (subst (λ z. r ≡ is_some (at_key (trim_step z (to_z w64 (of_z w64 a.last))) c.as_slice-in-Trim.result.now m)) (same_number a.first (first (is_i64 a.first) (is_i64 a.last) both)) c.can_trim.ensures)))

pub returns-in-Increase : goal.returns-in-Increase
unfolding change
returns-in-Increase c =
    let m = c.args.self.now in
    let a = c.in-Increase in
    let r = c.can_increase.result in
    let possible : IsTrue (is_i64 a.by) = subst (λ e. IsTrue (has_spelling e)) a.is c.requires in
    rw a.is (subst (λ k. r ≡ is_some (at_key (increase_step a.by) k m)) c.as_slice-in-Increase.ensures
    (subst (λ z. r ≡ is_some (at_key (increase_step z) c.as_slice-in-Increase.result.now m)) (same_number a.by possible) c.can_increase.ensures))
