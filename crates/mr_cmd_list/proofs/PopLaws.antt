-- Pops have faithful effects.
use Rattle.std.proofs.Common.{ℕ, ◌<◌, ◌≤◌, ◌^◌, ◌≡◌, pos, List, length, Option, Some, None, refl, ◌∙◌, ap, arith}
use Rattle.std.specs.Prelude.{◌==◌, IsTrue, if◌then◌else◌}
use Rattle.mr_map.specs.Bytes.{Bytes}
use Rattle.mr_bytes.specs.Words.{fits}
use Rattle.mr_bytes.specs.Number.{is_i64}
use Rattle.mr_bytes.specs.declared.ends.End.{End}
use Rattle.mr_bytes.proofs.Numbers.{is_i64-pos}
use Rattle.mr_keyspace.specs.Collections.{may_take, popped, end_item}
use Rattle.mr_keyspace.specs.Steps.{lists, held, pop_step}
use Rattle.mr_keyspace.specs.Changes.{change}
use Rattle.mr_keyspace.specs.declared.value.Entry.{Entry}
use Rattle.mr_effect.specs.declared.effect.Effect.TheVariants as effect
use Rattle.mr_data.proofs.Running.{IsStep}
use Rattle.mr_cmd_shared.proofs.Changing.{IsFaithfulChange}
use Rattle.mr_cmd_list.specs.Pops.{without_item, without_items}
use Rattle.mr_cmd_list.proofs.Sizes.{both, positive, none_of, end_some, may_take_some, popped_none, popped_less}
use Rattle.mr_cmd_list.proofs.OneEffect.{no_effect, one_effect, unless_same}
use Rattle.mr_effect.proofs.Texts.{short_effect}

pop_is_step : (k : Bytes) (end : End) (n : ℕ) → IsTrue (fits k) → n < 2 ^ 63 → IsStep k (effect.Pop k end (pos n)) (pop_step end (pos n))
unfolding change
pop_is_step k end n named short = record { possible = both (is_i64 (pos n)) (fits k) (is_i64-pos n short) named; short = short_effect (effect.Pop k end (pos n)) (omega arith); is = λ m. refl }

-- what so many items at an end leave
left_is : (end : End) (n : ℕ) (xs : List Bytes) → 0 < n → n ≤ length xs → (if may_take (pos n) (length xs) then Some (popped end n xs) else None) ≡ Some (popped end n xs)
left_is end n xs some few = ap (λ b. if b then Some (popped end n xs) else None) (may_take_some n (length xs) some few)

module _ (k : Bytes) (end : End) (x : List Bytes) (o : Option Entry) (named : IsTrue (fits k)) (there : held lists o ≡ Some x) where
  pub pop_one_faithful : IsFaithfulChange lists (without_item k end (end_item end x) x) x k o
  pop_one_faithful = elim (end_item end x) as (λ i. end_item end x ≡ i → IsFaithfulChange lists (without_item k end i x) x k o) [
    | None ↦ λ is. no_effect _ x k o refl refl
    | Some item ↦ λ is.
        let some = end_some end x item is in
        one_effect _ x k o (λ xs. if may_take (pos 1) (length xs) then Some (popped end 1 xs) else None) there (effect.Pop k end (pos 1)) (pop_is_step k end 1 named (omega arith)) refl (left_is end 1 x (omega arith) (omega arith)) (popped_less end 1 x (omega arith) (omega arith))
  ] refl

  pub pop_some_faithful : (n : ℕ) → n ≤ length x → length x < 2 ^ 63 → IsFaithfulChange lists (without_items k end n x) x k o
  pop_some_faithful n few short =
      unless_same _ x k o (λ xs. if may_take (pos n) (length xs) then Some (popped end n xs) else None) there (effect.Pop k end (pos n)) (n == 0) refl (pop_is_step k end n named (omega arith))
      (λ h. ap (λ i. popped end i x) (none_of n h) ∙ popped_none end x)
      (λ h. left_is end n x (positive n h) few)
      (λ h. popped_less end n x (positive n h) few)
