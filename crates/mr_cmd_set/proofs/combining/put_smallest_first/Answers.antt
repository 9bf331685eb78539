use Rattle.std.proofs.Common.{◌<◌, ◌≤◌, ℕ, length, sym, subst, arith}
use Rattle.std.specs.Borrow.{Bor}
use Rattle.std.specs.FinMap.{len}
use Rattle.std.proofs.lemmas.List.Sorted.{IsPermutation-trans}
use Rattle.mr_cmd_set.specs.Members.{Members}
use Rattle.mr_cmd_set.proofs.Smallest.{least_kept, least_swapped}
use Rattle.mr_cmd_set.proofs.combining.put_smallest_first.Goals as goal
use Rattle.mr_cmd_set.proofs.combining.put_smallest_first.Goals.{then-len, else-len}

pub loop-place-preserved : goal.loop-place-preserved
loop-place-preserved c =
    let here : c.loop-place.place < length c.loop-place.sets = subst (λ (n : ℕ). c.loop-place.place < n) (sym c.loop-place.auto.sets) c.loop-place-test.true in
    let x = c.index-sets-place.result in
    let first = c.index-sets-0.result in
    elim c.if-len.branch [
      | then-len w ↦
          let less : len x.now < len first.now = omega (arith, w.if-len.true, c.len.ensures.len, c.len-in-loop-place.ensures.len) in
          rw w.sets-is record {
            same = IsPermutation-trans _ _ _ c.loop-place.invariant.same w.swap.ensures.permutation;
            smallest = least_swapped (λ (s : Bor Members). len s.now) c.loop-place.sets c.loop-place.place x first c.loop-place.auto.place here c.index-sets-place.is c.index-sets-0.is c.loop-place.invariant.smallest _ w.swap.ensures.by_index less;
          }
      | else-len w ↦
          let no_less : len first.now ≤ len x.now = omega (arith, w.if-len.false, c.len.ensures.len, c.len-in-loop-place.ensures.len) in
          rw w.sets-is record {
            same = c.loop-place.invariant.same;
            smallest = least_kept (λ (s : Bor Members). len s.now) c.loop-place.sets c.loop-place.place x first c.loop-place.auto.place here c.index-sets-place.is c.index-sets-0.is c.loop-place.invariant.smallest no_less;
          }
    ]
