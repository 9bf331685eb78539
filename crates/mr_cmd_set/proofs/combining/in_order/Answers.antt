use Rattle.std.proofs.Common.{◌≡◌, ◌∙◌, ◌++◌, ap, sym, length, take, drop, [], append-nil, take_all, arith}
use Rattle.std.specs.FinMap.{keys}
use Rattle.std.specs.List.Sorted.{IsPermutation}
use Rattle.std.proofs.Math.ListN.{drop_of_length-le}
use Rattle.std.proofs.lemmas.List.Sorted.{length_permutation}
use Rattle.mr_cmd_set.specs.Grouping.{members_of}
use Rattle.mr_cmd_set.specs.Combining.{combined}
use Rattle.mr_cmd_set.proofs.Smallest.{common_anyhow}
use Rattle.mr_cmd_set.proofs.combining.in_order.Goals as goal

pub returns-in-Intersection : goal.returns-in-Intersection
returns-in-Intersection c =
    let before = c.args.sets.items in
    let after = c.put_smallest_first.new.sets in
    let moved : IsPermutation before after = rw c.deref_mut.ensures.value at c.put_smallest_first.ensures.same in
    let as_long : length after ≡ length before = length_permutation before after moved in
    let none_behind : drop (length after) before ≡ [] = drop_of_length-le before (omega (arith, as_long)) in
    let whole : take c.args.sets.len (after ++ drop (length after) before) ≡ after = ap (λ xs. take c.args.sets.len (after ++ xs)) none_behind ∙ ap (take c.args.sets.len) (append-nil after) ∙ take_all c.args.sets.len after (omega (arith, as_long, c.args.sets.ok.0)) in
    ap (λ ss. keys (combined c.args.operation (members_of ss))) whole
    ∙ ap (λ op. keys (combined op (members_of after))) c.in-Intersection.is
    ∙ common_anyhow before after moved
    ∙ sym (ap (λ op. keys (combined op (members_of before))) c.in-Intersection.is)
