-- Where a member stands in an order.
use Rattle.std.proofs.Common.{◌≡◌, ℕ, ◌+◌, ◌-◌, ◌<◌, length, get_or, List, Some, ◌∙◌, ap, arith}
use Rattle.std.specs.Prelude.{ℤ, reverse, slice_get, count_by, option_map}
use Rattle.std.specs.Option.{option_and_then}
use Rattle.std.specs.FinMap.{get, entries, len}
use Rattle.std.proofs.lemmas.List.{length-reverse, get_or-reverse}
use Rattle.std.proofs.lemmas.Option.{slice_get-get_or, slice_get_within, get_or_from_slice_get}
use Rattle.mr_map.specs.Bytes.{Bytes}
use Rattle.mr_zset.specs.Pairs.{pair_lt, pairs_of, rank_of}
use Rattle.mr_zset.proofs.PairLemmas.{length-pairs_of, place-rank}
use Rattle.mr_zset_options.specs.declared.choices.Order.{Order}
use Rattle.mr_zset_options.specs.declared.choices.Order.TheVariants.{Ascending, Descending}
use Rattle.mr_cmd_zset.specs.Scores.{Scores, pairs_in}
use Rattle.mr_cmd_zset.specs.Telling.{counted_from, place_of}

turned_get : {X : Type 0} (xs : List X) (i j : ℕ) (x : X) → i + j + 1 ≡ length xs → slice_get xs i ≡ Some x → slice_get (reverse xs) j ≡ Some x
turned_get xs i j x e found =
    let long : length (reverse xs) ≡ length xs = length-reverse xs in
    let back : length xs - 1 - j ≡ i = omega arith in
    slice_get-get_or (reverse xs) j x (omega arith)
    ∙ ap (λ y. Some y) (get_or-reverse xs j x (omega arith) ∙ ap (λ k. get_or xs k x) back ∙ get_or_from_slice_get xs i x x found)

rank_in : Scores → Bytes → ℤ → ℕ
rank_in scores k z = count_by (λ p. pair_lt p (k, z)) (entries scores)

rank_is : (scores : Scores) (k : Bytes) (z : ℤ) → get scores k ≡ Some z → rank_of scores k ≡ Some (rank_in scores k z)
unfolding rank_in
rank_is scores k z e = ap (option_map (λ s. count_by (λ p. pair_lt p (k, s)) (entries scores))) e

stands : (scores : Scores) (k : Bytes) (z : ℤ) → get scores k ≡ Some z → slice_get (pairs_of scores) (rank_in scores k z) ≡ Some (k, z)
unfolding rank_in
stands scores k z e = place-rank scores k z e

pub stands_in : (order : Order) (scores : Scores) (k : Bytes) (z : ℤ) → get scores k ≡ Some z → option_and_then (slice_get (pairs_in order scores)) (place_of order k scores) ≡ Some (k, z)
stands_in Ascending scores k z e =
    ap (λ r. option_and_then (slice_get (pairs_in Ascending scores)) (option_map (counted_from Ascending (len scores)) r)) (rank_is scores k z e) ∙ stands scores k z e
stands_in Descending scores k z e =
    let long : length (pairs_of scores) ≡ len scores = length-pairs_of scores in
    let within : rank_in scores k z < length (pairs_of scores) = slice_get_within (pairs_of scores) (rank_in scores k z) (k, z) (stands scores k z e) in
    ap (λ r. option_and_then (slice_get (pairs_in Descending scores)) (option_map (counted_from Descending (len scores)) r)) (rank_is scores k z e)
    ∙ turned_get (pairs_of scores) (rank_in scores k z) (len scores - 1 - rank_in scores k z) (k, z) (omega arith) (stands scores k z e)
