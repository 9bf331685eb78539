-- Parts of lists that are turned or limited, and replies to pairs one by one.
use Rattle.std.proofs.Common.{◌≡◌, ℕ, suc, ◌+◌, ◌-◌, ◌*◌, ◌<◌, ◌≤◌, length, take, drop, append_assoc, map, List, [], ◌∷◌, ◌++◌, Option, Some, None, refl, sym, ◌∙◌, ap, subst, arith}
use Rattle.std.specs.Prelude.{ℤ, pos, negsuc, true, false, int_lt, unsigned_abs, min, reverse, slice_range}
use Rattle.std.specs.List.{flat_map}
use Rattle.std.proofs.lemmas.List.{reverse-append, length-reverse, length-drop, length-take-le, drop-drop, drop-take, take-take, drop_at, take_at, take_min, drop_min, take_rest}
use Rattle.std.proofs.lemmas.List.Edits.{split_between}
use Rattle.std.proofs.lemmas.Bool.{ltb-true}
use Rattle.std.specs.FinMap.{len}
use Rattle.mr_map.specs.Bytes.{Bytes}
use Rattle.mr_bytes.specs.Window.{window_of, windowed}
use Rattle.mr_zset.specs.declared.pair.Pair.{Pair}
use Rattle.mr_zset.specs.Pairs.{pairs_of, lent_pair}
use Rattle.mr_zset_options.specs.declared.choices.Order.{Order}
use Rattle.mr_zset_options.specs.declared.choices.Order.TheVariants.{Ascending, Descending}
use Rattle.mr_zset_options.specs.declared.choices.RangeReply.TheVariants.{Members, WithScores}
use Rattle.mr_zset_options.specs.declared.choices.Limit.{Limit}
use Rattle.mr_cmd_zset.specs.Scores.{Scores, pairs_in}
use Rattle.mr_cmd_zset.specs.Ranges.{ordered, ranked, passed, at_most, limited, pair_replies}

-- places counted from the end, in the list turned

pub reverse_range : {X : Type 0} (xs : List X) (i j s e : ℕ) → i + e ≡ length xs → j + s ≡ length xs → s ≤ e → reverse (slice_range xs i j) ≡ slice_range (reverse xs) s e
reverse_range xs i j s e from to up =
    let front = take i xs in
    let part = slice_range xs i j in
    let back = drop j xs in
    let turned : reverse xs ≡ reverse back ++ (reverse part ++ reverse front) =
    ap reverse (split_between xs i j (omega arith)) ∙ reverse-append front (part ++ back)
    ∙ ap (λ ys. ys ++ reverse front) (reverse-append part back) ∙ append_assoc (reverse back) (reverse part) (reverse front) in
    let behind : length (reverse back) ≡ s = length-reverse back ∙ length-drop j xs ∙ omega arith in
    let rest : length (drop i xs) ≡ length xs - i = length-drop i xs in
    let long : length (reverse part) ≡ e - s = length-reverse part ∙ length-take-le (j - i) (drop i xs) (omega arith) ∙ omega arith in
    sym (ap (λ ys. take (e - s) (drop s ys)) turned ∙ ap (take (e - s)) (drop_at (reverse back) (reverse part ++ reverse front) s behind) ∙ take_at (reverse part) (reverse front) (e - s) long)

pub turned_range : (order : Order) (pairs : List (Bytes × ℤ)) (count start end : ℕ) → order ≡ Descending → length pairs ≡ count → start ≤ end → end ≤ count
    → ordered order (slice_range pairs (count - end) (count - start)) ≡ slice_range (ordered order pairs) start end
turned_range order pairs count start end turned long up within =
    let P : Order → Type 0 = λ q. ordered q (slice_range pairs (count - end) (count - start)) ≡ slice_range (ordered q pairs) start end in
    subst P (sym turned) (reverse_range pairs (count - end) (count - start) start end (omega arith) (omega arith) up)

length-ordered : (order : Order) (pairs : List (Bytes × ℤ)) → length (ordered order pairs) ≡ length pairs
length-ordered Ascending pairs = refl
length-ordered Descending pairs = length-reverse pairs

-- a part of a part

pub part_of_part : {X : Type 0} (xs : List X) (first past s e : ℕ) → s ≤ e → e ≤ past - first → slice_range xs (first + s) (first + e) ≡ slice_range (slice_range xs first past) s e
part_of_part xs first past s e up within =
    let rest = drop first xs in
    let long : past - first ≡ s + ((past - first) - s) = omega arith in
    let count : (first + e) - (first + s) ≡ e - s = omega arith in
    ap (λ n. take n (drop (first + s) xs)) count ∙ ap (take (e - s)) (sym (drop-drop s first xs))
    ∙ sym (take-take (e - s) ((past - first) - s) (drop s rest) (omega arith))
    ∙ ap (take (e - s)) (sym (drop-take s ((past - first) - s) rest) ∙ ap (λ n. drop s (take n rest)) (sym long))

-- what a limit leaves

dropped : {X : Type 0} (xs : List X) (o s n : ℕ) → length xs ≡ n → s ≡ min n o → drop s xs ≡ drop o xs
dropped xs o s n e f = ap (λ k. drop k xs) (let turned : s ≡ min o (length xs) = omega arith in turned) ∙ drop_min o xs

rest_passed : {X : Type 0} (xs : List X) (o s n k : ℕ) → length xs ≡ n → s ≡ min n o → slice_range xs s n ≡ at_most (negsuc k) (passed (pos o) xs)
rest_passed xs o s n k e f = ap (λ m. take (m - s) (drop s xs)) (sym e) ∙ take_rest xs s ∙ dropped xs o s n e f

some_passed : {X : Type 0} (xs : List X) (o s n c m : ℕ) → length xs ≡ n → s ≡ min n o → m ≡ min (n - s) c → slice_range xs s (s + m) ≡ at_most (pos c) (passed (pos o) xs)
some_passed xs o s n c m e f g =
    let long : length (drop s xs) ≡ length xs - s = length-drop s xs in
    let many : (s + m) - s ≡ min c (length (drop s xs)) = omega arith in
    ap (λ k. take k (drop s xs)) many ∙ take_min c (drop s xs) ∙ ap (take c) (dropped xs o s n e f)

limit_is : (limit : Option Limit) (l : Limit) (offset count : ℤ) (pairs : List (Bytes × ℤ)) → limit ≡ Some l → offset ≡ l.offset → count ≡ l.count → at_most count (passed offset pairs) ≡ limited limit pairs
limit_is limit l offset count pairs found from many =
    ap (λ z. at_most z (passed offset pairs)) many ∙ ap (λ z. at_most l.count (passed z pairs)) from ∙ ap (λ (o : Option Limit). limited o pairs) (sym found)

pub rest_limited : (limit : Option Limit) (l : Limit) (offset count : ℤ) (pairs : List (Bytes × ℤ)) (n s : ℕ) → limit ≡ Some l → offset ≡ l.offset → count ≡ l.count → length pairs ≡ n
    → int_lt offset (pos 0) ≡ false → s ≡ min n (unsigned_abs offset) → int_lt count (pos 0) ≡ true → slice_range pairs s n ≡ limited limit pairs
rest_limited limit l (pos o) (negsuc k) pairs n s found from many long up start below = rest_passed pairs o s n k long start ∙ limit_is limit l (pos o) (negsuc k) pairs found from many
rest_limited limit l (pos o) (pos c) pairs n s found from many long up start below = let lie : c < 0 = ltb-true c 0 below in absurd (omega arith)
rest_limited limit l (negsuc o) count pairs n s found from many long up start below = cc

pub some_limited : (limit : Option Limit) (l : Limit) (offset count : ℤ) (pairs : List (Bytes × ℤ)) (n s m : ℕ) → limit ≡ Some l → offset ≡ l.offset → count ≡ l.count → length pairs ≡ n
    → int_lt offset (pos 0) ≡ false → s ≡ min n (unsigned_abs offset) → int_lt count (pos 0) ≡ false → m ≡ min (n - s) (unsigned_abs count) → slice_range pairs s (s + m) ≡ limited limit pairs
some_limited limit l (pos o) (pos c) pairs n s m found from many long up start over part = some_passed pairs o s n c m long start part ∙ limit_is limit l (pos o) (pos c) pairs found from many
some_limited limit l (pos o) (negsuc k) pairs n s m found from many long up start over part = cc
some_limited limit l (negsuc o) count pairs n s m found from many long up start over part = cc

pairs_ordered : (order : Order) (scores : Scores) → ordered order (pairs_of scores) ≡ pairs_in order scores
pairs_ordered Ascending scores = refl
pairs_ordered Descending scores = refl

pub ranked_part : (first last : ℤ) (order : Order) (scores : Scores) (f l start end : ℕ) → Some (f, l) ≡ window_of first last (len scores)
    → ordered order (slice_range (pairs_of scores) start end) ≡ slice_range (ordered order (pairs_of scores)) f (l + 1)
    → ordered order (slice_range (pairs_of scores) start end) ≡ ranked first last order scores
ranked_part first last order scores f l start end e same =
    same ∙ ap (λ ps. slice_range ps f (l + 1)) (pairs_ordered order scores) ∙ ap (λ w. windowed w (pairs_in order scores)) e

pub none_ranked : (first last : ℤ) (order : Order) (scores : Scores) → None ≡ window_of first last (len scores) → [] ≡ ranked first last order scores
none_ranked first last order scores e = ap (λ w. windowed w (pairs_in order scores)) e

-- a limit's places of the order are those of the pairs as they stand
pub scored_part : (limit : Option Limit) (order : Order) (pairs : List (Bytes × ℤ)) (count a b s e : ℕ) → length pairs ≡ count
    → ((ps : List (Bytes × ℤ)) → length ps ≡ count → ordered order (slice_range ps a b) ≡ slice_range (ordered order ps) s e)
    → ((ps : List (Bytes × ℤ)) → length ps ≡ count → slice_range ps s e ≡ limited limit ps)
    → ordered order (slice_range pairs a b) ≡ limited limit (ordered order pairs)
scored_part limit order pairs count a b s e long turned cut = turned pairs long ∙ cut (ordered order pairs) (length-ordered order pairs ∙ long)

-- how many replies there are

pub one_each : (ps : List Pair) → length (flat_map (pair_replies Members) (map lent_pair ps)) ≡ length ps
one_each [] = refl
one_each (p ∷ ps) = ap suc (one_each ps)

pub two_each : (ps : List Pair) → length (flat_map (pair_replies WithScores) (map lent_pair ps)) ≡ 2 * length ps
two_each [] = refl
two_each (p ∷ ps) = let rest : length (flat_map (pair_replies WithScores) (map lent_pair ps)) ≡ 2 * length ps = two_each ps in omega arith
