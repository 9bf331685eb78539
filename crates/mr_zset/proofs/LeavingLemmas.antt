-- Many pairs that go, one by one or from place to place.
use Rattle.std.proofs.Common.{◌≡◌, ℕ, suc, ◌+◌, ◌-◌, ◌<◌, ◌≤◌, length, get_or, take, drop, map, List, [], ◌∷◌, ◌++◌, Bool, true, false, Some, None, not, cond, refl, sym, subst, ◌∙◌, ap, ap₂, inl, inr, arith, length-append}
use Rattle.std.specs.Prelude.{ℤ, filter, slice_range}
use Rattle.std.specs.declared.cmp.Ordering.{Ordering}
use Rattle.std.specs.declared.cmp.Ordering.TheVariants.{Less, Equal, Greater}
use Rattle.std.specs.Ordering.{is_eq, is_gt, ordering_reverse}
use Rattle.std.specs.FinMap.{get, remove, len}
use Rattle.std.specs.List.{AllWithin}
use Rattle.std.proofs.lemmas.Bool.{cases_order}
use Rattle.std.proofs.lemmas.Cmp.{tied_itself, upto}
use Rattle.std.proofs.lemmas.List.{get_or-drop, get_or-take, get_or_default, length-drop, length-map, length-take-le, map-append, nil_from_length}
use Rattle.std.proofs.lemmas.List.Edits.{split_between}
use Rattle.std.proofs.lemmas.List.Elements.{filter-append}
use Rattle.mr_map.specs.Bytes.{ByteMap}
use Rattle.mr_zset.specs.declared.entry.Entry.{Entry}
use Rattle.mr_zset.specs.declared.pair.Pair.{Pair}
use Rattle.mr_zset.specs.Leaving.{without_pairs, AreBetween, AreStoredBesides, HaveRange, IsApart}
use Rattle.mr_zset.specs.Pairs.{is_other, pair_cmp, lent_pair}
use Rattle.mr_zset.specs.Stored.{stored, AreStored}
use Rattle.mr_zset.proofs.PairLemmas.{exact_pair, length-pairs_of, pairs_total, HasScores-remove}
use Rattle.mr_zset.proofs.StoredChanges.{remove_absent}
use Rattle.mr_zset.proofs.StoredLemmas.{taken_out}

abbrev P : Type 0
P = List ℕ × ℤ

-- ---- filters

filter_yes : (p : P → Bool) (x : P) (xs : List P) → p x ≡ true → filter p (x ∷ xs) ≡ x ∷ filter p xs
filter_yes p x xs e = ap (λ b. cond b (x ∷ filter p xs) (filter p xs)) e

filter_no : (p : P → Bool) (x : P) (xs : List P) → p x ≡ false → filter p (x ∷ xs) ≡ filter p xs
filter_no p x xs e = ap (λ b. cond b (x ∷ filter p xs) (filter p xs)) e

filter_swap : (p q : P → Bool) (xs : List P) → filter p (filter q xs) ≡ filter q (filter p xs)
filter_swap p q [] = refl
filter_swap p q (x ∷ xs) = by (filter_swap p q xs) (p x) (q x) refl refl where
  by : filter p (filter q xs) ≡ filter q (filter p xs) → (a b : Bool) → p x ≡ a → q x ≡ b → filter p (filter q (x ∷ xs)) ≡ filter q (filter p (x ∷ xs))
  by rest true true e h =
      ap (filter p) (filter_yes q x xs h) ∙ filter_yes p x (filter q xs) e ∙ ap (λ l. x ∷ l) rest
      ∙ sym (filter_yes q x (filter p xs) h) ∙ ap (filter q) (sym (filter_yes p x xs e))
  by rest true false e h = ap (filter p) (filter_no q x xs h) ∙ rest ∙ sym (filter_no q x (filter p xs) h) ∙ ap (filter q) (sym (filter_yes p x xs e))
  by rest false true e h = ap (filter p) (filter_yes q x xs h) ∙ filter_no p x (filter q xs) e ∙ rest ∙ ap (filter q) (sym (filter_no p x xs e))
  by rest false false e h = ap (filter p) (filter_no q x xs h) ∙ rest ∙ ap (filter q) (sym (filter_no p x xs e))

pub without_filter : (gone : List P) (q : P) (ps : List P) → without_pairs gone (filter (is_other q) ps) ≡ filter (is_other q) (without_pairs gone ps)
without_filter [] q ps = refl
without_filter (p ∷ gone) q ps = ap (without_pairs gone) (filter_swap (is_other p) (is_other q) ps) ∙ without_filter gone q (filter (is_other p) ps)

-- one pair more goes
pub without_push : (gone : List P) (q : P) (ps : List P) → without_pairs (gone ++ q ∷ []) ps ≡ filter (is_other q) (without_pairs gone ps)
without_push [] q ps = refl
without_push (p ∷ gone) q ps = without_push gone q (filter (is_other p) ps)

without_append : (gone xs ys : List P) → without_pairs gone (xs ++ ys) ≡ without_pairs gone xs ++ without_pairs gone ys
without_append [] xs ys = refl
without_append (p ∷ gone) xs ys = ap (without_pairs gone) (filter-append (is_other p) xs ys) ∙ without_append gone (filter (is_other p) xs) (filter (is_other p) ys)

filter_all : (p : P → Bool) (es : List Entry) → ((k : ℕ) (d : Entry) → k < length es → p (stored (get_or es k d)) ≡ true) → filter p (map stored es) ≡ map stored es
filter_all p [] h = refl
filter_all p (e ∷ es) h = filter_yes p (stored e) (map stored es) (h 0 e (omega arith)) ∙ ap (λ l. stored e ∷ l) (filter_all p es (λ k d lt. h (suc k) d (omega arith)))

-- pairs that are others than those that go
without_apart : (gone : List Pair) (es : List Entry) → ((k : ℕ) (d : Entry) → k < length es → IsApart gone (stored (get_or es k d))) → without_pairs (map lent_pair gone) (map stored es) ≡ map stored es
without_apart [] es h = refl
without_apart (g ∷ gone) es h =
    ap (without_pairs (map lent_pair gone)) (filter_all (is_other (lent_pair g)) es (λ k d lt. h k d lt 0 g (omega arith)))
    ∙ without_apart gone es (λ k d lt j f below. h k d lt (suc j) f (omega arith))

-- ---- pairs that have a range of places

module _ (gone : List Pair) (es : List Entry) (first past left : ℕ) (r : HaveRange gone es first past) (is : left ≡ length (without_pairs (map lent_pair gone) (map stored es))) (all : length es - (past - first) ≡ left) where
  front_stays : without_pairs (map lent_pair gone) (map stored (take first es)) ≡ map stored (take first es)
  front_stays =
      let ordered = r.ordered in
      let within = r.within in
      let long = length-take-le first es (omega arith) in
      without_apart gone (take first es) (λ k d lt. (let below : k < first = omega arith in subst (λ e. IsApart gone (stored e)) (sym (get_or-take first es k d below)) (r.front k d (omega arith) below)))

  back_stays : without_pairs (map lent_pair gone) (map stored (drop past es)) ≡ map stored (drop past es)
  back_stays =
      let within = r.within in
      let long = length-drop past es in
      without_apart gone (drop past es) (λ k d lt. subst (λ e. IsApart gone (stored e)) (sym (get_or-drop past es k d)) (r.back (past + k) d (omega arith) (omega arith)))

  pub range_goes : map stored (take first es ++ drop past es) ≡ without_pairs (map lent_pair gone) (map stored es)
  range_goes =
      let g : List P = map lent_pair gone in
      let front : List Entry = take first es in
      let middle : List Entry = slice_range es first past in
      let back : List Entry = drop past es in
      let ordered = r.ordered in
      let within = r.within in
      let parts : map stored es ≡ map stored front ++ (map stored middle ++ map stored back) =
      (ap (map stored) (split_between es first past ordered) ∙ map-append stored front (middle ++ back) ∙ ap (λ l. map stored front ++ l) (map-append stored middle back)) in
      let rest : List P = without_pairs g (map stored middle) in
      let whole : without_pairs g (map stored es) ≡ map stored front ++ (rest ++ map stored back) =
      (ap (without_pairs g) parts ∙ without_append g (map stored front) (map stored middle ++ map stored back)
      ∙ ap₂ (λ k l. k ++ l) front_stays (without_append g (map stored middle) (map stored back) ∙ ap (λ l. rest ++ l) back_stays)) in
      let count = ap length whole in
      let one = length-append (map stored front) (rest ++ map stored back) in
      let two = length-append rest (map stored back) in
      let three = length-map front stored in
      let four = length-map back stored in
      let five = length-take-le first es (omega arith) in
      let six = length-drop past es in
      let none : length rest ≡ 0 = omega arith in
      map-append stored front back ∙ ap (λ l. map stored front ++ (l ++ map stored back)) (sym (nil_from_length rest none)) ∙ sym whole

-- ---- pairs between two others

pub not_more_itself : (p : P) → is_gt (pair_cmp p p) ≡ false
not_more_itself p = ap is_gt (tied_itself pairs_total p)

-- one that is greater isn't less
pub not_less : (p q : P) → is_gt (pair_cmp p q) ≡ true → is_gt (pair_cmp q p) ≡ false
not_less p q e = by (pair_cmp p q) (pair_cmp q p) (pairs_total.antisymm q p) e where
  by : (r s : Ordering) → s ≡ ordering_reverse r → is_gt r ≡ true → is_gt s ≡ false
  by Less s e h = cc
  by Equal s e h = cc
  by Greater s e h = ap is_gt e

below_least : (least g y : P) → is_gt (pair_cmp least g) ≡ false → pair_cmp least y ≡ Greater → is_other g y ≡ true
below_least least g y le more = elim (pair_cmp y g) as (λ r. pair_cmp y g ≡ r → not (is_eq r) ≡ true) [
  | Less ↦ λ e. refl
  | Equal ↦ λ e. (let wrong : true ≡ false = sym (ap is_gt more) ∙ ap (λ z. is_gt (pair_cmp least z)) (exact_pair y g e) ∙ le in cc)
  | Greater ↦ λ e. refl
] refl

above_greatest : (greatest g y : P) → is_gt (pair_cmp g greatest) ≡ false → pair_cmp greatest y ≡ Less → is_other g y ≡ true
above_greatest greatest g y le less = elim (pair_cmp y g) as (λ r. pair_cmp y g ≡ r → not (is_eq r) ≡ true) [
  | Less ↦ λ e. refl
  | Equal ↦ λ e. (
      let more : pair_cmp y greatest ≡ Greater = pairs_total.antisymm y greatest ∙ ap ordering_reverse less in
      let wrong : true ≡ false = sym (ap is_gt more) ∙ ap (λ z. is_gt (pair_cmp z greatest)) (exact_pair y g e) ∙ le in
      cc)
  | Greater ↦ λ e. refl
] refl

pub have_range : (least greatest : Pair) (gone : List Pair) (es : List Entry) (first past : ℕ) → AreBetween least greatest gone (length gone) → first ≤ past → past ≤ length es → AllWithin (λ y. pair_cmp (lent_pair least) (stored y) ≡ Greater) es 0 first → AllWithin (λ y. pair_cmp (lent_pair greatest) (stored y) ≡ Less) es past (length es) → HaveRange gone es first past
have_range least greatest gone es first past b ordered within front back = record {
  ordered = ordered;
  within = within;
  front = λ k d lo hi j f lt. below_least (lent_pair least) (lent_pair (get_or gone j f)) (stored (get_or es k d)) (b.low j f lt) (front k d lo hi);
  back = λ k d lo hi j f lt. above_greatest (lent_pair greatest) (lent_pair (get_or gone j f)) (stored (get_or es k d)) (b.high j f lt) (back k d lo hi);
}

pub between_none : (least greatest : Pair) (ps : List Pair) → AreBetween least greatest ps 0
between_none least greatest ps = record { low = λ k d lt. absurd (omega arith); high = λ k d lt. absurd (omega arith) }

-- one pair more
pub between_more : (least greatest low high x : Pair) (ps : List Pair) (i : ℕ) → AreBetween least greatest ps i → i < length ps → x ≡ get_or ps i x
    → is_gt (pair_cmp (lent_pair low) (lent_pair least)) ≡ false → is_gt (pair_cmp (lent_pair low) (lent_pair x)) ≡ false → is_gt (pair_cmp (lent_pair greatest) (lent_pair high)) ≡ false → is_gt (pair_cmp (lent_pair x) (lent_pair high)) ≡ false
    → AreBetween low high ps (i + 1)
between_more least greatest low high x ps i b within is low_old low_new high_old high_new = record {
  low = λ k d lt. elim (cases_order k i) [
    | inl same ↦ subst (λ n. is_gt (pair_cmp (lent_pair low) (lent_pair (get_or ps n d))) ≡ false) (sym same) (subst (λ y. is_gt (pair_cmp (lent_pair low) (lent_pair y)) ≡ false) (is ∙ get_or_default ps i x d within) low_new)
    | inr (inl less) ↦ upto pairs_total (lent_pair low) (lent_pair least) (lent_pair (get_or ps k d)) low_old (b.low k d less)
    | inr (inr more) ↦ absurd (omega arith)
  ];
  high = λ k d lt. elim (cases_order k i) [
    | inl same ↦ subst (λ n. is_gt (pair_cmp (lent_pair (get_or ps n d)) (lent_pair high)) ≡ false) (sym same) (subst (λ y. is_gt (pair_cmp (lent_pair y) (lent_pair high)) ≡ false) (is ∙ get_or_default ps i x d within) high_new)
    | inr (inl less) ↦ upto pairs_total (lent_pair (get_or ps k d)) (lent_pair greatest) (lent_pair high) (b.high k d less) high_old
    | inr (inr more) ↦ absurd (omega arith)
  ];
}

-- ---- members that go, and their pairs

pub besides_none : (scores : ByteMap ℤ) (pairs : List Entry) → AreStored scores pairs → AreStoredBesides [] scores pairs
besides_none scores pairs all = record { within = all.within; same = all.same }

module _ (gone : List Pair) (m n : ByteMap ℤ) (es : List Entry) (all : AreStoredBesides gone m es) (k : List ℕ) (is : n ≡ remove m k) where
  pub besides_taken : (z : ℤ) (more : List Pair) (fs : List Entry) → get m k ≡ Some z → without_pairs (map lent_pair more) (map stored fs) ≡ filter (is_other (k, z)) (without_pairs (map lent_pair gone) (map stored es)) → AreStoredBesides more n fs
  besides_taken z more fs there out = subst (λ (x : ByteMap ℤ). AreStoredBesides more x fs) (sym is) (record {
    within = HasScores-remove m k all.within;
    same = out ∙ ap (filter (is_other (k, z))) all.same ∙ taken_out m k z there;
  })

  pub besides_absent : get m k ≡ None → AreStoredBesides gone n es
  besides_absent absent = subst (λ (x : ByteMap ℤ). AreStoredBesides gone x es) (sym (is ∙ remove_absent m k absent)) all

module _ (gone : List Pair) (m : ByteMap ℤ) (es : List Entry) (all : AreStoredBesides gone m es) where
  pub besides_stored : (fs : List Entry) → map stored fs ≡ without_pairs (map lent_pair gone) (map stored es) → AreStored m fs
  besides_stored fs is = record { within = all.within; same = is ∙ all.same }

  -- so many are left
  pub besides_left : (left : ℕ) → left ≡ len m → left ≡ length (without_pairs (map lent_pair gone) (map stored es))
  besides_left left is = is ∙ sym (length-pairs_of m) ∙ ap length (sym all.same)
