-- Pairs in the order of their firsts, and the map that they make.
use Rattle.std.proofs.Common.{◌≡◌, ◌≢◌, ℕ, zero, suc, ◌<◌, ◌≤◌, List, [], ◌∷◌, ◌++◌, length, set, Bool, true, false, ◌&&◌, not, Option, Some, None, refl, sym, ap, subst, ◌∙◌, arith}
use Rattle.std.specs.Prelude.{T, cond, is_some}
use Rattle.std.specs.Cmp.{eq_by_cmp_equiv}
use Rattle.std.specs.FinMap as finite
use Rattle.std.specs.FinMap.{find, is_sorted}
use Rattle.std.specs.FinMap.Entries.{by_order, below_all, put, where_key, find-put, find-where_key, is_sorted-put, is_sorted-where_key}
use Rattle.std.specs.List.{insert, remove}
use Rattle.std.specs.Ordering.{is_eq, is_lt, ordering_reverse}
use Rattle.std.specs.declared.cmp.Ordering.{Ordering}
use Rattle.std.specs.declared.cmp.Ordering.TheVariants.{Less, Equal, Greater}
use Rattle.std.proofs.lemmas.Cmp.{nat_list_cmp_total, tied_itself}
use Rattle.std.proofs.lemmas.List.{append_assoc}
use Rattle.std.proofs.lemmas.Map.Lookups.{exact_bytes}
use Rattle.mr_map.specs.Bytes.{bytes_cmp, Bytes, ByteMap}
use Rattle.mr_map.proofs.Conditions.{first_holds, second_holds}
use Rattle.mr_packed.specs.Pairs.{AreLess, IsAt, IsBefore, IsFirstAt, IsNone, pair_at}
use Rattle.mr_value.specs.Filling.{with_pairs}
use Rattle.mr_value.proofs.SetLemmas.{is_same, same_bytes}

abbrev Pairs : Type 0
Pairs = List (Bytes × Bytes)

-- the map that pairs make
abbrev made : Pairs → ByteMap Bytes
made ps = finite.from_entries ps

abbrev pub AreSorted : Pairs → Type 0
AreSorted ps = T (is_sorted bytes_cmp ps)

less : (o : Ordering) → T (is_lt o) → o ≡ Less
less Less p = refl
less Equal p = absurd p
less Greater p = absurd p

-- how two bytes stand to each other, seen from the other side
turned : (q x : Bytes) (r : Ordering) → bytes_cmp x q ≡ r → bytes_cmp q x ≡ ordering_reverse r
turned q x r e = nat_list_cmp_total.antisymm q x ∙ ap ordering_reverse e

itself : (q : Bytes) → is_same q q ≡ true
itself q = ap is_eq (tied_itself nat_list_cmp_total q)

-- other bytes
apart : (q x : Bytes) → x ≢ q → is_same q x ≡ false
apart q x other = by (is_same q x) refl where
  by : (b : Bool) → is_same q x ≡ b → is_same q x ≡ false
  by true e = absurd (other (sym (same_bytes q x e)))
  by false e = e

both_ways : (q k : Bytes) → is_same q k ≡ is_same k q
both_ways q k = (eq_by_cmp_equiv nat_list_cmp_total).symm q k

-- ---- what is found

found_at : (q : Bytes) (ps : Pairs) (at : ℕ) → at < length ps → (pair_at ps at).0 ≡ q → IsNone ps q at → find bytes_cmp q ps ≡ Some (pair_at ps at).1
found_at q [] at within here none = absurd (omega arith)
found_at q (p ∷ ps) zero within here none =
    ap (λ b. cond b (Some p.1) (find bytes_cmp q ps)) (ap (λ k. is_same q k) here ∙ itself q)
found_at q (p ∷ ps) (suc at) within here none =
    ap (λ b. cond b (Some p.1) (find bytes_cmp q ps)) (apart q p.0 (none zero (omega arith)))
    ∙ found_at q ps at (omega arith) here (λ i lt. none (suc i) (omega arith))

missed : (q : Bytes) (ps : Pairs) → IsNone ps q (length ps) → find bytes_cmp q ps ≡ None
missed q [] none = refl
missed q (p ∷ ps) none =
    ap (λ b. cond b (Some p.1) (find bytes_cmp q ps)) (apart q p.0 (none zero (omega arith)))
    ∙ missed q ps (λ i lt. none (suc i) (omega arith))

pub get_made : (ps : Pairs) (q : Bytes) → finite.get (made ps) q ≡ find bytes_cmp q ps
get_made ps q = finite.get-from_entries nat_list_cmp_total ps q

pub value_found : (q : Bytes) (ps : Pairs) (at : ℕ) → IsFirstAt ps q at → finite.get (made ps) q ≡ Some (pair_at ps at).1
value_found q ps at is = get_made ps q ∙ found_at q ps at is.within is.first_is is.no_other

pub value_missed : (q : Bytes) (ps : Pairs) → IsNone ps q (length ps) → finite.get (made ps) q ≡ None
value_missed q ps none = get_made ps q ∙ missed q ps none

-- ---- order

-- what comes after x in order comes after q
behind : (q x : Bytes) (ps : Pairs) → ((y : Bytes) → bytes_cmp x y ≡ Less → bytes_cmp q y ≡ Less) → T (below_all bytes_cmp x ps) → find bytes_cmp q ps ≡ None
behind q x [] lesser below = refl
behind q x (p ∷ ps) lesser below =
    ap (λ r. cond (is_eq r) (Some p.1) (find bytes_cmp q ps)) (lesser p.0 (less _ (first_holds _ _ below)))
    ∙ behind q x ps lesser (second_holds _ _ below)

-- a field isn't among those that come after it
not_before : (q : Bytes) (ps : Pairs) (at : ℕ) → at ≤ length ps → AreLess ps q at → (at < length ps → bytes_cmp (pair_at ps at).0 q ≡ Greater) → AreSorted ps → find bytes_cmp q ps ≡ None
not_before q [] at within lesser greater sorted = refl
not_before q (p ∷ ps) zero within lesser greater sorted =
    let here = turned q p.0 Greater (greater (omega arith)) in
    ap (λ r. cond (is_eq r) (Some p.1) (find bytes_cmp q ps)) here
    ∙ behind q p.0 ps (λ y after. nat_list_cmp_total.trans q p.0 y here after) (first_holds _ _ sorted)
not_before q (p ∷ ps) (suc at) within lesser greater sorted =
    ap (λ r. cond (is_eq r) (Some p.1) (find bytes_cmp q ps)) (turned q p.0 Less (lesser zero (omega arith)))
    ∙ not_before q ps at (omega arith) (λ i lt. lesser (suc i) (omega arith)) (λ lt. greater (omega arith)) (second_holds _ _ sorted)

-- what is less is other
none_of_less : (q : Bytes) (ps : Pairs) (at : ℕ) → AreLess ps q at → IsNone ps q at
none_of_less q ps at lesser i lt same =
    let tied : Less ≡ Equal = sym (lesser i lt) ∙ ap (λ k. bytes_cmp k q) same ∙ tied_itself nat_list_cmp_total q in
    cc

pub there_at : (q : Bytes) (ps : Pairs) (at : ℕ) → IsAt ps q at → finite.contains_key (made ps) q ≡ true
there_at q ps at is = ap is_some (get_made ps q ∙ found_at q ps at is.within is.first_is (none_of_less q ps at is.less))

pub not_there : (q : Bytes) (ps : Pairs) (at : ℕ) → IsBefore ps q at → AreSorted ps → finite.contains_key (made ps) q ≡ false
not_there q ps at is sorted = ap is_some (get_made ps q ∙ not_before q ps at is.within is.less is.greater sorted)

-- maps that say the same of each field are one
same : (m n : ByteMap Bytes) → ((q : Bytes) → finite.get m q ≡ finite.get n q) → m ≡ n
same m n is = finite.same_map nat_list_cmp_total exact_bytes m n is

-- pairs in order are the entries of their map
pub entries_made : (ps : Pairs) → AreSorted ps → finite.entries (made ps) ≡ ps
entries_made ps sorted =
    ap finite.entries (same (made ps) (finite.from_sorted ps) (λ q. get_made ps q ∙ sym (finite.get-from_sorted bytes_cmp ps q sorted)))
    ∙ finite.entries-from_sorted bytes_cmp ps sorted

pub len_made : (ps : Pairs) → AreSorted ps → finite.len (made ps) ≡ length ps
len_made ps sorted = finite.len-entries (made ps) ∙ ap length (entries_made ps sorted)

-- ---- a pair comes

inserted : (q v : Bytes) (ps : Pairs) (at : ℕ) → at ≤ length ps → AreLess ps q at → (at < length ps → bytes_cmp (pair_at ps at).0 q ≡ Greater) → insert ps at (q, v) ≡ put bytes_cmp q v ps
inserted q v [] zero within lesser greater = refl
inserted q v [] (suc at) within lesser greater = absurd (omega arith)
inserted q v (p ∷ ps) zero within lesser greater =
    sym (ap (λ r. by_order r ((q, v) ∷ p ∷ ps) ((p.0, v) ∷ ps) (p ∷ put bytes_cmp q v ps)) (turned q p.0 Greater (greater (omega arith))))
inserted q v (p ∷ ps) (suc at) within lesser greater =
    ap (λ l. p ∷ l) (inserted q v ps at (omega arith) (λ i lt. lesser (suc i) (omega arith)) (λ lt. greater (omega arith)))
    ∙ sym (ap (λ r. by_order r ((q, v) ∷ p ∷ ps) ((p.0, v) ∷ ps) (p ∷ put bytes_cmp q v ps)) (turned q p.0 Less (lesser zero (omega arith))))

replaced : (q v : Bytes) (ps : Pairs) (at : ℕ) → at < length ps → (pair_at ps at).0 ≡ q → AreLess ps q at → set ps at ((pair_at ps at).0, v) ≡ put bytes_cmp q v ps
replaced q v [] at within here lesser = absurd (omega arith)
replaced q v (p ∷ ps) zero within here lesser =
    sym (ap (λ r. by_order r ((q, v) ∷ p ∷ ps) ((p.0, v) ∷ ps) (p ∷ put bytes_cmp q v ps)) (ap (λ k. bytes_cmp q k) here ∙ tied_itself nat_list_cmp_total q))
replaced q v (p ∷ ps) (suc at) within here lesser =
    ap (λ l. p ∷ l) (replaced q v ps at (omega arith) here (λ i lt. lesser (suc i) (omega arith)))
    ∙ sym (ap (λ r. by_order r ((q, v) ∷ p ∷ ps) ((p.0, v) ∷ ps) (p ∷ put bytes_cmp q v ps)) (turned q p.0 Less (lesser zero (omega arith))))

made_put : (q v : Bytes) (ps : Pairs) → made (put bytes_cmp q v ps) ≡ finite.insert (made ps) q v
made_put q v ps = same _ _ (λ k.
    get_made (put bytes_cmp q v ps) k ∙ find-put bytes_cmp nat_list_cmp_total k q v ps
    ∙ sym (finite.get-insert nat_list_cmp_total (made ps) q v k ∙ ap (cond (is_same k q) (Some v)) (get_made ps k)))

module _ (q v : Bytes) (ps qs : Pairs) (at : ℕ) where
  pub made_inserted : IsBefore ps q at → qs ≡ insert ps at (q, v) → made qs ≡ finite.insert (made ps) q v
  made_inserted is e = ap made (e ∙ inserted q v ps at is.within is.less is.greater) ∙ made_put q v ps

  pub sorted_inserted : IsBefore ps q at → qs ≡ insert ps at (q, v) → AreSorted ps → AreSorted qs
  sorted_inserted is e sorted = subst AreSorted (sym (e ∙ inserted q v ps at is.within is.less is.greater)) (is_sorted-put bytes_cmp nat_list_cmp_total q v ps sorted)

  pub made_replaced : IsAt ps q at → qs ≡ set ps at ((pair_at ps at).0, v) → made qs ≡ finite.insert (made ps) q v
  made_replaced is e = ap made (e ∙ replaced q v ps at is.within is.first_is is.less) ∙ made_put q v ps

  pub sorted_replaced : IsAt ps q at → qs ≡ set ps at ((pair_at ps at).0, v) → AreSorted ps → AreSorted qs
  sorted_replaced is e sorted = subst AreSorted (sym (e ∙ replaced q v ps at is.within is.first_is is.less)) (is_sorted-put bytes_cmp nat_list_cmp_total q v ps sorted)

-- ---- a pair goes

-- the pairs of other fields
others : Bytes → Pairs → Pairs
others q ps = where_key bytes_cmp (λ x. not (is_same q x)) ps

all_others : (q x : Bytes) (ps : Pairs) → ((y : Bytes) → bytes_cmp x y ≡ Less → bytes_cmp q y ≡ Less) → T (below_all bytes_cmp x ps) → others q ps ≡ ps
unfolding others
all_others q x [] lesser below = refl
all_others q x (p ∷ ps) lesser below =
    ap (λ r. cond (not (is_eq r)) (p ∷ others q ps) (others q ps)) (lesser p.0 (less _ (first_holds _ _ below)))
    ∙ ap (λ l. p ∷ l) (all_others q x ps lesser (second_holds _ _ below))

removed : (q : Bytes) (ps : Pairs) (at : ℕ) → at < length ps → (pair_at ps at).0 ≡ q → IsNone ps q at → AreSorted ps → remove ps at ≡ others q ps
unfolding others
removed q [] at within here none sorted = absurd (omega arith)
removed q (p ∷ ps) zero within here none sorted =
    sym (ap (λ b. cond (not b) (p ∷ others q ps) (others q ps)) (ap (λ k. is_same q k) here ∙ itself q)
    ∙ all_others q p.0 ps (λ y after. ap (λ k. bytes_cmp k y) (sym here) ∙ after) (first_holds _ _ sorted))
removed q (p ∷ ps) (suc at) within here none sorted =
    ap (λ l. p ∷ l) (removed q ps at (omega arith) here (λ i lt. none (suc i) (omega arith)) (second_holds _ _ sorted))
    ∙ sym (ap (λ b. cond (not b) (p ∷ others q ps) (others q ps)) (apart q p.0 (none zero (omega arith))))

either : (b : Bool) (o : Option Bytes) → cond (not b) o None ≡ cond b None o
either true o = refl
either false o = refl

made_others : (q : Bytes) (ps : Pairs) → made (others q ps) ≡ finite.remove (made ps) q
unfolding others
made_others q ps = same _ _ (λ k.
    get_made (others q ps) k
    ∙ find-where_key bytes_cmp (λ x. not (is_same q x)) k (λ x t. ap (λ (y : Bytes). not (is_same q y)) (sym (exact_bytes k x t))) ps
    ∙ either (is_same q k) (find bytes_cmp k ps)
    ∙ ap (λ b. cond b None (find bytes_cmp k ps)) (both_ways q k)
    ∙ sym (finite.get-remove nat_list_cmp_total (made ps) q k ∙ ap (cond (is_same k q) None) (get_made ps k)))

module _ (q : Bytes) (ps qs : Pairs) (at : ℕ) (is : IsFirstAt ps q at) (e : qs ≡ remove ps at) (sorted : AreSorted ps) where
  pub made_removed : made qs ≡ finite.remove (made ps) q
  made_removed = ap made (e ∙ removed q ps at is.within is.first_is is.no_other sorted) ∙ made_others q ps

  pub sorted_removed : AreSorted qs
  unfolding others
  sorted_removed = subst AreSorted (sym (e ∙ removed q ps at is.within is.first_is is.no_other sorted)) (is_sorted-where_key bytes_cmp (λ x. not (is_same q x)) ps sorted)

pub there_first : (q : Bytes) (ps : Pairs) (at : ℕ) → IsFirstAt ps q at → finite.contains_key (made ps) q ≡ true
there_first q ps at is = ap is_some (value_found q ps at is)

pub there_nowhere : (q : Bytes) (ps : Pairs) → IsNone ps q (length ps) → finite.contains_key (made ps) q ≡ false
there_nowhere q ps none = ap is_some (value_missed q ps none)

-- what isn't there needn't be removed
pub made_kept : (q : Bytes) (ps : Pairs) → IsNone ps q (length ps) → made ps ≡ finite.remove (made ps) q
made_kept q ps none = same _ _ (λ k.
    by k (is_same k q) refl ∙ sym (finite.get-remove nat_list_cmp_total (made ps) q k))
  where
    by : (k : Bytes) (b : Bool) → is_same k q ≡ b → finite.get (made ps) k ≡ cond b None (finite.get (made ps) k)
    by k true t = ap (λ (y : Bytes). finite.get (made ps) y) (same_bytes k q t) ∙ value_missed q ps none
    by k false t = refl

-- ---- pairs are put into a map one after another

-- what is less than all is less than one of them
above : (x : Bytes) (done : Pairs) (p : Bytes × Bytes) (ps : Pairs) → T (below_all bytes_cmp x (done ++ p ∷ ps)) → bytes_cmp x p.0 ≡ Less
above x [] p ps below = less _ (first_holds _ _ below)
above x (d ∷ done) p ps below = above x done p ps (second_holds _ _ below)

append_nil : (ps : Pairs) → ps ++ [] ≡ ps
append_nil [] = refl
append_nil (p ∷ ps) = ap (λ l. p ∷ l) (append_nil ps)

-- the first of what is still to come isn't among those in front
new_one : (done : Pairs) (p : Bytes × Bytes) (ps : Pairs) → AreSorted (done ++ p ∷ ps) → find bytes_cmp p.0 done ≡ None
new_one [] p ps sorted = refl
new_one (d ∷ done) p ps sorted =
    ap (λ r. cond (is_eq r) (Some d.1) (find bytes_cmp p.0 done)) (turned p.0 d.0 Less (above d.0 done p ps (first_holds _ _ sorted)))
    ∙ new_one done p ps (second_holds _ _ sorted)

filled : (done ps : Pairs) → AreSorted (done ++ ps) → with_pairs ps (made done) ≡ made (done ++ ps)
filled done [] sorted = ap made (sym (append_nil done))
filled done (p ∷ ps) sorted =
    let joined : (done ++ p ∷ []) ++ ps ≡ done ++ p ∷ ps = append_assoc done (p ∷ []) ps in
    ap (with_pairs ps) (sym (finite.from_entries_push nat_list_cmp_total exact_bytes done p.0 p.1 (new_one done p ps sorted)))
    ∙ filled (done ++ p ∷ []) ps (subst AreSorted (sym joined) sorted) ∙ ap made joined

pub filled_anew : (ps : Pairs) → AreSorted ps → with_pairs ps finite.empty ≡ made ps
filled_anew ps sorted = filled [] ps sorted
