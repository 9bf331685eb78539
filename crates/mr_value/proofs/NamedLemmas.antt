-- Values under their names in a list, and the map that they make.
use Rattle.std.proofs.Common.{◌≡◌, ℕ, zero, suc, ◌+◌, ◌<◌, List, [], ◌∷◌, length, map, get_or, set, Bool, true, false, Option, Some, None, refl, sym, ap, ap₂, ◌∙◌, arith}
use Rattle.std.specs.Prelude.{Result, Ok, Err, cond, option_map}
use Rattle.std.specs.FinMap as finite
use Rattle.std.specs.FinMap.{find}
use Rattle.std.specs.FinMap.Entries.{put}
use Rattle.std.specs.List.{AllWithin, insert, remove}
use Rattle.std.specs.List.Sorted.{IsStrictlySortedBy}
use Rattle.std.specs.Ordering.{is_eq}
use Rattle.std.specs.declared.cmp.Ordering.TheVariants.{Less, Equal, Greater}
use Rattle.std.proofs.lemmas.Cmp.{nat_list_cmp_total, tied_itself}
use Rattle.std.proofs.lemmas.List.{length-map, nil_from_length}
use Rattle.std.proofs.lemmas.Map.Lookups.{exact_bytes}
use Rattle.mr_map.specs.Bytes.{bytes_cmp, ByteMap}
use Rattle.mr_order.specs.Changes.{IsFound, IsItemAt, IsOther, IsPut, IsTaken, left_at, put_at}
use Rattle.mr_order.specs.Standing.{IsPlaceOf, StandsAt, StandsBefore}
use Rattle.mr_value.specs.declared.named.Named.{Named}
use Rattle.mr_value.specs.Named.{name_cmp, entry, values_of}
use Rattle.mr_value.proofs.SetLemmas.{is_same, same_bytes}

-- bytes that are two names, of which one is greater
apart : (q x y : List ℕ) → bytes_cmp x y ≡ Greater → is_same q y ≡ true → is_same q x ≡ true → ⊥
apart q x y greater a b =
    let e : Equal ≡ Greater = sym (tied_itself nat_list_cmp_total q) ∙ ap₂ (λ (m n : List ℕ). bytes_cmp m n) (same_bytes q x b) (same_bytes q y a) ∙ greater in
    cc

module _ {V : Type 0} where
  -- what is kept of a name
  abbrev kept : List ℕ → List (Named V) → Option V
  kept q xs = find bytes_cmp q (map entry xs)

  get_kept : (xs : List (Named V)) (q : List ℕ) → finite.get (values_of xs) q ≡ kept q xs
  get_kept xs q = finite.get-from_entries nat_list_cmp_total (map entry xs) q

  -- maps that say the same of each name are one
  same_values : (m n : ByteMap V) → ((q : List ℕ) → finite.get m q ≡ finite.get n q) → m ≡ n
  same_values m n is = finite.same_map nat_list_cmp_total exact_bytes m n is

  -- two tests that aren't both met can be made in either order
  swapped : (a b : Bool) (u v w : Option V) → (a ≡ true → b ≡ true → ⊥) → cond a u (cond b v w) ≡ cond b v (cond a u w)
  swapped true true u v w apart = absurd (apart refl refl)
  swapped true false u v w apart = refl
  swapped false b u v w apart = refl

  -- of two like tests the second doesn't count
  twice : (a b : Bool) (u v w : Option V) → a ≡ b → cond a u w ≡ cond a u (cond b v w)
  twice true b u v w e = refl
  twice false true u v w e = cc
  twice false false u v w e = refl

  -- what a search has told

  there : (q : List ℕ) (xs : List (Named V)) (at : ℕ) (d : Named V) → at < length xs → AllWithin (λ y. bytes_cmp q y.name ≡ Greater) xs 0 at → ((e : Named V) → bytes_cmp q (get_or xs at e).name ≡ Equal) → kept q xs ≡ Some (get_or xs at d).value
  there q [] at d within front here = absurd (omega arith)
  there q (x ∷ xs) zero d within front here = ap (λ r. cond (is_eq r) (Some x.value) (kept q xs)) (here x)
  there q (x ∷ xs) (suc at) d within front here =
      ap (λ r. cond (is_eq r) (Some x.value) (kept q xs)) (front zero x (omega arith) (omega arith))
      ∙ there q xs at d (omega arith) (λ k e lo lt. front (suc k) e (omega arith) (omega arith)) here

  absent : (q : List ℕ) (xs : List (Named V)) (p : ℕ) → AllWithin (λ y. bytes_cmp q y.name ≡ Greater) xs 0 p → AllWithin (λ y. bytes_cmp q y.name ≡ Less) xs p (length xs) → kept q xs ≡ None
  absent q [] p front back = refl
  absent q (x ∷ xs) zero front back =
      ap (λ r. cond (is_eq r) (Some x.value) (kept q xs)) (back zero x (omega arith) (omega arith))
      ∙ absent q xs zero (λ k d lo lt. absurd (omega arith)) (λ k d lo lt. back (suc k) d (omega arith) (omega arith))
  absent q (x ∷ xs) (suc p) front back =
      ap (λ r. cond (is_eq r) (Some x.value) (kept q xs)) (front zero x (omega arith) (omega arith))
      ∙ absent q xs p (λ k d lo lt. front (suc k) d (omega arith) (omega arith)) (λ k d lo lt. back (suc k) d (omega arith) (omega arith))

  -- the value of what was found
  told : (q : List ℕ) (xs : List (Named V)) (r : Result ℕ ℕ) (t : Option (Named V)) → IsPlaceOf (λ y. bytes_cmp q y.name) xs r → IsItemAt r xs t → option_map (λ x. x.value) t ≡ finite.get (values_of xs) q
  told q xs (Ok at) None stands h = absurd h
  told q xs (Ok at) (Some x) stands h = ap (λ (y : Named V). Some y.value) h ∙ sym (get_kept xs q ∙ there q xs at x stands.within stands.front stands.here)
  told q xs (Err at) None stands h = sym (get_kept xs q ∙ absent q xs at stands.front stands.back)
  told q xs (Err at) (Some x) stands h = absurd h

  pub value_found : (q : List ℕ) (xs : List (Named V)) (t : Option (Named V)) → IsFound (λ y. bytes_cmp q y.name) xs t → option_map (λ x. x.value) t ≡ finite.get (values_of xs) q
  value_found q xs t f = told q xs f.place t f.is f.item

  pub value_taken : (q : List ℕ) (xs ys : List (Named V)) (t : Option (Named V)) → IsTaken (λ y. bytes_cmp q y.name) xs t ys → option_map (λ x. x.value) t ≡ finite.get (values_of xs) q
  value_taken q xs ys t f = told q xs f.place t f.is f.item

  pub value_put : (x : Named V) (xs ys : List (Named V)) (t : Option (Named V)) → IsPut (λ y. bytes_cmp x.name y.name) xs x true ys t → option_map (λ y. y.value) t ≡ finite.get (values_of xs) x.name
  value_put x xs ys t p = by p.place t p.is p.answered where
    by : (r : Result ℕ ℕ) (u : Option (Named V)) → IsPlaceOf (λ y. bytes_cmp x.name y.name) xs r → IsOther r true x xs u → option_map (λ y. y.value) u ≡ finite.get (values_of xs) x.name
    by (Ok at) u stands h = told x.name xs (Ok at) u stands h
    by (Err at) None stands h = told x.name xs (Err at) None stands tt
    by (Err at) (Some y) stands h = cc

  -- the value of the name at a place, and none of one that stands nowhere
  pub value_at : (q : List ℕ) (xs : List (Named V)) (at : ℕ) (d : Named V) → StandsAt (λ y. bytes_cmp q y.name) xs at → finite.get (values_of xs) q ≡ Some (get_or xs at d).value
  value_at q xs at d stands = get_kept xs q ∙ there q xs at d stands.within stands.front stands.here

  pub no_value : (q : List ℕ) (xs : List (Named V)) (at : ℕ) → StandsBefore (λ y. bytes_cmp q y.name) xs at → finite.get (values_of xs) q ≡ None
  no_value q xs at stands = get_kept xs q ∙ absent q xs at stands.front stands.back

  -- a name comes

  kept_inserted : (x : Named V) (q : List ℕ) (xs : List (Named V)) (at : ℕ) → AllWithin (λ y. bytes_cmp x.name y.name ≡ Greater) xs 0 at → kept q (insert xs at x) ≡ cond (is_same q x.name) (Some x.value) (kept q xs)
  kept_inserted x q xs zero front = refl
  kept_inserted x q [] (suc at) front = refl
  kept_inserted x q (y ∷ ys) (suc at) front =
      ap (λ o. cond (is_same q y.name) (Some y.value) o) (kept_inserted x q ys at (λ k d lo lt. front (suc k) d (omega arith) (omega arith)))
      ∙ swapped (is_same q y.name) (is_same q x.name) (Some y.value) (Some x.value) (kept q ys) (apart q x.name y.name (front zero y (omega arith) (omega arith)))

  values_inserted : (x : Named V) (xs : List (Named V)) (at : ℕ) → StandsBefore (λ y. bytes_cmp x.name y.name) xs at → values_of (insert xs at x) ≡ finite.insert (values_of xs) x.name x.value
  values_inserted x xs at stands = same_values _ _ (λ q.
      get_kept (insert xs at x) q ∙ kept_inserted x q xs at stands.front
      ∙ sym (finite.get-insert nat_list_cmp_total (values_of xs) x.name x.value q ∙ ap (λ o. cond (is_same q x.name) (Some x.value) o) (get_kept xs q)))

  -- a name has another value

  kept_set : (x : Named V) (q : List ℕ) (xs : List (Named V)) (at : ℕ) → at < length xs → AllWithin (λ y. bytes_cmp x.name y.name ≡ Greater) xs 0 at → ((e : Named V) → bytes_cmp x.name (get_or xs at e).name ≡ Equal)
      → kept q (set xs at x) ≡ cond (is_same q x.name) (Some x.value) (kept q xs)
  kept_set x q [] at within front here = absurd (omega arith)
  kept_set x q (y ∷ ys) zero within front here =
      twice (is_same q x.name) (is_same q y.name) (Some x.value) (Some y.value) (kept q ys) (ap (is_same q) (exact_bytes x.name y.name (here y)))
  kept_set x q (y ∷ ys) (suc at) within front here =
      ap (λ o. cond (is_same q y.name) (Some y.value) o) (kept_set x q ys at (omega arith) (λ k d lo lt. front (suc k) d (omega arith) (omega arith)) here)
      ∙ swapped (is_same q y.name) (is_same q x.name) (Some y.value) (Some x.value) (kept q ys) (apart q x.name y.name (front zero y (omega arith) (omega arith)))

  pub values_set : (x : Named V) (xs : List (Named V)) (at : ℕ) → StandsAt (λ y. bytes_cmp x.name y.name) xs at → values_of (set xs at x) ≡ finite.insert (values_of xs) x.name x.value
  values_set x xs at stands = same_values _ _ (λ q.
      get_kept (set xs at x) q ∙ kept_set x q xs at stands.within stands.front stands.here
      ∙ sym (finite.get-insert nat_list_cmp_total (values_of xs) x.name x.value q ∙ ap (λ o. cond (is_same q x.name) (Some x.value) o) (get_kept xs q)))

  -- a name comes, or has another value
  pub values_put : (x : Named V) (xs ys : List (Named V)) (t : Option (Named V)) → IsPut (λ y. bytes_cmp x.name y.name) xs x true ys t → values_of ys ≡ finite.insert (values_of xs) x.name x.value
  values_put x xs ys t p = ap values_of p.put ∙ by p.place p.is where
    by : (r : Result ℕ ℕ) → IsPlaceOf (λ y. bytes_cmp x.name y.name) xs r → values_of (put_at r true x xs) ≡ finite.insert (values_of xs) x.name x.value
    by (Ok at) stands = values_set x xs at stands
    by (Err at) stands = values_inserted x xs at stands

  -- a name goes

  kept_removed : (k q : List ℕ) (xs : List (Named V)) (at : ℕ) → at < length xs → AllWithin (λ y. bytes_cmp k y.name ≡ Greater) xs 0 at → ((e : Named V) → bytes_cmp k (get_or xs at e).name ≡ Equal) → AllWithin (λ y. bytes_cmp k y.name ≡ Less) xs (at + 1) (length xs)
      → kept q (remove xs at) ≡ cond (is_same q k) None (kept q xs)
  kept_removed k q [] at within front here back = absurd (omega arith)
  kept_removed k q (y ∷ ys) zero within front here back = elim (is_same q k) as (λ b. is_same q k ≡ b → kept q ys ≡ cond b None (cond (is_same q y.name) (Some y.value) (kept q ys))) [
    | true ↦ λ e. ap (λ (n : List ℕ). kept n ys) (same_bytes q k e) ∙ absent k ys zero (λ i d lo lt. absurd (omega arith)) (λ i d lo lt. back (suc i) d (omega arith) (omega arith))
    | false ↦ λ e. ap (λ b. cond b (Some y.value) (kept q ys)) (sym (sym (ap (is_same q) (exact_bytes k y.name (here y))) ∙ e))
  ] refl
  kept_removed k q (y ∷ ys) (suc at) within front here back =
      ap (λ o. cond (is_same q y.name) (Some y.value) o) (kept_removed k q ys at (omega arith) (λ i d lo lt. front (suc i) d (omega arith) (omega arith)) here (λ i d lo lt. back (suc i) d (omega arith) (omega arith)))
      ∙ swapped (is_same q y.name) (is_same q k) (Some y.value) None (kept q ys) (apart q k y.name (front zero y (omega arith) (omega arith)))

  pub values_taken : (k : List ℕ) (xs ys : List (Named V)) (t : Option (Named V)) → IsTaken (λ y. bytes_cmp k y.name) xs t ys → values_of ys ≡ finite.remove (values_of xs) k
  values_taken k xs ys t f = ap values_of f.left ∙ by f.place f.is where
    absent_kept : (q : List ℕ) → kept k xs ≡ None → kept q xs ≡ cond (is_same q k) None (kept q xs)
    absent_kept q none = elim (is_same q k) as (λ b. is_same q k ≡ b → kept q xs ≡ cond b None (kept q xs)) [
      | true ↦ λ e. ap (λ (n : List ℕ). kept n xs) (same_bytes q k e) ∙ none
      | false ↦ λ e. refl
    ] refl

    same_left : (zs : List (Named V)) → ((q : List ℕ) → kept q zs ≡ cond (is_same q k) None (kept q xs)) → values_of zs ≡ finite.remove (values_of xs) k
    same_left zs is = same_values _ _ (λ q. get_kept zs q ∙ is q ∙ sym (finite.get-remove nat_list_cmp_total (values_of xs) k q ∙ ap (λ o. cond (is_same q k) None o) (get_kept xs q)))

    by : (r : Result ℕ ℕ) → IsPlaceOf (λ y. bytes_cmp k y.name) xs r → values_of (left_at r xs) ≡ finite.remove (values_of xs) k
    by (Ok at) stands = same_left (remove xs at) (λ q. kept_removed k q xs at stands.within stands.front stands.here stands.back)
    by (Err at) stands = same_left xs (λ q. absent_kept q (absent k xs at stands.front stands.back))

  -- the names with their values, in order

  put_first : (x : Named V) (xs : List (Named V)) → IsStrictlySortedBy name_cmp (x ∷ xs) → put bytes_cmp x.name x.value (map entry xs) ≡ map entry (x ∷ xs)
  unfolding IsStrictlySortedBy
  put_first x [] h = refl
  put_first x (y ∷ ys) h = rw h.0.0 refl

  pub entries_listed : (xs : List (Named V)) → IsStrictlySortedBy name_cmp xs → finite.entries (values_of xs) ≡ map entry xs
  unfolding IsStrictlySortedBy
  entries_listed [] h = nil_from_length _ (sym (finite.len-entries (values_of [])) ∙ finite.len-empty bytes_cmp V)
  entries_listed (x ∷ xs) h =
      finite.entries-insert nat_list_cmp_total (values_of xs) x.name x.value
      ∙ ap (put bytes_cmp x.name x.value) (entries_listed xs h.1)
      ∙ put_first x xs h

  pub len_listed : (xs : List (Named V)) → IsStrictlySortedBy name_cmp xs → finite.len (values_of xs) ≡ length xs
  len_listed xs h = finite.len-entries (values_of xs) ∙ ap length (entries_listed xs h) ∙ length-map xs entry
