-- What a scan of pairs finds by the bytes of members, and that stored pairs are the map that they are of.
use Rattle.std.proofs.Common.{◌≡◌, ℕ, zero, suc, ◌+◌, ◌-◌, ◌<◌, ◌≤◌, length, get_or, drop, map, List, [], ◌∷◌, Option, Some, None, true, false, ◌&&◌, not, cond, refl, sym, ◌∙◌, ap, subst, arith, drop-cons}
use Rattle.std.specs.Prelude.{T, ℤ, option_map, slice_get, if◌then◌else◌}
use Rattle.std.specs.Ordering.{is_gt, is_lt, eq_by_cmp, ordering_reverse}
use Rattle.std.specs.declared.cmp.Ordering.{Ordering}
use Rattle.std.specs.declared.cmp.Ordering.TheVariants.{Less, Equal, Greater}
use Rattle.std.specs.FinMap.{empty, entries, entries-insert, entries_sorted, find, get, get-from_entries, is_sorted, put, same_map}
use Rattle.std.specs.FinMap.Entries.{below_all, by_order}
use Rattle.std.proofs.Math.Seq.{drop-length}
use Rattle.std.proofs.lemmas.Cmp.{nat_list_cmp_total, tied_itself}
use Rattle.std.proofs.lemmas.Map.Lookups.{exact_bytes}
use Rattle.std.proofs.Math.Bool.{and-false}
use Rattle.mr_map.specs.Bytes.{bytes_cmp, ByteMap}
use Rattle.mr_map.proofs.Parted.{none_listed}
use Rattle.mr_map.proofs.Conditions.{both_hold}
use Rattle.mr_zset.specs.declared.entry.Entry.{Entry}
use Rattle.mr_zset.specs.Few.{behind, is_behind, is_in_front, nearer}
use Rattle.mr_zset.specs.Pairs.{pair_cmp, pairs_of}
use Rattle.mr_zset.specs.Stored.{scores_of, stored, AreStored}
use Rattle.mr_zset.proofs.Orders.{times, times-cons, times-nil}
use Rattle.mr_zset.proofs.PairLemmas.{found, some_inj}
use Rattle.mr_zset.proofs.StoredLemmas.{left, pair_of_map, right, stands_there, tie, tie_elsewhere}

abbrev P : Type 0
P = List ℕ × ℤ

-- ---- one member

-- one that isn't found stands in no pair
unfound : (ps : List P) (k : List ℕ) (z : ℤ) → find bytes_cmp k ps ≡ None → times pair_cmp (k, z) ps ≡ 0
unfound [] k z none = times-nil pair_cmp (k, z)
unfound (p ∷ ps) k z none = elim (eq_by_cmp bytes_cmp k p.0) as (λ b. eq_by_cmp bytes_cmp k p.0 ≡ b → cond b (Some p.1) (find bytes_cmp k ps) ≡ None → times pair_cmp (k, z) (p ∷ ps) ≡ 0) [
  | true ↦ λ e h. cc
  | false ↦ λ e h. (
      let head : tie (k, z) p ≡ 0 = tie_elsewhere (k, z) p e in
      let rest : times pair_cmp (k, z) ps ≡ 0 = unfound ps k z h in
      let all : times pair_cmp (k, z) (p ∷ ps) ≡ tie (k, z) p + times pair_cmp (k, z) ps = times-cons pair_cmp (k, z) p ps in
      omega arith)
] refl none

-- a scan of a map's pairs finds what the map says
find_pairs : (m : ByteMap ℤ) (k : List ℕ) → find bytes_cmp k (pairs_of m) ≡ get m k
find_pairs m k = by (find bytes_cmp k (pairs_of m)) (get m k) refl refl where
  by : (f g : Option ℤ) → find bytes_cmp k (pairs_of m) ≡ f → get m k ≡ g → f ≡ g
  by None None e h = refl
  by None (Some z) e h = let none = unfound (pairs_of m) k z e in let once = pair_of_map m k z h in absurd (omega arith)
  by (Some z) g e h = sym (stands_there m (k, z) (found (pairs_of m) k z e)) ∙ h

-- what is said by pairs that are those of a map is that map
pub are_scores : (m : ByteMap ℤ) (es : List Entry) → AreStored m es → scores_of es ≡ m
are_scores m es all = same_map nat_list_cmp_total exact_bytes _ _ (λ q. get-from_entries nat_list_cmp_total (map stored es) q ∙ ap (find bytes_cmp q) all.same ∙ find_pairs m q)

pub are_stored : (m : ByteMap ℤ) (es : List Entry) → AreStored m es → AreStored (scores_of es) es
are_stored m es all = subst (λ (x : ByteMap ℤ). AreStored x es) (sym (are_scores m es all)) all

-- a scan finds what the pairs say
pub scanned : (es : List Entry) (k : List ℕ) → find bytes_cmp k (map stored es) ≡ get (scores_of es) k
scanned es k = sym (get-from_entries nat_list_cmp_total (map stored es) k)

-- ---- members behind another

less_of : (r : Ordering) → T (is_lt r) → r ≡ Less
less_of Less t = refl
less_of Equal t = absurd t
less_of Greater t = absurd t

is_less : (r : Ordering) → is_lt r ≡ true → r ≡ Less
is_less r e = less_of r (subst T (sym e) tt)

first_of_all : (k : List ℕ) (p : P) (ps : List P) → T (below_all bytes_cmp k (p ∷ ps)) → bytes_cmp k p.0 ≡ Less
first_of_all k p ps h = less_of (bytes_cmp k p.0) (left (is_lt (bytes_cmp k p.0)) (below_all bytes_cmp k ps) h)

others_of_all : (k : List ℕ) (p : P) (ps : List P) → T (below_all bytes_cmp k (p ∷ ps)) → T (below_all bytes_cmp k ps)
others_of_all k p ps h = right (is_lt (bytes_cmp k p.0)) (below_all bytes_cmp k ps) h

more_below : (k : List ℕ) (p : P) (ps : List P) → bytes_cmp k p.0 ≡ Less → T (below_all bytes_cmp k ps) → T (below_all bytes_cmp k (p ∷ ps))
more_below k p ps e h = both_hold (is_lt (bytes_cmp k p.0)) (below_all bytes_cmp k ps) (subst (λ r. T (is_lt r)) (sym e) tt) h

-- what is below one that is below all is below all
below : (a k : List ℕ) (ps : List P) → bytes_cmp a k ≡ Less → T (below_all bytes_cmp k ps) → T (below_all bytes_cmp a ps)
below a k [] e h = tt
below a k (p ∷ ps) e h = more_below a p ps (nat_list_cmp_total.trans a k p.0 e (first_of_all k p ps h)) (below a k ps e (others_of_all k p ps h))

pub behind_none : (ps : List P) → behind None ps ≡ ps
behind_none [] = refl
behind_none (p ∷ ps) = ap (λ l. p ∷ l) (behind_none ps)

all_behind : (a : List ℕ) (ps : List P) → T (below_all bytes_cmp a ps) → behind (Some a) ps ≡ ps
all_behind a [] h = refl
all_behind a (p ∷ ps) h =
    ap (λ r. cond (is_lt r) (p ∷ behind (Some a) ps) (behind (Some a) ps)) (first_of_all a p ps h)
    ∙ ap (λ l. p ∷ l) (all_behind a ps (others_of_all a p ps h))

-- .. where one in front of them is behind
rest_behind : (last : Option (List ℕ)) (k : List ℕ) (ps : List P) → is_behind last k ≡ true → T (below_all bytes_cmp k ps) → behind last ps ≡ ps
rest_behind None k ps e h = behind_none ps
rest_behind (Some a) k ps e h = all_behind a ps (below a k ps (is_less (bytes_cmp a k) e) h)

-- one that isn't behind is passed over
passed_over : (a : List ℕ) (r : Ordering) (p : P) (ps : List P) → bytes_cmp a p.0 ≡ r → is_lt r ≡ false → behind (Some a) (p ∷ ps) ≡ behind (Some a) ps
passed_over a r p ps e h = ap (λ b. cond b (p ∷ behind (Some a) ps) (behind (Some a) ps)) (ap is_lt e ∙ h)

module _ (last : Option (List ℕ)) where
  -- what is below all is below the first that is behind
  below_first : (k : List ℕ) (ps : List P) (q : P) → T (below_all bytes_cmp k ps) → slice_get (behind last ps) 0 ≡ Some q → bytes_cmp k q.0 ≡ Less
  below_first k [] q h e = cc
  below_first k (p ∷ ps) q h e = elim (is_behind last p.0) as (λ b. slice_get (cond b (p ∷ behind last ps) (behind last ps)) 0 ≡ Some q → bytes_cmp k q.0 ≡ Less) [
    | true ↦ λ g. subst (λ (x : P). bytes_cmp k x.0 ≡ Less) (some_inj g) (first_of_all k p ps h)
    | false ↦ λ g. below_first k ps q (others_of_all k p ps h) g
  ] e

  -- the first that is behind, and those that are behind it
  next_behind : (ps : List P) → T (is_sorted bytes_cmp ps) → (q : P) → slice_get (behind last ps) 0 ≡ Some q → behind last ps ≡ q ∷ behind (Some q.0) ps
  next_behind [] up q e = cc
  next_behind (p ∷ ps) up q e =
      let under : T (below_all bytes_cmp p.0 ps) = left (below_all bytes_cmp p.0 ps) (is_sorted bytes_cmp ps) up in
      let rises : T (is_sorted bytes_cmp ps) = right (below_all bytes_cmp p.0 ps) (is_sorted bytes_cmp ps) up in
      elim (is_behind last p.0) as (λ b. is_behind last p.0 ≡ b → slice_get (cond b (p ∷ behind last ps) (behind last ps)) 0 ≡ Some q → cond b (p ∷ behind last ps) (behind last ps) ≡ q ∷ behind (Some q.0) (p ∷ ps)) [
        | true ↦ λ b g. subst (λ (x : P). p ∷ behind last ps ≡ x ∷ behind (Some x.0) (p ∷ ps)) (some_inj g)
            (ap (λ l. p ∷ l) (rest_behind last p.0 ps b under ∙ sym (passed_over p.0 Equal p ps (tied_itself nat_list_cmp_total p.0) refl ∙ all_behind p.0 ps under)))
        | false ↦ λ b g. next_behind ps rises q g
            ∙ ap (λ l. q ∷ l) (sym (passed_over q.0 Greater p ps (nat_list_cmp_total.antisymm q.0 p.0 ∙ ap ordering_reverse (below_first p.0 ps q under g)) refl))
      ] refl e

  -- what is below all comes in front of the first that is behind
  in_front : (k : List ℕ) (ps : List P) → T (below_all bytes_cmp k ps) → is_in_front k (slice_get (behind last ps) 0) ≡ true
  in_front k ps h = by (slice_get (behind last ps) 0) refl where
    by : (o : Option P) → slice_get (behind last ps) 0 ≡ o → is_in_front k o ≡ true
    by None e = refl
    by (Some q) e = ap (λ r. not (is_gt r)) (below_first k ps q h e)

  -- the first that is behind, with one entry more
  put_nearer : (k : List ℕ) (z : ℤ) (ps : List P) → T (is_sorted bytes_cmp ps) → slice_get (behind last (put bytes_cmp k z ps)) 0 ≡ nearer last (k, z) (slice_get (behind last ps) 0)
  put_nearer k z [] up = elim (is_behind last k) as (λ b. slice_get (cond {A = List P} b ((k, z) ∷ []) []) 0 ≡ (if b && true then Some (k, z) else None)) [
    | true ↦ refl
    | false ↦ refl
  ]
  put_nearer k z (p ∷ ps) up =
      let under : T (below_all bytes_cmp p.0 ps) = left (below_all bytes_cmp p.0 ps) (is_sorted bytes_cmp ps) up in
      let rises : T (is_sorted bytes_cmp ps) = right (below_all bytes_cmp p.0 ps) (is_sorted bytes_cmp ps) up in
      elim (bytes_cmp k p.0) as (λ r. bytes_cmp k p.0 ≡ r → slice_get (behind last (by_order r ((k, z) ∷ p ∷ ps) ((p.0, z) ∷ ps) (p ∷ put bytes_cmp k z ps))) 0 ≡ nearer last (k, z) (slice_get (behind last (p ∷ ps)) 0)) [
        | Less ↦ λ e. before k z p ps (in_front k (p ∷ ps) (more_below k p ps e (below k p.0 ps e under)))
        | Equal ↦ λ e. same k z p ps e
        | Greater ↦ λ e. after k z p ps e (put_nearer k z ps rises)
      ] refl
    where
      before : (k : List ℕ) (z : ℤ) (p : P) (ps : List P) → is_in_front k (slice_get (behind last (p ∷ ps)) 0) ≡ true → slice_get (behind last ((k, z) ∷ p ∷ ps)) 0 ≡ nearer last (k, z) (slice_get (behind last (p ∷ ps)) 0)
      before k z p ps h =
          let first : Option P = slice_get (behind last (p ∷ ps)) 0 in
          elim (is_behind last k) as (λ b. slice_get (cond b ((k, z) ∷ behind last (p ∷ ps)) (behind last (p ∷ ps))) 0 ≡ (if b && is_in_front k first then Some (k, z) else first)) [
            | true ↦ sym (ap (λ c. if c then Some (k, z) else first) h)
            | false ↦ refl
          ]

      same : (k : List ℕ) (z : ℤ) (p : P) (ps : List P) → bytes_cmp k p.0 ≡ Equal → slice_get (behind last ((p.0, z) ∷ ps)) 0 ≡ nearer last (k, z) (slice_get (behind last (p ∷ ps)) 0)
      same k z p ps e =
          let key : k ≡ p.0 = exact_bytes k p.0 e in
          elim (is_behind last p.0) as (λ b. is_behind last p.0 ≡ b → slice_get (cond b ((p.0, z) ∷ behind last ps) (behind last ps)) 0 ≡ nearer last (k, z) (slice_get (cond b (p ∷ behind last ps) (behind last ps)) 0)) [
            | true ↦ λ b. ap (λ (x : List ℕ). Some (x, z)) (sym key) ∙ sym (λ i. if (ap (is_behind last) key ∙ b) i && not (is_gt (e i)) then Some (k, z) else Some p)
            | false ↦ λ b. sym (λ i. if (ap (is_behind last) key ∙ b) i && is_in_front k (slice_get (behind last ps) 0) then Some (k, z) else slice_get (behind last ps) 0)
          ] refl

      after : (k : List ℕ) (z : ℤ) (p : P) (ps : List P) → bytes_cmp k p.0 ≡ Greater → slice_get (behind last (put bytes_cmp k z ps)) 0 ≡ nearer last (k, z) (slice_get (behind last ps) 0) → slice_get (behind last (p ∷ put bytes_cmp k z ps)) 0 ≡ nearer last (k, z) (slice_get (behind last (p ∷ ps)) 0)
      after k z p ps e rest =
          let others : List P = behind last (put bytes_cmp k z ps) in
          elim (is_behind last p.0) as (λ b. slice_get (cond b (p ∷ others) others) 0 ≡ nearer last (k, z) (slice_get (cond b (p ∷ behind last ps) (behind last ps)) 0)) [
            | true ↦ sym (ap (λ c. if c then Some (k, z) else Some p) (ap (λ r. is_behind last k && not (is_gt r)) e ∙ and-false (is_behind last k)))
            | false ↦ rest
          ]

-- where there is no first one there is none
none_first : {A : Type 0} (xs : List A) → slice_get xs 0 ≡ None → xs ≡ []
none_first [] e = refl
none_first (x ∷ xs) e = cc

module _ (es : List Entry) (last : Option (List ℕ)) (o : Option Entry) (first : option_map stored o ≡ slice_get (behind last (entries (scores_of es))) 0) where
  -- what is behind a member where no first one is, and where one is
  pub none_behind : o ≡ None → behind last (entries (scores_of es)) ≡ []
  none_behind e = none_first _ (sym first ∙ ap (option_map stored) e)

  pub one_behind : (x : Entry) → o ≡ Some x → behind last (entries (scores_of es)) ≡ stored x ∷ behind (Some x.member) (entries (scores_of es))
  one_behind x e = next_behind last (entries (scores_of es)) (entries_sorted (scores_of es)) (stored x) (sym first ∙ ap (option_map stored) e)

-- ---- from the last pair to the first

-- no pairs
pub none_nearer : (last : Option (List ℕ)) (es : List Entry) (n : ℕ) → n ≡ length es → None ≡ slice_get (behind last (entries (scores_of (drop n es)))) 0
none_nearer last es n e =
    ap (λ ps. slice_get (behind last ps) 0) (none_listed {X = ℤ} None empty refl refl)
    ∙ ap (λ zs. slice_get (behind last (entries (scores_of zs))) 0) (sym (ap (λ (j : ℕ). drop j es) e ∙ drop-length es))

-- one pair more of those from a place on
one_more : (es : List Entry) (n : ℕ) (x : Entry) → 0 < n → n ≤ length es → x ≡ get_or es (n - 1) x → drop (n - 1) es ≡ x ∷ drop n es
one_more es zero x some within is = absurd (omega arith)
one_more es (suc n) x some within is =
    let e : suc n - 1 ≡ n = omega arith in
    ap (λ (j : ℕ). drop j es) e ∙ drop-cons es n x (omega arith) ∙ ap (λ y. y ∷ drop (suc n) es) (sym (is ∙ ap (λ (j : ℕ). get_or es j x) e))

pub one_nearer : (es : List Entry) (n : ℕ) (x : Entry) → 0 < n → n ≤ length es → x ≡ get_or es (n - 1) x → (last : Option (List ℕ)) (f g : Option P) → f ≡ slice_get (behind last (entries (scores_of (drop n es)))) 0 → g ≡ nearer last (stored x) f
    → g ≡ slice_get (behind last (entries (scores_of (drop (n - 1) es)))) 0
one_nearer es n x some within is last f g was new =
    let m : ByteMap ℤ = scores_of (drop n es) in
    new ∙ ap (nearer last (stored x)) was
    ∙ sym (put_nearer last x.member x.score (entries m) (entries_sorted m))
    ∙ ap (λ ps. slice_get (behind last ps) 0) (sym (entries-insert nat_list_cmp_total m x.member x.score))
    ∙ ap (λ zs. slice_get (behind last (entries (scores_of zs))) 0) (sym (one_more es n x some within is))
