-- Stored pairs that are those of a map, before and after one change.
use Rattle.std.proofs.Common.{◌≡◌, ℕ, ◌+◌, ◌-◌, ◌≤◌, length, map, List, [], ◌∷◌, ◌++◌, Option, Some, None, Bool, true, false, cond, refl, sym, ◌∙◌, ap, subst, arith}
use Rattle.std.specs.Prelude.{ℤ, IsTrue, MatchOption, filter, count_by, option_map, slice_get, slice_range}
use Rattle.std.specs.Ordering.{int_eq, eq_by_cmp}
use Rattle.std.specs.FinMap.{get, insert, remove, empty, entries, len, get-insert, get-remove, same_map}
use Rattle.std.specs.BTreeSet.{insert_key}
use Rattle.std.proofs.lemmas.Cmp.{nat_list_cmp_total}
use Rattle.std.proofs.lemmas.Map.Lookups.{exact_bytes}
use Rattle.std.proofs.lemmas.List.{length-append, length-map, map-append}
use Rattle.std.proofs.lemmas.List.Sorted.{sum_by-IsPermutation}
use Rattle.mr_map.specs.Bytes.{bytes_cmp, ByteMap}
use Rattle.mr_zset.specs.declared.entry.Entry.{Entry}
use Rattle.mr_zset.specs.Pairs.{is_other, pair_cmp, pairs_of, without}
use Rattle.mr_score.specs.Score.{is_score}
use Rattle.mr_zset.specs.Stored.{AreStored, stored}
use Rattle.mr_zset.proofs.Cuts.{length-slice_range}
use Rattle.mr_zset.proofs.Orders.{IsPermutation-in_order, times}
use Rattle.mr_zset.proofs.PairLemmas.{HasScores-empty, HasScores-insert, HasScores-remove, length-pairs_of}
use Rattle.mr_zset.proofs.StoredLemmas.{first_taken, last_taken, pairs_none, filtered_itself, pair_of_map, put_moved, put_new, same_key, taken_out, times_more}

-- maps changed at one key

pub insert_same : (m : ByteMap ℤ) (k : List ℕ) (z : ℤ) → get m k ≡ Some z → insert m k z ≡ m
insert_same m k z h = same_map nat_list_cmp_total exact_bytes _ _ (λ q.
    get-insert nat_list_cmp_total m k z q ∙ elim (eq_by_cmp bytes_cmp q k) as (λ b. eq_by_cmp bytes_cmp q k ≡ b → cond b (Some z) (get m q) ≡ get m q) [
      | true ↦ λ t. sym h ∙ ap (get m) (sym (same_key q k t))
      | false ↦ λ t. refl
    ] refl)

pub remove_absent : (m : ByteMap ℤ) (k : List ℕ) → get m k ≡ None → remove m k ≡ m
remove_absent m k h = same_map nat_list_cmp_total exact_bytes _ _ (λ q.
    get-remove nat_list_cmp_total m k q ∙ elim (eq_by_cmp bytes_cmp q k) as (λ b. eq_by_cmp bytes_cmp q k ≡ b → cond b None (get m q) ≡ get m q) [
      | true ↦ λ t. sym h ∙ ap (get m) (sym (same_key q k t))
      | false ↦ λ t. refl
    ] refl)

pub AreStored-empty : (es : List Entry) → es ≡ [] → AreStored empty es
AreStored-empty es bare = record {
  within = HasScores-empty;
  same = ap (map stored) bare ∙ pairs_none;
}

-- there are as many as members
pub stored_len : (m n : ByteMap ℤ) (es : List Entry) → AreStored m es → m ≡ n → length es ≡ len n
stored_len m n es all is = sym (length-map es stored) ∙ ap length all.same ∙ length-pairs_of m ∙ ap len is

-- a list of pairs for the map that they are of
same_pairs : (m : ByteMap ℤ) (es : List Entry) → AreStored m es → (k copy : List ℕ) (z : ℤ) (fs : List Entry) → copy ≡ k → map stored fs ≡ insert_key pair_cmp (map stored es) (copy, z) → map stored fs ≡ insert_key pair_cmp (pairs_of m) (k, z)
same_pairs m es all k copy z fs same put = put ∙ ap (λ (ls : List (List ℕ × ℤ)). insert_key pair_cmp ls (copy, z)) all.same ∙ ap (λ (x : List ℕ). insert_key pair_cmp (pairs_of m) (x, z)) same

module _ (m : ByteMap ℤ) (es : List Entry) (all : AreStored m es) (k copy : List ℕ) (z : ℤ) (fs : List Entry) (same : copy ≡ k) (put : map stored fs ≡ insert_key pair_cmp (map stored es) (copy, z)) where
  -- a member comes
  pub AreStored-added : get m k ≡ None → IsTrue (is_score z) → AreStored (insert m k z) fs
  AreStored-added absent fits = record {
    within = HasScores-insert m k z fits all.within;
    same = same_pairs m es all k copy z fs same put ∙ put_new m k z absent;
  }

  -- a member has another score
  pub AreStored-moved : (old : ℤ) (gs : List Entry) → get m k ≡ Some old → int_eq z old ≡ false → IsTrue (is_score z) → map stored gs ≡ filter (is_other (k, old)) (map stored fs) → AreStored (insert m k z) gs
  AreStored-moved old gs there apart fits out = record {
    within = HasScores-insert m k z fits all.within;
    same = out ∙ ap (filter (is_other (k, old))) (same_pairs m es all k copy z fs same put) ∙ put_moved m k old z there apart;
  }

  -- the pair that it had stands there still
  pub pair_there : (old : ℤ) (gs : List Entry) → get m k ≡ Some old → map stored gs ≡ filter (is_other (k, old)) (map stored fs) → gs ≡ fs → ⊥
  pair_there old gs there out kept =
      let none = ap (times pair_cmp (k, old)) (ap (map stored) (sym kept) ∙ out) ∙ filtered_itself (k, old) (map stored fs) in
      let more = times_more (k, old) (k, z) (pairs_of m) in
      let one_is = pair_of_map m k old there in
      let same_list = ap (times pair_cmp (k, old)) (same_pairs m es all k copy z fs same put) in
      omega arith

module _ (m : ByteMap ℤ) (es : List Entry) (all : AreStored m es) where
  -- a member goes that is there
  pub AreStored-removed : (k : List ℕ) (z : ℤ) (fs : List Entry) → get m k ≡ Some z → map stored fs ≡ filter (is_other (k, z)) (map stored es) → AreStored (remove m k) fs
  AreStored-removed k z fs there out = record {
    within = HasScores-remove m k all.within;
    same = out ∙ ap (filter (is_other (k, z))) all.same ∙ taken_out m k z there;
  }

  -- the first pair goes
  pub AreStored-first : (fs : List Entry) (o : Option Entry) (r : Option (List ℕ × ℤ)) → MatchOption o ((es ≡ []) × (fs ≡ [])) (λ x. es ≡ x ∷ fs) → r ≡ option_map stored o → AreStored (without r m) fs
  AreStored-first fs None r h e = subst (λ (p : Option (List ℕ × ℤ)). AreStored (without p m) fs) (sym e) (subst (AreStored m) (h.0 ∙ sym h.1) all)
  AreStored-first fs (Some x) r h e = subst (λ (p : Option (List ℕ × ℤ)). AreStored (without p m) fs) (sym e) (record {
    within = HasScores-remove m (stored x).0 all.within;
    same = first_taken m (stored x) (map stored fs) (sym all.same ∙ ap (map stored) h);
  })

  -- the last pair goes
  pub AreStored-last : (fs : List Entry) (o : Option Entry) (r : Option (List ℕ × ℤ)) → MatchOption o ((es ≡ []) × (fs ≡ [])) (λ x. es ≡ fs ++ x ∷ []) → r ≡ option_map stored o → AreStored (without r m) fs
  AreStored-last fs None r h e = subst (λ (p : Option (List ℕ × ℤ)). AreStored (without p m) fs) (sym e) (subst (AreStored m) (h.0 ∙ sym h.1) all)
  AreStored-last fs (Some x) r h e = subst (λ (p : Option (List ℕ × ℤ)). AreStored (without p m) fs) (sym e) (record {
    within = HasScores-remove m (stored x).0 all.within;
    same = last_taken m (stored x) (map stored fs) (sym all.same ∙ ap (map stored) h ∙ map-append stored fs (x ∷ []));
  })

first_of_map : (es : List Entry) → option_map stored (slice_get es 0) ≡ slice_get (map stored es) 0
first_of_map [] = refl
first_of_map (x ∷ es) = refl

-- what the first pair is
pub first_pair : (m : ByteMap ℤ) (es : List Entry) → AreStored m es → option_map stored (slice_get es 0) ≡ slice_get (pairs_of m) 0
first_pair m es all = first_of_map es ∙ ap (λ (ls : List (List ℕ × ℤ)). slice_get ls 0) all.same

last_of : (ps : List (List ℕ × ℤ)) (p : List ℕ × ℤ) → slice_get (ps ++ p ∷ []) (length ps) ≡ Some p
last_of [] p = refl
last_of (q ∷ qs) p = last_of qs p

-- what the last pair is
pub last_pair : (m : ByteMap ℤ) (es fs : List Entry) (o : Option Entry) → AreStored m es → MatchOption o ((es ≡ []) × (fs ≡ [])) (λ x. es ≡ fs ++ x ∷ []) → option_map stored o ≡ slice_get (pairs_of m) (length (pairs_of m) - 1)
last_pair m es fs None all h = ap (λ (ls : List (List ℕ × ℤ)). slice_get ls (length ls - 1)) (sym (ap (map stored) h.0) ∙ all.same)
last_pair m es fs (Some x) all h =
    let ps : List (List ℕ × ℤ) = map stored fs in
    let long : length (ps ++ stored x ∷ []) ≡ length ps + 1 = length-append ps (stored x ∷ []) in
    sym (last_of ps (stored x)) ∙ (let e : length ps ≡ length (ps ++ stored x ∷ []) - 1 = omega (arith, long) in ap (slice_get (ps ++ stored x ∷ [])) e)
    ∙ ap (λ (ls : List (List ℕ × ℤ)). slice_get ls (length ls - 1)) (sym (map-append stored fs (x ∷ [])) ∙ sym (ap (map stored) h) ∙ all.same)

-- how many pass a test
pub count_stored : (m n : ByteMap ℤ) (es : List Entry) (test : List ℕ × ℤ → Bool) → AreStored m es → m ≡ n → count_by test (map stored es) ≡ count_by test (entries n)
count_stored m n es test all is =
    ap (count_by test) all.same ∙ sum_by-IsPermutation (λ p. cond {A = ℕ} (test p) 1 0) (entries m) (pairs_of m) (IsPermutation-in_order pair_cmp (entries m))
    ∙ ap (λ (x : ByteMap ℤ). count_by test (entries x)) is

-- how many lie between two places
pub range_len : (m : ByteMap ℤ) (range : List (List ℕ × ℤ)) (first past : ℕ) → first ≤ past → past ≤ len m → range ≡ slice_range (pairs_of m) first past → past - first ≡ length range
range_len m range first past ordered within is = sym (ap length is ∙ length-slice_range (pairs_of m) first past ordered (omega (arith, within, length-pairs_of m)))
