-- A map in two parts, the short keys and the longer ones, before and after one change, and its entries as a list.
use Rattle.std.proofs.Common.{◌≡◌, ℕ, ◌+◌, ◌-◌, ◌<◌, List, [], ◌∷◌, ◌++◌, length, Option, Some, None, Bool, true, false, cond, refl, sym, ◌∙◌, ap, subst, arith}
use Rattle.std.specs.Prelude.{◌^◌, is_some}
use Rattle.std.specs.Ordering.{eq_by_cmp}
use Rattle.std.specs.FinMap.{get, insert, remove, find, len, entries, entries_sorted, contains_key, empty, from_sorted, entries-from_sorted, get-empty, get-from_sorted, get-from_entries, get-entries, get-insert, get-remove, len-empty, len-entries, len-insert, len-remove, same_map}
use Rattle.std.proofs.lemmas.Cmp.{nat_list_cmp_total}
use Rattle.std.proofs.lemmas.Map.Lookups.{exact_bytes}
use Rattle.mr_map.specs.Bytes.{bytes_cmp, named_by, ByteMap}
use Rattle.std.specs.Global.{Box}
use Rattle.std.proofs.lemmas.List.{nil_from_length}
use Rattle.mr_map.specs.Merged.{held, joined, merged, AreParted, Entries}
use Rattle.mr_map.proofs.Merging.{apart, each_found, find-merged, first_put, length-merged, or_else, rise-merged, rise_of, second_put, sorted_of, tied, Long, Short}

same : {X : Type 0} (m n : ByteMap X) → ((q : List ℕ) → get m q ≡ get n q) → m ≡ n
same m n is = same_map nat_list_cmp_total exact_bytes m n is

-- ---- values that may be there
first_out : {X : Type 0} (b : Bool) (a o : Option X) → (b ≡ true → o ≡ None) → or_else (cond b None a) o ≡ cond b None (or_else a o)
first_out true a o f = f refl
first_out false a o f = refl

second_out : {X : Type 0} (b : Bool) (a o : Option X) → (b ≡ true → a ≡ None) → or_else a (cond b None o) ≡ cond b None (or_else a o)
second_out true a o f = ap (λ r. or_else r None) (f refl)
second_out false a o f = refl

or_none : {X : Type 0} (a : Option X) → or_else a None ≡ a
or_none None = refl
or_none (Some x) = refl

absent : {X : Type 0} (o : Option X) → (is_some o ≡ true → ⊥) → o ≡ None
absent None f = refl
absent (Some x) f = absurd (f refl)

if_put : {X : Type 0} (b : Bool) (x : X) (o : Option X) {P : Type 0} → (b ≡ true → P) → (is_some o ≡ true → P) → is_some (cond b (Some x) o) ≡ true → P
if_put true x o f g h = f refl
if_put false x o f g h = g h

if_kept : {X : Type 0} (b : Bool) (o : Option X) → is_some (cond b None o) ≡ true → is_some o ≡ true
if_kept true o h = cc
if_kept false o h = h

found_in_both : {X : Type 0} (q : List ℕ) (es fs : Entries X) → find bytes_cmp q (es ++ fs) ≡ or_else (find bytes_cmp q es) (find bytes_cmp q fs)
found_in_both q [] fs = refl
found_in_both q (e ∷ es) fs = ap (cond (eq_by_cmp bytes_cmp q e.0) (Some e.1)) (found_in_both q es fs) ∙ first_put (eq_by_cmp bytes_cmp q e.0) e.1 (find bytes_cmp q es) (find bytes_cmp q fs)

get-joined : {X : Type 0} (m n : ByteMap X) (q : List ℕ) → get (joined m n) q ≡ or_else (get m q) (get n q)
get-joined m n q =
    get-from_entries nat_list_cmp_total (entries m ++ entries n) q
    ∙ found_in_both q (entries m) (entries n)
    ∙ sym (λ i. or_else (get-entries m q i) (get-entries n q i))

-- ---- how many there are
put_fits : (b : Bool) (n : ℕ) → n + 1 < 2 ^ 63 → cond b n (n + 1) < 2 ^ 63
put_fits true n h = omega (arith, h)
put_fits false n h = h

out_fits : (b : Bool) (n : ℕ) → n < 2 ^ 63 → cond b (n - 1) n < 2 ^ 63
out_fits true n h = omega (arith, h)
out_fits false n h = h

module _ {X : Type 0} (m : ByteMap X) (k : List ℕ) where
  -- one more is few enough
  pub room_for : (v : X) → len m + 1 < 2 ^ 63 → len (insert m k v) < 2 ^ 63
  room_for v h = subst (λ n. n < 2 ^ 63) (sym (len-insert nat_list_cmp_total m k v)) (put_fits (contains_key m k) (len m) h)

  -- another value of a key that is there
  pub room_in_place : (v : X) → contains_key m k ≡ true → len m < 2 ^ 63 → len (insert m k v) < 2 ^ 63
  room_in_place v there h = subst (λ n. n < 2 ^ 63) (sym (len-insert nat_list_cmp_total m k v ∙ ap (λ b. cond b (len m) (len m + 1)) there)) h

  room_after : len m < 2 ^ 63 → len (remove m k) < 2 ^ 63
  room_after h = subst (λ n. n < 2 ^ 63) (sym (len-remove nat_list_cmp_total m k)) (out_fits (contains_key m k) (len m) h)

-- ---- what is there, and one change
module _ {X : Type 0} (m n : ByteMap X) (parted : AreParted m n) where
  no_short : (q : List ℕ) → Long q → get m q ≡ None
  no_short q long = absent (get m q) (λ h. apart q q (parted.short q h) long refl)

  no_long : (q : List ℕ) → Short q → get n q ≡ None
  no_long q short = absent (get n q) (λ h. apart q q short (parted.long q h) refl)

  pub get_short : (q : List ℕ) → Short q → get (joined m n) q ≡ get m q
  get_short q short = get-joined m n q ∙ ap (or_else (get m q)) (no_long q short) ∙ or_none (get m q)

  pub get_long : (q : List ℕ) → Long q → get (joined m n) q ≡ get n q
  get_long q long = get-joined m n q ∙ ap (λ o. or_else o (get n q)) (no_short q long)

  module _ (k : List ℕ) where
    pub put_short : (v : X) → joined (insert m k v) n ≡ insert (joined m n) k v
    put_short v = same _ _ (λ q.
        get-joined (insert m k v) n q ∙ ap (λ o. or_else o (get n q)) (get-insert nat_list_cmp_total m k v q)
        ∙ sym (first_put (eq_by_cmp bytes_cmp q k) v (get m q) (get n q))
        ∙ sym (get-insert nat_list_cmp_total (joined m n) k v q ∙ ap (cond (eq_by_cmp bytes_cmp q k) (Some v)) (get-joined m n q)))

    pub put_long : (v : X) → Long k → joined m (insert n k v) ≡ insert (joined m n) k v
    put_long v long = same _ _ (λ q.
        get-joined m (insert n k v) q ∙ ap (or_else (get m q)) (get-insert nat_list_cmp_total n k v q)
        ∙ sym (second_put (eq_by_cmp bytes_cmp q k) v (get m q) (get n q) (λ h. no_short q (subst Long (sym (tied q k h)) long)))
        ∙ sym (get-insert nat_list_cmp_total (joined m n) k v q ∙ ap (cond (eq_by_cmp bytes_cmp q k) (Some v)) (get-joined m n q)))

    pub out_short : Short k → joined (remove m k) n ≡ remove (joined m n) k
    out_short short = same _ _ (λ q.
        get-joined (remove m k) n q ∙ ap (λ o. or_else o (get n q)) (get-remove nat_list_cmp_total m k q)
        ∙ first_out (eq_by_cmp bytes_cmp q k) (get m q) (get n q) (λ h. no_long q (subst Short (sym (tied q k h)) short))
        ∙ sym (get-remove nat_list_cmp_total (joined m n) k q ∙ ap (cond (eq_by_cmp bytes_cmp q k) None) (get-joined m n q)))

    pub out_long : Long k → joined m (remove n k) ≡ remove (joined m n) k
    out_long long = same _ _ (λ q.
        get-joined m (remove n k) q ∙ ap (or_else (get m q)) (get-remove nat_list_cmp_total n k q)
        ∙ second_out (eq_by_cmp bytes_cmp q k) (get m q) (get n q) (λ h. no_short q (subst Long (sym (tied q k h)) long))
        ∙ sym (get-remove nat_list_cmp_total (joined m n) k q ∙ ap (cond (eq_by_cmp bytes_cmp q k) None) (get-joined m n q)))

    pub parted_put_short : (v : X) → Short k → len (insert (joined m n) k v) < 2 ^ 63 → AreParted (insert m k v) n
    parted_put_short v short room = record {
      short = λ q h. if_put (eq_by_cmp bytes_cmp q k) v (get m q) (λ e. subst Short (sym (tied q k e)) short) (parted.short q) (sym (ap is_some (get-insert nat_list_cmp_total m k v q)) ∙ h);
      long = parted.long;
      few = subst (λ j. len j < 2 ^ 63) (sym (put_short v)) room;
    }

    pub parted_put_long : (v : X) → Long k → len (insert (joined m n) k v) < 2 ^ 63 → AreParted m (insert n k v)
    parted_put_long v long room = record {
      short = parted.short;
      long = λ q h. if_put (eq_by_cmp bytes_cmp q k) v (get n q) (λ e. subst Long (sym (tied q k e)) long) (parted.long q) (sym (ap is_some (get-insert nat_list_cmp_total n k v q)) ∙ h);
      few = subst (λ j. len j < 2 ^ 63) (sym (put_long v long)) room;
    }

    pub parted_out_short : Short k → AreParted (remove m k) n
    parted_out_short short = record {
      short = λ q h. parted.short q (if_kept (eq_by_cmp bytes_cmp q k) (get m q) (sym (ap is_some (get-remove nat_list_cmp_total m k q)) ∙ h));
      long = parted.long;
      few = subst (λ j. len j < 2 ^ 63) (sym (out_short short)) (room_after (joined m n) k parted.few);
    }

    pub parted_out_long : Long k → AreParted m (remove n k)
    parted_out_long long = record {
      short = parted.short;
      long = λ q h. parted.long q (if_kept (eq_by_cmp bytes_cmp q k) (get n q) (sym (ap is_some (get-remove nat_list_cmp_total n k q)) ∙ h));
      few = subst (λ j. len j < 2 ^ 63) (sym (out_long long)) (room_after (joined m n) k parted.few);
    }

  -- ---- the entries as a list
  pub entries_joined : entries (joined m n) ≡ merged (entries m) (entries n)
  entries_joined =
      let all = merged (entries m) (entries n) in
      let shorts = each_found Short (entries m) (λ q h. parted.short q (ap is_some (get-entries m q) ∙ h)) in
      let longs = each_found Long (entries n) (λ q h. parted.long q (ap is_some (get-entries n q) ∙ h)) in
      let sorted = sorted_of all (rise-merged (entries m) (entries n) (rise_of (entries m) (entries_sorted m)) (rise_of (entries n) (entries_sorted n)) shorts longs) in
      let is_all = same (joined m n) (from_sorted all) (λ q.
      get-joined m n q ∙ (λ i. or_else (get-entries m q i) (get-entries n q i))
      ∙ sym (get-from_sorted bytes_cmp all q sorted ∙ find-merged q (entries m) (entries n) shorts longs)) in
      ap entries is_all ∙ entries-from_sorted bytes_cmp all sorted

  pub len_joined : len m + len n ≡ len (joined m n)
  len_joined =
      (λ i. len-entries m i + len-entries n i)
      ∙ sym (len-entries (joined m n) ∙ ap length entries_joined ∙ length-merged (entries m) (entries n))

-- ---- none
never : {X : Type 0} (o : Option X) → o ≡ None → is_some o ≡ true → ⊥
never None e h = cc
never (Some x) e h = cc

module _ {X : Type 0} where
  none_there : (q : List ℕ) → get (empty {X = X} {R = bytes_cmp}) q ≡ None
  none_there q = get-empty {X = X} bytes_cmp q

  pub joined_empty : joined empty empty ≡ empty {X = X} {R = bytes_cmp}
  joined_empty = same _ _ (λ q. get-joined empty empty q ∙ (λ i. or_else (none_there q i) (none_there q i)) ∙ sym (none_there q))

  pub parted_empty : AreParted (empty {X = X} {R = bytes_cmp}) empty
  parted_empty = record {
    short = λ q h. absurd (never _ (none_there q) h);
    long = λ q h. absurd (never _ (none_there q) h);
    few = subst (λ n. n < 2 ^ 63) (sym (ap len joined_empty ∙ len-empty bytes_cmp X)) (let h : 0 < 2 ^ 63 = omega arith in h);
  }

cut_none : {X : Type 0} (b : Bool) (o : Option X) → o ≡ None → cond b None o ≡ o
cut_none true o e = sym e
cut_none false o e = refl

-- a map before its trees come
module _ {X : Type 0} (t : Option (Box (ByteMap X))) (m : ByteMap X) (is : held t ≡ m) (none : t ≡ None) where
  is_empty : empty ≡ m
  is_empty = sym (ap held none) ∙ is

  pub none_got : (k : List ℕ) → None ≡ get m k
  none_got k = sym (none_there k) ∙ ap (λ m. get m k) is_empty

  pub none_removed : (k : List ℕ) → m ≡ remove m k
  none_removed k =
      sym is_empty
      ∙ sym (same (remove empty k) empty (λ q. get-remove nat_list_cmp_total empty k q ∙ cut_none (eq_by_cmp bytes_cmp q k) (get empty q) (none_there q)))
      ∙ ap (λ m. remove m k) is_empty

  pub none_counted : 0 ≡ len m
  none_counted = sym (len-empty bytes_cmp X) ∙ ap len is_empty

  pub none_listed : [] ≡ entries m
  none_listed = sym (nil_from_length (entries empty) (sym (len-entries empty) ∙ len-empty bytes_cmp X)) ∙ ap entries is_empty

-- entries whose keys are their own texts
pub as_they_are : {X : Type 0} (es : Entries X) → named_by (λ k. k) es ≡ es
as_they_are [] = refl
as_they_are (e ∷ es) = ap (λ l. e ∷ l) (as_they_are es)
