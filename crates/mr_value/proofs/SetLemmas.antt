-- Members in a list, and the set of them.
use Rattle.std.proofs.Common.{◌≡◌, ℕ, zero, suc, ◌+◌, ◌<◌, ◌≤◌, List, [], ◌∷◌, length, map, min, drop, get_or, Bool, true, false, ◌||◌, ◌&&◌, not, Option, Some, None, refl, sym, ap, ap₂, subst, ◌∙◌, inl, inr, arith}
use Rattle.std.specs.Prelude.{Result, Ok, Err, IfSome, cond, is_some, nat_lt, slice_get, option_copied}
use Rattle.std.specs.Borrow.{Bor}
use Rattle.std.specs.Iterator.{YieldsFirstRef}
use Rattle.std.specs.FinMap as finite
use Rattle.std.specs.FinMap.Entries.{put}
use Rattle.std.specs.List.{AllWithin, insert, remove, list_any}
use Rattle.std.specs.List.Sorted.{IsStrictlySortedBy}
use Rattle.std.specs.Ordering.{eq_by_cmp, is_eq, match_ordering}
use Rattle.std.specs.Result.{is_ok}
use Rattle.std.specs.declared.cmp.Ordering.{Ordering}
use Rattle.std.specs.declared.cmp.Ordering.TheVariants.{Less, Equal, Greater}
use Rattle.std.proofs.lemmas.Bool.{cases_lt}
use Rattle.std.proofs.lemmas.Bool.Decides.{nat_tests}
use Rattle.std.proofs.lemmas.Cmp.{nat_list_cmp_total}
use Rattle.std.proofs.lemmas.List.{length-map, nil_from_length}
use Rattle.std.proofs.lemmas.Map.Lookups.{exact_bytes}
use Rattle.std.proofs.Math.ListN.{drop_of_length-le}
use Rattle.mr_map.specs.Bytes.{bytes_cmp, ByteMap}
use Rattle.mr_map.proofs.Conditions.{or_swap}
use Rattle.mr_map.proofs.Domains.{one_unit}
use Rattle.std.specs.BTreeSet.{insert_key}
use Rattle.mr_order.specs.Changes.{IsItemAt, IsTaken, left_at}
use Rattle.mr_order.specs.Standing.{IsPlaceOf, StandsAt, StandsBefore}
use Rattle.mr_value.specs.Members.{set_of}

abbrev Set : Type 0
Set = ByteMap (Unit {0})

-- whether these bytes are the member
abbrev pub is_same : List ℕ → List ℕ → Bool
is_same q k = eq_by_cmp bytes_cmp q k

-- whether one of the members is these bytes
abbrev has : List (List ℕ) → List ℕ → Bool
has xs q = list_any (is_same q) xs

pub tied : (r : Ordering) → is_eq r ≡ true → r ≡ Equal
tied Less e = cc
tied Equal e = refl
tied Greater e = cc

pub same_bytes : (q k : List ℕ) → is_same q k ≡ true → q ≡ k
same_bytes q k e = exact_bytes q k (tied _ e)

or_true : (a : Bool) → (a || true) ≡ true
or_true true = refl
or_true false = refl

or_same : (a b : Bool) → (a || (a || b)) ≡ (a || b)
or_same true b = refl
or_same false b = refl

some_or : (b : Bool) (o : Option (Unit {0})) → is_some (cond b (Some tt) o) ≡ (b || is_some o)
some_or true o = refl
some_or false o = refl

none_and : (b : Bool) (o : Option (Unit {0})) → is_some (cond b None o) ≡ (not b && is_some o)
none_and true o = refl
none_and false o = refl

-- sets that have the same members are one
same : (s t : Set) → ((q : List ℕ) → finite.contains_key s q ≡ finite.contains_key t q) → s ≡ t
same s t is = finite.same_map nat_list_cmp_total exact_bytes s t (λ q. one_unit _ _ (is q))

after_insert : (s : Set) (k q : List ℕ) → finite.contains_key (finite.insert s k tt) q ≡ (is_same q k || finite.contains_key s q)
after_insert s k q = ap is_some (finite.get-insert nat_list_cmp_total s k tt q) ∙ some_or (is_same q k) (finite.get s q)

after_remove : (s : Set) (k q : List ℕ) → finite.contains_key (finite.remove s k) q ≡ (not (is_same q k) && finite.contains_key s q)
after_remove s k q = ap is_some (finite.get-remove nat_list_cmp_total s k q) ∙ none_and (is_same q k) (finite.get s q)

contains_is : (xs : List (List ℕ)) (q : List ℕ) → finite.contains_key (set_of xs) q ≡ has xs q
contains_is [] q = ap is_some (finite.get-empty bytes_cmp q)
contains_is (x ∷ xs) q = after_insert (set_of xs) x q ∙ ap (λ b. is_same q x || b) (contains_is xs q)

-- what a search has told

there : (q : List ℕ) (xs : List (List ℕ)) (at : ℕ) → at < length xs → ((d : List ℕ) → bytes_cmp q (get_or xs at d) ≡ Equal) → has xs q ≡ true
there q [] at within here = absurd (omega arith)
there q (x ∷ xs) zero within here = ap (λ r. is_eq r || has xs q) (here x)
there q (x ∷ xs) (suc at) within here = ap (λ b. is_same q x || b) (there q xs at (omega arith) here) ∙ or_true (is_same q x)

absent : (q : List ℕ) (xs : List (List ℕ)) (p : ℕ) → AllWithin (λ y. bytes_cmp q y ≡ Greater) xs 0 p → AllWithin (λ y. bytes_cmp q y ≡ Less) xs p (length xs) → has xs q ≡ false
absent q [] p front back = refl
absent q (x ∷ xs) zero front back =
    ap (λ r. is_eq r || has xs q) (back zero x (omega arith) (omega arith))
    ∙ absent q xs zero (λ k d lo lt. absurd (omega arith)) (λ k d lo lt. back (suc k) d (omega arith) (omega arith))
absent q (x ∷ xs) (suc p) front back =
    ap (λ r. is_eq r || has xs q) (front zero x (omega arith) (omega arith))
    ∙ absent q xs p (λ k d lo lt. front (suc k) d (omega arith) (omega arith)) (λ k d lo lt. back (suc k) d (omega arith) (omega arith))

module _ (q k : List ℕ) (xs : List (List ℕ)) (s : Set) (named : q ≡ k) (is : set_of xs ≡ s) where
  pub contains_found : (at : ℕ) → StandsAt (bytes_cmp q) xs at → finite.contains_key s k ≡ true
  contains_found at stands = sym (ap₂ (λ (m : Set) (n : List ℕ). finite.contains_key m n) is named) ∙ contains_is xs q ∙ there q xs at stands.within stands.here

  pub contains_missed : (p : ℕ) → StandsBefore (bytes_cmp q) xs p → finite.contains_key s k ≡ false
  contains_missed p stands = sym (ap₂ (λ (m : Set) (n : List ℕ). finite.contains_key m n) is named) ∙ contains_is xs q ∙ absent q xs p stands.front stands.back

pub contains_told : (q : List ℕ) (xs : List (List ℕ)) (r : Result ℕ ℕ) → IsPlaceOf (bytes_cmp q) xs r → is_ok r ≡ finite.contains_key (set_of xs) q
contains_told q xs (Ok at) stands = sym (contains_found q q xs (set_of xs) refl refl at stands)
contains_told q xs (Err p) stands = sym (contains_missed q q xs (set_of xs) refl refl p stands)

-- what is known of one member, as a fact on each
at_one : (s : Set) (k q : List ℕ) (b : Bool) → finite.contains_key s k ≡ b → is_same q k ≡ true → finite.contains_key s q ≡ b
at_one s k q b is e = ap (λ (n : List ℕ). finite.contains_key s n) (same_bytes q k e) ∙ is

pub insert_present : (s : Set) (k : List ℕ) → finite.contains_key s k ≡ true → finite.insert s k tt ≡ s
insert_present s k is = same _ _ (λ q. after_insert s k q ∙ elim (is_same q k) as (λ b. is_same q k ≡ b → (b || finite.contains_key s q) ≡ finite.contains_key s q) [
  | true ↦ λ e. sym (at_one s k q true is e)
  | false ↦ λ e. refl
] refl)

pub remove_absent : (s : Set) (k : List ℕ) → finite.contains_key s k ≡ false → finite.remove s k ≡ s
remove_absent s k is = same _ _ (λ q. after_remove s k q ∙ elim (is_same q k) as (λ b. is_same q k ≡ b → (not b && finite.contains_key s q) ≡ finite.contains_key s q) [
  | true ↦ λ e. sym (at_one s k q false is e)
  | false ↦ λ e. refl
] refl)

-- a member comes

one_more : (xs : List (List ℕ)) (at : ℕ) (v : List ℕ) (q : List ℕ) → at ≤ length xs → has (insert xs at v) q ≡ (is_same q v || has xs q)
one_more [] zero v q within = refl
one_more [] (suc at) v q within = absurd (omega arith)
one_more (x ∷ xs) zero v q within = refl
one_more (x ∷ xs) (suc at) v q within = ap (λ b. is_same q x || b) (one_more xs at v q (omega arith)) ∙ or_swap (is_same q x) (is_same q v) (has xs q)

pub set_inserted : (xs : List (List ℕ)) (at : ℕ) (v : List ℕ) → at ≤ length xs → set_of (insert xs at v) ≡ finite.insert (set_of xs) v tt
set_inserted xs at v within = same _ _ (λ q.
    contains_is (insert xs at v) q ∙ one_more xs at v q within
    ∙ sym (after_insert (set_of xs) v q ∙ ap (λ b. is_same q v || b) (contains_is xs q)))

has_put : (xs : List (List ℕ)) (v : List ℕ) (q : List ℕ) → has (insert_key bytes_cmp xs v) q ≡ (is_same q v || has xs q)
has_put [] v q = refl
has_put (x ∷ xs) v q = elim (bytes_cmp v x) as (λ r. bytes_cmp v x ≡ r → has (match_ordering r (v ∷ x ∷ xs) (x ∷ xs) (x ∷ insert_key bytes_cmp xs v)) q ≡ (is_same q v || has (x ∷ xs) q)) [
  | Less ↦ λ e. refl
  | Equal ↦ λ e. sym (ap (λ (n : List ℕ). is_same q n || has (x ∷ xs) q) (exact_bytes v x e) ∙ or_same (is_same q x) (has xs q))
  | Greater ↦ λ e. ap (λ b. is_same q x || b) (has_put xs v q) ∙ or_swap (is_same q x) (is_same q v) (has xs q)
] refl

pub set_put : (xs : List (List ℕ)) (v : List ℕ) → set_of (insert_key bytes_cmp xs v) ≡ finite.insert (set_of xs) v tt
set_put xs v = same _ _ (λ q.
    contains_is (insert_key bytes_cmp xs v) q ∙ has_put xs v q
    ∙ sym (after_insert (set_of xs) v q ∙ ap (λ b. is_same q v || b) (contains_is xs q)))

-- a member goes

gone : (k : List ℕ) (xs : List (List ℕ)) (at : ℕ) → at < length xs → AllWithin (λ y. bytes_cmp k y ≡ Greater) xs 0 at → AllWithin (λ y. bytes_cmp k y ≡ Less) xs (at + 1) (length xs) → has (remove xs at) k ≡ false
gone k [] at within front back = absurd (omega arith)
gone k (x ∷ xs) zero within front back = absent k xs zero (λ j d lo lt. absurd (omega arith)) (λ j d lo lt. back (suc j) d (omega arith) (omega arith))
gone k (x ∷ xs) (suc at) within front back =
    ap (λ r. is_eq r || has (remove xs at) k) (front zero x (omega arith) (omega arith))
    ∙ gone k xs at (omega arith) (λ j d lo lt. front (suc j) d (omega arith) (omega arith)) (λ j d lo lt. back (suc j) d (omega arith) (omega arith))

others : (k : List ℕ) (xs : List (List ℕ)) (at : ℕ) (q : List ℕ) → at < length xs → ((d : List ℕ) → bytes_cmp k (get_or xs at d) ≡ Equal) → is_same q k ≡ false → has (remove xs at) q ≡ has xs q
others k [] at q within here apart = absurd (omega arith)
others k (x ∷ xs) zero q within here apart = sym (ap (λ b. b || has xs q) (subst (λ (y : List ℕ). is_same q y ≡ false) (exact_bytes k x (here x)) apart))
others k (x ∷ xs) (suc at) q within here apart = ap (λ b. is_same q x || b) (others k xs at q (omega arith) here apart)

pub set_removed : (k : List ℕ) (xs : List (List ℕ)) (at : ℕ) → StandsAt (bytes_cmp k) xs at → set_of (remove xs at) ≡ finite.remove (set_of xs) k
set_removed k xs at stands = same _ _ (λ q.
    contains_is (remove xs at) q
    ∙ elim (is_same q k) as (λ b. is_same q k ≡ b → has (remove xs at) q ≡ (not b && has xs q)) [
      | true ↦ λ e. ap (λ (n : List ℕ). has (remove xs at) n) (same_bytes q k e) ∙ gone k xs at stands.within stands.front stands.back
      | false ↦ λ e. others k xs at q stands.within stands.here e
    ] refl
    ∙ sym (after_remove (set_of xs) k q ∙ ap (λ b. not (is_same q k) && b) (contains_is xs q)))

module _ (k : List ℕ) (xs ys : List (List ℕ)) (t : Option (List ℕ)) (taken : IsTaken (bytes_cmp k) xs t ys) where
  pub taken_told : is_some t ≡ finite.contains_key (set_of xs) k
  taken_told = by taken.place t taken.is taken.item where
    by : (r : Result ℕ ℕ) (u : Option (List ℕ)) → IsPlaceOf (bytes_cmp k) xs r → IsItemAt r xs u → is_some u ≡ finite.contains_key (set_of xs) k
    by (Ok at) None stands h = absurd h
    by (Ok at) (Some x) stands h = sym (contains_found k k xs (set_of xs) refl refl at stands)
    by (Err at) None stands h = sym (contains_missed k k xs (set_of xs) refl refl at stands)
    by (Err at) (Some x) stands h = absurd h

  pub taken_left : set_of ys ≡ finite.remove (set_of xs) k
  taken_left = by taken.place taken.is taken.left where
    by : (r : Result ℕ ℕ) → IsPlaceOf (bytes_cmp k) xs r → ys ≡ left_at r xs → set_of ys ≡ finite.remove (set_of xs) k
    by (Ok at) stands e = ap set_of e ∙ set_removed k xs at stands
    by (Err at) stands e = ap set_of e ∙ sym (remove_absent (set_of xs) k (contains_missed k k xs (set_of xs) refl refl at stands))

-- the members of a list in order

bare : List (List ℕ) → List (List ℕ × Unit {0})
bare ks = map {B = List ℕ × Unit {0}} (λ k. (k, tt)) ks

put_first : (x : List ℕ) (xs : List (List ℕ)) → IsStrictlySortedBy bytes_cmp (x ∷ xs) → put bytes_cmp x tt (bare xs) ≡ bare (x ∷ xs)
unfolding IsStrictlySortedBy bare
put_first x [] h = refl
put_first x (y ∷ ys) h = rw h.0.0 refl

entries_listed : (xs : List (List ℕ)) → IsStrictlySortedBy bytes_cmp xs → finite.entries (set_of xs) ≡ bare xs
unfolding IsStrictlySortedBy bare
entries_listed [] h = nil_from_length _ (sym (finite.len-entries (set_of [])) ∙ finite.len-empty bytes_cmp (Unit {0}))
entries_listed (x ∷ xs) h =
    finite.entries-insert nat_list_cmp_total (set_of xs) x tt
    ∙ ap (put bytes_cmp x tt) (entries_listed xs h.1)
    ∙ put_first x xs h

names_bare : (ks : List (List ℕ)) → map (λ e. e.0) (bare ks) ≡ ks
unfolding bare
names_bare [] = refl
names_bare (k ∷ ks) = ap (λ ls. k ∷ ls) (names_bare ks)

pub keys_listed : (xs : List (List ℕ)) → IsStrictlySortedBy bytes_cmp xs → finite.keys (set_of xs) ≡ xs
keys_listed xs h = ap (map (λ e. e.0)) (entries_listed xs h) ∙ names_bare xs

pub len_listed : (xs : List (List ℕ)) → IsStrictlySortedBy bytes_cmp xs → finite.len (set_of xs) ≡ length xs
len_listed xs h =
    finite.len-entries (set_of xs) ∙ sym (length-map (finite.entries (set_of xs)) (λ e. e.0))
    ∙ ap length (keys_listed xs h)

-- there are more members exactly where one is new
pub more_members : (xs ys : List (List ℕ)) (v : List ℕ) → IsStrictlySortedBy bytes_cmp xs → IsStrictlySortedBy bytes_cmp ys → ys ≡ insert_key bytes_cmp xs v → nat_lt (length xs) (length ys) ≡ not (finite.contains_key (set_of xs) v)
more_members xs ys v before after is =
    let long : length ys ≡ cond (finite.contains_key (set_of xs) v) (length xs) (length xs + 1) =
    sym (len_listed ys after) ∙ ap finite.len (ap set_of is ∙ set_put xs v) ∙ finite.len-insert nat_list_cmp_total (set_of xs) v tt
    ∙ ap (λ n. cond (finite.contains_key (set_of xs) v) n (n + 1)) (len_listed xs before) in
    ap (nat_lt (length xs)) long ∙ by (finite.contains_key (set_of xs) v) (length xs)
  where
    by : (b : Bool) (n : ℕ) → nat_lt n (cond b n (n + 1)) ≡ not b
    by true n = grind (arith, nat_tests)
    by false n = grind (arith, nat_tests)

-- members from a place on, and at a place

pub drop_min : (n k : ℕ) (xs : List (List ℕ)) → k ≡ min n (length xs) → drop k xs ≡ drop n xs
drop_min n k xs e =
    elim (cases_lt n (length xs)) [
      | inl within ↦ ap (λ i. drop i xs) (omega arith)
      | inr past ↦ drop_of_length-le xs (omega arith) ∙ sym (drop_of_length-le xs past)
    ]

front_of_drop : (xs : List (List ℕ)) (i : ℕ) → slice_get (drop i xs) 0 ≡ slice_get xs i
front_of_drop [] zero = refl
front_of_drop [] (suc i) = refl
front_of_drop (x ∷ xs) zero = refl
front_of_drop (x ∷ xs) (suc i) = front_of_drop xs i

pub first_from : (xs : List (List ℕ)) (i : ℕ) (s t : List (List ℕ)) (r : Option (Bor (List ℕ))) → s ≡ drop i xs → YieldsFirstRef (λ x. x) s r t → option_copied r ≡ slice_get xs i
first_from xs i s t None e h = sym (ap (λ zs. slice_get zs 0) (sym e ∙ h.0)) ∙ front_of_drop xs i
first_from xs i s t (Some x) e h = sym (ap (λ zs. slice_get zs 0) (sym e ∙ h)) ∙ front_of_drop xs i

-- a key that was made of these bytes is these bytes
pub same_short : (r : Option (List ℕ)) (short key : List ℕ) → IfSome r (λ s. s ≡ key) → r ≡ Some short → short ≡ key
same_short r short key same is = subst (λ o. IfSome o (λ s. s ≡ key)) is same

-- equal queries take the same
pub taken_by_same : (q k : List ℕ) (xs ys : List (List ℕ)) (t : Option (List ℕ)) → q ≡ k → IsTaken (bytes_cmp q) xs t ys → IsTaken (bytes_cmp k) xs t ys
taken_by_same q k xs ys t same taken = subst (λ (b : List ℕ). IsTaken (bytes_cmp b) xs t ys) same taken
