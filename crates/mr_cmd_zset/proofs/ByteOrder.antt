-- Words that are sorted, and of which repeats go, are the keys of their set.
use Rattle.std.proofs.Common.{◌≡◌, List, [], ◌∷◌, map, Bool, true, false, ◌&&◌, cond, refl, sym, ◌∙◌, ap, subst}
use Rattle.std.specs.Prelude.{◌||◌, T, is_some}
use Rattle.std.specs.Borrow.{Bor}
use Rattle.std.specs.List.{AllByRecursion, dedup}
use Rattle.std.specs.List.Sorted.{IsPermutation, IsSorted, IsStrictlySortedBy}
use Rattle.std.specs.Ordering.{is_lt}
use Rattle.std.specs.declared.cmp.Ordering.TheVariants.{Less}
use Rattle.std.specs.FinMap.{keys, from_sorted, is_sorted, entries-from_sorted, get-from_sorted, same_map}
use Rattle.std.specs.FinMap.Entries.{below_all, is_some-find}
use Rattle.std.specs.Cmp.Lexicographic.{on_texts}
use Rattle.std.proofs.lemmas.Cmp.{nat_list_cmp_total}
use Rattle.std.proofs.lemmas.List.Kept.{IsStrictlySortedBy-dedup}
use Rattle.std.proofs.lemmas.List.Sorted.{IsPermutation-map, list_any-IsPermutation}
use Rattle.std.proofs.lemmas.Map.Keys.{sorted_head, sorted_tail}
use Rattle.std.proofs.lemmas.Map.Lookups.{exact_bytes}
use Rattle.mr_map.specs.Bytes.{Bytes, bytes_cmp, lent}
use Rattle.mr_map.proofs.Domains.{one_unit}
use Rattle.mr_cmd_shared.specs.Taken.{is_key, has}
use Rattle.mr_keyspace.proofs.Maps.{same_key}
use Rattle.mr_cmd_zset.specs.Removing.{as_set}
use Rattle.mr_cmd_zset.proofs.Removals.{contains_as_set}

-- ---- what is left of repeats has the same words
module _ (E : Bor Bytes → Bor Bytes → Bool) (ties : (x y : Bor Bytes) → E x y ≡ is_key x.now y.now) (q : Bytes) where
  or_again : (a b : Bool) → (a || b) ≡ (a || (a || b))
  or_again true b = refl
  or_again false b = refl

  has_once : (k : Bor Bytes) (xs : List (Bor Bytes)) → has (lent (dedup E (k ∷ xs))) q ≡ has (lent (k ∷ xs)) q
  has_once k [] = refl
  has_once k (x ∷ xs) = elim (E x k) as (λ b. E x k ≡ b → has (lent (cond b (dedup E (k ∷ xs)) (k ∷ dedup E (x ∷ xs)))) q ≡ (is_key q k.now || (is_key q x.now || has (lent xs) q))) [
    | true ↦ λ t. has_once k xs
        ∙ or_again (is_key q k.now) (has (lent xs) q)
        ∙ ap (λ (w : Bytes). is_key q k.now || (is_key q w || has (lent xs) q)) (sym (same_key x.now k.now (sym (ties x k) ∙ t)))
    | false ↦ λ t. ap (λ b. is_key q k.now || b) (has_once x xs)
  ] refl

  pub has_each_once : (xs : List (Bor Bytes)) → has (lent (dedup E xs)) q ≡ has (lent xs) q
  has_each_once [] = refl
  has_each_once (x ∷ xs) = has_once x xs

-- ---- words that strictly rise
bare : List (Bor Bytes) → List (Bytes × Unit {0})
bare xs = map {B = Bytes × Unit {0}} (λ (x : Bor Bytes). (x.now, tt)) xs

both : (a b : Bool) → T a → T b → T (a && b)
both true b g h = h
both false b g h = absurd g

below_bare : (k : Bytes) (xs : List (Bor Bytes)) → AllByRecursion (λ (x : Bor Bytes). bytes_cmp k x.now ≡ Less) xs → T (below_all bytes_cmp k (bare xs))
unfolding bare
below_bare k [] h = tt
below_bare k (x ∷ xs) h = both (is_lt (bytes_cmp k x.now)) (below_all bytes_cmp k (bare xs)) (subst (λ o. T (is_lt o)) (sym h.0) tt) (below_bare k xs h.1)

abbrev Rises : List (Bor Bytes) → Type 0
Rises xs = IsStrictlySortedBy (λ (x y : Bor Bytes). bytes_cmp x.now y.now) xs

sorted_bare : (xs : List (Bor Bytes)) → Rises xs → T (is_sorted bytes_cmp (bare xs))
unfolding bare
sorted_bare [] h = tt
sorted_bare (x ∷ xs) h = both (below_all bytes_cmp x.now (bare xs)) (is_sorted bytes_cmp (bare xs)) (below_bare x.now xs (sorted_head _ x xs h)) (sorted_bare xs (sorted_tail _ x xs h))

names_bare : (xs : List (Bor Bytes)) → map (λ (e : Bytes × Unit {0}). e.0) (bare xs) ≡ lent xs
unfolding bare
names_bare [] = refl
names_bare (x ∷ xs) = ap (λ (ks : List Bytes). x.now ∷ ks) (names_bare xs)

rising_keys : (xs : List (Bor Bytes)) (names : List Bytes) → Rises xs → ((q : Bytes) → has (lent xs) q ≡ has names q) → lent xs ≡ keys (as_set names)
rising_keys xs names up same =
    let sorted = sorted_bare xs up in
    let is : from_sorted {R = bytes_cmp} (bare xs) ≡ as_set names = same_map nat_list_cmp_total exact_bytes _ _ (λ q.
    one_unit _ _ (ap is_some (get-from_sorted bytes_cmp (bare xs) q sorted) ∙ is_some-find bytes_cmp q (bare xs) ∙ ap (λ (ks : List Bytes). has ks q) (names_bare xs) ∙ same q ∙ sym (contains_as_set names q))) in
    sym (names_bare xs) ∙ sym (ap (map (λ (e : Bytes × Unit {0}). e.0)) (entries-from_sorted bytes_cmp (bare xs) sorted)) ∙ ap keys is

-- ---- sorted, and each once
pub ordered_keys : (E : Bor Bytes → Bor Bytes → Bool) (ties : (x y : Bor Bytes) → E x y ≡ is_key x.now y.now) (xs ys zs : List (Bor Bytes)) → IsPermutation xs ys → IsSorted (λ (x y : Bor Bytes). bytes_cmp x.now y.now) ys → zs ≡ dedup E ys → lent zs ≡ keys (as_set (lent xs))
ordered_keys E ties xs ys zs moved sorted left =
    ap lent left
    ∙ rising_keys (dedup E ys) (lent xs) (IsStrictlySortedBy-dedup (on_texts (λ (x : Bor Bytes). x.now)) ties ys sorted)
    (λ q. has_each_once E ties q ys ∙ sym (list_any-IsPermutation (is_key q) (lent xs) (lent ys) (IsPermutation-map (λ (x : Bor Bytes). x.now) xs ys moved)))
