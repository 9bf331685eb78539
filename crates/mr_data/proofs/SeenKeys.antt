-- The keys that are seen at a moment.
use Rattle.std.proofs.Common.{◌≡◌, ℤ, List, [], ◌∷◌, map, length, Bool, true, false, cond, None, refl, sym, ◌∙◌, ap}
use Rattle.std.specs.Prelude.{filter, is_some, if◌then◌else◌}
use Rattle.std.specs.declared.cmp.Ordering.TheVariants.{Equal}
use Rattle.std.specs.FinMap.{get, keys, entries, retain_keys, len, len-entries, from_sorted, entries_sorted, get-from_sorted, entries-from_sorted, get-entries, get-retain_keys, same_map}
use Rattle.std.specs.FinMap.Entries.{where_key, is_sorted-where_key, find-where_key}
use Rattle.std.proofs.lemmas.List.{length-map}
use Rattle.std.proofs.lemmas.Cmp.{nat_list_cmp_total}
use Rattle.std.proofs.lemmas.Map.Lookups.{exact_bytes}
use Rattle.mr_map.specs.Bytes.{Bytes, bytes_cmp}
use Rattle.mr_keyspace.specs.Dataset.{Dataset}
use Rattle.mr_data.specs.Dataset.{live, seen}
use Rattle.mr_keyspace.specs.declared.value.Entry.{Entry}

-- ---- the keys that pass a test
module _ (p : Bytes → Bool) where
  kept : (es : List (Bytes × Entry)) → map (λ (e : Bytes × Entry). e.0) (filter (λ (e : Bytes × Entry). p e.0) es) ≡ filter p (map (λ (e : Bytes × Entry). e.0) es)
  kept [] = refl
  kept (e ∷ es) = elim (p e.0) as (λ b. map (λ (e : Bytes × Entry). e.0) (if b then e ∷ filter (λ (e : Bytes × Entry). p e.0) es else filter (λ (e : Bytes × Entry). p e.0) es) ≡ (if b then e.0 ∷ filter p (map (λ (e : Bytes × Entry). e.0) es) else filter p (map (λ (e : Bytes × Entry). e.0) es))) [
    | true ↦ ap (λ ks. e.0 ∷ ks) (kept es)
    | false ↦ kept es
  ]

  alike : (q x : Bytes) → bytes_cmp q x ≡ Equal → p x ≡ p q
  alike q x t = ap p (sym (exact_bytes q x t))

  keys_retain : (m : Dataset) → keys (retain_keys m p) ≡ filter p (keys m)
  keys_retain m =
      let es = where_key bytes_cmp p (entries m) in
      let in_order = is_sorted-where_key bytes_cmp p (entries m) (entries_sorted m) in
      let same : from_sorted {R = bytes_cmp} es ≡ retain_keys m p = same_map nat_list_cmp_total exact_bytes _ _ (λ q.
      get-from_sorted bytes_cmp es q in_order
      ∙ find-where_key bytes_cmp p q (alike q) (entries m)
      ∙ ap (λ o. cond (p q) o None) (sym (get-entries m q))
      ∙ sym (get-retain_keys m p q (alike q))) in
      ap keys (sym same) ∙ ap (λ (xs : List (Bytes × Entry)). map (λ (e : Bytes × Entry). e.0) xs) (entries-from_sorted bytes_cmp es in_order) ∙ kept (entries m)

pub keys_seen : (now : ℤ) (m : Dataset) → keys (seen now m) ≡ filter (λ k. is_some (live now (get m k))) (keys m)
unfolding seen
keys_seen now m = keys_retain (λ k. is_some (live now (get m k))) m

-- ---- how many there are
len_keys : (m : Dataset) → len m ≡ length (keys m)
len_keys m = len-entries m ∙ sym (length-map (entries m) (λ e. e.0))

pub len_seen : (now : ℤ) (m : Dataset) → len (seen now m) ≡ length (filter (λ k. is_some (live now (get m k))) (keys m))
len_seen now m = len_keys (seen now m) ∙ ap length (keys_seen now m)
