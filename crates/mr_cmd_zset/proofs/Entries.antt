-- The entries of a map whose keys pass a test.
use Rattle.std.proofs.Common.{◌≡◌, Bool, cond, None, sym, ◌∙◌, ap}
use Rattle.std.specs.Prelude.{filter}
use Rattle.std.specs.declared.cmp.Ordering.TheVariants.{Equal}
use Rattle.std.specs.FinMap.{entries, retain_keys, entries_sorted, get-entries, get-retain_keys, from_sorted, get-from_sorted, entries-from_sorted, same_map}
use Rattle.std.specs.FinMap.Entries.{where_key, is_sorted-where_key, find-where_key}
use Rattle.std.proofs.lemmas.Cmp.{nat_list_cmp_total}
use Rattle.std.proofs.lemmas.Map.Lookups.{exact_bytes}
use Rattle.mr_map.specs.Bytes.{Bytes, ByteMap, bytes_cmp}

module _ {X : Type 0} where
  pub entries_retained : (m : ByteMap X) (p : Bytes → Bool) → entries (retain_keys m p) ≡ filter (λ (e : Bytes × X). p e.0) (entries m)
  entries_retained m p =
      let alike : (q x : Bytes) → bytes_cmp q x ≡ Equal → p x ≡ p q = λ q x t. ap p (sym (exact_bytes q x t)) in
      let es = where_key bytes_cmp p (entries m) in
      let sorted = is_sorted-where_key bytes_cmp p (entries m) (entries_sorted m) in
      ap entries (same_map nat_list_cmp_total exact_bytes (retain_keys m p) (from_sorted es) (λ q.
      get-retain_keys m p q (alike q) ∙ ap (λ o. cond (p q) o None) (get-entries m q)
      ∙ sym (get-from_sorted bytes_cmp es q sorted ∙ find-where_key bytes_cmp p q (alike q) (entries m))))
      ∙ entries-from_sorted bytes_cmp es sorted
