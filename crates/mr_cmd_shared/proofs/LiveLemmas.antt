-- Where no key is due, what is stored is what is seen, and none of it is expired.
use Rattle.std.proofs.Common.{◌≡◌, ◌≤◌, ℤ, suc, List, [], ◌∷◌, map, length, Bool, true, false, cond, Option, Some, None, refl, sym, ◌∙◌, ap, arith}
use Rattle.std.specs.Prelude.{◌↔◌, slice_get, is_some, not, filter, if◌then◌else◌, option_copied, option_map, IsTrue}
use Rattle.std.specs.Borrow.{Bor}
use Rattle.std.specs.FinMap.{get, remove, entries, find, len, get-entries, len-entries, same_map}
use Rattle.std.proofs.lemmas.List.{length-map}
use Rattle.std.proofs.lemmas.Cmp.{nat_list_cmp_total}
use Rattle.std.proofs.lemmas.Map.Lookups.{exact_bytes}
use Rattle.mr_map.specs.Bytes.{Bytes, bytes_cmp}
use Rattle.mr_keyspace.specs.Dataset.{Dataset}
use Rattle.mr_keyspace.specs.declared.value.Entry.{Entry}
use Rattle.mr_keyspace.proofs.Maps.{same_key}
use Rattle.mr_data.specs.Dataset.{is_expired, live, seen}
use Rattle.mr_data.specs.Due.{due}
use Rattle.mr_data.proofs.LiveKeys.{len_parts}
use Rattle.mr_data.proofs.Seeing.{get-seen}
use Rattle.mr_data.proofs.SeenKeys.{len_seen}
use Rattle.mr_cmd_shared.specs.Keys.{chosen, is_stored}
use Rattle.mr_cmd_shared.specs.Taken.{is_key}

no_first : {A : Type 0} (xs : List A) → slice_get xs 0 ≡ None → length xs ≡ 0
no_first [] h = refl
no_first (x ∷ xs) h = cc

no_items : {A : Type 0} (xs : List A) → length xs ≡ 0 → slice_get xs 0 ≡ None
no_items [] h = refl
no_items (x ∷ xs) h = absurd (omega (arith, h))

-- ---- one entry
still_there : (now : ℤ) (o : Option Entry) → (is_some o ≡ true → is_some (live now o) ≡ true) → live now o ≡ o
still_there now None h = refl
still_there now (Some e) h = elim (is_expired now e.deadline) as (λ b. is_some (if b then None else Some e) ≡ true → (if b then None else Some e) ≡ Some e) [ true ↦ λ t. cc | false ↦ λ t. refl ] (h refl)

not_expired : (now : ℤ) (o : Option Entry) → live now o ≡ o → is_stored now true o ≡ false
not_expired now None h = refl
not_expired now (Some e) h = elim (is_expired now e.deadline) as (λ b. (if b then None else Some e) ≡ Some e → b ≡ false) [ true ↦ λ t. cc | false ↦ λ t. refl ] h

-- ---- all entries
module _ (now : ℤ) (m : Dataset) where
  abbrev is_live : Bytes → Bool
  is_live k = is_some (live now (get m k))

  no_longer : (ks : List Bytes) → length (filter is_live ks) ≤ length ks
  no_longer [] = omega arith
  no_longer (k ∷ ks) = elim (is_live k) as (λ b. length (cond b (k ∷ filter is_live ks) (filter is_live ks)) ≤ suc (length ks)) [
    | true ↦ omega (arith, no_longer ks)
    | false ↦ omega (arith, no_longer ks)
  ]

  -- where all pass, each does
  each_live : (k : Bytes) (es : List (Bytes × Entry)) → length (filter is_live (map (λ (e : Bytes × Entry). e.0) es)) ≡ length es → is_some (find bytes_cmp k es) ≡ true → is_live k ≡ true
  each_live k [] all there = cc
  each_live k (e ∷ es) all there =
      let ks : List Bytes = map (λ (x : Bytes × Entry). x.0) es in
      elim (is_live e.0) as (λ b. is_live e.0 ≡ b → length (cond b (e.0 ∷ filter is_live ks) (filter is_live ks)) ≡ suc (length es) → is_live k ≡ true) [
        | true ↦ λ t a. elim (is_key k e.0) as (λ b. is_key k e.0 ≡ b → is_some (cond b (Some e.1) (find bytes_cmp k es)) ≡ true → is_live k ≡ true) [
          | true ↦ λ s i. ap is_live (same_key k e.0 s) ∙ t
          | false ↦ λ s i. each_live k es (omega (arith, a)) i
        ] refl there
        | false ↦ λ t a. absurd (omega (arith, a, no_longer ks, length-map es (λ (x : Bytes × Entry). x.0)))
      ] refl all

  all_live : slice_get (due now m) 0 ≡ None → seen now m ≡ m
  all_live none =
      let all : length (filter is_live (map (λ (e : Bytes × Entry). e.0) (entries m))) ≡ length (entries m) =
      omega (arith, len_seen now m, len_parts now m, len-entries m, no_first (due now m) none) in
      same_map nat_list_cmp_total exact_bytes _ _ (λ k. get-seen now m k ∙ still_there now (get m k) (λ there. each_live k (entries m) all (ap is_some (sym (get-entries m k)) ∙ there)))

  none_due : seen now m ≡ m → slice_get (due now m) 0 ≡ None
  none_due all = no_items (due now m) (let same : len (seen now m) ≡ len m = ap len all in omega (arith, len_parts now m, same))

  -- what the first key that is due tells
  mapped_none : (d : Option (Bytes × ℤ)) → None ≡ option_map (λ (p : Bytes × ℤ). p.0) d → d ≡ None
  mapped_none None h = refl
  mapped_none (Some d) h = cc

  pub first_due_tells : (first : Option (Bor Bytes)) (b : Bool) → option_copied first ≡ option_map (λ (p : Bytes × ℤ). p.0) (slice_get (due now m) 0) → is_some first ≡ not b → IsTrue b ↔ (seen now m ≡ m)
  first_due_tells None true is test = (λ yes. all_live (mapped_none _ is), λ all. refl)
  first_due_tells None false is test = cc
  first_due_tells (Some x) true is test = cc
  first_due_tells (Some x) false is test = (λ yes. cc, λ all. let wrong : Some x.now ≡ None = is ∙ ap (option_map (λ (p : Bytes × ℤ). p.0)) (none_due all) in cc)

  -- none of some keys is expired
  pub none_expired : (b : Bool) → b ≡ true → seen now m ≡ m → (ks : List Bytes) → chosen (is_stored now b) ks m ≡ []
  none_expired b is all [] = refl
  none_expired b is all (k ∷ ks) =
      ap (λ c. if c then k ∷ chosen (is_stored now b) ks (remove m k) else chosen (is_stored now b) ks m)
      (ap (λ c. is_stored now c (get m k)) is ∙ not_expired now (get m k) (sym (get-seen now m k) ∙ ap (λ (x : Dataset). get x k) all))
      ∙ none_expired b is all ks
