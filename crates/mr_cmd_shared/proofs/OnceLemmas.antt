-- The keys that are taken stand once, in order of naming; and items in groups.
use Rattle.std.proofs.Common.{ℤ, ◌≡◌, ◌<◌, ◌≤◌, List, [], ◌∷◌, length, All, filter, Bool, true, false, ◌&&◌, cond, Option, None, not, refl, sym, ◌∙◌, ap, subst, arith}
use Rattle.std.specs.Prelude.{◌≢◌, if◌then◌else◌}
use Rattle.std.specs.FinMap.{get, remove}
use Rattle.std.specs.List.{AllByRecursion, IsDistinct, list_all}
use Rattle.std.proofs.lemmas.List.Elements.{All-from_recursion}
use Rattle.mr_map.specs.Bytes.{Bytes}
use Rattle.mr_keyspace.specs.Cuts.{cut}
use Rattle.mr_keyspace.specs.Dataset.{Dataset}
use Rattle.mr_keyspace.specs.declared.value.Entry.{Entry}
use Rattle.mr_keyspace.proofs.Cutting.{IsGroup, cut_groups}
use Rattle.mr_keyspace.proofs.Maps.{same_key}
use Rattle.mr_keyspace.proofs.Puts.{is_key_symm, get_remove}
use Rattle.mr_cmd_shared.specs.Keys.{chosen, is_stored, named_once, expired}
use Rattle.mr_cmd_shared.specs.Taken.{is_key}

-- ---- what passes two tests
both_passed : {A : Type 0} (p q r : A → Bool) (xs : List A) → ((x : A) → r x ≡ q x && p x) → filter r xs ≡ filter p (filter q xs)
both_passed p q r [] h = refl
both_passed p q r (x ∷ xs) h =
    ap (λ b. cond b (x ∷ filter r xs) (filter r xs)) (h x)
    ∙ ap (λ ys. cond (q x && p x) (x ∷ ys) ys) (both_passed p q r xs h)
    ∙ elim (q x) as (λ b. cond (b && p x) (x ∷ filter p (filter q xs)) (filter p (filter q xs)) ≡ filter p (cond b (x ∷ filter q xs) (filter q xs))) [ true ↦ refl | false ↦ refl ]

all_filtered : {A : Type 0} (P : A → Type 0) (p : A → Bool) (xs : List A) → AllByRecursion P xs → AllByRecursion P (filter p xs)
all_filtered P p [] h = tt
all_filtered P p (x ∷ xs) h = elim (p x) as (λ b. AllByRecursion P (cond b (x ∷ filter p xs) (filter p xs))) [
  | true ↦ (h.0, all_filtered P p xs h.1)
  | false ↦ all_filtered P p xs h.1
]

distinct_filtered : {A : Type 0} (e : A → A → Bool) (p : A → Bool) (xs : List A) → IsDistinct e xs → IsDistinct e (filter p xs)
unfolding IsDistinct
distinct_filtered e p [] h = tt
distinct_filtered e p (x ∷ xs) h = elim (p x) as (λ b. IsDistinct e (cond b (x ∷ filter p xs) (filter p xs))) [
  | true ↦ (all_filtered (λ y. e x y ≡ false) p xs h.0, distinct_filtered e p xs h.1)
  | false ↦ distinct_filtered e p xs h.1
]

-- ---- keys
others_left : (k : Bytes) (ks : List Bytes) → AllByRecursion (λ q. is_key k q ≡ false) (filter (λ q. not (is_key q k)) ks)
others_left k [] = tt
others_left k (x ∷ ks) = elim (is_key x k) as (λ b. is_key x k ≡ b → AllByRecursion (λ q. is_key k q ≡ false) (cond (not b) (x ∷ filter (λ q. not (is_key q k)) ks) (filter (λ q. not (is_key q k)) ks))) [
  | true ↦ λ t. others_left k ks
  | false ↦ λ t. (is_key_symm k x ∙ t, others_left k ks)
] refl

once : (ks : List Bytes) → IsDistinct is_key (named_once ks)
unfolding IsDistinct
once [] = tt
once (k ∷ ks) = (others_left k (named_once ks), distinct_filtered is_key (λ q. not (is_key q k)) (named_once ks) (once ks))

-- what isn't there isn't chosen
passes_without : (test : Option Entry → Bool) (m : Dataset) (k q : Bytes) → test None ≡ false → test (get (remove m k) q) ≡ not (is_key q k) && test (get m q)
passes_without test m k q none = ap test (get_remove m k q) ∙ elim (is_key q k) as (λ b. test (cond b None (get m q)) ≡ not b && test (get m q)) [ true ↦ none | false ↦ refl ]

-- where the key isn't chosen, nor is it further on
passes_beside : (test : Option Entry → Bool) (m : Dataset) (k q : Bytes) → test (get m k) ≡ false → test (get m q) ≡ not (is_key q k) && test (get m q)
passes_beside test m k q out = elim (is_key q k) as (λ b. is_key q k ≡ b → test (get m q) ≡ not b && test (get m q)) [
  | true ↦ λ t. ap (λ (x : Bytes). test (get m x)) (same_key q k t) ∙ out
  | false ↦ λ t. refl
] refl

pub chosen_in_order : (test : Option Entry → Bool) (ks : List Bytes) (m : Dataset) → test None ≡ false → chosen test ks m ≡ filter (λ q. test (get m q)) (named_once ks)
chosen_in_order test [] m none = refl
chosen_in_order test (k ∷ ks) m none =
    let others : Bytes → Bool = λ q. not (is_key q k) in
    let passes : Bytes → Bool = λ q. test (get m q) in
    elim (test (get m k)) as (λ b. test (get m k) ≡ b → (if b then k ∷ chosen test ks (remove m k) else chosen test ks m) ≡ cond b (k ∷ filter passes (filter others (named_once ks))) (filter passes (filter others (named_once ks)))) [
      | true ↦ λ t.
          ap (λ (xs : List Bytes). k ∷ xs) (chosen_in_order test ks (remove m k) none
          ∙ both_passed passes others (λ q. test (get (remove m k) q)) (named_once ks) (λ q. passes_without test m k q none))
      | false ↦ λ t. chosen_in_order test ks m none ∙ both_passed passes others passes (named_once ks) (λ q. passes_beside test m k q t)
    ] refl

pub expired_in_order : (now : ℤ) (ks : List Bytes) (m : Dataset) → expired now ks m ≡ filter (λ k. is_stored now true (get m k)) (named_once ks)
expired_in_order now ks m = chosen_in_order (is_stored now true) ks m refl

pub expired_once : (now : ℤ) (ks : List Bytes) (m : Dataset) → IsDistinct is_key (expired now ks m)
expired_once now ks m = subst (IsDistinct is_key) (sym (expired_in_order now ks m)) (distinct_filtered is_key (λ k. is_stored now true (get m k)) (named_once ks) (once ks))

-- ---- groups
some_item : {A : Type 0} (g : List A) → g ≢ [] → 0 < length g
some_item [] h = absurd (h refl)
some_item (x ∷ g) h = omega arith

all_pass : {A : Type 0} (xs : List A) → list_all (λ x. true) xs ≡ true
all_pass [] = refl
all_pass (x ∷ xs) = all_pass xs

abbrev IsCutGroup : {A : Type 0} → List A → Type 0
IsCutGroup g = (0 < length g) × (length g ≤ 64)

cut_right : {A : Type 0} (gs : List (List A)) → AllByRecursion (IsGroup (λ x. true)) gs → AllByRecursion IsCutGroup gs
cut_right [] h = tt
cut_right (g ∷ gs) h = ((some_item g h.0.some, h.0.few), cut_right gs h.1)

pub groups_small : {A : Type 0} (items : List A) → All (λ g. (0 < length g) × (length g ≤ 64)) (cut items)
groups_small items = All-from_recursion _ (cut items) (cut_right (cut items) (cut_groups (λ x. true) items (all_pass items)))
