-- Entries of maps: their keys are apart, each is what its key has, and put one after another they make the map.
use Rattle.std.proofs.Common.{ℤ, ◌≡◌, List, [], ◌∷◌, map, Bool, true, false, cond, Option, Some, None, refl, sym, ◌∙◌, ap, T}
use Rattle.std.specs.List.{AllByRecursion, list_all}
use Rattle.std.specs.Ordering.{is_eq, is_lt, eq_by_cmp, ordering_reverse}
use Rattle.std.specs.declared.cmp.Ordering.{Ordering}
use Rattle.std.specs.declared.cmp.Ordering.TheVariants.{Less, Equal, Greater}
use Rattle.std.specs.FinMap.{get, empty, insert, entries, find, is_sorted, entries_sorted, get-entries, get-empty, get-insert, same_map}
use Rattle.std.specs.FinMap.Entries.{below_all}
use Rattle.std.proofs.lemmas.Cmp.{nat_list_cmp_total}
use Rattle.std.proofs.lemmas.Map.Lookups.{exact_bytes}
use Rattle.std.proofs.lemmas.Bool.{and_from}
use Rattle.mr_map.specs.Bytes.{Bytes, ByteMap, bytes_cmp}
use Rattle.mr_map.proofs.Conditions.{first_holds, second_holds}
use Rattle.mr_keyspace.specs.Collections.{with_fields, with_members, with_scores}
use Rattle.mr_keyspace.proofs.Maps.{same_key}
use Rattle.mr_keyspace.proofs.Puts.{is_key_itself, is_key_symm}

pub turned : (r : Ordering) → T (is_lt r) → is_eq (ordering_reverse r) ≡ false
turned Less h = refl
turned Equal h = absurd h
turned Greater h = absurd h

pub all_map : {X : Type 0} (P Q : X → Type 0) → ((x : X) → P x → Q x) → (xs : List X) → AllByRecursion P xs → AllByRecursion Q xs
all_map P Q f [] h = tt
all_map P Q f (x ∷ xs) h = (f x h.0, all_map P Q f xs h.1)

pub all_true : {X : Type 0} (p : X → Bool) (xs : List X) → AllByRecursion (λ x. p x ≡ true) xs → list_all p xs ≡ true
all_true p [] h = refl
all_true p (x ∷ xs) h = and_from (p x) _ h.0 (all_true p xs h.1)

module _ {X : Type 0} where
  abbrev pub AreApart : List (Bytes × X) → Type 0
  AreApart [] = Unit {0}
  AreApart (e ∷ es) = AllByRecursion (λ (x : Bytes × X). eq_by_cmp bytes_cmp x.0 e.0 ≡ false) es × AreApart es

  below_apart : (k : Bytes) (es : List (Bytes × X)) → T (below_all bytes_cmp k es) → AllByRecursion (λ (x : Bytes × X). eq_by_cmp bytes_cmp x.0 k ≡ false) es
  below_apart k [] h = tt
  below_apart k (e ∷ es) h = (ap is_eq (nat_list_cmp_total.antisymm e.0 k) ∙ turned (bytes_cmp k e.0) (first_holds _ _ h), below_apart k es (second_holds (is_lt (bytes_cmp k e.0)) _ h))

  sorted_apart : (es : List (Bytes × X)) → T (is_sorted bytes_cmp es) → AreApart es
  sorted_apart [] h = tt
  sorted_apart (e ∷ es) h = (below_apart e.0 es (first_holds _ _ h), sorted_apart es (second_holds (below_all bytes_cmp e.0 es) _ h))

  pub entries_apart : (m : ByteMap X) → AreApart (entries m)
  entries_apart m = sorted_apart (entries m) (entries_sorted m)

  pub missing : (es : List (Bytes × X)) (k : Bytes) → AllByRecursion (λ (x : Bytes × X). eq_by_cmp bytes_cmp x.0 k ≡ false) es → find bytes_cmp k es ≡ None
  missing [] k h = refl
  missing (x ∷ xs) k h = ap (λ b. cond b (Some x.1) (find bytes_cmp k xs)) (is_key_symm k x.0 ∙ h.0) ∙ missing xs k h.1

  has_own : (e : Bytes × X) (es xs : List (Bytes × X)) → AllByRecursion (λ (x : Bytes × X). eq_by_cmp bytes_cmp x.0 e.0 ≡ false) xs → AllByRecursion (λ (x : Bytes × X). find bytes_cmp x.0 es ≡ Some x.1) xs → AllByRecursion (λ (x : Bytes × X). find bytes_cmp x.0 (e ∷ es) ≡ Some x.1) xs
  has_own e es [] a h = tt
  has_own e es (x ∷ xs) a h = (ap (λ b. cond b (Some e.1) (find bytes_cmp x.0 es)) a.0 ∙ h.0, has_own e es xs a.1 h.1)

  own : (es : List (Bytes × X)) → AreApart es → AllByRecursion (λ (x : Bytes × X). find bytes_cmp x.0 es ≡ Some x.1) es
  own [] a = tt
  own (e ∷ es) a = (ap (λ b. cond b (Some e.1) (find bytes_cmp e.0 es)) (is_key_itself e.0), has_own e es es a.0 (own es a.1))

  -- each entry is what its key has
  pub own_entries : (m : ByteMap X) → AllByRecursion (λ (x : Bytes × X). get m x.0 ≡ Some x.1) (entries m)
  own_entries m = all_map _ _ (λ x is. get-entries m x.0 ∙ is) (entries m) (own (entries m) (entries_apart m))

  -- ---- entries put one after another
  abbrev pub put_all : List (Bytes × X) → ByteMap X → ByteMap X
  put_all [] m = m
  put_all (e ∷ es) m = put_all es (insert m e.0 e.1)

  abbrev or_else : Option X → Option X → Option X
  or_else None y = y
  or_else (Some x) y = Some x

  or_none : (o : Option X) → or_else o None ≡ o
  or_none None = refl
  or_none (Some x) = refl

  get_put_all : (es : List (Bytes × X)) (m : ByteMap X) (q : Bytes) → AreApart es → get (put_all es m) q ≡ or_else (find bytes_cmp q es) (get m q)
  get_put_all [] m q a = refl
  get_put_all (e ∷ es) m q a =
      get_put_all es (insert m e.0 e.1) q a.1
      ∙ ap (or_else (find bytes_cmp q es)) (get-insert nat_list_cmp_total m e.0 e.1 q)
      ∙ elim (eq_by_cmp bytes_cmp q e.0) as (λ b. eq_by_cmp bytes_cmp q e.0 ≡ b → or_else (find bytes_cmp q es) (cond b (Some e.1) (get m q)) ≡ or_else (cond b (Some e.1) (find bytes_cmp q es)) (get m q)) [
        | true ↦ λ t. ap (λ o. or_else o (Some e.1)) (ap (λ (k : Bytes). find bytes_cmp k es) (same_key q e.0 t) ∙ missing es e.0 a.0)
        | false ↦ λ t. refl
      ] refl

  -- the map's own make it again
  pub put_entries : (m : ByteMap X) → put_all (entries m) empty ≡ m
  put_entries m = same_map nat_list_cmp_total exact_bytes _ _ (λ q.
      get_put_all (entries m) empty q (entries_apart m) ∙ ap (or_else (find bytes_cmp q (entries m))) (get-empty bytes_cmp q)
      ∙ or_none (find bytes_cmp q (entries m)) ∙ sym (get-entries m q))

-- .. as each kind of collection puts them
pub fields_put : (es : List (Bytes × Bytes)) (h : ByteMap Bytes) → with_fields es h ≡ put_all es h
fields_put [] h = refl
fields_put (e ∷ es) h = fields_put es (insert h e.0 e.1)

pub members_put : (es : List (Bytes × Unit {0})) (s : ByteMap (Unit {0})) → with_members (map (λ e. e.0) es) s ≡ put_all es s
members_put [] s = refl
members_put (e ∷ es) s = members_put es (insert s e.0 tt)

pub scores_put : (es : List (Bytes × ℤ)) (s : ByteMap ℤ) → with_scores es s ≡ put_all es s
scores_put [] s = refl
scores_put (e ∷ es) s = scores_put es (insert s e.0 e.1)
