-- What members have in sets that were changed.
use Rattle.std.proofs.Common.{◌≡◌, ℤ, List, [], ◌∷◌, Bool, true, false, cond, Option, Some, None, refl, sym, ◌∙◌, ap}
use Rattle.std.specs.Prelude.{◌||◌}
use Rattle.std.specs.Ordering.{int_cmp, int_eq, is_eq}
use Rattle.std.specs.declared.cmp.Ordering.{Ordering}
use Rattle.std.specs.declared.cmp.Ordering.TheVariants.{Less, Equal, Greater}
use Rattle.std.specs.FinMap.{get, empty, insert, remove, keys, entries, contains_key, retain_keys, find, get-entries, get-empty, get-insert, get-remove, get-retain_keys, contains_key-keys, same_map, int_cmp-IsAntisymmetric, len-entries, len-empty}
use Rattle.std.proofs.lemmas.Cmp.{nat_list_cmp_total, int_cmp_total, tied_itself}
use Rattle.std.proofs.lemmas.List.{nil_from_length}
use Rattle.std.proofs.lemmas.Map.Lookups.{exact_bytes}
use Rattle.mr_map.specs.Bytes.{Bytes, ByteMap, bytes_cmp}
use Rattle.mr_keyspace.specs.Collections.{with_scores, without_scores}
use Rattle.mr_cmd_shared.specs.Taken.{is_key, has}
use Rattle.mr_keyspace.proofs.Maps.{same_key}
use Rattle.mr_cmd_zset.specs.Scores.{Scores, is_same, over}
use Rattle.mr_data.proofs.Entries.{AreApart, entries_apart, missing}

-- ---- scores that are the same
tied : (r : Ordering) → is_eq r ≡ true → r ≡ Equal
tied Less h = cc
tied Equal h = refl
tied Greater h = cc

pub same_score : (y z : ℤ) → int_eq y z ≡ true → y ≡ z
same_score y z h = int_cmp-IsAntisymmetric y z (tied (int_cmp y z) h)

pub same_itself : (o : Option ℤ) → is_same o o ≡ true
same_itself None = refl
same_itself (Some z) = ap is_eq (tied_itself int_cmp_total z)

-- ---- one map over another
abbrev pub or_else : Option ℤ → Option ℤ → Option ℤ
or_else None y = y
or_else (Some x) y = Some x

get_with : (es : List (Bytes × ℤ)) (s : Scores) (q : Bytes) → AreApart es → get (with_scores es s) q ≡ or_else (find bytes_cmp q es) (get s q)
get_with [] s q a = refl
get_with (e ∷ es) s q a =
    get_with es (insert s e.0 e.1) q a.1
    ∙ ap (or_else (find bytes_cmp q es)) (get-insert nat_list_cmp_total s e.0 e.1 q)
    ∙ elim (is_key q e.0) as (λ b. is_key q e.0 ≡ b → or_else (find bytes_cmp q es) (cond b (Some e.1) (get s q)) ≡ or_else (cond b (Some e.1) (find bytes_cmp q es)) (get s q)) [
      | true ↦ λ t. ap (λ o. or_else o (Some e.1)) (ap (λ (k : Bytes). find bytes_cmp k es) (same_key q e.0 t) ∙ missing es e.0 a.0)
      | false ↦ λ t. refl
    ] refl

pub get_over : (w s : Scores) (q : Bytes) → get (over w s) q ≡ or_else (get w q) (get s q)
get_over w s q = get_with (entries w) s q (entries_apart w) ∙ ap (λ o. or_else o (get s q)) (sym (get-entries w q))

pub same_scores : (s t : Scores) → ((q : Bytes) → get s q ≡ get t q) → s ≡ t
same_scores s t h = same_map nat_list_cmp_total exact_bytes s t h

pub over_insert : (w s : Scores) (x : Bytes) (z : ℤ) → over (insert w x z) s ≡ insert (over w s) x z
over_insert w s x z = same_scores _ _ (λ q.
    get_over (insert w x z) s q
    ∙ ap (λ o. or_else o (get s q)) (get-insert nat_list_cmp_total w x z q)
    ∙ elim (is_key q x) as (λ b. or_else (cond b (Some z) (get w q)) (get s q) ≡ cond b (Some z) (or_else (get w q) (get s q))) [ true ↦ refl | false ↦ refl ]
    ∙ ap (cond (is_key q x) (Some z)) (sym (get_over w s q))
    ∙ sym (get-insert nat_list_cmp_total (over w s) x z q))

pub over_none : (s : Scores) → over empty s ≡ s
over_none s = same_scores _ _ (λ q. get_over empty s q ∙ ap (λ o. or_else o (get s q)) (get-empty bytes_cmp q))

-- ---- members that go
removed_twice : (b c : Bool) (o : Option ℤ) → cond c None (cond b None o) ≡ cond (b || c) None o
removed_twice true true o = refl
removed_twice true false o = refl
removed_twice false c o = refl

pub get_without : (xs : List Bytes) (s : Scores) (q : Bytes) → get (without_scores xs s) q ≡ cond (has xs q) None (get s q)
get_without [] s q = refl
get_without (x ∷ xs) s q = get_without xs (remove s x) q ∙ ap (cond (has xs q) None) (get-remove nat_list_cmp_total s x q) ∙ removed_twice (is_key q x) (has xs q) (get s q)

-- ---- members that pass a test
module _ {X : Type 0} where
  pub get_retained : (m : ByteMap X) (p : Bytes → Bool) (q : Bytes) → get (retain_keys m p) q ≡ cond (p q) (get m q) None
  get_retained m p q = get-retain_keys m p q (λ x t. ap p (sym (exact_bytes q x t)))

  pub has_keys : (m : ByteMap X) (q : Bytes) → has (keys m) q ≡ contains_key m q
  has_keys m q = sym (contains_key-keys m q)

  pub no_entries : entries {X = X} (empty {R = bytes_cmp}) ≡ []
  no_entries = nil_from_length (entries empty) (sym (len-entries empty) ∙ len-empty bytes_cmp X)

pub retained_none : (s : Scores) (p : Bytes → Bool) → ((q : Bytes) → cond (p q) (get s q) None ≡ None) → retain_keys s p ≡ empty
retained_none s p h = same_scores _ _ (λ q. get_retained s p q ∙ h q ∙ sym (get-empty bytes_cmp q))
