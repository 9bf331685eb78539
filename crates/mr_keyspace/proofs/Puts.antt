-- A key that is put or removed, and then asked for.
use Rattle.std.proofs.Common.{◌≡◌, true, false, cond, Option, Some, None, refl, sym, ◌∙◌, ap}
use Rattle.std.specs.Cmp.{eq_by_cmp_equiv}
use Rattle.std.specs.Ordering.{is_eq, eq_by_cmp}
use Rattle.std.specs.FinMap.{get, remove, get-insert, get-remove, same_map}
use Rattle.std.proofs.lemmas.Cmp.{nat_list_cmp_total, tied_itself}
use Rattle.std.proofs.lemmas.Map.Lookups.{exact_bytes}
use Rattle.mr_map.specs.Bytes.{Bytes, bytes_cmp}
use Rattle.mr_keyspace.specs.Dataset.{Dataset, put_at}
use Rattle.mr_keyspace.specs.declared.value.Entry.{Entry}
use Rattle.mr_keyspace.proofs.Maps.{same_key}

pub is_key_itself : (k : Bytes) → eq_by_cmp bytes_cmp k k ≡ true
is_key_itself k = ap is_eq (tied_itself nat_list_cmp_total k)

pub is_key_symm : (q k : Bytes) → eq_by_cmp bytes_cmp q k ≡ eq_by_cmp bytes_cmp k q
is_key_symm q k = (eq_by_cmp_equiv nat_list_cmp_total).symm q k

pub get_remove : (m : Dataset) (k q : Bytes) → get (remove m k) q ≡ cond (eq_by_cmp bytes_cmp q k) None (get m q)
get_remove m k q = get-remove nat_list_cmp_total m k q

pub removed : (m : Dataset) (k : Bytes) → get (remove m k) k ≡ None
removed m k = get_remove m k k ∙ ap (λ b. cond b None (get m k)) (is_key_itself k)

pub get_put : (m : Dataset) (k : Bytes) (o : Option Entry) → get (put_at m k o) k ≡ o
get_put m k None = removed m k
get_put m k (Some e) = get-insert nat_list_cmp_total m k e k ∙ ap (λ b. cond b (Some e) (get m k)) (is_key_itself k)

pub get_put_other : (m : Dataset) (k : Bytes) (o : Option Entry) (q : Bytes) → get (put_at m k o) q ≡ cond (eq_by_cmp bytes_cmp q k) o (get m q)
get_put_other m k None q = get_remove m k q
get_put_other m k (Some e) q = get-insert nat_list_cmp_total m k e q

-- what a key has, put there again
pub put_same : (m : Dataset) (k : Bytes) (o : Option Entry) → get m k ≡ o → put_at m k o ≡ m
put_same m k o h = same_map nat_list_cmp_total exact_bytes _ _ (λ q.
    get_put_other m k o q ∙ elim (eq_by_cmp bytes_cmp q k) as (λ b. eq_by_cmp bytes_cmp q k ≡ b → cond b o (get m q) ≡ get m q) [
      | true ↦ λ t. sym h ∙ ap (get m) (sym (same_key q k t))
      | false ↦ λ t. refl
    ] refl)

-- what was put there last
pub put_put : (m : Dataset) (k : Bytes) (o p : Option Entry) → put_at (put_at m k o) k p ≡ put_at m k p
put_put m k o p = same_map nat_list_cmp_total exact_bytes _ _ (λ q.
    get_put_other (put_at m k o) k p q ∙ ap (cond (eq_by_cmp bytes_cmp q k) p) (get_put_other m k o q)
    ∙ elim (eq_by_cmp bytes_cmp q k) as (λ b. cond b p (cond b o (get m q)) ≡ cond b p (get m q)) [ true ↦ refl | false ↦ refl ]
    ∙ sym (get_put_other m k p q))
