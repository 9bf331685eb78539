-- Maps changed at one key.
use Rattle.std.proofs.Common.{◌≡◌, ◌<◌, zero, suc, true, false, cond, Some, None, refl, sym, ◌∙◌, ap, arith}
use Rattle.std.specs.Ordering.{eq_by_cmp, is_eq}
use Rattle.std.specs.declared.cmp.Ordering.{Ordering}
use Rattle.std.specs.declared.cmp.Ordering.TheVariants.{Less, Equal, Greater}
use Rattle.std.specs.FinMap.{get, empty, insert, remove, len, empty_of_len, get-empty, get-insert, get-remove, same_map}
use Rattle.std.proofs.lemmas.Cmp.{nat_list_cmp_total, tied_itself}
use Rattle.std.proofs.lemmas.Map.Lookups.{exact_bytes}
use Rattle.mr_map.specs.Bytes.{Bytes, ByteMap, bytes_cmp}

pub tied : (r : Ordering) → is_eq r ≡ true → r ≡ Equal
tied Less p = cc
tied Equal p = refl
tied Greater p = cc

-- keys that compare alike are one
pub same_key : (q k : Bytes) → eq_by_cmp bytes_cmp q k ≡ true → q ≡ k
same_key q k h = exact_bytes q k (tied _ h)

module _ {X : Type 0} where
  -- what a key has, put there again
  pub insert_same : (m : ByteMap X) (k : Bytes) (e : X) → get m k ≡ Some e → insert m k e ≡ m
  insert_same m k e h = same_map nat_list_cmp_total exact_bytes _ _ (λ q.
      get-insert nat_list_cmp_total m k e q ∙ elim (eq_by_cmp bytes_cmp q k) as (λ b. eq_by_cmp bytes_cmp q k ≡ b → cond b (Some e) (get m q) ≡ get m q) [
        | true ↦ λ t. sym h ∙ ap (get m) (sym (same_key q k t))
        | false ↦ λ t. refl
      ] refl)

  -- a key that was written and then goes
  pub remove_insert : (m : ByteMap X) (k : Bytes) (e : X) → remove (insert m k e) k ≡ remove m k
  remove_insert m k e = same_map nat_list_cmp_total exact_bytes _ _ (λ q.
      get-remove nat_list_cmp_total (insert m k e) k q ∙ elim (eq_by_cmp bytes_cmp q k) as (λ b. eq_by_cmp bytes_cmp q k ≡ b → cond b None (get (insert m k e) q) ≡ cond b None (get m q)) [
        | true ↦ λ t. refl
        | false ↦ λ t. get-insert nat_list_cmp_total m k e q ∙ ap (λ b. cond b (Some e) (get m q)) t
      ] refl ∙ sym (get-remove nat_list_cmp_total m k q))

  -- a key that isn't there goes
  pub remove_absent : (m : ByteMap X) (k : Bytes) → get m k ≡ None → remove m k ≡ m
  remove_absent m k h = same_map nat_list_cmp_total exact_bytes _ _ (λ q.
      get-remove nat_list_cmp_total m k q ∙ elim (eq_by_cmp bytes_cmp q k) as (λ b. eq_by_cmp bytes_cmp q k ≡ b → cond b None (get m q) ≡ get m q) [
        | true ↦ λ t. sym h ∙ ap (get m) (sym (same_key q k t))
        | false ↦ λ t. refl
      ] refl)

  pub remove_empty : (k : Bytes) → remove (empty {X = X} {R = bytes_cmp}) k ≡ empty
  remove_empty k = remove_absent empty k (get-empty bytes_cmp k)

pub got : {X : Type 0} (m : ByteMap X) (k : Bytes) (v : X) → get (insert m k v) k ≡ Some v
got m k v = get-insert nat_list_cmp_total m k v k ∙ ap (λ b. cond b (Some v) (get m k)) (ap is_eq (tied_itself nat_list_cmp_total k))

-- a map that has a key
pub some_len : {X : Type 0} (m : ByteMap X) (k : Bytes) (v : X) → 0 < len (insert m k v)
some_len {X} m k v =
    elim (len (insert m k v)) as (λ n. len (insert m k v) ≡ n → 0 < n) [
      | zero ↦ λ e. let none : None ≡ Some v = sym (get-empty bytes_cmp k) ∙ ap (λ (x : ByteMap X). get x k) (sym (empty_of_len _ e)) ∙ got m k v in cc
      | suc n ↦ λ e. omega arith
    ] refl
