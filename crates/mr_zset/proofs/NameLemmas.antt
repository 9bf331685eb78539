-- A set's map by name, where it has one, before and after one change.
use Rattle.std.proofs.Common.{◌≡◌, ℕ, ◌+◌, ◌-◌, ◌≤◌, List, [], ◌∷◌, Option, Some, None, Bool, true, false, cond, refl, sym, ◌∙◌, ap, subst, arith}
use Rattle.std.specs.Prelude.{ℤ, OnErr, OnOk, is_some, option_map}
use Rattle.std.specs.Result.{is_err}
use Rattle.std.specs.declared.result.Result.{Result}
use Rattle.std.specs.declared.result.Result.TheVariants.{Ok, Err}
use Rattle.std.specs.Ordering.{eq_by_cmp}
use Rattle.std.specs.FinMap.{contains_key, empty, get, get-insert, get-remove, insert, len, len-empty, len-insert, len-remove, remove, same_map}
use Rattle.std.proofs.lemmas.Cmp.{nat_list_cmp_total}
use Rattle.std.proofs.lemmas.Map.Lookups.{exact_bytes}
use Rattle.mr_map.specs.Bytes.{bytes_cmp, ByteMap}
use Rattle.mr_zset.specs.Few.{few, AreNamed, HasRoom}
use Rattle.mr_zset.specs.Leaving.{without_scores}
use Rattle.mr_zset.specs.Pairs.{without}
use Rattle.mr_zset.proofs.StoredLemmas.{same_key}

-- ---- how many members there are

fewer : (b : Bool) (n : ℕ) → cond b (n - 1) n ≤ n
fewer true n = omega arith
fewer false n = omega arith

no_more_than_one : (b : Bool) (n : ℕ) → cond b n (n + 1) ≤ n + 1
no_more_than_one true n = omega arith
no_more_than_one false n = omega arith

pub len_removed : (m : ByteMap ℤ) (k : List ℕ) → len (remove m k) ≤ len m
len_removed m k = subst (λ n. n ≤ len m) (sym (len-remove nat_list_cmp_total m k)) (fewer (contains_key m k) (len m))

pub len_without : (p : Option (List ℕ × ℤ)) (m : ByteMap ℤ) → len (without p m) ≤ len m
len_without None m = omega arith
len_without (Some p) m = len_removed m p.0

pub len_without_scores : (ks : List (List ℕ)) (m : ByteMap ℤ) → len (without_scores ks m) ≤ len m
len_without_scores [] m = omega arith
len_without_scores (k ∷ ks) m = let rest = len_without_scores ks (remove m k) in let one = len_removed m k in omega arith

-- another score of a member that is there
pub len_changed : (m : ByteMap ℤ) (k : List ℕ) (old z : ℤ) → get m k ≡ Some old → len (insert m k z) ≤ len m
len_changed m k old z there = subst (λ n. n ≤ len m) (sym (len-insert nat_list_cmp_total m k z ∙ ap (λ o. cond (is_some o) (len m) (len m + 1)) there)) (omega arith)

len_added : (m : ByteMap ℤ) (k : List ℕ) (z : ℤ) → len (insert m k z) ≤ len m + 1
len_added m k z = subst (λ n. n ≤ len m + 1) (sym (len-insert nat_list_cmp_total m k z)) (no_more_than_one (contains_key m k) (len m))

-- ---- the map by name

pub named_none : AreNamed None empty
named_none = subst (λ n. n ≤ few) (sym (len-empty bytes_cmp ℤ)) (omega arith)

-- the same is done to both
pub named_changed : (names news : Option (ByteMap ℤ)) (m n : ByteMap ℤ) (f : ByteMap ℤ → ByteMap ℤ) → AreNamed names m → news ≡ option_map f names → n ≡ f m → len (f m) ≤ len m → AreNamed news n
named_changed None news m n f h e is less = subst (λ (o : Option (ByteMap ℤ)). AreNamed o n) (sym e) (subst (λ (x : ByteMap ℤ). len x ≤ few) (sym is) (omega (arith, h, less)))
named_changed (Some x) news m n f h e is less = subst (λ (o : Option (ByteMap ℤ)). AreNamed o n) (sym e) (ap f h ∙ sym is)

-- a member comes
pub named_added : (names news : Option (ByteMap ℤ)) (m n : ByteMap ℤ) (k : List ℕ) (z : ℤ) → HasRoom names m → news ≡ option_map (λ x. insert x k z) names → n ≡ insert m k z → AreNamed news n
named_added None news m n k z h e is = subst (λ (o : Option (ByteMap ℤ)). AreNamed o n) (sym e) (subst (λ (x : ByteMap ℤ). len x ≤ few) (sym is) (let more = len_added m k z in omega (arith, h, more)))
named_added (Some x) news m n k z h e is = subst (λ (o : Option (ByteMap ℤ)). AreNamed o n) (sym e) (ap (λ (y : ByteMap ℤ). insert y k z) h ∙ sym is)

-- .. and goes again
removed_again : (m : ByteMap ℤ) (k : List ℕ) (z : ℤ) → get m k ≡ None → remove (insert m k z) k ≡ m
removed_again m k z absent = same_map nat_list_cmp_total exact_bytes _ _ (λ q.
    get-remove nat_list_cmp_total (insert m k z) k q ∙ ap (cond (eq_by_cmp bytes_cmp q k) None) (get-insert nat_list_cmp_total m k z q)
    ∙ elim (eq_by_cmp bytes_cmp q k) as (λ b. eq_by_cmp bytes_cmp q k ≡ b → cond b None (cond b (Some z) (get m q)) ≡ get m q) [
      | true ↦ λ t. sym absent ∙ ap (get m) (sym (same_key q k t))
      | false ↦ λ t. refl
    ] refl)

pub named_back : (names news olds : Option (ByteMap ℤ)) (m : ByteMap ℤ) (k : List ℕ) (z : ℤ) → get m k ≡ None → HasRoom names m → news ≡ option_map (λ x. insert x k z) names → olds ≡ option_map (λ x. remove x k) news → AreNamed olds m
named_back None news olds m k z absent h e back = subst (λ (o : Option (ByteMap ℤ)). AreNamed o m) (sym (back ∙ ap (option_map (λ (x : ByteMap ℤ). remove x k)) e)) (omega (arith, h))
named_back (Some x) news olds m k z absent h e back =
    subst (λ (o : Option (ByteMap ℤ)). AreNamed o m) (sym (back ∙ ap (option_map (λ (x : ByteMap ℤ). remove x k)) e))
    (ap (λ (y : ByteMap ℤ). remove (insert y k z) k) h ∙ removed_again m k z absent)

-- ---- outcomes

-- what an outcome that is an error leaves
pub failed : {A E : Type 0} {P : Type 0} (r : Result A E) → is_err r ≡ true → OnErr r P → P
failed (Ok a) e p = cc
failed (Err x) e p = p

pub succeeded : {A E : Type 0} {P : Type 0} (r : Result A E) → is_err r ≡ false → OnOk r P → P
succeeded (Ok a) e p = p
succeeded (Err x) e p = cc
