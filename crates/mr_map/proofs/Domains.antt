-- Two maps that have the same keys, before and after one change, and their keys as lists.
use Rattle.std.proofs.Common.{map, ◌≡◌, ℕ, List, [], ◌∷◌, Option, Some, None, Bool, true, false, ◌&&◌, cond, refl, sym, ◌∙◌, ap, subst}
use Rattle.std.specs.Prelude.{is_some, T, ◌||◌}
use Rattle.std.specs.Ordering.{eq_by_cmp, is_eq, is_lt}
use Rattle.std.specs.declared.cmp.Ordering.{Ordering}
use Rattle.std.specs.declared.cmp.Ordering.TheVariants.{Less, Equal, Greater}
use Rattle.std.specs.FinMap.{get, insert, remove, find, keys, entries, entries_sorted, is_sorted, contains_key, from_sorted, entries-from_sorted, get-from_sorted, get-entries, get-insert, get-remove, same_map}
use Rattle.std.specs.FinMap.Entries.{below_all}
use Rattle.std.proofs.lemmas.Cmp.{nat_list_cmp_total}
use Rattle.std.proofs.lemmas.Map.Lookups.{exact_bytes}
use Rattle.mr_map.specs.Bytes.{bytes_cmp, ByteMap, HaveSameKeys}

pub equal : (r : Ordering) → is_eq r ≡ true → r ≡ Equal
equal Less p = cc
equal Equal p = refl
equal Greater p = cc

step : {X Y : Type 0} (b : Bool) (u : X) (v : Y) (x : Option X) (y : Option Y) → is_some x ≡ is_some y → is_some (cond b (Some u) x) ≡ is_some (cond b (Some v) y)
step true u v x y e = refl
step false u v x y e = e

step_out : {X Y : Type 0} (b : Bool) (x : Option X) (y : Option Y) → is_some x ≡ is_some y → is_some (cond b None x) ≡ is_some (cond b None y)
step_out true x y e = refl
step_out false x y e = e

module _ {X Y : Type 0} (o : ByteMap X) (h : ByteMap Y) (k : List ℕ) (same : HaveSameKeys o h) where
  pub put_both : (u : X) (v : Y) → HaveSameKeys (insert o k u) (insert h k v)
  put_both u v q = ap is_some (get-insert nat_list_cmp_total o k u q) ∙ step (eq_by_cmp bytes_cmp q k) u v (get o q) (get h q) (same q) ∙ sym (ap is_some (get-insert nat_list_cmp_total h k v q))

  pub out_both : HaveSameKeys (remove o k) (remove h k)
  out_both q = ap is_some (get-remove nat_list_cmp_total o k q) ∙ step_out (eq_by_cmp bytes_cmp q k) (get o q) (get h q) (same q) ∙ sym (ap is_some (get-remove nat_list_cmp_total h k q))

  -- a key that neither has is taken out of one
  pub out_of_one : get h k ≡ None → HaveSameKeys o (remove h k)
  out_of_one absent q = same q ∙ elim (eq_by_cmp bytes_cmp q k) as (λ b. eq_by_cmp bytes_cmp q k ≡ b → is_some (get h q) ≡ is_some (cond b None (get h q))) [
    | true ↦ λ e. ap (λ (z : List ℕ). is_some (get h z)) (exact_bytes q k (equal _ e)) ∙ ap is_some absent
    | false ↦ λ e. refl
  ] refl ∙ sym (ap is_some (get-remove nat_list_cmp_total h k q))

  -- a key that is there gets another value
  pub put_there : (v : Y) → contains_key h k ≡ true → HaveSameKeys o (insert h k v)
  put_there v there q = same q ∙ elim (eq_by_cmp bytes_cmp q k) as (λ b. eq_by_cmp bytes_cmp q k ≡ b → is_some (get h q) ≡ is_some (cond b (Some v) (get h q))) [
    | true ↦ λ e. ap (λ (z : List ℕ). is_some (get h z)) (exact_bytes q k (equal _ e)) ∙ there
    | false ↦ λ e. refl
  ] refl ∙ sym (ap is_some (get-insert nat_list_cmp_total h k v q))

  -- a key that was not there was put and taken out again
  pub put_back : (u : X) → contains_key h k ≡ false → HaveSameKeys (remove (insert o k u) k) h
  put_back u absent q = ap is_some (get-remove nat_list_cmp_total (insert o k u) k q) ∙ ap (λ (x : Option X). is_some (cond (eq_by_cmp bytes_cmp q k) None x)) (get-insert nat_list_cmp_total o k u q)
      ∙ elim (eq_by_cmp bytes_cmp q k) as (λ b. eq_by_cmp bytes_cmp q k ≡ b → is_some (cond b None (cond b (Some u) (get o q))) ≡ is_some (get h q)) [
        | true ↦ λ e. sym (ap (λ (z : List ℕ). is_some (get h z)) (exact_bytes q k (equal _ e)) ∙ absent)
        | false ↦ λ e. same q
      ] refl

-- the entries, each with no value
bare : {X : Type 0} → List (List ℕ × X) → List (List ℕ × Unit {0})
bare es = map {B = List ℕ × Unit {0}} (λ e. (e.0, tt)) es

below_bare : {X : Type 0} (x : List ℕ) (es : List (List ℕ × X)) → below_all bytes_cmp x (bare es) ≡ below_all bytes_cmp x es
unfolding bare
below_bare x [] = refl
below_bare x (e ∷ es) = λ i. is_lt (bytes_cmp x e.0) && below_bare x es i

sorted_bare : {X : Type 0} (es : List (List ℕ × X)) → is_sorted bytes_cmp (bare es) ≡ is_sorted bytes_cmp es
unfolding bare
sorted_bare [] = refl
sorted_bare (e ∷ es) = λ i. below_bare e.0 es i && sorted_bare es i

some_bare : {X : Type 0} (q : List ℕ) (es : List (List ℕ × X)) → is_some (find bytes_cmp q (bare es)) ≡ is_some (find bytes_cmp q es)
unfolding bare
some_bare q [] = refl
some_bare q (e ∷ es) = step (is_eq (bytes_cmp q e.0)) tt e.1 (find bytes_cmp q (bare es)) (find bytes_cmp q es) (some_bare q es)

names_bare : {X : Type 0} (es : List (List ℕ × X)) → map (λ e. e.0) (bare es) ≡ map (λ e. e.0) es
unfolding bare
names_bare [] = refl
names_bare (e ∷ es) = ap (λ ks. e.0 ∷ ks) (names_bare es)

pub one_unit : (a b : Option (Unit {0})) → is_some a ≡ is_some b → a ≡ b
one_unit None None e = refl
one_unit None (Some y) e = cc
one_unit (Some x) None e = cc
one_unit (Some x) (Some y) e = refl

pub some_or : (b : Bool) (x : Option (Unit {0})) → is_some (cond b (Some tt) x) ≡ (b || is_some x)
some_or true x = refl
some_or false x = refl

-- a set that has the keys of a map lists them
pub same_keys : {X : Type 0} (o : ByteMap (Unit {0})) (h : ByteMap X) → HaveSameKeys o h → keys o ≡ keys h
same_keys o h same =
    let sorted = subst T (sym (sorted_bare (entries h))) (entries_sorted h) in
    let is_bare = same_map nat_list_cmp_total exact_bytes o (from_sorted (bare (entries h))) (λ q. one_unit _ _ (same q ∙ ap is_some (get-entries h q) ∙ sym (ap is_some (get-from_sorted bytes_cmp (bare (entries h)) q sorted) ∙ some_bare q (entries h)))) in
    ap keys is_bare ∙ ap (map (λ e. e.0)) (entries-from_sorted bytes_cmp (bare (entries h)) sorted) ∙ names_bare (entries h)
