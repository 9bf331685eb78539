-- The maps that the entries of hash tables make, at a query of bytes, before and after one change.
use Rattle.std.proofs.Common.{◌≡◌, ℕ, suc, ◌+◌, ◌<◌, ◌≤◌, length, arith, List, [], ◌∷◌, Option, Some, None, Bool, true, false, cond, refl, sym, ◌∙◌, ap, subst}
use Rattle.std.specs.Prelude.{nat_eq, is_some, ◌^◌, Result, Ok, Err, OnErr}
use Rattle.std.specs.Cmp.Lexicographic.{pointwise, same_text, texts_ties}
use Rattle.std.specs.Ordering.{eq_by_cmp}
use Rattle.std.specs.Global.{Vec}
use Rattle.std.specs.HashMap.{HashMap, UpdatesBy}
use Rattle.std.specs.List.{AllByRecursion, IsDistinct}
use Rattle.std.specs.Map.{lookup, keys_of, KeepsOthers}
use Rattle.std.specs.FinMap.{get, insert, remove, find, len, contains_key, get-from_entries, get-insert, get-remove, len-empty, len-insert, same_map}
use Rattle.std.proofs.lemmas.Cmp.{nat_list_cmp_total}
use Rattle.std.proofs.lemmas.Map.Lookups.{exact_bytes}
use Rattle.mr_map.specs.Bytes.{bytes_cmp, bytes_of, map_by, map_of, named_by, ByteMap}
use Rattle.mr_map.specs.Merged.{joined, map_of_short, AreParted}
use Rattle.mr_map.specs.Short.{room}
use Rattle.mr_map.proofs.Parted.{get_long, get_short, out_long, out_short, parted_out_long, parted_out_short, parted_put_long, parted_put_short, put_long, put_short}

one_more : (n : ℕ) → suc n ≡ n + 1
one_more n = omega arith

-- texts that tie are the same
pub tied : (x y : List ℕ) → eq_by_cmp bytes_cmp x y ≡ true → x ≡ y
tied x y h = same_text x y (sym (texts_ties x y ∙ h))

pub on_err : {A E : Type 0} {P : Type 0} (r : Result A E) → P → OnErr r P
on_err (Ok a) p = tt
on_err (Err e) p = p

-- of a table whose keys are equal where their texts tie
module _ {K : Type 0} (text : K → List ℕ) (eq : List ℕ → List ℕ → Bool) (ties : (x y : List ℕ) → eq x y ≡ eq_by_cmp bytes_cmp x y) where
  -- whether a key has these bytes
  abbrev has : List ℕ → K → Bool
  has q k = eq q (text k)

  abbrev key_eq : K → K → Bool
  key_eq x y = eq (text x) (text y)

  same : (q k : List ℕ) → eq q k ≡ true → q ≡ k
  same q k h = tied q k (sym (ties q k) ∙ h)

  find_hashed : {X : Type 0} (es : List (K × X)) (q : List ℕ) → find bytes_cmp q (named_by text es) ≡ lookup (has q) es
  find_hashed [] q = refl
  find_hashed (e ∷ es) q = λ i. cond (sym (ties q (text e.0)) i) (Some e.1) (find_hashed es q i)

  pub got : {X : Type 0} (es : List (K × X)) (q : List ℕ) → get (map_by text es) q ≡ lookup (has q) es
  got es q = get-from_entries nat_list_cmp_total (named_by text es) q ∙ find_hashed es q

  is_key_test : (q : List ℕ) (x y : K) → has q x ≡ true → has q y ≡ key_eq x y
  is_key_test q x y h = ap (λ z. eq z (text y)) (same q (text x) h)

  apart : (q k : List ℕ) → eq q k ≡ false → (x : K) → has k x ≡ true → has q x ≡ false
  apart q k differ x h = subst (λ (y : List ℕ). eq q y ≡ false) (same k (text x) h) differ

  -- what the map has at each key, after one key was set to w, or taken out
  updated : {X S : Type 0} (m n : HashMap K X S) (k : List ℕ) (w : Option X) → UpdatesBy key_eq (has k) m n w → (q : List ℕ) → get (map_by text n.entries) q ≡ cond (eq_by_cmp bytes_cmp q k) w (get (map_by text m.entries) q)
  unfolding KeepsOthers
  updated m n k w u q =
      got n.entries q ∙ elim (eq q k) as (λ b. eq q k ≡ b → lookup (has q) n.entries ≡ cond b w (get (map_by text m.entries) q)) [
        | true ↦ λ h. ap (λ (z : List ℕ). lookup (has z) n.entries) (same q k h) ∙ u.1
        | false ↦ λ h. u.3 (has q) (is_key_test q) (apart q k h) ∙ sym (got m.entries q)
      ] refl ∙ ap (λ b. cond b w (get (map_by text m.entries) q)) (ties q k)

  pub set_hashed : {X S : Type 0} (m n : HashMap K X S) (k : List ℕ) (v : X) → UpdatesBy key_eq (has k) m n (Some v) → map_by text n.entries ≡ insert (map_by text m.entries) k v
  set_hashed m n k v u = same_map nat_list_cmp_total exact_bytes _ _ (λ q. updated m n k (Some v) u q ∙ sym (get-insert nat_list_cmp_total (map_by text m.entries) k v q))

  pub removed_hashed : {X S : Type 0} (m n : HashMap K X S) (k : List ℕ) → UpdatesBy key_eq (has k) m n None → map_by text n.entries ≡ remove (map_by text m.entries) k
  removed_hashed m n k u = same_map nat_list_cmp_total exact_bytes _ _ (λ q. updated m n k None u q ∙ sym (get-remove nat_list_cmp_total (map_by text m.entries) k q))

  -- how many keys a table has
  none_there : {X : Type 0} (k : K) (es : List (K × X)) → AllByRecursion (λ y. key_eq k y ≡ false) (keys_of es) → lookup (has (text k)) es ≡ None
  none_there k [] h = refl
  none_there k (e ∷ es) h = ap (λ b. cond b (Some e.1) (lookup (has (text k)) es)) h.0 ∙ none_there k es h.1

  pub len-hashed : {X : Type 0} (es : List (K × X)) → IsDistinct key_eq (keys_of es) → length es ≡ len (map_by text es)
  unfolding IsDistinct
  len-hashed {X} [] h = sym (len-empty bytes_cmp X)
  len-hashed (e ∷ es) h =
      let absent : contains_key (map_by text es) (text e.0) ≡ false = ap is_some (got es (text e.0) ∙ none_there e.0 es h.0) in
      ap suc (len-hashed es h.1) ∙ one_more (len (map_by text es))
      ∙ sym (len-insert nat_list_cmp_total (map_by text es) (text e.0) e.1 ∙ ap (λ b. cond b (len (map_by text es)) (len (map_by text es) + 1)) absent)

-- ---- two tables, short keys apart

abbrev pub Short : Type 0 → Type 0 → Type 0
Short X S = HashMap (List ℕ) X S

abbrev pub Long : Type 0 → Type 0 → Type 0
Long X S = HashMap (Vec ℕ) X S

-- whether a short key has these bytes, or a longer one
abbrev pub is_short_at : List ℕ → List ℕ → Bool
is_short_at = eq_by_cmp bytes_cmp

abbrev pub is_long_at : List ℕ → Vec ℕ → Bool
is_long_at q k = pointwise nat_eq q k.items

abbrev pub ShortUpdates : {X S : Type 0} → Short X S → Short X S → List ℕ → Option X → Type 0
ShortUpdates m n k w = UpdatesBy (eq_by_cmp bytes_cmp) (is_short_at k) m n w

abbrev pub LongUpdates : {X S : Type 0} → Long X S → Long X S → List ℕ → Option X → Type 0
LongUpdates m n k w = UpdatesBy (λ x y. pointwise nat_eq x.items y.items) (is_long_at k) m n w

-- the map of both
abbrev pub seen : {X S : Type 0} → Short X S → Long X S → ByteMap X
seen s l = joined (map_of_short s.entries) (map_of l.entries)

abbrev pub Parted : {X S : Type 0} → Short X S → Long X S → Type 0
Parted s l = AreParted (map_of_short s.entries) (map_of l.entries)

pub shorts_counted : {X : Type 0} (es : List (List ℕ × X)) → IsDistinct (eq_by_cmp bytes_cmp) (keys_of es) → length es ≡ len (map_of_short es)
shorts_counted es h = len-hashed (λ k. k) (eq_by_cmp bytes_cmp) (λ x y. refl) es h

pub longs_counted : {X : Type 0} (es : List (Vec ℕ × X)) → IsDistinct (λ x y. pointwise nat_eq x.items y.items) (keys_of es) → length es ≡ len (map_of es)
longs_counted es h = len-hashed bytes_of (pointwise nat_eq) texts_ties es h

module _ {X S : Type 0} (s : Short X S) (l : Long X S) (parted : Parted s l) (k : List ℕ) where
  module _ (short : length k ≤ room) where
    pub short_found : lookup (is_short_at k) s.entries ≡ get (seen s l) k
    short_found = sym (get_short (map_of_short s.entries) (map_of l.entries) parted k short ∙ got (λ x. x) (eq_by_cmp bytes_cmp) (λ x y. refl) s.entries k)

    module _ (t : Short X S) where
      short_put : (v : X) → ShortUpdates s t k (Some v) → map_of_short t.entries ≡ insert (map_of_short s.entries) k v
      short_put v u = set_hashed (λ x. x) (eq_by_cmp bytes_cmp) (λ x y. refl) s t k v u

      short_gone : ShortUpdates s t k None → map_of_short t.entries ≡ remove (map_of_short s.entries) k
      short_gone u = removed_hashed (λ x. x) (eq_by_cmp bytes_cmp) (λ x y. refl) s t k u

      pub short_set : (v : X) → ShortUpdates s t k (Some v) → seen t l ≡ insert (seen s l) k v
      short_set v u = ap (λ m. joined m (map_of l.entries)) (short_put v u) ∙ put_short (map_of_short s.entries) (map_of l.entries) parted k v

      pub short_out : ShortUpdates s t k None → seen t l ≡ remove (seen s l) k
      short_out u = ap (λ m. joined m (map_of l.entries)) (short_gone u) ∙ out_short (map_of_short s.entries) (map_of l.entries) parted k short

      pub parted_short_set : (v : X) → ShortUpdates s t k (Some v) → len (insert (seen s l) k v) < 2 ^ 63 → Parted t l
      parted_short_set v u few = subst (λ m. AreParted m (map_of l.entries)) (sym (short_put v u)) (parted_put_short (map_of_short s.entries) (map_of l.entries) parted k v short few)

      pub parted_short_out : ShortUpdates s t k None → Parted t l
      parted_short_out u = subst (λ m. AreParted m (map_of l.entries)) (sym (short_gone u)) (parted_out_short (map_of_short s.entries) (map_of l.entries) parted k short)

  module _ (long : room < length k) where
    pub long_found : lookup (is_long_at k) l.entries ≡ get (seen s l) k
    long_found = sym (get_long (map_of_short s.entries) (map_of l.entries) parted k long ∙ got bytes_of (pointwise nat_eq) texts_ties l.entries k)

    module _ (t : Long X S) where
      long_put : (v : X) → LongUpdates l t k (Some v) → map_of t.entries ≡ insert (map_of l.entries) k v
      long_put v u = set_hashed bytes_of (pointwise nat_eq) texts_ties l t k v u

      long_gone : LongUpdates l t k None → map_of t.entries ≡ remove (map_of l.entries) k
      long_gone u = removed_hashed bytes_of (pointwise nat_eq) texts_ties l t k u

      pub long_set : (v : X) → LongUpdates l t k (Some v) → seen s t ≡ insert (seen s l) k v
      long_set v u = ap (joined (map_of_short s.entries)) (long_put v u) ∙ put_long (map_of_short s.entries) (map_of l.entries) parted k v long

      pub long_out : LongUpdates l t k None → seen s t ≡ remove (seen s l) k
      long_out u = ap (joined (map_of_short s.entries)) (long_gone u) ∙ out_long (map_of_short s.entries) (map_of l.entries) parted k long

      pub parted_long_set : (v : X) → LongUpdates l t k (Some v) → len (insert (seen s l) k v) < 2 ^ 63 → Parted s t
      parted_long_set v u few = subst (AreParted (map_of_short s.entries)) (sym (long_put v u)) (parted_put_long (map_of_short s.entries) (map_of l.entries) parted k v long few)

      pub parted_long_out : LongUpdates l t k None → Parted s t
      parted_long_out u = subst (AreParted (map_of_short s.entries)) (sym (long_gone u)) (parted_out_long (map_of_short s.entries) (map_of l.entries) parted k long)
