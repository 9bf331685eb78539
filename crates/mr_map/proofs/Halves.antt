-- The two trees of a map as the map, before and after one change of one of them.
use Rattle.std.proofs.Common.{◌≡◌, ℕ, ◌<◌, List, Option, Some, None, sym, ◌∙◌, ap, subst}
use Rattle.std.specs.Prelude.{◌^◌}
use Rattle.std.specs.BTreeMap.{BTreeMap, UpdatesBy, is_at}
use Rattle.std.specs.FinMap.{get, insert, remove, len}
use Rattle.std.specs.Global.{Vec}
use Rattle.std.specs.Map.{lookup}
use Rattle.mr_map.specs.Bytes.{bytes_cmp, bytes_of, map_of, ByteMap}
use Rattle.mr_map.specs.Merged.{joined, map_of_short, AreParted}
use Rattle.mr_map.proofs.Merging.{Long, Short}
use Rattle.mr_map.proofs.Named.{get-map_of, removed_named, set_named}
use Rattle.mr_map.proofs.Parted.{get_long, get_short, out_long, out_short, parted_out_long, parted_out_short, parted_put_long, parted_put_short, put_long, put_short}

-- the map of both
abbrev pub seen : {X : Type 0} → BTreeMap (List ℕ) X → BTreeMap (Vec ℕ) X → ByteMap X
seen s l = joined (map_of_short s.entries) (map_of l.entries)

abbrev pub Parted : {X : Type 0} → BTreeMap (List ℕ) X → BTreeMap (Vec ℕ) X → Type 0
Parted s l = AreParted (map_of_short s.entries) (map_of l.entries)

-- a tree has w at k, and the others as before
abbrev pub ShortUpdates : {X : Type 0} → BTreeMap (List ℕ) X → BTreeMap (List ℕ) X → List ℕ → Option X → Type 0
ShortUpdates s t k w = UpdatesBy bytes_cmp (λ x. bytes_cmp k x) s t w

abbrev pub LongUpdates : {X : Type 0} → BTreeMap (Vec ℕ) X → BTreeMap (Vec ℕ) X → List ℕ → Option X → Type 0
LongUpdates l t k w = UpdatesBy (λ x y. bytes_cmp x.items y.items) (λ x. bytes_cmp k x.items) l t w

module _ {X : Type 0} (s : BTreeMap (List ℕ) X) (l : BTreeMap (Vec ℕ) X) (parted : Parted s l) (k : List ℕ) where
  module _ (short : Short k) where
    pub short_found : lookup (is_at (λ (x : List ℕ). bytes_cmp k x)) s.entries ≡ get (seen s l) k
    short_found = sym (get_short (map_of_short s.entries) (map_of l.entries) parted k short ∙ get-map_of (λ k. k) s.entries k)

    module _ (t : BTreeMap (List ℕ) X) where
      pub short_set : (v : X) → ShortUpdates s t k (Some v) → seen t l ≡ insert (seen s l) k v
      short_set v u = ap (λ m. joined m (map_of l.entries)) (set_named (λ k. k) s t k v u) ∙ put_short (map_of_short s.entries) (map_of l.entries) parted k v

      pub short_out : ShortUpdates s t k None → seen t l ≡ remove (seen s l) k
      short_out u = ap (λ m. joined m (map_of l.entries)) (removed_named (λ k. k) s t k u) ∙ out_short (map_of_short s.entries) (map_of l.entries) parted k short

      pub parted_short_set : (v : X) → ShortUpdates s t k (Some v) → len (insert (seen s l) k v) < 2 ^ 63 → Parted t l
      parted_short_set v u room = subst (λ m. AreParted m (map_of l.entries)) (sym (set_named (λ k. k) s t k v u)) (parted_put_short (map_of_short s.entries) (map_of l.entries) parted k v short room)

      pub parted_short_out : ShortUpdates s t k None → Parted t l
      parted_short_out u = subst (λ m. AreParted m (map_of l.entries)) (sym (removed_named (λ k. k) s t k u)) (parted_out_short (map_of_short s.entries) (map_of l.entries) parted k short)

  module _ (long : Long k) where
    pub long_found : lookup (is_at (λ (x : Vec ℕ). bytes_cmp k x.items)) l.entries ≡ get (seen s l) k
    long_found = sym (get_long (map_of_short s.entries) (map_of l.entries) parted k long ∙ get-map_of bytes_of l.entries k)

    module _ (t : BTreeMap (Vec ℕ) X) where
      pub long_set : (v : X) → LongUpdates l t k (Some v) → seen s t ≡ insert (seen s l) k v
      long_set v u = ap (joined (map_of_short s.entries)) (set_named bytes_of l t k v u) ∙ put_long (map_of_short s.entries) (map_of l.entries) parted k v long

      pub long_out : LongUpdates l t k None → seen s t ≡ remove (seen s l) k
      long_out u = ap (joined (map_of_short s.entries)) (removed_named bytes_of l t k u) ∙ out_long (map_of_short s.entries) (map_of l.entries) parted k long

      pub parted_long_set : (v : X) → LongUpdates l t k (Some v) → len (insert (seen s l) k v) < 2 ^ 63 → Parted s t
      parted_long_set v u room = subst (AreParted (map_of_short s.entries)) (sym (set_named bytes_of l t k v u)) (parted_put_long (map_of_short s.entries) (map_of l.entries) parted k v long room)

      pub parted_long_out : LongUpdates l t k None → Parted s t
      parted_long_out u = subst (AreParted (map_of_short s.entries)) (sym (removed_named bytes_of l t k u)) (parted_out_long (map_of_short s.entries) (map_of l.entries) parted k long)
