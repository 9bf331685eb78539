-- A key in the set of those that were taken.
use Rattle.std.proofs.Common.{ℕ, ◌≡◌, List, [], ◌∷◌, Bool, true, false, cond, refl, ap, ◌++◌, sym, ◌∙◌}
use Rattle.std.specs.Prelude.{◌||◌}
use Rattle.std.specs.Ordering.{is_eq}
use Rattle.std.specs.Borrow.{Bor}
use Rattle.std.specs.List.{list_any}
use Rattle.std.specs.declared.cmp.Ordering.{Ordering}
use Rattle.std.specs.Str.{bytes_eq}
use Rattle.mr_keyspace.proofs.Maps.{same_key}
use Rattle.mr_bytes.proofs.Numbers.{same_bytes, bytes_agree}
use Rattle.mr_map.specs.Bytes.{bytes_cmp, lent, Bytes}
use Rattle.mr_cmd_shared.specs.Taken.{has, is_key}

-- the order of references is that of what they point to
abbrev pub by_bytes : Bor (List ℕ) → Bor (List ℕ) → Ordering
by_bytes a b = bytes_cmp a.now b.now

pub has-texts : (ks : List (Bor (List ℕ))) (q : Bor (List ℕ)) → list_any (λ x. is_eq (by_bytes q x)) ks ≡ has (lent ks) q.now
has-texts [] q = refl
has-texts (x ∷ ks) q = ap (λ b. is_key q.now x.now || b) (has-texts ks q)

pub cond_or : (b c : Bool) → cond b true c ≡ (b || c)
cond_or true c = refl
cond_or false c = refl

pub has_append : (xs ys : List Bytes) (q : Bytes) → has (xs ++ ys) q ≡ (has xs q || has ys q)
has_append [] ys q = refl
has_append (x ∷ xs) ys q = ap (λ b. is_key q x || b) (has_append xs ys q) ∙ assoc (is_key q x) (has xs q) (has ys q)
  where
    assoc : (a b c : Bool) → (a || (b || c)) ≡ ((a || b) || c)
    assoc true b c = refl
    assoc false b c = refl

-- two keys that aren't one
pub keys_apart : (q k : Bytes) → bytes_eq q k ≡ false → is_key q k ≡ false
keys_apart q k h = elim (is_key q k) as (λ b. is_key q k ≡ b → b ≡ false) [
  | true ↦ λ t. let wrong : true ≡ false = sym (bytes_agree q k (same_key q k t)) ∙ h in cc
  | false ↦ λ t. refl
] refl

pub apart_turned : (q k : Bytes) → bytes_eq q k ≡ false → bytes_eq k q ≡ false
apart_turned q k h = elim (bytes_eq k q) as (λ b. bytes_eq k q ≡ b → b ≡ false) [
  | true ↦ λ t. let wrong : true ≡ false = sym (bytes_agree q k (sym (same_bytes k q t))) ∙ h in cc
  | false ↦ λ t. refl
] refl
