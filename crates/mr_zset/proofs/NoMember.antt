-- A sorted set before its first member.
use Rattle.std.proofs.Common.{◌≡◌, ℕ, zero, suc, ◌-◌, List, [], ◌∷◌, take, drop, refl, sym, ap, ◌∙◌, Option, None}
use Rattle.std.specs.Prelude.{ℤ, slice_range}
use Rattle.std.specs.Global.{Box}
use Rattle.mr_map.specs.Bytes.{ByteMap}
use Rattle.mr_map.specs.Merged.{held}
use Rattle.mr_map.proofs.Parted.{none_listed, none_removed}
use Rattle.mr_zset.specs.Leaving.{without_scores}
use Rattle.mr_zset.specs.Order.{in_order}
use Rattle.mr_zset.specs.Pairs.{pair_cmp, pairs_of}

dropped : {A : Type 0} (n : ℕ) → drop {A = A} n [] ≡ []
dropped zero = refl
dropped (suc n) = refl

taken : {A : Type 0} (n : ℕ) → [] ≡ take {A = A} n []
taken zero = refl
taken (suc n) = refl

-- no items have no part
pub no_part : {A : Type 0} (from past : ℕ) → [] ≡ slice_range {X = A} [] from past
no_part from past = taken (past - from) ∙ ap (take (past - from)) (sym (dropped from))

pub no_pairs : (t : Option (Box (ByteMap ℤ))) (m : ByteMap ℤ) → held t ≡ m → t ≡ None → [] ≡ pairs_of m
no_pairs t m is none = ap (in_order pair_cmp) (none_listed t m is none)

-- none goes
pub none_out : (t : Option (Box (ByteMap ℤ))) (m : ByteMap ℤ) → held t ≡ m → t ≡ None → (ks : List (List ℕ)) → m ≡ without_scores ks m
none_out t m is none [] = refl
none_out t m is none (k ∷ ks) = none_out t m is none ks ∙ ap (without_scores ks) (none_removed t m is none k)
