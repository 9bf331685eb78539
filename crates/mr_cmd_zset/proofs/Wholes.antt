-- The range that is all of a sorted set: its members in byte order are the set's.
use Rattle.std.proofs.Common.{ℕ, ℤ, ◌≡◌, ◌-◌, ◌≤◌, List, [], ◌∷◌, length, take, drop, min, reverse, Bool, true, false, refl, sym, ◌∙◌, ap, arith}
use Rattle.std.proofs.lemmas.Grind.{reverse_onto}
use Rattle.std.specs.Prelude.{◌||◌, slice_range, if◌then◌else◌}
use Rattle.std.specs.Ordering.{is_lt}
use Rattle.std.specs.FinMap.{keys, len, entries, contains_key, len-entries}
use Rattle.std.proofs.lemmas.List.{length-map, length-take, map-append, take_all}
use Rattle.mr_map.specs.Bytes.{Bytes}
use Rattle.mr_map.proofs.Domains.{same_keys}
use Rattle.mr_map.proofs.Conditions.{or_swap}
use Rattle.mr_zset.specs.Order.{placed, in_order}
use Rattle.mr_zset.specs.Pairs.{pair_cmp, pairs_of}
use Rattle.mr_zset_options.specs.declared.choices.Order.{Order}
use Rattle.mr_zset_options.specs.declared.choices.Order.TheVariants as order
use Rattle.mr_cmd_shared.specs.Taken.{is_key, has}
use Rattle.mr_cmd_zset.specs.Scores.{Scores, pairs_in}
use Rattle.mr_cmd_zset.specs.Removing.{members_of, as_set}
use Rattle.mr_cmd_zset.proofs.Firsts.{len_pairs, len_pairs_in}
use Rattle.mr_cmd_zset.proofs.Maps.{has_keys}
use Rattle.mr_cmd_zset.proofs.Removals.{contains_as_set, has_one, len_keys}

has_placed : (p : Bytes × ℤ) (ps : List (Bytes × ℤ)) (q : Bytes) → has (members_of (placed pair_cmp p ps)) q ≡ (is_key q p.0 || has (members_of ps) q)
has_placed p [] q = refl
has_placed p (r ∷ ps) q = elim (is_lt (pair_cmp r p)) as (λ b. has (members_of (if b then r ∷ placed pair_cmp p ps else p ∷ r ∷ ps)) q ≡ (is_key q p.0 || (is_key q r.0 || has (members_of ps) q))) [
  | true ↦ ap (λ b. is_key q r.0 || b) (has_placed p ps q) ∙ or_swap (is_key q r.0) (is_key q p.0) (has (members_of ps) q)
  | false ↦ refl
]

has_in_order : (ps : List (Bytes × ℤ)) (q : Bytes) → has (members_of (in_order pair_cmp ps)) q ≡ has (members_of ps) q
has_in_order [] q = refl
has_in_order (p ∷ ps) q = has_placed p (in_order pair_cmp ps) q ∙ ap (λ b. is_key q p.0 || b) (has_in_order ps q)

has_turned : (ps : List (Bytes × ℤ)) (q : Bytes) → has (members_of (reverse ps)) q ≡ has (members_of ps) q
has_turned [] q = refl
has_turned (p ∷ ps) q =
    ap (λ (rs : List (Bytes × ℤ)). has (members_of rs) q) (reverse_onto ps p [])
    ∙ ap (λ (ks : List Bytes). has ks q) (map-append (λ (r : Bytes × ℤ). r.0) (reverse ps) (p ∷ []))
    ∙ has_one (members_of (reverse ps)) p.0 q
    ∙ or_turned (has (members_of (reverse ps)) q) (is_key q p.0)
    ∙ ap (λ b. is_key q p.0 || b) (has_turned ps q)
  where
    or_turned : (a b : Bool) → (a || b) ≡ (b || a)
    or_turned true true = refl
    or_turned true false = refl
    or_turned false true = refl
    or_turned false false = refl

module _ (s : Scores) where
  named : (q : Bytes) → has (members_of (pairs_of s)) q ≡ contains_key s q
  named q = has_in_order (entries s) q ∙ has_keys s q

  named_in : (o : Order) (q : Bytes) → has (members_of (pairs_in o s)) q ≡ contains_key s q
  named_in order.Ascending q = named q
  named_in order.Descending q = has_turned (pairs_of s) q ∙ named q

  -- the members of all pairs, in whichever order these are
  pub all_keys_in : (o : Order) → keys (as_set (members_of (pairs_in o s))) ≡ keys s
  all_keys_in o = same_keys (as_set (members_of (pairs_in o s))) s (λ q. contains_as_set (members_of (pairs_in o s)) q ∙ named_in o q)

  -- the first pairs, as many as there are, are all
  pub all_first : (o : Order) (n : ℕ) → length (take n (pairs_in o s)) ≡ len s → take n (pairs_in o s) ≡ pairs_in o s
  all_first o n all = take_all n (pairs_in o s) (let long : len s ≡ length (pairs_in o s) = len_pairs_in o s in let cut_off : length (take n (pairs_in o s)) ≡ min n (length (pairs_in o s)) = length-take n (pairs_in o s) in omega (arith, all, long, cut_off))

  pub all_keys : keys (as_set (members_of (pairs_of s))) ≡ keys s
  all_keys = all_keys_in order.Ascending

  pub all_counted : len s ≡ len (as_set (members_of (pairs_of s)))
  all_counted = len-entries s ∙ sym (length-map (entries s) (λ e. e.0)) ∙ ap length (sym all_keys) ∙ sym (len_keys (as_set (members_of (pairs_of s))))

  -- as many places as there are pairs are those of all
  pub all_places : (first past : ℕ) → first ≤ past → past ≤ len s → past - first ≡ len s → slice_range (pairs_of s) first past ≡ pairs_of s
  all_places first past ordered within all =
      let none : first ≡ 0 = omega (arith, ordered, within, all) in
      ap (λ (n : ℕ). take (past - first) (drop n (pairs_of s))) none
      ∙ take_all (past - first) (pairs_of s) (let long : len s ≡ length (pairs_of s) = len_pairs s in omega (arith, all, long))

  -- .. so that their members are all members
  pub whole_keys : (o : Order) (n : ℕ) (qs : List (Bytes × ℤ)) → qs ≡ take n (pairs_in o s) → length qs ≡ len s → keys (as_set (members_of qs)) ≡ keys s
  whole_keys o n qs is all = ap (λ (xs : List (Bytes × ℤ)). keys (as_set (members_of xs))) (is ∙ all_first o n (ap length (sym is) ∙ all)) ∙ all_keys_in o
