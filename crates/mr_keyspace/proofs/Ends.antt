-- The last item of a list.
use Rattle.std.proofs.Common.{◌≡◌, ◌<◌, ◌-◌, ℕ, zero, suc, List, [], ◌∷◌, ◌++◌, length, take, drop, true, Option, Some, None, refl, sym, ◌∙◌, ap, arith, length-append}
use Rattle.std.specs.Prelude.{ℤ, negsuc, ◌==◌, slice_get, MatchOption, pos}
use Rattle.std.specs.Option.{option_map}
use Rattle.std.proofs.lemmas.Bool.{le-leb, eqb-true}
use Rattle.mr_map.specs.Bytes.{Bytes}
use Rattle.mr_bytes.specs.declared.ends.End.{End}
use Rattle.mr_bytes.specs.declared.ends.End.TheVariants.{Left, Right}
use Rattle.mr_keyspace.specs.Collections.{popped, end_item, turned, may_take, place_beside}
use Rattle.mr_bytes.specs.declared.ends.Side.{Side}
use Rattle.mr_bytes.specs.declared.ends.Side.TheVariants.{Before, After}
use Rattle.mr_value.specs.Lists.{first_place, without}

record IsLast (xs : List Bytes) (i : ℕ) (x : Bytes) : Type 0 where
  get : slice_get xs i ≡ Some x
  alone : drop i xs ≡ x ∷ []
  joined : take i xs ++ x ∷ [] ≡ xs

last_at : (xs : List Bytes) (i : ℕ) → suc i ≡ length xs → (x : Bytes) × IsLast xs i x
last_at [] i h = absurd (omega (arith, h))
last_at (x ∷ []) zero h = (x, record { get = refl; alone = refl; joined = refl })
last_at (x ∷ []) (suc i) h = absurd (omega (arith, h))
last_at (x ∷ y ∷ ys) zero h = absurd (omega (arith, h))
last_at (x ∷ y ∷ ys) (suc i) h =
    let w = last_at (y ∷ ys) i (omega (arith, h)) in
    (w.0, record { get = w.1.get; alone = w.1.alone; joined = ap (λ (zs : List Bytes). x ∷ zs) w.1.joined })

last_of : (xs : List Bytes) → 0 < length xs → (x : Bytes) × IsLast xs (length xs - 1) x
last_of xs h = last_at xs (length xs - 1) (omega (arith, h))

-- put where it was taken
pub turned_same : (end : End) (xs : List Bytes) → 0 < length xs → turned end end xs ≡ Some xs
turned_same Left [] h = absurd (omega (arith, h))
turned_same Left (x ∷ xs) h = refl
turned_same Right xs h =
    let w = last_of xs h in
    ap (option_map (λ x. take (length xs - 1) xs ++ x ∷ [])) w.1.get ∙ ap Some w.1.joined

pub turned_right_left : (xs : List Bytes) → 0 < length xs → turned Right Left xs ≡ Some (drop (length xs - 1) xs ++ take (length xs - 1) xs)
turned_right_left xs h =
    let w = last_of xs h in
    ap (option_map (λ x. x ∷ take (length xs - 1) xs)) w.1.get ∙ ap (λ zs. Some (zs ++ take (length xs - 1) xs)) (sym w.1.alone)

take_joined : (ys : List Bytes) (x : Bytes) → take (length ys) (ys ++ x ∷ []) ≡ ys
take_joined [] x = refl
take_joined (y ∷ ys) x = ap (λ (zs : List Bytes). y ∷ zs) (take_joined ys x)

get_joined : (ys : List Bytes) (x : Bytes) → slice_get (ys ++ x ∷ []) (length ys) ≡ Some x
get_joined [] x = refl
get_joined (y ∷ ys) x = get_joined ys x

one_less : (ys : List Bytes) (x : Bytes) → length (ys ++ x ∷ []) - 1 ≡ length ys
one_less ys x = omega (arith, length-append ys (x ∷ []))

pub may_take_one : (n : ℕ) → 0 < n → may_take (pos 1) n ≡ true
may_take_one n h = le-leb 1 n (omega (arith, h))

-- what taking the item at the back left
pub popped_back : (old new : List Bytes) (r : Option Bytes) → MatchOption r ((old ≡ []) × (new ≡ [])) (λ item. old ≡ new ++ item ∷ [])
    → MatchOption r ((end_item Right old ≡ None) × (new ≡ old)) (λ item. (end_item Right old ≡ Some item) × (new ≡ popped Right 1 old) × (may_take (pos 1) (length old) ≡ true))
popped_back old new None h = (ap (end_item Right) h.0, h.1 ∙ sym h.0)
popped_back old new (Some x) h = (
  ap (end_item Right) h ∙ ap (slice_get (new ++ x ∷ [])) (one_less new x) ∙ get_joined new x,
  sym (ap (popped Right 1) h ∙ ap (λ n. take n (new ++ x ∷ [])) (one_less new x) ∙ take_joined new x),
  may_take_one (length old) (omega (arith, ap length h, length-append new (x ∷ []))),
)

-- a list without items
pub turned_none : (taken put : End) (xs : List Bytes) → (length xs == 0) ≡ true → turned taken put xs ≡ None
turned_none Left put [] h = refl
turned_none Right put [] h = refl
turned_none taken put (x ∷ xs) h = absurd (omega (arith, eqb-true (length (x ∷ xs)) 0 h))

pub no_end : (end : End) → end_item end [] ≡ None
no_end Left = refl
no_end Right = refl

pub no_place : (side : Side) (pivot : Bytes) → place_beside side pivot [] ≡ None
unfolding first_place
no_place Before pivot = refl
no_place After pivot = refl

pub without_none : (count : ℤ) (w : Bytes) → without count w [] ≡ []
without_none (pos zero) w = refl
without_none (pos (suc n)) w = refl
without_none (negsuc n) w = refl
