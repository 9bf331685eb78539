-- Two lists of entries in strict order whose keys differ, merged: what is in them, how many they are, and their order.
use Rattle.std.proofs.Common.{◌≡◌, ℕ, suc, ◌+◌, ◌<◌, ◌≤◌, List, [], ◌∷◌, length, Option, Some, None, Bool, true, false, ◌&&◌, cond, refl, sym, ◌∙◌, ap, subst, arith}
use Rattle.std.specs.Prelude.{T, is_some}
use Rattle.std.specs.Ordering.{eq_by_cmp, is_lt, ordering_reverse}
use Rattle.std.specs.declared.cmp.Ordering.{Ordering}
use Rattle.std.specs.declared.cmp.Ordering.TheVariants.{Less, Equal, Greater}
use Rattle.std.specs.Cmp.{eq_by_cmp_equiv}
use Rattle.std.specs.FinMap.{find, is_sorted}
use Rattle.std.specs.FinMap.Entries.{below_all}
use Rattle.std.proofs.lemmas.Cmp.{nat_list_cmp_total}
use Rattle.std.proofs.lemmas.Map.Lookups.{exact_bytes}
use Rattle.mr_map.specs.Bytes.{bytes_cmp}
use Rattle.mr_map.specs.Merged.{merged, merged_from, Entries}
use Rattle.mr_map.specs.Short.{room}
use Rattle.mr_map.proofs.Domains.{equal}
use Rattle.mr_map.proofs.Conditions.{both_hold}

-- P holds of each key
abbrev pub Each : {X : Type 0} → (List ℕ → Type 0) → Entries X → Type 0
Each P [] = Unit {0}
Each P (e ∷ es) = P e.0 × Each P es

-- x comes before each key
abbrev pub Precedes : {X : Type 0} → List ℕ → Entries X → Type 0
Precedes x es = Each (λ k. bytes_cmp x k ≡ Less) es

abbrev pub Rise : {X : Type 0} → Entries X → Type 0
Rise [] = Unit {0}
Rise (e ∷ es) = Precedes e.0 es × Rise es

abbrev pub Short : List ℕ → Type 0
Short k = length k ≤ room

abbrev pub Long : List ℕ → Type 0
Long k = room < length k

pub apart : (x y : List ℕ) → Short x → Long y → x ≡ y → ⊥
apart x y p q e = let f : length x ≡ length y = ap length e in absurd (omega arith)

pub tied : (q k : List ℕ) → eq_by_cmp bytes_cmp q k ≡ true → q ≡ k
tied q k h = exact_bytes q k (equal _ h)

-- ---- what is in them
abbrev pub or_else : {X : Type 0} → Option X → Option X → Option X
or_else None o = o
or_else (Some x) o = Some x

pub first_put : {X : Type 0} (b : Bool) (x : X) (a o : Option X) → cond b (Some x) (or_else a o) ≡ or_else (cond b (Some x) a) o
first_put true x a o = refl
first_put false x a o = refl

pub second_put : {X : Type 0} (b : Bool) (x : X) (a o : Option X) → (b ≡ true → a ≡ None) → cond b (Some x) (or_else a o) ≡ or_else a (cond b (Some x) o)
second_put true x a o f = sym (ap (λ r. or_else r (Some x)) (f refl))
second_put false x a o f = refl

-- a long key isn't among short ones
none_short : {X : Type 0} (q : List ℕ) (es : Entries X) → Each Short es → Long q → find bytes_cmp q es ≡ None
none_short q [] s l = refl
none_short {X} q (e ∷ es) s l = elim (eq_by_cmp bytes_cmp q e.0) as (λ b. eq_by_cmp bytes_cmp q e.0 ≡ b → cond b (Some e.1) (find bytes_cmp q es) ≡ None) [
  | true ↦ λ h. absurd (apart e.0 q s.0 l (sym (tied q e.0 h)))
  | false ↦ λ h. none_short q es s.1 l
] refl

find_from : {X : Type 0} (q : List ℕ) (e : List ℕ × X) (es fs : Entries X) → Each Short (e ∷ es) → ((gs : Entries X) → Each Long gs → find bytes_cmp q (merged es gs) ≡ or_else (find bytes_cmp q es) (find bytes_cmp q gs)) → Each Long fs → find bytes_cmp q (merged_from e (merged es) fs) ≡ or_else (find bytes_cmp q (e ∷ es)) (find bytes_cmp q fs)
find_from q e es [] s behind l = ap (cond (eq_by_cmp bytes_cmp q e.0) (Some e.1)) (behind [] tt) ∙ first_put (eq_by_cmp bytes_cmp q e.0) e.1 (find bytes_cmp q es) None
find_from q e es (f ∷ fs) s behind l = elim (is_lt (bytes_cmp e.0 f.0)) as (λ b. find bytes_cmp q (cond b (e ∷ merged es (f ∷ fs)) (f ∷ merged_from e (merged es) fs)) ≡ or_else (find bytes_cmp q (e ∷ es)) (find bytes_cmp q (f ∷ fs))) [
  | true ↦ ap (cond (eq_by_cmp bytes_cmp q e.0) (Some e.1)) (behind (f ∷ fs) l) ∙ first_put (eq_by_cmp bytes_cmp q e.0) e.1 (find bytes_cmp q es) (find bytes_cmp q (f ∷ fs))
  | false ↦ ap (cond (eq_by_cmp bytes_cmp q f.0) (Some f.1)) (find_from q e es fs s behind l.1)
      ∙ second_put (eq_by_cmp bytes_cmp q f.0) f.1 (find bytes_cmp q (e ∷ es)) (find bytes_cmp q fs) (λ h. none_short q (e ∷ es) s (subst Long (sym (tied q f.0 h)) l.0))
]

pub find-merged : {X : Type 0} (q : List ℕ) (es fs : Entries X) → Each Short es → Each Long fs → find bytes_cmp q (merged es fs) ≡ or_else (find bytes_cmp q es) (find bytes_cmp q fs)
find-merged q [] fs s l = refl
find-merged q (e ∷ es) fs s l = find_from q e es fs s (λ gs h. find-merged q es gs s.1 h) l

length_from : {X : Type 0} (e : List ℕ × X) (es fs : Entries X) → ((gs : Entries X) → length (merged es gs) ≡ length es + length gs) → length (merged_from e (merged es) fs) ≡ suc (length es + length fs)
length_from e es [] behind = ap suc (behind [])
length_from e es (f ∷ fs) behind = elim (is_lt (bytes_cmp e.0 f.0)) as (λ b. length (cond b (e ∷ merged es (f ∷ fs)) (f ∷ merged_from e (merged es) fs)) ≡ suc (length es + suc (length fs))) [
  | true ↦ ap suc (behind (f ∷ fs))
  | false ↦ let h = length_from e es fs behind in omega (arith, h)
]

pub length-merged : {X : Type 0} (es fs : Entries X) → length (merged es fs) ≡ length es + length fs
length-merged [] fs = let h : length fs ≡ 0 + length fs = omega arith in h
length-merged (e ∷ es) fs = let h = length_from e es fs (length-merged es) in omega (arith, h)

-- ---- their order
each_from : {X : Type 0} (P : List ℕ → Type 0) (e : List ℕ × X) (es fs : Entries X) → P e.0 → ((gs : Entries X) → Each P gs → Each P (merged es gs)) → Each P fs → Each P (merged_from e (merged es) fs)
each_from P e es [] p behind h = (p, behind [] tt)
each_from P e es (f ∷ fs) p behind h = elim (is_lt (bytes_cmp e.0 f.0)) as (λ b. Each P (cond b (e ∷ merged es (f ∷ fs)) (f ∷ merged_from e (merged es) fs))) [
  | true ↦ (p, behind (f ∷ fs) h)
  | false ↦ (h.0, each_from P e es fs p behind h.1)
]

each-merged : {X : Type 0} (P : List ℕ → Type 0) (es fs : Entries X) → Each P es → Each P fs → Each P (merged es fs)
each-merged P [] fs f g = g
each-merged P (e ∷ es) fs f g = each_from P e es fs f.0 (λ gs. each-merged P es gs f.1) g

each : {X : Type 0} {P Q : List ℕ → Type 0} (es : Entries X) → ((k : List ℕ) → P k → Q k) → Each P es → Each Q es
each [] f h = tt
each (e ∷ es) f h = (f e.0 h.0, each es f h.1)

-- a key before the first comes before all
precedes : {X : Type 0} (x : List ℕ) (e : List ℕ × X) (es : Entries X) → bytes_cmp x e.0 ≡ Less → Precedes e.0 es → Precedes x (e ∷ es)
precedes x e es l h = (l, each es (λ z g. nat_list_cmp_total.trans x e.0 z l g) h)

less : (r : Ordering) → is_lt r ≡ true → r ≡ Less
less Less p = refl
less Equal p = cc
less Greater p = cc

-- one of two that differ comes before the other
after : (x y : List ℕ) → is_lt (bytes_cmp x y) ≡ false → (x ≡ y → ⊥) → bytes_cmp y x ≡ Less
after x y l n = elim (bytes_cmp x y) as (λ r. bytes_cmp x y ≡ r → is_lt r ≡ false → bytes_cmp y x ≡ Less) [
  | Less ↦ λ e p. cc
  | Equal ↦ λ e p. absurd (n (exact_bytes x y e))
  | Greater ↦ λ e p. nat_list_cmp_total.antisymm y x ∙ ap ordering_reverse e
] refl l

rise_from : {X : Type 0} (e : List ℕ × X) (es fs : Entries X) → Precedes e.0 es → Short e.0 → ((gs : Entries X) → Rise gs → Each Long gs → Rise (merged es gs)) → Rise fs → Each Long fs → Rise (merged_from e (merged es) fs)
rise_from e es [] p s behind h m = (each-merged (λ k. bytes_cmp e.0 k ≡ Less) es [] p tt, behind [] tt tt)
rise_from e es (f ∷ fs) p s behind h m = elim (is_lt (bytes_cmp e.0 f.0)) as (λ b. is_lt (bytes_cmp e.0 f.0) ≡ b → Rise (cond b (e ∷ merged es (f ∷ fs)) (f ∷ merged_from e (merged es) fs))) [
  | true ↦ λ l. (each-merged (λ k. bytes_cmp e.0 k ≡ Less) es (f ∷ fs) p (precedes e.0 f fs (less _ l) h.0), behind (f ∷ fs) h m)
  | false ↦ λ l. (each-merged (λ k. bytes_cmp f.0 k ≡ Less) (e ∷ es) fs (precedes f.0 e es (after e.0 f.0 l (apart e.0 f.0 s m.0)) p) h.0, rise_from e es fs p s behind h.1 m.1)
] refl

pub rise-merged : {X : Type 0} (es fs : Entries X) → Rise es → Rise fs → Each Short es → Each Long fs → Rise (merged es fs)
rise-merged [] fs f g s l = g
rise-merged (e ∷ es) fs f g s l = rise_from e es fs f.0 s.0 (λ gs h. rise-merged es gs f.1 h s.1) g l

-- ---- the same order as a map has it

first : (a b : Bool) → T (a && b) → T a
first true b p = tt
first false b p = p

second : (a b : Bool) → T (a && b) → T b
second true b p = p
second false b p = absurd p

is_true : (b : Bool) → T b → b ≡ true
is_true true p = refl
is_true false p = absurd p

is_below : {X : Type 0} (x : List ℕ) (es : Entries X) → Precedes x es → T (below_all bytes_cmp x es)
is_below x [] h = tt
is_below x (e ∷ es) h = both_hold _ _ (subst (λ r. T (is_lt r)) (sym h.0) tt) (is_below x es h.1)

pub sorted_of : {X : Type 0} (es : Entries X) → Rise es → T (is_sorted bytes_cmp es)
sorted_of [] h = tt
sorted_of (e ∷ es) h = both_hold _ _ (is_below e.0 es h.0) (sorted_of es h.1)

precedes_of : {X : Type 0} (x : List ℕ) (es : Entries X) → T (below_all bytes_cmp x es) → Precedes x es
precedes_of x [] h = tt
precedes_of x (e ∷ es) h = (less _ (is_true _ (first _ _ h)), precedes_of x es (second _ _ h))

pub rise_of : {X : Type 0} (es : Entries X) → T (is_sorted bytes_cmp es) → Rise es
rise_of [] h = tt
rise_of (e ∷ es) h = (precedes_of e.0 es (first _ _ h), rise_of es (second _ _ h))

more : {X : Type 0} (b : Bool) (x : X) (o : Option X) → is_some o ≡ true → is_some (cond b (Some x) o) ≡ true
more true x o h = refl
more false x o h = h

-- what holds of each key that is found
pub each_found : {X : Type 0} (P : List ℕ → Type 0) (es : Entries X) → ((q : List ℕ) → is_some (find bytes_cmp q es) ≡ true → P q) → Each P es
each_found P [] f = tt
each_found P (e ∷ es) f = (
  f e.0 (ap (λ b. is_some (cond b (Some e.1) (find bytes_cmp e.0 es))) ((eq_by_cmp_equiv nat_list_cmp_total).refl e.0)),
  each_found P es (λ q h. f q (more (eq_by_cmp bytes_cmp q e.0) e.1 (find bytes_cmp q es) h)),
)
