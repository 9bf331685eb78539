-- What is put into a part or taken from it is put into all or taken from all.
use Rattle.std.proofs.Common.{◌≡◌, ℕ, ◌+◌, ◌-◌, ◌<◌, ◌≤◌, List, Bool, true, false, Option, Some, None, length, get_or, take, set, refl, sym, subst, ap, ◌∙◌, arith}
use Rattle.std.specs.Prelude.{IfOk, OnErr, Result, Ok, Err, is_some}
use Rattle.std.specs.Result.{is_ok}
use Rattle.std.specs.declared.cmp.Ordering.{Ordering}
use Rattle.std.specs.BTreeSet.{insert_key}
use Rattle.std.specs.Cmp.{IsTotalOrder}
use Rattle.std.specs.List.{All, flat_map, insert, remove}
use Rattle.std.specs.List.Sorted.{IsStrictlySortedBy}
use Rattle.std.proofs.lemmas.List.Concat.{get_or-flat_map}
use Rattle.std.proofs.lemmas.List.Edits.{length-remove}
use Rattle.mr_order.specs.Changes.{IsFound, IsItemAt, IsOther, IsPut, IsTaken, left_at, put_at}
use Rattle.mr_order.specs.Parts.{AreCounted, IsSound}
use Rattle.mr_order.specs.Standing.{IsBetween, IsPlaceOf, Tells, shifted}
use Rattle.mr_order.proofs.Flat.{flat_insert, flat_remove, flat_replace, flat_same, flat_take}
use Rattle.mr_order.proofs.Kept.{insert_absent, insert_present, sorted_insert, sorted_remove, sorted_set}
use Rattle.mr_order.proofs.Levels.{counted_remove, counted_same}
use Rattle.mr_order.proofs.Locating.{in_named}
use Rattle.mr_order.proofs.Narrow.{place_in}

pub if_ok_map : {T E : Type 0} {P Q : T → Type 0} (r : Result T E) → ((x : T) → P x → Q x) → IfOk r P → IfOk r Q
if_ok_map (Ok x) f p = f x p
if_ok_map (Err y) f p = tt

module _ {X A : Type 0} (compare : A → Ordering) (f : X → List A) (xs : List X) (i : ℕ) (d v : X) (within : i < length xs) (is : d ≡ get_or xs i d) where
  put_news : (y : A) (b : Bool) (r : Result ℕ ℕ) → IsPlaceOf compare (f d) r → f v ≡ put_at r b y (f d) → flat_map f (set xs i v) ≡ put_at (shifted (length (flat_map f (take i xs))) r) b y (flat_map f xs)
  put_news y true (Ok at) stands e =
      flat_replace f xs i at _ v d y within refl (subst (λ p. at < length (f p)) is stands.within) (e ∙ ap (λ p. set (f p) at y) is)
  put_news y false (Ok at) stands e = flat_same f xs i v d within (e ∙ ap f is)
  put_news y b (Err at) stands e =
      flat_insert f xs i at _ v d y within refl (subst (λ p. at ≤ length (f p)) is stands.within) (e ∙ ap (λ p. insert (f p) at y) is)

  taken_rest : (r : Result ℕ ℕ) → IsPlaceOf compare (f d) r → f v ≡ left_at r (f d) → flat_map f (set xs i v) ≡ left_at (shifted (length (flat_map f (take i xs))) r) (flat_map f xs)
  taken_rest (Ok at) stands e =
      flat_remove f xs i at _ v d within refl (subst (λ p. at < length (f p)) is stands.within) (e ∙ ap (λ p. remove (f p) at) is)
  taken_rest (Err at) stands e = flat_same f xs i v d within (e ∙ ap f is)

  taken_item : (r : Result ℕ ℕ) (t : Option A) → IsPlaceOf compare (f d) r → IsItemAt r (f d) t → IsItemAt (shifted (length (flat_map f (take i xs))) r) (flat_map f xs) t
  taken_item (Ok at) None stands h = absurd h
  taken_item (Ok at) (Some x) stands h =
      h ∙ ap (λ p. get_or (f p) at x) is ∙ sym (get_or-flat_map f xs i at d x within (subst (λ p. at < length (f p)) is stands.within))
  taken_item (Err at) t stands h = h

  other_item : (y : A) (b : Bool) (r : Result ℕ ℕ) (t : Option A) → IsPlaceOf compare (f d) r → IsOther r b y (f d) t → IsOther (shifted (length (flat_map f (take i xs))) r) b y (flat_map f xs) t
  other_item y true (Ok at) t stands h = taken_item (Ok at) t stands h
  other_item y false (Ok at) t stands h = h
  other_item y b (Err at) t stands h = h

  module _ (between : IsBetween compare (flat_map f xs) (length (flat_map f (take i xs))) (length (flat_map f (take (i + 1) xs)))) where
    place_of_all : (r : Result ℕ ℕ) → IsPlaceOf compare (f d) r → IsPlaceOf compare (flat_map f xs) (shifted (length (flat_map f (take i xs))) r)
    place_of_all r stands =
        let start : ℕ = length (flat_map f (take i xs)) in
        let ends : length (flat_map f (take (i + 1) xs)) ≤ start + length (f d) = let more = flat_take f xs i d within in let same = ap (λ p. length (f p)) is in omega arith in
        place_in compare (flat_map f xs) (f d) start (in_named f xs i d within is) start _ between (omega arith) ends r stands

    pub put_in : (y : A) (b : Bool) (t : Option A) → IsPut compare (f d) y b (f v) t → IsPut compare (flat_map f xs) y b (flat_map f (set xs i v)) t
    put_in y b t p = record {
      place = shifted (length (flat_map f (take i xs))) p.place;
      is = place_of_all p.place p.is;
      answered = other_item y b p.place t p.is p.answered;
      put = put_news y b p.place p.is p.put;
    }

    pub found_in : (t : Option A) → IsFound compare (f d) t → IsFound compare (flat_map f xs) t
    found_in t k = record {
      place = shifted (length (flat_map f (take i xs))) k.place;
      is = place_of_all k.place k.is;
      item = taken_item k.place t k.is k.item;
    }

    pub taken_in : (t : Option A) → IsTaken compare (f d) t (f v) → IsTaken compare (flat_map f xs) t (flat_map f (set xs i v))
    taken_in t k = record {
      place = shifted (length (flat_map f (take i xs))) k.place;
      is = place_of_all k.place k.is;
      item = taken_item k.place t k.is k.item;
      left = taken_rest k.place k.is k.left;
    }

module _ {A : Type 0} (compare : A → Ordering) (items : List A) where
  -- something is left of more than one item
  pub taken_some : (t : Option A) (rest : List A) → IsTaken compare items t rest → 1 < length items → 0 < length rest
  taken_some t rest k some = by k.place k.is k.left where
    by : (r : Result ℕ ℕ) → IsPlaceOf compare items r → rest ≡ left_at r items → 0 < length rest
    by (Ok at) stands e = let long = length-remove items at stands.within in omega (arith, ap length e)
    by (Err at) stands e = omega (arith, ap length e)

  -- where nothing is taken, all are left
  pub taken_none : (rest : List A) → IsTaken compare items None rest → rest ≡ items
  taken_none rest k = by k.place k.item k.left where
    by : (r : Result ℕ ℕ) → IsItemAt r items None → rest ≡ left_at r items → rest ≡ items
    by (Ok at) h e = absurd h
    by (Err at) h e = e

  -- nothing is found where there is none
  pub found_nothing : length items ≡ 0 → IsFound compare items None
  found_nothing none = record {
    place = Err 0;
    is = record { within = omega arith; front = λ k d lo lt. absurd (omega arith); back = λ k d lo lt. absurd (omega arith) };
    item = tt;
  }

  -- whether one is found says whether there is one
  pub found_tells : (t : Option A) → IsFound compare items t → Tells compare items (is_some t)
  found_tells t k = record { place = k.place; is = k.is; told = by k.place t k.item } where
    by : (r : Result ℕ ℕ) (s : Option A) → IsItemAt r items s → is_ok r ≡ is_some s
    by (Ok at) None h = absurd h
    by (Ok at) (Some x) h = refl
    by (Err at) None h = refl
    by (Err at) (Some x) h = absurd h

  -- nothing is taken where there is none
  pub taken_nothing : length items ≡ 0 → IsTaken compare items None items
  taken_nothing none = record {
    place = Err 0;
    is = record { within = omega arith; front = λ k d lo lt. absurd (omega arith); back = λ k d lo lt. absurd (omega arith) };
    item = tt;
    left = refl;
  }

module _ {P A : Type 0} (compare : A → Ordering) (items : P → List A) (is_kept : P → Type 0) (parts news : List P) (len : ℕ) (c : AreCounted items is_kept parts len) (sound : All (IsSound items is_kept) news) where
  pub counted_taken : (x : A) → IsTaken compare (flat_map items parts) (Some x) (flat_map items news) → AreCounted items is_kept news (len - 1)
  counted_taken x k = by k.place k.is k.item k.left where
    by : (r : Result ℕ ℕ) → IsPlaceOf compare (flat_map items parts) r → IsItemAt r (flat_map items parts) (Some x) → flat_map items news ≡ left_at r (flat_map items parts) → AreCounted items is_kept news (len - 1)
    by (Ok at) stands h e = counted_remove items is_kept parts news len c sound at e stands.within
    by (Err at) stands h e = absurd h

  pub counted_left : IsTaken compare (flat_map items parts) None (flat_map items news) → AreCounted items is_kept news len
  counted_left k = counted_same items is_kept parts news len c sound (taken_none compare (flat_map items parts) (flat_map items news) k)

  -- there is an item where one is taken
  pub some_taken : (x : A) → IsTaken compare (flat_map items parts) (Some x) (flat_map items news) → 0 < len
  some_taken x k = by k.place k.is k.item where
    by : (r : Result ℕ ℕ) → IsPlaceOf compare (flat_map items parts) r → IsItemAt r (flat_map items parts) (Some x) → 0 < len
    by (Ok at) stands h = let within = stands.within in omega (arith, c.counted)
    by (Err at) stands h = absurd h

-- what is put in order, and what is left in order
module _ {K : Type 0} (R : K → K → Ordering) (x : K) (xs ys : List K) where
  module _ (t : Option K) (p : IsPut (R x) xs x false ys t) where
    pub put_key : ys ≡ insert_key R xs x
    put_key = by p.place p.is p.put where
      by : (r : Result ℕ ℕ) → IsPlaceOf (R x) xs r → ys ≡ put_at r false x xs → ys ≡ insert_key R xs x
      by (Ok at) stands e = e ∙ sym (insert_present R x xs at stands)
      by (Err at) stands e = e ∙ sym (insert_absent R x xs at stands)

  module _ (total : IsTotalOrder R) (b : Bool) where
    pub put_sorted : (t : Option K) → IsPut (R x) xs x b ys t → IsStrictlySortedBy R xs → IsStrictlySortedBy R ys
    put_sorted t p sorted = by b p.place p.is p.put where
      by : (a : Bool) (r : Result ℕ ℕ) → IsPlaceOf (R x) xs r → ys ≡ put_at r a x xs → IsStrictlySortedBy R ys
      by true (Ok at) stands e = subst (IsStrictlySortedBy R) (sym e) (sorted_set R total x xs at sorted stands.within (stands.here x))
      by false (Ok at) stands e = subst (IsStrictlySortedBy R) (sym e) sorted
      by a (Err at) stands e = subst (IsStrictlySortedBy R) (sym e) (sorted_insert R total x xs at sorted stands)

    pub put_keeps : {E : Type 0} (r : Result (Option K) E) → IfOk r (λ t. IsPut (R x) xs x b ys t) → OnErr r (ys ≡ xs) → IsStrictlySortedBy R xs → IsStrictlySortedBy R ys
    put_keeps (Ok t) p same sorted = put_sorted t p sorted
    put_keeps (Err e) p same sorted = subst (IsStrictlySortedBy R) (sym same) sorted

pub taken_sorted : {K : Type 0} (R : K → K → Ordering) (total : IsTotalOrder R) (compare : K → Ordering) (xs ys : List K) (t : Option K) → IsTaken compare xs t ys → IsStrictlySortedBy R xs → IsStrictlySortedBy R ys
taken_sorted {K} R total compare xs ys t k sorted = by k.place t k.is k.item k.left where
  by : (r : Result ℕ ℕ) (u : Option K) → IsPlaceOf compare xs r → IsItemAt r xs u → ys ≡ left_at r xs → IsStrictlySortedBy R ys
  by (Ok at) None stands h e = absurd h
  by (Ok at) (Some x) stands h e = subst (IsStrictlySortedBy R) (sym e) (sorted_remove R total x xs at sorted stands.within)
  by (Err at) u stands h e = subst (IsStrictlySortedBy R) (sym e) sorted
