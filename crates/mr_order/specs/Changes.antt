-- What comes of looking an item up, putting one in, or taking one out, where a query stands.
use Rattle.std.specs.Prelude.{◌≡◌, ℕ, Bool, true, false, List, Option, Some, None, Result, Ok, Err, MatchOption, set, slice_index_or}
use Rattle.std.specs.List.{insert, remove}
use Rattle.std.specs.declared.cmp.Ordering.{Ordering}
use Rattle.mr_order.specs.Standing.{IsPlaceOf}

module _ {A : Type 0} where
  -- the items once one is put at the place that was found: an equal one that is there is replaced, or it stays
  abbrev pub put_at : Result ℕ ℕ → Bool → A → List A → List A
  put_at (Ok at) true item items = set items at item
  put_at (Ok at) false item items = items
  put_at (Err at) replaces item items = insert items at item

  -- the items without the one at the place that was found
  abbrev pub left_at : Result ℕ ℕ → List A → List A
  left_at (Ok at) items = remove items at
  left_at (Err at) items = items

  -- it is the item at the place that was found, or none where none was
  abbrev pub IsItemAt : Result ℕ ℕ → List A → Option A → Type 0
  IsItemAt (Ok at) items taken = MatchOption taken ⊥ (λ item. item ≡ slice_index_or items at item)
  IsItemAt (Err at) items taken = MatchOption taken (Unit {0}) (λ item. ⊥)

  -- of two equal items it is the other one: the one that was replaced, or the one that was to be put; none where there was none
  abbrev pub IsOther : Result ℕ ℕ → Bool → A → List A → Option A → Type 0
  IsOther (Ok at) true item items other = IsItemAt (Ok at) items other
  IsOther (Ok at) false item items other = other ≡ Some item
  IsOther (Err at) replaces item items other = other ≡ None

  module _ (compare : A → Ordering) (items : List A) where
    -- an item is put where the query stands; where an equal one is there, it replaces that one or isn't put
    pub record IsPut (item : A) (replaces : Bool) (news : List A) (other : Option A) : Type 0 where
      pub place : Result ℕ ℕ
      pub is : IsPlaceOf compare items place
      pub answered : IsOther place replaces item items other
      pub put : news ≡ put_at place replaces item items

    -- the item to which the query is equal is found, if there is one
    pub record IsFound (found : Option A) : Type 0 where
      pub place : Result ℕ ℕ
      pub is : IsPlaceOf compare items place
      pub item : IsItemAt place items found

    -- the item to which the query is equal is taken, if there is one
    pub record IsTaken (taken : Option A) (rest : List A) : Type 0 where
      pub place : Result ℕ ℕ
      pub is : IsPlaceOf compare items place
      pub item : IsItemAt place items taken
      pub left : rest ≡ left_at place items
