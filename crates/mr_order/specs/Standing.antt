-- Where a query stands in a list in order. A query says of each item how it stands to it: greater, equal or less.
use Rattle.std.specs.Prelude.{◌≡◌, ℕ, ◌+◌, ◌<◌, ◌≤◌, Bool, List, Result, Ok, Err, length, IsTrue, MatchResult, slice_index_or}
use Rattle.std.specs.declared.cmp.Ordering.{Ordering}
use Rattle.std.specs.declared.cmp.Ordering.TheVariants.{Less, Equal, Greater}
use Rattle.std.specs.Ordering.{is_le, is_ge}
use Rattle.std.specs.List.{AllWithin}
use Rattle.std.specs.Result.{is_ok}

module _ {A : Type 0} (compare : A → Ordering) (items : List A) where
  -- in front of an item that isn't greater than the query it is greater than each, behind one that isn't less it is less than each
  pub record IsDivided : Type 0 where
    pub front : (i j : ℕ) (d : A) → i < j → j < length items → IsTrue (is_ge (compare (slice_index_or items j d))) → compare (slice_index_or items i d) ≡ Greater
    pub back : (i j : ℕ) (d : A) → i < j → j < length items → IsTrue (is_le (compare (slice_index_or items i d))) → compare (slice_index_or items j d) ≡ Less

  -- the query is equal to the item at a place, greater than those in front and less than those behind
  pub record StandsAt (at : ℕ) : Type 0 where
    pub within : at < length items
    pub front : AllWithin (λ y. compare y ≡ Greater) items 0 at
    pub here : (d : A) → compare (slice_index_or items at d) ≡ Equal
    pub back : AllWithin (λ y. compare y ≡ Less) items (at + 1) (length items)

  -- the query is greater than the items in front of a place, and less than the others
  pub record StandsBefore (at : ℕ) : Type 0 where
    pub within : at ≤ length items
    pub front : AllWithin (λ y. compare y ≡ Greater) items 0 at
    pub back : AllWithin (λ y. compare y ≡ Less) items at (length items)

  -- the query is greater than the items in front of one place, and less than those from another on
  pub record IsBetween (low high : ℕ) : Type 0 where
    pub ordered : low ≤ high
    pub within : high ≤ length items
    pub front : AllWithin (λ y. compare y ≡ Greater) items 0 low
    pub back : AllWithin (λ y. compare y ≡ Less) items high (length items)

  -- what a search answers: the place of the item to which the query is equal, or the place where it would stand
  abbrev pub IsPlaceOf : Result ℕ ℕ → Type 0
  IsPlaceOf found = MatchResult found StandsAt StandsBefore

  -- what a look-up answers: whether the query is equal to an item, as a search would find
  pub record Tells (found : Bool) : Type 0 where
    pub place : Result ℕ ℕ
    pub is : IsPlaceOf place
    pub told : is_ok place ≡ found

-- a place in a part, counted from the front of all items
abbrev pub shifted : ℕ → Result ℕ ℕ → Result ℕ ℕ
shifted start (Ok at) = Ok (start + at)
shifted start (Err at) = Err (start + at)
