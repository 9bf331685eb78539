-- What a file that tells its bytes does. One that doesn't tell them tells `None`, and nothing is said of it.
use Rattle.std.specs.Prelude.{◌≡◌, ◌⊎◌, ℕ, ◌-◌, ◌<◌, ◌≤◌, ◌^◌, List, ◌++◌, length, take, drop, min, Option, Some, IfSome}

-- a count of failures rose, or is the greatest that there is
abbrev pub Rose : ℕ → ℕ → Type 0
Rose before after = (before < after) ⊎ (after ≡ 2 ^ 64 - 1)

-- n bytes from a place on were read into the front of a buffer
abbrev pub Reads : Option (List ℕ) → ℕ → List ℕ → List ℕ → ℕ → Type 0
Reads bytes at before after n = IfSome bytes (λ xs. after ≡ take n (drop at xs) ++ drop n before)

-- some bytes were read, where there are some and room for them
abbrev pub ReadsSome : Option (List ℕ) → ℕ → List ℕ → ℕ → Type 0
ReadsSome bytes at buffer n = IfSome bytes (λ xs. at < length xs → 0 < length buffer → 0 < n)

-- the first n bytes of the piece were appended
abbrev pub Appends : Option (List ℕ) → Option (List ℕ) → List ℕ → ℕ → Type 0
Appends before after piece n = IfSome before (λ xs. after ≡ Some (xs ++ take n piece))

-- a beginning of the piece was appended, which may be empty or all of it
abbrev pub AppendsSome : Option (List ℕ) → Option (List ℕ) → List ℕ → Type 0
AppendsSome before after piece = IfSome before (λ xs. (n : ℕ) × ((n ≤ length piece) × (after ≡ Some (xs ++ take n piece))))

-- the first n bytes are left
abbrev pub Keeps : Option (List ℕ) → Option (List ℕ) → ℕ → Type 0
Keeps before after n = IfSome before (λ xs. after ≡ Some (take n xs))

-- these bytes stand in the place of all
abbrev pub Replaces : Option (List ℕ) → Option (List ℕ) → List ℕ → Type 0
Replaces before after whole = IfSome before (λ xs. after ≡ Some whole)

-- the old bytes, all of them, or the new ones
abbrev pub IsOldOrNew : Option (List ℕ) → Option (List ℕ) → List ℕ → Type 0
IsOldOrNew before after whole = IfSome before (λ xs. (after ≡ Some xs) ⊎ (after ≡ Some whole))

-- the last sync covered all bytes
abbrev pub IsSynced : Option (List ℕ) → Option ℕ → Type 0
IsSynced bytes synced = IfSome bytes (λ xs. synced ≡ Some (length xs))

-- of the bytes that the last sync covered, those among the first n
abbrev pub StaysCovered : Option ℕ → Option ℕ → ℕ → Type 0
StaysCovered before after n = IfSome before (λ c. after ≡ Some (min c n))

-- what stands from a place on was set aside, behind what was set aside before
abbrev pub SetsAside : Option (List ℕ) → Option (List ℕ) → Option (List ℕ) → ℕ → Type 0
SetsAside bytes before after from = IfSome bytes (λ xs. IfSome before (λ ys. after ≡ Some (ys ++ drop from xs)))

-- nothing was set aside, or all from some place on
abbrev pub SetsAsideOrNot : Option (List ℕ) → Option (List ℕ) → Option (List ℕ) → Type 0
SetsAsideOrNot bytes before after = (after ≡ before) ⊎ ((from : ℕ) × SetsAside bytes before after from)
